use Rattle.lj_tests_shared.proofs.boards.four_threads_see_no_number_rise.Given as goal

-- the run is named by the history of its table
abbrev pub ghosts-look_in_four : goal.ghosts-look_in_four
ghosts-look_in_four a b = record { history = b.history.history }
