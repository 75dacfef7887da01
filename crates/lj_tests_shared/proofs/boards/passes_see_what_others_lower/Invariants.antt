use Rattle.lj_tests_shared.proofs.boards.passes_see_what_others_lower.Given as goal

-- the run is named by the history of its table
abbrev pub ghosts-look_and_lower : goal.ghosts-look_and_lower
ghosts-look_and_lower a b = record { history = b.history.history }
