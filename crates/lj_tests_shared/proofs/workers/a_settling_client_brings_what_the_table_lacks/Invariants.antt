use Rattle.lj_tests_shared.proofs.workers.a_settling_client_brings_what_the_table_lacks.Given as goal

-- the run is named by the history of its table
abbrev pub ghosts-settle_and_leave : goal.ghosts-settle_and_leave
ghosts-settle_and_leave a b = record { history = b.history.history }
