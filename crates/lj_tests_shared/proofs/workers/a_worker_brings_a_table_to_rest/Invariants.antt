use Rattle.lj_tests_shared.proofs.workers.a_worker_brings_a_table_to_rest.Given as goal

-- the run is named by the history of its table
abbrev pub ghosts-work_to_rest : goal.ghosts-work_to_rest
ghosts-work_to_rest a b = record { history = b.history.history }
