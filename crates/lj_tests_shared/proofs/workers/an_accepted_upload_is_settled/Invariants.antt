use Rattle.lj_tests_shared.proofs.workers.an_accepted_upload_is_settled.Given as goal

-- the run is named by the history of its table
abbrev pub ghosts-accept_and_settle : goal.ghosts-accept_and_settle
ghosts-accept_and_settle a b = record { history = b.history.history }
