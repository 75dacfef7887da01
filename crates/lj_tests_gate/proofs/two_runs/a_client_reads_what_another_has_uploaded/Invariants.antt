use Rattle.lj_tests_gate.proofs.two_runs.a_client_reads_what_another_has_uploaded.Given as goal

-- the runs are named by the script's frame and sections, and by the history of their table
abbrev pub ghosts-run_each : goal.ghosts-run_each
ghosts-run_each a b = record {
  frame = b.script.frame;
  sections = b.script.clients;
  history = b.history.history;
}
