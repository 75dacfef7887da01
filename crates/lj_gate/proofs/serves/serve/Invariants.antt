use Rattle.lj_gate.proofs.serves.serve.Given as goal

-- the run is named by the script's frame and sections, and by the history of its table
abbrev pub ghosts-serve_named : goal.ghosts-serve_named
ghosts-serve_named g a = record {
  frame = a.script.frame;
  sections = a.script.clients;
  history = a.history.history;
}
