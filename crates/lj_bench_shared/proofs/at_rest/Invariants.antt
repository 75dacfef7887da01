use Rattle.lj_bench_shared.proofs.at_rest.Given as goal

-- a run on the frame without uploads
abbrev pub ghosts-shared_at_rest : goal.ghosts-shared_at_rest
ghosts-shared_at_rest g a = record { frame = a.frame; allowed = λ u. ⊥; history = a.history.history }
