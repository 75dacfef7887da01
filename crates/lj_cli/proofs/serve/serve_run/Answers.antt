use Rattle.lj_cli.proofs.serve.serve_run.Goals as goal

pub returns-clause-headline : goal.returns-clause-headline
returns-clause-headline g c = c.headline_law.ensures.run _ _ _ _ c.serve_input.ensures
