use Rattle.lj_core.proofs.KeptStates.{run_falls, run_frame, run_uploads}
use Rattle.lj_core.proofs.laws.runs_add_uploads.Goals as goal

pub returns-clause-frame : goal.returns-clause-frame
returns-clause-frame c = run_frame

pub returns-clause-uploads : goal.returns-clause-uploads
returns-clause-uploads c = run_uploads

pub returns-clause-falls : goal.returns-clause-falls
returns-clause-falls c = run_falls c.bounds_do_not_rise.ensures.published
