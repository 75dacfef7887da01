use Rattle.lj_text.proofs.Cutting.{after_line-found, after_line-none, from_place}
use Rattle.lj_text.proofs.lines.after_line.Goals as goal

pub returns-in-Some-clause-place : goal.returns-in-Some-clause-place
returns-in-Some-clause-place c =
    let stop = c.args.line.now.stop in
    after_line-found c.args.bytes.now _ stop c.in-Some.rest
    (from_place c.args.bytes.now stop) c.in-Some.ensures.0 c.in-Some.ensures.1

pub returns-in-None-clause-place : goal.returns-in-None-clause-place
returns-in-None-clause-place c =
    let stop = c.args.line.now.stop in
    after_line-none c.args.bytes.now _ stop (from_place c.args.bytes.now stop) c.requires.inside.1 c.in-None.ensures
