use Rattle.lj_expand.proofs.Texts.{put-one, put-two}
use Rattle.std.proofs.Common.{arith}
use Rattle.lj_expand.proofs.lines.write_point.Goals as goal

pub returns-then-point-lt9-clause-text : goal.returns-then-point-lt9-clause-text
returns-then-point-lt9-clause-text c =
    put-one c.args.texts.now c.args.point c.args.out.now c.args.start c.requires.texts c.if-point-lt9.true
    c.requires.room

pub returns-else-point-lt9-clause-text : goal.returns-else-point-lt9-clause-text
returns-else-point-lt9-clause-text c =
    put-two c.args.texts.now c.args.point c.args.out.now c.args.start c.requires.texts
    (omega (arith, c.if-point-lt9.false)) c.requires.in_range c.requires.room
