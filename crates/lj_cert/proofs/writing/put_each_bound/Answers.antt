use Rattle.lj_base.specs.Frames.{cells_of}
use Rattle.lj_cert.proofs.PutLines.{always, extends-front, put-line}
use Rattle.lj_cert.specs.Texts.{bound_line}
use Rattle.lj_cert.proofs.writing.put_each_bound.Goals as goal

pub returns-in_err-put_bound-clause-err : goal.returns-in_err-put_bound-clause-err
returns-in_err-put_bound-clause-err c =
    always c.from_residual.result
    (extends-front c.args.out.now.items c.loop-i.out.items c.put_bound.new.out.items _ c.loop-i.invariant
    c.in_err-put_bound.ensures.err)

pub loop-i-preserved : goal.loop-i-preserved
loop-i-preserved c =
    put-line (bound_line c.args.frame c.args.bounds.now c.args.forest.now.roots) c.args.out.now.items
    c.loop-i.out.items c.put_bound.new.out.items (cells_of c.args.frame) c.loop-i.i c.cell.result
    c.cell.ensures.place c.loop-i.invariant c.in_ok-put_bound.ensures.ok
