use Rattle.std.proofs.Common.{subst, sym}
use Rattle.lj_base.specs.Cells.{Triple}
use Rattle.lj_blockfile.specs.BlockLines.{IsBlockLine}
use Rattle.lj_cert.proofs.reading.block_in.Goals as goal

pub returns-in-Err-clause-none : goal.returns-in-Err-clause-none
returns-in-Err-clause-none c = λ b h.
    let inside : IsBlockLine c.args.text.now c.cell.inside.v c.cell.inside.k b =
    subst (λ (d : Triple). IsBlockLine c.args.text.now d.v d.k b) (sym c.cell.view_is) h in
    let line : IsBlockLine c.args.text.now c.from.result c.from-2.result b =
    rw (c.from.ensures, c.from-2.ensures) inside in
    cc (c.in-Err.is, c.read_block.ensures.complete b line)
