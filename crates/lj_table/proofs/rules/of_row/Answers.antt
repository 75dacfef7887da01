use Rattle.std.proofs.Common.{◌<◌, get_or, length, arith, sym, ap, ◌∙◌, ⊎_elim}
use Rattle.std.proofs.Math.ListN.{set}
use Rattle.std.proofs.lemmas.Bool.{cases_eq}
use Rattle.std.proofs.lemmas.List.{length-set, get_or-set_same, get_or-set_other}
use Rattle.lj_base.specs.Bounds.{at_cell}
use Rattle.lj_base.specs.Cells.{Triple}
use Rattle.lj_table.proofs.ByCell.{same_cell}
use Rattle.lj_table.proofs.rules.of_row.Goals as goal

pub loop-l-preserved : goal.loop-l-preserved
loop-l-preserved c =
    let xs = c.loop-l.children in
    let inside : c.loop-l.l < length c.loop-l.children =
    omega (arith, c.loop-l.invariant.count, c.loop-l-test.true, c.min-l-end.ensures) in
    record {
      count = length-set xs c.loop-l.l c.at_cell.result ∙ c.loop-l.invariant.count;
      at = λ m above below. ⊎_elim
          (λ same. ap (λ i. get_or (set xs c.loop-l.l c.at_cell.result) i 0) same
          ∙ get_or-set_same xs c.loop-l.l c.at_cell.result 0 inside ∙ c.at_cell.ensures
          ∙ ap (at_cell c.args.frame c.args.nodes.now)
          (same_cell _ _ (sym same) (ap (λ (t : Triple). t.k) c.cell.view_is)
          (ap (λ (t : Triple). t.t) c.cell.view_is)))
          (λ other. get_or-set_other xs c.loop-l.l m c.at_cell.result 0 other ∙ c.loop-l.invariant.at m above
          (omega arith))
          (cases_eq m c.loop-l.l);
    }
