use Rattle.std.proofs.Common.{List, All, get_or, take, sym, subst, arith, refl}
use Rattle.std.proofs.lemmas.List.{take_all, take_more}
use Rattle.std.proofs.lemmas.List.Elements.{All-push}
use Rattle.lj_base.specs.declared.Row.{Row}
use Rattle.lj_cover.specs.Instances.{IsRowOf}
use Rattle.lj_table.proofs.RuleNodes.{no_row}
use Rattle.lj_table.proofs.fitting.are_rows.Goals as goal

pub loop-row-preserved : goal.loop-row-preserved
loop-row-preserved c =
    let rows : List Row = c.args.rows.now in
    subst (All (IsRowOf c.args.uploads.now c.args.c))
    (sym (take_more c.args.rows.now c.loop-row.row-index no_row (omega arith)))
    (All-push (IsRowOf c.args.uploads.now c.args.c) (take c.loop-row.row-index c.args.rows.now)
    (get_or c.args.rows.now c.loop-row.row-index no_row) c.loop-row.invariant
    (c.is_row_of.ensures.0 c.if-not-is_row_of.false))

pub returns : goal.returns
returns c = (
  λ _. subst (All (IsRowOf c.args.uploads.now c.args.c)) (take_all c.loop-row.row-index c.args.rows.now (omega arith))
      c.loop-row.invariant,
  λ _. refl,
)
