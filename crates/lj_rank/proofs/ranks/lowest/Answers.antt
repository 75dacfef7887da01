use Rattle.std.proofs.Common.{◌+◌, arith, subst, sym}
use Rattle.std.proofs.lemmas.List.{length_push}
use Rattle.lj_base.specs.Blocks.{IsBlock}
use Rattle.lj_base.proofs.Ascending.{AllBelow-from_Ascends, Ascends-push}
use Rattle.lj_rank.proofs.ranks.lowest.Goals as goal

pub push-requires-clause-greatest : goal.push-requires-clause-greatest
push-requires-clause-greatest c = AllBelow-from_Ascends 0 _ _ c.loop-i.invariant.0

pub loop-i-preserved : goal.loop-i-preserved
loop-i-preserved c =
    let i = c.loop-i.i in
    subst (IsBlock (i + 1) (i + 1)) (sym c.push.ensures) (
      Ascends-push 0 i (i + 1) c.loop-i.set (omega arith) (omega arith) c.loop-i.invariant.0,
      omega (arith, length_push c.loop-i.set i, c.loop-i.invariant.1),
    )
