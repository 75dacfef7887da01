use Rattle.std.proofs.Common.{[], ◌∷◌, ◌++◌, ap₂, ◌∙◌, arith}
use Rattle.lj_relax.proofs.AllSets.{sets_more}
use Rattle.lj_relax.proofs.tickets.numbers_of_sets.Goals as goal

pub loop-i-preserved : goal.loop-i-preserved
loop-i-preserved c =
    let pushed = c.push_reserved.ensures in
    record {
      numbers = pushed.items ∙ ap₂ (λ ns n. ns ++ n ∷ []) c.loop-i.invariant.numbers c.sets_of.ensures
          ∙ sets_more c.args.frame c.loop-i.i c.cell.result c.cell.ensures.place;
      room = omega (arith, pushed.capacity, c.loop-i.invariant.room);
    }
