use Rattle.std.proofs.Common.{◌≡◌, ◌+◌, ◌<◌, ◌∙◌, Some, ap, arith, length, subst, sym}
use Rattle.std.proofs.lemmas.List.{length-set}
use Rattle.std.specs.List.{slice_get}
use Rattle.lj_base.proofs.Ascending.{Ascends-wider}
use Rattle.lj_base.specs.Blocks.{IsBlock}
use Rattle.lj_base.specs.Colex.{choose, sets}
use Rattle.lj_expand.specs.Positions.{with_first}
use Rattle.lj_expand.proofs.Ranked.{length-with_first}
use Rattle.lj_expand.proofs.Runs.{one-more}
use Rattle.lj_expand.proofs.filling.fill_all.Goals as goal

pub block_with_first-requires : goal.block_with_first-requires
block_with_first-requires c =
    Ascends-wider 0 0 c.args.v 99 _ (omega arith) c.requires.few c.loop-j.invariant.block.0

pub loop-j-preserved : goal.loop-j-preserved
loop-j-preserved c =
    let v = c.args.v in
    let k = c.args.k in
    let j = c.loop-j.j in
    let old = c.loop-j.invariant in
    let set = with_first c.loop-j.first c.loop-j.set in
    let room : j < length c.args.out.now = omega (arith, old.len) in
    let rank = old.rank room in
    let size : length c.loop-j.set ≡ k = omega (arith, old.block.1, length-with_first c.loop-j.first c.loop-j.set) in
    let count = ap (choose v) size in
    let place = subst (λ n. slice_get (sets v k) n ≡ Some set) rank (c.rank_law.ensures.place v k set old.block) in
    record {
      len = length-set c.loop-j.out j _ ∙ old.len;
      done = one-more c.loop-j.out (sets v k) c.args.i j c.block_with_first.result (omega (arith, old.len)) old.done
          (place ∙ ap (λ b. Some b) (sym c.block_with_first.ensures));
      block = subst (λ n. IsBlock v n (with_first c.next_first-first.result c.next_first-first.new.set)) size
          c.next_first-first.ensures.block;
      rank = λ more.
          c.next_first-first.ensures.rank (omega (arith, more, rank, count, c.requires.fits))
          ∙ ap (λ r. r + 1) rank ∙ (let e : c.args.i + j + 1 ≡ c.args.i + (j + 1) = omega arith in e);
    }
