use Rattle.std.proofs.Common.{◌≡◌, ◌∙◌, ℕ, ◌+◌, suc, ◌<◌, List, ◌∷◌, arith, drop, drop-cons, get_or, length, refl}
use Rattle.std.proofs.Common.{subst}
use Rattle.std.specs.List.{AllByRecursion}
use Rattle.lj_deriv.proofs.Marking.{named-more}
use Rattle.lj_deriv.proofs.copying.marked_uploads.Goals as goal

-- the first of the numbers that are left
drop-more : (xs : List ℕ) (i : ℕ) → i < length xs → drop i xs ≡ get_or xs i 0 ∷ drop (i + 1) xs
drop-more xs i inside =
    let next : i + 1 ≡ suc i = omega arith in
    rw next (drop-cons xs i 0 inside)

pub loop-node-preserved : goal.loop-node-preserved
loop-node-preserved c =
    let h = c.loop-node.invariant in
    let numbers = c.args.numbers.now in
    let i = c.loop-node.node-index in
    record {
      len = c.mark_upload.ensures.len ∙ h.len;
      there = (subst (AllByRecursion (λ j. j < length c.args.arena.now.rules))
          (drop-more numbers i c.loop-node-test.true) h.there).1;
      marks = named-more c.args.arena.now c.loop-node.marks.items c.mark_upload.new.marks.items numbers i _
          c.loop-node-test.true refl c.mark_upload.ensures.marks h.marks;
    }
