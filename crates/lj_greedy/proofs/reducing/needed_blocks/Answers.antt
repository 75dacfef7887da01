use Rattle.std.proofs.Common.{◌≡◌, ℕ, ◌+◌, ◌-◌, ◌<◌, List, [], ◌∷◌, ◌++◌, length, take, arith, ap, refl, sym}
use Rattle.std.proofs.Common.{subst, ◌∙◌}
use Rattle.std.proofs.lemmas.Bool.{false≢true}
use Rattle.std.proofs.lemmas.List.{append-nil, get_or_read, reverse-append, take_all}
use Rattle.std.specs.Prelude.{reverse}
use Rattle.lj_excess.specs.Multiplicities.{tally_of}
use Rattle.lj_greedy.proofs.ReducedLists.{IsReducing, places_split, reducing_all, reducing_needed}
use Rattle.lj_greedy.proofs.ReducedLists.{reducing_short, reducing_spare}
use Rattle.lj_greedy.proofs.reducing.needed_blocks.Goals as goal

pub loop-left-init : goal.loop-left-init
loop-left-init c =
    let bs = c.args.blocks.now in
    let cell = c.args.counts.cell in
    let none : [] ≡ reverse c.new-kept.result.items = ap reverse (sym c.new-kept.ensures.items) in
    let all : take (length bs) bs ++ [] ≡ bs =
    append-nil (take (length bs) bs) ∙ take_all (length bs) bs (omega arith) in
    record {
      cell = refl;
      counted = subst (λ ks. c.args.counts ≡ tally_of (take (length bs) bs ++ ks) cell) none
          (c.requires.counted ∙ ap (λ ds. tally_of ds cell) (sym all));
      reducing = subst (IsReducing cell bs (length bs)) none (reducing_all cell bs c.requires.covers.sets);
    }

pub loop-left-preserved-then-is_spare : goal.loop-left-preserved-then-is_spare
loop-left-preserved-then-is_spare c =
    let bs = c.args.blocks.now in
    let n : ℕ = c.loop-left.left - 1 in
    let b = c.index-blocks-left.result in
    let kept : List (List ℕ) = reverse c.loop-left.kept.items in
    let cell = c.loop-left.counts.cell in
    let old = c.loop-left.invariant in
    let within = old.reducing.within in
    let inside : n < length bs = omega (arith, within) in
    let is = get_or_read bs n b inside c.index-blocks-left.is [] in
    let more : c.loop-left.left ≡ n + 1 = omega arith in
    let reducing = subst (λ m. IsReducing cell bs m kept) more old.reducing in
    let counted = old.counted ∙ ap (λ m. tally_of (take m bs ++ kept) cell) more
    ∙ ap (λ ds. tally_of ds cell) (places_split bs n b kept inside is) in
    let spare = (c.is_spare.ensures (take n bs) kept counted).0 c.if-is_spare.true in
    let short = reducing_short cell bs n b kept inside is reducing in
    let few = c.requires.few in
    record {
      cell = c.remove.ensures.cell ∙ old.cell;
      counted = c.remove.ensures.counts (take n bs) kept (omega (arith, short, few)) counted
          ∙ ap (tally_of (take n bs ++ kept)) (sym c.remove.ensures.cell);
      reducing = subst (λ k. IsReducing k bs n kept) (sym c.remove.ensures.cell)
          (reducing_spare c.multiplicity_law.ensures.within c.sets_law.ensures.members
          c.multiplicity_law.ensures.some cell
          bs n b kept inside is reducing spare);
    }

pub loop-left-preserved : goal.loop-left-preserved
loop-left-preserved c =
    let bs = c.args.blocks.now in
    let n : ℕ = c.loop-left.left - 1 in
    let b = c.index-blocks-left.result in
    let kept : List (List ℕ) = reverse c.loop-left.kept.items in
    let cell = c.loop-left.counts.cell in
    let old = c.loop-left.invariant in
    let within = old.reducing.within in
    let inside : n < length bs = omega (arith, within) in
    let is = get_or_read bs n b inside c.index-blocks-left.is [] in
    let more : c.loop-left.left ≡ n + 1 = omega arith in
    let reducing = subst (λ m. IsReducing cell bs m kept) more old.reducing in
    let counted = old.counted ∙ ap (λ m. tally_of (take m bs ++ kept) cell) more
    ∙ ap (λ ds. tally_of ds cell) (places_split bs n b kept inside is) in
    let now : reverse c.push.new.self.items ≡ b ∷ kept =
    ap reverse c.in_ok-push.ensures.items ∙ reverse-append c.loop-left.kept.items (b ∷ []) in
    record {
      cell = old.cell;
      counted = counted ∙ ap (λ ks. tally_of (take n bs ++ ks) cell) (sym now);
      reducing = subst (IsReducing cell bs n) (sym now)
          (reducing_needed c.multiplicity_law.ensures.within c.sets_law.ensures.members c.multiplicity_law.ensures.some
          cell bs n b kept inside is reducing (λ means.
          false≢true (sym c.if-is_spare.false ∙ (c.is_spare.ensures (take n bs) kept counted).1 means)));
    }
