-- The rules without children cover: one block, runs, and all blocks.
use Rattle.std.proofs.Common.{◌≡◌, ℕ, zero, suc, ◌+◌, ◌-◌, ◌*◌, ◌/◌, ◌<◌, ◌≤◌, ◌⊎◌, List, [], ◌∷◌, ◌++◌, length, map}
use Rattle.std.proofs.Common.{refl, sym, ap, ◌∙◌, subst, arith, inl, inr, ⊎_elim, length-append}
use Rattle.std.proofs.Math.Nat.{div-mul-le_self, lt-div-mul-add}
use Rattle.std.proofs.lemmas.Nat.{le-div}
use Rattle.std.proofs.lemmas.Bool.{cases_eq}
use Rattle.std.proofs.lemmas.List.FromFn.{length-map-range_with_len, length-range_with_len}
use Rattle.std.specs.List.{range_with_len}
use Rattle.lj_base.specs.Blocks.{Ascends, IsBlock, Has, Within, SomeContains, AreBlocks, Covers}
use Rattle.lj_base.specs.Colex.{sets}
use Rattle.lj_base.proofs.Ascending.{Ascends-range, Ascends-wider, Has-append_left, Has-append_right, Has-below}
use Rattle.lj_base.proofs.Ascending.{Has-range, SomeContains-append_left, SomeContains-append_right, SomeContains-map}
use Rattle.lj_base.proofs.Ascending.{Within-append, Within-from_Has, Within-larger}
use Rattle.lj_base.proofs.Lists.{AllByRecursion-append, AllByRecursion-made, AllByRecursion-map, AllByRecursion-weaker}
use Rattle.lj_cover.specs.Operations.{cut}
use Rattle.lj_cover.specs.BlockLists.{ceil_div, one_block, run, run_blocks}
use Rattle.lj_cover.specs.Rules.{triple}
use Rattle.lj_cover.proofs.FilledBlocks.{Has-fill, IsBlock-fill}
use Rattle.lj_cover.proofs.CutsOfBlocks.{Ascends-cut, Has-cut, length-cut}
use Rattle.lj_cover.proofs.SidesOfSets.{EndsIn, last_or_below}
use Rattle.lj_cover.proofs.ElementaryRules.{Ascends-add_point}

pub one_covers : (v k t : ℕ) → k ≤ v → (t ≡ 0) ⊎ (k ≡ v) → Covers (one_block k) (triple v k t)
one_covers v k t room why = record {
  blocks = (
    (
      Ascends-wider 0 0 (0 + k) v (range_with_len 0 k) (omega arith) (omega arith)
          (Ascends-range 0 k),
      length-range_with_len 0 k,
    ),
    tt,
  );
  sets = λ s set. inl (Within-from_Has s (range_with_len 0 k)
      (λ p has. Has-range 0 k p (omega arith) (inside s set p has)));
}
  where
    nothing : (s : List ℕ) (p : ℕ) → length s ≡ 0 → Has s p → ⊥
    nothing [] p e has = has
    nothing (x ∷ xs) p e has = omega arith

    inside : (s : List ℕ) → IsBlock v t s → (p : ℕ) → Has s p → p < 0 + k
    inside s set p has =
        let below = Has-below 0 v p s set.0 has in
        ⊎_elim (λ e. absurd (nothing s p (set.1 ∙ e) has)) (λ e. omega arith) why

SomeContains-range : (f : ℕ → List ℕ) (lo n i : ℕ) (s : List ℕ) → lo ≤ i → i < lo + n → Within s (f i)
    → SomeContains (map f (range_with_len lo n)) s
SomeContains-range f lo zero i s from to within = absurd (omega arith)
SomeContains-range f lo (suc n) i s from to within =
    ⊎_elim (λ e. inl (subst (λ j. Within s (f j)) (sym e) within))
    (λ other. inr (SomeContains-range f (lo + 1) n i s (omega arith) (omega arith) within)) (cases_eq lo i)

-- the run with point p is one of them
run_of : (v k p : ℕ) → 1 ≤ k → p < v → p / k < ceil_div v k
run_of v k p some below =
    let part = div-mul-le_self p k in
    let next : suc (p / k) * k ≤ v + (k - 1) = omega arith in
    le-div (suc (p / k)) (v + (k - 1)) k some next

pub runs_cover : (v k : ℕ) → 1 ≤ k → k ≤ v → Covers (run_blocks v k) (triple v k 1)
runs_cover v k some room = record {
  blocks = AllByRecursion-made (IsBlock v k) (run v k) (range_with_len 0 (ceil_div v k)) each;
  sets = contains;
}
  where
    each : (i : ℕ) → IsBlock v k (run v k i)
    each i =
        let row = range_with_len (i * k) k in
        IsBlock-fill v k (cut v row) (omega (arith, length-cut v row, length-range_with_len (i * k) k)) room
        (Ascends-wider (i * k) 0 v v (cut v row) (omega arith) (omega arith)
        (Ascends-cut v (i * k) (i * k + k) row (Ascends-range (i * k) k)))

    contains : (s : List ℕ) → IsBlock v 1 s → SomeContains (run_blocks v k) s
    contains [] set = absurd (omega arith)
    contains (p ∷ []) set =
        let i = p / k in
        let row = range_with_len (i * k) k in
        let has : Has row p = Has-range (i * k) k p (div-mul-le_self p k) (lt-div-mul-add some) in
        SomeContains-range (run v k) 0 (ceil_div v k) i (p ∷ []) (omega arith)
        (omega (arith, run_of v k p some set.0.1))
        (Has-fill k (cut v row) p (Has-cut v row p set.0.1 has), tt)
    contains (p ∷ q ∷ s) set = absurd (omega arith)

pub length-run_blocks : (v k : ℕ) → length (run_blocks v k) ≡ ceil_div v k
length-run_blocks v k = length-map-range_with_len (run v k) 0 (ceil_div v k)

sets_are_blocks : (v k : ℕ) → AreBlocks v k (sets v k)
sets_are_blocks v zero = ((tt, refl), tt)
sets_are_blocks zero (suc k) = tt
sets_are_blocks (suc v) (suc k) =
    AllByRecursion-append (IsBlock (suc v) (suc k)) (sets v (suc k)) (map (λ s. s ++ v ∷ []) (sets v k))
    (AllByRecursion-weaker (IsBlock v (suc k)) (IsBlock (suc v) (suc k)) (sets v (suc k))
    (λ b block. (Ascends-wider 0 0 v (suc v) b (omega arith) (omega arith) block.0, block.1))
    (sets_are_blocks v (suc k)))
    (AllByRecursion-map (IsBlock v k) (IsBlock (suc v) (suc k)) (λ s. s ++ v ∷ []) (sets v k)
    (λ b block. (Ascends-add_point v b block.0, omega (arith, length-append b (v ∷ []), block.1)))
    (sets_are_blocks v k))

sets_contain : (v k : ℕ) (s : List ℕ) → IsBlock v k s → SomeContains (sets v k) s
sets_contain v zero [] h = inl tt
sets_contain v zero (x ∷ xs) h = absurd (omega arith)
sets_contain zero (suc k) [] h = absurd (omega arith)
sets_contain zero (suc k) (x ∷ xs) h = absurd (omega (arith, h.0.1))
sets_contain (suc v) (suc k) s h =
    let at_end : EndsIn 0 v s → SomeContains (sets (suc v) (suc k)) s = λ e.
    let size : length e.front ≡ k = omega (arith, ap length e.is, length-append e.front (v ∷ []), h.1) in
    SomeContains-append_right (sets v (suc k)) (map (λ b. b ++ v ∷ []) (sets v k)) s
    (subst (SomeContains (map (λ b. b ++ v ∷ []) (sets v k))) (sym e.is)
    (SomeContains-map (λ b. b ++ v ∷ []) (sets v k) e.front (e.front ++ v ∷ [])
    (λ b within. Within-append e.front (v ∷ []) (b ++ v ∷ [])
    (Within-larger e.front b (b ++ v ∷ []) (Has-append_left b (v ∷ [])) within)
    (Has-append_right b (v ∷ []) v (inl refl), tt))
    (sets_contain v k e.front (e.ascends, size)))) in
    let below : Ascends 0 v s → SomeContains (sets (suc v) (suc k)) s = λ ascends.
    SomeContains-append_left (sets v (suc k)) (map (λ b. b ++ v ∷ []) (sets v k)) s
    (sets_contain v (suc k) s (ascends, h.1)) in
    ⊎_elim at_end below (last_or_below 0 v s h.0)

pub all_cover : (v k : ℕ) → Covers (sets v k) (triple v k k)
all_cover v k = record { blocks = sets_are_blocks v k; sets = sets_contain v k }
