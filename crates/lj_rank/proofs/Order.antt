-- The order of sets is that of their ranks.
use Rattle.std.proofs.Common.{◌≡◌, ℕ, zero, suc, ◌<◌, ⊎_elim, ◌↔◌, List, [], ◌∷◌, ◌++◌, length, ap, subst, arith}
use Rattle.std.proofs.lemmas.List.{length_push}
use Rattle.lj_base.specs.Blocks.{Ascends, Has}
use Rattle.lj_base.specs.Colex.{choose, Precedes}
use Rattle.lj_rank.specs.Ranks.{rank_of}
use Rattle.lj_base.proofs.Ascending.{Has-below, Has-last, Has-push, Has-push_cases, top_cases}
use Rattle.lj_rank.proofs.RankCounts.{rank-push, rank-below}

-- a set with the top point stands after each without it
Precedes-top : (v : ℕ) (s t : List ℕ) → Ascends 0 v s → Ascends 0 v t → Precedes s (t ++ v ∷ [])
Precedes-top v s t hs ht = record {
  point = v;
  later_has = Has-last t v;
  earlier_lacks = λ has. let below = Has-below 0 v v s hs has in absurd (omega (arith, below));
  same_above = λ p above. (
    λ has. let below = Has-below 0 v p s hs has in absurd (omega (arith, below)),
    λ has.
        ⊎_elim (λ in_t. let below = Has-below 0 v p t ht in_t in absurd (omega (arith, below)))
        (λ e. absurd (omega (arith, e))) (Has-push_cases t v p has),
  );
}

not_before-top : (v : ℕ) (s t : List ℕ) → Ascends 0 v t → Precedes (s ++ v ∷ []) t → ⊥
not_before-top v s t ht h =
    let below = Has-below 0 v h.point t ht h.later_has in
    let also = (h.same_above v below).0 (Has-last s v) in
    let too_low = Has-below 0 v v t ht also in
    omega (arith, too_low)

-- where both have the top point the other points decide
Precedes-push : (v : ℕ) (s t : List ℕ) → Ascends 0 v t → Precedes s t → Precedes (s ++ v ∷ []) (t ++ v ∷ [])
Precedes-push v s t ht h =
    let below = Has-below 0 v h.point t ht h.later_has in
    record {
      point = h.point;
      later_has = Has-push t v h.point h.later_has;
      earlier_lacks = λ has. ⊎_elim h.earlier_lacks (λ e. omega (arith, e, below)) (Has-push_cases s v h.point has);
      same_above = λ p above. (
        λ has.
            ⊎_elim (λ in_s. Has-push t v p ((h.same_above p above).0 in_s))
            (λ e. subst (Has (t ++ v ∷ [])) e (Has-last t v)) (Has-push_cases s v p has),
        λ has.
            ⊎_elim (λ in_t. Has-push s v p ((h.same_above p above).1 in_t))
            (λ e. subst (Has (s ++ v ∷ [])) e (Has-last s v)) (Has-push_cases t v p has),
      );
    }

Precedes-pop : (v : ℕ) (s t : List ℕ) → Ascends 0 v s → Ascends 0 v t → Precedes (s ++ v ∷ []) (t ++ v ∷ [])
    → Precedes s t
Precedes-pop v s t hs ht h =
    let not_top : v ≡ h.point → ⊥ = λ e. h.earlier_lacks (subst (Has (s ++ v ∷ [])) e (Has-last s v)) in
    let in_t : Has t h.point = ⊎_elim (λ has. has) (λ e. absurd (not_top e)) (Has-push_cases t v h.point h.later_has) in
    record {
      point = h.point;
      later_has = in_t;
      earlier_lacks = λ has. h.earlier_lacks (Has-push s v h.point has);
      same_above = λ p above. (
        λ has.
            let below = Has-below 0 v p s hs has in
            ⊎_elim (λ in_t. in_t) (λ e. absurd (omega (arith, e, below)))
            (Has-push_cases t v p ((h.same_above p above).0 (Has-push s v p has))),
        λ has.
            let below = Has-below 0 v p t ht has in
            ⊎_elim (λ in_s. in_s) (λ e. absurd (omega (arith, e, below)))
            (Has-push_cases s v p ((h.same_above p above).1 (Has-push t v p has))),
      );
    }

abbrev Agree : List ℕ → List ℕ → Type 0
Agree s t = length s ≡ length t → (Precedes s t ↔ (rank_of s < rank_of t))

agree-without : (v : ℕ) (s t : List ℕ) → Ascends 0 v s → Ascends 0 v t → Agree s (t ++ v ∷ [])
agree-without v s t hs ht same =
    let long : length s ≡ suc (length t) = omega (arith, same, length_push t v) in
    let room = ap (λ n. choose v n) long in
    (λ _. omega (arith, rank-push t v, rank-below v s hs, room), λ _. Precedes-top v s t hs ht)

agree-with : (v : ℕ) (s t : List ℕ) → Ascends 0 v s → Ascends 0 v t → Agree (s ++ v ∷ []) t
agree-with v s t hs ht same =
    let long : length t ≡ suc (length s) = omega (arith, same, length_push s v) in
    let room = ap (λ n. choose v n) long in
    let first = rank-push s v in
    let second = rank-below v t ht in
    (λ h. absurd (not_before-top v s t ht h), λ less. absurd (omega (arith, less, first, second, room)))

agree-both : (v : ℕ) (s t : List ℕ) → Ascends 0 v s → Ascends 0 v t → Agree s t → Agree (s ++ v ∷ []) (t ++ v ∷ [])
agree-both v s t hs ht rest same =
    let long : length s ≡ length t = omega (arith, same, length_push s v, length_push t v) in
    let top = ap (λ n. choose v (suc n)) long in
    let first = rank-push s v in
    let second = rank-push t v in (
      λ h. let less = (rest long).0 (Precedes-pop v s t hs ht h) in omega (arith, less, top, first, second),
      λ less. Precedes-push v s t ht ((rest long).1 (omega (arith, less, top, first, second))),
    )

-- of two sets of the same size, the one of the lower rank stands before the other
pub Precedes-rank : (v : ℕ) (s t : List ℕ) → Ascends 0 v s → Ascends 0 v t → Agree s t
Precedes-rank zero [] [] hs ht same = (λ h. absurd h.later_has, λ less. absurd (omega arith))
Precedes-rank zero [] (y ∷ ys) hs ht same = absurd (omega arith)
Precedes-rank zero (x ∷ xs) t hs ht same = absurd (omega arith)
Precedes-rank (suc v) s t hs ht same =
    top_cases 0 v (λ xs. Agree xs t)
    (λ xs k.
    top_cases 0 v (λ ys. Agree xs ys)
    (λ ys l. Precedes-rank v xs ys k l) (λ ys l. agree-without v xs ys k l) t ht)
    (λ xs k.
    top_cases 0 v (λ ys. Agree (xs ++ v ∷ []) ys)
    (λ ys l. agree-with v xs ys k l) (λ ys l. agree-both v xs ys k l (Precedes-rank v xs ys k l)) t ht)
    s hs same
