-- Points in an array: one more at the end, and the search for one.
use Rattle.std.proofs.Common.{◌≡◌, ℕ, suc, ◌+◌, ◌-◌, ◌<◌, true, eqb, List, [], ◌∷◌, ◌++◌, length, take, sym, ap}
use Rattle.std.proofs.Common.{◌∙◌, subst, arith, inl, inr, ⊎_elim}
use Rattle.std.proofs.Math.ListN.{set, replicate}
use Rattle.std.proofs.lemmas.Bool.{eqb-true, eq-eqb, or_cases, or_left, or_right, false≢true}
use Rattle.std.proofs.lemmas.List.{take_more_set, length-take-le, set_at, length-set, append_assoc}
use Rattle.std.specs.List.{list_any}
use Rattle.lj_base.specs.Blocks.{AllBelow, Ascends, Has}
use Rattle.lj_base.specs.Padding.{HoldsPoints}
use Rattle.lj_base.proofs.Ascending.{Ascends-narrow, Ascends-push}

pub HoldsPoints-push : (size n : ℕ) (array : List ℕ) (p : ℕ) → p < 99 → AllBelow p (take n array) → n < size
    → HoldsPoints size n array → HoldsPoints size (n + 1) (set array n p)
HoldsPoints-push size n array p below all room h =
    let pad = h.padding in
    let xs : List ℕ = take n array in
    let zeros : List ℕ = replicate (size - (n + 1)) 0 in
    let inside : n < length array = subst (λ m. n < m) (sym pad.size_is) room in
    let front : take (n + 1) (set array n p) ≡ xs ++ p ∷ [] = take_more_set array n p inside in
    let count : length xs ≡ n = length-take-le n array (omega arith) in
    let one_less : size - n ≡ suc (size - (n + 1)) = omega arith in
    let split : array ≡ xs ++ 0 ∷ zeros = pad.padded ∙ ap (λ m. xs ++ replicate m 0) one_less in
    let pushed = Ascends-push 0 p 99 xs (omega arith) below (Ascends-narrow 0 99 p xs h.ascends all) in
    record {
      padding = record {
        within = omega arith;
        size_is = length-set array n p ∙ pad.size_is;
        padded = ap (λ ys. set ys n p) split ∙ set_at xs 0 zeros p n count
            ∙ sym (append_assoc xs (p ∷ []) zeros) ∙ ap (λ ys. ys ++ zeros) (sym front);
      };
      narrow = h.narrow;
      ascends = subst (Ascends 0 99) (sym front) pushed;
    }

pub Has-from_any : (xs : List ℕ) (p : ℕ) → list_any (λ y. eqb y p) xs ≡ true → Has xs p
Has-from_any [] p h = false≢true h
Has-from_any (x ∷ xs) p h = ⊎_elim (λ e. inl (eqb-true x p e)) (λ rest. inr (Has-from_any xs p rest)) (or_cases _ _ h)

pub any-from_Has : (xs : List ℕ) (p : ℕ) → Has xs p → list_any (λ y. eqb y p) xs ≡ true
any-from_Has [] p h = absurd h
any-from_Has (x ∷ xs) p (inl e) = or_left _ _ (eq-eqb x p e)
any-from_Has (x ∷ xs) p (inr rest) = or_right _ _ (any-from_Has xs p rest)
