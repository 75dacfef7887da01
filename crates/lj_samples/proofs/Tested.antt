-- A list that passes the test covers.
use Rattle.std.proofs.Common.{◌≡◌, ℕ, suc, true, eqb, leb, ltb, ◌&&◌, List, [], ◌∷◌, length, subst, inl, inr, ⊎_elim}
use Rattle.std.proofs.lemmas.Bool.{and_parts, eqb-true, false≢true, leb-true, ltb-true, or_cases}
use Rattle.std.specs.List.{list_all, list_any}
use Rattle.lj_base.specs.Blocks.{AreBlocks, Ascends, Covers, Has, SomeContains, Within}
use Rattle.lj_base.specs.Cells.{Triple}
use Rattle.lj_base.specs.Colex.{sets}
use Rattle.lj_cover.specs.Rules.{triple}
use Rattle.lj_cover.specs.Operations.{has_point}
use Rattle.lj_samples.specs.Tested.{ascends, contains, covers}

Ascends-from_test : (lo v : ℕ) (b : List ℕ) → ascends lo v b ≡ true → Ascends lo v b
Ascends-from_test lo v [] h = tt
Ascends-from_test lo v (x ∷ xs) h =
    let first = and_parts (leb lo x) (ltb x v && ascends (suc x) v xs) h in
    let second = and_parts (ltb x v) (ascends (suc x) v xs) first.1 in
    (leb-true lo x first.0, ltb-true x v second.0, Ascends-from_test (suc x) v xs second.1)

Has-from_test : (b : List ℕ) (p : ℕ) → has_point b p ≡ true → Has b p
Has-from_test [] p h = false≢true h
Has-from_test (x ∷ xs) p h =
    ⊎_elim (λ e. inl (eqb-true x p e)) (λ rest. inr (Has-from_test xs p rest)) (or_cases _ _ h)

-- a block that has the points of b has those of each set within b
Within-from_test : (s b c : List ℕ) → Within s b → contains b c ≡ true → Within s c
Within-from_test [] b c within h = tt
Within-from_test (x ∷ xs) b c within h = (has b c x within.0 h, Within-from_test xs b c within.1 h)
  where
    has : (b c : List ℕ) (p : ℕ) → Has b p → contains b c ≡ true → Has c p
    has [] c p member k = absurd member
    has (y ∷ ys) c p (inl e) k = subst (Has c) e (Has-from_test c y (and_parts _ _ k).0)
    has (y ∷ ys) c p (inr rest) k = has ys c p rest (and_parts _ _ k).1

some_from_test : (bs : List (List ℕ)) (s b : List ℕ) → Within s b → list_any (λ c. contains b c) bs ≡ true
    → SomeContains bs s
some_from_test [] s b within h = false≢true h
some_from_test (c ∷ cs) s b within h =
    ⊎_elim (λ e. inl (Within-from_test s b c within e)) (λ rest. inr (some_from_test cs s b within rest))
    (or_cases _ _ h)

each_from_test : (bs all : List (List ℕ)) (s : List ℕ) → SomeContains all s
    → list_all (λ b. list_any (λ c. contains b c) bs) all ≡ true → SomeContains bs s
each_from_test bs [] s some h = absurd some
each_from_test bs (b ∷ all) s (inl here) h = some_from_test bs s b here (and_parts _ _ h).0
each_from_test bs (b ∷ all) s (inr rest) h = each_from_test bs all s rest (and_parts _ _ h).1

blocks_from_test : (v k : ℕ) (bs : List (List ℕ)) → list_all (λ b. ascends 0 v b && eqb (length b) k) bs ≡ true
    → AreBlocks v k bs
blocks_from_test v k [] h = tt
blocks_from_test v k (b ∷ bs) h =
    let parts = and_parts (ascends 0 v b && eqb (length b) k) _ h in
    let here = and_parts (ascends 0 v b) (eqb (length b) k) parts.0 in
    ((Ascends-from_test 0 v b here.0, eqb-true (length b) k here.1), blocks_from_test v k bs parts.1)

-- the premise is the law that all sets cover
pub covers_tested : ((v k : ℕ) → Covers (sets v k) (triple v k k)) → (bs : List (List ℕ)) (c : Triple)
    → covers bs c ≡ true → Covers bs c
covers_tested all bs c h =
    let parts = and_parts (list_all (λ b. ascends 0 c.v b && eqb (length b) c.k) bs) _ h in
    record {
      blocks = blocks_from_test c.v c.k bs parts.0;
      sets = λ s set. each_from_test bs (sets c.v c.t) s ((all c.v c.t).sets s set) parts.1;
    }
