-- A filled block keeps its points, ascends, and has k points.
use Rattle.std.proofs.Common.{◌≡◌, ℕ, zero, suc, ◌+◌, ◌-◌, ◌<◌, ◌≤◌, eqb, List, [], ◌∷◌, length, refl, sym, ap, subst}
use Rattle.std.proofs.Common.{arith, inl, inr}
use Rattle.std.proofs.lemmas.Bool.{cond_both, eqb-true, eqb-false}
use Rattle.lj_base.specs.Cells.{Triple}
use Rattle.lj_base.specs.Blocks.{Ascends, IsBlock, Has, SomeContains, Covers}
use Rattle.lj_base.proofs.Ascending.{SomeContains-smaller}
use Rattle.lj_cover.specs.Operations.{add_least, add_missing, fill}

Has-add_least : (lo : ℕ) (b : List ℕ) (p : ℕ) → Has b p → Has (add_least lo b) p
Has-add_least lo [] p has = absurd has
Has-add_least lo (x ∷ xs) p (inl e) = cond_both (eqb x lo) _ _ (λ c. Has c p) (λ _. inl e) (λ _. inr (inl e))
Has-add_least lo (x ∷ xs) p (inr rest) =
    let below = Has-add_least (suc lo) xs p rest in
    cond_both (eqb x lo) _ _ (λ c. Has c p) (λ _. inr below) (λ _. inr (inr rest))

length-add_least : (lo : ℕ) (b : List ℕ) → length (add_least lo b) ≡ suc (length b)
length-add_least lo [] = refl
length-add_least lo (x ∷ xs) =
    let below = length-add_least (suc lo) xs in
    cond_both (eqb x lo) _ _ (λ c. length c ≡ suc (suc (length xs))) (λ _. ap suc below) (λ _. refl)

Ascends-add_least : (lo v : ℕ) (b : List ℕ) → lo + length b < v → Ascends lo v b → Ascends lo v (add_least lo b)
Ascends-add_least lo v [] room h = (omega arith, omega arith, tt)
Ascends-add_least lo v (x ∷ xs) room h =
    cond_both (eqb x lo) _ _ (Ascends lo v)
    (λ e.
    let same : suc x ≡ suc lo = ap suc (eqb-true x lo e) in
    let rest = Ascends-add_least (suc lo) v xs (omega arith) (subst (λ y. Ascends y v xs) same h.2) in
    (h.0, h.1, subst (λ y. Ascends y v (add_least (suc lo) xs)) (sym same) rest))
    (λ e. (omega arith, omega (arith, h.0, h.1), (omega (arith, h.0, eqb-false x lo e), h.1, h.2)))

Has-add_missing : (lo n : ℕ) (b : List ℕ) (p : ℕ) → Has b p → Has (add_missing lo n b) p
Has-add_missing lo zero b p has = has
Has-add_missing lo (suc n) b p has = Has-add_missing lo n (add_least lo b) p (Has-add_least lo b p has)

length-add_missing : (lo n : ℕ) (b : List ℕ) → length (add_missing lo n b) ≡ n + length b
length-add_missing lo zero b = omega arith
length-add_missing lo (suc n) b = omega (arith, length-add_missing lo n (add_least lo b), length-add_least lo b)

Ascends-add_missing : (lo n v : ℕ) (b : List ℕ) → lo + n + length b ≤ v → Ascends lo v b
    → Ascends lo v (add_missing lo n b)
Ascends-add_missing lo zero v b room h = h
Ascends-add_missing lo (suc n) v b room h =
    Ascends-add_missing lo n v (add_least lo b) (omega (arith, length-add_least lo b))
    (Ascends-add_least lo v b (omega arith) h)

pub Has-fill : (k : ℕ) (b : List ℕ) (p : ℕ) → Has b p → Has (fill k b) p
Has-fill k b = Has-add_missing 0 (k - length b) b

pub IsBlock-fill : (v k : ℕ) (b : List ℕ) → length b ≤ k → k ≤ v → Ascends 0 v b → IsBlock v k (fill k b)
IsBlock-fill v k b short room h =
    (Ascends-add_missing 0 (k - length b) v b (omega arith) h, omega (arith, length-add_missing 0 (k - length b) b))

-- a list that covers contains also each smaller set in some block
pub covers_fewer : (bs : List (List ℕ)) (c : Triple) (s : List ℕ) → c.t ≤ c.v → Covers bs c → Ascends 0 c.v s
    → length s ≤ c.t → SomeContains bs s
covers_fewer bs c s room h ascends few =
    SomeContains-smaller bs s (fill c.t s) (Has-fill c.t s)
    (h.sets (fill c.t s) (IsBlock-fill c.v c.t s few room ascends))
