-- Numbers and marks by cell.
use Rattle.std.proofs.Common.{◌≡◌, ◌≢◌, ◌↔◌, ◌⊎◌, ℕ, ◌+◌, ◌<◌, Bool, true, false, not, List, length, get_or, Some, None}
use Rattle.std.proofs.Common.{cond, ltb, refl, sym, ap, ◌∙◌, subst, arith, inl, inr, ⊎_elim}
use Rattle.std.proofs.Math.ListN.{set}
use Rattle.std.proofs.lemmas.Bool.{cases_eq, ltb-false, not-false}
use Rattle.std.proofs.lemmas.List.{get_or-set_same, get_or-set_other}
use Rattle.std.proofs.lemmas.List.Sums.{fails_before_first}
use Rattle.std.specs.Bool.{OnFalse, OnTrue}
use Rattle.std.specs.List.{position, position_or_len}
use Rattle.lj_base.specs.Bounds.{at_cell}
use Rattle.lj_base.specs.Cells.{Triple}
use Rattle.lj_base.specs.Frames.{InFrame, Top, index_of, size_of}
use Rattle.lj_table.specs.Tables.{IsIndexed}

pub apart : true ≡ false → ⊥
apart h = cc

pub same_cell : (a b : Triple) → a.v ≡ b.v → a.k ≡ b.k → a.t ≡ b.t → a ≡ b
same_cell a b p q r = λ i. record { v = p i; k = q i; t = r i }

pub cell_cases : (a b : Triple) → (a ≡ b) ⊎ (a ≢ b)
cell_cases a b =
    ⊎_elim
    (λ v. ⊎_elim
    (λ k. ⊎_elim (λ t. inl (same_cell a b v k t)) (λ t. inr (λ e. t (ap (λ (c : Triple). c.t) e))) (cases_eq a.t b.t))
    (λ k. inr (λ e. k (ap (λ (c : Triple). c.k) e))) (cases_eq a.k b.k))
    (λ v. inr (λ e. v (ap (λ (c : Triple). c.v) e))) (cases_eq a.v b.v)

pub at_cell-same : (f : Top) → IsIndexed f → (xs : List ℕ) (c : Triple) (n : ℕ) → InFrame f c → length xs ≡ size_of f
    → at_cell f (set xs (index_of f c) n) c ≡ n
at_cell-same f ix xs c n h len = get_or-set_same xs (index_of f c) n 0 (omega (arith, ix.below c h, len))

pub at_cell-other : (f : Top) → IsIndexed f → (xs : List ℕ) (c d : Triple) (n : ℕ) → InFrame f c → InFrame f d → d ≢ c
    → at_cell f (set xs (index_of f c) n) d ≡ at_cell f xs d
at_cell-other f ix xs c d n h k other =
    get_or-set_other xs (index_of f c) (index_of f d) n 0 (λ e. other (ix.one d c k h e))

-- what holds of the cells before an index, and of the cell at it
pub each_next : (f : Top) → IsIndexed f → (P : Triple → Type 0) (j : ℕ) (d : Triple) → InFrame f d → index_of f d ≡ j
    → ((e : Triple) → InFrame f e → index_of f e < j → P e) → P d
    → (e : Triple) → InFrame f e → index_of f e < j + 1 → P e
each_next f ix P j d inside at before here e i low =
    ⊎_elim (λ same. subst P (ix.one d e inside i (at ∙ sym same)) here)
    (λ other. before e i (omega (arith, low, other))) (cases_eq (index_of f e) j)

pub none_left : (marks : List Bool) → position not marks ≡ None → (k : ℕ) → k < length marks
    → get_or marks k false ≡ true
none_left marks e k inside =
    not-false (get_or marks k false)
    (fails_before_first not marks k false (at_end (ltb (position_or_len not marks) (length marks)) refl e))
  where
    at_end : (b : Bool) → ltb (position_or_len not marks) (length marks) ≡ b
        → cond b (Some (position_or_len not marks)) None ≡ None → k < position_or_len not marks
    at_end true q h = absurd (some_none h)
      where
        some_none : Some (position_or_len not marks) ≡ None → ⊥
        some_none h = cc
    at_end false q h = omega (arith, ltb-false (position_or_len not marks) (length marks) q, inside)

pub at_true : (b : Bool) (P : Type 0) → b ≡ true → OnTrue b P → P
at_true true P e h = h
at_true false P e h = absurd (apart (sym e))

pub at_false : (b : Bool) (P : Type 0) → b ≡ false → OnFalse b P → P
at_false true P e h = absurd (apart e)
at_false false P e h = h

pub not_iff : (b : Bool) → (not b ≡ true) ↔ (b ≡ false)
not_iff true = (λ h. absurd (apart (sym h)), λ h. absurd (apart h))
not_iff false = (λ h. refl, λ h. refl)

pub same_bool : (a b : Bool) → (a ≡ false) ↔ (b ≡ false) → a ≡ b
same_bool true true h = refl
same_bool true false h = absurd (apart (h.1 refl))
same_bool false true h = absurd (apart (h.0 refl))
same_bool false false h = refl
