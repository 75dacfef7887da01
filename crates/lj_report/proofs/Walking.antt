-- The listed cells in order: the first one, and the one after the last v of its k.
use Rattle.std.proofs.Common.{◌≡◌, ℕ, suc, ◌+◌, ◌-◌, ◌<◌, ◌≤◌, [], ◌∷◌, ◌++◌, Some, map, sym, ap, ap₂, ◌∙◌, arith}
use Rattle.std.proofs.Common.{append_assoc}
use Rattle.std.specs.List.{flat_map, range_with_len}
use Rattle.lj_base.specs.Frames.{Top}
use Rattle.lj_report.specs.ReportCells.{from_to, cells_from_v, cells_from_k, cells_from_t, cells_from}

from_to-first : (a b : ℕ) → a ≤ b → from_to a b ≡ a ∷ from_to (suc a) b
from_to-first a b some =
    let count : suc b - a ≡ suc (b - a) = omega arith in
    let next : a + 1 ≡ suc a = omega arith in
    let rest : b - a ≡ suc b - suc a = omega arith in
    ap (range_with_len a) count ∙ ap₂ (λ m n. a ∷ range_with_len m n) next rest

module _ (f : Top) where
  cells_from_v-first : (t k v : ℕ) → v ≤ f.top.v
      → cells_from_v f t k v ≡ record { v = v; k = k; t = t } ∷ cells_from_v f t k (suc v)
  cells_from_v-first t k v some = ap (map _) (from_to-first v f.top.v some)

  cells_from_k-first : (t k : ℕ) → k ≤ f.top.k
      → cells_from_k f t k ≡ cells_from_v f t k (suc k) ++ cells_from_k f t (suc k)
  cells_from_k-first t k some = ap (flat_map _) (from_to-first k f.top.k some)

  pub cells_from_t-first : (t k v : ℕ) → t ≤ f.top.t → k ≡ suc t → v ≡ suc k → k ≤ f.top.k
      → cells_from_t f t ≡ cells_from f (Some (record { v = v; k = k; t = t }))
  cells_from_t-first t k v some k_is v_is room =
      let rest = cells_from_t f (suc t) in
      ap (flat_map _) (from_to-first t f.top.t some)
      ∙ ap (λ n. cells_from_k f t n ++ rest) (sym k_is)
      ∙ ap (λ xs. xs ++ rest) (cells_from_k-first t k room)
      ∙ append_assoc (cells_from_v f t k (suc k)) (cells_from_k f t (suc k)) rest
      ∙ ap (λ n. cells_from_v f t k n ++ (cells_from_k f t (suc k) ++ rest)) (sym v_is)

  last_v : (t k v : ℕ) → v ≡ f.top.v → cells_from_v f t k v ≡ record { v = v; k = k; t = t } ∷ []
  last_v t k v last =
      let none : suc f.top.v - suc v ≡ 0 = omega arith in
      let none_left : cells_from_v f t k (suc v) ≡ [] =
      ap (λ n. map (λ m. record { v = m; k = k; t = t }) (range_with_len (suc v) n)) none in
      cells_from_v-first t k v (omega arith) ∙ ap (λ xs. record { v = v; k = k; t = t } ∷ xs) none_left

  pub next_k : (t k v m w : ℕ) → v ≡ f.top.v → k < f.top.k → m ≡ suc k → w ≡ suc m
      → cells_from f (Some (record { v = v; k = k; t = t })) ≡ record { v = v; k = k; t = t } ∷ cells_from f
      (Some (record { v = w; k = m; t = t }))
  next_k t k v m w last more m_is w_is =
      let rest = cells_from_t f (suc t) in
      ap (λ xs. xs ++ (cells_from_k f t (suc k) ++ rest)) (last_v t k v last)
      ∙ ap (λ n. record { v = v; k = k; t = t } ∷ (cells_from_k f t n ++ rest)) (sym m_is)
      ∙ ap (λ xs. record { v = v; k = k; t = t } ∷ (xs ++ rest)) (cells_from_k-first t m (omega arith))
      ∙ ap (λ xs. record { v = v; k = k; t = t } ∷ xs)
      (append_assoc (cells_from_v f t m (suc m)) (cells_from_k f t (suc m)) rest)
      ∙ ap (λ n. record { v = v; k = k; t = t } ∷ (cells_from_v f t m n ++ (cells_from_k f t (suc m) ++ rest)))
      (sym w_is)
