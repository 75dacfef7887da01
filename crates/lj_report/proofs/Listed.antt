-- Which cells are listed, and in which order.
use Rattle.std.proofs.Common.{◌≡◌, ℕ, zero, suc, ◌+◌, ◌-◌, ◌*◌, ◌<◌, ◌≤◌, List, [], ◌∷◌, ◌++◌, length, map, refl, arith}
use Rattle.std.proofs.Common.{inl, inr, ⊎_elim, sym, ◌∙◌}
use Rattle.std.proofs.lemmas.Bool.{cases_lt}
use Rattle.std.proofs.lemmas.List.Elements.{All-contains, All-from_recursion, Contains-append_left}
use Rattle.std.proofs.lemmas.List.Elements.{Contains-append_right}
use Rattle.std.proofs.lemmas.List.Kept.{AllPairs-cons}
use Rattle.std.proofs.lemmas.List.{length-append}
use Rattle.std.proofs.lemmas.List.FromFn.{length-map-range_with_len}
use Rattle.std.specs.List.{AllByRecursion, AllPairs, Contains, flat_map, range_with_len}
use Rattle.lj_base.proofs.Lists.{AllByRecursion-append, AllByRecursion-weaker, length-joined}
use Rattle.lj_base.specs.Cells.{IsCell, Triple}
use Rattle.lj_base.specs.Frames.{Top}
use Rattle.lj_report.specs.ReportCells.{IsListed, IsListedBefore, cells_from_v, cells_from_k, cells_from_t}
use Rattle.lj_report.specs.ReportCells.{report_cells}

-- ---- each listed cell

all_mapped : {X : Type 0} (P : X → Type 0) (f : ℕ → X) (a n : ℕ) → ((i : ℕ) → a ≤ i → i < a + n → P (f i))
    → AllByRecursion P (map f (range_with_len a n))
all_mapped P f a zero each = tt
all_mapped P f a (suc n) each =
    (each a (omega arith) (omega arith), all_mapped P f (a + 1) n (λ i low high. each i (omega arith) (omega arith)))

all_joined : {X : Type 0} (P : X → Type 0) (f : ℕ → List X) (a n : ℕ)
    → ((i : ℕ) → a ≤ i → i < a + n → AllByRecursion P (f i)) → AllByRecursion P (flat_map f (range_with_len a n))
all_joined P f a zero each = tt
all_joined P f a (suc n) each =
    AllByRecursion-append P (f a) (flat_map f (range_with_len (a + 1) n)) (each a (omega arith) (omega arith))
    (all_joined P f (a + 1) n (λ i low high. each i (omega arith) (omega arith)))

pub all_listed : (f : Top) (t : ℕ) → IsCell f.top → 1 ≤ t → AllByRecursion (IsListed f) (cells_from_t f t)
all_listed f t cell some =
    all_joined (IsListed f) (λ s. cells_from_k f s (suc s)) t (suc f.top.t - t)
    (λ s s_low s_high. all_joined (IsListed f) (λ k. cells_from_v f s k (suc k)) (suc s) (suc f.top.k - suc s)
    (λ k k_low k_high. all_mapped (IsListed f) (λ v. record { v = v; k = k; t = s }) (suc k) (suc f.top.v - suc k)
    (λ v v_low v_high. record {
      inside = record {
        cell = (
          omega arith,
          omega (arith, cell),
          omega arith,
          omega arith,
          omega (arith, cell),
          omega
              (arith, cell),
        );
        v = omega arith;
        k = omega arith;
        t = omega arith;
      };
      some_t = omega arith;
      greater_k = omega arith;
      greater_v = omega arith;
    })))

-- ---- each cell of this kind is listed

Contains-mapped : {X : Type 0} (f : ℕ → X) (a n i : ℕ) → a ≤ i → i < a + n → Contains (map f (range_with_len a n)) (f i)
Contains-mapped f a zero i low high = absurd (omega arith)
Contains-mapped f a (suc n) i low high =
    ⊎_elim (λ later. Contains-append_right (f a ∷ []) (map f (range_with_len (a + 1) n)) (f i)
    (Contains-mapped f (a + 1) n i (omega arith) (omega arith)))
    (λ (here : i ≤ a). let same : i ≡ a = omega arith in rw same (0, omega arith, refl))
    (cases_lt a i)

Contains-joined : {X : Type 0} (f : ℕ → List X) (a n i : ℕ) (x : X) → a ≤ i → i < a + n → Contains (f i) x
    → Contains (flat_map f (range_with_len a n)) x
Contains-joined f a zero i x low high h = absurd (omega arith)
Contains-joined f a (suc n) i x low high h =
    ⊎_elim (λ later. Contains-append_right (f a) (flat_map f (range_with_len (a + 1) n)) x
    (Contains-joined f (a + 1) n i x (omega arith) (omega arith) h))
    (λ (here : i ≤ a). let same : i ≡ a = omega arith in Contains-append_left (f a)
    (flat_map f (range_with_len (a + 1) n)) x (rw same at h))
    (cases_lt a i)

Contains-report_cells : (f : Top) (c : Triple) → IsListed f c → Contains (report_cells f) c
Contains-report_cells f c h =
    Contains-joined (λ t. cells_from_k f t (suc t)) 1 (suc f.top.t - 1) c.t c h.some_t (omega (arith, h.inside.t))
    (Contains-joined (λ k. cells_from_v f c.t k (suc k)) (suc c.t) (suc f.top.k - suc c.t) c.k c
    (omega (arith, h.greater_k)) (omega (arith, h.greater_k, h.inside.k))
    (Contains-mapped (λ v. record { v = v; k = c.k; t = c.t }) (suc c.k) (suc f.top.v - suc c.k) c.v
    (omega (arith, h.greater_v)) (omega (arith, h.greater_v, h.inside.v))))

pub members : (f : Top) (c : Triple) → IsCell f.top
    → (Contains (report_cells f) c → IsListed f c) × (IsListed f c → Contains (report_cells f) c)
members f c cell = (
  λ h. All-contains (IsListed f) (report_cells f) c
      (All-from_recursion (IsListed f) (report_cells f) (all_listed f 1 cell (omega arith))) h,
  Contains-report_cells f c,
)

-- ---- how many they are

pub few_listed : (f : Top) (t : ℕ) → IsCell f.top → 1 ≤ t → length (cells_from_t f t) ≤ 8 * (25 * 99)
few_listed f t cell some =
    let row : (s k : ℕ) → length (cells_from_v f s k (suc k)) ≤ 99 = λ s k. omega (
      arith,
      length-map-range_with_len (λ v. let c : Triple = record { v = v; k = k; t = s } in c) (suc k)
          (suc f.top.v - suc k),
      cell,
    ) in
    let layer : (s : ℕ) → length (cells_from_k f s (suc s)) ≤ 25 * 99 = λ s.
    let rows = length-joined (λ k. cells_from_v f s k (suc k)) (suc s) (suc f.top.k - suc s) 99 (λ k low. row s k) in
    omega (arith, rows, cell) in
    let layers = length-joined (λ s. cells_from_k f s (suc s)) t (suc f.top.t - t) (25 * 99) (λ s low. layer s) in
    omega (arith, layers, cell)

-- ---- their order

-- each item has this relation to each later one
abbrev Ordered : {X : Type 0} → (X → X → Type 0) → List X → Type 0
Ordered R [] = Unit {0}
Ordered R (x ∷ xs) = AllByRecursion (R x) xs × Ordered R xs

-- each item of the first list has this relation to each of the second
abbrev Across : {X : Type 0} → (X → X → Type 0) → List X → List X → Type 0
Across R xs ys = AllByRecursion (λ x. AllByRecursion (R x) ys) xs

Ordered-append : {X : Type 0} (R : X → X → Type 0) (xs ys : List X) → Ordered R xs → Ordered R ys → Across R xs ys
    → Ordered R (xs ++ ys)
Ordered-append R [] ys h g across = g
Ordered-append R (x ∷ xs) ys h g across =
    (AllByRecursion-append (R x) xs ys h.0 across.0, Ordered-append R xs ys h.1 g across.1)

Across-from : {X : Type 0} (R : X → X → Type 0) (P Q : X → Type 0) (xs ys : List X) → AllByRecursion P xs
    → AllByRecursion Q ys → ((x y : X) → P x → Q y → R x y) → Across R xs ys
Across-from R P Q xs ys h g each =
    AllByRecursion-weaker P (λ x. AllByRecursion (R x) ys) xs
    (λ x p. AllByRecursion-weaker Q (R x) ys (λ y q. each x y p q) g) h

Ordered-mapped : {X : Type 0} (R : X → X → Type 0) (f : ℕ → X) (a n : ℕ) → ((i j : ℕ) → i < j → R (f i) (f j))
    → Ordered R (map f (range_with_len a n))
Ordered-mapped R f a zero each = tt
Ordered-mapped R f a (suc n) each =
    (all_mapped (R (f a)) f (a + 1) n (λ j low high. each a j (omega arith)), Ordered-mapped R f (a + 1) n each)

Across-joined : {X : Type 0} (R : X → X → Type 0) (f : ℕ → List X) (xs : List X) (a n : ℕ)
    → ((j : ℕ) → a ≤ j → Across R xs (f j)) → Across R xs (flat_map f (range_with_len a n))
Across-joined R f [] a n each = tt
Across-joined R f (x ∷ xs) a n each =
    (all_joined (R x) f a n (λ j low high. (each j low).0), Across-joined R f xs a n (λ j low. (each j low).1))

Ordered-joined : {X : Type 0} (R : X → X → Type 0) (f : ℕ → List X) (a n : ℕ) → ((i : ℕ) → Ordered R (f i))
    → ((i j : ℕ) → i < j → Across R (f i) (f j)) → Ordered R (flat_map f (range_with_len a n))
Ordered-joined R f a zero within across = tt
Ordered-joined R f a (suc n) within across =
    Ordered-append R (f a) (flat_map f (range_with_len (a + 1) n)) (within a)
    (Ordered-joined R f (a + 1) n within across)
    (Across-joined R f (f a) (a + 1) n (λ j low. across a j (omega arith)))

AllPairs-from : {X : Type 0} (R : X → X → Type 0) (xs : List X) → Ordered R xs → AllPairs R xs
AllPairs-from R [] h = λ i j d before below. absurd (omega arith)
AllPairs-from R (x ∷ xs) h = AllPairs-cons R x xs (All-from_recursion (R x) xs h.0) (AllPairs-from R xs h.1)

module _ (f : Top) where
  same_k : (t k v : ℕ) → AllByRecursion (λ c. (c.t ≡ t) × (c.k ≡ k)) (cells_from_v f t k v)
  same_k t k v =
      all_mapped (λ c. (c.t ≡ t) × (c.k ≡ k)) (λ n. record { v = n; k = k; t = t }) v (suc f.top.v - v)
      (λ n low high. (refl, refl))

  same_t : (t k : ℕ) → AllByRecursion (λ c. c.t ≡ t) (cells_from_k f t k)
  same_t t k =
      all_joined (λ c. c.t ≡ t) (λ n. cells_from_v f t n (suc n)) k (suc f.top.k - k)
      (λ n low high. all_mapped (λ c. c.t ≡ t) (λ m. record { v = m; k = n; t = t }) (suc n) (suc f.top.v - suc n)
      (λ m m_low m_high. refl))

  ordered_v : (t k v : ℕ) → Ordered IsListedBefore (cells_from_v f t k v)
  ordered_v t k v =
      Ordered-mapped IsListedBefore (λ n. record { v = n; k = k; t = t }) v (suc f.top.v - v)
      (λ i j less. inr (refl, inr (refl, less)))

  ordered_k : (t k : ℕ) → Ordered IsListedBefore (cells_from_k f t k)
  ordered_k t k =
      Ordered-joined IsListedBefore (λ n. cells_from_v f t n (suc n)) k (suc f.top.k - k) (λ n. ordered_v t n (suc n))
      (λ m n less. Across-from IsListedBefore (λ c. (c.t ≡ t) × (c.k ≡ m)) (λ c. (c.t ≡ t) × (c.k ≡ n))
      (cells_from_v f t m (suc m)) (cells_from_v f t n (suc n))
      (same_k t m (suc m)) (same_k t n (suc n)) (λ a b p q. inr (p.0 ∙ sym q.0, inl (omega (arith, p.1, q.1)))))

  ordered_t : (t : ℕ) → Ordered IsListedBefore (cells_from_t f t)
  ordered_t t =
      Ordered-joined IsListedBefore (λ n. cells_from_k f n (suc n)) t (suc f.top.t - t) (λ n. ordered_k n (suc n))
      (λ m n less. Across-from IsListedBefore (λ c. c.t ≡ m) (λ c. c.t ≡ n) (cells_from_k f m (suc m))
      (cells_from_k f n (suc n))
      (same_t m (suc m)) (same_t n (suc n)) (λ a b p q. inl (omega (arith, p, q))))

  pub in_order : AllPairs IsListedBefore (report_cells f)
  in_order = AllPairs-from IsListedBefore (report_cells f) (ordered_t 1)
