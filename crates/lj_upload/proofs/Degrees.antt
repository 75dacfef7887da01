-- What the table of pairs says of the degrees of points and pairs.
use Rattle.std.proofs.Common.{◌≡◌, ℕ, ◌<◌, Bool, true, false, ◌&&◌, List, Option, Some, None, length, refl, sym, ap}
use Rattle.std.proofs.Common.{◌∙◌, arith}
use Rattle.std.specs.List.{count_by}
use Rattle.std.specs.Option.{MatchOption}
use Rattle.lj_cover.specs.Operations.{has_point}
use Rattle.lj_cover.specs.Operations.{degree_at, pair_degree_at}
use Rattle.lj_upload.specs.Degrees.{IsFirstLeast, IsFirstLeastPair, IsLeastDegree}
use Rattle.lj_upload.specs.Degrees.{IsLeastPair}
use Rattle.lj_upload.specs.Tables.{entry, CountsPairs}

and_same : (b : Bool) → (b && b) ≡ b
and_same true = refl
and_same false = refl

-- the entry of a point with itself
entry_degree : (v x : ℕ) (blocks table : List (List ℕ)) → CountsPairs v blocks table
    → entry table x x ≡ degree_at blocks x
entry_degree v x blocks table h =
    h.each x x (omega arith) ∙ ap (λ (p : List ℕ → Bool). count_by p blocks) (λ i b. and_same (has_point b x) i)

pub least_degree : (v x n : ℕ) (blocks table items : List (List ℕ)) → items ≡ table → CountsPairs v blocks table
    → IsFirstLeast 0 (length items) (λ x. entry items x x) x n → IsLeastDegree v blocks x n
least_degree v x n blocks table items same h least =
    let rows : length items ≡ v = ap length same ∙ h.rows in
    let degree : (y : ℕ) → entry items y y ≡ degree_at blocks y = λ y. ap (λ t. entry t y y) same
    ∙ entry_degree v y blocks table h in
    record {
      from = least.from;
      below = omega (arith, least.below);
      value = least.value ∙ degree x;
      least = λ y from below. omega (arith, least.least y from (omega arith), degree y);
      first = λ y from before. omega (arith, least.first y from before, degree y);
    }

pair_least : (v x y n : ℕ) (blocks table items : List (List ℕ)) → items ≡ table → CountsPairs v blocks table
    → IsFirstLeastPair (length items) (length items) (λ x y. entry items x y) x y n → IsLeastPair v blocks x y n
pair_least v x y n blocks table items same h least =
    let rows : length items ≡ v = ap length same ∙ h.rows in
    let degree : (p q : ℕ) → p < q → entry items p q ≡ pair_degree_at blocks p q = λ p q order. ap
    (λ t. entry t p q) same ∙ h.each p q (omega arith) in
    record {
      low = omega (arith, least.low);
      order = least.order;
      inside = omega (arith, least.inside);
      value = least.value ∙ degree x y least.order;
      least =
          λ p q low order inside. omega (arith, least.least p q (omega arith) order (omega arith), degree p q order);
      first = λ p q order inside before. omega (arith, least.first p q order (omega arith) before, degree p q order);
    }

pub least_pair : (v : ℕ) (found : Option (ℕ × ℕ × ℕ)) (blocks table items : List (List ℕ)) → items ≡ table
    → CountsPairs v blocks table
    → MatchOption found (length items ≡ 1) (λ pair. IsFirstLeastPair (length items) (length items)
    (λ x y. entry items x y) pair.0 pair.1 pair.2)
    → MatchOption found (v ≡ 1) (λ pair. IsLeastPair v blocks pair.0 pair.1 pair.2)
least_pair v None blocks table items same h one = sym (ap length same ∙ h.rows) ∙ one
least_pair v (Some pair) blocks table items same h least =
    pair_least v pair.0 pair.1 pair.2 blocks table items same h least
