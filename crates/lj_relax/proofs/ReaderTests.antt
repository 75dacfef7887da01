-- A cell of the frame reads a child exactly where the test of their numbers says so.
use Rattle.std.proofs.Common.{◌≡◌, ℕ, ◌+◌, ◌-◌, ◌<◌, ◌≤◌, ◌&&◌, eqb, leb, ltb, true, ⊎_elim, refl, sym, ap, arith}
use Rattle.std.proofs.Math.Bool.{◌||◌}
use Rattle.std.proofs.lemmas.Bool.{
  and_from,
  and_parts,
  cases_eq,
  eq-eqb,
  eqb-true,
  le-leb,
  leb-true,
  lt-ltb,
  ltb-true,
  or_cases,
  or_left,
  or_right,
}
use Rattle.lj_base.specs.Cells.{Triple}
use Rattle.lj_base.specs.Frames.{InFrame, Top}
use Rattle.lj_cover.specs.Instances.{Reads, by_add, by_drop, by_grow, by_induced, by_lower, by_product}
use Rattle.lj_cover.specs.Rules.{triple}
use Rattle.lj_relax.specs.Readers.{has_numbers, is_product_reader, is_reader}
use Rattle.lj_relax.proofs.Same.{same_cell}

numbers_true : (c : Triple) (v k t : ℕ) → c ≡ triple v k t → has_numbers c v k t ≡ true
numbers_true c v k t e =
    and_from _ _ (eq-eqb c.v v (ap (λ (d : Triple). d.v) e))
    (and_from _ _ (eq-eqb c.k k (ap (λ (d : Triple). d.k) e)) (eq-eqb c.t t (ap (λ (d : Triple). d.t) e)))

true_numbers : (c : Triple) (v k t : ℕ) → has_numbers c v k t ≡ true → c ≡ triple v k t
true_numbers c v k t h =
    let one = and_parts (eqb c.v v) (eqb c.k k && eqb c.t t) h in
    let two = and_parts (eqb c.k k) (eqb c.t t) one.1 in
    same_cell c (triple v k t) (eqb-true c.v v one.0) (eqb-true c.k k two.0) (eqb-true c.t t two.1)

product_true : (c e : Triple) → c.v < e.v → c.k ≤ e.k → c.t ≤ e.t → e.t - c.t ≤ e.k - c.k → e.k - c.k ≤ e.v - c.v
    → is_product_reader c e ≡ true
product_true c e v k t sets blocks =
    and_from _ _ (and_from _ _ (lt-ltb c.v e.v v) (and_from _ _ (le-leb c.k e.k k) (le-leb c.t e.t t)))
    (and_from _ _ (le-leb (e.t - c.t) (e.k - c.k) sets) (le-leb (e.k - c.k) (e.v - c.v) blocks))

true_product : (f : Top) (c e : Triple) → is_product_reader c e ≡ true → Reads f e c
true_product f c e h =
    let both =
    and_parts (ltb c.v e.v && (leb c.k e.k && leb c.t e.t))
    (leb (e.t - c.t) (e.k - c.k) && leb (e.k - c.k) (e.v - c.v)) h in
    let one = and_parts (ltb c.v e.v) (leb c.k e.k && leb c.t e.t) both.0 in
    let two = and_parts (leb c.k e.k) (leb c.t e.t) one.1 in
    let three = and_parts (leb (e.t - c.t) (e.k - c.k)) (leb (e.k - c.k) (e.v - c.v)) both.1 in
    by_product (ltb-true c.v e.v one.0) (leb-true c.k e.k two.0) (leb-true c.t e.t two.1)
    (leb-true (e.t - c.t) (e.k - c.k) three.0) (leb-true (e.k - c.k) (e.v - c.v) three.1)

by_factor : (f : Top) (c e : Triple) → is_product_reader c e ≡ true → is_reader f c e ≡ true
by_factor f c e h =
    or_right (has_numbers c (e.v + 1) e.k e.t || has_numbers c e.v e.k (e.t + 1)) _
    (or_right (has_numbers c e.v (e.k - 1) e.t && ltb e.t e.k) _
    (or_right (has_numbers c e.v e.k e.t && (ltb c.k c.v && leb c.v f.top.k)) _ h))

pub reads_true : (f : Top) (c e : Triple) → InFrame f c → InFrame f e → Reads f e c → is_reader f c e ≡ true
reads_true f c e h i (by_drop q) = or_left _ _ (or_left _ _ (numbers_true c (e.v + 1) e.k e.t q))
reads_true f c e h i (by_lower q less) = or_left _ _ (or_right _ _ (numbers_true c e.v e.k (e.t + 1) q))
reads_true f c e h i (by_grow q less) =
    or_right _ _ (or_left _ _ (and_from _ _ (numbers_true c e.v (e.k - 1) e.t q) (lt-ltb e.t e.k less)))
reads_true f c e h i (by_add q less) =
    let a = ap (λ (d : Triple). d.v) q in
    let b = ap (λ (d : Triple). d.k) q in
    let d = ap (λ (d : Triple). d.t) q in
    let some = h.cell.0 in
    by_factor f c e (product_true c e (omega arith) (omega arith) (omega arith) (omega arith) (omega arith))
reads_true f c e h i (by_product v k t sets blocks) =
    by_factor f c e (product_true c e v k t sets blocks)
reads_true f c e h i (by_induced q less more most) =
    let b = ap (λ (d : Triple). d.k) q in
    let d = ap (λ (d : Triple). d.t) q in
    ⊎_elim
    (λ (same : e.v ≡ c.v). or_right _ _ (or_right _ _ (or_left _ _
    (and_from _ _ (numbers_true c e.v e.k e.t (same_cell c (triple e.v e.k e.t) (sym same) b d))
    (and_from _ _ (lt-ltb c.k c.v (omega arith)) (le-leb c.v f.top.k most))))))
    (λ other. by_factor f c e (product_true c e (omega arith) (omega arith) (omega arith) (omega arith) (omega arith)))
    (cases_eq e.v c.v)

pub true_reads : (f : Top) (c e : Triple) → InFrame f c → InFrame f e → is_reader f c e ≡ true → Reads f e c
true_reads f c e h i t = ⊎_elim near far (or_cases _ _ t)
  where
    near : (has_numbers c (e.v + 1) e.k e.t || has_numbers c e.v e.k (e.t + 1)) ≡ true → Reads f e c
    near t =
        ⊎_elim (λ n. by_drop (true_numbers c (e.v + 1) e.k e.t n))
        (λ n.
        let q = true_numbers c e.v e.k (e.t + 1) n in
        let b = ap (λ (d : Triple). d.k) q in
        let d = ap (λ (d : Triple). d.t) q in
        let sets = h.cell.2 in
        by_lower q (omega arith))
        (or_cases _ _ t)

    cut : (has_numbers c e.v e.k e.t && (ltb c.k c.v && leb c.v f.top.k)) ≡ true → Reads f e c
    cut t =
        let one = and_parts (has_numbers c e.v e.k e.t) (ltb c.k c.v && leb c.v f.top.k) t in
        let two = and_parts (ltb c.k c.v) (leb c.v f.top.k) one.1 in
        let q = true_numbers c e.v e.k e.t one.0 in
        let a = ap (λ (d : Triple). d.v) q in
        let b = ap (λ (d : Triple). d.k) q in
        let d = ap (λ (d : Triple). d.t) q in
        let less = ltb-true c.k c.v two.0 in
        by_induced (same_cell c (triple c.v e.k e.t) refl b d) (omega arith) (omega arith) (leb-true c.v f.top.k two.1)

    far : ((has_numbers c e.v (e.k - 1) e.t && ltb e.t e.k)
        || ((has_numbers c e.v e.k e.t && (ltb c.k c.v && leb c.v f.top.k)) || is_product_reader c e)) ≡ true
        → Reads f e c
    far t =
        ⊎_elim
        (λ n.
        let one = and_parts (has_numbers c e.v (e.k - 1) e.t) (ltb e.t e.k) n in
        by_grow (true_numbers c e.v (e.k - 1) e.t one.0) (ltb-true e.t e.k one.1))
        (λ rest. ⊎_elim cut (true_product f c e) (or_cases _ _ rest))
        (or_cases _ _ t)
