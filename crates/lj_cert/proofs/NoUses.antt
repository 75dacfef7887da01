-- Lines whose rules are no use that the table of rules allows.
use Rattle.std.proofs.Common.{◌≡◌, ℕ, ◌+◌, ◌-◌, ◌<◌, ◌≤◌, List, [], ◌∷◌, length, map, min}
use Rattle.std.proofs.Common.{arith, ap, ◌∙◌, subst}
use Rattle.std.proofs.lemmas.List.{length-map}
use Rattle.std.specs.List.{AllByRecursion, flat_map}
use Rattle.lj_base.specs.Cells.{Triple}
use Rattle.lj_cover.specs.Derivations.{IsSound}
use Rattle.lj_cover.specs.Rules.{Chain, Part, PartFits, Upload}
use Rattle.lj_deriv.specs.Trees.{sizes_of, upload_at}
use Rattle.lj_cert.proofs.OneRefusal.{same_named}
use Rattle.lj_cert.proofs.StoredUses.{named_at}
use Rattle.lj_cert.specs.Places.{IsPlaceOf}
use Rattle.lj_cert.specs.Storing.{IsNoUse, IsPlainPart, child_sizes}
use Rattle.lj_cert.specs.Unfolding.{IsNamed, part_of}
use Rattle.lj_cert.specs.Values.{AreDistinct}
use Rattle.lj_cert.specs.declared.certs.CertChild.{CertChild}
use Rattle.lj_cert.specs.declared.certs.CertPart.{CertPart}
use Rattle.lj_cert.specs.declared.certs.CertRule.TheVariants.{Leaf, Derived, Derived2, Product, Induced}

-- no upload has the name and ordinal
abbrev pub IsUnnamed : List Upload → List ℕ → ℕ → Type 0
IsUnnamed us client o = (u : Upload) → IsNamed us client o u → ⊥

pub no_leaf : (us : List Upload) (c : Triple) (client : List ℕ) (o : ℕ) → IsUnnamed us client o
    → IsNoUse us c (Leaf client o)
no_leaf us c client o none = λ r is h sound some. none h.0 h.1

pub no_derived : (us : List Upload) (c : Triple) (client : List ℕ) (o x : ℕ) → IsUnnamed us client o
    → IsNoUse us c (Derived client o x)
no_derived us c client o x none = λ r is h sound some. none h.0 h.1

pub no_derived2 : (us : List Upload) (c : Triple) (client : List ℕ) (o x y : ℕ) → IsUnnamed us client o
    → IsNoUse us c (Derived2 client o x y)
no_derived2 us c client o x y none = λ r is h sound some. none h.0 h.1

pub no_induced : (us : List Upload) (c : Triple) (client : List ℕ) (o : ℕ) (children : List CertChild)
    → IsUnnamed us client o → IsNoUse us c (Induced client o children)
no_induced us c client o children none = λ r is h sound some. none h.0 h.1

-- ---- points past those of any cell

pub no_point : (us : List Upload) (c : Triple) (client : List ℕ) (o x : ℕ) → (1 ≤ x → 99 < x)
    → IsNoUse us c (Derived client o x)
no_point us c client o x far = λ r is h sound some.
    let s = subst IsSound h.3 sound in
    let past = far h.2 in
    omega (arith, h.2, past, s.condition.2, s.upload_covers.in_limits.1)

pub no_first_point : (us : List Upload) (c : Triple) (client : List ℕ) (o x y : ℕ) → (1 ≤ x → 99 < x)
    → IsNoUse us c (Derived2 client o x y)
no_first_point us c client o x y far = λ r is h sound some.
    let s = subst IsSound h.3 sound in
    let past = far h.2 in
    omega (arith, h.2, past, s.condition.2, s.condition.3, s.upload_covers.in_limits.1)

pub no_second_point : (us : List Upload) (c : Triple) (client : List ℕ) (o x y : ℕ) → (1 ≤ y → 99 < y)
    → IsNoUse us c (Derived2 client o x y)
no_second_point us c client o x y far = λ r is h sound some.
    let s = subst IsSound h.3 sound in
    let counted : 1 ≤ y = omega (arith, s.condition.2) in
    let past = far counted in
    omega (arith, past, s.condition.2, s.condition.3, s.upload_covers.in_limits.1)

-- ---- products

chain_length : (lo hi : ℕ) (ps : List Part) → Chain lo hi ps → lo + length ps ≤ hi + 1
chain_length lo hi [] h = omega (arith, h)
chain_length lo hi (p ∷ ps) h =
    let later = chain_length (p.b + 1) hi ps h.2 in
    omega (arith, h.0, h.1, later)

pub too_many_parts : (us : List Upload) (c : Triple) (v1 : ℕ) (parts : List CertPart) → 9 < length parts
    → IsNoUse us c (Product v1 parts)
too_many_parts us c v1 parts many = λ r is h sound some.
    let s = subst IsSound h.0 sound in
    let few = chain_length (c.t - (c.v - v1)) (min c.t v1) (map part_of parts) s.condition.chain in
    omega (arith, many, few, length-map parts part_of, s.in_limits.5)

pub no_side : (us : List Upload) (c : Triple) (v1 : ℕ) (parts : List CertPart) → 99 < v1
    → IsNoUse us c (Product v1 parts)
no_side us c v1 parts far = λ r is h sound some.
    let s = subst IsSound h.0 sound in
    omega (arith, far, s.condition.second_side, s.in_limits.1)

plain_parts : (c : Triple) (v1 lo hi : ℕ) (parts : List CertPart) → v1 ≤ 99 → Chain lo hi (map part_of parts)
    → AllByRecursion (PartFits c v1) (map part_of parts)
    → AllByRecursion (λ n. 1 ≤ n) (flat_map (λ (p : CertPart). p.first ∷ p.second ∷ []) parts)
    → AllByRecursion IsPlainPart parts
plain_parts c v1 lo hi [] small chain fits some = tt
plain_parts c v1 lo hi (p ∷ ps) small chain fits some = (
  record {
    a = omega (arith, chain.1, fits.0.first_sets, fits.0.first_blocks, small);
    b = omega (arith, fits.0.first_sets, fits.0.first_blocks, small);
    l = omega (arith, fits.0.first_blocks, small);
    first = some.0;
    second = some.1.0;
  },
  plain_parts c v1 (p.b + 1) hi ps small chain.2 fits.1 some.1.1,
)

pub no_plain_parts : (us : List Upload) (c : Triple) (v1 : ℕ) (parts : List CertPart)
    → (AllByRecursion IsPlainPart parts → ⊥) → IsNoUse us c (Product v1 parts)
no_plain_parts us c v1 parts none = λ r is h sound some.
    let s = subst IsSound h.0 sound in
    let small : v1 ≤ 99 = omega (arith, s.condition.second_side, s.in_limits.1) in
    none (plain_parts c v1 (c.t - (c.v - v1)) (min c.t v1) parts small s.condition.chain s.condition.fits
    (subst (AllByRecursion (λ n. 1 ≤ n)) h.1 some))

-- ---- cuts

pub no_width : (us : List Upload) (c : Triple) (client : List ℕ) (o u : ℕ) (children : List CertChild) → AreDistinct us
    → IsPlaceOf us client o u → (upload_at us u).cell.v < c.v → IsNoUse us c (Induced client o children)
no_width us c client o u children distinct place wide = λ r is h sound some.
    let same = same_named us client o h.0 (upload_at us u) distinct h.1 (named_at us client o u place) in
    let s = subst IsSound h.2 sound in
    let width = ap (λ (w : Upload). w.cell.v) same in
    omega (arith, wide, width, s.condition.2)

pub no_sizes : (us : List Upload) (c : Triple) (client : List ℕ) (o u : ℕ) (children : List CertChild) → AreDistinct us
    → IsPlaceOf us client o u → (child_sizes children ≡ sizes_of (upload_at us u) c.k c.v → ⊥)
    → IsNoUse us c (Induced client o children)
no_sizes us c client o u children distinct place none = λ r is h sound some.
    let same = same_named us client o h.0 (upload_at us u) distinct h.1 (named_at us client o u place) in
    none (h.3 ∙ ap (λ (w : Upload). sizes_of w c.k c.v) same)

numbered : (children : List CertChild) → AllByRecursion (λ n. 1 ≤ n) (map (λ (p : CertChild). p.child) children)
    → AllByRecursion (λ (p : CertChild). 1 ≤ p.child) children
numbered [] h = tt
numbered (p ∷ ps) h = (h.0, numbered ps h.1)

pub no_numbers : (us : List Upload) (c : Triple) (client : List ℕ) (o : ℕ) (children : List CertChild)
    → (AllByRecursion (λ (p : CertChild). 1 ≤ p.child) children → ⊥) → IsNoUse us c (Induced client o children)
no_numbers us c client o children none = λ r is h sound some.
    none (numbered children (subst (AllByRecursion (λ n. 1 ≤ n)) h.4 some))
