-- The parts of a product that may follow the nodes of an arena.
use Rattle.std.proofs.Common.{◌≡◌, ℕ, ◌+◌, ◌-◌, ◌^◌, ◌<◌, ◌≤◌, ◌↔◌, min, List, [], ◌∷◌, length, map, take, refl}
use Rattle.std.proofs.Common.{ap, ap₂}
use Rattle.std.specs.List.{AllByRecursion, flat_map}
use Rattle.lj_base.specs.Cells.{Triple}
use Rattle.lj_base.specs.Frames.{InFrame}
use Rattle.lj_cover.specs.Derivations.{root_cells}
use Rattle.lj_cover.specs.Rules.{Chain, PartFits, part_cells, triple}
use Rattle.lj_cover.specs.Rules.{Part as TreePart}
use Rattle.lj_deriv.specs.Admission.{ArePartsFrom}
use Rattle.lj_deriv.specs.declared.rules.Part.{Part}
use Rattle.lj_deriv.specs.declared.rules.Rule.TheVariants.{Product}
use Rattle.lj_deriv.specs.Nodes.{IsAdmitted, Nodes, trees_at, trees_of}
use Rattle.lj_deriv.proofs.Pricing.{factors, product_of}

-- the parts as the rule has them
abbrev pub bare : List Part → List TreePart
bare ps = map (λ p. record { a = p.a; b = p.b; l = p.l }) ps

-- the parts follow each other, fit, and have their nodes, one thing after the other
pub record AreParts (a : Nodes) (c : Triple) (v1 lo hi : ℕ) (ps : List Part) : Type 0 where
  pub chain : Chain lo hi (bare ps)
  pub fits : AllByRecursion (PartFits c v1) (bare ps)
  pub there : AllByRecursion (λ i. i < length a.rules) (factors ps)
  pub fitting : root_cells (trees_at (trees_of a.uploads a.rules) (factors ps)) ≡ flat_map (part_cells c v1) (bare ps)

pub apart : (a : Nodes) (c : Triple) (v1 lo hi : ℕ) (ps : List Part) → ArePartsFrom a c v1 lo hi ps
    → AreParts a c v1 lo hi ps
apart a c v1 lo hi [] h = record { chain = h; fits = tt; there = tt; fitting = refl }
apart a c v1 lo hi (p ∷ ps) h =
    let rest = apart a c v1 (p.b + 1) hi ps h.3 in
    let one = h.2 in
    record {
      chain = (h.0, h.1, rest.chain);
      fits = (one.fits, rest.fits);
      there = (one.first, (one.second, rest.there));
      fitting = ap₂ (λ x cs. x ∷ cs) one.first_cell (ap₂ (λ x cs. x ∷ cs) one.second_cell rest.fitting);
    }

-- the first cell, and those after it
abbrev pub first_of : List Triple → Triple
first_of [] = triple 0 0 0
first_of (c ∷ cs) = c

abbrev pub rest_of : List Triple → List Triple
rest_of [] = []
rest_of (c ∷ cs) = cs

pub together : (a : Nodes) (c : Triple) (v1 lo hi : ℕ) (ps : List Part) → AreParts a c v1 lo hi ps
    → ArePartsFrom a c v1 lo hi ps
together a c v1 lo hi [] h = h.chain
together a c v1 lo hi (p ∷ ps) h =
    let rest = together a c v1 (p.b + 1) hi ps (record {
      chain = h.chain.2;
      fits = h.fits.1;
      there = h.there.1.1;
      fitting = ap (λ cs. rest_of (rest_of cs)) h.fitting;
    }) in (
      h.chain.0,
      h.chain.1,
      record {
        fits = h.fits.0;
        first = h.there.0;
        second = h.there.1.0;
        first_cell = ap first_of h.fitting;
        second_cell = ap (λ cs. first_of (rest_of cs)) h.fitting;
      },
      rest,
    )

-- a product is admitted exactly where its cell is in the frame, both sides have points, its array holds its parts,
-- these follow each other with their nodes, and cost less than the limit
pub product_law : (a : Nodes) (c : Triple) (v1 : ℕ) (parts : List Part) (count : ℕ) → InFrame a.frame c → 1 ≤ v1
    → v1 < c.v → count ≤ 9
    → (ArePartsFrom a c v1 (c.t - (c.v - v1)) (min c.t v1) (take count parts)
    × (product_of (trees_of a.uploads a.rules) (take count parts) < 2 ^ 38)) ↔ IsAdmitted a (Product c v1 parts count)
product_law a c v1 parts count inside first second few = (
  (λ y.
      let h = apart a c v1 _ _ (take count parts) y.0 in
      record {
        valid = record {
          shaped = few;
          children = h.there;
          uploads_there = tt;
          sound = record {
            in_limits = inside.cell;
            condition = record { first_side = first; second_side = second; chain = h.chain; fits = h.fits };
            upload_covers = tt;
          };
          fitting = h.fitting;
          small = y.1;
        };
        inside = inside;
      }),
  (λ x. (
    together a c v1 _ _ (take count parts) (record {
      chain = x.valid.sound.condition.chain;
      fits = x.valid.sound.condition.fits;
      there = x.valid.children;
      fitting = x.valid.fitting;
    }),
    x.valid.small,
  )),
)
