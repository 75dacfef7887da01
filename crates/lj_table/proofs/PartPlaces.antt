-- Parts of a product, place by place.
use Rattle.std.proofs.Common.{ℕ, zero, suc, ◌+◌, ◌<◌, ◌≤◌, List, [], ◌∷◌, length, map, take, get_or, arith}
use Rattle.std.specs.List.{AllByRecursion, flat_map}
use Rattle.lj_base.specs.Cells.{Triple}
use Rattle.lj_base.specs.Frames.{InFrame, Top}
use Rattle.lj_cover.specs.Rules.{Chain, Part, PartFits, part_cells}
use Rattle.lj_table.specs.RulesOver.{IsServed}

pub at_place : {X Y : Type 0} (P : Y → Type 0) (g : X → Y) (xs : List X) (n i : ℕ) (d : X)
    → AllByRecursion P (map g (take n xs)) → i < n → i < length xs → P (g (get_or xs i d))
at_place P g [] n i d h low inside = absurd (omega (arith, inside))
at_place P g (x ∷ xs) zero i d h low inside = absurd (omega (arith, low))
at_place P g (x ∷ xs) (suc n) zero d h low inside = h.0
at_place P g (x ∷ xs) (suc n) (suc i) d h low inside =
    at_place P g xs n i d h.1 (omega (arith, low)) (omega (arith, inside))

pub served : (order : (lo hi : ℕ) (ps : List Part) → Chain lo hi ps → lo ≤ hi + 1)
    → (f : Top) (c : Triple) (v1 lo hi : ℕ) (ps : List Part) → hi ≤ c.t → Chain lo hi ps
    → AllByRecursion (PartFits c v1) ps
    → AllByRecursion (InFrame f) (flat_map (part_cells c v1) ps) → AllByRecursion (IsServed f c v1) ps
served order f c v1 lo hi [] most chain fits inside = tt
served order f c v1 lo hi (p ∷ ps) most chain fits inside =
    let last = order (p.b + 1) hi ps chain.2 in
    let ordered = chain.1 in
    let fit = fits.0 in (
      record {
        k = omega (arith, fit.second_sets, last, ordered, most);
        t = omega (arith, last, ordered, most);
        first = inside.0;
        second = inside.1.0;
      },
      served order f c v1 (p.b + 1) hi ps most chain.2 fits.1 inside.1.1,
    )
