-- The numbers of sets of a frame's cells are bounds.
use Rattle.std.proofs.Common.{◌≡◌, ◌↔◌, ℕ, ◌+◌, ◌≤◌, [], ◌∷◌, ◌++◌, length, map, take, Some, slice_get, refl, sym, ap}
use Rattle.std.proofs.Common.{◌∙◌, subst, arith}
use Rattle.std.proofs.lemmas.List.{length-map, map-append, take_more}
use Rattle.std.proofs.lemmas.Option.{get_or_from_slice_get, slice_get-map, slice_get_within}
use Rattle.std.specs.Option.{option_map}
use Rattle.lj_base.specs.Bounds.{AreBounds, at_cell}
use Rattle.lj_base.specs.Cells.{IsCell, Triple}
use Rattle.lj_base.specs.Colex.{choose}
use Rattle.lj_base.specs.Frames.{InFrame, Top, cells_of, index_of, size_of}
use Rattle.lj_relax.specs.Tickets.{all_sets}

-- one cell more
pub sets_more : (f : Top) (i : ℕ) (c : Triple) → slice_get (cells_of f) i ≡ Some c
    → map (λ (c : Triple). choose c.v c.t) (take i (cells_of f)) ++ choose c.v c.t ∷ []
    ≡ map (λ (c : Triple). choose c.v c.t) (take (i + 1) (cells_of f))
sets_more f i c at =
    let cells = cells_of f in
    let sets : Triple → ℕ = λ c. choose c.v c.t in
    let inside = slice_get_within cells i c at in
    sym (ap (map sets) (take_more cells i c inside
    ∙ ap (λ d. take i cells ++ d ∷ []) (get_or_from_slice_get cells i c c at))
    ∙ map-append sets (take i cells) (c ∷ []))

pub sets_are_bounds : ((f : Top) (i : ℕ) (c : Triple) → IsCell f.top
    → ((slice_get (cells_of f) i ≡ Some c) ↔ (InFrame f c × (index_of f c ≡ i))))
    → ((f : Top) → length (cells_of f) ≡ size_of f) → ((n k : ℕ) → k ≤ n → 1 ≤ choose n k)
    → (f : Top) → IsCell f.top → AreBounds f (all_sets f)
sets_are_bounds places count some f limits = record {
  count = length-map (cells_of f) sets ∙ count f;
  some = λ c inside.
      let few = inside.cell.2 in
      let most = inside.cell.3 in
      subst (λ n. 1 ≤ n) (sym (number c inside)) (some c.v c.t (omega arith));
  small = λ c inside. omega (arith, number c inside);
}
  where
    sets : Triple → ℕ
    sets c = choose c.v c.t

    number : (c : Triple) → InFrame f c → at_cell f (all_sets f) c ≡ choose c.v c.t
    number c inside =
        let at = (places f (index_of f c) c limits).1 (inside, refl) in
        get_or_from_slice_get (all_sets f) (index_of f c) (choose c.v c.t) 0
        (slice_get-map (λ (d : Triple). choose d.v d.t) (cells_of f) (index_of f c)
        ∙ ap (option_map (λ (d : Triple). choose d.v d.t)) at)
