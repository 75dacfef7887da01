-- The certificate of a table at rest.
use Rattle.std.proofs.Common.{◌≡◌, ◌∙◌, ◌↔◌, ℕ, suc, List, [], ◌∷◌, Some, arith, length, map, refl, sym, ap, ap₂}
use Rattle.std.proofs.Common.{subst, slice_get, slice_index}
use Rattle.std.proofs.lemmas.List.Elements.{Contains-get_or}
use Rattle.std.specs.List.{AllByRecursion, Contains}
use Rattle.lj_base.proofs.Lists.{AllByRecursion-from_places, AllByRecursion-weaker, map-map}
use Rattle.lj_base.specs.Bounds.{at_cell}
use Rattle.lj_base.specs.Cells.{IsCell, Triple}
use Rattle.lj_base.specs.Frames.{InFrame, Top, cells_of, index_of, size_of}
use Rattle.lj_cert.specs.Certificates.{IsCert}
use Rattle.lj_cert.specs.Good.{IsGood, bounds_of}
use Rattle.lj_cert.specs.Texts.{IsForestFor, IsHeldIn, cert_bound, cert_of, cert_text}
use Rattle.lj_cert.specs.Values.{CertValue}
use Rattle.lj_cert.specs.declared.certs.CertBound.{CertBound}
use Rattle.lj_cover.specs.Rules.{Upload}
use Rattle.lj_deriv.specs.Forests.{ForestValue, IsForestOf}
use Rattle.lj_table.specs.Tables.{AreLeast, Contents, IsTable}
use Rattle.lj_cli.specs.CertifyOutput.{AreCheckedIn, IsCertificateOf}

-- each upload is one of the list
all_there : (us : List Upload) → AllByRecursion (Contains us) us
all_there us =
    let other : Upload = record { client = []; ordinal = 0; cell = record { v = 0; k = 0; t = 0 }; blocks = [] } in
    AllByRecursion-from_places (Contains us) other us (λ i inside. Contains-get_or us i other inside)

-- the forest of a table has the nodes of its cells
pub forest_for : (t : Contents) (f : ForestValue) → IsForestOf t.arena t.nodes f → IsTable t
    → IsForestFor t.arena.frame t.arena.uploads f t.bounds
forest_for t f is table = record {
  arena = t.arena;
  nodes = t.nodes;
  forest = is;
  frame_is = refl;
  named = all_there t.arena.uploads;
  node_count = table.lists.nodes;
  bound_count = table.lists.bounds;
  cells = λ c inside. let node = table.nodes c inside in node.cell;
  costs = λ c inside. let node = table.nodes c inside in node.cost;
}

-- a list of numbers from those at each place
from_places : {X : Type 0} (g : X → ℕ) (xs : List X) (ns : List ℕ) → length xs ≡ length ns
    → ((i : ℕ) (x : X) → slice_get xs i ≡ Some x → g x ≡ slice_index ns i) → map g xs ≡ ns
from_places g [] [] count each = refl
from_places g [] (n ∷ ns) count each = absurd (omega (arith, count))
from_places g (x ∷ xs) [] count each = absurd (omega (arith, count))
from_places g (x ∷ xs) (n ∷ ns) count each =
    ap₂ (λ (m : ℕ) (ms : List ℕ). m ∷ ms) (each 0 x refl)
    (from_places g xs ns (omega (arith, count)) (λ i y at. each (suc i) y at))

map_same : (cs : List Triple) → map (λ (c : Triple). c) cs ≡ cs
map_same [] = refl
map_same (c ∷ cs) = ap (λ (ds : List Triple). c ∷ ds) (map_same cs)

cells_are : (f : Top) (bounds roots : List ℕ)
    → map (λ (b : CertBound). b.cell) (map (cert_bound f bounds roots) (cells_of f)) ≡ cells_of f
cells_are f bounds roots =
    map-map (λ (b : CertBound). b.cell) (cert_bound f bounds roots) (cells_of f) ∙ map_same (cells_of f)

module _ (places : (f : Top) (i : ℕ) (c : Triple) → IsCell f.top
    → ((slice_get (cells_of f) i ≡ Some c) ↔ (InFrame f c × (index_of f c ≡ i))))
    (count : (f : Top) → length (cells_of f) ≡ size_of f) where
  bounds_are : (f : Top) (uploads : List Upload) (forest : ForestValue) (bounds : List ℕ) → IsCell f.top
      → length bounds ≡ size_of f → bounds_of (cert_of f uploads forest bounds) ≡ bounds
  bounds_are f uploads forest bounds cell many =
      map-map (λ (b : CertBound). b.bound) (cert_bound f bounds forest.roots) (cells_of f)
      ∙ from_places (λ (c : Triple). at_cell f bounds c) (cells_of f) bounds (count f ∙ sym many)
      (λ i c at. ap (λ (n : ℕ). slice_index bounds n) ((places f i c cell).0 at).1)

  pub certificate : (t : Contents) (forest : ForestValue) (text : List ℕ) → IsCell t.arena.frame.top
      → AreCheckedIn t.arena.frame t.arena.uploads → IsTable t → AreLeast t
      → IsCert (cert_text t.arena.frame t.arena.uploads forest t.bounds)
      (cert_of t.arena.frame t.arena.uploads forest t.bounds)
      → IsGood (cert_of t.arena.frame t.arena.uploads forest t.bounds)
      → text ≡ cert_text t.arena.frame t.arena.uploads forest t.bounds
      → IsCertificateOf t.arena.frame t.arena.uploads text
  certificate t forest text cell checked table least spelled good is =
      let f : Top = t.arena.frame in
      let us : List Upload = t.arena.uploads in
      let held = checked.are_held in
      let cert : CertValue = cert_of f us forest t.bounds in
      record {
        cert = cert;
        spelled = subst (λ (bytes : List ℕ). IsCert bytes cert) (sym is) spelled;
        formed = record {
          few = held.few;
          inside = AllByRecursion-weaker (IsHeldIn f) (λ (u : Upload). InFrame f u.cell) us
              (λ (u : Upload) (k : IsHeldIn f u). k.inside) held.held;
          distinct = held.distinct;
          cells = cells_are f t.bounds forest.roots;
        };
        good = good;
        frame_is = refl;
        uploads_are = refl;
        bounds = t.bounds;
        bounds_are = bounds_are f us forest t.bounds cell table.lists.bounds;
        least = record { count = table.lists.bounds; least = least };
        forest = forest;
        text_is = is;
      }
