-- The bounds of a good certificate are the least costs of derivations.
use Rattle.std.proofs.Common.{◌≡◌, ℕ, ◌-◌, ◌<◌, ◌≤◌, false, List, [], ◌∷◌, ◌++◌, Some, length, get_or}
use Rattle.std.proofs.Common.{slice_get}
use Rattle.std.proofs.Common.{arith, refl, sym, ap, ◌∙◌, subst, inl, inr}
use Rattle.std.proofs.lemmas.List.{get_or-map, length-map}
use Rattle.std.proofs.lemmas.List.Elements.{All-from_recursion}
use Rattle.std.proofs.lemmas.Option.{get_or_from_slice_get}
use Rattle.std.specs.List.{AllByRecursion}
use Rattle.lj_base.specs.Bounds.{at_cell}
use Rattle.lj_base.specs.Cells.{Triple}
use Rattle.lj_base.specs.Colex.{choose}
use Rattle.lj_base.specs.Frames.{InFrame, Top, cells_of, index_of, size_of}
use Rattle.lj_base.proofs.Lists.{AllByRecursion-at, AllByRecursion-both, AllByRecursion-push}
use Rattle.lj_cover.specs.Derivations.{DerivableIn, IsDerivation, IsFrom, IsIn, IsLeast, Tree, node, none}
use Rattle.lj_cover.specs.Instances.{AreUploads, price}
use Rattle.lj_cover.specs.Rules.{IsCovering, One, Upload, rule_cell, rule_cost, triple}
use Rattle.lj_deriv.specs.Trees.{tree_at}
use Rattle.lj_relax.specs.States.{Good, State}
use Rattle.lj_cert.specs.Good.{IsChecked, IsGood, IsMet, bounds_of}
use Rattle.lj_cert.specs.Rests.{AreLeast}
use Rattle.lj_cert.specs.Unfolding.{Unfold}
use Rattle.lj_cert.specs.Values.{CertValue, IsFormed}
use Rattle.lj_cert.specs.declared.certs.CertBound.{CertBound}
use Rattle.lj_cert.specs.declared.certs.CertNode.{CertNode}

-- a derivation in the frame and from the uploads
abbrev pub IsOf : Top → List Upload → Tree → Type 0
IsOf frame uploads d = IsDerivation d × IsIn frame d × IsFrom uploads d

-- nodes unfold to such derivations
pub unfolded : (frame : Top) (uploads : List Upload) (done : List Tree) (ns : List CertNode) (all : List Tree)
    → AllByRecursion (IsOf frame uploads) done → Unfold frame uploads done ns all
    → AllByRecursion (IsOf frame uploads) all
unfolded frame uploads done [] all h k = subst (AllByRecursion (IsOf frame uploads)) k h
unfolded frame uploads done (n ∷ ns) all h k =
    let d = k.0 in
    let next = AllByRecursion-push (IsOf frame uploads) done d h (k.1.derivation, k.1.inside, k.1.from) in
    unfolded frame uploads (done ++ d ∷ []) ns all next k.2

abbrev no_tree : Tree
no_tree = node (One (triple 0 0 0)) none

no_bound : CertBound
no_bound = record { cell = triple 0 0 0; bound = 0; node = 0 }

abbrev bound_cell : CertBound → Triple
bound_cell b = b.cell

abbrev pub bound_number : CertBound → ℕ
bound_number b = b.bound

-- at a cell's index stands its bound
pub record IsBoundAt (cert : CertValue) (trees : List Tree) (c : Triple) (b : CertBound) : Type 0 where
  pub cell_is : b.cell ≡ c
  pub number_is : b.bound ≡ at_cell cert.frame (bounds_of cert) c
  pub met : IsMet trees b

-- what is known of the places of a frame's cells
pub record PlacesLaw (frame : Top) : Type 0 where
  pub place : (c : Triple) → InFrame frame c → slice_get (cells_of frame) (index_of frame c) ≡ Some c
  pub below : (c : Triple) → InFrame frame c → index_of frame c < size_of frame
  pub count : length (cells_of frame) ≡ size_of frame

pub bound_count : (cert : CertValue) → PlacesLaw cert.frame → IsFormed cert.frame cert.uploads cert.bounds
    → length cert.bounds ≡ size_of cert.frame
bound_count cert law formed =
    sym (length-map cert.bounds bound_cell) ∙ ap length formed.cells ∙ law.count

pub bound_at : (cert : CertValue) (trees : List Tree) (c : Triple) → PlacesLaw cert.frame
    → IsFormed cert.frame cert.uploads cert.bounds → AllByRecursion (IsMet trees) cert.bounds → InFrame cert.frame c
    → (b : CertBound) × IsBoundAt cert trees c b
bound_at cert trees c law formed met inside =
    let i = index_of cert.frame c in
    let within : i < length cert.bounds = omega (arith, law.below c inside, bound_count cert law formed) in
    let b = get_or cert.bounds i no_bound in
    let cell : b.cell ≡ c =
    sym (get_or-map bound_cell cert.bounds i no_bound (triple 0 0 0) within)
    ∙ ap (λ cs. get_or cs i (triple 0 0 0)) formed.cells
    ∙ get_or_from_slice_get (cells_of cert.frame) i c (triple 0 0 0) (law.place c inside) in
    let number : b.bound ≡ at_cell cert.frame (bounds_of cert) c =
    sym (get_or-map bound_number cert.bounds i no_bound 0 within) in (
      b,
      record {
        cell_is = cell;
        number_is = number;
        met = AllByRecursion-at (IsMet trees) no_bound cert.bounds i within
            met;
      },
    )

derivable_at : (cert : CertValue) (trees : List Tree) (c : Triple) (b : CertBound)
    → AllByRecursion (IsOf cert.frame cert.uploads) trees → IsBoundAt cert trees c b
    → DerivableIn cert.frame cert.uploads c (at_cell cert.frame (bounds_of cert) c)
derivable_at cert trees c b all at =
    let i = b.node - 1 in
    let within : i < length trees = omega (arith, at.met.some, at.met.there) in
    let is = AllByRecursion-at (IsOf cert.frame cert.uploads) no_tree trees i within all in
    record {
      tree = tree_at trees i;
      derivation = is.0;
      inside = is.1;
      from = is.2;
      cell_is = at.met.cell_is ∙ at.cell_is;
      cost_is = at.met.cost_is ∙ at.number_is;
    }

small_at : (cert : CertValue) (trees : List Tree) (c : Triple) (b : CertBound) → IsBoundAt cert trees c b
    → at_cell cert.frame (bounds_of cert) c ≤ choose c.v c.t
small_at cert trees c b at =
    let most : b.bound ≤ choose c.v c.t = subst (λ (d : Triple). b.bound ≤ choose d.v d.t) at.cell_is at.met.small in
    subst (λ n. n ≤ choose c.v c.t) at.number_is most

checked_uploads : (frame : Top) (uploads : List Upload) → AllByRecursion IsChecked uploads
    → AllByRecursion (λ (u : Upload). InFrame frame u.cell) uploads → AreUploads frame uploads
checked_uploads frame uploads checked inside =
    let both : AllByRecursion (λ (u : Upload). IsCovering u × InFrame frame u.cell) uploads =
    AllByRecursion-both IsChecked (λ (u : Upload). InFrame frame u.cell)
    (λ (u : Upload). IsCovering u × InFrame frame u.cell) uploads
    (λ u c k. (record { in_limits = k.cell; covers = c.covers }, k)) checked inside in
    All-from_recursion (λ (u : Upload). IsCovering u × InFrame frame u.cell) uploads both

-- the state of a good certificate, in which no cell is open
abbrev pub cert_state : CertValue → State
cert_state cert = record {
  frame = cert.frame;
  uploads = cert.uploads;
  bounds = at_cell cert.frame (bounds_of cert);
  pending = λ c. false;
}

pub good_state : (cert : CertValue) → PlacesLaw cert.frame → IsFormed cert.frame cert.uploads cert.bounds → IsGood cert
    → Good (cert_state cert)
good_state cert law formed good =
    let all = unfolded cert.frame cert.uploads [] cert.nodes good.trees tt good.unfolds in
    record {
      uploads = checked_uploads cert.frame cert.uploads good.checked formed.inside;
      derivable = λ c inside.
          let b = bound_at cert good.trees c law formed good.met inside in
          derivable_at cert good.trees c b.0 all b.1;
      bases = λ r use_is. good.rest (rule_cell r) use_is.inside (rule_cost r []) (inl (r, use_is, refl, refl));
      closed = λ c r inside closed instance. good.rest c inside (price (at_cell cert.frame (bounds_of cert)) r)
          (inr (r, instance, refl));
      small = λ c inside.
          let b = bound_at cert good.trees c law formed good.met inside in
          small_at cert good.trees c b.0 b.1;
    }

-- that rest means least
abbrev pub RestIsLeast : Type 0
RestIsLeast = (s : State) → Good s → ((c : Triple) → InFrame s.frame c → s.pending c ≡ false)
    → (c : Triple) → InFrame s.frame c → IsLeast s.frame s.uploads c (s.bounds c)

pub good_is_least : RestIsLeast → (cert : CertValue) → PlacesLaw cert.frame
    → IsFormed cert.frame cert.uploads cert.bounds → IsGood cert
    → AreLeast (record { frame = cert.frame; uploads = cert.uploads; bounds = bounds_of cert })
good_is_least least cert law formed good = record {
  count = length-map cert.bounds bound_number ∙ bound_count cert law formed;
  least = least (cert_state cert) (good_state cert law formed good) (λ c inside. refl);
}
