-- What the audit has found, once its four parts were tried.
use Rattle.std.proofs.Common.{◌≡◌, ℕ, ◌<◌, ◌≤◌, List, [], length, map, arith, sym, ap, ◌∙◌, subst}
use Rattle.std.proofs.Common.{◌⊎◌, Err, Ok, Option, Some, None, inl, inr, ⊎_elim}
use Rattle.std.proofs.lemmas.List.{length-map}
use Rattle.std.specs.List.{AllByRecursion}
use Rattle.std.specs.Prelude.{IfErr, IfOk, MatchResult}
use Rattle.std.specs.declared.result.Result.{Result}
use Rattle.lj_base.specs.Bounds.{AreBounds, at_cell}
use Rattle.lj_base.specs.Cells.{Triple}
use Rattle.lj_base.specs.Colex.{choose}
use Rattle.lj_base.specs.Frames.{InFrame, index_of, size_of}
use Rattle.lj_base.proofs.Lists.{AllByRecursion-at}
use Rattle.lj_cover.specs.Derivations.{Tree}
use Rattle.lj_cover.specs.Rules.{Upload}
use Rattle.lj_deriv.specs.Nodes.{Nodes, trees_of}
use Rattle.lj_cert.proofs.Least.{PlacesLaw, bound_at, bound_count, bound_number}
use Rattle.lj_cert.specs.Good.{IsAtRest, IsChecked, IsGood, IsMet, bounds_of}
use Rattle.lj_cert.specs.Holding.{IsHeld}
use Rattle.lj_cert.specs.Lowest.{IsLowCell, IsLowest}
use Rattle.lj_cert.specs.Refusals.{IsFirstLow, IsNo}
use Rattle.lj_cert.specs.Rests.{AreLeast}
use Rattle.lj_cert.specs.Unfolding.{Unfold}
use Rattle.lj_cert.specs.Values.{AreDistinct, CertValue, IsFormed}
use Rattle.lj_cert.specs.declared.certs.CertBound.{CertBound}
use Rattle.lj_cert.specs.declared.certs.CertNode.{CertNode}
use Rattle.lj_cert.specs.declared.lowest.LowCell.{LowCell}
use Rattle.lj_cert.specs.declared.refusals.No.{No}
use Rattle.lj_cert.specs.declared.refusals.No.TheVariants.{Low, Memory}

-- bounds that are met, and at least 1, are bounds of the frame's cells
pub are_bounds : (cert : CertValue) (trees : List Tree) → PlacesLaw cert.frame
    → IsFormed cert.frame cert.uploads cert.bounds → AllByRecursion (IsMet trees) cert.bounds
    → AllByRecursion (λ n. 1 ≤ n) (bounds_of cert) → AreBounds cert.frame (bounds_of cert)
are_bounds cert trees law formed met some =
    let count : length (bounds_of cert) ≡ size_of cert.frame =
    length-map cert.bounds bound_number ∙ bound_count cert law formed in
    record {
      count = count;
      some = λ c inside. AllByRecursion-at (λ n. 1 ≤ n) 0 (bounds_of cert) (index_of cert.frame c)
          (let below = law.below c inside in omega (arith, below, count)) some;
      small = λ c inside.
          let found = bound_at cert trees c law formed met inside in
          let most = subst (λ (d : Triple). found.0.bound ≤ choose d.v d.t) found.1.cell_is found.1.met.small in
          subst (λ n. n ≤ choose c.v c.t) found.1.number_is most;
    }

-- where no cell is low, the certificate is good
pub all_good : (cert : CertValue) (trees : List Tree) → AllByRecursion IsChecked cert.uploads
    → Unfold cert.frame cert.uploads [] cert.nodes trees → AllByRecursion (IsMet trees) cert.bounds
    → ((c : Triple) → InFrame cert.frame c → Unit {0}
    → IsAtRest cert.frame cert.uploads (at_cell cert.frame (bounds_of cert)) c) → IsGood cert
all_good cert trees checked unfolds met rest = record {
  checked = checked;
  trees = trees;
  unfolds = unfolds;
  met = met;
  rest = λ c inside. rest c inside tt;
}

-- where the first low cell was found, it is the first of all
pub first_low_cell : (cert : CertValue) (low : LowCell)
    → IsLowCell cert.frame cert.uploads (at_cell cert.frame (bounds_of cert)) (λ place. Unit {0}) low
    → IsFirstLow cert.frame cert.uploads (at_cell cert.frame (bounds_of cert)) low.cell low.cost
first_low_cell cert low h = record {
  inside = h.inside;
  earlier = λ e inside less. h.earlier e inside tt (subst (λ n. index_of cert.frame e < n) h.place_is less);
  cost_is = h.cost_is;
  lower = h.lower;
  least = h.least;
}

-- ---- what is held, as the certificate has it

pub are_held : (cert : CertValue) (first a : Nodes) (us : List Upload) (nodes : List CertNode)
    (bounds : List CertBound) (ns : List ℕ) → us ≡ cert.uploads
    → first ≡ record { frame = cert.frame; uploads = us; rules = []; spare = 0 } → AllByRecursion IsChecked us
    → nodes ≡ cert.nodes → a.frame ≡ first.frame → a.uploads ≡ first.uploads
    → Unfold first.frame first.uploads [] nodes (trees_of a.uploads a.rules) → bounds ≡ cert.bounds
    → AllByRecursion (IsMet (trees_of a.uploads a.rules)) bounds → ns ≡ map bound_number bounds
    → AllByRecursion (λ n. 1 ≤ n) ns → IsHeld cert a ns
are_held cert first a us nodes bounds ns us_are first_is checked nodes_are frame_is uploads_are unfolds bounds_are met
    numbers some =
    let ts = trees_of a.uploads a.rules in
    let frame : first.frame ≡ cert.frame = ap (λ (x : Nodes). x.frame) first_is in
    let uploads : first.uploads ≡ cert.uploads = ap (λ (x : Nodes). x.uploads) first_is ∙ us_are in
    record {
      frame = frame_is ∙ frame;
      uploads = uploads_are ∙ uploads;
      checked = subst (AllByRecursion IsChecked) us_are checked;
      unfolds = subst (λ f. Unfold f cert.uploads [] cert.nodes ts) frame
          (subst (λ ws. Unfold first.frame ws [] cert.nodes ts) uploads
          (subst (λ xs. Unfold first.frame first.uploads [] xs ts) nodes_are unfolds));
      met = subst (AllByRecursion (IsMet ts)) bounds_are met;
      numbers = numbers ∙ ap (map bound_number) bounds_are;
      some = some;
    }

pub held_bounds : (cert : CertValue) (a : Nodes) (ns : List ℕ) → PlacesLaw cert.frame
    → IsFormed cert.frame cert.uploads cert.bounds → IsHeld cert a ns → AreBounds a.frame ns
held_bounds cert a ns law formed h =
    let some = subst (AllByRecursion (λ n. 1 ≤ n)) h.numbers h.some in
    let bounds = are_bounds cert (trees_of a.uploads a.rules) law formed h.met some in
    subst (λ f. AreBounds f ns) (sym h.frame) (subst (AreBounds cert.frame) (sym h.numbers) bounds)

-- every place
abbrev pub Every : ℕ → Type 0
Every place = Unit {0}

found_in : (cert : CertValue) (a : Nodes) (ns : List ℕ) (found : Option LowCell) → IsHeld cert a ns
    → IsLowest a.frame a.uploads (at_cell a.frame ns) Every found
    → IsLowest cert.frame cert.uploads (at_cell cert.frame (bounds_of cert)) Every found
found_in cert a ns found h k =
    subst (λ xs. IsLowest cert.frame cert.uploads (at_cell cert.frame xs) Every found) h.numbers
    (subst (λ us. IsLowest cert.frame us (at_cell cert.frame ns) Every found) h.uploads
    (subst (λ f. IsLowest f a.uploads (at_cell f ns) Every found) h.frame k))

pub held_good : (cert : CertValue) (a : Nodes) (ns : List ℕ) (found : Option LowCell) → IsHeld cert a ns
    → found ≡ None → IsLowest a.frame a.uploads (at_cell a.frame ns) Every found → IsGood cert
held_good cert a ns found h is k =
    all_good cert (trees_of a.uploads a.rules) h.checked h.unfolds h.met
    (subst (IsLowest cert.frame cert.uploads (at_cell cert.frame (bounds_of cert)) Every) is
    (found_in cert a ns found h k))

pub held_low : (cert : CertValue) (a : Nodes) (ns : List ℕ) (found : Option LowCell) (low : LowCell) → IsHeld cert a ns
    → found ≡ Some low → IsLowest a.frame a.uploads (at_cell a.frame ns) Every found → IsNo cert (Low low.cell low.cost)
held_low cert a ns found low h is k = (
  trees_of a.uploads a.rules,
  record { checked = h.checked; unfolds = h.unfolds },
  h.met,
  first_low_cell cert low
      (subst (IsLowest cert.frame cert.uploads (at_cell cert.frame (bounds_of cert)) Every) is
      (found_in cert a ns found h k)),
)

pub held_least : (cert : CertValue) (a : Nodes) (ns : List ℕ) → IsHeld cert a ns
    → AreLeast (record { frame = cert.frame; uploads = cert.uploads; bounds = bounds_of cert })
    → AreLeast (record { frame = a.frame; uploads = a.uploads; bounds = ns })
held_least cert a ns h least =
    subst (λ xs. AreLeast (record { frame = a.frame; uploads = a.uploads; bounds = xs })) (sym h.numbers)
    (subst (λ us. AreLeast (record { frame = a.frame; uploads = us; bounds = bounds_of cert })) (sym h.uploads)
    (subst (λ f. AreLeast (record { frame = f; uploads = cert.uploads; bounds = bounds_of cert })) (sym h.frame) least))

-- a good certificate has no reason to be refused
abbrev pub HasNone : Type 0
HasNone = (cert : CertValue) (fails : No) → AreDistinct cert.uploads → IsGood cert → IsNo cert fails → ⊥

-- and any has one at most
abbrev pub HasOne : Type 0
HasOne = (cert : CertValue) (a b : No) → AreDistinct cert.uploads → IsNo cert a → IsNo cert b → a ≡ b

pub good_is_not_refused : {X : Type 0} (cert : CertValue) (r : Result X No) → HasNone → AreDistinct cert.uploads
    → IfErr r (λ fails. (fails ≡ Memory) ⊎ IsNo cert fails) → IsGood cert → IfErr r (λ fails. fails ≡ Memory)
good_is_not_refused cert (Ok x) none distinct refused good = tt
good_is_not_refused cert (Err fails) none distinct refused good =
    ⊎_elim (λ memory. memory) (λ reason. absurd (none cert fails distinct good reason)) refused

pub refused_for_its_reason : {X : Type 0} (cert : CertValue) (r : Result X No) → HasNone → HasOne
    → AreDistinct cert.uploads → IfOk r (λ _. IsGood cert) → IfErr r (λ fails. (fails ≡ Memory) ⊎ IsNo cert fails)
    → (fails : No) → IsNo cert fails → MatchResult r (λ _. ⊥) (λ found. (found ≡ fails) ⊎ (found ≡ Memory))
refused_for_its_reason cert (Ok x) none one distinct good refused fails h = none cert fails distinct good h
refused_for_its_reason cert (Err found) none one distinct good refused fails h =
    ⊎_elim (λ memory. inr memory) (λ reason. inl (one cert found fails distinct reason h)) refused
