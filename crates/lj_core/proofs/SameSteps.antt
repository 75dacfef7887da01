-- The same event leads machines that are the same on the frame to machines that are.
use Rattle.std.proofs.Common.{◌≡◌, ◌≢◌, ◌⊎◌, ◌↔◌, ℕ, ◌<◌, Bool, true, false, List, length, Option}
use Rattle.std.proofs.Common.{None, get_or, sym, ap, ◌∙◌, subst, arith, inl, inr, ⊎_elim, if◌then◌else◌}
use Rattle.std.proofs.Math.ListN.{set}
use Rattle.std.proofs.lemmas.Bool.{cases_eq, cases_lt}
use Rattle.std.proofs.lemmas.List.{get_or_past, get_or-set_same, get_or-set_other, length-set}
use Rattle.std.specs.Bool.{OnFalse}
use Rattle.std.specs.Option.{MatchOption}
use Rattle.lj_base.specs.Cells.{Triple}
use Rattle.lj_base.specs.Frames.{InFrame, Top, index_of}
use Rattle.lj_cover.specs.Instances.{Reads, rows_at}
use Rattle.lj_cover.specs.Rules.{Upload}
use Rattle.lj_relax.specs.States.{State}
use Rattle.lj_relax.specs.Steps.{Accepts, IsLesser, Publishes, SameOnFrame, Snapshot}
use Rattle.lj_core.specs.Machines.{IsFirstWith, IsFree, IsNextCell, Machine, snapshot_now}
use Rattle.lj_core.specs.Sameness.{SameHeld, SameMachine, SameSnapshot}

apart : true ≡ false → ⊥
apart h = cc

-- ---- states

-- a state with the frame and the uploads of another
aligned : State → State → State
aligned s t = record { frame = s.frame; uploads = s.uploads; bounds = t.bounds; pending = t.pending }

aligned_is : (s t : State) → SameOnFrame s t → t ≡ aligned s t
unfolding aligned
aligned_is s t same =
    λ i. record { frame = same.frame i; uploads = same.uploads i; bounds = t.bounds; pending = t.pending }

-- an acceptance from the other state
pub accepts_from : (s t n : State) (u : Upload) → SameOnFrame s t → Accepts t u n → Accepts s u n
unfolding aligned
accepts_from s t n u same h =
    let p : Accepts (aligned s t) u n = subst (λ (x : State). Accepts x u n) (aligned_is s t same) h in
    record {
      frame = p.frame;
      uploads = p.uploads;
      bounds = λ c i. subst (λ m. IsLesser u c m (n.bounds c)) (same.bounds c i) (p.bounds c i);
      pending = λ d i. (
        λ now. ⊎_elim (λ was. inl (sym (same.pending d i) ∙ was))
            (λ w. inr (⊎_elim (λ served. inl served) (λ fell.
            inr (fell.0, fell.1, subst (λ m. n.bounds fell.0 < m) (same.bounds fell.0 fell.1) fell.2, fell.3)) w))
            ((p.pending d i).0 now),
        λ cause. (p.pending d i).1 (⊎_elim (λ was. inl (same.pending d i ∙ was))
            (λ w. inr (⊎_elim (λ served. inl served) (λ fell. inr (
              fell.0,
              fell.1,
              subst (λ m. n.bounds fell.0 < m) (sym (same.bounds fell.0 fell.1)) fell.2,
              fell.3,
            )) w))
            cause),
      );
    }

-- a publication from the other state, of a snapshot with other numbers
module _ (s t n : State) (a : Snapshot) (x : Triple → ℕ) (best : Option ℕ) (low agreed : Bool)
    (same : SameOnFrame s t) (numbers : (c : Triple) → InFrame s.frame c → x c ≡ a.bounds c)
    (inside : InFrame s.frame a.cell) where
  publishes_from : Publishes (aligned s t) (record a { bounds = x }) best low agreed n
      → Publishes s a best low agreed n
  unfolding aligned
  publishes_from p = record {
    lowers = subst (λ m. (low ≡ true) ↔ MatchOption best ⊥ (λ n. n < m)) (same.bounds a.cell inside) p.lowers;
    agrees = (
      λ test. let g = p.agrees.0 test in
          record { rows = g.rows; bounds = λ d i reads. sym (numbers d i) ∙ g.bounds d i reads ∙ same.bounds d i },
      λ g. p.agrees.1 (record {
        rows = g.rows;
        bounds = λ d i reads. numbers d i ∙ g.bounds d i reads ∙ sym (same.bounds d i);
      }),
    );
    frame = p.frame;
    uploads = p.uploads;
    bound = p.bound;
    kept = subst (λ m. OnFalse low (n.bounds a.cell ≡ m)) (same.bounds a.cell inside) p.kept;
    others = λ d i other. p.others d i other ∙ same.bounds d i;
    own = subst (λ m. n.pending a.cell ≡ (if agreed then false else m)) (same.pending a.cell inside) p.own;
    opened = λ d i other. subst (λ m. (n.pending d ≡ true) ↔ ((m ≡ true) ⊎ ((low ≡ true) × Reads s.frame d a.cell)))
        (same.pending d i) (p.opened d i other);
  }

shown_is : (f : Top) (a b : Snapshot) → SameSnapshot f a b → b ≡ record a { bounds = b.bounds }
shown_is f a b same = λ i. record { cell = same.cell_is i; bounds = b.bounds; rows = same.rows_are i }

pub publishes_same : (s t n : State) (a b : Snapshot) (best : Option ℕ) (low agreed : Bool) → SameOnFrame s t
    → SameSnapshot s.frame a b → InFrame s.frame a.cell → Publishes t b best low agreed n
    → Publishes s a best low agreed n
publishes_same s t n a b best low agreed same shown inside h =
    publishes_from s t n a b.bounds best low agreed same shown.bounds_are inside
    (subst (λ (y : Snapshot). Publishes (aligned s t) y best low agreed n) (shown_is s.frame a b shown)
    (subst (λ (y : State). Publishes y b best low agreed n) (aligned_is s t same) h))

-- ---- tickets

same_held : (f g : Top) (x y : Option Snapshot) → g ≡ f → SameHeld f x y → SameHeld g x y
same_held f g x y e h = subst (λ (k : Top). SameHeld k x y) (sym e) h

-- each worker's ticket after one has changed
pub held_after : (f g : Top) (xs ys ms ns : List (Option Snapshot)) (w : ℕ) (x y : Option Snapshot) → g ≡ f
    → length ys ≡ length xs → ms ≡ set xs w x → ns ≡ set ys w y
    → ((i : ℕ) → SameHeld f (get_or xs i None) (get_or ys i None)) → SameHeld f x y
    → (length ns ≡ length ms) × ((i : ℕ) → SameHeld g (get_or ms i None) (get_or ns i None))
held_after f g xs ys ms ns w x y e len left right all new = (
  ap (λ (l : List (Option Snapshot)). length l) right ∙ length-set ys w y ∙ len ∙ sym (length-set xs w x)
      ∙ ap (λ (l : List (Option Snapshot)). length l) (sym left),
  λ i. same_held f g (get_or ms i None) (get_or ns i None) e
      (subst (λ (l : List (Option Snapshot)). SameHeld f (get_or l i None) (get_or ns i None)) (sym left)
      (subst (λ (l : List (Option Snapshot)). SameHeld f (get_or (set xs w x) i None) (get_or l i None)) (sym right)
      (each i))),
)
  where
    each : (i : ℕ) → SameHeld f (get_or (set xs w x) i None) (get_or (set ys w y) i None)
    each i =
        ⊎_elim
        (λ here. ⊎_elim
        (λ inside. subst (λ (o : Option Snapshot). SameHeld f o (get_or (set ys w y) i None))
        (sym (subst (λ j. get_or (set xs w x) j None ≡ x) (sym here) (get_or-set_same xs w x None inside)))
        (subst (λ (o : Option Snapshot). SameHeld f x o)
        (sym (subst (λ j. get_or (set ys w y) j None ≡ y) (sym here)
        (get_or-set_same ys w y None (omega (arith, inside, len))))) new))
        (λ past. subst (λ (o : Option Snapshot). SameHeld f o (get_or (set ys w y) i None))
        (sym (get_or_past (set xs w x) i None (omega (arith, length-set xs w x, past, here))))
        (subst (λ (o : Option Snapshot). SameHeld f None o)
        (sym (get_or_past (set ys w y) i None (omega (arith, length-set ys w y, len, past, here)))) tt))
        (cases_lt w (length xs)))
        (λ other. subst (λ (o : Option Snapshot). SameHeld f o (get_or (set ys w y) i None))
        (sym (get_or-set_other xs w i x None other))
        (subst (λ (o : Option Snapshot). SameHeld f (get_or xs i None) o)
        (sym (get_or-set_other ys w i y None other)) (all i)))
        (cases_eq i w)

-- ---- the next cell

module _ (one_to_one : (f : Top) (c d : Triple) → InFrame f c → InFrame f d → index_of f c ≡ index_of f d → c ≡ d) where
  first_one : (f : Top) (P Q : Triple → Type 0) (c d : Triple) → IsFirstWith f P c → IsFirstWith f Q d
      → ((e : Triple) → InFrame f e → P e → Q e) → ((e : Triple) → InFrame f e → Q e → P e) → c ≡ d
  first_one f P Q c d h g on back =
      let low = h.first d g.inside (back d g.inside g.holds) in
      let high = g.first c h.inside (on c h.inside h.holds) in
      one_to_one f c d h.inside g.inside (omega (arith, low, high))

  free_on : (s t : Machine) (c : Triple) → SameMachine s t → InFrame s.state.frame c → IsFree s.state s.taken c
      → IsFree t.state t.taken c
  free_on s t c same inside h = record {
    is_open = same.state_same.pending c inside ∙ h.is_open;
    untaken = same.taken_same c inside ∙ h.untaken;
  }

  free_back : (s t : Machine) (c : Triple) → SameMachine s t → InFrame s.state.frame c → IsFree t.state t.taken c
      → IsFree s.state s.taken c
  free_back s t c same inside h = record {
    is_open = sym (same.state_same.pending c inside) ∙ h.is_open;
    untaken = sym (same.taken_same c inside) ∙ h.untaken;
  }

  -- the next cells of the other machine, by the frame of the first
  next_by : (s t : Machine) (f : Top) (d : Triple) → t.state.frame ≡ f → IsNextCell t.state t.taken d
      → IsFirstWith f (IsFree t.state t.taken) d
      ⊎ (((e : Triple) → InFrame f e → IsFree t.state t.taken e → ⊥) × IsFirstWith f (λ e. t.state.pending e ≡ true) d)
  next_by s t f d e h =
      subst (λ (k : Top). IsFirstWith k (IsFree t.state t.taken) d
      ⊎ (((x : Triple) → InFrame k x → IsFree t.state t.taken x → ⊥)
      × IsFirstWith k (λ x. t.state.pending x ≡ true) d)) e h

  pub next_one : (s t : Machine) (c d : Triple) → SameMachine s t → IsNextCell s.state s.taken c
      → IsNextCell t.state t.taken d → c ≡ d
  next_one s t c d same h g =
      let f = s.state.frame in
      ⊎_elim
      (λ free. ⊎_elim
      (λ other. first_one f (IsFree s.state s.taken) (IsFree t.state t.taken) c d free other
      (λ e i. free_on s t e same i) (λ e i. free_back s t e same i))
      (λ w. absurd (w.0 c free.inside (free_on s t c same free.inside free.holds)))
      (next_by s t f d same.state_same.frame g))
      (λ v. ⊎_elim
      (λ other. absurd (v.0 d other.inside (free_back s t d same other.inside other.holds)))
      (λ w. first_one f (λ e. s.state.pending e ≡ true) (λ e. t.state.pending e ≡ true) c d v.1 w.1
      (λ e i p. same.state_same.pending e i ∙ p) (λ e i p. sym (same.state_same.pending e i) ∙ p))
      (next_by s t f d same.state_same.frame g))
      h

  -- a mark of a cell that both machines set alike
  pub marks_after : (f g : Top) (a b m n : Triple → Bool) (c d : Triple) (mark : Bool) → g ≡ f → InFrame f c → c ≡ d
      → ((e : Triple) → InFrame f e → b e ≡ a e)
      → m c ≡ mark → n d ≡ mark
      → ((e : Triple) → InFrame f e → e ≢ c → m e ≡ a e) → ((e : Triple) → InFrame f e → e ≢ d → n e ≡ b e)
      → (e : Triple) → InFrame g e → n e ≡ m e
  marks_after f g a b m n c d mark frames at same alike left right others more e inside =
      let i : InFrame f e = subst (λ (k : Top). InFrame k e) frames inside in
      ⊎_elim
      (λ here. let is : e ≡ c = one_to_one f e c i at here in
      ap n (is ∙ same) ∙ right ∙ sym left ∙ ap m (sym is))
      (λ other. let not_c : e ≢ c = λ k. other (ap (λ (x : Triple). index_of f x) k) in
      more e i (λ k. not_c (k ∙ sym same)) ∙ alike e i ∙ sym (others e i not_c))
      (cases_eq (index_of f e) (index_of f c))

-- the tickets of a claim in both machines
pub shown_same : (s t : State) (c d : Triple) → SameOnFrame s t → c ≡ d
    → SameSnapshot s.frame (snapshot_now s c) (snapshot_now t d)
shown_same s t c d same e = record {
  cell_is = sym e;
  rows_are = λ i. rows_at (same.uploads i) ((sym e) i);
  bounds_are = same.bounds;
}
