-- A run from a machine is one: the same events lead machines that are the same on the frame to such, and read the same.
use Rattle.std.proofs.Common.{◌≡◌, ◌⊎◌, ◌↔◌, ℕ, ◌<◌, Bool, true, false, List, [], ◌∷◌, ◌++◌, length}
use Rattle.std.proofs.Common.{Option, Some, None, get_or, sym, ap, ap₂, ◌∙◌, subst, ⊎_elim}
use Rattle.std.specs.List.{Contains}
use Rattle.std.specs.Option.{IfSome, MatchOption}
use Rattle.lj_base.specs.Blocks.{AreBlocks}
use Rattle.lj_base.specs.Cells.{Triple}
use Rattle.lj_base.specs.Frames.{InFrame, Top, index_of}
use Rattle.lj_base.specs.declared.Row.{Row}
use Rattle.lj_cover.specs.Instances.{IsRowOf, cut_counts, rows_at}
use Rattle.lj_cover.specs.Rules.{IsCovering, Upload, cut_cost}
use Rattle.lj_relax.specs.States.{Good, State}
use Rattle.lj_relax.specs.Steps.{Accepts, Claims, IsLeastPrice, IsOld, Publishes, SameOnFrame, Snapshot}
use Rattle.lj_core.specs.Machines.{IsClaimOfNext, IsClaimOfNone, IsEventStep, IsPublication, Machine, snapshot_now}
use Rattle.lj_core.specs.Runs.{AreSound, IsRun, accepted_by}
use Rattle.lj_core.specs.Sameness.{SameHeld, SameMachine, SameSnapshot}
use Rattle.lj_core.specs.declared.events.Event.{Event}
use Rattle.lj_core.specs.declared.events.Event.TheVariants.{Accept, Claim, Publish, Read}
use Rattle.lj_core.proofs.KeptStates.{first_keeps}
use Rattle.lj_core.proofs.SamePrices.{least_on, old_rows_narrow}
use Rattle.lj_core.proofs.SameSteps.{accepts_from, held_after, marks_after, next_one, publishes_same, shown_same}
use Rattle.lj_core.proofs.Stepping.{IsKept, held_has}

apart : true ≡ false → ⊥
apart h = cc

-- what both steps have read, and where they have led
pub record IsOneStep (n k : Machine) (seen also : List ℕ) : Type 0 where
  pub seen_same : also ≡ seen
  pub next_same : SameMachine n k

-- neither machine has changed its state
still : (s t n k : State) → SameOnFrame s t → n ≡ s → k ≡ t → SameOnFrame n k
still s t n k same e f =
    subst (λ (x : State). SameOnFrame x k) (sym e) (subst (λ (x : State). SameOnFrame s x) (sym f) same)

-- by cases of two tickets that are the same
both_held : (f : Top) (x y : Option Snapshot) (P Q R : Type 0) (A B Old : Snapshot → Type 0) → SameHeld f x y
    → IfSome x Old → MatchOption x P A → MatchOption y Q B → (P → Q → R)
    → ((a b : Snapshot) → SameSnapshot f a b → Old a → A a → B b → R) → R
both_held f None None P Q R A B Old same old h g none some = none h g
both_held f None (Some b) P Q R A B Old same old h g none some = absurd same
both_held f (Some a) None P Q R A B Old same old h g none some = absurd same
both_held f (Some a) (Some b) P Q R A B Old same old h g none some = some a b same old h g

module _ (one_price : (frame : Top) (a : Snapshot) (best other : Option ℕ) → IsLeastPrice frame a best
    → IsLeastPrice frame a other → best ≡ other)
    (one_acceptance : (s m n : State) (u : Upload) → Accepts s u m → Accepts s u n → SameOnFrame m n)
    (one_publication : (s m n : State) (a : Snapshot) (best : Option ℕ) (lowered lower agreed agree : Bool)
    → Publishes s a best lowered agreed m → Publishes s a best lower agree n
    → (lower ≡ lowered) × (agree ≡ agreed) × SameOnFrame m n)
    (one_to_one : (f : Top) (c d : Triple) → InFrame f c → InFrame f d → index_of f c ≡ index_of f d → c ≡ d)
    (larger : (t k m n l : ℕ) → (k < l → m ≡ n) → cut_cost t k m l ≡ cut_cost t k n l)
    (rows_of : (uploads : List Upload) (c : Triple) (r : Row) → Contains (rows_at uploads c) r ↔ IsRowOf uploads c r)
    (row_ends : (v m w l : ℕ) (bs : List (List ℕ)) → AreBlocks v m bs → (m < l) ⊎ (w < l)
    → get_or (cut_counts w bs) l 0 ≡ 0) where
  accept_one : (s t n k : Machine) (u : Upload) (seen also : List ℕ) → SameMachine s t
      → IsEventStep s (Accept u) seen n → IsEventStep t (Accept u) also k → IsOneStep n k seen also
  accept_one s t n k u seen also same h g =
      let states = one_acceptance s.state n.state k.state u h.1.accepts
      (accepts_from s.state t.state k.state u same.state_same g.1.accepts) in
      let frames = h.1.accepts.frame in
      record {
        seen_same = g.0 ∙ sym h.0;
        next_same = record {
          state_same = states;
          taken_same = λ c inside.
              let i : InFrame s.state.frame c = subst (λ (f : Top). InFrame f c) frames inside in
              let j : InFrame t.state.frame c = subst (λ (f : Top). InFrame f c) (sym same.state_same.frame) i in
              g.1.taken_are c j ∙ same.taken_same c i ∙ sym (h.1.taken_are c i);
          places = ap (λ (l : List (Option Snapshot)). length l) g.1.held_is ∙ same.places
              ∙ ap (λ (l : List (Option Snapshot)). length l) (sym h.1.held_is);
          held_same = λ w. subst (λ (f : Top). SameHeld f (get_or n.held w None) (get_or k.held w None)) (sym frames)
              (subst (λ (l : List (Option Snapshot)). SameHeld s.state.frame (get_or l w None) (get_or k.held w None))
              (sym h.1.held_is)
              (subst (λ (l : List (Option Snapshot)). SameHeld s.state.frame (get_or s.held w None) (get_or l w None))
              (sym g.1.held_is) (same.held_same w)));
        };
      }

  none_one : (s t n k : Machine) (w : ℕ) (seen also : List ℕ) → SameMachine s t → also ≡ seen
      → IsClaimOfNone s w n → IsClaimOfNone t w k → IsOneStep n k seen also
  none_one s t n k w seen also same read h g =
      let frames = ap (λ (x : State). x.frame) h.state_is in
      let held = held_after s.state.frame n.state.frame s.held t.held n.held k.held w None None frames same.places
      h.held_is g.held_is same.held_same tt in
      record {
        seen_same = read;
        next_same = record {
          state_same = still s.state t.state n.state k.state same.state_same h.state_is g.state_is;
          taken_same = λ c inside.
              ap (λ (m : Triple → Bool). m c) g.taken_is
              ∙ same.taken_same c (subst (λ (f : Top). InFrame f c) frames inside)
              ∙ ap (λ (m : Triple → Bool). m c) (sym h.taken_is);
          places = held.0;
          held_same = held.1;
        };
      }

  next_one_step : (s t n k : Machine) (w : ℕ) (seen also : List ℕ) → SameMachine s t → also ≡ seen
      → IsClaimOfNext s w n → IsClaimOfNext t w k → IsOneStep n k seen also
  next_one_step s t n k w seen also same read h g =
      let frames = ap (λ (x : State). x.frame) h.claims.state in
      let cells : h.cell ≡ g.cell = next_one one_to_one s t h.cell g.cell same h.next g.next in
      let inside = h.claims.inside in
      let held = held_after s.state.frame n.state.frame s.held t.held n.held k.held w
      (Some (snapshot_now s.state h.cell)) (Some (snapshot_now t.state g.cell)) frames same.places h.held_is g.held_is
      same.held_same (shown_same s.state t.state h.cell g.cell same.state_same cells) in
      record {
        seen_same = read;
        next_same = record {
          state_same = still s.state t.state n.state k.state same.state_same h.claims.state g.claims.state;
          taken_same = marks_after one_to_one s.state.frame n.state.frame s.taken t.taken n.taken k.taken h.cell g.cell
              true frames inside cells same.taken_same h.now_taken g.now_taken h.others
              (λ e i. g.others e (subst (λ (f : Top). InFrame f e) (sym same.state_same.frame) i));
          places = held.0;
          held_same = held.1;
        };
      }

  -- a machine with an open cell, and one without
  no_claim : (s t n k : Machine) (w : ℕ) → SameMachine s t → IsClaimOfNone s w n → IsClaimOfNext t w k → ⊥
  no_claim s t n k w same h g =
      let inside : InFrame s.state.frame g.cell =
      subst (λ (f : Top). InFrame f g.cell) same.state_same.frame g.claims.inside in
      apart (sym g.claims.is_open ∙ same.state_same.pending g.cell inside ∙ h.closed g.cell inside)

  one_claim : (s t n k : Machine) (w : ℕ) → SameMachine s t → IsClaimOfNext s w n → IsClaimOfNone t w k → ⊥
  one_claim s t n k w same h g =
      let inside : InFrame t.state.frame h.cell =
      subst (λ (f : Top). InFrame f h.cell) (sym same.state_same.frame) h.claims.inside in
      apart (sym h.claims.is_open ∙ sym (same.state_same.pending h.cell h.claims.inside) ∙ g.closed h.cell inside)

  claim_one : (s t n k : Machine) (w : ℕ) (seen also : List ℕ) → SameMachine s t
      → IsEventStep s (Claim w) seen n → IsEventStep t (Claim w) also k → IsOneStep n k seen also
  claim_one s t n k w seen also same h g =
      let read = g.0 ∙ sym h.0 in
      ⊎_elim
      (λ none. ⊎_elim (λ other. none_one s t n k w seen also same read none other)
      (λ other. absurd (no_claim s t n k w same none other)) g.1)
      (λ one. ⊎_elim (λ other. absurd (one_claim s t n k w same one other))
      (λ other. next_one_step s t n k w seen also same read one other) g.1)
      h.1

  publication_one : (s t n k : Machine) (w : ℕ) (seen also : List ℕ) (a b : Snapshot) → IsKept s → SameMachine s t
      → also ≡ seen → SameSnapshot s.state.frame a b → IsOld s.state a → IsPublication s w a n
      → IsPublication t w b k → IsOneStep n k seen also
  publication_one s t n k w seen also a b kept same read shown old h g =
      let f = s.state.frame in
      let narrow = old_rows_narrow rows_of row_ends s.state a kept.good old in
      let there : IsLeastPrice f b g.best =
      subst (λ (x : Top). IsLeastPrice x b g.best) same.state_same.frame g.least in
      let moved : IsLeastPrice f (record a { bounds = b.bounds }) g.best =
      subst (λ (x : Snapshot). IsLeastPrice f x g.best)
      (λ i. record { cell = shown.cell_is i; bounds = b.bounds; rows = shown.rows_are i }) there in
      let price : h.best ≡ g.best = one_price f a h.best g.best h.least
      (least_on larger f a b.bounds a.bounds g.best old.inside shown.bounds_are narrow moved) in
      let publishes : Publishes s.state a g.best g.lowered g.agreed k.state =
      publishes_same s.state t.state k.state a b g.best g.lowered g.agreed same.state_same shown old.inside
      g.publishes in
      let one = one_publication s.state n.state k.state a h.best h.lowered g.lowered h.agreed g.agreed h.publishes
      (subst (λ (o : Option ℕ). Publishes s.state a o g.lowered g.agreed k.state) (sym price) publishes) in
      let frames = h.publishes.frame in
      let held = held_after f n.state.frame s.held t.held n.held k.held w None None frames same.places h.held_is
      g.held_is same.held_same tt in
      record {
        seen_same = read;
        next_same = record {
          state_same = one.2;
          taken_same = marks_after one_to_one f n.state.frame s.taken t.taken n.taken k.taken a.cell b.cell false frames
              old.inside (sym shown.cell_is) same.taken_same h.untaken g.untaken h.others
              (λ e i. g.others e (subst (λ (x : Top). InFrame x e) (sym same.state_same.frame) i));
          places = held.0;
          held_same = held.1;
        };
      }

  unchanged : (s t n k : Machine) (seen also : List ℕ) → SameMachine s t → also ≡ seen → n ≡ s → k ≡ t
      → IsOneStep n k seen also
  unchanged s t n k seen also same read e g = record {
    seen_same = read;
    next_same = subst (λ (x : Machine). SameMachine x k) (sym e)
        (subst (λ (x : Machine). SameMachine s x) (sym g) same);
  }

  publish_one : (s t n k : Machine) (w : ℕ) (seen also : List ℕ) → IsKept s → SameMachine s t
      → IsEventStep s (Publish w) seen n → IsEventStep t (Publish w) also k → IsOneStep n k seen also
  publish_one s t n k w seen also kept same h g =
      let read = g.0 ∙ sym h.0 in
      both_held s.state.frame (get_or s.held w None) (get_or t.held w None) (n ≡ s) (k ≡ t) (IsOneStep n k seen also)
      (λ a. IsPublication s w a n) (λ b. IsPublication t w b k) (IsOld s.state) (same.held_same w)
      (held_has (IsOld s.state) s.held w kept.old) h.1 g.1
      (λ e f. unchanged s t n k seen also same read e f)
      (λ a b shown old p q. publication_one s t n k w seen also a b kept same read shown old p q)

  read_one : (s t n k : Machine) (c : Triple) (seen also : List ℕ) → SameMachine s t
      → IsEventStep s (Read c) seen n → IsEventStep t (Read c) also k → IsOneStep n k seen also
  read_one s t n k c seen also same h g =
      let bounds : g.bound ≡ h.bound =
      g.read.bound_is ∙ same.state_same.bounds c h.read.inside ∙ sym h.read.bound_is in
      unchanged s t n k seen also same
      (g.seen_is ∙ ap (λ m. m ∷ []) bounds ∙ sym h.seen_is) h.same g.same

  step_one : (s t n k : Machine) (e : Event) (seen also : List ℕ) → IsKept s → SameMachine s t
      → IsEventStep s e seen n → IsEventStep t e also k → IsOneStep n k seen also
  step_one s t n k (Accept u) seen also kept same h g = accept_one s t n k u seen also same h g
  step_one s t n k (Claim w) seen also kept same h g = claim_one s t n k w seen also same h g
  step_one s t n k (Publish w) seen also kept same h g = publish_one s t n k w seen also kept same h g
  step_one s t n k (Read c) seen also kept same h g = read_one s t n k c seen also same h g

  module _ (accept_good : (s n : State) (u : Upload) → Good s → IsCovering u → InFrame s.frame u.cell → Accepts s u n
      → Good n)
      (publish_good : (s n : State) (a : Snapshot) (best : Option ℕ) (lowered agreed : Bool) → Good s → IsOld s a
      → IsLeastPrice s.frame a best → Publishes s a best lowered agreed n → Good n)
      (claimed : (s n : State) (a : Snapshot) → Good s → Claims s a n → IsOld n a)
      (accepted : (s n : State) (a : Snapshot) (u : Upload) → IsOld s a → Accepts s u n → IsOld n a)
      (published : (s n : State) (a b : Snapshot) (best : Option ℕ) (lowered agreed : Bool) → IsOld s a
      → Publishes s b best lowered agreed n → IsOld n a) where
    pub run_one : (s t n k : Machine) (es : List Event) (reads others : List ℕ) → IsKept s
        → AreSound s.state.frame (accepted_by es) → SameMachine s t → IsRun s es reads n → IsRun t es others k
        → IsOneStep n k reads others
    run_one s t n k [] reads others kept sound same h g =
        unchanged s t n k reads others same (g.0 ∙ sym h.0) h.1 g.1
    run_one s t n k (e ∷ es) reads others kept sound same h g =
        let on = first_keeps accept_good publish_good claimed accepted published s h.next e es h.seen kept sound h.step
        in
        let one = step_one s t h.next g.next e h.seen g.seen kept same h.step g.step in
        let rest = run_one h.next g.next n k es h.later g.later on.0 on.1 one.next_same h.rest g.rest in
        record {
          seen_same = g.reads_are ∙ ap₂ (λ (x y : List ℕ). x ++ y) one.seen_same rest.seen_same ∙ sym h.reads_are;
          next_same = rest.next_same;
        }
