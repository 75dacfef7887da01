-- What a run keeps, and what it adds.
use Rattle.std.proofs.Common.{◌≡◌, ℕ, ◌≤◌, Bool, List, [], ◌∷◌, ◌++◌, Option, refl, sym, ap, ◌∙◌, subst, le_refl}
use Rattle.std.proofs.Common.{le_trans}
use Rattle.std.proofs.lemmas.List.{append_assoc, append-nil}
use Rattle.lj_base.specs.Cells.{Triple}
use Rattle.lj_base.specs.Frames.{InFrame, Top}
use Rattle.lj_cover.specs.Rules.{IsCovering, Upload}
use Rattle.lj_relax.specs.States.{Good, State}
use Rattle.lj_relax.specs.Steps.{Accepts, Claims, IsLeastPrice, IsOld, Publishes, Snapshot}
use Rattle.lj_core.specs.Machines.{IsEventStep, Machine}
use Rattle.lj_core.specs.Runs.{AreSound, IsRun, accepted_by}
use Rattle.lj_core.specs.declared.events.Event.{Event}
use Rattle.lj_core.specs.declared.events.Event.TheVariants.{Accept, Claim, Publish, Read}
use Rattle.lj_core.proofs.Stepping.{IsKept, step_adds, step_falls, step_keeps, uploads_more}

-- one event more
pub run_more : (s m n : Machine) (es : List Event) (e : Event) (reads seen : List ℕ) → IsRun s es reads m
    → IsEventStep m e seen n → IsRun s (es ++ e ∷ []) (reads ++ seen) n
run_more s m n [] e reads seen h step = record {
  next = n;
  seen = seen;
  later = [];
  reads_are = ap (λ (l : List ℕ). l ++ seen) h.0 ∙ sym (append-nil seen);
  step = subst (λ (x : Machine). IsEventStep x e seen n) h.1 step;
  rest = (refl, refl);
}
run_more s m n (x ∷ es) e reads seen h step = record {
  next = h.next;
  seen = h.seen;
  later = h.later ++ seen;
  reads_are = ap (λ (l : List ℕ). l ++ seen) h.reads_are ∙ append_assoc h.seen h.later seen;
  step = h.step;
  rest = run_more h.next m n es e h.later seen h.rest step;
}

pub run_frame : (s n : Machine) (es : List Event) (reads : List ℕ) → IsRun s es reads n
    → n.state.frame ≡ s.state.frame
run_frame s n [] reads h = ap (λ (x : Machine). x.state.frame) h.1
run_frame s n (e ∷ es) reads h =
    run_frame h.next n es h.later h.rest ∙ (step_adds s e h.seen h.next h.step).frame

pub run_uploads : (s n : Machine) (es : List Event) (reads : List ℕ) → IsRun s es reads n
    → n.state.uploads ≡ s.state.uploads ++ accepted_by es
run_uploads s n [] reads h = ap (λ (x : Machine). x.state.uploads) h.1 ∙ sym (append-nil s.state.uploads)
run_uploads s n (e ∷ es) reads h =
    run_uploads h.next n es h.later h.rest
    ∙ ap (λ (us : List Upload). us ++ accepted_by es) (step_adds s e h.seen h.next h.step).uploads
    ∙ append_assoc s.state.uploads (accepted_by (e ∷ [])) (accepted_by es)
    ∙ ap (λ (us : List Upload). s.state.uploads ++ us) (sym (uploads_more e es))

-- sound uploads of the first event, and of the others
pub first_sound : (f : Top) (e : Event) (es : List Event) → AreSound f (accepted_by (e ∷ es))
    → AreSound f (accepted_by (e ∷ []))
first_sound f (Accept u) es h = record { covering = (h.covering.0, tt); inside = (h.inside.0, tt) }
first_sound f (Claim w) es h = record { covering = tt; inside = tt }
first_sound f (Publish w) es h = record { covering = tt; inside = tt }
first_sound f (Read c) es h = record { covering = tt; inside = tt }

pub rest_sound : (f : Top) (e : Event) (es : List Event) → AreSound f (accepted_by (e ∷ es))
    → AreSound f (accepted_by es)
rest_sound f (Accept u) es h = record { covering = h.covering.1; inside = h.inside.1 }
rest_sound f (Claim w) es h = h
rest_sound f (Publish w) es h = h
rest_sound f (Read c) es h = h

module _ (published_falls : (s n : State) (a : Snapshot) (best : Option ℕ) (lowered agreed : Bool)
    → Publishes s a best lowered agreed n → (c : Triple) → InFrame s.frame c → n.bounds c ≤ s.bounds c) where
  pub run_falls : (s n : Machine) (es : List Event) (reads : List ℕ) → IsRun s es reads n
      → (c : Triple) → InFrame s.state.frame c → n.state.bounds c ≤ s.state.bounds c
  run_falls s n [] reads h c inside =
      subst (λ (x : Machine). x.state.bounds c ≤ s.state.bounds c) (sym h.1) (le_refl (s.state.bounds c))
  run_falls s n (e ∷ es) reads h c inside =
      le_trans
      (run_falls h.next n es h.later h.rest c
      (subst (λ (f : Top). InFrame f c) (sym (step_adds s e h.seen h.next h.step).frame) inside))
      (step_falls published_falls s e h.seen h.next h.step c inside)

module _ (accept_good : (s n : State) (u : Upload) → Good s → IsCovering u → InFrame s.frame u.cell → Accepts s u n
    → Good n)
    (publish_good : (s n : State) (a : Snapshot) (best : Option ℕ) (lowered agreed : Bool) → Good s → IsOld s a
    → IsLeastPrice s.frame a best → Publishes s a best lowered agreed n → Good n)
    (claimed : (s n : State) (a : Snapshot) → Good s → Claims s a n → IsOld n a)
    (accepted : (s n : State) (a : Snapshot) (u : Upload) → IsOld s a → Accepts s u n → IsOld n a)
    (published : (s n : State) (a b : Snapshot) (best : Option ℕ) (lowered agreed : Bool) → IsOld s a
    → Publishes s b best lowered agreed n → IsOld n a) where
  -- what holds at the start of a run holds after its first event, of the others
  pub first_keeps : (s m : Machine) (e : Event) (es : List Event) (seen : List ℕ) → IsKept s
      → AreSound s.state.frame (accepted_by (e ∷ es)) → IsEventStep s e seen m
      → IsKept m × AreSound m.state.frame (accepted_by es)
  first_keeps s m e es seen k sound step = (
    step_keeps accept_good publish_good claimed accepted published s e seen m k (first_sound s.state.frame e es sound)
        step,
    subst (λ (f : Top). AreSound f (accepted_by es)) (sym (step_adds s e seen m step).frame)
        (rest_sound s.state.frame e es sound),
  )

  pub run_keeps : (s n : Machine) (es : List Event) (reads : List ℕ) → IsKept s
      → AreSound s.state.frame (accepted_by es) → IsRun s es reads n → IsKept n
  run_keeps s n [] reads k sound h = subst (λ (x : Machine). IsKept x) (sym h.1) k
  run_keeps s n (e ∷ es) reads k sound h =
      let on = first_keeps s h.next e es h.seen k sound h.step in
      run_keeps h.next n es h.later on.0 on.1 h.rest
