-- What one event keeps, and what it adds.
use Rattle.std.proofs.Common.{◌≡◌, ℕ, ◌≤◌, Bool, All, List, [], ◌∷◌, ◌++◌, length, Option, Some, None, get_or}
use Rattle.std.proofs.Common.{refl}
use Rattle.std.proofs.Common.{sym, ap, ◌∙◌, subst, ⊎_elim, le_refl}
use Rattle.std.proofs.Math.ListN.{set}
use Rattle.std.proofs.lemmas.Bool.{cases_lt}
use Rattle.std.proofs.lemmas.List.{append-nil, get_or_past}
use Rattle.std.proofs.lemmas.List.Elements.{All-get_or, All-set, All-weaker}
use Rattle.std.proofs.lemmas.Option.{IfSome_then}
use Rattle.std.specs.Option.{IfSome, MatchOption}
use Rattle.lj_base.specs.Cells.{Triple}
use Rattle.lj_base.specs.Frames.{InFrame}
use Rattle.lj_cover.specs.Rules.{IsCovering, Upload}
use Rattle.lj_relax.specs.States.{Good, State}
use Rattle.lj_relax.specs.Steps.{Accepts, Claims, IsLeastPrice, IsOld, Publishes, Snapshot}
use Rattle.lj_core.specs.Machines.{AreOld, IsEventStep, IsPublication, Machine, snapshot_now}
use Rattle.lj_core.specs.Runs.{AreSound, accepted_by}
use Rattle.lj_core.specs.declared.events.Event.{Event}
use Rattle.lj_core.specs.declared.events.Event.TheVariants.{Accept, Claim, Publish, Read}

-- by cases of an option of which a fact is known
pub by_held : (o : Option Snapshot) (Old : Snapshot → Type 0) (P : Type 0) (Q : Snapshot → Type 0) (R : Type 0)
    → IfSome o Old → MatchOption o P Q → (P → R) → ((a : Snapshot) → Old a → Q a → R) → R
by_held None Old P Q R old h none some = none h
by_held (Some a) Old P Q R old h none some = some a old h

anything : (o : Option Snapshot) → IfSome o (λ a. Unit {0})
anything None = tt
anything (Some a) = tt

-- what holds of each of the tickets holds of the worker's, also past the end of the list
pub held_has : (P : Snapshot → Type 0) (held : List (Option Snapshot)) (w : ℕ) → All (λ o. IfSome o P) held
    → IfSome (get_or held w None) P
held_has P held w h =
    ⊎_elim (λ inside. All-get_or (λ (o : Option Snapshot). IfSome o P) held w None inside h)
    (λ past. subst (λ (o : Option Snapshot). IfSome o P) (sym (get_or_past held w None past)) tt)
    (cases_lt w (length held))

-- ---- frame and uploads

-- the frame stays, and an accepted upload is appended
pub record Adds (s : Machine) (e : Event) (n : Machine) : Type 0 where
  pub frame : n.state.frame ≡ s.state.frame
  pub uploads : n.state.uploads ≡ s.state.uploads ++ accepted_by (e ∷ [])

-- nothing is accepted or read
pub record IsQuiet (s : Machine) (seen : List ℕ) (n : Machine) : Type 0 where
  pub none : seen ≡ []
  pub frame : n.state.frame ≡ s.state.frame
  pub uploads : n.state.uploads ≡ s.state.uploads

quiet_state : (s : Machine) (seen : List ℕ) (n : Machine) → seen ≡ [] → n.state ≡ s.state → IsQuiet s seen n
quiet_state s seen n none e = record {
  none = none;
  frame = ap (λ (x : State). x.frame) e;
  uploads = ap (λ (x : State). x.uploads) e;
}

pub claim_is_quiet : (s : Machine) (w : ℕ) (seen : List ℕ) (n : Machine) → IsEventStep s (Claim w) seen n
    → IsQuiet s seen n
claim_is_quiet s w seen n h =
    ⊎_elim (λ none. quiet_state s seen n h.0 none.state_is) (λ one. quiet_state s seen n h.0 one.claims.state) h.1

pub publish_is_quiet : (s : Machine) (w : ℕ) (seen : List ℕ) (n : Machine) → IsEventStep s (Publish w) seen n
    → IsQuiet s seen n
publish_is_quiet s w seen n h =
    by_held (get_or s.held w None) (λ a. Unit {0}) (n ≡ s) (λ a. IsPublication s w a n) (IsQuiet s seen n)
    (anything (get_or s.held w None)) h.1
    (λ same. quiet_state s seen n h.0 (ap (λ (x : Machine). x.state) same))
    (λ a old p. record { none = h.0; frame = p.publishes.frame; uploads = p.publishes.uploads })

quiet_adds : (s : Machine) (e : Event) (seen : List ℕ) (n : Machine) → accepted_by (e ∷ []) ≡ [] → IsQuiet s seen n
    → Adds s e n
quiet_adds s e seen n none h = record {
  frame = h.frame;
  uploads = h.uploads ∙ sym (append-nil s.state.uploads) ∙ ap (λ us. s.state.uploads ++ us) (sym none);
}

pub step_adds : (s : Machine) (e : Event) (seen : List ℕ) (n : Machine) → IsEventStep s e seen n → Adds s e n
step_adds s (Accept u) seen n h = record { frame = h.1.accepts.frame; uploads = h.1.accepts.uploads }
step_adds s (Claim w) seen n h = quiet_adds s (Claim w) seen n refl (claim_is_quiet s w seen n h)
step_adds s (Publish w) seen n h = quiet_adds s (Publish w) seen n refl (publish_is_quiet s w seen n h)
step_adds s (Read c) seen n h = record {
  frame = ap (λ (x : Machine). x.state.frame) h.same;
  uploads = ap (λ (x : Machine). x.state.uploads) h.same ∙ sym (append-nil s.state.uploads);
}

-- the uploads of the first event and of the others
pub uploads_more : (e : Event) (es : List Event) → accepted_by (e ∷ es) ≡ accepted_by (e ∷ []) ++ accepted_by es
uploads_more (Accept u) es = refl
uploads_more (Claim w) es = refl
uploads_more (Publish w) es = refl
uploads_more (Read c) es = refl

same_bounds : (s n : State) → n ≡ s → (c : Triple) → n.bounds c ≤ s.bounds c
same_bounds s n e c = subst (λ (x : State). x.bounds c ≤ s.bounds c) (sym e) (le_refl (s.bounds c))

-- ---- bounds

module _ (published_falls : (s n : State) (a : Snapshot) (best : Option ℕ) (lowered agreed : Bool)
    → Publishes s a best lowered agreed n → (c : Triple) → InFrame s.frame c → n.bounds c ≤ s.bounds c) where
  pub step_falls : (s : Machine) (e : Event) (seen : List ℕ) (n : Machine) → IsEventStep s e seen n
      → (c : Triple) → InFrame s.state.frame c → n.state.bounds c ≤ s.state.bounds c
  step_falls s (Accept u) seen n h c inside = (h.1.accepts.bounds c inside).most
  step_falls s (Claim w) seen n h c inside =
      ⊎_elim (λ none. same_bounds s.state n.state none.state_is c)
      (λ one. same_bounds s.state n.state one.claims.state c) h.1
  step_falls s (Publish w) seen n h c inside =
      by_held (get_or s.held w None) (λ a. Unit {0}) (n ≡ s) (λ a. IsPublication s w a n)
      (n.state.bounds c ≤ s.state.bounds c) (anything (get_or s.held w None)) h.1
      (λ same. same_bounds s.state n.state (ap (λ (x : Machine). x.state) same) c)
      (λ a old p. published_falls s.state n.state a p.best p.lowered p.agreed p.publishes c inside)
  step_falls s (Read c) seen n h d inside = same_bounds s.state n.state (ap (λ (x : Machine). x.state) h.same) d

-- ---- good states and old tickets

-- the state is good, and each ticket is old
pub record IsKept (s : Machine) : Type 0 where
  pub good : Good s.state
  pub old : AreOld s

module _ (accept_good : (s n : State) (u : Upload) → Good s → IsCovering u → InFrame s.frame u.cell → Accepts s u n
    → Good n)
    (publish_good : (s n : State) (a : Snapshot) (best : Option ℕ) (lowered agreed : Bool) → Good s → IsOld s a
    → IsLeastPrice s.frame a best → Publishes s a best lowered agreed n → Good n)
    (claimed : (s n : State) (a : Snapshot) → Good s → Claims s a n → IsOld n a)
    (accepted : (s n : State) (a : Snapshot) (u : Upload) → IsOld s a → Accepts s u n → IsOld n a)
    (published : (s n : State) (a b : Snapshot) (best : Option ℕ) (lowered agreed : Bool) → IsOld s a
    → Publishes s b best lowered agreed n → IsOld n a) where
  -- tickets that stay, in a later state in which all that were old are
  still_old : (s n : State) (held : List (Option Snapshot)) → ((a : Snapshot) → IsOld s a → IsOld n a)
      → All (λ o. IfSome o (IsOld s)) held → All (λ o. IfSome o (IsOld n)) held
  still_old s n held on h =
      All-weaker (λ (o : Option Snapshot). IfSome o (IsOld s)) (λ (o : Option Snapshot). IfSome o (IsOld n))
      (λ o old. IfSome_then o old on) held h

  -- and one of them has changed
  old_with : (s n : State) (held now : List (Option Snapshot)) (w : ℕ) (o : Option Snapshot)
      → ((a : Snapshot) → IsOld s a → IsOld n a) → All (λ o. IfSome o (IsOld s)) held → IfSome o (IsOld n)
      → now ≡ set held w o → All (λ o. IfSome o (IsOld n)) now
  old_with s n held now w o on h new e =
      subst (λ (l : List (Option Snapshot)). All (λ o. IfSome o (IsOld n)) l) (sym e)
      (All-set (λ (o : Option Snapshot). IfSome o (IsOld n)) held w o new (still_old s n held on h))

  same_old : (s n : State) → n ≡ s → (a : Snapshot) → IsOld s a → IsOld n a
  same_old s n e a h = subst (λ (x : State). IsOld x a) (sym e) h

  claim_keeps : (s : Machine) (w : ℕ) (seen : List ℕ) (n : Machine) → IsKept s → IsEventStep s (Claim w) seen n
      → IsKept n
  claim_keeps s w seen n k h =
      ⊎_elim
      (λ none. record {
        good = subst (λ (x : State). Good x) (sym none.state_is) k.good;
        old = old_with s.state n.state s.held n.held w None (same_old s.state n.state none.state_is) k.old tt
            none.held_is;
      })
      (λ one. record {
        good = subst (λ (x : State). Good x) (sym one.claims.state) k.good;
        old = old_with s.state n.state s.held n.held w (Some (snapshot_now s.state one.cell))
            (same_old s.state n.state one.claims.state) k.old
            (claimed s.state n.state (snapshot_now s.state one.cell) k.good one.claims) one.held_is;
      })
      h.1

  publish_keeps : (s : Machine) (w : ℕ) (seen : List ℕ) (n : Machine) → IsKept s → IsEventStep s (Publish w) seen n
      → IsKept n
  publish_keeps s w seen n k h =
      by_held (get_or s.held w None) (IsOld s.state) (n ≡ s) (λ a. IsPublication s w a n) (IsKept n)
      (held_has (IsOld s.state) s.held w k.old) h.1
      (λ same. subst (λ (x : Machine). IsKept x) (sym same) k)
      (λ a old p. record {
        good = publish_good s.state n.state a p.best p.lowered p.agreed k.good old p.least p.publishes;
        old = old_with s.state n.state s.held n.held w None
            (λ b older. published s.state n.state b a p.best p.lowered p.agreed older p.publishes) k.old tt p.held_is;
      })

  pub step_keeps : (s : Machine) (e : Event) (seen : List ℕ) (n : Machine) → IsKept s
      → AreSound s.state.frame (accepted_by (e ∷ [])) → IsEventStep s e seen n → IsKept n
  step_keeps s (Accept u) seen n k sound h = record {
    good = accept_good s.state n.state u k.good sound.covering.0 sound.inside.0 h.1.accepts;
    old = subst (λ (l : List (Option Snapshot)). All (λ o. IfSome o (IsOld n.state)) l) (sym h.1.held_is)
        (still_old s.state n.state s.held (λ a old. accepted s.state n.state a u old h.1.accepts) k.old);
  }
  step_keeps s (Claim w) seen n k sound h = claim_keeps s w seen n k h
  step_keeps s (Publish w) seen n k sound h = publish_keeps s w seen n k h
  step_keeps s (Read c) seen n k sound h = subst (λ (x : Machine). IsKept x) (sym h.same) k
