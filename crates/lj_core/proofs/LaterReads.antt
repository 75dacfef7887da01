-- What is read: a bound that is derivable, and no lower than any later read of its cell.
use Rattle.std.proofs.Common.{◌≡◌, ℕ, suc, ◌≤◌, Bool, All, List, [], ◌∷◌, ◌++◌, Option, refl, sym, ap, ◌∙◌}
use Rattle.std.proofs.Common.{subst, arith}
use Rattle.std.proofs.Common.{le_refl, le_trans}
use Rattle.std.proofs.lemmas.List.Elements.{All-cons, All-nil}
use Rattle.std.proofs.lemmas.List.Kept.{AllPairs-cons}
use Rattle.std.specs.List.{zip}
use Rattle.lj_base.specs.Cells.{Triple}
use Rattle.lj_base.specs.Frames.{InFrame, Top}
use Rattle.lj_cover.specs.Derivations.{DerivableIn}
use Rattle.lj_cover.specs.Rules.{IsCovering, Upload}
use Rattle.lj_relax.specs.States.{Good, State}
use Rattle.lj_relax.specs.Steps.{Accepts, Claims, IsLeastPrice, IsOld, Publishes, Snapshot}
use Rattle.lj_core.specs.Machines.{IsEventStep, Machine}
use Rattle.lj_core.specs.Runs.{AreReads, AreSound, IsRun, Reading, readings, accepted_by}
use Rattle.lj_core.specs.declared.events.Event.{Event}
use Rattle.lj_core.specs.declared.events.Event.TheVariants.{Accept, Claim, Publish, Read}
use Rattle.lj_core.proofs.KeptStates.{first_keeps}
use Rattle.lj_core.proofs.Stepping.{IsKept, claim_is_quiet, publish_is_quiet, step_adds, step_falls}

-- each of the reads of the cell is at most b
abbrev AreAtMost : Triple → ℕ → List Reading → List ℕ → Type 0
AreAtMost c b rs reads = All (λ (p : Reading × ℕ). c ≡ p.0.cell → p.1 ≤ b) (zip rs reads)

-- no event is left
no_reads : (f : Top) (us : List Upload) (reads : List ℕ) → reads ≡ [] → AreReads f (readings us []) reads
no_reads f us reads none = subst (λ (l : List ℕ). AreReads f [] l) (sym none) (record {
  count = refl;
  derivable = All-nil (λ (p : Reading × ℕ). DerivableIn f p.0.uploads p.0.cell p.1);
  falls = λ i j d before inside. absurd (omega arith);
})

-- one read before the others
read_before : (f : Top) (us : List Upload) (c : Triple) (b : ℕ) (rs : List Reading) (later reads : List ℕ)
    → DerivableIn f us c b → AreAtMost c b rs later → AreReads f rs later → reads ≡ b ∷ later
    → AreReads f (record { cell = c; uploads = us } ∷ rs) reads
read_before f us c b rs later reads derivable most h e =
    let r : Reading = record { cell = c; uploads = us } in
    subst (λ (l : List ℕ). AreReads f (r ∷ rs) l) (sym e) (record {
      count = ap (λ n. suc n) h.count;
      derivable = All-cons (λ (p : Reading × ℕ). DerivableIn f p.0.uploads p.0.cell p.1) (r, b) (zip rs later)
          derivable h.derivable;
      falls = AllPairs-cons (λ (p q : Reading × ℕ). p.0.cell ≡ q.0.cell → q.1 ≤ p.1) (r, b) (zip rs later) most
          h.falls;
    })

-- reads of events after which nothing was read or accepted
reads_on : (f g : Top) (us vs : List Upload) (es : List Event) (seen later reads : List ℕ) → seen ≡ [] → g ≡ f
    → vs ≡ us → reads ≡ seen ++ later → AreReads g (readings vs es) later → AreReads f (readings us es) reads
reads_on f g us vs es seen later reads none frames lists e h =
    let all : reads ≡ later = e ∙ ap (λ (l : List ℕ). l ++ later) none in
    subst (λ (x : Top × List Upload × List ℕ). AreReads x.0 (readings x.1 es) x.2)
    (λ i. (frames i, lists i, (sym all) i)) h

most_on : (c : Triple) (b : ℕ) (us vs : List Upload) (es : List Event) (seen later reads : List ℕ) → seen ≡ []
    → vs ≡ us → reads ≡ seen ++ later → AreAtMost c b (readings vs es) later → AreAtMost c b (readings us es) reads
most_on c b us vs es seen later reads none lists e h =
    let all : reads ≡ later = e ∙ ap (λ (l : List ℕ). l ++ later) none in
    subst (λ (x : List Upload × List ℕ). AreAtMost c b (readings x.0 es) x.1) (λ i. (lists i, (sym all) i)) h

module _ (published_falls : (s n : State) (a : Snapshot) (best : Option ℕ) (lowered agreed : Bool)
    → Publishes s a best lowered agreed n → (c : Triple) → InFrame s.frame c → n.bounds c ≤ s.bounds c) where
  -- the bound of a cell after an event, and the cell in the frame after it
  low_on : (s m : Machine) (e : Event) (seen : List ℕ) (c : Triple) (b : ℕ) → IsEventStep s e seen m
      → InFrame s.state.frame c → s.state.bounds c ≤ b → m.state.bounds c ≤ b
  low_on s m e seen c b step inside low = le_trans (step_falls published_falls s e seen m step c inside) low

  inside_on : (s m : Machine) (e : Event) (seen : List ℕ) (c : Triple) → IsEventStep s e seen m
      → InFrame s.state.frame c → InFrame m.state.frame c
  inside_on s m e seen c step inside = subst (λ (f : Top). InFrame f c) (sym (step_adds s e seen m step).frame) inside

  later_low : (s n : Machine) (es : List Event) (reads : List ℕ) (c : Triple) (b : ℕ) → InFrame s.state.frame c
      → s.state.bounds c ≤ b → IsRun s es reads n → AreAtMost c b (readings s.state.uploads es) reads
  later_low s n [] reads c b inside low h =
      subst (λ (l : List ℕ). All (λ (p : Reading × ℕ). c ≡ p.0.cell → p.1 ≤ b) (zip [] l)) (sym h.0)
      (All-nil (λ (p : Reading × ℕ). c ≡ p.0.cell → p.1 ≤ b))
  later_low s n (Accept u ∷ es) reads c b inside low h =
      let rest = later_low h.next n es h.later c b (inside_on s h.next (Accept u) h.seen c h.step inside)
      (low_on s h.next (Accept u) h.seen c b h.step inside low) h.rest in
      most_on c b (s.state.uploads ++ u ∷ []) h.next.state.uploads es h.seen h.later reads h.step.0
      h.step.1.accepts.uploads h.reads_are rest
  later_low s n (Claim w ∷ es) reads c b inside low h =
      let rest = later_low h.next n es h.later c b (inside_on s h.next (Claim w) h.seen c h.step inside)
      (low_on s h.next (Claim w) h.seen c b h.step inside low) h.rest in
      let quiet = claim_is_quiet s w h.seen h.next h.step in
      most_on c b s.state.uploads h.next.state.uploads es h.seen h.later reads quiet.none quiet.uploads h.reads_are rest
  later_low s n (Publish w ∷ es) reads c b inside low h =
      let rest = later_low h.next n es h.later c b (inside_on s h.next (Publish w) h.seen c h.step inside)
      (low_on s h.next (Publish w) h.seen c b h.step inside low) h.rest in
      let quiet = publish_is_quiet s w h.seen h.next h.step in
      most_on c b s.state.uploads h.next.state.uploads es h.seen h.later reads quiet.none quiet.uploads h.reads_are rest
  later_low s n (Read d ∷ es) reads c b inside low h =
      let rest = later_low h.next n es h.later c b (inside_on s h.next (Read d) h.seen c h.step inside)
      (low_on s h.next (Read d) h.seen c b h.step inside low) h.rest in
      let lists = ap (λ (x : Machine). x.state.uploads) h.step.same in
      let now : AreAtMost c b (readings s.state.uploads es) h.later =
      subst (λ (us : List Upload). AreAtMost c b (readings us es) h.later) lists rest in
      let r : Reading = record { cell = d; uploads = s.state.uploads } in
      let all : reads ≡ h.step.bound ∷ h.later = h.reads_are ∙ ap (λ (l : List ℕ). l ++ h.later) h.step.seen_is in
      subst (λ (l : List ℕ). AreAtMost c b (r ∷ readings s.state.uploads es) l) (sym all)
      (All-cons (λ (p : Reading × ℕ). c ≡ p.0.cell → p.1 ≤ b) (r, h.step.bound)
      (zip (readings s.state.uploads es) h.later)
      (λ same. subst (λ x. x ≤ b) (ap s.state.bounds same ∙ sym h.step.read.bound_is) low) now)

  module _ (accept_good : (s n : State) (u : Upload) → Good s → IsCovering u → InFrame s.frame u.cell → Accepts s u n
      → Good n)
      (publish_good : (s n : State) (a : Snapshot) (best : Option ℕ) (lowered agreed : Bool) → Good s → IsOld s a
      → IsLeastPrice s.frame a best → Publishes s a best lowered agreed n → Good n)
      (claimed : (s n : State) (a : Snapshot) → Good s → Claims s a n → IsOld n a)
      (accepted : (s n : State) (a : Snapshot) (u : Upload) → IsOld s a → Accepts s u n → IsOld n a)
      (published : (s n : State) (a b : Snapshot) (best : Option ℕ) (lowered agreed : Bool) → IsOld s a
      → Publishes s b best lowered agreed n → IsOld n a) where
    pub run_reads : (s n : Machine) (es : List Event) (reads : List ℕ) → IsKept s
        → AreSound s.state.frame (accepted_by es) → IsRun s es reads n
        → AreReads s.state.frame (readings s.state.uploads es) reads
    run_reads s n [] reads k sound h = no_reads s.state.frame s.state.uploads reads h.0
    run_reads s n (Accept u ∷ es) reads k sound h =
        let on = first_keeps accept_good publish_good claimed accepted published s h.next (Accept u) es h.seen k sound
        h.step in
        reads_on s.state.frame h.next.state.frame (s.state.uploads ++ u ∷ []) h.next.state.uploads es h.seen h.later
        reads h.step.0 h.step.1.accepts.frame h.step.1.accepts.uploads h.reads_are
        (run_reads h.next n es h.later on.0 on.1 h.rest)
    run_reads s n (Claim w ∷ es) reads k sound h =
        let on = first_keeps accept_good publish_good claimed accepted published s h.next (Claim w) es h.seen k sound
        h.step in
        let quiet = claim_is_quiet s w h.seen h.next h.step in
        reads_on s.state.frame h.next.state.frame s.state.uploads h.next.state.uploads es h.seen h.later reads
        quiet.none quiet.frame quiet.uploads h.reads_are (run_reads h.next n es h.later on.0 on.1 h.rest)
    run_reads s n (Publish w ∷ es) reads k sound h =
        let on = first_keeps accept_good publish_good claimed accepted published s h.next (Publish w) es h.seen k sound
        h.step in
        let quiet = publish_is_quiet s w h.seen h.next h.step in
        reads_on s.state.frame h.next.state.frame s.state.uploads h.next.state.uploads es h.seen h.later reads
        quiet.none quiet.frame quiet.uploads h.reads_are (run_reads h.next n es h.later on.0 on.1 h.rest)
    run_reads s n (Read c ∷ es) reads k sound h =
        let on = first_keeps accept_good publish_good claimed accepted published s h.next (Read c) es h.seen k sound
        h.step in
        let b = h.step.bound in
        let inside = h.step.read.inside in
        let same : h.next ≡ s = h.step.same in
        let low : h.next.state.bounds c ≤ b =
        subst (λ (x : Machine). x.state.bounds c ≤ b) (sym same)
        (subst (λ x. s.state.bounds c ≤ x) (sym h.step.read.bound_is) (le_refl (s.state.bounds c))) in
        let within : InFrame h.next.state.frame c =
        subst (λ (x : Machine). InFrame x.state.frame c) (sym same) inside in
        let most : AreAtMost c b (readings s.state.uploads es) h.later =
        subst (λ (x : Machine). AreAtMost c b (readings x.state.uploads es) h.later) same
        (later_low h.next n es h.later c b within low h.rest) in
        let rest : AreReads s.state.frame (readings s.state.uploads es) h.later =
        subst (λ (x : Machine). AreReads x.state.frame (readings x.state.uploads es) h.later) same
        (run_reads h.next n es h.later on.0 on.1 h.rest) in
        let derivable : DerivableIn s.state.frame s.state.uploads c b =
        subst (λ x. DerivableIn s.state.frame s.state.uploads c x) (sym h.step.read.bound_is)
        (k.good.derivable c inside) in
        read_before s.state.frame s.state.uploads c b (readings s.state.uploads es) h.later reads derivable most rest
        (h.reads_are ∙ ap (λ (l : List ℕ). l ++ h.later) h.step.seen_is)
