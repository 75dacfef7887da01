-- A run over the live table, event by event.
use Rattle.std.proofs.Common.{◌≡◌, ℕ, ◌≤◌, false, All, List, [], ◌∷◌, ◌++◌, length, map}
use Rattle.std.proofs.Common.{Option, None, get_or, refl, sym, ap, ◌∙◌, subst, arith, length-append, ⊎_elim}
use Rattle.std.proofs.Math.ListN.{get_or-map}
use Rattle.std.proofs.lemmas.Bool.{cases_lt}
use Rattle.std.proofs.lemmas.List.{get_or-replicate, get_or_past, length_push, length-replicate}
use Rattle.std.proofs.lemmas.List.Elements.{All-map, All-replicate}
use Rattle.std.specs.List.{AllByRecursion}
use Rattle.std.specs.Option.{IfSome, option_map}
use Rattle.lj_base.specs.Cells.{Triple}
use Rattle.lj_base.specs.Frames.{InFrame, Top}
use Rattle.lj_cover.specs.Derivations.{IsLeast}
use Rattle.lj_cover.specs.Rules.{IsCovering, Upload}
use Rattle.lj_relax.specs.States.{Good, State}
use Rattle.lj_relax.specs.Steps.{IsOld, Snapshot}
use Rattle.lj_relax.specs.Tickets.{TicketLists, snapshot_of}
use Rattle.lj_table.specs.Starting.{IsFresh}
use Rattle.lj_table.specs.Tables.{Contents, Fits, state_of}
use Rattle.lj_core.specs.Machines.{AreOld, Machine}
use Rattle.lj_core.specs.Replays.{AreReady, HasStepped, IsSoFar, IsTrace, machine_of, no_tickets}
use Rattle.lj_core.specs.Runs.{AreReads, AreSound, IsRun, readings, accepted_by}
use Rattle.lj_core.specs.declared.events.Event.{Event}
use Rattle.lj_core.specs.declared.events.Event.TheVariants.{Accept, Claim, Publish, Read}
use Rattle.lj_core.specs.declared.tickets.TheConstants.{WORKERS}
use Rattle.lj_core.specs.Sameness.{SameHeld, SameMachine}
use Rattle.lj_core.proofs.KeptStates.{run_more}
use Rattle.lj_core.proofs.Stepping.{step_adds}

-- a run has come so far
pub record IsOnItsWay (frame : Top) (done : List Event) (reads : List ℕ) (t : Contents)
    (tickets : List (Option TicketLists)) : Type 0 where
  pub run : IsSoFar frame done reads (machine_of t tickets)
  pub ready : AreReady t tickets
  pub frame_is : t.arena.frame ≡ frame
  pub few : length t.arena.uploads ≤ length done

pub begun : (frame : Top) (t : Contents) (tickets : List (Option TicketLists)) (reads : List ℕ) → IsFresh frame t
    → Good (state_of t) → tickets ≡ no_tickets → reads ≡ [] → IsOnItsWay frame [] reads t tickets
begun frame t tickets reads fresh good none empty = record {
  run = record {
    start = t;
    fresh = fresh;
    good = good;
    run = (empty, ap (λ (l : List (Option TicketLists)). machine_of t l) none);
  };
  ready = record {
    places = ap (λ (l : List (Option TicketLists)). length l) none
        ∙ length-replicate {A = Option TicketLists} WORKERS None;
    fit = subst (λ (l : List (Option TicketLists)). All (λ held. IfSome held (Fits t.arena)) l) (sym none)
        (All-replicate (λ (held : Option TicketLists). IfSome held (Fits t.arena)) WORKERS None tt);
  };
  frame_is = fresh.frame;
  few = omega (arith, ap (λ (us : List Upload). length us) fresh.uploads);
}

-- no ticket is old or new
pub none_old : (s : State) → All (λ o. IfSome o (IsOld s)) (map (option_map snapshot_of) no_tickets)
none_old s =
    All-map (λ (o : Option Snapshot). IfSome o (IsOld s)) (option_map snapshot_of) no_tickets
    (All-replicate (λ (held : Option TicketLists). IfSome (option_map snapshot_of held) (IsOld s)) WORKERS None tt)

one_upload : (e : Event) → length (accepted_by (e ∷ [])) ≤ 1
one_upload (Accept u) = omega arith
one_upload (Claim w) = omega arith
one_upload (Publish w) = omega arith
one_upload (Read c) = omega arith

pub gone_on : (frame : Top) (done : List Event) (reads all : List ℕ) (t n : Contents)
    (tickets now : List (Option TicketLists)) (e : Event) → IsOnItsWay frame done reads t tickets
    → HasStepped t tickets reads e n now all → IsOnItsWay frame (done ++ e ∷ []) all n now
gone_on frame done reads all t n tickets now e h step =
    let s = machine_of t tickets in
    let m = machine_of n now in
    let adds = step_adds s e step.seen m step.step in
    record {
      run = record {
        start = h.run.start;
        fresh = h.run.fresh;
        good = h.run.good;
        run = subst (λ (l : List ℕ). IsRun (machine_of h.run.start no_tickets) (done ++ e ∷ []) l m)
            (sym step.reads_are)
            (run_more (machine_of h.run.start no_tickets) s m done e reads step.seen h.run.run step.step);
      };
      ready = step.ready;
      frame_is = adds.frame ∙ h.frame_is;
      few =
          omega (
            arith,
            h.few,
            ap (λ (us : List Upload). length us) adds.uploads,
            length-append t.arena.uploads (accepted_by (e ∷ [])),
            one_upload e,
            length_push done e,
          );
    }

-- the laws of runs, and the table at the end
module _ (run_uploads : (s n : Machine) (es : List Event) (reads : List ℕ) → IsRun s es reads n
    → n.state.uploads ≡ s.state.uploads ++ accepted_by es)
    (run_falls : (s n : Machine) (es : List Event) (reads : List ℕ) → IsRun s es reads n
    → (c : Triple) → InFrame s.state.frame c → n.state.bounds c ≤ s.state.bounds c)
    (run_reads : (s n : Machine) (es : List Event) (reads : List ℕ) → Good s.state → AreOld s
    → AreSound s.state.frame (accepted_by es) → IsRun s es reads n
    → AreReads s.state.frame (readings s.state.uploads es) reads)
    (rest_least : (s : State) → Good s → ((c : Triple) → InFrame s.frame c → s.pending c ≡ false)
    → (c : Triple) → InFrame s.frame c → IsLeast s.frame s.uploads c (s.bounds c)) where
  pub trace_is : (frame : Top) (events done : List Event) (reads : List ℕ) (t : Contents)
      (tickets : List (Option TicketLists)) → done ≡ events → IsOnItsWay frame done reads t tickets
      → Good (state_of t) → AllByRecursion IsCovering t.arena.uploads
      → AllByRecursion (λ u. InFrame t.arena.frame u.cell) t.arena.uploads → IsTrace frame events reads t
  trace_is frame events done reads t tickets all h good covering inside =
      let m = machine_of t tickets in
      let start = machine_of h.run.start no_tickets in
      let fresh = h.run.fresh in
      let run : IsRun start events reads m = subst (λ (es : List Event). IsRun start es reads m) all h.run.run in
      let uploads : t.arena.uploads ≡ accepted_by events =
      run_uploads start m events reads run ∙ ap (λ (us : List Upload). us ++ accepted_by events) fresh.uploads in
      let sound : AreSound frame (accepted_by events) =
      subst (λ (x : Top × List Upload). AreSound x.0 x.1) (λ i. (h.frame_is i, uploads i))
      (record { covering = covering; inside = inside }) in
      record {
        tickets = tickets;
        run = record { start = h.run.start; fresh = fresh; good = h.run.good; run = run };
        frame_is = h.frame_is;
        uploads = uploads;
        sound = sound;
        good = good;
        falls = λ c within.
            subst (λ x. (state_of t).bounds c ≤ x) (fresh.bounds c within)
            (run_falls start m events reads run c (subst (λ (f : Top). InFrame f c) (sym fresh.frame) within));
        least = λ rest c within.
            subst (λ (x : Top × List Upload). IsLeast x.0 x.1 c ((state_of t).bounds c))
            (λ i. (h.frame_is i, uploads i))
            (rest_least (state_of t) good rest c (subst (λ (f : Top). InFrame f c) (sym h.frame_is) within));
        reads_are = subst (λ (x : Top × List Upload). AreReads x.0 (readings x.1 events) reads)
            (λ i. (fresh.frame i, fresh.uploads i))
            (run_reads start m events reads h.run.good (none_old start.state)
            (subst (λ (f : Top). AreSound f (accepted_by events)) (sym fresh.frame) sound) run);
      }

-- ---- two replays

-- no worker has a ticket
nobody : (w : ℕ) → get_or (map (option_map snapshot_of) no_tickets) w None ≡ None
nobody w =
    get_or-map (option_map snapshot_of) no_tickets w None
    ∙ ap (λ (o : Option TicketLists). option_map snapshot_of o)
    (⊎_elim (λ inside. get_or-replicate WORKERS w None None inside)
    (λ past. get_or_past no_tickets w None
    (omega (arith, length-replicate {A = Option TicketLists} WORKERS None, past)))
    (cases_lt w WORKERS))

pub same_starts : (frame : Top) (s t : Contents) → IsFresh frame s → IsFresh frame t
    → SameMachine (machine_of s no_tickets) (machine_of t no_tickets)
same_starts frame s t h g = record {
  state_same = record {
    frame = g.frame ∙ sym h.frame;
    uploads = g.uploads ∙ sym h.uploads;
    bounds = λ c i. let j = subst (λ (f : Top). InFrame f c) h.frame i in g.bounds c j ∙ sym (h.bounds c j);
    pending = λ c i. let j = subst (λ (f : Top). InFrame f c) h.frame i in g.pending c j ∙ sym (h.pending c j);
  };
  taken_same = λ c i. let j = subst (λ (f : Top). InFrame f c) h.frame i in g.untaken c j ∙ sym (h.untaken c j);
  places = refl;
  held_same = λ w. subst (λ (o : Option Snapshot). SameHeld s.arena.frame o o) (sym (nobody w)) tt;
}
