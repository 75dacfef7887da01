-- The table's calls are steps of the machine.
use Rattle.std.proofs.Common.{◌≡◌, ◌≢◌, ℕ, ◌<◌, ◌≤◌, Bool, true, false, not, ◌&&◌, List, [], ◌∷◌, ◌++◌}
use Rattle.std.proofs.Common.{Option, Some, None, get_or, map, refl, sym, ap, ◌∙◌, subst, arith, inl, inr, ⊎_elim}
use Rattle.std.proofs.Math.ListN.{get_or-map, set}
use Rattle.std.proofs.Math.Seq.{map-set_same}
use Rattle.std.proofs.lemmas.Bool.{cases_lt}
use Rattle.std.proofs.lemmas.List.{append-nil, get_or-set_same, get_or-set_other, length-set, map-set, set-set}
use Rattle.std.proofs.lemmas.List.Elements.{All-set, All-weaker}
use Rattle.std.proofs.lemmas.Option.{IfSome_then}
use Rattle.std.specs.Option.{IfSome, MatchOption, option_map}
use Rattle.lj_base.specs.Cells.{Triple}
use Rattle.lj_base.specs.Frames.{InFrame, Top, index_of}
use Rattle.lj_cover.specs.Instances.{rows_at}
use Rattle.lj_cover.specs.Rules.{Upload}
use Rattle.lj_relax.specs.States.{State}
use Rattle.lj_relax.specs.Found.{Evaluation, found_cost}
use Rattle.lj_relax.specs.Steps.{Accepts, Claims, IsLeastPrice, Publishes, Snapshot}
use Rattle.lj_relax.specs.Tickets.{TicketLists, snapshot, snapshot_of}
use Rattle.lj_table.specs.Claiming.{AllMarked, IsClaim, IsFirst, IsNext, IsNoClaim}
use Rattle.lj_table.specs.Tables.{Contents, Fits, IsTable, is_taken, mark_at, state_of}
use Rattle.lj_core.specs.Machines.{IsClaimOfNext, IsNextCell, IsPublication, Machine}
use Rattle.lj_core.specs.Machines.{snapshot_now}
use Rattle.lj_core.specs.Replays.{AreReady, HasChanged, HasPublished, HasStepped, machine_of}
use Rattle.lj_core.specs.declared.events.Event.{Event}
use Rattle.lj_core.specs.declared.events.Event.TheVariants.{Accept, Claim, Publish, Read}

-- ---- marks

apart : true ≡ false → ⊥
apart h = cc

-- a place without the mark of busy is open and not taken
free_marks : (busy closed : Bool) → (closed ≡ true → busy ≡ true) → busy ≡ false
    → (not closed ≡ true) × ((busy && not closed) ≡ false)
free_marks true closed k e = absurd (apart e)
free_marks false true k e = absurd (apart (sym (k refl)))
free_marks false false k e = (refl, refl)

-- and an open place that is not taken has no mark of busy
busy_mark : (busy closed : Bool) → not closed ≡ true → (busy && not closed) ≡ false → busy ≡ false
busy_mark false closed p e = refl
busy_mark true true p e = absurd (apart (sym p))
busy_mark true false p e = absurd (apart e)

open_mark : (closed : Bool) → closed ≡ false → not closed ≡ true
open_mark true e = absurd (apart e)
open_mark false e = refl

closed_mark : (closed : Bool) → closed ≡ true → not closed ≡ false
closed_mark true e = refl
closed_mark false e = absurd (apart (sym e))

both_marks : (busy closed : Bool) → busy ≡ true → not closed ≡ true → (busy && not closed) ≡ true
both_marks true true p q = q
both_marks true false p q = refl
both_marks false closed p q = absurd (apart (sym p))

-- ---- claims

-- no cell before the first without a mark is one of which P holds
none_before : (i j : ℕ) → (j < i → ⊥) → i ≤ j
none_before i j never = ⊎_elim (λ low. absurd (never low)) (λ high. high) (cases_lt j i)

next_free : (t : Contents) (c : Triple) → IsTable t → IsFirst t.arena.frame t.busy c
    → IsNextCell (state_of t) (is_taken t) c
next_free t c table h =
    let f = t.arena.frame in
    let free = free_marks (mark_at f t.busy c) (mark_at f t.closed c) (table.busy (index_of f c)) h.unmarked in
    inl (record {
      inside = h.inside;
      holds = record { is_open = free.0; untaken = free.1 };
      first = λ d inside is_free. none_before (index_of f c) (index_of f d) (λ low.
          apart (sym (h.first d inside low)
          ∙ busy_mark (mark_at f t.busy d) (mark_at f t.closed d) is_free.is_open is_free.untaken));
    })

next_open : (t : Contents) (c : Triple) → AllMarked t.arena.frame t.busy
    → IsFirst t.arena.frame t.closed c → IsNextCell (state_of t) (is_taken t) c
next_open t c all h =
    let f = t.arena.frame in
    inr (
      λ d inside is_free. apart (sym (all d inside)
          ∙ busy_mark (mark_at f t.busy d) (mark_at f t.closed d) is_free.is_open is_free.untaken),
      record {
        inside = h.inside;
        holds = open_mark (mark_at f t.closed c) h.unmarked;
        first = λ d inside is_open. none_before (index_of f c) (index_of f d) (λ low.
            apart (sym is_open ∙ closed_mark (mark_at f t.closed d) (h.first d inside low)));
      },
    )

next_is : (t : Contents) (c : Triple) → IsTable t
    → IsNext t.arena.frame t.closed t.busy c → IsNextCell (state_of t) (is_taken t) c
next_is t c table h = ⊎_elim (next_free t c table) (λ w. next_open t c w.0 w.1) h

-- a claimed ticket shows the bounds and the rows of now
shows_now : (t n : Contents) (q r : TicketLists) (c : Triple) → q.frame ≡ t.arena.frame → IsClaim t q c n r
    → snapshot_of r ≡ snapshot_now (state_of t) c
shows_now t n q r c frame h =
    ap snapshot_of h.ticket ∙ ap (λ f. snapshot f c t.bounds (rows_at t.arena.uploads c)) frame

-- the mark of busy has been set at the cell
marked_taken : (t : Contents) (c d : Triple) → IsTable t → InFrame t.arena.frame c → InFrame t.arena.frame d
    → d ≢ c → is_taken (record t { busy = set t.busy (index_of t.arena.frame c) true }) d ≡ is_taken t d
marked_taken t c d table inside at other =
    ap (λ b. b && not (mark_at t.arena.frame t.closed d))
    (get_or-set_other t.busy (index_of t.arena.frame c) (index_of t.arena.frame d) true false
    (λ e. other (table.lists.index.one d c at inside e)))

newly_taken : (t : Contents) (c : Triple) → IsTable t → InFrame t.arena.frame c
    → (state_of t).pending c ≡ true → is_taken (record t { busy = set t.busy (index_of t.arena.frame c) true }) c ≡ true
newly_taken t c table inside is_open =
    let i = index_of t.arena.frame c in
    both_marks (get_or (set t.busy i true) i false) (mark_at t.arena.frame t.closed c)
    (get_or-set_same t.busy i true false (omega (arith, table.lists.index.below c inside, table.lists.busy))) is_open

claimed_next : (t n : Contents) (q r : TicketLists) (tickets : List (Option TicketLists)) (w : ℕ) (c : Triple)
    → IsTable t → q.frame ≡ t.arena.frame → IsClaim t q c n r
    → IsClaimOfNext (machine_of t tickets) w (machine_of n (set tickets w (Some r)))
claimed_next t n q r tickets w c table frame h =
    let now = shows_now t n q r c frame h in
    let claims : Claims (state_of t) (snapshot_now (state_of t) c) (state_of n) =
    subst (λ (a : Snapshot). Claims (state_of t) a (state_of n)) now h.step in
    record {
      cell = c;
      next = next_is t c table h.next;
      claims = claims;
      held_is = map-set (option_map snapshot_of) tickets w (Some r)
          ∙ ap (λ (a : Snapshot). set (map (option_map snapshot_of) tickets) w (Some a)) now;
      now_taken = subst (λ (x : Contents). is_taken x c ≡ true) (sym h.table)
          (newly_taken t c table claims.inside claims.is_open);
      others = λ d at other. subst (λ (x : Contents). is_taken x d ≡ is_taken t d) (sym h.table)
          (marked_taken t c d table claims.inside at other);
    }

-- ---- readiness

ready_on : (t n : Contents) (tickets : List (Option TicketLists))
    → ((q : TicketLists) → Fits t.arena q → Fits n.arena q) → AreReady t tickets → AreReady n tickets
ready_on t n tickets fits h = record {
  places = h.places;
  fit = All-weaker (λ held. IfSome held (Fits t.arena)) (λ held. IfSome held (Fits n.arena))
      (λ held old. IfSome_then held old fits) tickets h.fit;
}

pub ready_with : (t n : Contents) (tickets : List (Option TicketLists)) (w : ℕ) (held : Option TicketLists)
    → ((q : TicketLists) → Fits t.arena q → Fits n.arena q) → AreReady t tickets → IfSome held (Fits n.arena)
    → AreReady n (set tickets w held)
ready_with t n tickets w held fits h new =
    let on = ready_on t n tickets fits h in
    record {
      places = length-set tickets w held ∙ h.places;
      fit = All-set (λ held. IfSome held (Fits n.arena)) tickets w held new on.fit;
    }

-- ---- the events

pub claim_steps : (t n : Contents) (q r : TicketLists) (tickets : List (Option TicketLists)) (w : ℕ) (c : Triple)
    → IsTable t → AreReady t tickets → q.frame ≡ t.arena.frame → IsClaim t q c n r
    → ((p : TicketLists) → Fits t.arena p → Fits n.arena p)
    → HasChanged t tickets (Claim w) n (set tickets w (Some r))
claim_steps t n q r tickets w c table ready frame h fits = record {
  step = (refl, inr (claimed_next t n q r tickets w c table frame h));
  ready = ready_with t n tickets w (Some r) fits ready h.fits;
}

pub no_claim_steps : (t n : Contents) (q r : TicketLists) (tickets : List (Option TicketLists)) (w : ℕ)
    → AreReady t tickets → IsNoClaim t q n r → ((p : TicketLists) → Fits t.arena p → Fits n.arena p)
    → HasChanged t tickets (Claim w) n (set tickets w None)
no_claim_steps t n q r tickets w ready h fits = record {
  step = (
    refl,
    inl (record {
      closed = λ c inside. closed_mark (mark_at t.arena.frame t.closed c) (h.closed c inside);
      state_is = ap state_of h.table;
      taken_is = ap (λ (x : Contents). is_taken x) h.table;
      held_is = map-set (option_map snapshot_of) tickets w None;
    }),
  );
  ready = ready_with t n tickets w None fits ready tt;
}

-- a claim over the tickets without the worker's is one over all tickets
pub claim_over : (t n : Contents) (tickets now : List (Option TicketLists)) (w : ℕ)
    → HasChanged t (set tickets w None) (Claim w) n now → HasChanged t tickets (Claim w) n now
claim_over t n tickets now w h =
    let f : Option TicketLists → Option Snapshot = option_map snapshot_of in
    let same : (x : Option Snapshot) → set (map f (set tickets w None)) w x ≡ set (map f tickets) w x =
    λ x. ap (λ l. set l w x) (map-set f tickets w None) ∙ set-set (map f tickets) w None x in
    record {
      step = (
        refl,
        ⊎_elim
            (λ none. inl (record {
              closed = none.closed;
              state_is = none.state_is;
              taken_is = none.taken_is;
              held_is = none.held_is ∙ same None;
            }))
            (λ one. inr (record {
              cell = one.cell;
              next = one.next;
              claims = one.claims;
              held_is = one.held_is ∙ same (Some (snapshot_now (state_of t) one.cell));
              now_taken = one.now_taken;
              others = one.others;
            }))
            h.step.1,
      );
      ready = h.ready;
    }

-- the worker's place among the snapshots
held_at : (tickets : List (Option TicketLists)) (w : ℕ)
    → get_or (map (option_map snapshot_of) tickets) w None ≡ option_map snapshot_of (get_or tickets w None)
held_at tickets w = get_or-map (option_map snapshot_of) tickets w None

pub publish_steps : (t n : Contents) (q : TicketLists) (tickets : List (Option TicketLists)) (w : ℕ)
    → AreReady t tickets → Some q ≡ get_or tickets w None → HasPublished t q n
    → HasChanged t tickets (Publish w) n (set tickets w None)
publish_steps t n q tickets w ready at h =
    let f : Option TicketLists → Option Snapshot = option_map snapshot_of in
    let place : Some (snapshot_of q) ≡ get_or (map f tickets) w None = ap f at ∙ sym (held_at tickets w) in
    let s = machine_of t tickets in
    let m = machine_of n (set tickets w None) in
    record {
      step = (
        refl,
        subst (λ (o : Option Snapshot). MatchOption o (m ≡ s) (λ a. IsPublication s w a m)) place
            (record {
              best = h.best;
              lowered = h.lowered;
              agreed = h.agreed;
              least = h.least;
              publishes = h.publishes;
              held_is = map-set f tickets w None;
              untaken = h.untaken;
              others = h.others;
            }),
      );
      ready = ready_with t n tickets w None h.fits ready tt;
    }

with_held : Machine → List (Option Snapshot) → Machine
with_held s held = record s { held = held }

pub idle_steps : (t : Contents) (tickets : List (Option TicketLists)) (w : ℕ) → AreReady t tickets
    → None ≡ get_or tickets w None → HasChanged t tickets (Publish w) t (set tickets w None)
unfolding with_held
idle_steps t tickets w ready at =
    let f : Option TicketLists → Option Snapshot = option_map snapshot_of in
    let place : None ≡ get_or (map f tickets) w None = ap f at ∙ sym (held_at tickets w) in
    let s = machine_of t tickets in
    let m = machine_of t (set tickets w None) in
    let same : m ≡ s = ap (with_held s) (map-set_same f tickets w None None (ap f at)) in
    record {
      step = (refl, subst (λ (o : Option Snapshot). MatchOption o (m ≡ s) (λ a. IsPublication s w a m)) place same);
      ready = ready_with t t tickets w None (λ q fits. fits) ready tt;
    }

pub accept_steps : (t n : Contents) (tickets : List (Option TicketLists)) (reads now : List ℕ) (u : Upload)
    → AreReady t tickets → Accepts (state_of t) u (state_of n)
    → ((c : Triple) → InFrame t.arena.frame c → is_taken n c ≡ is_taken t c)
    → ((q : TicketLists) → Fits t.arena q → Fits n.arena q) → now ≡ reads
    → HasStepped t tickets reads (Accept u) n tickets now
accept_steps t n tickets reads now u ready accepts taken fits same = record {
  seen = [];
  reads_are = same ∙ sym (append-nil reads);
  step = (refl, record { accepts = accepts; taken_are = taken; held_is = refl });
  ready = ready_on t n tickets fits ready;
}

pub read_steps : (t : Contents) (tickets : List (Option TicketLists)) (reads now : List ℕ) (c : Triple) (b : ℕ)
    → AreReady t tickets → InFrame t.arena.frame c → b ≡ (state_of t).bounds c → now ≡ reads ++ b ∷ []
    → HasStepped t tickets reads (Read c) t tickets now
read_steps t tickets reads now c b ready inside bound all = record {
  seen = b ∷ [];
  reads_are = all;
  step = record {
    bound = b;
    read = record { inside = inside; bound_is = bound; state = refl };
    seen_is = refl;
    same = refl;
  };
  ready = ready;
}

-- an event at which nothing is read
pub quiet_steps : (t n : Contents) (tickets after : List (Option TicketLists)) (reads now : List ℕ) (e : Event)
    → HasChanged t tickets e n after → now ≡ reads → HasStepped t tickets reads e n after now
quiet_steps t n tickets after reads now e h same = record {
  seen = [];
  reads_are = same ∙ sym (append-nil reads);
  step = h.step;
  ready = h.ready;
}

-- ---- a publication over room that was made for it

pub publication_is : (t m n : Contents) (q : TicketLists) (p : Evaluation) (cost : Option ℕ) (lowered agreed : Bool)
    → m ≡ record t { arena = record t.arena { spare = m.arena.spare } } → p.ticket ≡ q → Fits t.arena q
    → cost ≡ found_cost p.found → IsLeastPrice p.ticket.frame (snapshot_of p.ticket) cost
    → Publishes (state_of m) (snapshot_of p.ticket) (found_cost p.found) lowered agreed (state_of n)
    → is_taken n p.ticket.cell ≡ false
    → ((d : Triple) → InFrame m.arena.frame d → d ≢ p.ticket.cell → is_taken n d ≡ is_taken m d)
    → ((r : TicketLists) → Fits t.arena r → Fits n.arena r) → HasPublished t q n
publication_is t m n q p cost lowered agreed same ticket fit costs least publishes untaken others fits =
    let best = found_cost p.found in
    let states : state_of m ≡ state_of t = ap state_of same in
    record {
      best = best;
      lowered = lowered;
      agreed = agreed;
      least = subst (λ (f : Top). IsLeastPrice f (snapshot_of q) best) fit.frame
          (subst (λ (x : TicketLists). IsLeastPrice x.frame (snapshot_of x) best) ticket
          (subst (λ (o : Option ℕ). IsLeastPrice p.ticket.frame (snapshot_of p.ticket) o) costs least));
      publishes = subst (λ (x : TicketLists). Publishes (state_of t) (snapshot_of x) best lowered agreed (state_of n))
          ticket
          (subst (λ (s : State). Publishes s (snapshot_of p.ticket) best lowered agreed (state_of n)) states publishes);
      untaken = subst (λ (x : TicketLists). is_taken n x.cell ≡ false) ticket untaken;
      others = λ d inside other.
          others d (subst (λ (x : Contents). InFrame x.arena.frame d) (sym same) inside)
          (λ e. other (e ∙ ap (λ (x : TicketLists). x.cell) ticket))
          ∙ ap (λ (x : Contents). is_taken x d) same;
      fits = fits;
    }
