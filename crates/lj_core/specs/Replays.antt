-- Runs over the live table.
use Rattle.std.specs.Prelude.{◌≡◌, ◌≢◌, ℕ, ◌≤◌, Bool, false, All, List, [], ◌++◌, Option, None, IfSome, length, map}
use Rattle.std.specs.Prelude.{replicate}
use Rattle.std.specs.Option.{option_map}
use Rattle.lj_base.specs.Cells.{Triple}
use Rattle.lj_base.specs.Frames.{InFrame, Top}
use Rattle.lj_cover.specs.Derivations.{IsLeast}
use Rattle.lj_relax.specs.States.{Good}
use Rattle.lj_relax.specs.Steps.{IsLeastPrice, Publishes}
use Rattle.lj_relax.specs.Tickets.{TicketLists, snapshot_of}
use Rattle.lj_table.specs.Starting.{IsFresh, first_bound}
use Rattle.lj_table.specs.Tables.{Contents, Fits, IsAtRest, is_taken, state_of}
use Rattle.lj_core.specs.Machines.{IsEventStep, Machine}
use Rattle.lj_core.specs.Runs.{AreReads, AreSound, IsRun, accepted_by, readings}
use Rattle.lj_core.specs.declared.events.Event.{Event}
use Rattle.lj_core.specs.declared.tickets.TheConstants.{WORKERS}

-- a table, and for each worker the ticket that the worker has
abbrev pub machine_of : Contents → List (Option TicketLists) → Machine
machine_of t tickets = record {
  state = state_of t;
  taken = is_taken t;
  held = map (option_map snapshot_of) tickets;
}

-- there is a place for each worker, and each ticket fits the table
pub record AreReady (t : Contents) (tickets : List (Option TicketLists)) : Type 0 where
  pub places : length tickets ≡ WORKERS
  pub fit : All (λ held. IfSome held (Fits t.arena)) tickets

-- an event at which nothing is read has changed table and tickets
pub record HasChanged (t : Contents) (tickets : List (Option TicketLists)) (e : Event) (n : Contents)
    (now : List (Option TicketLists)) : Type 0 where
  pub step : IsEventStep (machine_of t tickets) e [] (machine_of n now)
  pub ready : AreReady n now

-- an event has changed table, tickets and reads
pub record HasStepped (t : Contents) (tickets : List (Option TicketLists)) (reads : List ℕ) (e : Event)
    (n : Contents) (now : List (Option TicketLists)) (all : List ℕ) : Type 0 where
  pub seen : List ℕ
  pub reads_are : all ≡ reads ++ seen
  pub step : IsEventStep (machine_of t tickets) e seen (machine_of n now)
  pub ready : AreReady n now

-- the ticket has been published with its least price
pub record HasPublished (t : Contents) (q : TicketLists) (n : Contents) : Type 0 where
  pub best : Option ℕ
  pub lowered : Bool
  pub agreed : Bool
  pub least : IsLeastPrice t.arena.frame (snapshot_of q) best
  pub publishes : Publishes (state_of t) (snapshot_of q) best lowered agreed (state_of n)
  pub untaken : is_taken n q.cell ≡ false
  pub others : (d : Triple) → InFrame t.arena.frame d → d ≢ q.cell → is_taken n d ≡ is_taken t d
  pub fits : (p : TicketLists) → Fits t.arena p → Fits n.arena p

-- no worker has a ticket
abbrev pub no_tickets : List (Option TicketLists)
no_tickets = replicate WORKERS None

-- a run of these events, from a fresh table of the frame and with no tickets, has come to the machine
pub record IsSoFar (frame : Top) (events : List Event) (reads : List ℕ) (n : Machine) : Type 0 where
  pub start : Contents
  pub fresh : IsFresh frame start
  pub good : Good (state_of start)
  pub run : IsRun (machine_of start no_tickets) events reads n

-- what a run of the events over a fresh table of the frame comes to
pub record IsTrace (frame : Top) (events : List Event) (reads : List ℕ) (t : Contents) : Type 0 where
  -- the tickets that the workers have at the end
  pub tickets : List (Option TicketLists)
  -- each event has made its step, in order, and each read has the bound of that moment
  pub run : IsSoFar frame events reads (machine_of t tickets)
  pub frame_is : t.arena.frame ≡ frame
  -- the accepted uploads are those of the events, in order
  pub uploads : t.arena.uploads ≡ accepted_by events
  -- each of them covers, and its cell is in the frame
  pub sound : AreSound frame (accepted_by events)
  pub good : Good (state_of t)
  -- no bound has risen
  pub falls : (c : Triple) → InFrame frame c → (state_of t).bounds c ≤ first_bound c
  -- at rest each bound is the least
  pub least : IsAtRest t → (c : Triple) → InFrame frame c
      → IsLeast frame (accepted_by events) c ((state_of t).bounds c)
  pub reads_are : AreReads frame (readings [] events) reads
