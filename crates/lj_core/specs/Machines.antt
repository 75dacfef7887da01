-- A table of bounds with its workers, and what one event does to it.
use Rattle.std.specs.Prelude.{◌≡◌, ◌≢◌, ◌⊎◌, ℕ, ◌≤◌, Bool, true, false, All, List, [], ◌∷◌, Option, Some, None}
use Rattle.std.specs.Prelude.{IfSome}
use Rattle.std.specs.Prelude.{slice_index_or, slice_set}
use Rattle.std.specs.Option.{MatchOption}
use Rattle.lj_base.specs.Cells.{Triple}
use Rattle.lj_base.specs.Frames.{InFrame, Top, index_of}
use Rattle.lj_cover.specs.Instances.{rows_at}
use Rattle.lj_cover.specs.Rules.{Upload}
use Rattle.lj_relax.specs.States.{State}
use Rattle.lj_relax.specs.Steps.{Accepts, Claims, IsLeastPrice, IsOld, IsRead, Publishes, Snapshot}
use Rattle.lj_core.specs.declared.events.Event.{Event}
use Rattle.lj_core.specs.declared.events.Event.TheVariants.{Accept, Claim, Publish, Read}

pub record Machine : Type 0 where
  pub state : State
  -- whether the cell is open and has been claimed
  pub taken : Triple → Bool
  -- for each worker, by number, what the ticket shows that the worker has
  pub held : List (Option Snapshot)

-- each ticket has what a ticket of any earlier time has
abbrev pub AreOld : Machine → Type 0
AreOld s = All (λ held. IfSome held (IsOld s.state)) s.held

-- a ticket of the cell with the bounds and the rows of now
abbrev pub snapshot_now : State → Triple → Snapshot
snapshot_now s c = record { cell = c; bounds = s.bounds; rows = rows_at s.uploads c }

-- the cell is open and not taken
pub record IsFree (s : State) (taken : Triple → Bool) (c : Triple) : Type 0 where
  pub is_open : s.pending c ≡ true
  pub untaken : taken c ≡ false

-- the cell is the first of the frame, in index order, of which P holds
pub record IsFirstWith (frame : Top) (P : Triple → Type 0) (c : Triple) : Type 0 where
  pub inside : InFrame frame c
  pub holds : P c
  pub first : (d : Triple) → InFrame frame d → P d → index_of frame c ≤ index_of frame d

-- the first open cell that is not taken, or, where each open cell is taken, the first open cell
abbrev pub IsNextCell : State → (Triple → Bool) → Triple → Type 0
IsNextCell s taken c = IsFirstWith s.frame (IsFree s taken) c
    ⊎ (((d : Triple) → InFrame s.frame d → IsFree s taken d → ⊥)
    × IsFirstWith s.frame (λ d. s.pending d ≡ true) c)

-- an upload is accepted: no mark of a claim and no ticket changes
pub record IsAcceptance (s : Machine) (u : Upload) (n : Machine) : Type 0 where
  pub accepts : Accepts s.state u n.state
  pub taken_are : (c : Triple) → InFrame s.state.frame c → n.taken c ≡ s.taken c
  pub held_is : n.held ≡ s.held

-- the worker takes the next cell, and has a ticket of it in place of any earlier one
pub record IsClaimOfNext (s : Machine) (w : ℕ) (n : Machine) : Type 0 where
  pub cell : Triple
  pub next : IsNextCell s.state s.taken cell
  pub claims : Claims s.state (snapshot_now s.state cell) n.state
  pub held_is : n.held ≡ slice_set s.held w (Some (snapshot_now s.state cell))
  pub now_taken : n.taken cell ≡ true
  pub others : (d : Triple) → InFrame s.state.frame d → d ≢ cell → n.taken d ≡ s.taken d

-- no cell is open: the worker has no ticket afterwards, and all else stays
pub record IsClaimOfNone (s : Machine) (w : ℕ) (n : Machine) : Type 0 where
  pub closed : (c : Triple) → InFrame s.state.frame c → s.state.pending c ≡ false
  pub state_is : n.state ≡ s.state
  pub taken_is : n.taken ≡ s.taken
  pub held_is : n.held ≡ slice_set s.held w None

-- the worker's ticket is published with its least price, whatever its age, and used up; its cell is taken no more
pub record IsPublication (s : Machine) (w : ℕ) (a : Snapshot) (n : Machine) : Type 0 where
  pub best : Option ℕ
  pub lowered : Bool
  pub agreed : Bool
  pub least : IsLeastPrice s.state.frame a best
  pub publishes : Publishes s.state a best lowered agreed n.state
  pub held_is : n.held ≡ slice_set s.held w None
  pub untaken : n.taken a.cell ≡ false
  pub others : (d : Triple) → InFrame s.state.frame d → d ≢ a.cell → n.taken d ≡ s.taken d

-- the bound of the cell is read, and nothing changes
pub record IsReading (s : Machine) (c : Triple) (seen : List ℕ) (n : Machine) : Type 0 where
  pub bound : ℕ
  pub read : IsRead s.state c bound n.state
  pub seen_is : seen ≡ bound ∷ []
  pub same : n ≡ s

-- from s to n by the event, at which these bounds are read
abbrev pub IsEventStep : Machine → Event → List ℕ → Machine → Type 0
IsEventStep s (Accept u) seen n = (seen ≡ []) × IsAcceptance s u n
IsEventStep s (Claim w) seen n = (seen ≡ []) × (IsClaimOfNone s w n ⊎ IsClaimOfNext s w n)
IsEventStep s (Publish w) seen n =
    (seen ≡ []) × MatchOption (slice_index_or s.held w None) (n ≡ s) (λ a. IsPublication s w a n)
IsEventStep s (Read c) seen n = IsReading s c seen n
