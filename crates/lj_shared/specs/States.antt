-- What the calls of a state do.
use Rattle.std.specs.Prelude.{◌≡◌, ◌≢◌, ◌⊎◌, ℕ, ◌<◌, ◌≤◌, Bool, false, List, length, Option, slice_get, Some, take}
use Rattle.std.specs.List.{Contains}
use Rattle.lj_base.specs.Cells.{Triple}
use Rattle.lj_base.specs.Frames.{InFrame, Top}
use Rattle.lj_cover.specs.Rules.{Upload}
use Rattle.lj_deriv.specs.declared.limits.TheConstants.{MAX_ARENA_UPLOADS}
use Rattle.lj_relax.specs.Found.{Evaluation, found_cost}
use Rattle.lj_relax.specs.States.{State as TableState}
use Rattle.lj_relax.specs.Steps.{Snapshot}
use Rattle.lj_relax.specs.Tickets.{TicketLists, snapshot_of}
use Rattle.lj_table.specs.Claiming.{IsClaim, IsNoClaim}
use Rattle.lj_table.specs.Tables.{Contents, KeepsNodes, is_taken, state_of}
use Rattle.lj_table.specs.declared.outcomes.Outcome.{Outcome}
use Rattle.lj_shared.specs.declared.state.Next.{Next}
use Rattle.lj_shared.specs.declared.state.Next.TheVariants.{Claimed, Ended, Waits}
use Rattle.lj_shared.specs.declared.state.State.{State}

-- the table is of another frame, or it holds as many uploads as it can
abbrev pub IsUnfit : Top → Contents → Type 0
IsUnfit frame t = (t.arena.frame ≢ frame) ⊎ (MAX_ARENA_UPLOADS ≤ length t.arena.uploads)

-- from a state and a ticket to those after `next`: the table's claim, or no cell is open and nothing has changed
abbrev pub TakesNext : State → TicketLists → Next → State → TicketLists → Type 0
TakesNext s q Claimed n r = IsClaim s.table q r.cell n.table r × (n.clients ≡ s.clients)
TakesNext s q Waits n r = IsNoClaim s.table q n.table r × (n ≡ s) × (0 < s.clients)
TakesNext s q Ended n r = IsNoClaim s.table q n.table r × (n ≡ s) × (s.clients ≡ 0)

-- from a table to the table after what was found over a ticket has been published, by a step of the state
pub record IsPut (Step : TableState → Snapshot → Option ℕ → Bool → Bool → TableState → Type 0) (t : Contents)
    (e : Evaluation) (outcome : Outcome) (n : Contents) : Type 0 where
  pub step : Step (state_of t) (snapshot_of e.ticket) (found_cost e.found) outcome.lowered outcome.agreed (state_of n)
  pub untaken : is_taken n e.ticket.cell ≡ false
  pub taken : (c : Triple) → InFrame t.arena.frame c → c ≢ e.ticket.cell → is_taken n c ≡ is_taken t c
  pub nodes : KeepsNodes t n

-- each upload of the first list is one of the second
abbrev pub AreAmong : List Upload → List Upload → Type 0
AreAmong own uploads = (u : Upload) → Contains own u → Contains uploads u

-- the list does not have the upload at the places from one up to another
abbrev pub LacksBetween : List Upload → Upload → ℕ → ℕ → Type 0
LacksBetween uploads u from to = (k : ℕ) → from ≤ k → k < to → slice_get uploads k ≡ Some u → ⊥

-- the upload at the place of the first list is the first that is none of the second
pub record IsFirstLacking (own uploads : List Upload) (i : ℕ) : Type 0 where
  pub upload : Upload
  pub at_place : slice_get own i ≡ Some upload
  pub lacking : Contains uploads upload → ⊥
  pub before : AreAmong (take i own) uploads
