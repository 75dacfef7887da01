-- The state behind the lock: what is known of it whenever the lock is free, and what its steps do.
use Rattle.std.specs.Prelude.{◌≡◌, ℕ, ◌-◌, ◌<◌, ◌≤◌, List, [], length}
use Rattle.std.specs.List.{AllByRecursion}
use Rattle.lj_base.specs.Cells.{Triple}
use Rattle.lj_base.specs.Frames.{Top}
use Rattle.lj_board.specs.Seen.{PassView, saw, seen_of}
use Rattle.lj_cover.specs.Derivations.{IsDerivation, IsIn, root_cell, tree_cost}
use Rattle.lj_cover.specs.Rules.{Upload, triple}
use Rattle.lj_cover.specs.Uses.{EachUpload}
use Rattle.lj_deriv.specs.Nodes.{Steps, plan_tree}
use Rattle.lj_relax.specs.Steps.{Accepts}
use Rattle.lj_relax.specs.Tickets.{TicketLists}
use Rattle.lj_table.specs.Tables.{Contents, IsAtRest, state_of}
use Rattle.lj_shared.specs.Changes.{up_to_date}
use Rattle.lj_shared.specs.Passes.{AtMostEach}
use Rattle.lj_shared.specs.States.{AreAmong, IsFirstLacking, TakesNext}
use Rattle.lj_shared.specs.declared.held.Settling.{Settling}
use Rattle.lj_shared.specs.declared.held.Settling.TheVariants.{Accepted, Claimed, NeedsRoom, Settled}
use Rattle.lj_shared.specs.declared.held.Work.{Work}
use Rattle.lj_shared.specs.declared.held.Work.TheVariants.{Found, NeedsRoom as WorkNeedsRoom}
use Rattle.lj_shared.specs.declared.state.Next.TheVariants.{Claimed as NextClaimed, Ended as NextEnded}
use Rattle.lj_shared.specs.declared.state.State.{State}

-- the table is of the frame, and each of its uploads is allowed
pub record IsAllowedTable (frame : Top) (allowed : Upload → Type 0) (t : Contents) : Type 0 where
  pub frame_is : t.arena.frame ≡ frame
  pub uploads : AllByRecursion allowed t.arena.uploads

-- the state has at most more room for nodes
pub record HasMoreRoom (s n : State) : Type 0 where
  pub table : n.table ≡ record s.table { arena = record s.table.arena { spare = n.table.arena.spare } }
  pub spare : s.table.arena.spare ≤ n.table.arena.spare
  pub clients : n.clients ≡ s.clients

-- the ticket has room for fewer rows than the table has uploads, and nothing has changed
pub record HasNoRoom (s : State) (q : TicketLists) (rows : ℕ) (n : State) (r : TicketLists) : Type 0 where
  pub rows_are : rows ≡ length s.table.arena.uploads
  pub few : q.room < rows
  pub state : n ≡ s
  pub ticket : r ≡ q

-- from a state and a ticket to those after a worker has come
abbrev pub Works : State → TicketLists → Work → State → TicketLists → Type 0
Works s q (WorkNeedsRoom rows) n r = HasNoRoom s q rows n r
Works s q (Found next) n r = TakesNext s q next n r

-- no cell was open, and the table has accepted the first upload of `own` that it lacked
pub record IsBrought (own : List Upload) (s n : State) : Type 0 where
  pub rest : IsAtRest s.table
  pub place : ℕ
  pub lacking : IsFirstLacking own s.table.arena.uploads place
  pub step : Accepts (state_of s.table) lacking.upload (state_of n.table)
  pub clients : n.clients ≡ s.clients

-- no cell is open, and the table has each upload of `own`
pub record HasAll (own : List Upload) (s n : State) : Type 0 where
  pub rest : IsAtRest s.table
  pub among : AreAmong own s.table.arena.uploads
  pub state : n ≡ s

-- from a state to that after a settling client has found no open cell
abbrev pub Closes : List Upload → State → State → Settling → Type 0
Closes own s n Accepted = IsBrought own s n
Closes own s n Settled = HasAll own s n
Closes own s n _ = ⊥

-- from a state and a ticket to those after a settling client has come
abbrev pub Settles : List Upload → State → TicketLists → Settling → State → TicketLists → Type 0
Settles own s q (NeedsRoom rows) n r = HasNoRoom s q rows n r
Settles own s q Claimed n r = TakesNext s q NextClaimed n r
Settles own s q Accepted n r = IsBrought own s n × (r ≡ q)
Settles own s q Settled n r = HasAll own s n × (r ≡ q)

-- `Settles`, where the ticket is brought up to date first, and once more after an acceptance
abbrev pub SettlesCurrent : List Upload → State → TicketLists → Settling → State → TicketLists → Type 0
SettlesCurrent own s q Accepted n r = IsBrought own s n × (r ≡ up_to_date n.table q)
SettlesCurrent own s q found n r = Settles own s (up_to_date s.table q) found n r

-- where no cell is open and no client runs, the pass has seen at most what needs no upload
abbrev pub IsFound : Top → PassView → Work → Type 0
IsFound frame p (Found NextEnded) = AtMostEach frame [] p
IsFound frame p _ = Unit {0}

-- where no cell is open and no upload is lacking, the pass has seen at most what is derived from the uploads
abbrev pub IsSettled : Top → List Upload → PassView → Settling → Type 0
IsSettled frame own p Settled = AtMostEach frame own p
IsSettled frame own p _ = Unit {0}

-- the pass has seen at most the table's bound of the cell
abbrev pub IsShown : Contents → PassView → Triple → Type 0
IsShown t p c = seen_of p c ≤ (state_of t).bounds c

-- the cell with n points less, also in each block and in each set
abbrev pub derived_cell : Triple → ℕ → Triple
derived_cell c n = triple (c.v - n) (c.k - n) (c.t - n)

-- the pass has seen at most the table's bounds of the cell, and of those derived from it at a point and at two points
pub record AreShown (t : Contents) (p : PassView) (c : Triple) : Type 0 where
  pub own : IsShown t p c
  pub point : 1 ≤ c.t → 2 ≤ c.v → IsShown t p (derived_cell c 1)
  pub pair : 2 ≤ c.t → 3 ≤ c.v → IsShown t p (derived_cell c 2)

-- the plan is a derivation of the cell in the frame from allowed uploads; it costs at most what the pass had seen of
-- the cell, and that is what it has seen now
pub record IsShownPlan (frame : Top) (allowed : Upload → Type 0) (c : Triple) (old new : PassView) (p : Steps)
    : Type 0 where
  pub cell_is : root_cell (plan_tree p) ≡ c
  pub derivation : IsDerivation (plan_tree p)
  pub inside : IsIn frame (plan_tree p)
  pub uploads : EachUpload allowed (plan_tree p)
  pub low : tree_cost (plan_tree p) ≤ seen_of old c
  pub seen : new ≡ saw old c (tree_cost (plan_tree p))
  pub at : seen_of new c ≡ tree_cost (plan_tree p)
