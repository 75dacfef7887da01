-- Tables of bounds as contracts see them, and what their type says.
use Rattle.std.specs.Prelude.{◌≡◌, ◌≢◌, ◌↔◌, ℕ, ◌<◌, ◌≤◌, Bool, true, false, not, ◌&&◌, All, IsTrue, List}
use Rattle.std.specs.Prelude.{length, slice_index_or}
use Rattle.lj_base.specs.Bounds.{at_cell}
use Rattle.lj_base.specs.Cells.{Triple}
use Rattle.lj_base.specs.Frames.{InFrame, Top, index_of, size_of}
use Rattle.lj_cover.specs.Derivations.{IsLeast, root_cell, tree_cost}
use Rattle.lj_cover.specs.Instances.{IsRowOf}
use Rattle.lj_deriv.specs.Nodes.{Nodes, node_tree}
use Rattle.lj_relax.specs.States.{Good, State}
use Rattle.lj_relax.specs.Tickets.{TicketLists}
use Rattle.lj_table.specs.declared.store.Store.{Store}

-- an arena, and for each cell of its frame, in index order, a bound, a node, and two marks
pub record Contents : Type 0 where
  pub arena : Nodes
  pub bounds : List ℕ
  pub nodes : List ℕ
  -- the cell is not open
  pub closed : List Bool
  -- the cell is not open, or it is taken
  pub busy : List Bool

abbrev pub contents_of : Store → Contents
contents_of s = record {
  arena = s.arena;
  bounds = s.bounds.items;
  nodes = s.nodes.items;
  closed = s.closed;
  busy = s.busy;
}

-- the mark of a cell
abbrev pub mark_at : Top → List Bool → Triple → Bool
mark_at frame marks c = slice_index_or marks (index_of frame c) false

-- the uploads, the bounds and the open cells
abbrev pub state_of : Contents → State
state_of t = record {
  frame = t.arena.frame;
  uploads = t.arena.uploads;
  bounds = at_cell t.arena.frame t.bounds;
  pending = λ c. not (mark_at t.arena.frame t.closed c);
}

-- whether the cell is open and somebody has claimed it
abbrev pub is_taken : Contents → Triple → Bool
is_taken t c = mark_at t.arena.frame t.busy c && not (mark_at t.arena.frame t.closed c)

-- no cell is open
abbrev pub IsAtRest : Contents → Type 0
IsAtRest t = (c : Triple) → InFrame t.arena.frame c → (state_of t).pending c ≡ false

-- each bound is the least cost of a derivation in the frame from the uploads
abbrev pub AreLeast : Contents → Type 0
AreLeast t = (c : Triple) → InFrame t.arena.frame c → IsLeast t.arena.frame t.arena.uploads c ((state_of t).bounds c)

-- the arena has the node, and its derivation is of the cell and costs n
pub record IsNodeOf (a : Nodes) (i : ℕ) (c : Triple) (n : ℕ) : Type 0 where
  pub there : i < length a.rules
  pub cell : root_cell (node_tree a i) ≡ c
  pub cost : tree_cost (node_tree a i) ≡ n

-- the node of each cell is of that cell and costs its bound
abbrev pub AreNodes : Top → Nodes → List ℕ → List ℕ → Type 0
AreNodes frame a nodes bounds =
    (c : Triple) → InFrame frame c → IsNodeOf a (at_cell frame nodes c) c (at_cell frame bounds c)

-- of the arena's first n nodes the one at the place i is the last of the cell, and it costs the bound
pub record IsLatest (a : Nodes) (n : ℕ) (c : Triple) (i bound : ℕ) : Type 0 where
  pub before : i < n
  pub node : IsNodeOf a i c bound
  pub last : (j : ℕ) → i < j → j < n → root_cell (node_tree a j) ≢ c

-- each cell's node is its last one of the arena's first n nodes, and costs its bound
abbrev pub AreLatest : Top → Nodes → ℕ → List ℕ → List ℕ → Type 0
AreLatest frame a n nodes bounds =
    (c : Triple) → InFrame frame c → IsLatest a n c (at_cell frame nodes c) (at_cell frame bounds c)

-- the index of each cell of the frame is one of as many places as the frame has cells, and no other cell has it
pub record IsIndexed (frame : Top) : Type 0 where
  pub below : (c : Triple) → InFrame frame c → index_of frame c < size_of frame
  pub one : (c d : Triple) → InFrame frame c → InFrame frame d → index_of frame c ≡ index_of frame d → c ≡ d

-- the test says whether P holds of the cell at the place
pub record IsTestAt (frame : Top) (place : ℕ) (P : Triple → Type 0) (test : Bool) : Type 0 where
  pub cell : Triple
  pub inside : InFrame frame cell
  pub at_place : index_of frame cell ≡ place
  pub holds : IsTrue test ↔ P cell

-- lists with an item for each cell of the frame
pub record AreLists (t : Contents) : Type 0 where
  pub bounds : length t.bounds ≡ size_of t.arena.frame
  pub nodes : length t.nodes ≡ size_of t.arena.frame
  pub closed : length t.closed ≡ size_of t.arena.frame
  pub busy : length t.busy ≡ size_of t.arena.frame
  pub index : IsIndexed t.arena.frame

-- the state is good, and each cell has a node that costs its bound, which is its last one
pub record IsTable (t : Contents) : Type 0 where
  pub lists : AreLists t
  pub good : Good (state_of t)
  pub nodes : AreNodes t.arena.frame t.arena t.nodes t.bounds
  pub latest : AreLatest t.arena.frame t.arena (length t.arena.rules) t.nodes t.bounds
  pub busy : (i : ℕ) → slice_index_or t.closed i false ≡ true → slice_index_or t.busy i false ≡ true

-- a table with these nodes may publish what was found over the ticket: each node that it names is there, is of its cell
-- and costs the ticket's number, and each row is the row at its cell of the upload at the row's place
pub record Fits (a : Nodes) (q : TicketLists) : Type 0 where
  pub frame : q.frame ≡ a.frame
  pub nodes : AreNodes q.frame a q.nodes q.bounds
  pub rows : All (IsRowOf a.uploads q.cell) q.rows

-- nodes were only added, and where none was no bound has changed
pub record HasGrown (a : Nodes) (bounds : List ℕ) (a2 : Nodes) (bounds2 : List ℕ) : Type 0 where
  pub more : length a.rules ≤ length a2.rules
  pub same : length a2.rules ≡ length a.rules → bounds2 ≡ bounds

-- nodes were only added: those that were there are the same derivations
pub record Extends (a b : Nodes) : Type 0 where
  pub frame : b.frame ≡ a.frame
  pub more : length a.rules ≤ length b.rules
  pub trees : (j : ℕ) → j < length a.rules → node_tree b j ≡ node_tree a j

-- the ticket's lists are those that a table with this arena had when the arena had n nodes
pub record IsOfFirst (a : Nodes) (n : ℕ) (q : TicketLists) : Type 0 where
  pub frame : q.frame ≡ a.frame
  pub few : n ≤ length a.rules
  pub latest : AreLatest q.frame a n q.nodes q.bounds

-- the cells whose bound stays keep their node
abbrev pub KeepsNodes : Contents → Contents → Type 0
KeepsNodes t n = (c : Triple) → InFrame t.arena.frame c
    → at_cell t.arena.frame n.bounds c ≡ at_cell t.arena.frame t.bounds c
    → at_cell t.arena.frame n.nodes c ≡ at_cell t.arena.frame t.nodes c
