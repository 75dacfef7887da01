-- What contracts see of a board and of a pass.
use Rattle.std.specs.Prelude.{◌≡◌, ℕ, ◌-◌, ◌^◌, ◌≤◌, min, List, [], ◌∷◌, length, slice_index_or, slice_set}
use Rattle.atomic_table.specs.Seated.{TableId}
use Rattle.lj_base.specs.Bounds.{at_cell}
use Rattle.lj_base.specs.Cells.{Triple}
use Rattle.lj_base.specs.Frames.{InFrame, Top, index_of, size_of}
use Rattle.lj_cover.specs.Rules.{Upload}
use Rattle.lj_cover.specs.Uses.{DerivableBy}

-- which board it is, and the frame whose cells it has
pub record BoardView : Type 0 where
  pub table : TableId
  pub frame : Top

-- a pass: its board, and for each cell, in index order, the number that it has seen there
pub record PassView : Type 0 where
  pub board : BoardView
  pub seen : List ℕ

-- a name of a history, for where a caller chooses which one it is
abbrev pub any_history : TableId
any_history = record {
  words = 1;
  slots = 0;
  views_name = 0;
  atom = 0;
  block = 0;
  offset = 0;
  slot_names = [];
}

-- the greatest number of 64 bits
abbrev pub greatest : ℕ
greatest = 2 ^ 64 - 1

-- the number at a place; where nothing has been seen it is the greatest one
abbrev pub seen_at : List ℕ → ℕ → ℕ
seen_at seen i = slice_index_or seen i greatest

-- what the pass has seen of a cell
abbrev pub seen_of : PassView → Triple → ℕ
seen_of p c = seen_at p.seen (index_of p.board.frame c)

-- the pass has now seen n at the cell
abbrev pub saw : PassView → Triple → ℕ → PassView
saw p c n = record { board = p.board; seen = slice_set p.seen (index_of p.board.frame c) n }

-- the lesser number at each place
abbrev pub lesser : List ℕ → List ℕ → List ℕ
lesser [] ys = ys
lesser (x ∷ xs) [] = x ∷ xs
lesser (x ∷ xs) (y ∷ ys) = min x y ∷ lesser xs ys

-- the two are of the same board, and at no cell has the new one seen a greater number
abbrev pub NoneRises : PassView → PassView → Type 0
NoneRises old new = (new.board ≡ old.board) × ((c : Triple) → seen_of new c ≤ seen_of old c)

-- a number for each cell of the frame, in index order, and each the cost of a derivation of the cell in the frame from
-- allowed uploads
pub record AreDerivable (frame : Top) (allowed : Upload → Type 0) (numbers : List ℕ) : Type 0 where
  pub count : length numbers ≡ size_of frame
  pub each : (c : Triple) → InFrame frame c → DerivableBy frame allowed c (at_cell frame numbers c)
