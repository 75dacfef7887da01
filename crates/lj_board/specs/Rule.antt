-- The rule of a board, and what its steps do to a pass.
use Rattle.std.specs.Prelude.{◌≡◌, ℕ, ◌+◌, ◌-◌, ◌<◌, ◌≤◌, ◌⊎◌, min, List, [], length, drop, slice_index, slice_set}
use mathlib.Core.Option.{some}
use lib.ListN.{get_elem?}
use Rattle.atomic_table.specs.Table.{Me, State, Step}
use Rattle.lj_base.specs.Cells.{Triple}
use Rattle.lj_base.specs.Frames.{InFrame, Top, index_of, size_of}
use Rattle.lj_cover.specs.Rules.{Upload}
use Rattle.lj_cover.specs.Uses.{DerivableBy}
use Rattle.lj_board.specs.declared.steps.View.{View}
use Rattle.lj_board.specs.Seen.{greatest, lesser, seen_at}

-- a pass that is spent has seen nothing; any other one knows the frame, and has a number for each of its cells
abbrev pub IsFull : Top → View → Type 0
IsFull f v = (v.seen ≡ []) ⊎ ((v.frame ≡ f) × (length v.seen ≡ size_of f))

-- no word is above what the pass has seen of its cell
abbrev pub IsAbove : Top → List ℕ → View → Type 0
IsAbove f words v = IsFull f v × ((i : ℕ) → i < size_of f → slice_index words (i + 1) ≤ seen_at v.seen i)

-- word 0 is 0, and there is one more for each cell, in index order. The number in it is the cost of a derivation of the
-- cell in the frame from allowed uploads, and at most what any pass has seen
pub record BoardRule (f : Top) (allowed : Upload → Type 0) (s : State (Unit {0}) View) : Type 0 where
  pub wide : length s.words ≡ size_of f + 1
  pub spare : slice_index s.words 0 ≡ 0
  pub small : (i : ℕ) → slice_index s.words i ≤ greatest
  pub derivable : (c : Triple) → InFrame f c → DerivableBy f allowed c (slice_index s.words (index_of f c + 1))
  pub views : (seat : ℕ) (v : View) → get_elem? s.views seat ≡ some v → IsAbove f s.words v

-- what the first pass has seen: the words after word 0
abbrev pub first_view : Top → List ℕ → View
first_view f words = record { frame = f; seen = drop 1 words }

-- a pass that has been joined to another one
abbrev pub spent_view : View
spent_view = record { frame = record { top = record { v = 1; k = 1; t = 0 } }; seen = [] }

abbrev pub joined_view : View → View → View
joined_view v w = record { frame = v.frame; seen = lesser v.seen w.seen }

-- the pass has now seen n at the place
abbrev pub saw_at : View → ℕ → ℕ → View
saw_at v i n = record { frame = v.frame; seen = slice_set v.seen i n }

-- what a step does: to its word, to the seat before it with the number that it found, and to the seat after it
abbrev pub Effect : Type 1
Effect = Step (Unit {0}) → Me (Unit {0}) View → ℕ → Me (Unit {0}) View → Type 0

-- a load finds the cost of a derivation of the word's cell, at most what was seen, and it is seen now
abbrev pub Peeks : Top → (Upload → Type 0) → Effect
Peeks f allowed s me n w =
    ((c : Triple) → InFrame f c → index_of f c ≡ s.word - 1 → DerivableBy f allowed c n)
    × (n ≤ seen_at me.0.seen (s.word - 1)) × (w ≡ (saw_at me.0 (s.word - 1) n, me.1))

-- the lesser of what was seen and of the number that is given is seen now
abbrev pub Lowers : Effect
Lowers s me n w = w ≡ (saw_at me.0 (s.word - 1) (min (seen_at me.0.seen (s.word - 1)) s.first), me.1)
