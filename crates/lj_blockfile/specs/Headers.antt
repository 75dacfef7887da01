-- Block files with a header: the first line names a cell and the number of blocks, and the block lines follow.
use Rattle.std.specs.Prelude.{◌≡◌, ℕ, ◌≤◌, List, [], ◌∷◌, ◌++◌, decimal, length, map}
use Rattle.lj_base.specs.Cells.{IsCell, Triple}
use Rattle.lj_text.specs.Lines.{after_line, line_text, text_lines}
use Rattle.lj_text.specs.Tokens.{join_by_space, tokens_of}
use Rattle.lj_text.specs.declared.lines.Line.{Line}
use Rattle.lj_blockfile.specs.BlockFiles.{blocks_text}
use Rattle.lj_text.specs.Numbers.{Spells}
use Rattle.lj_blockfile.specs.declared.headers.Header.{Header}

-- the first line that is not blank has four numbers: v, k and t of a cell with k of 1 or more, and the number of
-- blocks;
-- the header has the line's number, and the place after it
pub record IsHeader (body : List ℕ) (header : Header) : Type 0 where
  pub first : Line
  pub others : List Line
  pub lines : text_lines body ≡ first ∷ others
  pub spelled : Spells (line_text body first) (tokens_of (line_text body first))
      (header.cell.v ∷ header.cell.k ∷ header.cell.t ∷ header.n ∷ [])
  pub in_limits : IsCell header.cell
  pub some : 1 ≤ header.cell.k
  pub line_is : header.line ≡ first.number
  pub rest_is : header.rest ≡ after_line body first

-- the header's line, without its LF
abbrev pub header_line : Triple → ℕ → List ℕ
header_line c n = join_by_space (map decimal (c.v ∷ c.k ∷ c.t ∷ n ∷ []))

-- a file with a header and a line for each block
abbrev pub file_text : Triple → List (List ℕ) → List ℕ
file_text c bs = header_line c (length bs) ++ 10 ∷ blocks_text bs
