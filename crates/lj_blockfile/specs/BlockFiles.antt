-- Block files: a block line for each line that is not blank.
use Rattle.std.specs.Prelude.{◌≡◌, ℕ, ◌<◌, ◌≤◌, List, [], ◌∷◌, MatchOption, length, map}
use Rattle.std.specs.List.{AllZip}
use Rattle.lj_base.specs.declared.limits.TheConstants.{MAX_BLOCKS}
use Rattle.lj_text.specs.Lines.{IsLineNumber, line_text, text_lines, with_feeds}
use Rattle.lj_text.specs.declared.lines.Line.{Line}
use Rattle.lj_blockfile.specs.BlockLines.{IsBlockLine, block_line, line_fault}
use Rattle.lj_blockfile.specs.declared.faults.LineFault.{LineFault}
use Rattle.lj_blockfile.specs.declared.faults.BodyFault.{BodyFault}
use Rattle.lj_blockfile.specs.declared.faults.BodyFault.TheVariants.{Blocks, Line as LineAt, Memory}

-- the blocks are those of the text's lines, in order
pub record AreBlocksOf (body : List ℕ) (v k : ℕ) (bs : List (List ℕ)) : Type 0 where
  pub few : length (text_lines body) ≤ MAX_BLOCKS
  pub lines : AllZip (λ line b. IsBlockLine (line_text body line) v k b) (text_lines body) bs

-- of these lines the first that has a fault has this number, and this fault
abbrev pub IsFirstFaulty : List ℕ → ℕ → ℕ → List Line → ℕ → LineFault → Type 0
IsFirstFaulty body v k [] number fault = ⊥
IsFirstFaulty body v k (line ∷ lines) number fault =
    MatchOption (line_fault v k (line_text body line)) (IsFirstFaulty body v k lines number fault)
    (λ first. (number ≡ line.number) × (fault ≡ first))

-- the text of the lines that blocks are written as
abbrev pub blocks_text : List (List ℕ) → List ℕ
blocks_text bs = with_feeds (map block_line bs)

-- why a text holds no blocks
abbrev pub IsBodyFault : List ℕ → ℕ → ℕ → BodyFault → Type 0
IsBodyFault body v k (Blocks n) = (n ≡ length (text_lines body)) × (MAX_BLOCKS < n)
IsBodyFault body v k (LineAt number fault) =
    (length (text_lines body) ≤ MAX_BLOCKS) × IsFirstFaulty body v k (text_lines body) number fault
IsBodyFault body v k Memory = Unit {0}

-- where a line has a fault, its number is that of a line of the text
abbrev pub HasLineNumber : List ℕ → BodyFault → Type 0
HasLineNumber body (LineAt number fault) = IsLineNumber body number
HasLineNumber body _ = Unit {0}

-- the fault lies in the text: it is not that memory ran out
abbrev pub IsInputFault : BodyFault → Type 0
IsInputFault Memory = ⊥
IsInputFault _ = Unit {0}
