-- A text has one list of blocks at most, or one fault, and one header at most.
use Rattle.std.proofs.Common.{MatchOption, ◌≡◌, ℕ, List, [], ◌∷◌, Option, None, Some, sym, ap, ap₂, ◌∙◌, subst, arith}
use Rattle.lj_text.specs.Lines.{after_line, line_text, text_lines}
use Rattle.lj_text.specs.Numbers.{Spells}
use Rattle.lj_text.specs.Tokens.{tokens_of}
use Rattle.lj_text.specs.declared.lines.Line.{Line}
use Rattle.lj_blockfile.specs.BlockFiles.{AreBlocksOf, IsBodyFault, IsFirstFaulty, IsInputFault}
use Rattle.lj_blockfile.specs.BlockLines.{line_fault}
use Rattle.lj_blockfile.specs.Headers.{IsHeader}
use Rattle.lj_blockfile.specs.declared.faults.BodyFault.{BodyFault}
use Rattle.lj_blockfile.specs.declared.faults.BodyFault.TheVariants.{Blocks, Line as LineAt, Memory}
use Rattle.lj_blockfile.specs.declared.faults.LineFault.{LineFault}
use Rattle.lj_blockfile.specs.declared.headers.Header.{Header}
use Rattle.lj_blockfile.proofs.Bodies.{not_faulty}
use Rattle.lj_blockfile.proofs.Unique.{same_numbers}

-- ---- blocks or a fault

pub no_fault : (body : List ℕ) (v k : ℕ) (bs : List (List ℕ)) (fault : BodyFault) → AreBlocksOf body v k bs
    → IsBodyFault body v k fault → IsInputFault fault → ⊥
no_fault body v k bs (Blocks n) blocks h input = let few = blocks.few in omega (arith, h.0, h.1)
no_fault body v k bs (LineAt number fault) blocks h input = not_faulty number fault blocks h.1
no_fault body v k bs Memory blocks h input = input

-- ---- one fault

abbrev SameFault : ℕ → LineFault → ℕ → LineFault → Type 0
SameFault n f m g = (n ≡ m) × (f ≡ g)

-- by what the first line has
by_first : (P : ℕ → LineFault → Type 0) (number n m : ℕ) (f g : LineFault) (first : Option LineFault)
    → (P n f → P m g → SameFault n f m g)
    → MatchOption first (P n f) (λ own. (n ≡ number) × (f ≡ own))
    → MatchOption first (P m g) (λ own. (m ≡ number) × (g ≡ own))
    → SameFault n f m g
by_first P number n m f g None others h j = others h j
by_first P number n m f g (Some own) others h j = (h.0 ∙ sym j.0, h.1 ∙ sym j.1)

one_first : (body : List ℕ) (v k : ℕ) (lines : List Line) (n m : ℕ) (f g : LineFault) → IsFirstFaulty body v k lines n f
    → IsFirstFaulty body v k lines m g → SameFault n f m g
one_first body v k [] n m f g h j = absurd h
one_first body v k (line ∷ lines) n m f g h j =
    by_first (λ number fault. IsFirstFaulty body v k lines number fault) line.number n m f g
    (line_fault v k (line_text body line))
    (one_first body v k lines n m f g) h j

pub one_fault : (body : List ℕ) (v k : ℕ) (one other : BodyFault) → IsBodyFault body v k one
    → IsBodyFault body v k other
    → IsInputFault one → IsInputFault other → one ≡ other
one_fault body v k (Blocks n) (Blocks m) h j is also = ap Blocks (h.0 ∙ sym j.0)
one_fault body v k (Blocks n) (LineAt m g) h j is also = absurd (omega (arith, h.0, h.1, j.0))
one_fault body v k (Blocks n) Memory h j is also = absurd also
one_fault body v k (LineAt n f) (Blocks m) h j is also = absurd (omega (arith, j.0, j.1, h.0))
one_fault body v k (LineAt n f) (LineAt m g) h j is also =
    let same = one_first body v k (text_lines body) n m f g h.1 j.1 in
    ap₂ LineAt same.0 same.1
one_fault body v k (LineAt n f) Memory h j is also = absurd also
one_fault body v k Memory other h j is also = absurd is

-- ---- one header

abbrev header_of : ℕ → ℕ → ℕ → ℕ → ℕ → ℕ → Header
header_of v k t n line rest = record { cell = record { v = v; k = k; t = t }; n = n; line = line; rest = rest }

pub one_header : (body : List ℕ) (one other : Header) → IsHeader body one → IsHeader body other → one ≡ other
one_header body one other h j =
    let lines : h.first ∷ h.others ≡ j.first ∷ j.others = sym h.lines ∙ j.lines in
    let first : j.first ≡ h.first = cc in
    let text = line_text body h.first in
    let numbers : List ℕ = other.cell.v ∷ other.cell.k ∷ other.cell.t ∷ other.n ∷ [] in
    let spelled : Spells text (tokens_of text) numbers =
    subst (λ (line : Line). Spells (line_text body line) (tokens_of (line_text body line)) numbers) first j.spelled in
    let same : one.cell.v ∷ one.cell.k ∷ one.cell.t ∷ one.n ∷ [] ≡ numbers =
    same_numbers text (tokens_of text) _ numbers h.spelled spelled in
    let line : one.line ≡ other.line = h.line_is ∙ ap (λ (l : Line). l.number) (sym first) ∙ sym j.line_is in
    let rest : one.rest ≡ other.rest = h.rest_is ∙ ap (after_line body) (sym first) ∙ sym j.rest_is in
    let v : one.cell.v ≡ other.cell.v = cc in
    let k : one.cell.k ≡ other.cell.k = cc in
    let t : one.cell.t ≡ other.cell.t = cc in
    let n : one.n ≡ other.n = cc in
    let all : header_of one.cell.v one.cell.k one.cell.t one.n one.line one.rest
    ≡ header_of other.cell.v other.cell.k other.cell.t other.n other.line other.rest = cc in
    all
