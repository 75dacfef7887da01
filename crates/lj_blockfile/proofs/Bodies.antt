-- What is known of a text when some of its lines were read.
use Rattle.std.proofs.Common.{◌≡◌, ℕ, arith, ◌≤◌, List, [], ◌∷◌, ◌++◌, None, Some, length, refl, sym, ap₂, ◌∙◌, subst}
use Rattle.std.proofs.Common.{append_assoc, append-nil, ap, length-append, ◌<◌}
use Rattle.std.proofs.lemmas.Slice.Zip.{AllZip-long}
use Rattle.std.proofs.lemmas.Slice.Zip.{all_zipped_more}
use Rattle.std.specs.List.{AllByRecursion, AllZip}
use Rattle.lj_base.proofs.Lists.{AllByRecursion-back}
use Rattle.lj_base.specs.Blocks.{AreBlocks}
use Rattle.lj_base.specs.declared.limits.TheConstants.{MAX_BLOCKS}
use Rattle.lj_text.specs.Lines.{IsLineOf, line_text, text_lines}
use Rattle.lj_text.specs.declared.lines.Line.{Line}
use Rattle.lj_blockfile.specs.BlockFiles.{AreBlocksOf, IsFirstFaulty}
use Rattle.lj_blockfile.specs.BlockLines.{IsBlockLine, line_fault}
use Rattle.lj_blockfile.specs.declared.faults.LineFault.{LineFault}
use Rattle.lj_blockfile.proofs.Unique.{line_fault-none, same_block}

-- the blocks are those of the lines before these, and the first faulty line of the text is among these
pub record AreReadSoFar (body : List ℕ) (v k : ℕ) (left : List Line) (bs : List (List ℕ)) : Type 0 where
  pub read : List Line
  pub whole : read ++ left ≡ text_lines body
  pub blocks : AllZip (λ line b. IsBlockLine (line_text body line) v k b) read bs
  pub inside : AllByRecursion (IsLineOf body) left
  pub first : (number : ℕ) (fault : LineFault) → IsFirstFaulty body v k left number fault
      → IsFirstFaulty body v k (text_lines body) number fault

pub AreReadSoFar-start : (body : List ℕ) (v k : ℕ) → AllByRecursion (IsLineOf body) (text_lines body)
    → AreReadSoFar body v k (text_lines body) []
AreReadSoFar-start body v k inside =
    record { read = []; whole = refl; blocks = tt; inside = inside; first = λ number fault h. h }

pub with_left : {body : List ℕ} {v k : ℕ} {left rest : List Line} {bs : List (List ℕ)} → left ≡ rest
    → AreReadSoFar body v k left bs → AreReadSoFar body v k rest bs
with_left {body} {v} {k} {left} {rest} {bs} same r = subst (λ lines. AreReadSoFar body v k lines bs) same r

module _ {body : List ℕ} {v k : ℕ} {line : Line} {left : List Line} {bs : List (List ℕ)}
    (r : AreReadSoFar body v k (line ∷ left) bs)
  where
    pub AreReadSoFar-step : (b : List ℕ) → IsBlockLine (line_text body line) v k b
        → line_fault v k (line_text body line) ≡ None → AreReadSoFar body v k left (bs ++ b ∷ [])
    AreReadSoFar-step b block none = record {
      read = r.read ++ line ∷ [];
      whole = append_assoc r.read (line ∷ []) left ∙ r.whole;
      blocks = all_zipped_more _ r.read bs line b r.blocks block;
      inside = r.inside.1;
      first = λ number fault h. r.first number fault (rw none h);
    }

    pub IsFirstFaulty-here : (fault : LineFault) → line_fault v k (line_text body line) ≡ Some fault
        → IsFirstFaulty body v k (text_lines body) line.number fault
    IsFirstFaulty-here fault h = r.first line.number fault (rw h (refl, refl))

-- what holds of each line of the text holds of the next one
pub next-of_all : {body : List ℕ} {v k : ℕ} {line : Line} {left : List Line} {bs : List (List ℕ)} (P : Line → Type 0)
    → AreReadSoFar body v k (line ∷ left) bs → AllByRecursion P (text_lines body) → P line
next-of_all {body} {v} {k} {line} {left} {bs} P r all =
    (AllByRecursion-back P r.read (line ∷ left) (subst (AllByRecursion P) (sym r.whole) all)).0

pub AreBlocksOf-end : {body : List ℕ} {v k : ℕ} {bs : List (List ℕ)} → length (text_lines body) ≤ MAX_BLOCKS
    → AreReadSoFar body v k [] bs → AreBlocksOf body v k bs
AreBlocksOf-end {body} {v} {k} {bs} few r =
    let all : r.read ≡ text_lines body = sym (append-nil r.read) ∙ r.whole in
    record {
      few = few;
      lines = subst (λ lines. AllZip (λ line b. IsBlockLine (line_text body line) v k b) lines bs) all r.blocks;
    }

-- as many lines as blocks, and one more where a line is left
pub few_lines : {body : List ℕ} {v k : ℕ} {bs : List (List ℕ)} → AreReadSoFar body v k [] bs → length bs ≤ MAX_BLOCKS
    → length (text_lines body) ≤ MAX_BLOCKS
few_lines {body} {v} {k} {bs} r few =
    let same = AllZip-long _ r.read bs r.blocks in
    omega (arith, few, same, ap length r.whole, length-append r.read [])

pub more_lines : {body : List ℕ} {v k : ℕ} {line : Line} {left : List Line} {bs : List (List ℕ)}
    → AreReadSoFar body v k (line ∷ left) bs → MAX_BLOCKS ≤ length bs → MAX_BLOCKS < length (text_lines body)
more_lines {body} {v} {k} {line} {left} {bs} r full =
    let same = AllZip-long _ r.read bs r.blocks in
    omega (arith, full, same, ap length r.whole, length-append r.read (line ∷ left))

pub AreBlocks-from_lines : (body : List ℕ) (v k : ℕ) (lines : List Line) (bs : List (List ℕ))
    → AllZip (λ line b. IsBlockLine (line_text body line) v k b) lines bs → AreBlocks v k bs
AreBlocks-from_lines body v k [] [] h = tt
AreBlocks-from_lines body v k [] (b ∷ bs) h = absurd h
AreBlocks-from_lines body v k (line ∷ lines) [] h = absurd h
AreBlocks-from_lines body v k (line ∷ lines) (b ∷ bs) h = (h.0.block, AreBlocks-from_lines body v k lines bs h.1)

-- among the lines of blocks none has a fault
none_faulty : (body : List ℕ) (v k : ℕ) (lines : List Line) (bs : List (List ℕ)) (number : ℕ) (fault : LineFault)
    → AllZip (λ line b. IsBlockLine (line_text body line) v k b) lines bs → IsFirstFaulty body v k lines number fault
    → ⊥
none_faulty body v k [] bs number fault h first = first
none_faulty body v k (line ∷ lines) [] number fault h first = h
none_faulty body v k (line ∷ lines) (b ∷ bs) number fault h first =
    let none = line_fault-none (line_text body line) v k b h.0 in
    none_faulty body v k lines bs number fault h.1 (rw none at first)

pub not_faulty : {body : List ℕ} {v k : ℕ} {bs : List (List ℕ)} (number : ℕ) (fault : LineFault)
    → AreBlocksOf body v k bs
    → IsFirstFaulty body v k (text_lines body) number fault → ⊥
not_faulty {body} {v} {k} {bs} number fault h first =
    none_faulty body v k (text_lines body) bs number fault h.lines first

-- lines hold one list of blocks at most
same_of_lines : (body : List ℕ) (v k : ℕ) (lines : List Line) (bs cs : List (List ℕ))
    → AllZip (λ line b. IsBlockLine (line_text body line) v k b) lines bs
    → AllZip (λ line b. IsBlockLine (line_text body line) v k b) lines cs → bs ≡ cs
same_of_lines body v k [] [] [] h j = refl
same_of_lines body v k [] [] (c ∷ cs) h j = absurd j
same_of_lines body v k [] (b ∷ bs) cs h j = absurd h
same_of_lines body v k (line ∷ lines) [] cs h j = absurd h
same_of_lines body v k (line ∷ lines) (b ∷ bs) [] h j = absurd j
same_of_lines body v k (line ∷ lines) (b ∷ bs) (c ∷ cs) h j =
    ap₂ (λ d ds. d ∷ ds) (same_block (line_text body line) v k b c h.0 j.0) (same_of_lines body v k lines bs cs h.1 j.1)

pub same_blocks : {body : List ℕ} {v k : ℕ} {bs cs : List (List ℕ)} → AreBlocksOf body v k bs
    → AreBlocksOf body v k cs → bs ≡ cs
same_blocks {body} {v} {k} {bs} {cs} h j = same_of_lines body v k (text_lines body) bs cs h.lines j.lines
