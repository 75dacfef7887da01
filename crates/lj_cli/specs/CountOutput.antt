-- What is printed of a covering whose sets are counted, and the status.
use Rattle.std.specs.Prelude.{◌≡◌, ◌⊎◌, ℕ, ◌+◌, ◌*◌, ◌<◌, ◌≤◌, List, [], ◌∷◌, ◌++◌, codes, length}
use Rattle.std.specs.List.{remove}
use Rattle.lj_base.specs.Blocks.{Covers}
use Rattle.lj_base.specs.Cells.{Triple}
use Rattle.lj_base.specs.Colex.{choose}
use Rattle.lj_blockfile.specs.BlockFiles.{AreBlocksOf, IsBodyFault, IsInputFault}
use Rattle.lj_blockfile.specs.Headers.{file_text}
use Rattle.lj_cover.specs.Lower.{schonheim}
use Rattle.lj_excess.specs.Multiplicities.{excess_in, most_in, multiplicities, once_in, tally_of}
use Rattle.lj_excess.specs.declared.limits.TheConstants.{MAX_COUNTS}
use Rattle.lj_greedy.specs.Greedy.{greedy_list}
use Rattle.lj_greedy.specs.Reduced.{IsSublist, reduced}
use Rattle.lj_greedy.specs.declared.limits.TheConstants.{MAX_GREEDY_SETS}
use Rattle.lj_text.specs.Fields.{named}
use Rattle.lj_verify.specs.Limits.{IsWithinLimits}
use Rattle.lj_verify.specs.Refusals.{IsRefused}
use Rattle.lj_verify.specs.declared.refusals.Refusal.{Refusal}
use Rattle.lj_verify.specs.declared.refusals.Refusal.TheVariants.{TSets}
use Rattle.lj_cli.specs.CheckOutput.{IsInputRefusal}
use Rattle.lj_cli.specs.Verdicts.{verdict_status, verdict_text}
use Rattle.lj_cli.specs.declared.coverings.ReadCovering.{ReadCovering}
use Rattle.lj_cli.specs.declared.coverings.ReadCovering.TheVariants.{Covering, NoCovering}
use Rattle.lj_cli.specs.declared.status.TheConstants.{DONE, FAULTY}
use Rattle.lj_cli.specs.declared.verdicts.Verdict.{Verdict}
use Rattle.lj_cli.specs.declared.verdicts.Verdict.TheVariants.{Fault, Refused, Covered}

-- a word, a number and the end of the line
abbrev pub number_line : List ℕ → ℕ → List ℕ
number_line word n = named word (n ∷ []) ++ 10 ∷ []

-- why the sets of these blocks are not counted: there are too many; or there are not, and a check refuses the blocks
abbrev pub IsCountRefusal : Triple → List (List ℕ) → Refusal → Type 0
IsCountRefusal c bs (TSets n) = (n ≡ choose c.v c.t) × (MAX_COUNTS < n)
IsCountRefusal c bs refusal = (choose c.v c.t ≤ MAX_COUNTS) × IsRefused c bs refusal

-- why bytes are no covering whose sets are counted
abbrev pub IsNoCovering : Triple → List ℕ → Verdict → Type 0
IsNoCovering c bytes (Fault fault) = IsBodyFault bytes c.v c.k fault × IsInputFault fault
IsNoCovering c bytes (Refused refusal) =
    (bs : List (List ℕ)) × AreBlocksOf bytes c.v c.k bs × IsCountRefusal c bs refusal × IsInputRefusal refusal
IsNoCovering c bytes (Covered blocks) = ⊥

-- the bytes have these blocks, which cover within the limits, and there are few enough sets
pub record IsCovering (c : Triple) (bytes : List ℕ) (bs : List (List ℕ)) : Type 0 where
  pub blocks : AreBlocksOf bytes c.v c.k bs
  pub few : choose c.v c.t ≤ MAX_COUNTS
  pub within : IsWithinLimits c (length bs)
  pub covers : Covers bs c

-- what is read of the bytes; the counts are those of the blocks
abbrev pub IsReadCovering : Triple → List ℕ → ReadCovering → Type 0
IsReadCovering c bytes (Covering design counts) =
    (design.cell ≡ c) × IsCovering c bytes design.blocks × (counts ≡ tally_of design.blocks c)
IsReadCovering c bytes (NoCovering verdict) = IsNoCovering c bytes verdict

-- the text and the status of bytes that are no such covering
pub record IsRefusedOutput (c : Triple) (bytes text : List ℕ) (status : ℕ) : Type 0 where
  pub verdict : Verdict
  pub found : IsNoCovering c bytes verdict
  pub text_is : text ≡ verdict_text verdict
  pub status_is : status ≡ verdict_status verdict

-- the sums of a covering, one a line
abbrev pub excess_text : Triple → List (List ℕ) → List ℕ
excess_text c bs =
    let counts = multiplicities bs c in
    number_line (codes "blocks") (length bs) ++ number_line (codes "schonheim") (schonheim c.v c.k c.t)
    ++ number_line (codes "tsets") (choose c.v c.t) ++ number_line (codes "marks") (length bs * choose c.k c.t)
    ++ number_line (codes "excess") (excess_in counts) ++ number_line (codes "once") (once_in counts)
    ++ number_line (codes "most") (most_in counts)

-- the text and the status that are made of these bytes: by their blocks, or why they are no such covering
abbrev pub IsCountedOutput : (List (List ℕ) → List ℕ) → Triple → List ℕ → List ℕ → ℕ → Type 0
IsCountedOutput made c bytes text status =
    ((bs : List (List ℕ)) × IsCovering c bytes bs × (text ≡ made bs) × (status ≡ DONE))
    ⊎ IsRefusedOutput c bytes text status

-- the text and the status of the sums of these bytes' blocks
abbrev pub IsExcessOutput : Triple → List ℕ → List ℕ → ℕ → Type 0
IsExcessOutput c bytes text status = IsCountedOutput (excess_text c) c bytes text status

-- the file of what remains of the blocks without the spare ones
abbrev pub reduced_text : Triple → List (List ℕ) → List ℕ
reduced_text c bs = file_text c (reduced c bs)

-- the text and the status of the reduction of these bytes' blocks
abbrev pub IsReduceOutput : Triple → List ℕ → List ℕ → ℕ → Type 0
IsReduceOutput c bytes text status = IsCountedOutput (reduced_text c) c bytes text status

-- the text and the status of the greedy covering of the cell
abbrev pub IsGreedyOutput : Triple → List ℕ → ℕ → Type 0
IsGreedyOutput c text status =
    ((choose c.v c.t ≤ MAX_GREEDY_SETS) × (text ≡ reduced_text c (greedy_list c)) × (status ≡ DONE))
    ⊎ ((MAX_GREEDY_SETS < choose c.v c.t) × (text ≡ number_line (codes "fault tsets") (choose c.v c.t))
    × (status ≡ FAULTY))

-- the blocks cover, and do not without any one of their places
abbrev pub AreNeeded : Triple → List (List ℕ) → Type 0
AreNeeded c bs = Covers bs c × ((i : ℕ) → i < length bs → Covers (remove bs i) c → ⊥)

-- the text has the sums of these bytes' blocks. The excess is the number of the sets in all blocks, each block's
-- counted on their own, less the number of sets; and the blocks are no fewer than Schönheim's number.
pub record HasSums (c : Triple) (bytes text : List ℕ) : Type 0 where
  pub blocks : List (List ℕ)
  pub covering : IsCovering c bytes blocks
  pub text_is : text ≡ excess_text c blocks
  pub excess : excess_in (multiplicities blocks c) + choose c.v c.t ≡ length blocks * choose c.k c.t
  pub lower : schonheim c.v c.k c.t ≤ length blocks

-- the text has what remains of these bytes' blocks: blocks that are all needed, in their order
pub record HasReduced (c : Triple) (bytes text : List ℕ) : Type 0 where
  pub blocks : List (List ℕ)
  pub covering : IsCovering c bytes blocks
  pub text_is : text ≡ reduced_text c blocks
  pub needed : AreNeeded c (reduced c blocks)
  pub sublist : IsSublist (reduced c blocks) blocks
