-- What becomes of an upload: the outcome of the steps that it goes through, each of which refuses it or passes it on.
use Rattle.std.specs.Prelude.{◌≡◌, ◌⊎◌, ℕ, ◌+◌, List, Option, None, Some, Result, Ok, Err, drop, length}
use Rattle.std.specs.List.{sum_by}
use Rattle.lj_base.specs.Blocks.{Covers}
use Rattle.lj_base.specs.Cells.{Triple}
use Rattle.lj_base.specs.Frames.{InFrame, Top}
use Rattle.lj_blockfile.specs.BlockFiles.{AreBlocksOf, IsBodyFault, IsInputFault}
use Rattle.lj_blockfile.specs.Headers.{IsHeader}
use Rattle.lj_blockfile.specs.declared.headers.Header.{Header}
use Rattle.lj_blockfile.specs.declared.faults.BodyFault.{BodyFault}
use Rattle.lj_blockfile.specs.declared.faults.BodyFault.TheVariants.{Line}
use Rattle.lj_cover.specs.Designs.{Covering}
use Rattle.lj_cover.specs.Rules.{Upload}
use Rattle.lj_script.specs.declared.scripts.Command.{Command}
use Rattle.lj_script.specs.declared.scripts.Command.TheVariants.{Upload as Offered, UploadFile}
use Rattle.lj_upload.specs.Quotas.{Admits, Held, IsQuotaCause}
use Rattle.lj_upload.specs.declared.quotas.QuotaFull.{QuotaFull}
use Rattle.lj_verify.specs.Limits.{IsWithinLimits}
use Rattle.lj_verify.specs.Refusals.{IsRefused}
use Rattle.lj_verify.specs.declared.refusals.Refusal.{Refusal}
use Rattle.lj_verify.specs.declared.refusals.Refusal.TheVariants.{Memory as NoMemory}
use Rattle.lj_session.specs.declared.offers.Offer.{Offer}
use Rattle.lj_session.specs.declared.reasons.Reason.{Reason}
use Rattle.lj_session.specs.declared.reasons.Reason.TheVariants.{Header as LacksHeader, Outside, Body, Count, Quota}
use Rattle.lj_session.specs.declared.reasons.Reason.TheVariants.{Check}

-- a covering where the upload is accepted, or why it is refused
abbrev pub Outcome : Type 0
Outcome = Result Covering Reason

-- how many uploads these are, and how many blocks they have
abbrev pub held : List Upload → Held
held us = record { uploads = length us; blocks = sum_by (λ u. length u.blocks) us }

-- a header, where there is one, announces n blocks
abbrev pub Announces : Option ℕ → ℕ → Type 0
Announces None n = Unit {0}
Announces (Some m) n = m ≡ n

-- a fault of a text, with its line numbered within the body, where as many lines stand before the text
abbrev pub fault_after : ℕ → BodyFault → BodyFault
fault_after before (Line number fault) = Line (before + number) fault
fault_after before fault = fault

-- the number of the faulty line, where there is one
abbrev pub faulty_line : BodyFault → ℕ
faulty_line (Line number fault) = number
faulty_line fault = 0

-- the check: the blocks are within its limits and cover, or it refuses them
abbrev pub CheckGives : Triple → List (List ℕ) → Outcome → Type 0
CheckGives c bs outcome =
    (IsWithinLimits c (length bs) × Covers bs c × (outcome ≡ Ok (record { cell = c; blocks = bs })))
    ⊎ ((refusal : Refusal) × IsRefused c bs refusal × (refusal ≡ NoMemory → ⊥) × (outcome ≡ Err (Check refusal)))

-- the quota: it admits the blocks, and the check follows, or it is full
abbrev pub QuotaGives : Held → Triple → List (List ℕ) → Outcome → Type 0
QuotaGives before c bs outcome =
    (Admits before (length bs) × CheckGives c bs outcome)
    ⊎ ((full : QuotaFull) × IsQuotaCause before (length bs) full × (outcome ≡ Err (Quota full)))

-- the number of blocks: a header announces no other, and the quota follows, or it does
abbrev pub CountGives : Held → Offer → List (List ℕ) → Outcome → Type 0
CountGives before offer bs outcome =
    (Announces offer.announced (length bs) × QuotaGives before offer.cell bs outcome)
    ⊎ ((n : ℕ) × (offer.announced ≡ Some n) × (n ≡ length bs → ⊥) × (outcome ≡ Err (Count n (length bs))))

-- the text: it holds blocks of the cell, and their number follows, or it has a fault
abbrev pub TextGives : Held → Offer → List ℕ → Outcome → Type 0
TextGives before offer text outcome =
    ((bs : List (List ℕ)) × AreBlocksOf text offer.cell.v offer.cell.k bs × CountGives before offer bs outcome)
    ⊎ ((fault : BodyFault) × IsBodyFault text offer.cell.v offer.cell.k fault × IsInputFault fault
    × (outcome ≡ Err (Body (fault_after offer.before fault))))

-- the frame: the cell is in it, and the text follows, or it is not
abbrev pub FrameGives : Top → Held → Offer → List ℕ → Outcome → Type 0
FrameGives f before offer text outcome =
    (InFrame f offer.cell × TextGives before offer text outcome)
    ⊎ ((InFrame f offer.cell → ⊥) × (outcome ≡ Err Outside))

-- what follows the header of a file: the header's cell and number, and the text after the header's line
abbrev pub offer_of : Header → Offer
offer_of h = record { cell = h.cell; before = h.line; announced = Some h.n }

-- what becomes of an upload in a frame, where the client holds as much before. A file has a header, and what follows
-- is offered, or it has none; another upload names its cell and offers its body
abbrev pub UploadGives : Top → Held → Command → Outcome → Type 0
UploadGives f before (Offered c body) outcome =
    FrameGives f before (record { cell = c; before = 0; announced = None }) body outcome
UploadGives f before (UploadFile body) outcome =
    ((h : Header) × IsHeader body h × FrameGives f before (offer_of h) (drop h.rest body) outcome)
    ⊎ (((h : Header) → IsHeader body h → ⊥) × (outcome ≡ Err LacksHeader))
UploadGives f before command outcome = ⊥

-- the upload of a client of this name that is accepted: the client's next, with the cell and the blocks of the covering
abbrev pub upload_of : List ℕ → Held → Covering → Upload
upload_of name before d = record { client = name; ordinal = before.uploads + 1; cell = d.cell; blocks = d.blocks }
