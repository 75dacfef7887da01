-- The uploads that sections offer, whether they are accepted or not.
use Rattle.std.specs.Prelude.{◌≡◌, ℕ, ◌+◌, ◌≤◌, List, [], ◌∷◌, drop}
use Rattle.std.specs.List.{Contains}
use Rattle.lj_base.specs.Cells.{Triple}
use Rattle.lj_blockfile.specs.BlockFiles.{AreBlocksOf}
use Rattle.lj_blockfile.specs.Headers.{IsHeader}
use Rattle.lj_blockfile.specs.declared.headers.Header.{Header}
use Rattle.lj_cover.specs.Rules.{IsCovering, Upload}
use Rattle.lj_script.specs.Values.{SectionValue}
use Rattle.lj_script.specs.declared.scripts.Command.{Command}
use Rattle.lj_script.specs.declared.scripts.Command.TheVariants.{Upload as Offered, UploadFile}

-- how many of the commands are uploads
abbrev pub upload_count : List Command → ℕ
upload_count [] = 0
upload_count (Offered c body ∷ commands) = upload_count commands + 1
upload_count (UploadFile body ∷ commands) = upload_count commands + 1
upload_count (command ∷ commands) = upload_count commands

-- the command offers the text for the cell: its body for the cell that it names, or what follows the header of its file
-- for the header's cell
abbrev pub Offers : Command → Triple → List ℕ → Type 0
Offers (Offered named body) c text = (c ≡ named) × (text ≡ body)
Offers (UploadFile body) c text =
    (h : Header) × IsHeader body h × (c ≡ h.cell) × (text ≡ drop h.rest body)
Offers command c text = ⊥

-- the upload's cell and blocks are those that the command offers
abbrev pub IsOfferOf : Command → Upload → Type 0
IsOfferOf command u =
    (text : List ℕ) × Offers command u.cell text × AreBlocksOf text u.cell.v u.cell.k u.blocks

-- one of the commands offers the upload's cell and blocks
abbrev pub HasOffer : List Command → Upload → Type 0
HasOffer commands u = (command : Command) × Contains commands command × IsOfferOf command u

-- the upload covers, it may be one of the section's client by its name and ordinal, and a command of the section offers
-- it
pub record IsOfferedBy (section : SectionValue) (u : Upload) : Type 0 where
  pub covering : IsCovering u
  pub client : u.client ≡ section.name
  pub first : 1 ≤ u.ordinal
  pub last : u.ordinal ≤ upload_count section.commands
  pub offer : HasOffer section.commands u

-- the upload is offered by one of the sections
abbrev pub IsOffered : List SectionValue → Upload → Type 0
IsOffered sections u = (section : SectionValue) × Contains sections section × IsOfferedBy section u
