-- The forms of a script's lines, by their words.
use Rattle.std.specs.Prelude.{◌≡◌, ℕ, ◌≤◌, ◌⊎◌, List, [], ◌∷◌, Some, codes}
use Rattle.lj_base.specs.Cells.{IsCell, Triple}
use Rattle.lj_base.specs.Frames.{Top}
use Rattle.lj_text.specs.Numbers.{number_of}
use Rattle.lj_text.specs.Tokens.{words}
use Rattle.lj_text.specs.declared.lines.Line.{Line}
use Rattle.lj_upload.specs.Names.{IsName}
use Rattle.lj_script.specs.declared.scripts.Command.{Command}
use Rattle.lj_script.specs.declared.scripts.Command.TheVariants.{Upload, UploadFile, Bound, Plan, Expand, Settle}
use Rattle.lj_script.specs.declared.forms.Form.{Form}
use Rattle.lj_script.specs.declared.forms.Form.TheVariants.{Client, Upload as Offer, UploadFile as OfferFile, Ask}

-- a first word and three numbers, which make a cell with k of 1 or more
pub record NamesCell (first : List ℕ) (line : List (List ℕ)) (c : Triple) : Type 0 where
  pub v : List ℕ
  pub k : List ℕ
  pub t : List ℕ
  pub words_are : line ≡ first ∷ v ∷ k ∷ t ∷ []
  pub v_is : number_of v ≡ Some c.v
  pub k_is : number_of k ≡ Some c.k
  pub t_is : number_of t ≡ Some c.t
  pub in_limits : IsCell c
  pub some : 1 ≤ c.k

-- the line's first word is this
abbrev pub StartsWith : List ℕ → List (List ℕ) → Type 0
StartsWith word line = (rest : List (List ℕ)) × (line ≡ word ∷ rest)

-- the line names the frame
abbrev pub IsFrameLine : List (List ℕ) → Top → Type 0
IsFrameLine line frame = NamesCell (codes "frame") line frame.top

-- the line asks for this command, which has no body
abbrev pub Asks : List (List ℕ) → Command → Type 0
Asks line (Bound c) = NamesCell (codes "bound") line c
Asks line (Plan c) = NamesCell (codes "plan") line c
Asks line (Expand c) = NamesCell (codes "expand") line c
Asks line Settle = line ≡ codes "settle" ∷ []
Asks line (Upload c body) = ⊥
Asks line (UploadFile body) = ⊥

-- a line after the frame's has this form
abbrev pub Says : List (List ℕ) → Form → Type 0
Says line (Client name) = (line ≡ codes "client" ∷ name ∷ []) × IsName name
Says line (Offer c) = NamesCell (codes "upload") line c
Says line OfferFile = line ≡ codes "upload" ∷ codes "file" ∷ []
Says line (Ask command) = Asks line command

-- an upload's line
abbrev pub SaysUpload : List (List ℕ) → Type 0
SaysUpload line = ((c : Triple) × Says line (Offer c)) ⊎ Says line OfferFile

-- a command's line
abbrev pub SaysCommand : List (List ℕ) → Type 0
SaysCommand line = SaysUpload line ⊎ ((command : Command) × Asks line command)

-- the line that ends a body
abbrev pub IsEnd : List ℕ → Line → Type 0
IsEnd bytes line = words bytes line ≡ codes "end" ∷ []
