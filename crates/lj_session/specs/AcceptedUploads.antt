-- The uploads that are accepted of a section, and of a script: the commands and the frame alone fix them.
use Rattle.std.specs.Prelude.{◌≡◌, ℕ, List, [], ◌∷◌, ◌++◌, Ok, Err}
use Rattle.std.specs.List.{Contains}
use Rattle.lj_base.specs.Frames.{Top}
use Rattle.lj_cover.specs.Rules.{Upload}
use Rattle.lj_script.specs.Values.{SectionValue}
use Rattle.lj_script.specs.declared.scripts.Command.{Command}
use Rattle.lj_script.specs.declared.scripts.Command.TheVariants.{Upload as Offered, UploadFile}
use Rattle.lj_session.specs.Outcomes.{Outcome, UploadGives, held, upload_of}

-- the accepted uploads after an outcome
abbrev pub uploads_after : List ℕ → List Upload → Outcome → List Upload
uploads_after name before (Ok d) = before ++ upload_of name (held before) d ∷ []
uploads_after name before (Err reason) = before

abbrev pub AcceptsUpload : Top → List ℕ → Command → List Upload → List Upload → Type 0
AcceptsUpload f name command before now =
    (outcome : Outcome) × UploadGives f (held before) command outcome × (now ≡ uploads_after name before outcome)

-- a command takes the accepted uploads of a client from these to those; other commands than uploads change nothing
abbrev pub Accepts : Top → List ℕ → Command → List Upload → List Upload → Type 0
Accepts f name (Offered c body) before now = AcceptsUpload f name (Offered c body) before now
Accepts f name (UploadFile body) before now = AcceptsUpload f name (UploadFile body) before now
Accepts f name command before now = now ≡ before

-- commands, one after the other, take the accepted uploads from these to those
abbrev pub AcceptsEach : Top → List ℕ → List Command → List Upload → List Upload → Type 0
AcceptsEach f name [] before now = now ≡ before
AcceptsEach f name (command ∷ commands) before now =
    (middle : List Upload) × Accepts f name command before middle × AcceptsEach f name commands middle now

-- the accepted uploads of a section
abbrev pub AreAcceptedOf : Top → SectionValue → List Upload → Type 0
AreAcceptedOf f section us = AcceptsEach f section.name section.commands [] us

-- the accepted uploads of sections, in order
abbrev pub AreAcceptedOfAll : Top → List SectionValue → List Upload → Type 0
AreAcceptedOfAll f [] us = us ≡ []
AreAcceptedOfAll f (section ∷ sections) us =
    (own : List Upload) × (rest : List Upload) × AreAcceptedOf f section own
    × AreAcceptedOfAll f sections rest × (us ≡ own ++ rest)

-- the upload is accepted of the section after some of its commands
pub record IsAcceptedOf (f : Top) (section : SectionValue) (u : Upload) : Type 0 where
  pub passed : List Command
  pub others : List Command
  pub commands : section.commands ≡ passed ++ others
  pub uploads : List Upload
  pub accepts : AcceptsEach f section.name passed [] uploads
  pub one : Contains uploads u

-- the upload is accepted of one of the sections: as `AreAcceptedOfAll` says it of the list, also before all commands
-- are gone through
abbrev pub IsAcceptedIn : Top → List SectionValue → Upload → Type 0
IsAcceptedIn f sections u = (section : SectionValue) × Contains sections section × IsAcceptedOf f section u
