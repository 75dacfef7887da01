-- What `build` comes to: for each section its replies and its accepted uploads, and for all of them the least bounds.
use Rattle.std.specs.Prelude.{◌≡◌, ℕ, Bool, if◌then◌else◌, List, [], ◌∷◌, ◌++◌, codes, length}
use Rattle.std.specs.List.{flat_map}
use Rattle.lj_base.specs.Bounds.{at_cell}
use Rattle.lj_base.specs.Cells.{Triple}
use Rattle.lj_base.specs.Frames.{InFrame, Top, size_of}
use Rattle.lj_cover.specs.Derivations.{IsLeast}
use Rattle.lj_cover.specs.Rules.{Upload}
use Rattle.lj_report.specs.Reports.{report_json, report_text}
use Rattle.lj_script.specs.Values.{ScriptValue, SectionValue}
use Rattle.lj_session.specs.AcceptedUploads.{AreAcceptedOf}
use Rattle.lj_session.specs.BuildReplies.{BuildReplies}
use Rattle.lj_session.specs.declared.ends.SessionEnd.{SessionEnd}

-- the accepted uploads of all ends, in order
abbrev pub uploads_of : List SessionEnd → List Upload
uploads_of ends = flat_map (λ e. e.accepted) ends

-- one end for each section, in order: its replies are those of `build` after the earlier uploads, and its uploads are
-- those that are accepted of the section
abbrev pub AreBuilt : Top → List Upload → List SectionValue → List SessionEnd → Type 0
AreBuilt f earlier [] [] = Unit {0}
AreBuilt f earlier (section ∷ sections) (e ∷ ends) =
    BuildReplies f earlier section e.replies × AreAcceptedOf f section e.accepted
    × AreBuilt f (earlier ++ e.accepted) sections ends
AreBuilt f earlier sections ends = ⊥

-- the line before a client's replies
abbrev pub client_line : List ℕ → List ℕ
client_line name = codes "client " ++ (name ++ 10 ∷ [])

-- for each section its client's line and the replies
abbrev pub sections_text : List SectionValue → List SessionEnd → List ℕ
sections_text [] ends = []
sections_text (section ∷ sections) [] = []
sections_text (section ∷ sections) (e ∷ ends) =
    client_line section.name ++ (e.replies ++ sections_text sections ends)

-- for each cell of the frame, in index order, the least cost of a derivation in the frame from the uploads
pub record AreLeastBounds (f : Top) (uploads : List Upload) (bounds : List ℕ) : Type 0 where
  pub count : length bounds ≡ size_of f
  pub least : (c : Triple) → InFrame f c → IsLeast f uploads c (at_cell f bounds c)

-- the report of bounds, as text or as JSON
abbrev pub report_of : Top → Bool → List ℕ → List ℕ
report_of f json bounds = if json then report_json f bounds else report_text f bounds

-- the closing report of these uploads: it does not depend on how the bounds were found
abbrev pub IsReport : Top → List Upload → Bool → List ℕ → Type 0
IsReport f uploads json text =
    (bounds : List ℕ) × AreLeastBounds f uploads bounds × (text ≡ report_of f json bounds)

-- the whole output of `build` for a script
abbrev pub IsBuildOutput : ScriptValue → Bool → List ℕ → Type 0
IsBuildOutput script json text =
    (ends : List SessionEnd) × (report : List ℕ) × AreBuilt script.frame [] script.clients ends
    × IsReport script.frame (uploads_of ends) json report
    × (text ≡ sections_text script.clients ends ++ report)
