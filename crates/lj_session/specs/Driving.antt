-- A session on its way through its section, as whoever drives it knows it.
use Rattle.std.specs.Prelude.{◌≡◌, ℕ, ◌≤◌, List, [], ◌++◌}
use Rattle.lj_base.specs.Cells.{Triple}
use Rattle.lj_base.specs.Frames.{InFrame, Top}
use Rattle.lj_cover.specs.Derivations.{IsDerivation, IsFrom, IsIn, IsLeast, root_cell, tree_cost}
use Rattle.lj_cover.specs.Rules.{Condition, Rule, Upload, rule_cell, rule_cost}
use Rattle.lj_cover.specs.Uses.{EachUpload}
use Rattle.lj_deriv.specs.Nodes.{Steps, plan_tree}
use Rattle.lj_deriv.specs.Texts.{Spelled, plan_text}
use Rattle.lj_script.specs.Values.{SectionValue}
use Rattle.lj_script.specs.declared.scripts.Command.{Command}
use Rattle.lj_session.specs.AcceptedUploads.{AcceptsEach, IsAcceptedIn}
use Rattle.lj_session.specs.BuildReplies.{build_service}
use Rattle.lj_session.specs.Replies.{AreReplies, Progress, Service, no_progress}
use Rattle.lj_session.specs.ServeReplies.{IsAllowed, IsUseOf, serve_service}
use Rattle.lj_session.specs.Sessions.{SessionValue}

-- the session has passed the commands before those left, of which its uploads were accepted. It has come to a progress
-- of its section, of which something is known, and whatever replies the commands left get from there complete those of
-- the section
pub record IsServed (service : Service) (Knows : Progress → Type 0) (section : SectionValue)
    (s : SessionValue) : Type 0 where
  pub section_is : s.section ≡ section
  pub frame_is : s.frame ≡ service.frame
  pub passed : List Command
  pub commands : section.commands ≡ passed ++ s.left
  pub accepts : AcceptsEach service.frame service.client passed [] s.own
  pub progress : Progress
  pub own : progress.own ≡ s.own
  pub written : progress.written ≡ s.written
  pub knows : Knows progress
  pub completes : (rest : List ℕ) (end : Progress) → AreReplies service s.left progress rest end
      → AreReplies service section.commands no_progress (s.replies ++ rest) end

-- it is served as `build` serves it, after earlier sections with these accepted uploads
abbrev pub IsBuilding : Top → List Upload → SectionValue → SessionValue → Type 0
IsBuilding f earlier section s = IsServed (build_service f earlier section.name) (λ _. Unit {0}) section s

-- the plan is a derivation in the frame from these uploads, no such derivation of its cell costs less, and its text
-- spells it
pub record IsLeastPlan (f : Top) (uploads : List Upload) (p : Steps) : Type 0 where
  pub derivation : IsDerivation (plan_tree p)
  pub inside : IsIn f (plan_tree p)
  pub from : IsFrom uploads (plan_tree p)
  pub least : IsLeast f uploads (root_cell (plan_tree p)) (tree_cost (plan_tree p))
  pub spelled : Spelled (plan_tree p) (plan_text p)

-- each number that was seen is allowed at the progress
abbrev pub SeesAllowed : Top → (Triple → ℕ) → (Triple → ℕ) → Progress → Type 0
SeesAllowed f limit seen p = (c : Triple) → InFrame f c → IsAllowed f limit p c (seen c)

-- it is served as `serve` serves it, among these sections, and its pass has seen these numbers. At the start none was
-- above the limit of its cell
abbrev pub IsServing : Top → (Triple → ℕ) → List SectionValue → SectionValue → (Triple → ℕ) → SessionValue → Type 0
IsServing f limit sections section seen s =
    IsServed (serve_service f limit sections section.name) (SeesAllowed f limit seen) section s

-- no number that was seen is above the cost of a use of the upload by itself
abbrev pub SeesUses : (Triple → ℕ) → List Upload → Type 0
SeesUses seen us = (r : Rule) → IsUseOf us r → Condition r → seen (rule_cell r) ≤ rule_cost r []

-- at each cell of the frame no number that was seen is above the least from the uploads
abbrev pub SeesLeast : Top → List Upload → (Triple → ℕ) → Type 0
SeesLeast f us seen = (c : Triple) (n : ℕ) → InFrame f c → IsLeast f us c n → seen c ≤ n

-- the plan is a derivation in the frame from uploads that are accepted of the sections, and its text spells it
pub record IsAcceptedPlan (f : Top) (sections : List SectionValue) (p : Steps) : Type 0 where
  pub derivation : IsDerivation (plan_tree p)
  pub inside : IsIn f (plan_tree p)
  pub from : EachUpload (IsAcceptedIn f sections) (plan_tree p)
  pub spelled : Spelled (plan_tree p) (plan_text p)
