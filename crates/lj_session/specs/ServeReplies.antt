-- How `serve` serves a client: each number is the cost of a derivation from accepted uploads, and no more than what the
-- client may rely on.
use Rattle.std.specs.Prelude.{◌≡◌, ℕ, ◌≤◌, List, []}
use Rattle.std.specs.List.{AllByRecursion, Contains}
use Rattle.lj_base.specs.Cells.{Triple}
use Rattle.lj_base.specs.Colex.{choose}
use Rattle.lj_base.specs.Frames.{Top}
use Rattle.lj_cover.specs.Derivations.{IsLeast}
use Rattle.lj_cover.specs.Rules.{Condition, Rule, Upload, Leaf, Derived, Derived2, rule_cell, rule_cost}
use Rattle.lj_cover.specs.Uses.{DerivableBy}
use Rattle.lj_script.specs.Values.{SectionValue}
use Rattle.lj_session.specs.AcceptedUploads.{IsAcceptedIn}
use Rattle.lj_session.specs.Replies.{AreReplies, Progress, Service, no_progress}

-- the rule uses one of the uploads by itself: whole, or its blocks through one point or two
abbrev pub IsUseOf : List Upload → Rule → Type 0
IsUseOf us (Leaf u) = Contains us u
IsUseOf us (Derived u x) = Contains us u
IsUseOf us (Derived2 u x y) = Contains us u
IsUseOf us r = ⊥

-- the number is no more than what limits the cell's number at this progress: a limit from the start; each number that
-- was reported for the cell; the cost of each use of an accepted upload by itself; and for each settle the least from
-- the uploads that were accepted before it
pub record IsAllowed (f : Top) (limit : Triple → ℕ) (p : Progress) (c : Triple) (b : ℕ) : Type 0 where
  pub first : b ≤ limit c
  pub reported : AllByRecursion (λ r. r.cell ≡ c → b ≤ r.number) p.reported
  pub uses : (r : Rule) → IsUseOf p.own r → Condition r → rule_cell r ≡ c → b ≤ rule_cost r []
  pub settled : AllByRecursion (λ before. (n : ℕ) → IsLeast f before c n → b ≤ n) p.settles

-- a number is the cost of a derivation in the frame from uploads that are accepted of the sections, and it is allowed;
-- the derivations that are shown are from such uploads
abbrev pub serve_service : Top → (Triple → ℕ) → List SectionValue → List ℕ → Service
serve_service f limit sections name = record {
  frame = f;
  client = name;
  Number = λ p c b. DerivableBy f (IsAcceptedIn f sections) c b × IsAllowed f limit p c b;
  Source = λ p u. IsAcceptedIn f sections u;
}

-- the text has the replies of `serve` to a section among these sections, and no number is above the limit of its cell
abbrev pub ServeRepliesBelow : Top → (Triple → ℕ) → List SectionValue → SectionValue → List ℕ → Type 0
ServeRepliesBelow f limit sections section text = (end : Progress)
    × AreReplies (serve_service f limit sections section.name) section.commands no_progress text end

-- the text has the replies of `serve`: no number is above the number of sets of its cell
abbrev pub ServeReplies : Top → List SectionValue → SectionValue → List ℕ → Type 0
ServeReplies f sections section text = ServeRepliesBelow f (λ c. choose c.v c.t) sections section text
