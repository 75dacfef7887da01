-- How `build` serves a client: each number is the least from the uploads that were accepted before.
use Rattle.std.specs.Prelude.{ℕ, List, ◌++◌}
use Rattle.std.specs.List.{Contains}
use Rattle.lj_base.specs.Frames.{Top}
use Rattle.lj_cover.specs.Derivations.{IsLeast}
use Rattle.lj_cover.specs.Rules.{Upload}
use Rattle.lj_script.specs.Values.{SectionValue}
use Rattle.lj_session.specs.Replies.{AreReplies, Progress, Service, no_progress}

-- a number is the least for its cell, and derivations are, from the uploads accepted so far: those of earlier sections,
-- and this section's
abbrev pub build_service : Top → List Upload → List ℕ → Service
build_service f earlier name = record {
  frame = f;
  client = name;
  Number = λ p c b. IsLeast f (earlier ++ p.own) c b;
  Source = λ p u. Contains (earlier ++ p.own) u;
}

-- the text has the replies of `build` to a section, where these are the accepted uploads of earlier sections
abbrev pub BuildReplies : Top → List Upload → SectionValue → List ℕ → Type 0
BuildReplies f earlier section text =
    (end : Progress) × AreReplies (build_service f earlier section.name) section.commands no_progress text end
