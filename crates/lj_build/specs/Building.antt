-- One thread drives the sessions over one table.
use Rattle.std.specs.Prelude.{◌≡◌, ◌≤◌, ◌<◌, ◌*◌, List, [], ◌++◌, length}
use Rattle.lj_base.specs.Frames.{Top}
use Rattle.lj_cover.specs.Rules.{Upload}
use Rattle.lj_script.specs.Values.{ScriptValue, SectionValue}
use Rattle.lj_session.specs.AcceptedUploads.{AreAcceptedOf, AreAcceptedOfAll}
use Rattle.lj_session.specs.BuildReplies.{BuildReplies}
use Rattle.lj_session.specs.Driving.{IsBuilding}
use Rattle.lj_session.specs.Sessions.{SessionValue}
use Rattle.lj_session.specs.declared.asks.Ask.TheVariants.{Done}
use Rattle.lj_session.specs.declared.ends.SessionEnd.{SessionEnd}
use Rattle.lj_table.specs.Tables.{AreLeast, Contents, IsAtRest}
use Rattle.lj_upload.specs.declared.quotas.TheConstants.{QUOTA_UPLOADS}
use Rattle.lj_build.specs.Runs.{AreBuilt, uploads_of}

-- the table is of the frame, has these uploads, and is at rest, so that each bound is the least
pub record Rests (f : Top) (uploads : List Upload) (t : Contents) : Type 0 where
  pub frame : t.arena.frame ≡ f
  pub uploads_are : t.arena.uploads ≡ uploads
  pub rest : IsAtRest t
  pub least : AreLeast t

-- a session on its way, over a table that has the uploads of earlier sections and its own
pub record Builds (f : Top) (earlier : List Upload) (section : SectionValue) (t : Contents) (s : SessionValue)
    : Type 0 where
  pub rests : Rests f (earlier ++ s.own) t
  pub building : IsBuilding f earlier section s

-- the session got what it asked for: it goes on, with a command less
pub record GoesOnBuilding (f : Top) (earlier : List Upload) (section : SectionValue) (t : Contents)
    (before now : SessionValue) : Type 0 where
  pub builds : Builds f earlier section t now
  pub free : now.ask ≡ Done
  pub less : length now.left < length before.left

-- a section was built
pub record IsSectionBuilt (f : Top) (earlier : List Upload) (section : SectionValue) (t : Contents)
    (e : SessionEnd) : Type 0 where
  pub replies : BuildReplies f earlier section e.replies
  pub accepted : AreAcceptedOf f section e.accepted
  pub rests : Rests f (earlier ++ e.accepted) t
  pub few : length e.accepted ≤ QUOTA_UPLOADS

-- sections were built, and what is built after them completes all
pub record AreBuiltSoFar (f : Top) (done : List SectionValue) (ends : List SessionEnd) (t : Contents) : Type 0 where
  pub rests : Rests f (uploads_of ends) t
  pub few : length (uploads_of ends) ≤ QUOTA_UPLOADS * length done
  pub completes : (more : List SectionValue) (others : List SessionEnd)
      → AreBuilt f (uploads_of ends) more others → AreBuilt f [] (done ++ more) (ends ++ others)

-- all sections of a script were built: one end for each, and a table at rest over the uploads of all
pub record IsWholeBuilt (script : ScriptValue) (ends : List SessionEnd) (t : Contents) : Type 0 where
  pub built : AreBuilt script.frame [] script.clients ends
  pub accepted : AreAcceptedOfAll script.frame script.clients (uploads_of ends)
  pub rests : Rests script.frame (uploads_of ends) t
