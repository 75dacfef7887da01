-- What a session keeps.
use Rattle.std.specs.Prelude.{◌≤◌, drop, length}
use Rattle.std.specs.List.{AllByRecursion}
use Rattle.lj_base.specs.Frames.{InFrame}
use Rattle.lj_session.specs.Handling.{Waits}
use Rattle.lj_session.specs.Sessions.{SessionValue}
use Rattle.lj_session.specs.declared.limits.TheConstants.{MAX_WRITTEN}
use Rattle.lj_session.specs.declared.sessions.Session.TheInside.{Inside}

abbrev pub session_of : Inside → SessionValue
session_of s = record {
  frame = s.terms.frame;
  section = s.section;
  left = drop s.passed s.section.commands;
  own = s.own;
  written = s.written;
  replies = s.replies.items;
  ask = s.ask;
}

-- as many commands as were passed are there, each accepted upload has a cell of the frame, the blocks that were written
-- are within the limit, and an ask that waits is that of the first command left
pub record IsSession (s : Inside) : Type 0 where
  pub passed : s.passed ≤ length s.section.commands
  pub inside : AllByRecursion (λ u. InFrame s.terms.frame u.cell) s.own
  pub written : s.written ≤ MAX_WRITTEN
  pub waits : Waits (session_of s) s.ask
