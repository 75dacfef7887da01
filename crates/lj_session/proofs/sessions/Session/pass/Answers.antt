use Rattle.std.proofs.Common.{refl}
use Rattle.std.proofs.lemmas.List.{drop-drop}
use Rattle.lj_session.proofs.sessions.Session.pass.Goals as goal

pub returns : goal.returns
returns c = rw (← c.self.view_is, drop-drop 1 c.self.inside.passed c.self.inside.section.commands) refl
