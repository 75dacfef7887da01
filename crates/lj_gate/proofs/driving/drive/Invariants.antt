use Rattle.std.proofs.Common.{◌≡◌, length}
use Rattle.lj_board.specs.Seen.{NoneRises, seen_of}
use Rattle.lj_session.specs.Driving.{IsServing}
use Rattle.lj_session.specs.declared.asks.Ask.TheVariants.{Done}
use Rattle.lj_gate.proofs.driving.drive.Given as goal

-- the session is on its way, and its pass has seen less and less
abbrev pub invariant-loop-ask : goal.invariant-loop-ask
invariant-loop-ask g l = record {
  serving : IsServing g.S.Serving.frame (seen_of l.fn.pass) g.S.Serving.sections l.fn.session.section (seen_of l.pass)
      l.session;
  free : l.session.ask ≡ Done;
  falls : NoneRises l.fn.pass l.pass;
}

abbrev pub decreases-loop-ask : goal.decreases-loop-ask
decreases-loop-ask g l = length l.session.left
