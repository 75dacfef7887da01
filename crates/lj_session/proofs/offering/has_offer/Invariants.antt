use Rattle.std.proofs.Common.{take}
use Rattle.lj_session.specs.Offered.{HasOffer}
use Rattle.lj_session.proofs.offering.has_offer.Given as goal

abbrev pub invariant-loop-command : goal.invariant-loop-command
invariant-loop-command l = HasOffer (take l.command-index l.commands) l.up → ⊥
