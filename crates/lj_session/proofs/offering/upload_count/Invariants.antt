use Rattle.std.proofs.Common.{◌≡◌, take}
use Rattle.lj_session.specs.Offered.{upload_count}
use Rattle.lj_session.proofs.offering.upload_count.Given as goal

abbrev pub invariant-loop-command : goal.invariant-loop-command
invariant-loop-command l = l.count ≡ upload_count (take l.command-index l.commands)
