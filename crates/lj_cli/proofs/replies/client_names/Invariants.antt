use Rattle.std.proofs.Common.{◌≡◌, take}
use Rattle.lj_cli.proofs.Building.{names_of}
use Rattle.lj_cli.proofs.replies.client_names.Given as goal

abbrev pub invariant-loop-section : goal.invariant-loop-section
invariant-loop-section l = l.names.items ≡ names_of (take l.section-index l.section-items)
