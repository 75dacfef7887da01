use Rattle.std.proofs.Common.{◌≡◌, ◌+◌, ◌≤◌, [], take}
use Rattle.lj_deriv.specs.Nodes.{trees_of}
use Rattle.lj_cert.specs.Unfolding.{Unfold}
use Rattle.lj_cert.proofs.auditing.hold_nodes.Given as goal

-- the first nodes unfold to the derivations that the arena holds, and there is room for the others
abbrev pub invariant-loop-i : goal.invariant-loop-i
invariant-loop-i l = record {
  frame : l.arena.frame ≡ l.fn.arena.frame;
  uploads : l.arena.uploads ≡ l.fn.arena.uploads;
  room : l.count ≤ l.arena.spare + l.i;
  unfolds : Unfold l.fn.arena.frame l.fn.arena.uploads [] (take l.i l.nodes)
      (trees_of l.arena.uploads l.arena.rules);
}
