use Rattle.std.proofs.Common.{◌≡◌, ◌≤◌, map, take, vec_capacity}
use Rattle.lj_base.specs.Cells.{Triple}
use Rattle.lj_base.specs.Colex.{choose}
use Rattle.lj_base.specs.Frames.{cells_of, size_of}
use Rattle.lj_relax.proofs.tickets.numbers_of_sets.Given as goal

abbrev pub invariant-loop-i : goal.invariant-loop-i
invariant-loop-i l = record {
  numbers : l.numbers.items ≡ map (λ (c : Triple). choose c.v c.t) (take l.i (cells_of l.frame));
  room : size_of l.frame ≤ vec_capacity l.numbers;
}
