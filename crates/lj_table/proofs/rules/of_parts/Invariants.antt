use Rattle.std.proofs.Common.{◌≡◌, length, map, take}
use Rattle.lj_base.specs.Bounds.{at_cell}
use Rattle.lj_table.specs.RulesOver.{part_node}
use Rattle.lj_table.proofs.rules.of_parts.Given as goal

abbrev pub invariant-loop-i : goal.invariant-loop-i
invariant-loop-i l = record {
  count : length l.parts ≡ 9;
  are : take l.i l.parts
      ≡ map (part_node (at_cell l.frame l.nodes) l.cell l.choice.v1) (take l.i l.choice.parts);
}
