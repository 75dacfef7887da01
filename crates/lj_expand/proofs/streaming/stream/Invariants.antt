use Rattle.std.proofs.Common.{◌≡◌, ◌-◌, ◌≤◌, length, take}
use Rattle.lj_base.specs.Streams.{Appends}
use Rattle.lj_blockfile.specs.BlockFiles.{blocks_text}
use Rattle.lj_cover.specs.Derivations.{expand}
use Rattle.lj_deriv.specs.Nodes.{plan_tree}
use Rattle.lj_expand.proofs.streaming.stream.Given as goal

abbrev pub invariant-loop-done : goal.invariant-loop-done
invariant-loop-done g l = record {
  room : length l.batch ≡ 128;
  upto : l.done ≤ l.cost;
  written : Appends (g.K.Sink.written l.fn.sink) (g.K.Sink.written l.sink)
      (blocks_text (take l.done (expand (plan_tree l.plan))));
  quiet : g.K.Sink.faults l.sink ≡ g.K.Sink.faults l.fn.sink;
}

abbrev pub decreases-loop-done : goal.decreases-loop-done
decreases-loop-done g l = l.cost - l.done
