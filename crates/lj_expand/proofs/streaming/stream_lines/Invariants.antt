use Rattle.std.proofs.Common.{◌≡◌, length, take}
use Rattle.lj_base.specs.Streams.{Appends}
use Rattle.lj_blockfile.specs.BlockFiles.{blocks_text}
use Rattle.lj_expand.proofs.streaming.stream_lines.Given as goal

abbrev pub invariant-loop-block : goal.invariant-loop-block
invariant-loop-block g l = record {
  room : length l.line ≡ 75;
  written : Appends (g.K.Sink.written l.fn.sink) (g.K.Sink.written l.sink)
      (blocks_text (take l.block-index l.blocks));
  quiet : g.K.Sink.faults l.sink ≡ g.K.Sink.faults l.fn.sink;
}
