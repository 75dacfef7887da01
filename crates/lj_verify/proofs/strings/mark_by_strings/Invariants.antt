use Rattle.std.proofs.Common.{take, ◌≡◌, length}
use Rattle.lj_verify.specs.Marks.{IsRankIn, Marks}
use Rattle.lj_verify.proofs.strings.mark_by_strings.Given as goal

abbrev pub invariant-loop-block : goal.invariant-loop-block
invariant-loop-block l = record {
  marks : Marks l.start l.initial.words l.words (IsRankIn (take l.block-index l.blocks) l.t);
  stays : length l.scratch ≡ length l.initial.scratch;
}
