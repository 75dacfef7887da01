use Rattle.std.proofs.Common.{ℕ, ◌↔◌, take}
use Rattle.lj_base.specs.Blocks.{Has}
use Rattle.lj_verify.specs.Marks.{IsInWords, IsRankAmong, Marks}
use Rattle.lj_verify.proofs.pairs.mark_pairs.Given as goal

abbrev pub invariant-loop-i : goal.invariant-loop-i
invariant-loop-i l = record {
  marks : Marks l.start l.initial.words l.words (IsRankAmong (take l.i l.block) 2 l.rest);
  points : (p : ℕ) → IsInWords l.lower.low l.lower.high p ↔ Has (take l.i l.block) p;
}
