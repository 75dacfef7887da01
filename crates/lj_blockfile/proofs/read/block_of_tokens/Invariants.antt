use Rattle.std.proofs.Common.{◌+◌, ◌≤◌, length}
use Rattle.std.specs.List.{AllByRecursion}
use Rattle.lj_text.specs.Tokens.{IsTokenOf}
use Rattle.lj_blockfile.proofs.Reading.{IsUnderway}
use Rattle.lj_blockfile.proofs.read.block_of_tokens.Given as goal

abbrev pub invariant-loop-token : goal.invariant-loop-token
invariant-loop-token l = record {
  underway : IsUnderway l.line l.v l.k l.count l.token-iterator l.block;
  inside : AllByRecursion (IsTokenOf l.line) l.token-iterator;
  few : l.count + length l.token-iterator ≤ length l.line;
}
