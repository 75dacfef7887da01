use Rattle.std.proofs.Common.{ℕ, ◌≡◌, ◌<◌, ◌≤◌, get_or, bit_or}
use Rattle.lj_verify.specs.Marks.{shifted_word}
use Rattle.lj_verify.proofs.bits.or_shifted.Given as goal

abbrev pub invariant-loop-i : goal.invariant-loop-i
invariant-loop-i l = record {
  done : (k : ℕ) → k < l.i
      → get_or l.words k 0 ≡ bit_or (get_or l.initial.words k 0) (shifted_word l.shift l.upper l.lower k);
  rest : (k : ℕ) → l.i ≤ k → get_or l.words k 0 ≡ get_or l.initial.words k 0;
}
