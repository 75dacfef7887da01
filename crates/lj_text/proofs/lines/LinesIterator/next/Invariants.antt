use Rattle.std.proofs.Common.{length, ◌-◌, ◌≡◌, ◌+◌, ◌≤◌, drop}
use Rattle.lj_text.specs.Lines.{cut_lines, lines_from}
use Rattle.lj_text.proofs.lines.LinesIterator.next.Given as goal

abbrev pub invariant-loop-self : goal.invariant-loop-self
invariant-loop-self l =
    let here = l.self-inside in
    record {
      number : here.number ≤ here.at + 1;
      within : here.at ≤ length here.bytes.now + 1;
      left : lines_from here.number here.at (cut_lines (drop here.at here.bytes.now)) ≡ l.fn.self;
    }

abbrev pub decreases-loop-self : goal.decreases-loop-self
decreases-loop-self l = length l.self-inside.bytes.now - l.self-inside.at
