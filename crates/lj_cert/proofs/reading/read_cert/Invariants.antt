use Rattle.std.proofs.Common.{length}
use Rattle.std.specs.List.{AllByRecursion}
use Rattle.lj_text.specs.Lines.{IsLineOf}
use Rattle.lj_cert.specs.Certificates.{IsStage, progress}
use Rattle.lj_cert.proofs.Reaching.{IsReached}
use Rattle.lj_cert.proofs.reading.read_cert.Given as goal

abbrev pub invariant-loop-line : goal.invariant-loop-line
invariant-loop-line l = record {
  reached : IsReached l.bytes (progress l.reading l.stage) l.lines;
  inside : AllByRecursion (IsLineOf l.bytes) l.lines;
  stays : IsStage l.reading l.stage;
}

abbrev pub decreases-loop-line : goal.decreases-loop-line
decreases-loop-line l = length l.lines
