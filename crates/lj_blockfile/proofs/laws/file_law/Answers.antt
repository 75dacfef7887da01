use Rattle.std.proofs.Common.{ℕ, ◌^◌, ◌<◌, ◌≤◌, List, decimal, length, map}
use Rattle.std.specs.List.{AllByRecursion}
use Rattle.lj_text.specs.Lines.{IsPlain}
use Rattle.lj_text.specs.Tokens.{join_by_space}
use Rattle.lj_blockfile.proofs.Writing.{below_18_digits}
use Rattle.lj_blockfile.proofs.Written.{AreBlocksOf-file_text, IsHeader-file_text}
use Rattle.lj_blockfile.proofs.laws.file_law.Goals as goal

pub returns : goal.returns
returns c =
    let first = c.lines_law.ensures.first in
    let numbers = c.number_line_law.ensures.plain in
    let plain : (ns : List ℕ) → 1 ≤ length ns → AllByRecursion (λ n. n < 10 ^ 18) ns
    → IsPlain (join_by_space (map decimal ns)) = λ ns some small. numbers ns some (below_18_digits ns small) in
    let spelled = c.number_line_law.ensures.spelled in
    let written = c.written_law.ensures in
    record {
      header = IsHeader-file_text first plain spelled written;
      blocks = AreBlocksOf-file_text first plain spelled written;
    }
