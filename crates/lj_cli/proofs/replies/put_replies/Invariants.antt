use Rattle.std.proofs.Common.{◌≡◌, ◌++◌, List, drop, length}
use Rattle.lj_build.specs.Runs.{sections_text}
use Rattle.lj_script.specs.Values.{SectionValue}
use Rattle.lj_cli.proofs.Building.{names_of}
use Rattle.lj_cli.proofs.replies.put_replies.Given as goal

abbrev pub invariant-loop-name : goal.invariant-loop-name
invariant-loop-name l = (sections : List SectionValue) → l.names ≡ names_of sections
    → l.out.items ++ sections_text (drop (length l.yielded) sections) (drop (length l.yielded) l.ends)
    ≡ l.fn.out.items ++ sections_text sections l.ends
