use Rattle.std.proofs.Common.{◌≡◌, ◌++◌, map, take}
use Rattle.lj_base.specs.Frames.{cells_of}
use Rattle.lj_text.specs.Lines.{with_feeds}
use Rattle.lj_cert.specs.Texts.{bound_line}
use Rattle.lj_cert.proofs.writing.put_each_bound.Given as goal

abbrev pub invariant-loop-i : goal.invariant-loop-i
invariant-loop-i l =
    l.out.items ≡ l.fn.out.items ++ with_feeds
    (map (bound_line l.frame l.bounds l.forest.roots) (take l.i (cells_of l.frame)))
