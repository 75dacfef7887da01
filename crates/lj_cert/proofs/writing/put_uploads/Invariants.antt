use Rattle.std.proofs.Common.{◌≡◌, ◌++◌, take}
use Rattle.std.specs.List.{flat_map}
use Rattle.lj_text.specs.Lines.{with_feeds}
use Rattle.lj_cert.specs.Texts.{upload_lines}
use Rattle.lj_cert.proofs.writing.put_uploads.Given as goal

abbrev pub invariant-loop-up : goal.invariant-loop-up
invariant-loop-up l = l.out.items ≡ l.fn.out.items ++ with_feeds (flat_map upload_lines (take l.up-index l.uploads))
