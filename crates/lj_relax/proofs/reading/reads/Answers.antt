use Rattle.std.proofs.lemmas.List.Elements.{All-contains, All-from_recursion}
use Rattle.lj_cover.specs.Instances.{Reads}
use Rattle.lj_cover.specs.Rules.{rule_children}
use Rattle.lj_relax.proofs.reading.reads.Goals as goal

pub returns-clause-somewhere : goal.returns-clause-somewhere
returns-clause-somewhere c =
    let frame = c.args.frame in
    let reader = c.args.reader in
    let child = c.args.child in
    let read = c.reads_by_numbers.ensures.reads in
    let laws = c.reads_are_children.ensures in (
      λ t. laws.all frame reader child c.reads_by_numbers.ensures.limits c.requires.reader c.requires.child (read.0 t),
      λ s. read.1 (All-contains (Reads frame reader) (rule_children s.rule) child
          (All-from_recursion (Reads frame reader) (rule_children s.rule)
          (laws.each frame reader s.uploads s.rule s.are_uploads s.instance)) s.has_child),
    )
