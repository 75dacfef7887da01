use Rattle.lj_cert.specs.LineForms.{IsChildField}
use Rattle.lj_cert.proofs.FieldLists.{IsReadUpTo}
use Rattle.lj_cert.proofs.nodes.read_children.Given as goal

abbrev pub invariant-loop-word : goal.invariant-loop-word
invariant-loop-word l = IsReadUpTo IsChildField l.fn.words l.word-iterator l.children.items
