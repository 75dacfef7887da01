use Rattle.lj_cert.specs.LineForms.{IsPartField}
use Rattle.lj_cert.proofs.FieldLists.{IsReadUpTo}
use Rattle.lj_cert.proofs.nodes.read_parts.Given as goal

abbrev pub invariant-loop-word : goal.invariant-loop-word
invariant-loop-word l = IsReadUpTo IsPartField l.fn.words l.word-iterator l.parts.items
