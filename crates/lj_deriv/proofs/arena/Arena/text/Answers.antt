use Rattle.std.proofs.Common.{arith}
use Rattle.lj_deriv.specs.Nodes.{steps_of}
use Rattle.lj_deriv.proofs.ReadsBack.{plan-reads_back}
use Rattle.lj_deriv.proofs.arena.Arena.text.Goals as goal

pub returns-clause-reads_back : goal.returns-clause-reads_back
returns-clause-reads_back c =
    plan-reads_back c.words_law.ensures.decimal c.words_law.ensures.joined c.words_law.ensures.reads_back
    (steps_of c.args.self.now) (omega (arith, c.len.ensures.len))
    (record { accepted = c.uploads.ensures.accepted; ordinals = c.uploads.ensures.ordinals }) c.len.ensures.valid
