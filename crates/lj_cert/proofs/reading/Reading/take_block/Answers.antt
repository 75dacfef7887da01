use Rattle.std.proofs.Common.{inr}
use Rattle.lj_cert.proofs.Faulty.{bad_block}
use Rattle.lj_cert.proofs.reading.Reading.take_block.Goals as goal

pub returns-in_default-clause-fault : goal.returns-in_default-clause-fault
returns-in_default-clause-fault c =
    inr (bad_block c.args.self.now c.args.upload c.args.text.now c.args.line
    (λ is. cc (c.if-is_one_word.ensures.1 is)) c.in_default.ensures.none)

pub returns-in-Ok-push_block-clause-next : goal.returns-in-Ok-push_block-clause-next
returns-in-Ok-push_block-clause-next c = rw c.in-Ok-push_block.ensures.ok c.requires.stage
