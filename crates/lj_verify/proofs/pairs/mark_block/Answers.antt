use Rattle.std.proofs.Common.{arith, subst, sym, refl}
use Rattle.lj_verify.specs.Marks.{IsRankAmong, Marks}
use Rattle.lj_verify.proofs.Runs.{marks_empty, marks_small}
use Rattle.lj_verify.proofs.pairs.mark_block.Goals as goal

pub returns-then-len-t : goal.returns-then-len-t
returns-then-len-t c =
    marks_small c.set_laws.ensures c.args.start c.args.words.now c.args.block.now c.args.t c.len-len.ensures.ascends
    (omega arith)

pub returns-in-0 : goal.returns-in-0
returns-in-0 c =
    subst (λ t. Marks c.args.start c.args.words.now c.mark_bits.new.words (IsRankAmong c.args.block.now t 0))
    (sym c.in-0.is)
    (marks_empty c.args.start _ _ c.args.block.now 0 0 refl c.mark_bits.ensures)
