use Rattle.std.proofs.Common.{arith}
use Rattle.std.proofs.lemmas.List.{length_push}
use Rattle.lj_text.specs.Lines.{IsLineNumber}
use Rattle.lj_blockfile.proofs.Bodies.{AreBlocks-from_lines, AreBlocksOf-end, AreReadSoFar-step, IsFirstFaulty-here}
use Rattle.lj_blockfile.proofs.Bodies.{few_lines, more_lines, not_faulty, next-of_all, same_blocks, with_left}
use Rattle.lj_blockfile.proofs.read.read_blocks.Goals as goal

pub loop-line-preserved : goal.loop-line-preserved
loop-line-preserved c =
    let read = with_left c.in-Some.ensures.steps c.loop-line.invariant.read in
    let known = c.in-Ok-read_block.ensures in
    rw (c.push.ensures.items, c.if-is_err.ensures.negation) (record {
      read = AreReadSoFar-step read _ known.block known.no_fault;
      few = omega (arith, length_push c.loop-line.blocks.items c.in-Ok-read_block.block);
    })

pub returns-then-len-ge-MAX_BLOCKS-clause-fault : goal.returns-then-len-ge-MAX_BLOCKS-clause-fault
returns-then-len-ge-MAX_BLOCKS-clause-fault c =
    let read = with_left c.in-Some.ensures.steps c.loop-line.invariant.read in
    (c.line_count.ensures, omega (arith, more_lines read (omega arith)))

pub returns-then-len-ge-MAX_BLOCKS-clause-complete : goal.returns-then-len-ge-MAX_BLOCKS-clause-complete
returns-then-len-ge-MAX_BLOCKS-clause-complete c = λ bs h.
    let read = with_left c.in-Some.ensures.steps c.loop-line.invariant.read in
    let few = h.few in
    absurd (omega (arith, few, more_lines read (omega arith)))

pub returns-clause-shape : goal.returns-clause-shape
returns-clause-shape c = AreBlocks-from_lines _ _ _ _ _ c.loop-line.invariant.read.blocks

pub returns-in-Err-clause-complete : goal.returns-in-Err-clause-complete
returns-in-Err-clause-complete c = λ bs h.
    let read = with_left c.in-Some.ensures.steps c.loop-line.invariant.read in
    absurd (not_faulty _ _ h (IsFirstFaulty-here read _ c.in-Err.ensures.fault))

pub returns-in-Err-clause-line : goal.returns-in-Err-clause-line
returns-in-Err-clause-line c =
    let read = with_left c.in-Some.ensures.steps c.loop-line.invariant.read in
    next-of_all (λ line. IsLineNumber c.args.body.now line.number) read (c.line_numbers_law.ensures c.args.body.now)

pub returns-clause-blocks : goal.returns-clause-blocks
returns-clause-blocks c =
    let read = with_left c.in-None.ensures.steps.0 c.loop-line.invariant.read in
    AreBlocksOf-end (few_lines read c.loop-line.invariant.few) read

pub returns-clause-complete : goal.returns-clause-complete
returns-clause-complete c = λ bs h. same_blocks (returns-clause-blocks c) h
