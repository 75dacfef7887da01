use Rattle.std.proofs.Common.{◌∙◌, Ok, arith, ap, length, subst}
use Rattle.std.proofs.lemmas.Result.{err_from_is_err_and}
use Rattle.std.specs.List.{AllByRecursion}
use Rattle.lj_text.specs.Tokens.{IsTokenOf}
use Rattle.lj_blockfile.proofs.Reading.{IsBlockLine-end, IsUnderway-past, IsUnderway-read, IsUnderway-start, count-end}
use Rattle.lj_blockfile.proofs.Reading.{fault-here, with_left}
use Rattle.lj_blockfile.proofs.Unique.{line_fault-none, same_block}
use Rattle.lj_blockfile.proofs.read.block_of_tokens.Goals as goal
use Rattle.lj_blockfile.proofs.read.block_of_tokens.Goals.{then-len-k+in_ok-add_point, else-len-k}

pub loop-token-init : goal.loop-token-init
loop-token-init c =
    let same = c.into_iter-token-iterator.ensures.into_iter_gives in
    let inside = c.of-token-items.ensures.inside in
    record {
      underway =
          rw (same ∙ c.of-token-items.ensures.walk, c.empty-block.ensures)
          (IsUnderway-start c.args.line.now c.args.v c.args.k);
      inside = rw same inside;
      few = rw same (omega (arith, c.of-token-items.ensures.len));
    }

pub returns-in_err-add_point-clause-fault : goal.returns-in_err-add_point-clause-fault
returns-in_err-add_point-clause-fault c =
    let p = err_from_is_err_and c.from_residual.result c.from_residual.ensures.1 in
    let u = with_left c.in-Some.ensures.steps c.loop-token.invariant.underway in
    rw (p.1, p.2) (fault-here u (omega arith) _ c.in_err-add_point.ensures.fault)

pub returns-in_err-add_point-clause-complete : goal.returns-in_err-add_point-clause-complete
returns-in_err-add_point-clause-complete c = λ b h.
    let u = with_left c.in-Some.ensures.steps c.loop-token.invariant.underway in
    let fault = fault-here u (omega arith) _ c.in_err-add_point.ensures.fault in
    let none = line_fault-none _ _ _ b h in
    cc

pub loop-token-preserved : goal.loop-token-preserved
loop-token-preserved c =
    let first = c.in-Some.ensures.steps in
    let u = with_left first c.loop-token.invariant.underway in
    let inside = subst (AllByRecursion (IsTokenOf c.args.line.now)) first c.loop-token.invariant.inside in
    record {
      underway = elim c.if-len-k.branch [
        | then-len-k+in_ok-add_point w ↦ rw w.block-is
            (IsUnderway-read u _ (omega arith) w.in_ok-add_point.ensures.added w.in_ok-add_point.ensures.fault)
        | else-len-k w ↦ rw w.block-is (IsUnderway-past u (omega arith))
      ];
      inside = inside.1;
      few = omega (arith, c.loop-token.invariant.few, ap length first);
    }

pub returns-then-len-k-2-clause-complete : goal.returns-then-len-k-2-clause-complete
returns-then-len-k-2-clause-complete c = λ b h.
    let u = with_left c.in-None.ensures.steps.0 c.loop-token.invariant.underway in
    let filled = u.filled in
    let just = count-end u (line_fault-none _ _ _ b h) in
    absurd (omega arith)

pub returns-then-count-k-clause-complete : goal.returns-then-count-k-clause-complete
returns-then-count-k-clause-complete c = λ b h.
    let u = with_left c.in-None.ensures.steps.0 c.loop-token.invariant.underway in
    let just = count-end u (line_fault-none _ _ _ b h) in
    absurd (omega arith)

pub returns-else-count-k-clause-block : goal.returns-else-count-k-clause-block
returns-else-count-k-clause-block c =
    let u = with_left c.in-None.ensures.steps.0 c.loop-token.invariant.underway in
    IsBlockLine-end u (omega arith) (omega arith) c.len-2.ensures.ascends

pub returns-else-count-k-clause-complete : goal.returns-else-count-k-clause-complete
returns-else-count-k-clause-complete c = λ b h. ap Ok (same_block _ _ _ _ b (returns-else-count-k-clause-block c) h)
