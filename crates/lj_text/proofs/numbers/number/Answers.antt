use Rattle.std.proofs.Common.{arith, sym}
use Rattle.lj_text.proofs.Spelling.{below-power, below-more, digits-more, number_of-none, value-more}
use Rattle.lj_text.proofs.numbers.number.Goals as goal

pub returns-then-not-is_ascii_digit-clause-value : goal.returns-then-not-is_ascii_digit-clause-value
returns-then-not-is_ascii_digit-clause-value c =
    number_of-none c.args.token.now c.loop-byte.byte-index c.loop-byte-test.true
    (sym c.if-not-is_ascii_digit.ensures.value)

pub overflow_mul-value : goal.overflow_mul-value
overflow_mul-value c =
    let next = below-more c.loop-byte.byte-index c.loop-byte.value 0 c.loop-byte.invariant.small (omega arith) in
    let small = below-power _ 19 _ next (omega arith) in
    omega arith

pub overflow_add-value : goal.overflow_add-value
overflow_add-value c =
    let range = c.if-not-is_ascii_digit.ensures.cases in
    let next = below-more c.loop-byte.byte-index c.loop-byte.value c.from.result c.loop-byte.invariant.small
    (omega (arith, range)) in
    let small = below-power _ 19 _ next (omega arith) in
    omega arith

pub loop-byte-preserved : goal.loop-byte-preserved
loop-byte-preserved c =
    let range = c.if-not-is_ascii_digit.ensures.cases in
    record {
      digits =
          digits-more c.args.token.now c.loop-byte.byte-index c.loop-byte-test.true c.loop-byte.invariant.digits
          (sym c.if-not-is_ascii_digit.ensures.value);
      value = value-more c.args.token.now c.loop-byte.byte-index c.loop-byte.value c.from.result c.loop-byte-test.true
          c.loop-byte.invariant.value range c.from.ensures;
      small =
          below-more c.loop-byte.byte-index c.loop-byte.value c.from.result c.loop-byte.invariant.small
          (omega (arith, range));
    }

pub returns-clause-small : goal.returns-clause-small
returns-clause-small c =
    below-power c.loop-byte.byte-index 18 c.loop-byte.value c.loop-byte.invariant.small (omega arith)
