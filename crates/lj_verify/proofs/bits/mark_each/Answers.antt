use Rattle.std.proofs.Common.{◌≡◌, ◌+◌, ◌-◌, ◌/◌, ◌%◌, ◌*◌, ◌^◌, get_or, bit_and, arith, sym, subst}
use Rattle.lj_verify.specs.Marks.{IsAtBit, IsAtPrefix, Marks}
use Rattle.lj_verify.proofs.Shifts.{mask_is, marks_left, marks_no_prefix, marks_whole}
use Rattle.lj_verify.proofs.bits.mark_each.Goals as goal
use Rattle.lj_verify.proofs.bits.mark_each.Goals.{then-full-gt0, else-full-gt0}

pub returns-then-left-gt0 : goal.returns-then-left-gt0
returns-then-left-gt0 c =
    let full = c.args.bits / 64 in
    let same : 64 * (c.args.rank / 64 + full) + c.args.rank % 64 ≡ c.args.rank + 64 * full = omega arith in
    let first : Marks c.args.start c.args.words.now c.if-full-gt0.words
    (IsAtPrefix c.args.rank c.args.string.now (64 * full)) =
    elim c.if-full-gt0.branch [
      | then-full-gt0 w ↦ subst (λ new. Marks c.args.start c.args.words.now new
          (IsAtPrefix c.args.rank c.args.string.now (64 * full))) (sym w.words-is)
          (marks_whole c.args.start c.args.rank _ _ c.args.string.now full (omega arith) w.mark_words.ensures)
      | else-full-gt0 w ↦ subst (λ new. Marks c.args.start c.args.words.now new
          (IsAtPrefix c.args.rank c.args.string.now (64 * full))) (sym w.words-is)
          (marks_no_prefix c.args.start c.args.rank _ c.args.string.now (64 * full) (let none =
          w.if-full-gt0.false in omega (arith, none)))
    ] in
    marks_left c.args.start c.args.rank _ _ _ c.args.string.now full (c.args.bits % 64) c.args.bits (omega arith)
    (omega arith) first
    (subst (λ n. Marks c.args.start c.if-full-gt0.words c.mark_bits_at.new.words
    (IsAtBit (c.args.rank + 64 * full) (bit_and (get_or c.args.string.now full 0) (n - 1))))
    (sym (mask_is (c.args.bits % 64) (omega arith)))
    (subst (λ n. Marks c.args.start c.if-full-gt0.words c.mark_bits_at.new.words
    (IsAtBit n (bit_and (get_or c.args.string.now full 0) (1 * 2 ^ (c.args.bits % 64) % 2 ^ 64 - 1))))
    same c.mark_bits_at.ensures))
