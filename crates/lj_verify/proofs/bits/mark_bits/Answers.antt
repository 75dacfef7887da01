use Rattle.std.proofs.Common.{◌≡◌, ◌+◌, ◌*◌, ◌/◌, ◌%◌, arith, subst}
use Rattle.lj_verify.specs.Marks.{IsAtBit, Marks}
use Rattle.lj_verify.proofs.bits.mark_bits.Goals as goal

pub returns : goal.returns
returns c =
    let same : 64 * (c.args.rank / 64) + c.args.rank % 64 ≡ c.args.rank = omega arith in
    subst (λ n. Marks c.args.start c.args.words.now c.mark_bits_at.new.words (IsAtBit n c.args.bits)) same
    c.mark_bits_at.ensures
