use Rattle.std.proofs.Common.{◌∙◌, arith}
use Rattle.lj_text.proofs.Pieces.{HasExceeded-more, HasRead-more}
use Rattle.lj_text.proofs.input.read_all.Goals as goal

pub returns-then-count-limit-clause-cause : goal.returns-then-count-limit-clause-cause
returns-then-count-limit-clause-cause g c =
    let known = c.in-Ok.ensures in
    let before = c.loop-source.invariant in (
      known.quiet ∙ before.quiet,
      HasExceeded-more _ _ _ c.loop-source.bytes.items _ c.in-Ok.count c.args.limit before.taken known.bytes
          known.count before.within
          (omega (arith, before.room)) (omega (arith, c.if-count-limit.true, c.len.ensures, before.within)),
    )

pub returns-then-is_err-clause-cause : goal.returns-then-is_err-clause-cause
returns-then-is_err-clause-cause g c =
    let known = c.in-Ok.ensures in
    let before = c.loop-source.invariant in (
      known.quiet ∙ before.quiet,
      (
        _,
        HasRead-more _ _ _ c.loop-source.bytes.items _ c.in-Ok.count c.args.limit before.taken known.bytes known.count
            (omega (arith, c.if-count-limit.false, c.len.ensures, before.within)),
      ),
    )
