use Rattle.std.proofs.Common.{◌∙◌, ◌&&◌, ap, sym}
use Rattle.lj_cover.specs.Operations.{has_point}
use Rattle.lj_cover.proofs.CutsOfBlocks.{test_is}
use Rattle.lj_cover.proofs.counts.has_both.Goals as goal

pub returns-then-has : goal.returns-then-has
returns-then-has c =
    let b = c.args.b.now in
    let first = sym c.if-has.true ∙ test_is b c.args.x c.has.result c.has.ensures in
    test_is b c.args.y c.has-then-has.result c.has-then-has.ensures ∙ ap (λ q. q && has_point b c.args.y) first

pub returns-else-has : goal.returns-else-has
returns-else-has c =
    let b = c.args.b.now in
    let first = sym c.if-has.false ∙ test_is b c.args.x c.has.result c.has.ensures in
    c.if-has.false ∙ ap (λ q. q && has_point b c.args.y) first
