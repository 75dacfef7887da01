use Rattle.std.proofs.Common.{arith, ◌∙◌, ap, sym}
use Rattle.std.proofs.lemmas.List.{nil_from_length}
use Rattle.lj_cli.specs.Given.{given_by, joined}
use Rattle.lj_cli.specs.GoodWords.{texts}
use Rattle.lj_cli.proofs.Joining.{joined-done}
use Rattle.lj_cli.proofs.given.read_given.Goals as goal

pub returns-clause-some : goal.returns-clause-some
returns-clause-some c =
    let end = nil_from_length c.loop-left.left.now (omega (arith, c.in_default.len_below)) in
    sym c.loop-left.invariant ∙ ap (λ xs. joined c.loop-left.given (given_by (texts xs))) end
    ∙ joined-done c.loop-left.given
