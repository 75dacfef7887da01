use Rattle.std.proofs.Common.{◌≡◌, ◌∙◌, None, Some, ap, take}
use Rattle.lj_text.specs.Numbers.{number_of}
use Rattle.lj_cert.proofs.Colons.{before_colon, colon-found, colon-none}
use Rattle.lj_cert.proofs.fields.cut_number.Goals as goal

pub returns-in_err-colon-clause-none : goal.returns-in_err-colon-clause-none
returns-in_err-colon-clause-none c =
    rw c.from_residual.ensures
    (λ n rest h. colon-none c.args.field.now h.piece rest h.field_is c.in_err-colon.ensures)

pub returns-in_err-n-clause-none : goal.returns-in_err-n-clause-none
returns-in_err-n-clause-none c =
    let field = c.args.field.now in
    let colon = c.in_ok-colon.colon in
    let none : None ≡ number_of (take colon field) = c.in_err-n.ensures.value ∙ c.number.ensures.value in
    rw c.from_residual-in_err-n.ensures (λ n rest h.
    let at = colon-found field h.piece rest n colon h.field_is h.number_is c.in_ok-colon.ensures.0
    c.in_ok-colon.ensures.1 in
    let both : None ≡ Some n =
    none ∙ ap number_of (before_colon field h.piece rest colon h.field_is at) ∙ h.number_is in
    cc both)
