use Rattle.std.proofs.Common.{◌≡◌}
use Rattle.std.proofs.lemmas.Bool.{false≢true}
use Rattle.std.proofs.lemmas.Result.{IfOk-weaker}
use Rattle.lj_blockfile.specs.Headers.{IsHeader}
use Rattle.lj_blockfile.specs.declared.headers.Header.{Header}
use Rattle.lj_session.proofs.Searching.{file_offers}
use Rattle.lj_session.proofs.offering.is_in_file.Goals as goal

pub returns-in_default : goal.returns-in_default
returns-in_default c = (
  λ t. absurd (false≢true t),
  λ h. absurd (c.in_default.not-Ok h.1.0 (c.read_header.ensures.complete h.1.0 h.1.1)),
)

pub returns : goal.returns
returns c =
    let header : Header = c.in-Ok.header in
    let one : (h : Header) → IsHeader c.args.body.now h → h ≡ header =
    λ h is. let e = c.read_header.ensures.complete h is in let f = c.in-Ok.is in cc in
    let offers = file_offers c.args.body.now c.rest_of.result.now header c.args.up.now c.in-Ok.ensures.header
    c.rest_of.ensures one in
    IfOk-weaker c.is_given_by.result _ _ (λ yes e. (λ t. offers.0 (e.0 t), λ h. e.1 (offers.1 h))) c.is_given_by.ensures
