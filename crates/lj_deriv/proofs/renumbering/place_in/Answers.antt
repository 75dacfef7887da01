use Rattle.std.proofs.Common.{sym, arith}
use Rattle.std.proofs.lemmas.List.Sorted.{searched}
use Rattle.lj_base.proofs.Ascending.{Ascends-get_or_le, Ascends-get_or_lt}
use Rattle.std.proofs.Common.{Err, Ok}
use Rattle.lj_deriv.proofs.Places.{place_in-is}
use Rattle.lj_deriv.proofs.renumbering.place_in.Goals as goal

pub returns-in-Ok : goal.returns-in-Ok
returns-in-Ok c =
    let (v, order) = c.requires in
    let ns = c.args.numbers.now in
    let place = c.in-Ok.place in
    let found = searched ns c.args.number (Ok place) c.in-Ok.ensures.position
    (λ i j. Ascends-get_or_le 0 v ns i j order) in
    sym (place_in-is ns c.args.number place (omega (arith, found.0))
    (λ k low. let rises = Ascends-get_or_lt 0 v ns k place order low found.0 in omega (arith, found.1, rises))
    (λ low. omega (arith, found.1)))

pub returns-in-Err : goal.returns-in-Err
returns-in-Err c =
    let (v, order) = c.requires in
    let ns = c.args.numbers.now in
    let place = c.in-Err.place in
    let found = searched ns c.args.number (Err place) c.in-Err.ensures.position
    (λ i j. Ascends-get_or_le 0 v ns i j order) in
    sym (place_in-is ns c.args.number place found.0 (λ k low. found.1 k low)
    (λ low. let above = found.2 place (omega arith) low in omega (arith, above)))
