use Rattle.std.proofs.Common.{◌+◌, ◌-◌, ◌∙◌, arith, ap, length, sym, subst, take}
use Rattle.std.proofs.lemmas.List.{get_or-take, length-take-le}
use Rattle.lj_base.specs.Blocks.{Ascends}
use Rattle.lj_base.proofs.Ascending.{Ascends-get_or_below, Ascends-take}
use Rattle.lj_verify.specs.Strings.{IsStringOf}
use Rattle.lj_verify.proofs.Prefixes.{ascends_to_last, words_for-step}
use Rattle.lj_verify.proofs.strings.mark_first.Goals as goal

pub needs-requires-clause-few_points : goal.needs-requires-clause-few_points
needs-requires-clause-few_points c = omega (
  arith,
  Ascends-get_or_below 0 99 c.args.block.now (c.args.n - (c.args.t - c.args.size - 1) - 1) c.requires.ascends
      (omega arith),
)

pub make_string-requires-clause-few_points : goal.make_string-requires-clause-few_points
make_string-requires-clause-few_points c = omega (
  arith,
  Ascends-get_or_below 0 99 c.args.block.now (c.args.n - (c.args.t - c.args.size - 1) - 1) c.requires.ascends
      (omega arith),
)

pub make_string-requires-clause-below : goal.make_string-requires-clause-below
make_string-requires-clause-below c =
    let b = c.args.block.now in
    let m = c.args.n - (c.args.t - c.args.size - 1) in
    let long = length-take-le m b (omega arith) in
    let same = get_or-take m b (m - 1) 0 (omega arith) in
    subst (Ascends 0 (c.at.result + 1)) (sym c.first_points.ensures)
    (ascends_to_last (take m b) m c.at.result (Ascends-take 0 99 b m c.requires.ascends) (sym long) (omega arith)
    (c.at.ensures ∙ sym same))

pub make_string-requires-clause-enough : goal.make_string-requires-clause-enough
make_string-requires-clause-enough c =
    let b = c.args.block.now in
    let m = c.args.n - (c.args.t - c.args.size - 1) in
    let long = length-take-le m b (omega arith) in
    let same = ap length c.first_points.ensures in
    omega (arith, long, same)

pub string_words-requires-clause-few_points : goal.string_words-requires-clause-few_points
string_words-requires-clause-few_points c = omega (
  arith,
  Ascends-get_or_below 0 99 c.args.block.now (c.args.n - (c.args.t - c.args.size - 1) - 1) c.requires.ascends
      (omega arith),
)

pub slice_bounds-string-end : goal.slice_bounds-string-end
slice_bounds-string-end c =
    let stays = c.make_string.ensures.stays in
    let here = c.string_words.ensures.value in
    let room = c.if-needs-scratch.false in
    let value = c.needs.ensures.value in
    let one = words_for-step (c.at.result + 1) c.args.size (omega arith) in
    omega (arith, stays, here, room, value, one)

pub slice_bounds-string-end-2 : goal.slice_bounds-string-end-2
slice_bounds-string-end-2 c =
    let stays = c.make_string.ensures.stays in
    let here = c.string_words.ensures.value in
    let room = c.if-needs-scratch.false in
    let value = c.needs.ensures.value in
    let one = words_for-step (c.at.result + 1) c.args.size (omega arith) in
    sym (length-take-le c.string_words.result c.make_string.new.scratch (omega (arith, stays, here, room, value, one)))

pub mark_above-requires-clause-string : goal.mark_above-requires-clause-string
mark_above-requires-clause-string c =
    subst (λ b. IsStringOf b c.args.size (take c.string_words.result c.make_string.new.scratch))
    c.first_points.ensures
    (subst (λ n. IsStringOf c.first_points.result c.args.size (take n c.make_string.new.scratch))
    (sym c.string_words.ensures.value) c.make_string.ensures.string)
