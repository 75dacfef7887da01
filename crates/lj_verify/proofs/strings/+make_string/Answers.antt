use Rattle.std.proofs.Common.{arith, sym, subst, ◌∙◌, ◌-◌, take, refl}
use Rattle.std.proofs.lemmas.List.{length-take-le, take_all}
use Rattle.lj_verify.specs.Marks.{IsRankAmong, Marks}
use Rattle.lj_verify.specs.Strings.{IsStringOf}
use Rattle.lj_verify.proofs.Prefixes.{string_first, words_for-step}
use Rattle.lj_verify.proofs.strings.+make_string.Goals as goal

pub slice_bounds-lower-end : goal.slice_bounds-lower-end
slice_bounds-lower-end t c =
    let stays = c.make_string.ensures.stays in
    let back = c.split_at_mut-string.ensures.back_len in
    let here = c.string_words.ensures.value in
    let there = c.string_words-else-size-le2.ensures.value in
    let room = c.requires.room in
    let one = words_for-step c.args.v c.args.size (omega arith) in
    let two = words_for-step c.args.v (c.args.size - 1) (omega arith) in
    omega (arith, stays, back, here, there, room, one, two)

pub slice_bounds-lower-end-else-size-le2 : goal.slice_bounds-lower-end-else-size-le2
slice_bounds-lower-end-else-size-le2 t c =
    let stays = c.make_string.ensures.stays in
    let back = c.split_at_mut-string.ensures.back_len in
    let here = c.string_words.ensures.value in
    let there = c.string_words-else-size-le2.ensures.value in
    let room = c.requires.room in
    let one = words_for-step c.args.v c.args.size (omega arith) in
    let two = words_for-step c.args.v (c.args.size - 1) (omega arith) in
    sym (length-take-le c.string_words-else-size-le2.result c.make_string.new.scratch
    (omega (arith, stays, back, here, there, room, one, two)))

pub mark_above-requires-clause-string : goal.mark_above-requires-clause-string
mark_above-requires-clause-string t c =
    let count = c.len-len.ensures.len in
    subst (λ b. IsStringOf b (c.args.size - 1) (take c.string_words-else-size-le2.result c.make_string.new.scratch))
    (sym (take_all c.len-len.result c.args.block.now (omega (arith, count))))
    (subst (λ n. IsStringOf c.args.block.now (c.args.size - 1) (take n c.make_string.new.scratch))
    (sym c.string_words-else-size-le2.ensures.value) c.make_string.ensures.string)

pub returns-then-size-le2-clause-string : goal.returns-then-size-le2-clause-string
returns-then-size-le2-clause-string t c =
    let zeros = c.fill.new.self in
    let long = c.fill.ensures.len in
    string_first c.args.block.now zeros _ _ c.args.v c.args.size c.requires.below
    (λ i inside. c.fill.ensures.clones i 0 (omega (arith, inside, long)) refl)
    (c.fill.ensures.len ∙ c.split_at_mut-string.ensures.front_len ∙ c.string_words.ensures.value)
    c.mark_block.ensures

pub returns-else-size-le2-clause-string : goal.returns-else-size-le2-clause-string
returns-else-size-le2-clause-string t c =
    let zeros = c.fill.new.self in
    let long = c.fill.ensures.len in
    let count = c.len-len.ensures.len in
    string_first c.args.block.now zeros _ _ c.args.v c.args.size c.requires.below
    (λ i inside. c.fill.ensures.clones i 0 (omega (arith, inside, long)) refl)
    (c.fill.ensures.len ∙ c.split_at_mut-string.ensures.front_len ∙ c.string_words.ensures.value)
    (subst (λ b. Marks 0 zeros c.mark_above.new.words (IsRankAmong b c.args.size 0))
    (take_all c.len-len.result c.args.block.now (omega (arith, count))) c.mark_above.ensures)
