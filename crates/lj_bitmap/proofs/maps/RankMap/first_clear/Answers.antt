use Rattle.std.proofs.Common.{◌<◌, ◌+◌, ◌^◌, arith, ap, ◌∙◌, sym, subst, get_or, not, w64}
use Rattle.std.proofs.lemmas.List.{get_or_read}
use Rattle.std.specs.Int.{trailing_ones}
use Rattle.std.specs.List.{position}
use Rattle.lj_bitmap.specs.Words.{AreFull}
use Rattle.lj_bitmap.proofs.Bits.{position-all_full, position-found, position-missed}
use Rattle.lj_bitmap.proofs.maps.RankMap.first_clear.Goals as goal

pub returns-then-full-len : goal.returns-then-full-len
returns-then-full-len c =
    let words = c.self.inside.words.items in
    let full = c.full_words-full.result in
    let all = subst (λ ws. AreFull ws 0 full) c.deref.ensures.value c.full_words-full.ensures.full in
    sym (position-all_full words c.self.inside.len full all (omega (arith, c.self.invariant.0)))
    ∙ ap (position not) c.self.view_is

pub returns-then-r-self : goal.returns-then-r-self
returns-then-r-self c =
    let words = c.self.inside.words.items in
    let full = c.full_words-full.result in
    let all = subst (λ ws. AreFull ws 0 full) c.deref.ensures.value c.full_words-full.ensures.full in
    let word = get_or_read words full c.index.result.now (omega arith) c.index.ensures 0 in
    let open_word : get_or words full 0 + 1 < 2 ^ 64 =
    omega (arith, c.full_words-full.ensures.stop (omega arith), ap (λ ws. get_or ws full 0) c.deref.ensures.value) in
    let ones = c.trailing_ones.ensures ∙ ap (trailing_ones w64) word in
    sym (position-found words c.self.inside.len full c.trailing_ones.result all open_word ones c.if-r-self.true)
    ∙ ap (position not) c.self.view_is

pub returns-else-r-self : goal.returns-else-r-self
returns-else-r-self c =
    let words = c.self.inside.words.items in
    let full = c.full_words-full.result in
    let all = subst (λ ws. AreFull ws 0 full) c.deref.ensures.value c.full_words-full.ensures.full in
    let word = get_or_read words full c.index.result.now (omega arith) c.index.ensures 0 in
    let open_word : get_or words full 0 + 1 < 2 ^ 64 =
    omega (arith, c.full_words-full.ensures.stop (omega arith), ap (λ ws. get_or ws full 0) c.deref.ensures.value) in
    let ones = c.trailing_ones.ensures ∙ ap (trailing_ones w64) word in
    sym (position-missed words c.self.inside.len full c.trailing_ones.result all open_word ones c.if-r-self.false)
    ∙ ap (position not) c.self.view_is
