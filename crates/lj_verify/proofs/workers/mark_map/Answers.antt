use Rattle.std.proofs.Common.{◌∙◌}
use Rattle.std.proofs.lemmas.Result.{on_ok_weaker}
use Rattle.lj_verify.specs.Marks.{IsRankIn, Marks}
use Rattle.lj_verify.proofs.Whole.{length-map_marks, marks_map}
use Rattle.lj_verify.proofs.workers.mark_map.Goals as goal

pub returns-clause-count : goal.returns-clause-count
returns-clause-count g c =
    on_ok_weaker c.mark_words.result
    (λ (h : Marks 0 c.words_mut.result.now c.mark_words.new.words (IsRankIn c.args.blocks.now c.args.t)).
    length-map_marks c.args.map.now _ c.mark_words.new.words
    (c.words_mut.ensures.whole c.mark_words.new.words (h.count ∙ c.words_mut.ensures.count))) c.mark_words.ensures

pub returns-clause-marks : goal.returns-clause-marks
returns-clause-marks g c =
    on_ok_weaker c.mark_words.result
    (λ (h : Marks 0 c.words_mut.result.now c.mark_words.new.words (IsRankIn c.args.blocks.now c.args.t)).
    marks_map c.args.map.now _ c.words_mut.result.now c.mark_words.new.words _ c.words_mut.ensures.count
    c.words_mut.ensures.value (c.words_mut.ensures.whole c.mark_words.new.words (h.count ∙ c.words_mut.ensures.count))
    h)
    c.mark_words.ensures
