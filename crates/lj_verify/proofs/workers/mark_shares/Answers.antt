use Rattle.std.proofs.Common.{◌∙◌, ◌*◌, IfOk, arith, drop, get_or, length, replicate, rules, subst, sym, take}
use Rattle.lj_verify.specs.Marks.{IsAtPrefix, IsRankIn, Marks}
use Rattle.lj_verify.proofs.Shares.{enough, marks_all_shares, marks_map_of, marks_share}
use Rattle.lj_verify.proofs.workers.mark_shares.Goals as goal

pub loop-i-preserved : goal.loop-i-preserved
loop-i-preserved g c =
    let n = length c.args.words.now in
    let i = c.loop-i.i in
    let bs = c.args.blocks.now in
    let share = c.div_ceil-share.result in
    let P = IsRankIn (take share (drop (i * share) bs)) c.args.t in
    let each = c.in_ok-maps.ensures.each i c.index.result.now (omega arith) in
    let made : IfOk (get_or c.in_ok-maps.maps.items i c.index.result.now) (λ map. Marks 0 (replicate n 0) map.items P) =
    search (rules, each.1) in
    let here : Marks 0 (replicate n 0) c.in-Ok.map.items P =
    subst (λ (r : _). IfOk r (λ map. Marks 0 (replicate n 0) map.items P)) (sym c.index.ensures ∙ c.in-Ok.is) made in
    marks_share c.args.words.now c.loop-i.words c.mark_prefix.new.words bs i share c.args.t c.loop-i.invariant
    (marks_map_of n c.loop-i.words c.mark_prefix.new.words c.in-Ok.map.items P c.loop-i.auto.words here
    (subst (λ map. Marks 0 c.loop-i.words c.mark_prefix.new.words (IsAtPrefix 0 map (64 * n))) c.deref.ensures.value
    c.mark_prefix.ensures))

pub returns : goal.returns
returns g c =
    marks_all_shares c.args.words.now c.loop-i.words c.args.blocks.now c.loop-i.i c.div_ceil-share.result c.args.t
    (enough (length c.args.blocks.now) c.args.workers c.loop-i.i c.div_ceil-share.result c.requires.some_workers
    c.loop-i-test.false c.div_ceil-share.ensures) c.loop-i.invariant
