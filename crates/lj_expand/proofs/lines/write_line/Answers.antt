use Rattle.std.proofs.Common.{◌≡◌, ◌+◌, ◌*◌, ◌≤◌, ◌∷◌, [], ◌++◌, ◌∙◌, ap, arith, length, refl, sym, take}
use Rattle.std.proofs.lemmas.List.{length-set, take_more_set}
use Rattle.lj_base.proofs.Ascending.{Ascends-get_or_below}
use Rattle.lj_blockfile.specs.BlockLines.{block_line}
use Rattle.lj_expand.proofs.Texts.{line-first, line-next, written-more}
use Rattle.lj_expand.proofs.lines.write_line.Goals as goal
use Rattle.lj_expand.proofs.lines.write_line.Goals.{then-i-gt0, else-i-gt0}

pub write_point-end-requires-clause-in_range : goal.write_point-end-requires-clause-in_range
write_point-end-requires-clause-in_range c = omega (
  arith,
  c.at-point.ensures,
  Ascends-get_or_below 0 99 c.args.block.now c.loop-i.i c.len-i-end.ensures.ascends
      (omega arith),
)

pub loop-i-preserved : goal.loop-i-preserved
loop-i-preserved c =
    let b = c.args.block.now in
    let i = c.loop-i.i in
    let p = c.at-point.result in
    let h = c.loop-i.invariant in
    let front = take c.args.start c.args.out.now in
    let now = take c.write_point-end.result c.write_point-end.new.out in
    elim c.if-i-gt0.branch [
      | then-i-gt0 w ↦
          let more = w.if-i-gt0.true in
          let spaced : take c.if-i-gt0.end c.if-i-gt0.out ≡ take c.loop-i.end c.loop-i.out ++ 32 ∷ [] =
          rw (w.out-is, w.end-is) (take_more_set c.loop-i.out c.loop-i.end 32 (omega (arith, h.len, h.short more))) in
          let longer = written-more front (block_line (take i b)) (32 ∷ []) _ _ h.text spaced in
          record {
            len =
                c.write_point-end.ensures.len
                ∙ ap length w.out-is ∙ length-set c.loop-i.out c.loop-i.end 32 ∙ h.len;
            text =
                written-more front (block_line (take i b) ++ 32 ∷ []) _ _ now longer c.write_point-end.ensures.text
                ∙ ap (λ t. front ++ t) (sym (line-next b i p (omega arith) c.at-point.ensures more));
            first = λ e. absurd (omega arith);
            short = λ some. omega (arith, c.write_point-end.ensures.end, w.end-is, h.short more);
          }
      | else-i-gt0 w ↦
          let start : i ≡ 0 = omega (arith, w.if-i-gt0.false) in
          let same : take c.if-i-gt0.end c.if-i-gt0.out ≡ take c.loop-i.end c.loop-i.out =
          rw (w.out-is, w.end-is) refl in
          record {
            len = c.write_point-end.ensures.len ∙ ap length w.out-is ∙ h.len;
            text =
                written-more front (block_line (take i b)) _ _ now (same ∙ h.text) c.write_point-end.ensures.text
                ∙ ap (λ t. front ++ t) (sym (line-first b i p (omega arith) c.at-point.ensures start));
            first = λ e. absurd (omega arith);
            short = λ some. omega (arith, c.write_point-end.ensures.end, w.end-is, h.first start);
          }
    ]
