use Rattle.std.proofs.Common.{◌≡◌, ℕ, ◌+◌, ◌<◌, List, [], ◌∷◌, ◌++◌, Vec, Global, get_or, arith, ap, sym, subst, ◌∙◌}
use Rattle.lj_base.specs.Blocks.{IsBlock}
use Rattle.lj_base.specs.Cells.{Triple}
use Rattle.lj_base.specs.Colex.{choose}
use Rattle.lj_excess.specs.Multiplicities.{Tally, multiplicities, tally_of}
use Rattle.lj_greedy.specs.Greedy.{greedy_list}
use Rattle.lj_greedy.proofs.GreedyLists.{IsBegun, begun_all, begun_block, begun_covered}
use Rattle.lj_greedy.proofs.covering.greedy_blocks.Goals as goal
use Rattle.lj_greedy.proofs.covering.greedy_blocks.Goals.{then-at-eq0+in_ok-push, else-at-eq0}

-- the counts and the blocks after a step, of which something is known for the cell of the counts
put : (cell k : Triple) (now counts : Tally) (items ds : List (List ℕ)) (r : ℕ) → k ≡ cell → now ≡ counts → items ≡ ds
    → counts ≡ tally_of ds k → IsBegun ds k r → (now ≡ tally_of items cell) × IsBegun items cell r
put cell k now counts items ds r same cs bs tally begun = (
  cs ∙ tally ∙ ap (tally_of ds) same ∙ ap (λ es. tally_of es cell) (sym bs),
  subst (λ es. IsBegun es cell r) (sym bs) (subst (λ d. IsBegun ds d r) same begun),
)

pub loop-r-preserved : goal.loop-r-preserved
loop-r-preserved c =
    let bs : List (List ℕ) = c.loop-r.blocks.items in
    let cell = c.cell-cell.result in
    let k = c.loop-r.counts.cell in
    let r = c.loop-r.r in
    let counts = c.loop-r.counts.counts in
    let old = c.loop-r.invariant in
    let cell_is : k ≡ cell = ap (λ (s : Tally). s.cell) old.counted in
    let counted : c.loop-r.counts ≡ tally_of bs k = old.counted ∙ ap (tally_of bs) (sym cell_is) in
    let counts_is : counts ≡ multiplicities bs k = ap (λ (s : Tally). s.counts) counted in
    let begun = subst (λ d. IsBegun bs d r) (sym cell_is) old.begun in
    let ranks = c.rank_law.ensures in
    let ranked = c.tally_law.ensures.ranks in
    let tally = c.tally_law.ensures.at in
    let some = c.multiplicity_law.ensures.some in
    let few = c.requires.few in
    let size = ap (λ (d : Triple). choose d.v d.t) c.cell-cell.ensures.cell in
    elim c.if-at-eq0.branch [
      | then-at-eq0+in_ok-push w ↦
          let s = w.set_of.result in
          let b = w.grown_block-block.result in
          let set = subst (λ (d : Triple). IsBlock d.v d.t s) (sym cell_is) w.set_of.ensures.set in
          let zero_is : get_or counts r 0 ≡ 0 = sym c.at.ensures ∙ w.if-at-eq0.true in
          let grown_is = w.grown_block-block.ensures.value bs counted in
          let short = begun.few in
          let end = c.set_count-r-end.ensures in
          let parts = put cell k c.if-at-eq0.counts w.add.new.self c.if-at-eq0.blocks.items (bs ++ b ∷ [])
          (r + 1) cell_is
          w.counts-is (ap (λ (v : Vec (List ℕ) Global). v.items) w.blocks-is ∙ w.in_ok-push.ensures.items)
          (w.add.ensures.counts bs (omega (arith, short, few, size, end, c.loop-r-test.true)) counted)
          (begun_block ranks ranked tally some bs k r counts s b counts_is zero_is set w.set_of.ensures.rank
          w.grown_block-block.ensures.block w.grown_block-block.ensures.within grown_is begun) in
          record { counted = parts.0; begun = parts.1 }
      | else-at-eq0 w ↦
          let some_is : 0 < get_or counts r 0 = (let other = w.if-at-eq0.false in omega (arith, other, c.at.ensures)) in
          let parts = put cell k c.if-at-eq0.counts c.loop-r.counts c.if-at-eq0.blocks.items bs (r + 1) cell_is
          w.counts-is (ap (λ (v : Vec (List ℕ) Global). v.items) w.blocks-is) counted
          (begun_covered tally some bs k r counts counts_is some_is begun) in
          record { counted = parts.0; begun = parts.1 }
    ]

pub returns-clause-value : goal.returns-clause-value
returns-clause-value c =
    let cell = c.cell-cell.result in
    let end = c.set_count-r-end.ensures in
    let all : c.loop-r.r ≡ choose cell.v cell.t = omega (arith, end) in
    (begun_all c.rank_law.ensures c.tally_law.ensures.ranks c.multiplicity_law.ensures.some c.loop-r.blocks.items cell
    (subst (IsBegun c.loop-r.blocks.items cell) all c.loop-r.invariant.begun)).0
    ∙ ap greedy_list c.cell-cell.ensures.cell
