use Rattle.std.proofs.Common.{rules, ◌≡◌, ◌∙◌, sym, ap, subst, ℕ, ◌<◌, ◌⊎◌, ◌↔◌, get_or, length, true, false, replicate}
use Rattle.lj_base.specs.Blocks.{AreBlocks, Covers}
use Rattle.lj_base.specs.Cells.{Triple}
use Rattle.lj_base.specs.Colex.{choose}
use Rattle.lj_verify.specs.Marks.{IsRankIn}
use Rattle.lj_verify.specs.Uncovered.{IsFirstUncovered}
use Rattle.lj_verify.proofs.Whole.{all_marked, first_clear, marks_from_none}
use Rattle.lj_verify.proofs.covering.check.Goals as goal

pub of-requires : goal.of-requires
of-requires g c =
    let cell : Triple = record { v = c.cell.inside.v; k = c.cell.inside.k; t = c.cell.inside.t } in
    let bs = c.args.blocks.items in
    let old = c.in-Ok.map in
    let new = c.mark_map.new.map in
    let clear : old ≡ replicate (choose cell.v cell.t) false = c.in-Ok.ensures ∙ ap
    (λ n. replicate n false) c.binom.ensures.value in
    let marks = marks_from_none bs cell old new clear c.in-Ok-mark_map.ensures.count
    (subst (λ ds. (r : ℕ) → r < length old → (get_or new r false ≡ true) ↔
    ((get_or old r false ≡ true) ⊎ IsRankIn ds cell.t r)) c.deref.ensures.value c.in-Ok-mark_map.ensures.marks) in
    let blocks = subst (λ (d : Triple). AreBlocks d.v d.k bs) (sym c.cell.view_is) c.requires.blocks in
    subst (Covers bs) c.cell.view_is (all_marked c.rank_law.ensures bs cell new c.cell.invariant.1 blocks marks
    (sym c.first_clear.ensures ∙ c.in-None.is))

pub returns-in-Some-clause-refused : goal.returns-in-Some-clause-refused
returns-in-Some-clause-refused g c =
    let cell : Triple = record { v = c.cell.inside.v; k = c.cell.inside.k; t = c.cell.inside.t } in
    let bs = c.args.blocks.items in
    let old = c.in-Ok.map in
    let new = c.mark_map.new.map in
    let clear : old ≡ replicate (choose cell.v cell.t) false = c.in-Ok.ensures ∙ ap
    (λ n. replicate n false) c.binom.ensures.value in
    let marks = marks_from_none bs cell old new clear c.in-Ok-mark_map.ensures.count
    (subst (λ ds. (r : ℕ) → r < length old → (get_or new r false ≡ true) ↔
    ((get_or old r false ≡ true) ⊎ IsRankIn ds cell.t r)) c.deref.ensures.value c.in-Ok-mark_map.ensures.marks) in (
      search rules,
      subst (λ (d : Triple). IsFirstUncovered bs d c.unrank.result) c.cell.view_is
          (first_clear c.rank_law.ensures bs cell new c.in-Some.r c.unrank.result c.cell.invariant.1
          c.order_law.ensures marks
          (sym c.first_clear.ensures ∙ c.in-Some.is) c.unrank.ensures.block c.unrank.ensures.rank),
    )
