use Rattle.std.proofs.Common.{rules, ◌≡◌, ◌∙◌, ap, subst}
use Rattle.lj_base.specs.Blocks.{IsBlock}
use Rattle.lj_base.specs.Cells.{Triple}
use Rattle.lj_excess.specs.Multiplicities.{Tally, multiplicities, tally_of}
use Rattle.lj_excess.proofs.Verdicts.{all_counted, first_uncounted}
use Rattle.lj_excess.proofs.checks.check_counted.Goals as goal

pub of-design-requires : goal.of-design-requires
of-design-requires c =
    let cell = c.args.cell in
    let bs = c.args.blocks.items in
    let counts_is : c.in-Ok.counts.counts ≡ multiplicities bs cell =
    ap (λ (s : Tally). s.counts) (c.in-Ok.ensures ∙ ap (λ ds. tally_of ds cell) c.deref.ensures.value) in
    all_counted c.rank_law.ensures c.multiplicity_law.ensures.some bs cell c.in-Ok.counts.counts c.requires.blocks
    counts_is c.in-None.ensures.none

pub returns-in-Some-clause-refused : goal.returns-in-Some-clause-refused
returns-in-Some-clause-refused c =
    let cell = c.args.cell in
    let bs = c.args.blocks.items in
    let counts_is : c.in-Ok.counts.counts ≡ multiplicities bs cell =
    ap (λ (s : Tally). s.counts) (c.in-Ok.ensures ∙ ap (λ ds. tally_of ds cell) c.deref.ensures.value) in
    let set = subst (λ (d : Triple). IsBlock d.v d.t c.unrank.result) c.cell.view_is c.unrank.ensures.block in (
      search rules,
      first_uncounted c.rank_law.ensures c.multiplicity_law.ensures.some c.order_law.ensures bs cell
          c.in-Ok.counts.counts c.in-Some.r c.unrank.result counts_is c.in-Some.ensures.zero c.in-Some.ensures.first
          set c.unrank.ensures.rank,
    )
