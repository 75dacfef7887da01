use Rattle.std.proofs.Common.{◌≡◌, ◌+◌, get_or, length, ap, ◌∙◌, arith, subst}
use Rattle.std.specs.Option.{MatchOption}
use Rattle.std.proofs.lemmas.List.FromFn.{get_or-map-range_with_len, length-map-range_with_len}
use Rattle.lj_cover.specs.Instances.{cut_counts}
use Rattle.lj_cover.specs.Rules.{Upload}
use Rattle.lj_upload.specs.Uploads.{cut_table}
use Rattle.lj_upload.proofs.accepted.Accepted.row.Goals as goal

pub index-requires : goal.index-requires
index-requires c =
    let a = c.self.inside in
    let same = ap (λ (u : Upload). u.cell.v) c.self.view_is in
    let table : c.in-Some.table.items ≡ cut_table a.design.cell.v a.design.blocks =
    subst (λ o. MatchOption o (Unit {0}) (λ t. t.items ≡ cut_table a.design.cell.v a.design.blocks))
    c.in-Some.is c.self.invariant.2.counts in
    let rows = ap length table in
    let count = length-map-range_with_len (λ w. cut_counts w a.design.blocks) 0 (a.design.cell.v + 1) in
    omega (arith, c.in-Some.table.ok.0)

pub returns-in-Some-clause-counts : goal.returns-in-Some-clause-counts
returns-in-Some-clause-counts c =
    let a = c.self.inside in
    let w = c.args.w in
    let same = ap (λ (u : Upload). u.cell.v) c.self.view_is in
    let row = c.index.result.now in
    let table : c.in-Some.table.items ≡ cut_table a.design.cell.v a.design.blocks =
    subst (λ o. MatchOption o (Unit {0}) (λ t. t.items ≡ cut_table a.design.cell.v a.design.blocks))
    c.in-Some.is c.self.invariant.2.counts in
    c.index.ensures
    ∙ ap (λ t. get_or t w row) table
    ∙ get_or-map-range_with_len (λ w. cut_counts w a.design.blocks) 0 (a.design.cell.v + 1) w w row (omega arith)
    (omega arith)
    ∙ ap (λ (u : Upload). cut_counts w u.blocks) c.self.view_is

pub returns-in-None-clause-counts : goal.returns-in-None-clause-counts
returns-in-None-clause-counts c =
    c.cut_row.ensures ∙ ap (cut_counts c.args.w) c.blocks-in-None.ensures.blocks
    ∙ ap (λ (u : Upload). cut_counts c.args.w u.blocks) c.self.view_is
