use Rattle.std.proofs.Common.{◌∙◌, ◌⊎◌, subst}
use Rattle.lj_cover.specs.Instances.{rows_at}
use Rattle.lj_relax.specs.Steps.{IsLeastPrice, IsPrice}
use Rattle.lj_relax.specs.Tickets.{snapshot}
use Rattle.lj_cert.specs.Lowest.{AreOffered, IsPlainCost}
use Rattle.lj_cert.proofs.LowCells.{RowLaws, least_joined, least_of_price, least_rule_cost}
use Rattle.lj_cert.proofs.lowest.least_cost.Goals as goal

pub returns : goal.returns
returns c =
    let frame = c.args.frame in
    let us = c.args.uploads.now in
    let bounds = c.args.bounds.now in
    let cell = c.args.cell in
    let base = c.lesser-base.ensures in
    let all = c.lesser.ensures in
    let laws : RowLaws = record {
      rows = c.rows_are_of_uploads.ensures.rows;
      by_row = c.price_by_row.ensures.by_row;
      instance = c.induced_has_instances.ensures.instance;
    } in
    let rows = c.deref.ensures.value ∙ c.in_ok-present_rows.ensures.rows in
    let price = least_of_price frame us bounds cell c.least_price-price.result
    (subst (λ rs. IsLeastPrice frame (snapshot frame cell bounds rs) c.least_price-price.result) rows
    c.least_price-price.ensures) in
    let bases = least_joined (IsPlainCost cell) (AreOffered us cell) c.plain_cost.result c.offered_cost.result
    c.lesser-base.result c.plain_cost.ensures c.offered_cost.ensures base.one base.first base.second in
    least_rule_cost laws frame us bounds cell c.lesser.result c.requires.uploads c.requires.inside
    (least_joined (λ n. IsPlainCost cell n ⊎ AreOffered us cell n)
    (IsPrice frame (snapshot frame cell bounds (rows_at us cell)))
    c.lesser-base.result c.least_price-price.result c.lesser.result bases price all.one all.first all.second)
