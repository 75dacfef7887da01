use Rattle.std.proofs.Common.{◌≡◌, ◌∙◌, ◌≤◌, ◌-◌, [], sym, ap, arith, refl, subst}
use Rattle.lj_base.specs.Cells.{Triple}
use Rattle.lj_cover.specs.Designs.{Covering}
use Rattle.lj_cover.specs.Rules.{Derived2, Upload, rule_cost, triple}
use Rattle.lj_deriv.specs.Nodes.{upload_at}
use Rattle.lj_upload.specs.Degrees.{IsLeastPair}
use Rattle.lj_table.specs.Tables.{contents_of}
use Rattle.lj_table.proofs.Offering.{pair_of, stage_of}
use Rattle.lj_table.proofs.store.Store.offer_pair.Goals as goal

pub returns : goal.returns
returns c =
    let u : Upload = upload_at c.args.self.now.arena.uploads c.args.u in
    let got = c.least_pair-first.result in
    let cell : c.cell.result ≡ (upload_at c.args.self.now.arena.uploads c.args.u).cell =
    c.cell.ensures ∙ ap (λ (d : Covering). d.cell) c.design.ensures.design ∙ ap
    (λ (w : Upload). w.cell) c.upload-up.ensures in
    let here : c.derived-c.result ≡ triple (u.cell.v - 2) (u.cell.k - 2) (u.cell.t - 2) =
    c.derived-c.ensures ∙ ap (λ (w : Triple). triple (w.v - 2) (w.k - 2) (w.t - 2)) cell in
    let least : IsLeastPair u.cell.v u.blocks c.least_pair-first.result.0 c.least_pair-first.result.1
    c.least_pair-first.result.2 =
    subst (λ (w : Upload). IsLeastPair w.cell.v w.blocks c.least_pair-first.result.0 c.least_pair-first.result.1
    c.least_pair-first.result.2)
    c.upload-up.ensures c.least_pair-first.ensures in
    stage_of (contents_of c.args.self.now) (contents_of c.offer.new.self) u 2 3 c.derived-c.result
    c.least_pair-first.result.2
    (Derived2 u c.least_pair-first.result.0 c.least_pair-first.result.1) refl
    (record { names = refl; cell_is = sym here; condition = (c.requires.t, c.requires.v, least.order, least.inside) })
    (sym least.value)
    (λ d q is e. let p = pair_of u d q is e in (
      p.cell ∙ sym here,
      subst (λ r. c.least_pair-first.result.2 ≤ rule_cost r []) (sym p.is)
          (least.least p.x p.y (omega (arith, p.order, p.inside)) p.order p.inside),
    ))
    c.offer.ensures
