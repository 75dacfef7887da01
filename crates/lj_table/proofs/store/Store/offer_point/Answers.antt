use Rattle.std.proofs.Common.{◌≡◌, ◌∙◌, ◌≤◌, ◌-◌, [], sym, ap, arith, refl, subst}
use Rattle.lj_base.specs.Cells.{Triple}
use Rattle.lj_cover.specs.Designs.{Covering}
use Rattle.lj_cover.specs.Rules.{Derived, Upload, rule_cost, triple}
use Rattle.lj_deriv.specs.Nodes.{upload_at}
use Rattle.lj_upload.specs.Degrees.{IsLeastDegree}
use Rattle.lj_table.specs.Tables.{contents_of}
use Rattle.lj_table.proofs.Offering.{point_of, stage_of}
use Rattle.lj_table.proofs.store.Store.offer_point.Goals as goal

pub returns : goal.returns
returns c =
    let u : Upload = upload_at c.args.self.now.arena.uploads c.args.u in
    let cell : c.cell.result ≡ (upload_at c.args.self.now.arena.uploads c.args.u).cell =
    c.cell.ensures ∙ ap (λ (d : Covering). d.cell) c.design.ensures.design ∙ ap
    (λ (w : Upload). w.cell) c.upload-up.ensures in
    let here : c.derived-c.result ≡ triple (u.cell.v - 1) (u.cell.k - 1) (u.cell.t - 1) =
    c.derived-c.ensures ∙ ap (λ (w : Triple). triple (w.v - 1) (w.k - 1) (w.t - 1)) cell in
    let least : IsLeastDegree u.cell.v u.blocks c.least-point.result.0 c.least-point.result.1 =
    subst (λ (w : Upload). IsLeastDegree w.cell.v w.blocks c.least-point.result.0 c.least-point.result.1)
    c.upload-up.ensures c.least-point.ensures in
    stage_of (contents_of c.args.self.now) (contents_of c.offer.new.self) u 1 2 c.derived-c.result
    c.least-point.result.1
    (Derived u c.least-point.result.0) refl
    (record { names = refl; cell_is = sym here; condition = (c.requires.t, c.requires.v, least.below) })
    (sym least.value)
    (λ d q is e. let p = point_of u d q is e in (
      p.cell ∙ sym here,
      subst (λ r. c.least-point.result.1 ≤ rule_cost r []) (sym p.is)
          (least.least p.x (omega arith) p.inside),
    ))
    c.offer.ensures
