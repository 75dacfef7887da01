use Rattle.std.proofs.Common.{◌≡◌, ◌∙◌, ◌≤◌, [], length, sym, ap, refl, subst}
use Rattle.lj_cover.specs.Designs.{Covering}
use Rattle.lj_cover.specs.Rules.{Leaf, Upload, rule_cost}
use Rattle.lj_deriv.specs.Nodes.{upload_at}
use Rattle.lj_table.specs.Tables.{contents_of}
use Rattle.lj_table.proofs.Offering.{leaf_all, stage_of}
use Rattle.lj_table.proofs.store.Store.offer_leaf.Goals as goal

pub returns : goal.returns
returns c =
    let u : Upload = upload_at c.args.self.now.arena.uploads c.args.u in
    let design = c.design-design.ensures.design in
    let here : c.cell-c.result ≡ (upload_at c.args.self.now.arena.uploads c.args.u).cell =
    c.cell-c.ensures ∙ ap (λ (d : Covering). d.cell) design ∙ ap (λ (w : Upload). w.cell) c.upload.ensures in
    let blocks : c.blocks-2.result.now ≡ (upload_at c.args.self.now.arena.uploads c.args.u).blocks =
    c.blocks-2.ensures.blocks ∙ ap (λ (d : Covering). d.blocks) design ∙ ap
    (λ (w : Upload). w.blocks) c.upload.ensures in
    stage_of (contents_of c.args.self.now) (contents_of c.offer.new.self) u 0 1 c.cell-c.result
    (length c.blocks-2.result.now)
    (Leaf u) refl (record { names = refl; cell_is = sym here; condition = tt }) (ap length (sym blocks))
    (λ d q is e. let p = leaf_all u d q is e in
    (p.0 ∙ sym here, subst (λ m. m ≤ rule_cost q []) (ap length (sym blocks)) p.1)) c.offer.ensures
