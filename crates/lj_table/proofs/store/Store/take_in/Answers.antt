use Rattle.std.proofs.Common.{◌≡◌, ◌≤◌, ◌∙◌, ap, subst, subst₂}
use Rattle.lj_base.specs.Cells.{Triple}
use Rattle.lj_base.specs.Frames.{Top}
use Rattle.lj_cover.specs.Designs.{Covering}
use Rattle.lj_cover.specs.Rules.{Upload}
use Rattle.lj_deriv.specs.Nodes.{upload_at}
use Rattle.lj_table.specs.Accepting.{IsStage}
use Rattle.lj_table.specs.Opening.{IsOpened}
use Rattle.lj_table.specs.Tables.{Contents, contents_of}
use Rattle.lj_table.proofs.Offering.{stages_both, taken_in}
use Rattle.lj_table.proofs.store.Store.take_in.Goals as goal

pub returns : goal.returns
returns c =
    let u : Upload = upload_at c.args.self.now.arena.uploads c.args.u in
    let t : Contents = contents_of c.args.self.now in
    let t1 : Contents = contents_of c.offer_leaf.new.self in
    let t2 : Contents = contents_of c.offer_derived.new.self in
    let t3 : Contents = contents_of c.offer_derived_twice.new.self in
    let one : IsStage u 0 1 1 t t1 = c.offer_leaf.ensures in
    let two : IsStage u 1 2 1 t1 t2 = subst (λ us. IsStage (upload_at us c.args.u) 1 2 1 t1 t2) one.fallen.uploads
    c.offer_derived.ensures in
    let both : IsStage u 0 2 2 t t2 = stages_both t t1 t2 u 0 1 2 1 1 one two in
    let three : IsStage u 2 3 1 t2 t3 = subst (λ us. IsStage (upload_at us c.args.u) 2 3 1 t2 t3) both.fallen.uploads
    c.offer_derived_twice.ensures in
    let all : IsStage u 0 3 3 t t3 = stages_both t t2 t3 u 0 2 3 2 1 both three in
    let cell : c.cell-cell.result ≡ u.cell = c.cell-cell.ensures ∙ ap (λ (d : Covering). d.cell) c.design.ensures.design
    ∙ ap (λ (w : Upload). w.cell) c.upload.ensures ∙ ap (λ us. (upload_at us c.args.u).cell) all.fallen.uploads in
    let frame : c.frame.result ≡ c.args.self.now.arena.frame = c.frame.ensures ∙ all.fallen.frame in
    taken_in t t3 u c.open_served.new.closed c.open_served.new.busy all
    (subst₂ (λ (f : Top) (e : Triple). IsOpened f (λ d. (d.t ≡ e.t) × (d.v ≤ e.v)) c.offer_derived_twice.new.self.closed
    c.offer_derived_twice.new.self.busy c.open_served.new.closed c.open_served.new.busy) frame cell
    c.open_served.ensures)
