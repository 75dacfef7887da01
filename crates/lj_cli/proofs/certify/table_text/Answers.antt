use Rattle.std.proofs.Common.{◌≡◌, ◌∙◌, ◌++◌, ℕ, List, ap, sym, subst, subst₂}
use Rattle.lj_base.specs.Cells.{IsCell}
use Rattle.lj_base.specs.Frames.{Top}
use Rattle.lj_cert.specs.Certificates.{IsCert}
use Rattle.lj_cert.specs.Good.{IsGood}
use Rattle.lj_cert.specs.Texts.{IsForestFor, cert_of, cert_text}
use Rattle.lj_cover.specs.Rules.{Upload}
use Rattle.lj_cli.proofs.Certified.{certificate, forest_for}
use Rattle.lj_cli.proofs.certify.table_text.Goals as goal

-- what holds of a frame, uploads and bounds holds of the same ones
of_same : (P : Top → List Upload → List ℕ → Type 0) (f g : Top) (us vs : List Upload) (bs cs : List ℕ) → f ≡ g
    → us ≡ vs → bs ≡ cs → P f us bs → P g vs cs
of_same P f g us vs bs cs p q r h = subst (λ x. P x vs cs) p (subst₂ (λ x y. P f x y) q r h)

pub forests_are_writable-requires-clause-forest : goal.forests_are_writable-requires-clause-forest
forests_are_writable-requires-clause-forest c =
    let t = c.args.table.now in
    let forest = c.in_ok-forest.forest in
    of_same (λ f us bs. IsForestFor f us forest bs) t.arena.frame c.frame-frame.result t.arena.uploads
    c.accepted-uploads.result.now t.bounds c.bounds-bounds.result.now (sym c.frame-frame.ensures.frame)
    (sym c.accepted-uploads.ensures.uploads) (sym c.bounds-bounds.ensures.bounds)
    (forest_for t forest c.in_ok-forest.ensures c.frame-frame.ensures.table)

pub returns : goal.returns
returns c =
    let t = c.args.table.now in
    let forest = c.in_ok-forest.forest in
    let moved : (P : Top → List Upload → List ℕ → Type 0)
    → P c.frame-frame.result c.accepted-uploads.result.now c.bounds-bounds.result.now
    → P t.arena.frame t.arena.uploads t.bounds =
    λ P. of_same P c.frame-frame.result t.arena.frame c.accepted-uploads.result.now t.arena.uploads
    c.bounds-bounds.result.now t.bounds c.frame-frame.ensures.frame c.accepted-uploads.ensures.uploads
    c.bounds-bounds.ensures.bounds in
    certificate c.cells_law.ensures.places c.cells_law.ensures.count t forest c.write_cert.new.out.items
    (moved (λ f us bs. IsCell f.top) c.top_law.ensures) c.requires.checked c.frame-frame.ensures.table c.requires.least
    (moved (λ f us bs. IsCert (cert_text f us forest bs) (cert_of f us forest bs)) c.write_cert.ensures.reads_back)
    (moved (λ f us bs. IsGood (cert_of f us forest bs)) c.written_certificates_are_good.ensures)
    (moved (λ f us bs. c.write_cert.new.out.items ≡ cert_text f us forest bs)
    (c.in_ok-write_cert.ensures.ok
    ∙ ap (λ old. old ++ cert_text c.frame-frame.result c.accepted-uploads.result.now forest c.bounds-bounds.result.now)
    c.new-text.ensures.items))
