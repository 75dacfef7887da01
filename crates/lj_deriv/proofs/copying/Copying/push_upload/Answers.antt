use Rattle.std.proofs.Common.{◌≡◌, ◌∙◌, ap, arith, length, get_or, subst, sym}
use Rattle.std.proofs.lemmas.List.{get_or_default}
use Rattle.lj_base.proofs.Ascending.{length-ascending}
use Rattle.lj_base.proofs.Lists.{AllByRecursion-at}
use Rattle.lj_base.specs.Frames.{InFrame}
use Rattle.lj_cover.specs.Rules.{Upload}
use Rattle.lj_deriv.specs.Nodes.{upload_at}
use Rattle.lj_deriv.proofs.CopySteps.{HasUploads-push}
use Rattle.lj_deriv.proofs.copying.Copying.push_upload.Goals as goal

pub push_upload-requires-clause-inside : goal.push_upload-requires-clause-inside
push_upload-requires-clause-inside c =
    let held = c.args.arena.now.uploads in
    let frame = c.args.arena.now.frame in
    let u = c.args.u in
    let x = c.index-held-u.result in
    let read : x ≡ get_or held u x = c.index-held-u.is ∙ ap (λ us. get_or us u x) c.uploads-held.ensures.uploads in
    let there : InFrame frame (get_or held u x).cell =
    AllByRecursion-at (λ (up : Upload). InFrame frame up.cell) x held u c.requires.there
    c.uploads-held.ensures.inside in
    subst (λ f. InFrame f c.in_ok-copy.copy.cell) (sym c.requires.uploads.frame)
    (subst (λ (up : Upload). InFrame frame up.cell) (sym (c.in_ok-copy.ensures ∙ read)) there)

pub push_upload-requires-clause-few : goal.push_upload-requires-clause-few
push_upload-requires-clause-few c =
    let most = length-ascending 0 (length c.args.arena.now.uploads) c.args.named.now (omega arith) c.requires.ascends in
    omega (arith, most, c.requires.more, c.uploads-held.ensures.few)

pub index_mut-requires : goal.index_mut-requires
index_mut-requires c =
    omega (arith, c.requires.uploads.len, c.requires.there, c.args.self.now.uploads.ok.0)

pub returns-clause-uploads : goal.returns-clause-uploads
returns-clause-uploads c =
    let a = c.args.arena.now in
    let u = c.args.u in
    let x = c.index-held-u.result in
    let read : x ≡ upload_at a.uploads u =
    c.index-held-u.is ∙ ap (λ us. get_or us u x) c.uploads-held.ensures.uploads
    ∙ get_or_default a.uploads u _ _ c.requires.there in
    HasUploads-push a c.args.self.now.plan c.push_upload.new.self c.args.named.now c.args.self.now.uploads.items
    c.in_ok-copy.copy u
    c.in_ok-self.field-0 c.requires.ascends c.requires.more c.requires.next
    (c.in_ok-copy.ensures ∙ read) c.in_ok-self.ensures.place
    c.in_ok-self.ensures.ok c.requires.uploads
