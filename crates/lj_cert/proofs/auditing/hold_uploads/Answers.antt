use Rattle.std.proofs.Common.{rules, ◌≡◌, List, [], ◌∷◌, length, arith, sym, ap, ◌∙◌, map-id, subst}
use Rattle.std.proofs.lemmas.Iterator.Adapters.{YieldsList-from_vec}
use Rattle.std.proofs.lemmas.Iterator.Consumers.{YieldsList-end, YieldsList-so_far, YieldsList-turn}
use Rattle.std.proofs.lemmas.List.{length-append}
use Rattle.std.proofs.lemmas.Result.{err_from_is_err_and}
use Rattle.std.specs.List.{AllByRecursion}
use Rattle.lj_base.specs.Frames.{InFrame}
use Rattle.lj_base.proofs.Lists.{AllByRecursion-at, AllByRecursion-push}
use Rattle.lj_cover.specs.Rules.{Upload}
use Rattle.lj_deriv.specs.Nodes.{Nodes}
use Rattle.lj_cert.specs.Good.{IsChecked}
use Rattle.lj_cert.proofs.Keeping.{arena_more, cut_here, uploads_no}
use Rattle.lj_cert.proofs.auditing.hold_uploads.Goals as goal

pub hold_upload-requires-clause-inside : goal.hold_upload-requires-clause-inside
hold_upload-requires-clause-inside g c =
    let u = c.in-Some.upload in
    let turn = YieldsList-turn (YieldsList-from_vec c.args.uploads.items (search rules) (search rules))
    c.loop-upload.yielded _ c.loop-upload.yielded_by _ c.next.new.self u c.in-Some.is c.next.ensures.steps in
    let here : InFrame c.args.frame u.cell = subst (λ (w : Upload). InFrame c.args.frame w.cell) (sym turn.1)
    (AllByRecursion-at (λ (w : Upload). InFrame c.args.frame w.cell) u c.args.uploads.items
    (length c.loop-upload.yielded) turn.0 c.requires.inside) in
    λ lifetimes lives. subst (λ (a : Nodes). InFrame a.frame u.cell) (sym c.loop-upload.invariant.arena) here

pub hold_upload-requires-clause-few : goal.hold_upload-requires-clause-few
hold_upload-requires-clause-few g c =
    let turn = YieldsList-turn (YieldsList-from_vec c.args.uploads.items (search rules) (search rules))
    c.loop-upload.yielded _ c.loop-upload.yielded_by _ c.next.new.self c.in-Some.upload c.in-Some.is
    c.next.ensures.steps in
    let held = ap (λ (a : Nodes). length a.uploads) c.loop-upload.invariant.arena in
    omega (arith, turn.0, held, c.requires.few)

pub returns-in_err-hold_upload-clause-refused : goal.returns-in_err-hold_upload-clause-refused
returns-in_err-hold_upload-clause-refused g c =
    let e = YieldsList-from_vec c.args.uploads.items (search rules) (search rules) in
    let done = c.loop-upload.yielded in
    let turn = YieldsList-turn e done _ c.loop-upload.yielded_by _ c.next.new.self c.in-Some.upload c.in-Some.is
    c.next.ensures.steps in
    let so_far = YieldsList-so_far e done _ c.loop-upload.yielded_by in
    let p = err_from_is_err_and c.from_residual.result c.from_residual.ensures.1 in
    rw (p.1, p.2) (uploads_no c.args.uploads.items done _ c.in-Some.upload c.loop-upload.place _
    (cut_here c.args.uploads.items done c.in-Some.upload so_far turn.0 turn.1) c.loop-upload.invariant.place
    c.loop-upload.invariant.checked c.in_err-hold_upload.ensures.refused)

pub loop-upload-preserved : goal.loop-upload-preserved
loop-upload-preserved g c =
    let u = c.in-Some.upload in
    let done = c.loop-upload.yielded in
    record {
      can = tt;
      finite = tt;
      arena = arena_more c.args.frame c.loop-upload.arena _ done u c.in_ok-hold_upload.ensures.held
          c.loop-upload.invariant.arena;
      checked = AllByRecursion-push IsChecked done u c.loop-upload.invariant.checked
          c.in_ok-hold_upload.ensures.checked;
      place = omega (arith, c.loop-upload.invariant.place, length-append done (u ∷ []));
    }

pub returns-clause-arena : goal.returns-clause-arena
returns-clause-arena g c =
    let all = YieldsList-end (YieldsList-from_vec c.args.uploads.items (search rules) (search rules))
    c.loop-upload.yielded c.loop-upload.upload-iterator c.loop-upload.yielded_by _ c.next.new.self c.in-None.is
    c.next.ensures.steps in
    let done : c.loop-upload.yielded ≡ c.args.uploads.items = sym (map-id _) ∙ all.0 in
    let whole : List Upload → Nodes = λ us. record { frame = c.args.frame; uploads = us; rules = []; spare = 0 } in
    c.loop-upload.invariant.arena ∙ ap whole done

pub returns-clause-checked : goal.returns-clause-checked
returns-clause-checked g c =
    let all = YieldsList-end (YieldsList-from_vec c.args.uploads.items (search rules) (search rules))
    c.loop-upload.yielded c.loop-upload.upload-iterator c.loop-upload.yielded_by _ c.next.new.self c.in-None.is
    c.next.ensures.steps in
    let done : c.loop-upload.yielded ≡ c.args.uploads.items = sym (map-id _) ∙ all.0 in
    subst (AllByRecursion IsChecked) done c.loop-upload.invariant.checked
