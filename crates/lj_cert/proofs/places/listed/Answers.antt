use Rattle.std.proofs.Common.{◌≡◌, ℕ, ◌+◌, ◌<◌, List, length, arith, sym, ap, ap₂, ◌∙◌, subst}
use Rattle.lj_cover.specs.Rules.{Upload}
use Rattle.lj_deriv.specs.Trees.{upload_at}
use Rattle.lj_cert.proofs.Looking.{entries_more}
use Rattle.lj_cert.proofs.OneRefusal.{within}
use Rattle.lj_cert.specs.Places.{HasEntries, IsEntryOf, name_of, upload_name}
use Rattle.lj_cert.specs.declared.places.Entry.{Entry}
use Rattle.lj_cert.proofs.places.listed.Goals as goal

pub loop-i-preserved : goal.loop-i-preserved
loop-i-preserved c =
    let us = c.args.uploads.now in
    let i = c.loop-i.i in
    let up : Upload = c.index-uploads-i.result in
    let there : i < length us = omega arith in
    let here : upload_at us i ≡ up = within us i _ up there ∙ sym c.index-uploads-i.is in
    let e : Entry = record { client = c.client.result; ordinal = c.ordinal.result; place = i } in
    let client : (upload_at us i).client ≡ e.client =
    ap (λ (u : Upload). u.client) here ∙ sym c.client.ensures in
    let ordinal : (upload_at us i).ordinal ≡ e.ordinal =
    ap (λ (u : Upload). u.ordinal) here ∙ sym c.ordinal.ensures in
    let pair : List ℕ → ℕ → List ℕ × ℕ = λ a b. (a, b) in
    let name : name_of e ≡ upload_name (upload_at us i) = ap₂ pair (sym client) (sym ordinal) in
    let place : IsEntryOf us e = record { there = there; client_is = client; ordinal_is = ordinal } in
    subst (HasEntries us (i + 1)) (sym c.in_ok-push.ensures.items)
    (entries_more us i c.loop-i.entries.items e c.loop-i.invariant place name)
