use Rattle.std.proofs.Common.{rules}
use Rattle.std.proofs.lemmas.Fn.{always_returns_same}
use Rattle.lj_cert.proofs.Looking.{found_place, no_place}
use Rattle.lj_cert.specs.Places.{name_cmp, name_of}
use Rattle.lj_cert.specs.declared.places.Entry.{Entry}
use Rattle.lj_cert.proofs.places.place_of.Goals as goal

pub returns-in-Ok : goal.returns-in-Ok
returns-in-Ok c = λ uploads h.
    let name = c.args.client.now in
    let o = c.args.ordinal in
    let e : Entry = c.index-entries-i.result in
    let found = c.in-Ok.ensures.position (λ (d : Entry). name_cmp (name_of d) (name, o))
    (always_returns_same _ _ _ (λ a r q k. search rules)) in
    found_place uploads c.args.entries.now name o c.in-Ok.i e h c.in-Ok.ensures.bound found

pub returns-in-Err : goal.returns-in-Err
returns-in-Err c = λ uploads h.
    let name = c.args.client.now in
    let o = c.args.ordinal in
    no_place uploads c.args.entries.now name o _ h
    (c.in-Err.ensures.position (λ (d : Entry). name_cmp (name_of d) (name, o))
    (always_returns_same _ _ _ (λ a r q k. search rules)))
