use Rattle.std.proofs.Common.{◌∙◌, ℕ, List, ◌++◌, ap₂}
use Rattle.std.proofs.lemmas.List.{length_push}
use Rattle.std.proofs.lemmas.Slice.Zip.{zip_end, zip_turn}
use Rattle.lj_build.specs.Runs.{client_line}
use Rattle.lj_cli.proofs.Building.{replies_done, replies_more}
use Rattle.lj_cli.proofs.replies.put_replies.Goals as goal

pub loop-name-preserved : goal.loop-name-preserved
loop-name-preserved c =
    let before = c.loop-name.out.items in
    let turn = zip_turn c.args.names.now c.args.ends.now c.loop-name.yielded c.into_iter-name-iterator.result
    c.loop-name.name-iterator c.next.new.self c.next.result
    (cc (c.iter.ensures.rest, c.zip-name-items.ensures.first, c.into_iter-name-iterator.ensures.into_iter_gives))
    (cc (c.zip-name-items.ensures.second.0, c.into_iter-name-iterator.ensures.into_iter_gives)) c.loop-name.yielded_by
    (c.in-Some.name, c.in-Some.end) c.in-Some.is c.next.ensures.steps in
    let put = c.in_ok-put_section.ensures
    ∙ ap₂ (λ (name replies : List ℕ). before ++ (client_line name ++ replies)) c.bytes.ensures.bytes c.items.ensures in
    λ sections are. rw (length_push c.loop-name.yielded (c.in-Some.name, c.in-Some.end))
    (replies_more sections c.args.names.now c.args.ends.now _ c.in-Some.name.now c.in-Some.end.now before
    c.put_section.new.out.items _ are turn.0 turn.1 (turn.2 c.in-Some.name.now) (turn.3 c.in-Some.end.now)
    (c.loop-name.invariant sections are) put)

pub returns : goal.returns
returns c =
    let end = zip_end c.args.names.now c.args.ends.now c.loop-name.yielded c.into_iter-name-iterator.result
    c.loop-name.name-iterator c.next.new.self c.next.result
    (cc (c.iter.ensures.rest, c.zip-name-items.ensures.first, c.into_iter-name-iterator.ensures.into_iter_gives))
    (cc (c.zip-name-items.ensures.second.0, c.into_iter-name-iterator.ensures.into_iter_gives)) c.loop-name.yielded_by
    c.in-None.is c.next.ensures.steps in
    λ sections are. replies_done sections c.args.names.now c.args.ends.now _ c.loop-name.out.items _ are end
    (c.loop-name.invariant sections are)
