use Rattle.lj_build.proofs.Permuted.{LeastByMembers, closed_settled}
use Rattle.lj_build.specs.Closing.{HasUploads}
use Rattle.lj_build.specs.Runs.{uploads_of}
use Rattle.lj_build.proofs.closing.close.Goals as goal

pub returns-in_ok-settle-clause-closed : goal.returns-in_ok-settle-clause-closed
returns-in_ok-settle-clause-closed c =
    let members : LeastByMembers = record { least = c.least_is_one.ensures.by_members } in
    let has : HasUploads c.args.frame (uploads_of c.args.ends.now) c.args.table =
    c.in_ok-has_uploads.ensures.0 c.if-branch.true in
    closed_settled members c.args.frame (uploads_of c.args.ends.now) c.args.table c.settle.new.self has
    c.settle.ensures.frame c.settle.ensures.uploads c.frame-count.ensures.table.lists.bounds
    c.in_ok-settle.ensures.rest c.in_ok-settle.ensures.least
