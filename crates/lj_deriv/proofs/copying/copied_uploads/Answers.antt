use Rattle.std.proofs.Common.{◌<◌, arith, get_or, length}
use Rattle.lj_base.proofs.Ascending.{Ascends-get_or_below}
use Rattle.lj_deriv.proofs.copying.copied_uploads.Goals as goal

pub bounds-counted-u : goal.bounds-counted-u
bounds-counted-u c =
    let below : get_or c.args.named.now c.loop-u.u-index 0 < length c.args.arena.now.uploads =
    Ascends-get_or_below 0 (length c.args.arena.now.uploads) c.args.named.now c.loop-u.u-index c.requires.named
    c.loop-u-test.true in
    omega (arith, below, c.requires.marks)

pub push_upload-requires-clause-there : goal.push_upload-requires-clause-there
push_upload-requires-clause-there c =
    Ascends-get_or_below 0 (length c.args.arena.now.uploads) c.args.named.now c.loop-u.u-index c.requires.named
    c.loop-u-test.true
