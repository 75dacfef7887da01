use Rattle.std.proofs.Common.{◌<◌, ap, arith, get_or, length}
use Rattle.lj_base.proofs.Ascending.{Ascends-get_or_below}
use Rattle.lj_deriv.proofs.CopySteps.{IsCopying-push, copy_inside, copy_valid}
use Rattle.lj_deriv.proofs.copying.Copying.push_next.Goals as goal

pub next_copy-copy-requires-clause-there : goal.next_copy-copy-requires-clause-there
next_copy-copy-requires-clause-there c =
    let inside : c.len.result < length c.args.numbers.now = omega (arith, c.len.ensures.len, c.requires.more) in
    Ascends-get_or_below 0 (length c.args.arena.now.rules) c.args.numbers.now c.len.result
    c.requires.copying.closed.ascends inside

pub next_copy-copy-requires-clause-next : goal.next_copy-copy-requires-clause-next
next_copy-copy-requires-clause-next c = ap (λ m. get_or c.args.numbers.now m 0) c.len.ensures.len

pub add-requires-clause-valid : goal.add-requires-clause-valid
add-requires-clause-valid c =
    copy_valid _ _ _ _ _ _ _ c.requires.copying c.len.ensures.valid c.requires.more c.next_copy-copy.ensures

pub add-requires-clause-inside : goal.add-requires-clause-inside
add-requires-clause-inside c =
    copy_inside _ _ _ _ _ _ _ c.requires.copying c.len.ensures.valid c.requires.more c.next_copy-copy.ensures

pub returns-clause-copying : goal.returns-clause-copying
returns-clause-copying c =
    IsCopying-push _ _ _ _ _ _ _ _ c.requires.copying c.len.ensures.valid c.requires.more c.next_copy-copy.ensures
    c.add.ensures.rules c.add.ensures.same c.add.ensures.spare
