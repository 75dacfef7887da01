use Rattle.std.proofs.Common.{◌≡◌, ◌≤◌, ◌∙◌, ℕ, sym, subst}
use Rattle.std.specs.List.{AllByRecursion}
use Rattle.lj_base.specs.Colex.{choose}
use Rattle.lj_base.specs.Frames.{InFrame, Top}
use Rattle.lj_board.specs.Seen.{AreDerivable, seen_of}
use Rattle.lj_table.specs.Tables.{state_of}
use Rattle.lj_shared.proofs.Showing.{bounds_derivable, first_seen}
use Rattle.lj_shared.proofs.shared.Shared.start.Goals as goal

pub start-requires-2-clause-bounds : goal.start-requires-2-clause-bounds
start-requires-2-clause-bounds g c =
    let f = g.J.Setting.frame in
    let t = c.in_ok-table.table in
    let fresh = c.in_ok-table.ensures in
    subst (AreDerivable f g.J.Setting.allowed) (sym c.bounds.ensures.bounds)
    (bounds_derivable f g.J.Setting.allowed t (fresh.frame ∙ c.requires.frame)
    (subst (AllByRecursion g.J.Setting.allowed) (sym fresh.uploads) tt) c.bounds.ensures.table)

pub returns-clause-seen : goal.returns-clause-seen
returns-clause-seen g c d inside =
    let f = g.J.Setting.frame in
    let t = c.in_ok-table.table in
    let fresh = c.in_ok-table.ensures in
    first_seen f t c.in_ok-board.pass c.in_ok-board.board c.bounds.ensures.table (fresh.frame ∙ c.requires.frame)
    c.in_ok-board.ensures.board c.in_ok-board.ensures.frame (c.in_ok-board.ensures.seen ∙ c.bounds.ensures.bounds) d
    inside ∙ fresh.bounds d (subst (λ (e : Top). InFrame e d) (sym c.requires.frame) inside)

pub returns-clause-small : goal.returns-clause-small
returns-clause-small g c d inside =
    let f = g.J.Setting.frame in
    let t = c.in_ok-table.table in
    let fresh = c.in_ok-table.ensures in
    let framed : t.arena.frame ≡ f = fresh.frame ∙ c.requires.frame in
    let seen : seen_of c.in_ok-board.pass d ≡ (state_of t).bounds d =
    first_seen f t c.in_ok-board.pass c.in_ok-board.board c.bounds.ensures.table framed
    c.in_ok-board.ensures.board c.in_ok-board.ensures.frame
    (c.in_ok-board.ensures.seen ∙ c.bounds.ensures.bounds) d inside in
    subst (λ (n : ℕ). n ≤ choose d.v d.t) (sym seen)
    (c.bounds.ensures.table.good.small d (subst (λ (e : Top). InFrame e d) (sym framed) inside))
