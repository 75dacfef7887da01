use Rattle.std.proofs.Common.{◌≡◌, ◌≤◌, ℕ, List, sym, subst}
use Rattle.lj_base.specs.Bounds.{at_cell}
use Rattle.lj_base.specs.Cells.{Triple}
use Rattle.lj_base.specs.Frames.{InFrame}
use Rattle.lj_board.specs.Seen.{AreDerivable, seen_of}
use Rattle.lj_shared.specs.Holding.{IsAllowedTable}
use Rattle.lj_shared.specs.declared.state.State.{State}
use Rattle.lj_table.specs.Tables.{IsTable, state_of}
use Rattle.lj_shared.proofs.Showing.{at_most_each, bounds_derivable}
use Rattle.lj_shared.proofs.held.Held.show_least.Goals as goal

pub lower_all-requires-clause-bounds : goal.lower_all-requires-clause-bounds
lower_all-requires-clause-bounds g c =
    subst (AreDerivable g.J.Setting.frame g.J.Setting.allowed) (sym c.bounds.ensures.bounds)
    (bounds_derivable g.J.Setting.frame g.J.Setting.allowed c.self.inside.state.table c.self.invariant.frame_is
    c.self.invariant.uploads c.bounds.ensures.table)

pub returns-clause-least : goal.returns-clause-least
returns-clause-least g c own among =
    let f = g.J.Setting.frame in
    let t = c.args.self.now.table in
    let allowed = subst (λ (s : State). IsAllowedTable f g.J.Setting.allowed s.table) c.self.view_is c.self.invariant in
    let table = subst (λ (s : State). IsTable s.table) c.self.view_is c.bounds.ensures.table in
    let list = subst (λ (s : State). c.bounds.result.now ≡ s.table.bounds) c.self.view_is c.bounds.ensures.bounds in
    at_most_each f own t c.lower_all.new.self c.derivations_stay_inside.ensures.root allowed.frame_is
    (c.rest_is_least.ensures (state_of t) table.good c.requires.rest)
    (subst (λ (l : List ℕ). (d : Triple) → InFrame f d → seen_of c.lower_all.new.self d ≤ at_cell f l d) list
    c.lower_all.ensures.low) among
