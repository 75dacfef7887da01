use Rattle.std.proofs.Common.{subst, sym}
use Rattle.lj_table.specs.Tables.{AreLeast, Contents, Extends, Fits, state_of}
use Rattle.lj_table.proofs.Distances.{later_both, later_none, nearer}
use Rattle.lj_table.proofs.Extending.{extends_both}
use Rattle.lj_table.proofs.table.Table.settle.Goals as goal

pub loop-c-init : goal.loop-c-init
loop-c-init c = later_none c.args.self.now

pub loop-c-smaller : goal.loop-c-smaller
loop-c-smaller c = nearer _ _ _ c.in_ok-advance.ensures.turn

pub loop-c-preserved : goal.loop-c-preserved
loop-c-preserved c =
    later_both c.args.self.now c.loop-c.self c.advance.new.self c.loop-c.invariant c.advance.ensures.later

pub returns-clause-least : goal.returns-clause-least
returns-clause-least c =
    subst AreLeast (sym c.keep_rest.ensures)
    (c.rest_is_least.ensures (state_of c.loop-c.self) c.first_open.ensures.table.good
    (c.first_open.ensures.none c.in_default.is))

pub returns-in_err-advance-clause-fits : goal.returns-in_err-advance-clause-fits
returns-in_err-advance-clause-fits c q h = c.advance.ensures.later.fits q (c.loop-c.invariant.fits q h)

pub returns-clause-fits : goal.returns-clause-fits
returns-clause-fits c q h =
    subst (λ (x : Contents). Fits x.arena q) (sym c.keep_rest.ensures) (c.loop-c.invariant.fits q h)

pub returns-in_err-advance-clause-extends : goal.returns-in_err-advance-clause-extends
returns-in_err-advance-clause-extends c =
    extends_both c.args.self.now.arena c.loop-c.self.arena c.advance.new.self.arena c.loop-c.invariant.extends
    c.advance.ensures.later.extends

pub returns-clause-extends : goal.returns-clause-extends
returns-clause-extends c =
    subst (λ (x : Contents). Extends c.args.self.now.arena x.arena) (sym c.keep_rest.ensures)
    c.loop-c.invariant.extends
