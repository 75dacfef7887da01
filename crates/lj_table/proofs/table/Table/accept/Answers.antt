use Rattle.std.proofs.Common.{sym, ap, subst}
use Rattle.lj_base.specs.Frames.{InFrame}
use Rattle.lj_cover.specs.Rules.{Upload}
use Rattle.lj_deriv.specs.Nodes.{Nodes}
use Rattle.lj_relax.specs.Steps.{Accepts}
use Rattle.lj_table.specs.Accepting.{IsTakenIn}
use Rattle.lj_table.specs.Settling.{IsWhole}
use Rattle.lj_table.specs.Tables.{Contents, Extends, Fits, contents_of, state_of}
use Rattle.lj_table.proofs.Acceptances.{IsPushed, accept_is, accepted_table, extends_after, fits_pushed, known_after}
use Rattle.lj_table.proofs.Acceptances.{last_is, pushed_by, spare_alone, table_spare}
use Rattle.lj_table.proofs.Rested.{rested_spare}
use Rattle.lj_table.proofs.table.Table.accept.Goals as goal

pub invariant_of-self-in_err-u : goal.invariant_of-self-in_err-u
invariant_of-self-in_err-u c =
    let t : Contents = contents_of c.self.inside.store in
    let spare = spare_alone c.self.inside.store.arena c.reserve.new.self _ c.in_ok-reserve.ensures.ok in
    subst (λ (a : Nodes). IsWhole (record t { arena = a }) c.self.inside.rest) (sym c.in_err-u.ensures.err)
    (record {
      table = table_spare t c.reserve.new.self spare c.self.invariant.table;
      known = rested_spare c.self.inside.store.arena c.reserve.new.self c.self.inside.store.bounds.items
          c.self.inside.rest spare c.self.invariant.known;
    })

pushed : (c : goal.After-take_in) → IsPushed c.self.inside.store.arena c.args.up c.push_upload.new.self
pushed c =
    pushed_by c.self.inside.store.arena c.reserve.new.self c.push_upload.new.self c.args.up
    (spare_alone c.self.inside.store.arena c.reserve.new.self _ c.in_ok-reserve.ensures.ok)
    c.in_ok-u.ensures.ok c.in_ok-u.ensures.trees

before : goal.After-take_in → Contents
before c = record {
  arena = c.push_upload.new.self;
  bounds = c.self.inside.store.bounds.items;
  nodes = c.self.inside.store.nodes.items;
  closed = c.self.inside.store.closed;
  busy = c.self.inside.store.busy;
}

taken : (c : goal.After-take_in) → IsTakenIn c.args.up (before c) (contents_of c.take_in.new.self)
unfolding before
taken c =
    subst (λ (w : Upload). IsTakenIn w (before c) (contents_of c.take_in.new.self))
    (last_is c.reserve.new.self.uploads c.push_upload.new.self.uploads c.args.up c.in_ok-u.u
    (ap (λ (x : Nodes). x.uploads) c.in_ok-u.ensures.ok) c.in_ok-u.ensures.place) c.take_in.ensures

inside : (c : goal.After-take_in) → InFrame c.self.inside.store.arena.frame c.args.up.cell
inside c = subst (λ (x : Contents). InFrame x.arena.frame c.args.up.cell) (sym c.self.view_is) c.requires.inside

pub invariant_of-self-2 : goal.invariant_of-self-2
unfolding before
invariant_of-self-2 c =
    let t : Contents = contents_of c.self.inside.store in
    let n : Contents = contents_of c.take_in.new.self in
    record {
      table = accepted_table t n c.push_upload.new.self c.args.up c.self.invariant.table (pushed c) (taken c)
          c.accept_keeps_good.ensures c.design.ensures.accepted.covering (inside c);
      known = known_after t n c.push_upload.new.self c.args.up c.self.invariant.table (pushed c) (taken c)
          c.self.inside.rest c.self.invariant.known;
    }

pub returns-clause-step : goal.returns-clause-step
unfolding before
returns-clause-step c =
    subst (λ (x : Contents). Accepts (state_of x) c.args.up (state_of (contents_of c.take_in.new.self))) c.self.view_is
    (accept_is (contents_of c.self.inside.store) (contents_of c.take_in.new.self) c.push_upload.new.self c.args.up
    c.self.invariant.table (pushed c) (taken c))

pub returns-clause-fits : goal.returns-clause-fits
returns-clause-fits c q h =
    c.take_in.ensures.fits q (fits_pushed c.self.inside.store.arena c.push_upload.new.self c.args.up q (pushed c)
    (subst (λ (x : Contents). Fits x.arena q) (sym c.self.view_is) h))

pub returns-clause-extends : goal.returns-clause-extends
unfolding before
returns-clause-extends c =
    subst (λ (x : Contents). Extends x.arena c.take_in.new.self.arena) c.self.view_is
    (extends_after (contents_of c.self.inside.store) (contents_of c.take_in.new.self) c.push_upload.new.self c.args.up
    c.self.invariant.table (pushed c) (taken c))
