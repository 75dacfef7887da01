use Rattle.std.proofs.Common.{◌≡◌, ◌⊎◌, ◌<◌, ◌≤◌, ◌+◌, ap, arith, inl, inr, subst, ⊎_elim}
use Rattle.std.proofs.lemmas.Bool.{cases_eq}
use Rattle.lj_base.specs.Cells.{Triple}
use Rattle.lj_table.specs.Opening.{IsOpened}
use Rattle.lj_table.proofs.Openings.{opened_as, opened_both, opened_none}
use Rattle.lj_table.proofs.readers.open_served.Goals as goal

pub loop-v-init : goal.loop-v-init
loop-v-init c =
    opened_none c.args.frame (λ (d : Triple). (d.t ≡ c.args.c.t) × (d.v < 1)) c.args.closed.now c.args.busy.now
    (λ d i p. omega (arith, i.cell.0, p.1))

pub loop-v-preserved : goal.loop-v-preserved
loop-v-preserved c =
    opened_as c.args.frame
    (λ (d : Triple). ((d.t ≡ c.args.c.t) × (d.v < c.loop-v.v)) ⊎ ((d.v ≡ c.loop-v.v) × (d.t ≡ c.args.c.t)))
    (λ (d : Triple). (d.t ≡ c.args.c.t) × (d.v < c.loop-v.v + 1))
    c.args.closed.now c.args.busy.now c.open_row.new.closed c.open_row.new.busy
    (λ d i. (
      λ q. ⊎_elim (λ p. (p.0, omega (arith, p.1))) (λ p. (p.1, omega (arith, p.0))) q,
      λ p. ⊎_elim (λ same. inr (same, p.0)) (λ other. inl (p.0, omega (arith, p.1, other))) (cases_eq d.v c.loop-v.v),
    ))
    (opened_both c.args.frame (λ (d : Triple). (d.t ≡ c.args.c.t) × (d.v < c.loop-v.v))
    (λ (d : Triple). (d.v ≡ c.loop-v.v) × (d.t ≡ c.args.c.t)) c.args.closed.now c.args.busy.now
    c.loop-v.closed c.loop-v.busy c.open_row.new.closed c.open_row.new.busy c.loop-v.invariant
    (subst (λ t. IsOpened c.args.frame (λ (d : Triple). (d.v ≡ c.loop-v.v) × (d.t ≡ t)) c.loop-v.closed c.loop-v.busy
    c.open_row.new.closed c.open_row.new.busy) (ap (λ (x : Triple). x.t) c.c.view_is) c.open_row.ensures))

pub returns : goal.returns
returns c =
    opened_as c.args.frame (λ (d : Triple). (d.t ≡ c.args.c.t) × (d.v < c.loop-v.v))
    (λ (d : Triple). (d.t ≡ c.args.c.t) × (d.v ≤ c.args.c.v))
    c.args.closed.now c.args.busy.now c.loop-v.closed c.loop-v.busy
    (λ d i. (
      λ p. (
        p.0,
        omega (
          arith,
          p.1,
          c.loop-v.auto.v-end,
          c.loop-v-test.false,
          ap
              (λ (t : Triple). t.v) c.c.view_is,
        ),
      ),
      λ p.
          (p.0, omega (arith, p.1, c.loop-v.auto.v-end, c.loop-v-test.false, ap (λ (t : Triple). t.v) c.c.view_is)),
    ))
    c.loop-v.invariant
