use Rattle.std.proofs.Common.{◌≡◌, ◌<◌, ◌+◌, arith, ap, inl, inr, ⊎_elim, ◌⊎◌}
use Rattle.std.proofs.lemmas.Bool.{cases_eq}
use Rattle.lj_base.specs.Cells.{Triple}
use Rattle.lj_base.specs.Frames.{InFrame}
use Rattle.lj_cover.specs.Rules.{triple}
use Rattle.lj_table.specs.Tables.{IsIndexed}
use Rattle.lj_table.proofs.ByCell.{same_cell}
use Rattle.lj_table.proofs.Openings.{opened_as, opened_both, opened_none, opened_one}
use Rattle.lj_table.proofs.readers.open_row.Goals as goal

pub loop-k-preserved : goal.loop-k-preserved
loop-k-preserved c =
    let f = c.args.frame in
    let d : Triple = triple c.args.v c.loop-k.k c.args.t in
    let ix : IsIndexed c.args.frame = record {
      below = c.index_law.ensures.below c.args.frame;
      one = c.index_law.ensures.one_to_one c.args.frame;
    } in
    let inside : InFrame c.args.frame (triple c.args.v c.loop-k.k c.args.t) = record {
      cell = (
        c.requires.some,
        omega (arith, c.requires.inside, c.most_k-most.ensures.limits.1),
        c.loop-k.auto.k,
        omega (arith, c.loop-k-test.true, c.most_k-most.ensures.most),
        omega (arith, c.loop-k-test.true, c.most_k-most.ensures.most, c.most_k-most.ensures.limits.4),
        omega (arith, c.requires.within, c.most_k-most.ensures.limits.5),
      );
      v = c.requires.inside;
      k = omega (arith, c.loop-k-test.true, c.most_k-most.ensures.most);
      t = c.requires.within;
    } in
    opened_as f (λ (x : Triple). ((x.v ≡ c.args.v) × (x.t ≡ c.args.t) × (x.k < c.loop-k.k)) ⊎
    (x ≡ triple c.args.v c.loop-k.k c.args.t))
    (λ (x : Triple). (x.v ≡ c.args.v) × (x.t ≡ c.args.t) × (x.k < c.loop-k.k + 1))
    c.args.closed.now c.args.busy.now c.reopen.new.closed c.reopen.new.busy
    (λ x i. (
      λ q. ⊎_elim (λ p. (p.0, p.1, omega (arith, p.2)))
          (λ s. (ap (λ (t : Triple). t.v) s, ap (λ (t : Triple). t.t) s, omega (arith, ap (λ (t : Triple). t.k) s))) q,
      λ p. ⊎_elim (λ same. inr (same_cell x (triple c.args.v c.loop-k.k c.args.t) p.0 same p.1))
          (λ other. inl (p.0, p.1, omega (arith, p.2, other))) (cases_eq x.k c.loop-k.k),
    ))
    (opened_both f _ (λ x. x ≡ triple c.args.v c.loop-k.k c.args.t) c.args.closed.now c.args.busy.now c.loop-k.closed
    c.loop-k.busy
    c.reopen.new.closed c.reopen.new.busy c.loop-k.invariant
    (opened_one f ix d c.index.result c.loop-k.closed c.loop-k.busy c.reopen.new.closed c.reopen.new.busy inside
    c.index.ensures.index c.reopen.ensures))

pub returns : goal.returns
returns c =
    opened_as c.args.frame (λ (d : Triple). (d.v ≡ c.args.v) × (d.t ≡ c.args.t) × (d.k < c.loop-k.k))
    (λ (d : Triple). (d.v ≡ c.args.v) × (d.t ≡ c.args.t))
    c.args.closed.now c.args.busy.now c.loop-k.closed c.loop-k.busy
    (λ d i. (
      λ p. (p.0, p.1),
      λ p. (
        p.0,
        p.1,
        omega
            (arith, p.0, i.k, i.cell.3, c.most_k-most.ensures.most, c.loop-k-test.false),
      ),
    )) c.loop-k.invariant

pub loop-k-init : goal.loop-k-init
loop-k-init c =
    opened_none c.args.frame (λ (d : Triple). (d.v ≡ c.args.v) × (d.t ≡ c.args.t) × (d.k < c.args.t))
    c.args.closed.now c.args.busy.now (λ d i p. omega (arith, i.cell.2, p.1, p.2))
