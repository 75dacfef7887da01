use Rattle.std.proofs.Common.{rules, length, sym, ap, subst, arith}
use Rattle.lj_base.specs.Bounds.{AreBounds}
use Rattle.lj_relax.proofs.AllSets.{sets_are_bounds}
use Rattle.lj_relax.proofs.tickets.Ticket.new.Goals as goal

pub invariant_of-result : goal.invariant_of-result
invariant_of-result c =
    let frame = c.args.frame in
    let first = c.first_cell.ensures in
    let none = ap length c.new.ensures.items in (
      record {
        inside = first.inside;
        bounds = subst (AreBounds frame) (sym c.in_ok-bounds.ensures)
            (sets_are_bounds c.cells_law.ensures.places c.cells_law.ensures.count c.choose_law.ensures.some frame
            first.limits);
        nodes = search rules;
        rows = λ k d below. absurd (omega (arith, none, below));
        held = omega (arith, none);
      },
      omega arith,
    )
