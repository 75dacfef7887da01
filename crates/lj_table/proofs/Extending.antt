-- Arenas to which nodes were added.
use Rattle.std.proofs.Common.{◌≡◌, ℕ, ◌≤◌, List, length, refl, sym, ap, ◌∙◌, subst, subst₂, arith, le_trans}
use Rattle.lj_base.specs.Bounds.{at_cell}
use Rattle.lj_base.specs.Cells.{Triple}
use Rattle.lj_base.specs.Frames.{Top}
use Rattle.lj_cover.specs.Derivations.{root_cell, tree_cost}
use Rattle.lj_deriv.specs.Nodes.{Nodes}
use Rattle.lj_relax.specs.Tickets.{TicketLists}
use Rattle.lj_table.specs.Claiming.{IsClaimed}
use Rattle.lj_table.specs.Tables.{AreLatest, Contents, Extends, IsLatest, IsOfFirst, IsTable}
use Rattle.lj_table.specs.declared.outcomes.Claimed.{Claimed}
use Rattle.lj_table.specs.declared.outcomes.Claimed.TheVariants.{Cell, NoneOpen}

pub extends_none : (a : Nodes) → Extends a a
extends_none a = record { frame = refl; more = omega arith; trees = λ j low. refl }

pub extends_both : (a b c : Nodes) → Extends a b → Extends b c → Extends a c
extends_both a b c g h = record {
  frame = h.frame ∙ g.frame;
  more = le_trans g.more h.more;
  trees = λ j low. h.trees j (omega (arith, low, g.more)) ∙ g.trees j low;
}

-- room for more nodes changes nothing else
pub extends_spare : (a a2 : Nodes) → a2 ≡ record a { spare = a2.spare } → Extends a a2
extends_spare a a2 e = subst (Extends a) (sym e)
    (record { frame = refl; more = omega arith; trees = λ j low. refl })

-- what holds of the first nodes still holds
pub latest_kept : (a b : Nodes) (n : ℕ) (c : Triple) (i bound : ℕ) → Extends a b → n ≤ length a.rules
    → IsLatest a n c i bound → IsLatest b n c i bound
latest_kept a b n c i bound g few h = record {
  before = h.before;
  node = record {
    there = omega (arith, h.node.there, g.more);
    cell = ap root_cell (g.trees i h.node.there) ∙ h.node.cell;
    cost = ap tree_cost (g.trees i h.node.there) ∙ h.node.cost;
  };
  last = λ j late low e. h.last j late low (sym (ap root_cell (g.trees j (omega (arith, low, few)))) ∙ e);
}

-- where no node was added, the last nodes are the same
pub still_latest : (a b : Nodes) (nodes bounds : List ℕ) → Extends a b → length b.rules ≡ length a.rules
    → AreLatest a.frame a (length a.rules) nodes bounds → AreLatest b.frame b (length b.rules) nodes bounds
still_latest a b nodes bounds g same h =
    let kept : AreLatest a.frame b (length a.rules) nodes bounds =
    λ c at. latest_kept a b (length a.rules) c (at_cell a.frame nodes c) (at_cell a.frame bounds c) g (omega arith)
    (h c at) in
    subst (λ (f : Top). AreLatest f b (length b.rules) nodes bounds) (sym g.frame)
    (subst (λ n. AreLatest a.frame b n nodes bounds) (sym same) kept)

-- a ticket with a table's lists has those of all its nodes
pub first_of_table : (t : Contents) (q : TicketLists) → IsTable t → q.frame ≡ t.arena.frame → q.bounds ≡ t.bounds
    → q.nodes ≡ t.nodes → IsOfFirst t.arena (length t.arena.rules) q
first_of_table t q table frame bounds nodes = record {
  frame = frame;
  few = omega arith;
  latest = subst (λ (f : Top). AreLatest f t.arena (length t.arena.rules) q.nodes q.bounds) (sym frame)
      (subst₂ (AreLatest t.arena.frame t.arena (length t.arena.rules)) (sym nodes) (sym bounds) table.latest);
}

pub first_of_claim : (t : Contents) (q : TicketLists) (r : Claimed) (n : Contents) (q2 : TicketLists) → IsTable t
    → q.frame ≡ t.arena.frame → q.bounds ≡ t.bounds → q.nodes ≡ t.nodes → IsClaimed t q r n q2
    → IsOfFirst n.arena (length n.arena.rules) q2
first_of_claim t q (Cell c) n q2 table frame bounds nodes k =
    subst (λ (x : Contents). IsOfFirst x.arena (length x.arena.rules) q2) (sym k.table)
    (first_of_table t q2 table (ap (λ (x : TicketLists). x.frame) k.ticket ∙ frame)
    (ap (λ (x : TicketLists). x.bounds) k.ticket) (ap (λ (x : TicketLists). x.nodes) k.ticket))
first_of_claim t q NoneOpen n q2 table frame bounds nodes k =
    subst (λ (x : Contents). IsOfFirst x.arena (length x.arena.rules) q2) (sym k.table)
    (subst (IsOfFirst t.arena (length t.arena.rules)) (sym k.ticket) (first_of_table t q table frame bounds nodes))
