-- A table, the history of its bounds, and tickets that are known by it.
use Rattle.std.proofs.Common.{◌≡◌, ℕ, zero, suc, ◌<◌, ◌≤◌, List, [], ◌∷◌, ◌++◌, length, get_or, Some}
use Rattle.std.proofs.Common.{refl, sym, ap, ◌∙◌, subst, subst₂, arith, length-append}
use Rattle.std.specs.Prelude.{slice_get}
use Rattle.std.proofs.lemmas.Option.{slice_get-get_or, slice_get_within}
use Rattle.atomic_table.specs.Seated.{TableId}
use Rattle.lj_base.specs.Bounds.{at_cell}
use Rattle.lj_base.specs.Cells.{Triple}
use Rattle.lj_base.specs.Frames.{Top}
use Rattle.lj_cover.specs.Derivations.{root_cell, tree_cost}
use Rattle.lj_deriv.specs.Nodes.{Nodes}
use Rattle.lj_history.specs.Past.{Past, StartsWith, change}
use Rattle.lj_history.specs.declared.change.Change.{Change}
use Rattle.lj_relax.specs.Tickets.{TicketLists}
use Rattle.lj_table.specs.Tables.{AreLatest, Contents, Extends, IsLatest, IsOfFirst}
use Rattle.lj_shared.specs.Changes.{AreChangesOf, IsAfter, IsChangeOf, IsKnown, IsLastChange}
use Rattle.lj_shared.specs.declared.state.State.{State}

-- a longer list has at each place what its beginning has
at_start : (xs ys : List Change) (i : ℕ) (x : Change) → slice_get xs i ≡ Some x → slice_get (xs ++ ys) i ≡ Some x
at_start [] ys i x h = cc
at_start (y ∷ xs) ys zero x h = h
at_start (y ∷ xs) ys (suc i) x h = at_start xs ys i x h

from_start : (cs earlier : List Change) (i : ℕ) (x : Change) → StartsWith cs earlier → slice_get earlier i ≡ Some x
    → slice_get cs i ≡ Some x
from_start cs earlier i x starts h =
    subst (λ (l : List Change). slice_get l i ≡ Some x) (sym starts.1) (at_start earlier starts.0 i x h)

-- what is the last one of the first changes is so of the first nodes
latest_of_last : (a : Nodes) (cs earlier : List Change) (n : ℕ) (c : Triple) (place bound : ℕ)
    → AreChangesOf a (length a.rules) cs → StartsWith cs earlier → length earlier ≡ n
    → IsLastChange earlier c place bound → IsLatest a n c place bound
latest_of_last a cs earlier n c place bound are starts count last =
    let k : Change = change c bound in
    let within : place < length earlier = slice_get_within earlier place k last.there in
    let at : slice_get cs place ≡ Some k = from_start cs earlier place k starts last.there in
    let is : IsChangeOf a place k = are.each place k at in
    let there : place < length cs = slice_get_within cs place k at in record {
      before = omega (arith, within, count);
      node = record { there = omega (arith, there, are.count); cell = is.cell; cost = is.cost };
      last = λ j late low same.
          let d : Change = get_or earlier j k in
          let here : slice_get earlier j ≡ Some d = slice_get-get_or earlier j k (omega (arith, low, count)) in
          last.last j d late here (sym (are.each j d (from_start cs earlier j d starts here)).cell ∙ same);
    }

few_earlier : (cs earlier : List Change) → StartsWith cs earlier → length earlier ≤ length cs
few_earlier cs earlier starts = omega (arith, ap length starts.1, length-append earlier starts.0)

-- a ticket that has of each cell the last one of the first changes has the lists of so many nodes
pub first_of_known : (a : Nodes) (cs earlier : List Change) (n : ℕ) (q : TicketLists)
    → AreChangesOf a (length a.rules) cs → StartsWith cs earlier → length earlier ≡ n → IsAfter a.frame earlier q
    → IsOfFirst a n q
first_of_known a cs earlier n q are starts count after =
    let latest : AreLatest a.frame a n q.nodes q.bounds =
    λ c inside. latest_of_last a cs earlier n c (at_cell a.frame q.nodes c) (at_cell a.frame q.bounds c) are starts
    count (after.each c inside) in record {
      frame = after.frame_is;
      few = omega (arith, few_earlier cs earlier starts, count, are.count);
      latest = subst (λ (f : Top). AreLatest f a n q.nodes q.bounds) (sym after.frame_is) latest;
    }

last_of_latest : (a : Nodes) (n : ℕ) (cs : List Change) (c : Triple) (place bound : ℕ) → AreChangesOf a n cs
    → IsLatest a n c place bound → IsLastChange cs c place bound
last_of_latest a n cs c place bound are latest =
    let d : Change = get_or cs place (change c bound) in
    let at : slice_get cs place ≡ Some d =
    slice_get-get_or cs place (change c bound) (omega (arith, latest.before, are.count)) in
    let is : IsChangeOf a place d = are.each place d at in
    let same : d ≡ change c bound =
    subst₂ (λ (e : Triple) (m : ℕ). d ≡ change e m) (sym is.cell ∙ latest.node.cell) (sym is.cost ∙ latest.node.cost)
    refl in record {
      there = at ∙ ap (λ (e : Change). Some e) same;
      last = λ j e late here other.
          latest.last j late (omega (arith, slice_get_within cs j e here, are.count))
          ((are.each j e here).cell ∙ other);
    }

-- a ticket with the lists of so many nodes has of each cell the last one of so many changes
pub known_of_first : (a : Nodes) (n : ℕ) (cs : List Change) (q : TicketLists) → AreChangesOf a n cs
    → IsOfFirst a n q → IsAfter a.frame cs q
known_of_first a n cs q are first =
    let latest : AreLatest a.frame a n q.nodes q.bounds =
    subst (λ (f : Top). AreLatest f a n q.nodes q.bounds) first.frame first.latest in record {
      frame_is = first.frame;
      each = λ c inside. last_of_latest a n cs c (at_cell a.frame q.nodes c) (at_cell a.frame q.bounds c) are
          (latest c inside);
    }

-- later nodes change nothing of the earlier ones
pub changes_stay : (a b : Nodes) (n : ℕ) (cs : List Change) → AreChangesOf a n cs → Extends a b → n ≤ length a.rules
    → AreChangesOf b n cs
changes_stay a b n cs are grows few = record {
  count = are.count;
  each = λ node c at.
      let is : IsChangeOf a node c = are.each node c at in
      let low : node < length a.rules = omega (arith, slice_get_within cs node c at, are.count, few) in record {
        cell = ap root_cell (grows.trees node low) ∙ is.cell;
        cost = ap tree_cost (grows.trees node low) ∙ is.cost;
      };
}

pub first_stays : (a b : Nodes) (n : ℕ) (q : TicketLists) → IsOfFirst a n q → Extends a b → IsOfFirst b n q
first_stays a b n q first grows = record {
  frame = first.frame ∙ sym grows.frame;
  few = omega (arith, first.few, grows.more);
  latest = λ c inside.
      let h = first.latest c inside in
      let place : ℕ = at_cell q.frame q.nodes c in record {
        before = h.before;
        node = record {
          there = omega (arith, h.node.there, grows.more);
          cell = ap root_cell (grows.trees place h.node.there) ∙ h.node.cell;
          cost = ap tree_cost (grows.trees place h.node.there) ∙ h.node.cost;
        };
        last = λ j late low same.
            h.last j late low (sym (ap root_cell (grows.trees j (omega (arith, low, first.few)))) ∙ same);
      };
}

pub extends_both : (a b c : Nodes) → Extends a b → Extends b c → Extends a c
extends_both a b c g h = record {
  frame = h.frame ∙ g.frame;
  more = omega (arith, g.more, h.more);
  trees = λ j low. h.trees j (omega (arith, low, g.more)) ∙ g.trees j low;
}

-- room for more nodes changes nothing else
pub extends_spare : (a b : Nodes) → b ≡ record a { spare = b.spare } → Extends a b
extends_spare a b e =
    subst (Extends a) (sym e)
    (record { frame = refl; more = omega arith; trees = λ j low. refl })

pub extends_room : (t r : Contents) → r ≡ record t { arena = record t.arena { spare = r.arena.spare } }
    → Extends t.arena r.arena
extends_room t r e = extends_spare t.arena r.arena (ap (λ (x : Contents). x.arena) e)

-- a ticket with the lists of now is known by the changes of now
pub tied : (frame : Top) (history : TableId) (s : State) (t : Contents) (q : TicketLists) (n : ℕ) (past r : Past)
    → t ≡ s.table → t.arena.frame ≡ frame → past.history ≡ history
    → AreChangesOf s.table.arena (length s.table.arena.rules) past.changes
    → IsOfFirst s.table.arena (length s.table.arena.rules) q → n ≡ length t.arena.rules → r ≡ past
    → IsKnown frame history q n r
tied frame history s t q n past r here framed named are first count same =
    let after : IsAfter s.table.arena.frame past.changes q =
    known_of_first s.table.arena (length s.table.arena.rules) past.changes q are first in record {
      history_is = ap (λ (p : Past). p.history) same ∙ named;
      count = ap (λ (p : Past). length p.changes) same ∙ are.count
          ∙ sym (count ∙ ap (λ (x : Contents). length x.arena.rules) here);
      lists = subst₂ (λ (f : Top) (l : List Change). IsAfter f l q)
          (ap (λ (x : Contents). x.arena.frame) (sym here) ∙ framed) (sym (ap (λ (p : Past). p.changes) same)) after;
    }

-- a ticket that is known has the lists of so many nodes, where its changes begin those of now
pub untied : (frame : Top) (history : TableId) (s : State) (t : Contents) (q : TicketLists) (n : ℕ) (past r : Past)
    → t ≡ s.table → t.arena.frame ≡ frame → AreChangesOf s.table.arena (length s.table.arena.rules) past.changes
    → StartsWith past.changes r.changes → IsKnown frame history q n r → IsOfFirst t.arena n q
untied frame history s t q n past r here framed are starts known =
    subst (λ (x : Contents). IsOfFirst x.arena n q) (sym here)
    (first_of_known s.table.arena past.changes r.changes n q are starts known.count
    (subst (λ (f : Top). IsAfter f r.changes q) (sym framed ∙ ap (λ (x : Contents). x.arena.frame) here) known.lists))

-- the changes so far are those of the nodes that a table had before nodes were added
pub before_more : (s n : State) (was now : Contents) (from : ℕ) (past h : Past) → was ≡ s.table
    → from ≡ length was.arena.rules → now ≡ n.table → h ≡ past → Extends s.table.arena n.table.arena
    → AreChangesOf s.table.arena (length s.table.arena.rules) past.changes → AreChangesOf now.arena from h.changes
before_more s n was now from past h old count new same grows are =
    let k : ℕ = length s.table.arena.rules in
    let stay : AreChangesOf n.table.arena k past.changes =
    changes_stay s.table.arena n.table.arena k past.changes are grows (omega arith) in
    let counted : from ≡ k = count ∙ ap (λ (t : Contents). length t.arena.rules) old in
    subst (λ (p : Past). AreChangesOf now.arena from p.changes) (sym same)
    (subst₂ (λ (t : Contents) (m : ℕ). AreChangesOf t.arena m past.changes) (sym new) (sym counted) stay)
