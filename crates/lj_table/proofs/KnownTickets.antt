-- Tickets whose lists are those that the table had when it had made so many nodes.
use Rattle.std.proofs.Common.{◌≡◌, ◌≢◌, ◌⊎◌, ℕ, ◌+◌, ◌<◌, ◌≤◌, List, length, get_or, refl, sym, ap, ◌∙◌, subst}
use Rattle.std.proofs.Common.{arith, inl, inr, ⊎_elim}
use Rattle.std.proofs.Math.ListN.{set}
use Rattle.std.proofs.lemmas.Bool.{cases_eq, cases_lt, cases_order}
use Rattle.std.proofs.lemmas.Grind.{same_number_lists}
use Rattle.std.proofs.lemmas.List.{length-set}
use Rattle.lj_base.specs.Bounds.{at_cell}
use Rattle.lj_base.specs.Cells.{Triple}
use Rattle.lj_base.specs.Frames.{InFrame, Top, index_of, size_of}
use Rattle.lj_cover.specs.Derivations.{IsIn, Tree, node, root_cell, tree_cost}
use Rattle.lj_cover.specs.Instances.{Reads}
use Rattle.lj_deriv.specs.Nodes.{Nodes, node_tree}
use Rattle.lj_relax.specs.Tickets.{TicketLists}
use Rattle.lj_table.specs.Tables.{AreLatest, IsIndexed, IsLatest}
use Rattle.lj_table.proofs.ByCell.{at_cell-other, at_cell-same, cell_cases}

pub root_inside : (f : Top) (d : Tree) → IsIn f d → InFrame f (root_cell d)
root_inside f (node r ds) h = h.0

-- a cell whose last node is one of the first ones had the same node and the same bound then
pub record IsSameNode (i j m n : ℕ) : Type 0 where
  pub node : i ≡ j
  pub bound : m ≡ n

pub same_node : (a : Nodes) (known len : ℕ) (c : Triple) (i j m n : ℕ) → known ≤ len → IsLatest a known c i m
    → IsLatest a len c j n → j < known → IsSameNode i j m n
same_node a known len c i j m n few h k first =
    ⊎_elim
    (λ e. record {
      node = e;
      bound = sym h.node.cost ∙ subst (λ x. tree_cost (node_tree a x) ≡ n) (sym e) k.node.cost;
    })
    (λ other. absurd (⊎_elim (λ low. h.last j low first k.node.cell)
    (λ high. k.last i high (omega (arith, h.before, few)) h.node.cell) other))
    (cases_order i j)

-- two lists with the same number for each cell
pub same_numbers : (f : Top) → ((j : ℕ) → j < size_of f → (c : Triple) × InFrame f c × (index_of f c ≡ j))
    → (xs ys : List ℕ) → length xs ≡ size_of f → length ys ≡ size_of f
    → ((c : Triple) → InFrame f c → at_cell f xs c ≡ at_cell f ys c) → xs ≡ ys
same_numbers f places xs ys p q same =
    same_number_lists xs ys (p ∙ sym q)
    (λ k inside. let at = places k (omega (arith, inside, p)) in
    subst (λ i. get_or xs i 0 ≡ get_or ys i 0) at.2 (same at.0 at.1))

-- the lists have the same bound and the same node of the cell
pub record IsSameEntry (f : Top) (bounds nodes bounds2 nodes2 : List ℕ) (c : Triple) : Type 0 where
  pub bound : at_cell f bounds2 c ≡ at_cell f bounds c
  pub node : at_cell f nodes2 c ≡ at_cell f nodes c

-- the ticket q after the nodes from the known ones up to j: of each cell it has what the table has, or what it had
-- before, and then the table's node of the cell is none of these
pub record IsUpdated (f : Top) (known j : ℕ) (bounds nodes : List ℕ) (q r : TicketLists) : Type 0 where
  pub ticket : r ≡ record q { bounds = r.bounds; nodes = r.nodes }
  pub bounds_len : length r.bounds ≡ size_of f
  pub nodes_len : length r.nodes ≡ size_of f
  pub each : (c : Triple) → InFrame f c → IsSameEntry f bounds nodes r.bounds r.nodes c
      ⊎ (IsSameEntry f q.bounds q.nodes r.bounds r.nodes c × (known ≤ at_cell f nodes c → j ≤ at_cell f nodes c))

pub updated_none : (f : Top) (known : ℕ) (bounds nodes : List ℕ) (q : TicketLists) → length q.bounds ≡ size_of f
    → length q.nodes ≡ size_of f → IsUpdated f known known bounds nodes q q
updated_none f known bounds nodes q p s = record {
  ticket = refl;
  bounds_len = p;
  nodes_len = s;
  each = λ c at. inr (record { bound = refl; node = refl }, λ h. h);
}

module _ (a : Nodes) (known j : ℕ) (bounds nodes : List ℕ) (q r s : TicketLists) (c : Triple) (m n : ℕ)
    (ix : IsIndexed a.frame) (latest : AreLatest a.frame a (length a.rules) nodes bounds)
    (frame : r.frame ≡ a.frame) (inside : InFrame a.frame c) (cell : c ≡ root_cell (node_tree a j))
    (bound : m ≡ at_cell a.frame bounds c) (is_node : n ≡ at_cell a.frame nodes c)
    (stored : s ≡ record r {
      bounds = set r.bounds (index_of r.frame c) m;
      nodes = set r.nodes (index_of r.frame c) n;
    })
    (h : IsUpdated a.frame known j bounds nodes q r)
  where
    bounds_now : s.bounds ≡ set r.bounds (index_of a.frame c) m
    bounds_now = ap (λ (x : TicketLists). x.bounds) stored ∙ ap (λ f. set r.bounds (index_of f c) m) frame

    nodes_now : s.nodes ≡ set r.nodes (index_of a.frame c) n
    nodes_now = ap (λ (x : TicketLists). x.nodes) stored ∙ ap (λ f. set r.nodes (index_of f c) n) frame

    own : IsSameEntry a.frame bounds nodes s.bounds s.nodes c
    own = record {
      bound = ap (λ xs. at_cell a.frame xs c) bounds_now ∙ at_cell-same a.frame ix r.bounds c m inside h.bounds_len
          ∙ bound;
      node = ap (λ xs. at_cell a.frame xs c) nodes_now ∙ at_cell-same a.frame ix r.nodes c n inside h.nodes_len
          ∙ is_node;
    }

    kept : (bounds2 nodes2 : List ℕ) (d : Triple) → InFrame a.frame d → d ≢ c
        → IsSameEntry a.frame bounds2 nodes2 r.bounds r.nodes d
        → IsSameEntry a.frame bounds2 nodes2 s.bounds s.nodes d
    kept bounds2 nodes2 d at other k = record {
      bound = ap (λ xs. at_cell a.frame xs d) bounds_now ∙ at_cell-other a.frame ix r.bounds c d m inside at other
          ∙ k.bound;
      node = ap (λ xs. at_cell a.frame xs d) nodes_now ∙ at_cell-other a.frame ix r.nodes c d n inside at other
          ∙ k.node;
    }

    later : (d : Triple) → InFrame a.frame d → d ≢ c → j ≤ at_cell a.frame nodes d → j + 1 ≤ at_cell a.frame nodes d
    later d at other low =
        ⊎_elim (λ e. absurd (other (sym (latest d at).node.cell
        ∙ ap (λ i. root_cell (node_tree a i)) (sym e) ∙ sym cell)))
        (λ apart. omega (arith, low, apart)) (cases_eq j (at_cell a.frame nodes d))

    pub updated_next : IsUpdated a.frame known (j + 1) bounds nodes q s
    updated_next = record {
      ticket = cc;
      bounds_len = ap length bounds_now ∙ length-set r.bounds (index_of a.frame c) m ∙ h.bounds_len;
      nodes_len = ap length nodes_now ∙ length-set r.nodes (index_of a.frame c) n ∙ h.nodes_len;
      each = λ d at. ⊎_elim
          (λ same. inl (subst (IsSameEntry a.frame bounds nodes s.bounds s.nodes) (sym same) own))
          (λ other. ⊎_elim (λ k. inl (kept bounds nodes d at other k))
          (λ k. inr (kept q.bounds q.nodes d at other k.0, λ old. later d at other (k.1 old)))
          (h.each d at))
          (cell_cases d c);
    }

-- after all nodes the ticket has the table's lists
module _ (a : Nodes) (known : ℕ) (bounds nodes : List ℕ) (q r : TicketLists) (frame : q.frame ≡ a.frame)
    (few : known ≤ length a.rules) (old : AreLatest q.frame a known q.nodes q.bounds)
    (latest : AreLatest a.frame a (length a.rules) nodes bounds)
    (places : (j : ℕ) → j < size_of a.frame → (c : Triple) × InFrame a.frame c × (index_of a.frame c ≡ j))
    (bounds_len : length bounds ≡ size_of a.frame) (nodes_len : length nodes ≡ size_of a.frame)
    (h : IsUpdated a.frame known (length a.rules) bounds nodes q r)
  where
    entry : (c : Triple) → InFrame a.frame c → IsSameEntry a.frame bounds nodes r.bounds r.nodes c
    entry c at =
        ⊎_elim (λ k. k)
        (λ k.
        let first : at_cell a.frame nodes c < known = ⊎_elim (λ low. low)
        (λ high. absurd (omega (arith, k.1 high, (latest c at).before)))
        (cases_lt (at_cell a.frame nodes c) known) in
        let same = same_node a known (length a.rules) c (at_cell a.frame q.nodes c) (at_cell a.frame nodes c)
        (at_cell a.frame q.bounds c) (at_cell a.frame bounds c) few
        (subst (λ f. AreLatest f a known q.nodes q.bounds) frame old c at) (latest c at) first in
        record { bound = k.0.bound ∙ same.bound; node = k.0.node ∙ same.node })
        (h.each c at)

    pub updated_all : r ≡ record q { bounds = bounds; nodes = nodes }
    updated_all =
        let same_bounds = same_numbers a.frame places r.bounds bounds h.bounds_len bounds_len
        (λ c at. (entry c at).bound) in
        let same_nodes = same_numbers a.frame places r.nodes nodes h.nodes_len nodes_len
        (λ c at. (entry c at).node) in
        h.ticket ∙ ap (λ bs. record q { bounds = bs; nodes = r.nodes }) same_bounds
        ∙ ap (λ ns. record q { bounds = bounds; nodes = ns }) same_nodes

-- the ticket has a bound of now where the bounds of the cells of later nodes are those of now
module _ (a : Nodes) (known : ℕ) (bounds nodes : List ℕ) (q : TicketLists) (frame : q.frame ≡ a.frame)
    (few : known ≤ length a.rules) (old : AreLatest q.frame a known q.nodes q.bounds)
    (latest : AreLatest a.frame a (length a.rules) nodes bounds)
  where
    pub same_reads : ((i : ℕ) → known ≤ i → i < length a.rules → Reads a.frame q.cell (root_cell (node_tree a i))
        → at_cell q.frame q.bounds (root_cell (node_tree a i)) ≡ at_cell a.frame bounds (root_cell (node_tree a i)))
        → (d : Triple) → InFrame a.frame d → Reads a.frame q.cell d
        → at_cell q.frame q.bounds d ≡ at_cell a.frame bounds d
    same_reads h d at reads =
        let i = at_cell a.frame nodes d in
        let cell : root_cell (node_tree a (at_cell a.frame nodes d)) ≡ d = (latest d at).node.cell in
        ⊎_elim
        (λ first. (same_node a known (length a.rules) d (at_cell q.frame q.nodes d) i (at_cell q.frame q.bounds d)
        (at_cell a.frame bounds d) few (old d (subst (λ f. InFrame f d) (sym frame) at)) (latest d at) first).bound)
        (λ later. subst (λ e. at_cell q.frame q.bounds e ≡ at_cell a.frame bounds e) cell
        (h i later (latest d at).node.there (subst (Reads a.frame q.cell) (sym cell) reads)))
        (cases_lt i known)
