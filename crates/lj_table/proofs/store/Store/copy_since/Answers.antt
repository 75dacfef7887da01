use Rattle.std.proofs.Common.{◌≡◌, ◌<◌, ℕ, length, ap, sym, subst, arith, ◌∙◌}
use Rattle.lj_base.specs.Cells.{Triple}
use Rattle.lj_base.specs.Frames.{InFrame, index_of, size_of}
use Rattle.lj_cover.specs.Derivations.{root_cell}
use Rattle.lj_deriv.specs.Nodes.{IsDerivedIn, Nodes, node_tree}
use Rattle.lj_relax.specs.Tickets.{TicketLists}
use Rattle.lj_table.proofs.KnownTickets.{IsUpdated, root_inside, updated_all, updated_next, updated_none}
use Rattle.lj_table.proofs.store.Store.copy_since.Goals as goal

pub loop-node-init : goal.loop-node-init
loop-node-init c =
    let size : size_of c.args.ticket.now.frame ≡ size_of c.args.self.now.arena.frame =
    ap size_of c.requires.known.frame in
    updated_none c.args.self.now.arena.frame c.args.nodes c.args.self.now.bounds.items c.args.self.now.nodes.items
    c.args.ticket.now (sym (ap length c.bounds.ensures.bounds) ∙ c.bounds.ensures.are_bounds.count ∙ size)
    (sym (ap length c.nodes.ensures.nodes) ∙ c.nodes.ensures.count ∙ size)

inside : (a : Nodes) (node : ℕ) (d : Triple) → IsDerivedIn a.frame a.uploads (node_tree a node)
    → d ≡ root_cell (node_tree a node) → InFrame a.frame d
inside a node d h e = subst (InFrame a.frame) (sym e) (root_inside a.frame (node_tree a node) h.inside)

pub store-requires-clause-inside : goal.store-requires-clause-inside
store-requires-clause-inside c =
    subst (λ f. InFrame f c.cell-c.result)
    (sym (ap (λ (q : TicketLists). q.frame) c.loop-node.invariant.ticket ∙ c.requires.known.frame))
    (inside c.args.self.now.arena c.loop-node.node c.cell-c.result (c.nodes_derive.ensures c.loop-node.node
    (omega arith)) c.cell-c.ensures)

pub loop-node-preserved : goal.loop-node-preserved
loop-node-preserved c =
    updated_next c.args.self.now.arena c.args.nodes c.loop-node.node c.args.self.now.bounds.items
    c.args.self.now.nodes.items c.args.ticket.now c.loop-node.ticket c.store.new.self c.cell-c.result c.bound.result
    c.node.result c.requires.table.lists.index c.requires.table.latest
    (ap (λ (q : TicketLists). q.frame) c.loop-node.invariant.ticket ∙ c.requires.known.frame)
    (inside c.args.self.now.arena c.loop-node.node c.cell-c.result (c.nodes_derive.ensures c.loop-node.node
    (omega arith)) c.cell-c.ensures)
    c.cell-c.ensures c.bound.ensures c.node.ensures c.store.ensures c.loop-node.invariant

pub returns : goal.returns
returns c =
    let last : c.loop-node.node ≡ length c.args.self.now.arena.rules = omega arith in
    updated_all c.args.self.now.arena c.args.nodes c.args.self.now.bounds.items c.args.self.now.nodes.items
    c.args.ticket.now c.loop-node.ticket c.requires.known.frame c.requires.known.few c.requires.known.latest
    c.requires.table.latest
    (subst (λ f. (j : ℕ) → j < size_of f → (d : Triple) × InFrame f d × (index_of f d ≡ j)) c.frame.ensures
    c.places_law.ensures)
    c.requires.table.lists.bounds c.requires.table.lists.nodes
    (subst (λ j. IsUpdated c.args.self.now.arena.frame c.args.nodes j c.args.self.now.bounds.items
    c.args.self.now.nodes.items c.args.ticket.now c.loop-node.ticket) last c.loop-node.invariant)
