use Rattle.std.proofs.Common.{◌≡◌, ap, sym, subst, arith, ◌∙◌, refl, ⊎_elim}
use Rattle.std.proofs.lemmas.Bool.{cases_eq}
use Rattle.lj_base.specs.Bounds.{at_cell}
use Rattle.lj_base.specs.Cells.{Triple}
use Rattle.lj_cover.specs.Derivations.{root_cell}
use Rattle.lj_cover.specs.Instances.{Reads}
use Rattle.lj_deriv.specs.Nodes.{node_tree}
use Rattle.lj_table.proofs.ByCell.{apart}
use Rattle.lj_table.proofs.KnownTickets.{same_reads}
use Rattle.lj_table.proofs.store.Store.reads_same_since.Goals as goal

here : (c : goal.Else-reads_other) → Reads c.args.self.now.arena.frame c.args.ticket.now.cell c.cell.result
    → at_cell c.args.ticket.now.frame c.args.ticket.now.bounds c.cell.result
    ≡ at_cell c.args.self.now.arena.frame c.args.self.now.bounds.items c.cell.result
here c reads =
    ⊎_elim (λ e. e)
    (λ other. absurd (apart (sym (c.reads_other.ensures.1 (reads, other)) ∙ c.if-reads_other.false)))
    (cases_eq _ _)

pub loop-node-preserved : goal.loop-node-preserved
loop-node-preserved c i low high =
    ⊎_elim
    (λ e. subst (λ (d : Triple). Reads c.args.self.now.arena.frame c.args.ticket.now.cell d
    → at_cell c.args.ticket.now.frame c.args.ticket.now.bounds d
    ≡ at_cell c.args.self.now.arena.frame c.args.self.now.bounds.items d)
    (c.cell.ensures ∙ ap (λ k. root_cell (node_tree c.args.self.now.arena k)) (sym e)) (here c))
    (λ other. c.loop-node.invariant i low (omega (arith, high, other)))
    (cases_eq i c.loop-node.node)

pub returns : goal.returns
returns c = (
  λ _. same_reads c.args.self.now.arena c.args.nodes c.args.self.now.bounds.items c.args.self.now.nodes.items
      c.args.ticket.now c.requires.known.frame c.requires.known.few c.requires.known.latest c.requires.table.latest
      (λ i low high. c.loop-node.invariant i low (omega (
        arith,
        high,
        c.len-node-end.ensures.len,
        c.loop-node-test.false,
      ))),
  λ _. refl,
)
