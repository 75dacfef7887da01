use Rattle.std.proofs.Common.{◌<◌, ◌++◌, [], ◌∷◌, map, take, length, get_or, arith, sym, ap, ap₂, ◌∙◌}
use Rattle.std.proofs.lemmas.List.{length-set, take_more, take_more_set, map-append}
use Rattle.lj_base.specs.Bounds.{at_cell}
use Rattle.lj_cover.specs.Rules.{Part}
use Rattle.lj_product.specs.declared.choices.PartChoice.{PartChoice}
use Rattle.lj_table.specs.RulesOver.{IsServed, part_node}
use Rattle.lj_table.proofs.PartPlaces.{at_place}
use Rattle.lj_table.proofs.rules.of_parts.Goals as goal

read_served : (c : goal.After-of_part-arg-1) → IsServed c.args.frame c.args.cell c.args.choice.now.v1
    (let p : PartChoice = get_or c.args.choice.now.parts c.loop-i.i (record { a = 0; b = 0; l = 0 }) in
    record { a = p.a; b = p.b; l = p.l })
read_served c =
    at_place (IsServed c.args.frame c.args.cell c.args.choice.now.v1)
    (λ (p : PartChoice). let q : Part = record { a = p.a; b = p.b; l = p.l } in q)
    c.args.choice.now.parts c.args.choice.now.count c.loop-i.i (record { a = 0; b = 0; l = 0 })
    c.requires.served c.loop-i-test.true (omega arith)

pub of_part-requires-clause-first : goal.of_part-requires-clause-first
of_part-requires-clause-first c = (read_served c).first

pub of_part-requires-clause-second : goal.of_part-requires-clause-second
of_part-requires-clause-second c = (read_served c).second

pub of_part-requires-clause-k : goal.of_part-requires-clause-k
of_part-requires-clause-k c = (read_served c).k

pub of_part-requires-clause-t : goal.of_part-requires-clause-t
of_part-requires-clause-t c = (read_served c).t

pub loop-i-preserved : goal.loop-i-preserved
loop-i-preserved c =
    let inside : c.loop-i.i < length c.args.choice.now.parts = omega arith in
    let node = part_node (at_cell c.args.frame c.args.nodes.now) c.args.cell c.args.choice.now.v1 in
    record {
      count = length-set c.loop-i.parts c.loop-i.i c.of_part.result ∙ c.loop-i.invariant.count;
      are =
          take_more_set c.loop-i.parts c.loop-i.i c.of_part.result
          (omega (arith, c.loop-i.invariant.count, c.loop-i-test.true, c.requires.few))
          ∙ ap₂ (λ xs x. xs ++ x ∷ []) c.loop-i.invariant.are c.of_part.ensures
          ∙ sym (ap (map (part_node (at_cell c.args.frame c.args.nodes.now) c.args.cell c.args.choice.now.v1))
          (take_more c.args.choice.now.parts c.loop-i.i (record { a = 0; b = 0; l = 0 }) inside)
          ∙ map-append (part_node (at_cell c.args.frame c.args.nodes.now) c.args.cell c.args.choice.now.v1)
          (take c.loop-i.i c.args.choice.now.parts) _);
    }
