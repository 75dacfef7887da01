use Rattle.std.proofs.Common.{List, [], refl, sym, subst, subst₂}
use Rattle.std.proofs.lemmas.List.Elements.{Contains-get_or}
use Rattle.std.specs.List.{AllByRecursion, Contains}
use Rattle.lj_base.proofs.Lists.{AllByRecursion-from_places}
use Rattle.lj_base.specs.Frames.{Top}
use Rattle.lj_cert.specs.Texts.{IsForestFor}
use Rattle.lj_cover.specs.Rules.{Upload}
use Rattle.lj_deriv.specs.Forests.{ForestValue, IsForestOf}
use Rattle.lj_table.specs.Tables.{Contents, IsTable}
use Rattle.lj_tests_cert.proofs.writing_tests.written.Goals as goal

-- each upload is one of the list
all_there : (us : List Upload) → AllByRecursion (Contains us) us
all_there us =
    let other : Upload = record { client = []; ordinal = 0; cell = record { v = 0; k = 0; t = 0 }; blocks = [] } in
    AllByRecursion-from_places (Contains us) other us (λ i inside. Contains-get_or us i other inside)

-- the forest of a table has the nodes of its cells
forest_for : (t : Contents) (f : ForestValue) → IsForestOf t.arena t.nodes f → IsTable t
    → IsForestFor t.arena.frame t.arena.uploads f t.bounds
forest_for t f is table = record {
  arena = t.arena;
  nodes = t.nodes;
  forest = is;
  frame_is = refl;
  named = all_there t.arena.uploads;
  node_count = table.lists.nodes;
  bound_count = table.lists.bounds;
  cells = λ c inside. let node = table.nodes c inside in node.cell;
  costs = λ c inside. let node = table.nodes c inside in node.cost;
}

pub forests_are_writable-requires-clause-forest : goal.forests_are_writable-requires-clause-forest
forests_are_writable-requires-clause-forest c =
    let t = c.args.table.now in
    let forest = c.in_ok-forest.forest in
    subst (λ (f : Top). IsForestFor f c.accepted-uploads.result.now forest c.bounds-bounds.result.now)
    (sym c.frame-frame.ensures.frame)
    (subst₂ (λ us bs. IsForestFor t.arena.frame us forest bs) (sym c.accepted-uploads.ensures.uploads)
    (sym c.bounds-bounds.ensures.bounds) (forest_for t forest c.in_ok-forest.ensures c.frame-frame.ensures.table))
