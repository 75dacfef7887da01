use Rattle.lj_table.proofs.Distances.{later_both}
use Rattle.lj_table.proofs.Keeping.{kept_at, kept_same}
use Rattle.lj_table.proofs.table.Table.lower_keeping.Goals as goal

pub keep-requires-clause-least : goal.keep-requires-clause-least
keep-requires-clause-least c =
    kept_at c.args.self.now c.lower.new.self c.args.c c.lower.ensures.least c.if_closed-fewer_points.result
    c.if_closed-fewer_points.ensures.inside c.if_closed-fewer_points.ensures.closed

pub keep-requires-2-clause-least : goal.keep-requires-2-clause-least
keep-requires-2-clause-least c =
    kept_same c.args.c c.lower.new.self c.keep.new.self c.if_closed-smaller_sets.result c.keep.ensures.arena
    c.keep.ensures.bounds
    (kept_at c.args.self.now c.lower.new.self c.args.c c.lower.ensures.least c.if_closed-smaller_sets.result
    c.if_closed-smaller_sets.ensures.inside c.if_closed-smaller_sets.ensures.closed)

pub keep-requires-3-clause-least : goal.keep-requires-3-clause-least
keep-requires-3-clause-least c =
    kept_same c.args.c c.keep.new.self c.keep-2.new.self c.if_closed-larger_blocks.result c.keep-2.ensures.arena
    c.keep-2.ensures.bounds
    (kept_same c.args.c c.lower.new.self c.keep.new.self c.if_closed-larger_blocks.result c.keep.ensures.arena
    c.keep.ensures.bounds
    (kept_at c.args.self.now c.lower.new.self c.args.c c.lower.ensures.least c.if_closed-larger_blocks.result
    c.if_closed-larger_blocks.ensures.inside c.if_closed-larger_blocks.ensures.closed))

pub returns-clause-later : goal.returns-clause-later
returns-clause-later c =
    later_both c.args.self.now c.keep-2.new.self c.keep-3.new.self
    (later_both c.args.self.now c.keep.new.self c.keep-2.new.self
    (later_both c.args.self.now c.lower.new.self c.keep.new.self c.lower.ensures.later c.keep.ensures.later)
    c.keep-2.ensures.later)
    c.keep-3.ensures.later
