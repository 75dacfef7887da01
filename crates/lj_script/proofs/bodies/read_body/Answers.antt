use Rattle.std.proofs.Common.{◌∷◌, subst}
use Rattle.lj_text.specs.Lines.{StandFrom, after_line}
use Rattle.lj_script.proofs.bodies.read_body.Goals as goal

pub find_end-requires : goal.find_end-requires
find_end-requires c = c.line_order_law.ensures.inside c.args.bytes.now _ c.args.rest.now c.requires.rest

pub between-requires-clause-order : goal.between-requires-clause-order
between-requires-clause-order c =
    let bytes = c.args.bytes.now in
    let place = after_line bytes c.args.line.now in
    let found = c.in-Some.ensures.found in
    let all = subst (StandFrom bytes place) found.lines_are c.requires.rest in
    let later = c.line_order_law.ensures.rest bytes place found.inner (c.in-Some.end ∷ c.find_end.new.lines) all in
    later.0
