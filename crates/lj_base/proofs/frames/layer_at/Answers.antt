use Rattle.std.proofs.Common.{◌<◌, arith, ap, sym, subst}
use Rattle.lj_base.specs.Cells.{Triple}
use Rattle.lj_base.specs.Frames.{up_to_v}
use Rattle.lj_base.proofs.CellCounts.{layer_below, layer_is, up_to_le}
use Rattle.lj_base.proofs.CellOrder.{up_to_up}
use Rattle.lj_base.proofs.frames.layer_at.Goals as goal

pub overflow_cast-above : goal.overflow_cast-above
overflow_cast-above c =
    let top = c.top.inside in
    let less = subst (λ (d : Triple). c.args.i < up_to_v d.k d.t d.v) (sym c.top.view_is) c.requires in
    let most = up_to_le top.k top.t top.v c.top.invariant.5 c.top.invariant.4 in
    omega (arith, less, most, c.top.invariant.1)

pub overflow_cast-result : goal.overflow_cast-result
overflow_cast-result c =
    let top = c.top.inside in
    let few =
    layer_below top.k top.t c.args.i c.layers-low.result c.before-layer.result
    (c.layers-low.ensures.layers top.k (omega arith)) c.before-layer.ensures.before c.if-i-low.false top.v
    (up_to_up top.k top.t top.v)
    (subst (λ (d : Triple). c.args.i < up_to_v d.k d.t d.v) (sym c.top.view_is) c.requires) in
    omega (arith, few, c.top.invariant.1)

pub overflow_add-result-2 : goal.overflow_add-result-2
overflow_add-result-2 c =
    let top = c.top.inside in
    let few =
    layer_below top.k top.t c.args.i c.layers-low.result c.before-layer.result
    (c.layers-low.ensures.layers top.k (omega arith)) c.before-layer.ensures.before c.if-i-low.false top.v
    (up_to_up top.k top.t top.v)
    (subst (λ (d : Triple). c.args.i < up_to_v d.k d.t d.v) (sym c.top.view_is) c.requires) in
    omega (arith, few, c.top.invariant.1)

pub returns-clause-high : goal.returns-clause-high
returns-clause-high c =
    let top = c.top.inside in
    let few =
    layer_below top.k top.t c.args.i c.layers-low.result c.before-layer.result
    (c.layers-low.ensures.layers top.k (omega arith)) c.before-layer.ensures.before c.if-i-low.false top.v
    (up_to_up top.k top.t top.v)
    (subst (λ (d : Triple). c.args.i < up_to_v d.k d.t d.v) (sym c.top.view_is) c.requires) in
    omega (arith, few, ap (λ (d : Triple). d.v) c.top.view_is)

pub returns-clause-before : goal.returns-clause-before
returns-clause-before c =
    let top = c.top.inside in
    rw (← c.top.view_is)
    (layer_is top.k top.t c.args.i c.layers-low.result c.before-layer.result
    (c.layers-low.ensures.layers top.k (omega arith)) c.before-layer.ensures.before c.if-i-low.false)
