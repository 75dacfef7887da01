use Rattle.std.proofs.Common.{◌∙◌, ap, arith, refl, subst, sym}
use Rattle.std.proofs.lemmas.Bool.{false≢true}
use Rattle.lj_base.specs.Cells.{Triple}
use Rattle.lj_base.specs.Frames.{InFrame}
use Rattle.lj_deriv.specs.Nodes.{sizes_of}
use Rattle.lj_deriv.proofs.CutChildren.{children_there, induced_law-read}
use Rattle.lj_deriv.proofs.arena.Arena.admits_induced.Goals as goal

pub cuts_are_cheap-requires-clause-there : goal.cuts_are_cheap-requires-clause-there
cuts_are_cheap-requires-clause-there c =
    children_there c.args.self.now c.args.c c.args.children.now
    (sizes_of c.upload-up.result.now c.args.c.k c.args.c.v) (c.if-has_cuts.ensures.0 refl)

pub returns-then-has_cuts : goal.returns-then-has_cuts
returns-then-has_cuts c =
    let own_t = ap (λ (x : Triple). x.t) c.own.view_is in
    let own_v = ap (λ (x : Triple). x.v) c.own.view_is in
    let t = ap (λ (x : Triple). x.t) c.c.view_is in
    let v = ap (λ (x : Triple). x.v) c.c.view_is in
    let law = induced_law-read c.price_by_row.ensures.by_row c.args.self.now c.args.c c.in-Some.own c.args.upload
    c.args.children.now c.upload-up.result.now c.in-Some.ensures
    (subst (λ f. InFrame f c.args.c) c.frame.ensures (c.if-not-has.ensures.0 refl))
    (omega (arith, c.if-own-c.true, own_t, t)) (omega (arith, c.if-c-own.true, own_v, v)) c.upload-up.ensures in (
      (λ yes. law.0 (c.if-has_cuts.ensures.0 refl, c.cuts_are_cheap.ensures.0 yes)),
      (λ admitted. c.cuts_are_cheap.ensures.1 (law.1 admitted).1),
    )

pub returns-else-has_cuts : goal.returns-else-has_cuts
returns-else-has_cuts c =
    let own_t = ap (λ (x : Triple). x.t) c.own.view_is in
    let own_v = ap (λ (x : Triple). x.v) c.own.view_is in
    let t = ap (λ (x : Triple). x.t) c.c.view_is in
    let v = ap (λ (x : Triple). x.v) c.c.view_is in
    let law = induced_law-read c.price_by_row.ensures.by_row c.args.self.now c.args.c c.in-Some.own c.args.upload
    c.args.children.now c.upload-up.result.now c.in-Some.ensures
    (subst (λ f. InFrame f c.args.c) c.frame.ensures (c.if-not-has.ensures.0 refl))
    (omega (arith, c.if-own-c.true, own_t, t)) (omega (arith, c.if-c-own.true, own_v, v)) c.upload-up.ensures in (
      (λ yes. absurd (false≢true (sym c.if-has_cuts.false ∙ yes))),
      (λ admitted. c.has_cuts.ensures.1 (law.1 admitted).0),
    )
