use Rattle.std.proofs.Common.{◌≡◌, get_or, ap, ◌∙◌, arith}
use Rattle.lj_base.specs.Frames.{InFrame, index_of}
use Rattle.lj_cover.specs.Rules.{triple}
use Rattle.lj_induced.proofs.rows.cut_price.Goals as goal

pub returns-in-Some-clause-small : goal.returns-in-Some-clause-small
returns-in-Some-clause-small c =
    let h = c.requires.inside in
    let cell = h.cell in
    let child = c.in-Some.ensures.some in
    let more = child.0 in
    let d = triple c.args.l c.args.cell.k c.args.cell.t in
    let inside : InFrame c.args.frame d = record {
      cell = (omega arith, omega (arith, c.requires.points), cell.2, omega arith, cell.4, cell.5);
      v = omega (arith, c.requires.points, h.v);
      k = h.k;
      t = h.t;
    } in
    let place : c.index.result ≡ index_of c.args.frame d = c.index.ensures.index ∙ ap (index_of c.args.frame) child.1 in
    let number = ap (λ n. get_or c.args.bounds.now n 0) place in
    let small = c.choose_law.ensures.small c.args.l c.args.cell.t (omega (arith, c.requires.points)) cell.5 in
    omega (arith, number, small, c.requires.bounds.small d inside)
