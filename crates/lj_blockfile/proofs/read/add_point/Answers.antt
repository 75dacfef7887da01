use Rattle.std.proofs.Common.{sym, ap, ◌∙◌, suc, ◌-◌, ◌≡◌, map, subst, arith}
use Rattle.lj_base.specs.Blocks.{Has}
use Rattle.lj_blockfile.specs.BlockLines.{token_fault}
use Rattle.lj_blockfile.proofs.Members.{Has-map_suc}
use Rattle.lj_blockfile.proofs.Reading.{token_fault-fresh, token_fault-repeat}
use Rattle.lj_blockfile.proofs.read.add_point.Goals as goal

pub returns-then-not-insert-clause-fault : goal.returns-then-not-insert-clause-fault
returns-then-not-insert-clause-fault c =
    let value = c.in-Ok.value in
    let b = c.args.block.now in
    let next : suc (value - 1) ≡ value = omega arith in
    let there : Has (map suc b) value =
    subst (Has (map suc b)) next ((Has-map_suc b (value - 1)).1 c.if-not-insert.ensures.there.0) in
    sym (token_fault-repeat c.args.v value (map suc b) c.args.token.now (omega arith) (omega arith) there)
    ∙ ap (token_fault c.args.v (map suc b) c.args.token.now) c.in-Ok.ensures.value

pub returns-clause-fault : goal.returns-clause-fault
returns-clause-fault c =
    let value = c.in-Ok.value in
    let b = c.args.block.now in
    let next : suc (value - 1) ≡ value = omega arith in
    sym (token_fault-fresh c.args.v value (map suc b) c.args.token.now (omega arith) (omega arith)
    (λ h. c.if-not-insert.ensures.fresh ((Has-map_suc b (value - 1)).0 (subst (Has (map suc b)) (sym next) h))))
    ∙ ap (token_fault c.args.v (map suc b) c.args.token.now) c.in-Ok.ensures.value
