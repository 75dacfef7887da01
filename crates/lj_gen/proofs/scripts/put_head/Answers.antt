use Rattle.std.proofs.Common.{◌≡◌, min, rules}
use Rattle.std.proofs.lemmas.Result.{on_ok_weaker}
use Rattle.lj_gen.proofs.Written.{written-head}
use Rattle.lj_gen.proofs.scripts.put_head.Goals as goal

pub returns : goal.returns
returns c =
    let least : c.min-k.result ≡ min 6 c.args.v = search rules in
    on_ok_weaker c.put_cell-2.result
    (λ third. written-head c.args.v c.min-k.result c.args.out.now.items c.put_cell.new.out.items c.put.new.out.items
    c.put_cell-2.new.out.items least c.in_ok-put_cell.ensures c.in_ok-put.ensures.ok third)
    c.put_cell-2.ensures
