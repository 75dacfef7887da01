use Rattle.std.proofs.Common.{◌≡◌, ◌∙◌, false, replicate, ap, sym, subst}
use Rattle.lj_base.specs.Frames.{size_of}
use Rattle.lj_table.specs.Starting.{IsBegun}
use Rattle.lj_table.proofs.FirstTables.{start_table}
use Rattle.lj_table.proofs.table.Table.start.Goals as goal

pub invariant_of-result : goal.invariant_of-result
invariant_of-result c =
    let b = c.begin.ensures in
    let size : c.size-n.result ≡ size_of c.begin.new.arena.frame = c.size-n.ensures.size ∙ ap size_of (sym b.frame) in
    record {
      table = start_table c.begin.new.arena c.begin.new.bounds.items c.begin.new.nodes.items
          (subst (λ f. IsBegun f (size_of f) c.begin.new.arena c.begin.new.bounds.items c.begin.new.nodes.items)
          (sym b.frame) b)
          c.nodes_derive.ensures c.in_ok-closed.closed c.in_ok-busy.busy
          (c.in_ok-closed.ensures ∙ ap (λ n. replicate n false) size)
          (c.in_ok-busy.ensures ∙ ap (λ n. replicate n false) size);
      known = tt;
    }
