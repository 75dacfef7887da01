use Rattle.lj_table.specs.Tables.{contents_of}
use Rattle.lj_table.proofs.Acceptances.{spare_by, table_spare}
use Rattle.lj_table.proofs.Rested.{rested_spare}
use Rattle.lj_table.proofs.table.Table.reserve.Goals as goal

pub invariant_of-self : goal.invariant_of-self
invariant_of-self c =
    let spare = spare_by c.reserve.result c.self.inside.store.arena c.reserve.new.self _ c.reserve.ensures.ok
    c.reserve.ensures.err in
    record {
      table = table_spare (contents_of c.self.inside.store) c.reserve.new.self spare c.self.invariant.table;
      known = rested_spare c.self.inside.store.arena c.reserve.new.self c.self.inside.store.bounds.items
          c.self.inside.rest spare c.self.invariant.known;
    }
