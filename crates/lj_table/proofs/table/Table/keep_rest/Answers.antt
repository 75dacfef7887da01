use Rattle.std.proofs.Common.{ap, length, subst, sym}
use Rattle.lj_table.specs.Tables.{IsAtRest, contents_of}
use Rattle.lj_table.proofs.Rested.{rests}
use Rattle.lj_table.proofs.table.Table.keep_rest.Goals as goal

pub invariant_of-self : goal.invariant_of-self
invariant_of-self c = record {
  table = c.self.invariant.table;
  known = rests (contents_of c.self.inside.store)
      (record { uploads = length c.uploads.result.now; nodes = c.len.result }) c.self.invariant.table
      (ap length c.uploads.ensures.uploads) c.len.ensures.len (subst IsAtRest (sym c.self.view_is) c.requires);
}
