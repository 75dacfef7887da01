use Rattle.std.proofs.Common.{◌≡◌, ◌∙◌, ap, subst, sym}
use Rattle.lj_base.specs.Frames.{InFrame, index_of}
use Rattle.lj_table.specs.Settling.{NoneCheaper}
use Rattle.lj_table.specs.Tables.{Contents, contents_of}
use Rattle.lj_table.proofs.Rested.{closed_table}
use Rattle.lj_table.proofs.table.Table.keep_closed.Goals as goal

pub invariant_of-self : goal.invariant_of-self
invariant_of-self c =
    let inside = subst (λ (x : Contents). InFrame x.arena.frame c.args.c) (sym c.self.view_is)
    c.requires.inside in
    let at : c.index-i.result ≡ index_of c.self.inside.store.arena.frame c.args.c =
    c.index-i.ensures.index ∙ ap (λ f. index_of f c.args.c) c.frame.ensures in
    let least = subst (λ (x : Contents). NoneCheaper x.arena.frame x.bounds x.arena.uploads c.args.c)
    (sym c.self.view_is) c.requires.least in
    record {
      table = closed_table (contents_of c.self.inside.store) c.args.c c.index-i.result c.give_back.new.closed
          c.give_back.new.busy c.self.invariant.table inside at c.give_back.ensures least;
      known = c.self.invariant.known;
    }
