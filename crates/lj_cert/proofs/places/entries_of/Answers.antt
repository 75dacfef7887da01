use Rattle.std.proofs.Common.{length, rules}
use Rattle.std.proofs.lemmas.Fn.{always_returns_same}
use Rattle.std.proofs.lemmas.List.MinMax.{ranks_by}
use Rattle.std.specs.Ordering.{is_lt}
use Rattle.lj_cert.proofs.Looking.{entries_moved, name_total}
use Rattle.lj_cert.specs.Places.{name_cmp, name_of}
use Rattle.lj_cert.proofs.places.entries_of.Goals as goal

pub returns : goal.returns
returns c =
    let us = c.args.uploads.now in
    record {
      held = entries_moved us (length us) _ _ c.in_ok-sort_by.ensures.permutation c.in_ok-entries.ensures;
      sorted = c.in_ok-sort_by.ensures.sorted (λ e f. is_lt (name_cmp (name_of e) (name_of f)))
          (ranks_by name_total name_of) (always_returns_same _ _ _ (λ a r q k. search rules));
    }
