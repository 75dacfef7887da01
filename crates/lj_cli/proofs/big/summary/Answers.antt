use Rattle.std.proofs.Common.{◌∙◌, ℕ, List, ap, arith, drop, length}
use Rattle.lj_cover.specs.Rules.{Upload}
use Rattle.lj_cli.proofs.Summing.{AreGenerated, IsBigSession, big_session, front_fits, summed}
use Rattle.lj_cli.proofs.big.summary.Goals as goal

pub upload_size-blocks-requires : goal.upload_size-blocks-requires
upload_size-blocks-requires c =
    let m = c.args.m in
    let gen : AreGenerated m = record {
      low = c.requires.low;
      high = c.requires.high;
      read = c.requires.blocks;
      number = c.quadruples_law.ensures.number m;
      covers = c.quadruples_law.ensures.covers m;
    } in
    let session : IsBigSession m c.only_end-end.result.now = big_session c.one_outcome_law.ensures.outcome m
    c.args.served.now.ends c.items.result.now c.only_end-end.result.now gen c.requires.served.served c.items.ensures
    c.only_end-end.ensures in
    ap (λ (us : List Upload). length us) session.accepted

pub after_first-lines-requires : goal.after_first-lines-requires
after_first-lines-requires c =
    let m = c.args.m in
    let e = c.only_end-end.result.now in
    let gen : AreGenerated m = record {
      low = c.requires.low;
      high = c.requires.high;
      read = c.requires.blocks;
      number = c.quadruples_law.ensures.number m;
      covers = c.quadruples_law.ensures.covers m;
    } in
    let session : IsBigSession m e = big_session c.one_outcome_law.ensures.outcome m c.args.served.now.ends
    c.items.result.now e gen c.requires.served.served c.items.ensures c.only_end-end.ensures in
    let count = c.upload_size-blocks.ensures _ session.accepted in
    let fits = front_fits m c.upload_size-blocks.result e c.in_ok-first.first.items session count
    c.in_ok-first.ensures in
    let front = ap (λ (x : List ℕ). length x) c.deref.ensures.value in
    let whole = ap (λ (x : List ℕ). length x) c.items-2.ensures in
    omega (arith, fits, front, whole)

pub returns : goal.returns
returns c =
    let m = c.args.m in
    let e = c.only_end-end.result.now in
    let gen : AreGenerated m = record {
      low = c.requires.low;
      high = c.requires.high;
      read = c.requires.blocks;
      number = c.quadruples_law.ensures.number m;
      covers = c.quadruples_law.ensures.covers m;
    } in
    let session : IsBigSession m e = big_session c.one_outcome_law.ensures.outcome m c.args.served.now.ends
    c.items.result.now e gen c.requires.served.served c.items.ensures c.only_end-end.ensures in
    let count = c.upload_size-blocks.ensures _ session.accepted in
    let left = c.after_first-lines.ensures
    ∙ ap (λ (x : List ℕ). drop (length c.deref.result.now) x) c.items-2.ensures in
    summed m c.upload_size-blocks.result c.args.served.now.ends c.items.result.now e c.args.served.now.closed
    c.deref.result.now c.after_first-lines.result.now c.in_ok-text.text.items c.totals_of-totals.result.cells
    c.totals_of-totals.result.sum session c.requires.served c.items.ensures
    c.only_end-end.ensures count (c.deref.ensures.value ∙ c.in_ok-first.ensures) left
    c.totals_of-totals.ensures.cells c.totals_of-totals.ensures.sum c.in_ok-text.ensures
