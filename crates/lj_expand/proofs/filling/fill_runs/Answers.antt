use Rattle.std.proofs.Common.{◌+◌, ◌<◌, ◌∙◌, Some, ap, arith, sym}
use Rattle.std.proofs.lemmas.List.{length-set}
use Rattle.lj_cover.specs.BlockLists.{ceil_div, run_blocks}
use Rattle.lj_expand.proofs.Fills.{run-at}
use Rattle.lj_expand.proofs.Rows.{run-begins}
use Rattle.lj_expand.proofs.Runs.{one-more}
use Rattle.lj_expand.proofs.filling.fill_runs.Goals as goal

pub run_of-requires-clause-begins : goal.run_of-requires-clause-begins
run_of-requires-clause-begins c =
    run-begins c.args.v c.args.k (c.args.i + c.loop-j.j) c.requires.some
    (omega (arith, c.requires.fits, c.loop-j.invariant.len))

pub loop-j-preserved : goal.loop-j-preserved
loop-j-preserved c =
    let j = c.loop-j.j in
    let below : c.args.i + j < ceil_div c.args.v c.args.k = omega (arith, c.requires.fits, c.loop-j.invariant.len) in
    record {
      len = length-set c.loop-j.out j _ ∙ c.loop-j.invariant.len;
      done = one-more c.loop-j.out (run_blocks c.args.v c.args.k) c.args.i j c.run_of.result
          (omega (arith, c.loop-j.invariant.len)) c.loop-j.invariant.done
          (run-at c.args.v c.args.k (c.args.i + j) below ∙ ap (λ b. Some b) (sym c.run_of.ensures));
    }
