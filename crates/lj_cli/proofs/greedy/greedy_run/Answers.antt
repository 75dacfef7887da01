use Rattle.lj_cli.specs.CountOutput.{IsGreedyOutput}
use Rattle.lj_cli.specs.Ends.{output_of}
use Rattle.lj_cli.proofs.Ending.{made_unread}
use Rattle.lj_cli.proofs.greedy.greedy_run.Goals as goal

pub returns : goal.returns
returns g c =
    made_unread (IsGreedyOutput c.args.cell)
    (output_of g.K.Sink.written g.K.Sink.faults c.args.out.now c.print_made.new.out) c.print_made.result
    c.greedy_output.result c.greedy_output.ensures c.print_made.ensures
