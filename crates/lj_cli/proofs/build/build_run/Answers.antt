use Rattle.lj_base.specs.declared.limits.TheConstants.{MAX_INPUT}
use Rattle.lj_cli.specs.BuildOutput.{IsBuildCommandOutput}
use Rattle.lj_cli.specs.Ends.{input_of, output_of}
use Rattle.lj_cli.proofs.Ending.{made_ends}
use Rattle.lj_cli.proofs.build.build_run.Goals as goal

pub returns-in-Ok : goal.returns-in-Ok
returns-in-Ok g c =
    made_ends MAX_INPUT (IsBuildCommandOutput c.args.json)
    (input_of g.S.Source.left g.S.Source.faults c.args.input.now c.read_all.new.source)
    (output_of g.K.Sink.written g.K.Sink.faults c.args.out.now c.print_made.new.out) c.in-Ok.bytes.items
    c.deref.result.now c.print_made.result c.build_output.result c.deref.ensures.value c.build_output.ensures
    c.print_made.ensures c.in-Ok.ensures.read c.in-Ok.ensures.whole c.in-Ok.ensures.quiet
