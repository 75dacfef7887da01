use Rattle.std.proofs.Common.{◌≡◌, ◌+◌, List, [], ◌∷◌, ◌++◌, take, sym, ap, ◌∙◌, arith}
use Rattle.std.proofs.lemmas.List.{length-take}
use Rattle.lj_script.specs.declared.scripts.Command.{Command}
use Rattle.lj_session.specs.Offered.{upload_count}
use Rattle.lj_session.proofs.Searching.{counts_few, counts_none, counts_one, take_item}
use Rattle.lj_session.proofs.offering.upload_count.Goals as goal
use Rattle.lj_session.proofs.offering.upload_count.Goals.{then-is_upload, else-is_upload}

pub overflow_add-count : goal.overflow_add-count
overflow_add-count c =
    let cs : List Command = take c.loop-command.command-index c.args.commands.now in
    omega (
      arith,
      c.requires,
      c.loop-command.invariant,
      counts_few cs,
      length-take c.loop-command.command-index c.args.commands.now,
    )

pub loop-command-preserved : goal.loop-command-preserved
loop-command-preserved c =
    let i = c.loop-command.command-index in
    let cs : List Command = c.args.commands.now in
    let item : Command = c.command-item.result in
    let more : take (i + 1) cs ≡ take i cs ++ item ∷ [] = take_item cs i item (omega arith) c.command-item.is in
    elim c.if-is_upload.branch [
      | then-is_upload w ↦ w.count-is ∙ counts_one (take i cs) item c.loop-command.count c.loop-command.invariant
          (c.is_upload.ensures.0 w.if-is_upload.true) ∙ ap (λ (ds : List Command). upload_count ds) (sym more)
      | else-is_upload w ↦ w.count-is ∙ counts_none (take i cs) item c.loop-command.count c.loop-command.invariant
          (λ one. let t = c.is_upload.ensures.1 one in cc) ∙ ap (λ (ds : List Command). upload_count ds) (sym more)
    ]
