use Rattle.std.proofs.Common.{◌+◌, arith}
use Rattle.lj_base.proofs.Ascending.{Ascends-push, Ascends-wider}
use Rattle.lj_deriv.proofs.Marking.{AreMarkedBelow-push, AreMarkedBelow-skip}
use Rattle.lj_deriv.proofs.copying.numbers_of.Goals as goal
use Rattle.lj_deriv.proofs.copying.numbers_of.Goals.{then-mark+in_ok-push, else-mark}

pub loop-i-preserved : goal.loop-i-preserved
loop-i-preserved c =
    let marks = c.args.marks.now in
    let i = c.loop-i.i in
    let h = c.loop-i.invariant in
    elim c.if-mark.branch [
      | then-mark+in_ok-push w ↦
          rw (w.numbers-is, w.in_ok-push.ensures.items)
          (record {
            ascends = Ascends-push 0 i (i + 1) c.loop-i.numbers.items (omega arith)
                (omega arith) h.ascends;
            below =
                AreMarkedBelow-push marks i c.loop-i.numbers.items w.if-mark.true h.below;
          })
      | else-mark w ↦
          rw w.numbers-is (record {
            ascends = Ascends-wider 0 0 i (i + 1) c.loop-i.numbers.items (omega arith)
                (omega arith) h.ascends;
            below =
                AreMarkedBelow-skip marks i c.loop-i.numbers.items w.if-mark.false h.below;
          })
    ]
