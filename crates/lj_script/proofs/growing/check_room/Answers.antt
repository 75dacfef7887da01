use Rattle.std.proofs.Common.{arith, length, refl, sym, ap}
use Rattle.lj_script.proofs.LastSections.{last_commands-in, some-in}
use Rattle.lj_script.proofs.growing.check_room.Goals as goal

pub returns-then-commands-ge-MAX_COMMANDS-clause-fault : goal.returns-then-commands-ge-MAX_COMMANDS-clause-fault
returns-then-commands-ge-MAX_COMMANDS-clause-fault c = (
  refl,
  omega (
    arith,
    last_commands-in c.args.sections.now c.in-Some.section.now
        (sym c.in-Some.ensures.value),
    ap length c.commands.ensures.commands,
    c.commands.ensures.few,
  ),
)

pub returns-clause-room : goal.returns-clause-room
returns-clause-room c =
    let last = sym c.in-Some.ensures.value in
    let count = last_commands-in c.args.sections.now c.in-Some.section.now last in (
      some-in c.args.sections.now _ c.in-Some.section.now last,
      omega (arith, count, ap length c.commands.ensures.commands),
    )
