use Rattle.std.proofs.Common.{◌≡◌, []}
use Rattle.lj_bench_shared.proofs.held.Given as goal

-- the table stays of the frame and without uploads, so that the ticket has room for its rows
abbrev pub invariant-loop : goal.invariant-loop
invariant-loop g l =
    (l.state.table.arena.frame ≡ l.fn.frame) × (l.state.table.arena.uploads ≡ []) × (l.ticket.frame ≡ l.fn.frame)
