-- A publication after room was made for a node.
use Rattle.std.proofs.Common.{◌≡◌, ℕ, Bool, Option, sym, subst}
use Rattle.lj_relax.specs.Found.{Evaluation}
use Rattle.lj_relax.specs.States.{State}
use Rattle.lj_relax.specs.Steps.{Snapshot}
use Rattle.lj_table.specs.Tables.{Contents}
use Rattle.lj_table.specs.declared.outcomes.Outcome.{Outcome}
use Rattle.lj_shared.specs.States.{IsPut}

pub put_with_room : (Step : State → Snapshot → Option ℕ → Bool → Bool → State → Type 0) (t r n : Contents)
    (e : Evaluation) (o : Outcome) → r ≡ record t { arena = record t.arena { spare = r.arena.spare } }
    → IsPut Step r e o n → IsPut Step t e o n
put_with_room Step t r n e o same =
    subst (λ (x : Contents). IsPut Step x e o n → IsPut Step t e o n) (sym same)
    (λ put. record { step = put.step; untaken = put.untaken; taken = put.taken; nodes = put.nodes })
