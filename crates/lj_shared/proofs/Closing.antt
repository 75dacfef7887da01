-- What a settling client does while no cell is open.
use Rattle.std.proofs.Common.{◌≡◌, ◌≢◌, ◌⊎◌, ◌∙◌, List, ap, length, refl, subst, ⊎_elim}
use Rattle.lj_cover.specs.Rules.{Upload}
use Rattle.lj_relax.specs.Tickets.{TicketLists}
use Rattle.lj_shared.specs.Holding.{Closes, HasAll, IsBrought, Settles}
use Rattle.lj_shared.specs.States.{TakesNext}
use Rattle.lj_shared.specs.declared.held.Settling.{Settling}
use Rattle.lj_shared.specs.declared.held.Settling.TheVariants.{Accepted, Claimed, NeedsRoom, Settled}
use Rattle.lj_shared.specs.declared.state.Next.{Next}
use Rattle.lj_shared.specs.declared.state.Next.TheVariants.{Ended, Waits}
use Rattle.lj_shared.specs.declared.state.State.{State}

-- where no cell is open nothing has changed
pub still : (s n : State) (q r : TicketLists) (x : Next) → TakesNext s q x n r → (x ≡ Waits) ⊎ (x ≡ Ended)
    → (n ≡ s) × (r ≡ q)
still s n q r x next which =
    ⊎_elim
    (λ (e : x ≡ Waits). let h : TakesNext s q Waits n r = subst (λ (y : Next). TakesNext s q y n r) e next in
    (h.1, h.0.ticket))
    (λ (e : x ≡ Ended). let h : TakesNext s q Ended n r = subst (λ (y : Next). TakesNext s q y n r) e next in
    (h.1, h.0.ticket))
    which

pub settles_closed : (own : List Upload) (s m n : State) (q r : TicketLists) → m ≡ s → r ≡ q → (found : Settling)
    → Closes own m n found → Settles own s q found n r
settles_closed own s m n q r same ticket (NeedsRoom rows) h = absurd h
settles_closed own s m n q r same ticket Claimed h = absurd h
settles_closed own s m n q r same ticket Accepted h = (subst (λ (x : State). IsBrought own x n) same h, ticket)
settles_closed own s m n q r same ticket Settled h = (subst (λ (x : State). HasAll own x n) same h, ticket)

-- where no upload was accepted, the table has as many nodes as before
pub closed_nodes : (own : List Upload) (s m n : State) → m ≡ s → (found : Settling) → Closes own m n found
    → found ≢ Accepted → length n.table.arena.rules ≡ length s.table.arena.rules
closed_nodes own s m n same (NeedsRoom rows) h other = absurd h
closed_nodes own s m n same Claimed h other = absurd h
closed_nodes own s m n same Accepted h other = absurd (other refl)
closed_nodes own s m n same Settled h other = ap (λ (x : State). length x.table.arena.rules) (h.state ∙ same)
