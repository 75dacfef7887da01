-- Which uploads of a list are among others, as far as a walk has come.
use Rattle.std.proofs.Common.{◌≡◌, ℕ, ◌+◌, ◌<◌, List, take, length, get_or, subst, ⊎_elim}
use Rattle.std.specs.List.{Contains}
use Rattle.std.proofs.lemmas.List.{take_more}
use Rattle.std.proofs.lemmas.List.Elements.{Contains-push_cases}
use Rattle.lj_cover.specs.Rules.{Upload}
use Rattle.lj_shared.specs.States.{AreAmong}

-- the next upload is among the others too
pub among_more : (own others : List Upload) (i : ℕ) (u : Upload) → i < length own → AreAmong (take i own) others
    → Contains others (get_or own i u) → AreAmong (take (i + 1) own) others
among_more own others i u inside before next x has =
    ⊎_elim (before x) (λ (e : get_or own i u ≡ x). subst (Contains others) e next)
    (Contains-push_cases (take i own) (get_or own i u) x
    (subst (λ (l : List Upload). Contains l x) (take_more own i u inside) has))

-- the next upload is not the one that is looked for
pub lacks_more : (others : List Upload) (i : ℕ) (u x : Upload) → i < length others → (Contains (take i others) x → ⊥)
    → (get_or others i u ≡ x → ⊥) → Contains (take (i + 1) others) x → ⊥
lacks_more others i u x inside before next has =
    ⊎_elim before next (Contains-push_cases (take i others) (get_or others i u) x
    (subst (λ (l : List Upload). Contains l x) (take_more others i u inside) has))
