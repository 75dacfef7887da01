-- A session whose first command left has got its reply.
use Rattle.std.proofs.Common.{◌≡◌, ℕ, ◌+◌, ◌<◌, Bool, true, false, nat_lt, if◌then◌else◌, List, ◌∷◌, drop, length}
use Rattle.std.proofs.Common.{refl, sym, ap, ◌∙◌, subst, ⊎_elim, arith}
use Rattle.lj_base.specs.Cells.{Triple}
use Rattle.lj_cover.specs.Derivations.{tree_cost}
use Rattle.lj_cover.specs.Rules.{Upload}
use Rattle.lj_deriv.specs.Nodes.{Steps, plan_tree}
use Rattle.lj_script.specs.declared.scripts.Command.{Command}
use Rattle.lj_script.specs.declared.scripts.Command.TheVariants.{Plan, Expand}
use Rattle.lj_session.specs.Sessions.{IsAsking, Passes, SessionValue, with_blocks, with_bound, with_expansion}
use Rattle.lj_session.specs.Sessions.{with_plan_for, with_reply, with_settle, with_too_big, with_upload}
use Rattle.lj_session.specs.declared.asks.Ask.{Ask}
use Rattle.lj_session.specs.declared.asks.Ask.TheVariants as ask
use Rattle.lj_session.specs.declared.limits.TheConstants.{MAX_WRITTEN}

-- one command less is left
less : (s : SessionValue) (a : Ask) → IsAsking s a → length (drop 1 s.left) < length s.left
less s a asking =
    let now : drop 1 s.left ≡ asking.others = ap (λ (cs : List Command). drop 1 cs) asking.left in
    omega (
      arith,
      ap (λ (cs : List Command). length cs) now,
      ap (λ (cs : List Command). length cs) asking.left,
    )

replied : (s : SessionValue) (a : Ask) (text : List ℕ) → IsAsking s a → Passes s (with_reply s text)
replied s a text asking =
    record { frame = refl; section = refl; free = refl; left = refl; less = less s a asking }

pub accept_passes : (s : SessionValue) (u : Upload) → IsAsking s (ask.Accept u) → Passes s (with_upload s u)
accept_passes s u asking =
    record { frame = refl; section = refl; free = refl; left = refl; less = less s (ask.Accept u) asking }

pub bound_passes : (s : SessionValue) (c : Triple) (b : ℕ) → IsAsking s (ask.Bound c) → Passes s (with_bound s c b)
bound_passes s c b asking = replied s (ask.Bound c) _ asking

pub settle_passes : (s : SessionValue) → IsAsking s ask.Settle → Passes s (with_settle s)
settle_passes s asking = replied s ask.Settle _ asking

split : (t : Bool) (P : Bool → Type 0) → P true → P false → P t
split true P yes_case no_case = yes_case
split false P yes_case no_case = no_case

expansion_passes : (s : SessionValue) (p : Steps) (c : Triple) → IsAsking s (ask.Plan c)
    → Passes s (with_expansion s p)
expansion_passes s p c asking =
    split (nat_lt MAX_WRITTEN (s.written + tree_cost (plan_tree p)))
    (λ b. Passes s (if b then with_too_big s p else with_blocks s p))
    (replied s (ask.Plan c) _ asking)
    (record { frame = refl; section = refl; free = refl; left = refl; less = less s (ask.Plan c) asking })

pub plan_passes : (s : SessionValue) (c : Triple) (p : Steps) → IsAsking s (ask.Plan c)
    → Passes s (with_plan_for s s.left p)
plan_passes s c p asking = ⊎_elim
    (λ (is : asking.first ≡ Plan c). subst (λ (cs : List Command). Passes s (with_plan_for s cs p))
    (sym (asking.left ∙ ap (λ (x : Command). x ∷ asking.others) is)) (replied s (ask.Plan c) _ asking))
    (λ (is : asking.first ≡ Expand c). subst (λ (cs : List Command). Passes s (with_plan_for s cs p))
    (sym (asking.left ∙ ap (λ (x : Command). x ∷ asking.others) is)) (expansion_passes s p c asking))
    asking.asks.0
