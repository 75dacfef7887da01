-- A session that got what it asked for.
use Rattle.std.proofs.Common.{◌≡◌, ℕ, ◌+◌, ◌<◌, Bool, true, false, nat_lt, if◌then◌else◌, List, ◌∷◌, ◌++◌}
use Rattle.std.proofs.Common.{drop, length, refl, sym, ap, ◌∙◌, subst, ⊎_elim, arith}
use Rattle.lj_base.specs.Cells.{Triple}
use Rattle.lj_base.specs.Frames.{InFrame, Top}
use Rattle.lj_cover.specs.Derivations.{IsLeast, root_cell, tree_cost}
use Rattle.lj_cover.specs.Rules.{Upload}
use Rattle.lj_deriv.specs.Nodes.{IsDerivedIn, Steps, plan_tree}
use Rattle.lj_deriv.specs.Texts.{Spelled, plan_text}
use Rattle.lj_script.specs.Values.{SectionValue}
use Rattle.lj_script.specs.declared.scripts.Command.{Command}
use Rattle.lj_script.specs.declared.scripts.Command.TheVariants.{Plan, Expand}
use Rattle.lj_session.specs.Driving.{IsBuilding, IsLeastPlan}
use Rattle.lj_session.specs.Sessions.{GoesOn, IsAsking, SessionValue, with_blocks, with_expansion}
use Rattle.lj_session.specs.Sessions.{with_plan_for, with_too_big}
use Rattle.lj_session.specs.declared.asks.Ask.{Ask}
use Rattle.lj_session.specs.declared.asks.Ask.TheVariants as ask
use Rattle.lj_session.specs.declared.limits.TheConstants.{MAX_WRITTEN}
use Rattle.lj_table.specs.Tables.{Contents, state_of}
use Rattle.lj_build.specs.Building.{Builds, GoesOnBuilding, Rests}

-- the session with its reply is on its way, with a command less
pub went_on : (f : Top) (earlier : List Upload) (section : SectionValue) (t : Contents) (s m n : SessionValue)
    (a : Ask) → IsAsking s a → Rests f (earlier ++ m.own) t → IsBuilding f earlier section m
    → m.ask ≡ ask.Done → m.left ≡ drop 1 s.left → n ≡ m → GoesOnBuilding f earlier section t s n
went_on f earlier section t s m n a asking rests building free left e =
    let l : m.left ≡ asking.others = left ∙ ap (λ (cs : List Command). drop 1 cs) asking.left in
    let less : length m.left < length s.left =
    omega (arith, ap (λ (cs : List Command). length cs) l, ap (λ (cs : List Command). length cs) asking.left) in
    subst (λ (x : SessionValue). GoesOnBuilding f earlier section t s x) (sym e)
    (record { builds = record { rests = rests; building = building }; free = free; less = less })

-- the table's number of a cell is the least
pub least_at : (f : Top) (us : List Upload) (t : Contents) (c : Triple) (b : ℕ) → Rests f us t → InFrame f c
    → b ≡ (state_of t).bounds c → IsLeast f us c b
least_at f us t c b rests inside e =
    let least = rests.least c (rw rests.frame inside) in
    subst (λ (x : Top × List Upload × ℕ). IsLeast x.0 x.1 c x.2)
    (λ i. (rests.frame i, rests.uploads_are i, (sym e) i)) least

-- the table's plan for a cell is a least one
pub least_plan : (f : Top) (us : List Upload) (t : Contents) (c : Triple) (p : Steps) → Rests f us t → InFrame f c
    → root_cell (plan_tree p) ≡ c → tree_cost (plan_tree p) ≡ (state_of t).bounds c
    → IsDerivedIn t.arena.frame t.arena.uploads (plan_tree p) → Spelled (plan_tree p) (plan_text p) → IsLeastPlan f us p
least_plan f us t c p rests inside cell cost derived spelled =
    let d : IsDerivedIn f us (plan_tree p) = subst (λ (x : Top × List Upload). IsDerivedIn x.0 x.1 (plan_tree p))
    (λ i. (rests.frame i, rests.uploads_are i)) derived in
    record {
      derivation = d.derivation;
      inside = d.inside;
      from = d.from;
      least = rw cell (least_at f us t c (tree_cost (plan_tree p)) rests inside cost);
      spelled = spelled;
    }

split : (t : Bool) (P : Bool → Type 0) → P true → P false → P t
split true P yes_case no_case = yes_case
split false P yes_case no_case = no_case

-- the reply to a plan or an expand accepts nothing, and leaves a command less
pub record Keeps (s m : SessionValue) : Type 0 where
  pub own : m.own ≡ s.own
  pub free : m.ask ≡ ask.Done
  pub left : m.left ≡ drop 1 s.left

pub expansion_keeps : (s : SessionValue) (p : Steps) → Keeps s (with_expansion s p)
expansion_keeps s p =
    split (nat_lt MAX_WRITTEN (s.written + tree_cost (plan_tree p)))
    (λ b. Keeps s (if b then with_too_big s p else with_blocks s p))
    (record { own = refl; free = refl; left = refl }) (record { own = refl; free = refl; left = refl })

pub plan_keeps : (s : SessionValue) (p : Steps) (c : Triple) → IsAsking s (ask.Plan c)
    → Keeps s (with_plan_for s s.left p)
plan_keeps s p c asking = ⊎_elim
    (λ (is : asking.first ≡ Plan c). subst (λ (cs : List Command). Keeps s (with_plan_for s cs p))
    (sym (asking.left ∙ ap (λ (x : Command). x ∷ asking.others) is))
    (record { own = refl; free = refl; left = refl }))
    (λ (is : asking.first ≡ Expand c). subst (λ (cs : List Command). Keeps s (with_plan_for s cs p))
    (sym (asking.left ∙ ap (λ (x : Command). x ∷ asking.others) is)) (expansion_keeps s p))
    asking.asks.0

-- the table rests over other spellings of the same uploads
pub rests_same : (f : Top) (us vs : List Upload) (t : Contents) → us ≡ vs → Rests f us t → Rests f vs t
rests_same f us vs t e h = subst (λ (ws : List Upload). Rests f ws t) e h

pub builds_on : (f : Top) (earlier : List Upload) (section : SectionValue) (t : Contents) (s n : SessionValue)
    → Builds f earlier section t s → GoesOn s n → IsBuilding f earlier section n → Builds f earlier section t n
builds_on f earlier section t s n h g building = record {
  rests =
      rests_same f (earlier ++ s.own) (earlier ++ n.own) t
      (ap (λ (us : List Upload). earlier ++ us) (sym g.own)) h.rests;
  building = building;
}
