use Rattle.std.proofs.Common.{◌≡◌, ℕ, List, ◌++◌, refl, sym, ap, subst}
use Rattle.lj_base.specs.Frames.{Top}
use Rattle.lj_cover.specs.Derivations.{IsLeast, root_cell, tree_cost}
use Rattle.lj_cover.specs.Rules.{Upload}
use Rattle.lj_deriv.specs.Nodes.{Steps, plan_tree}
use Rattle.lj_script.specs.Values.{SectionValue}
use Rattle.lj_session.specs.BuildReplies.{build_service}
use Rattle.lj_session.specs.Driving.{IsLeastPlan}
use Rattle.lj_session.specs.Replies.{Progress}
use Rattle.lj_session.specs.Sessions.{SessionValue}
use Rattle.lj_session.proofs.Driving.{MayShow, replied_accept, replied_bound, replied_plan, replied_settle, served_done}
use Rattle.lj_session.proofs.Driving.{served_on, served_reply, served_start}
use Rattle.lj_session.proofs.laws.building_law.Goals as goal

abbrev Anything : Progress → Type 0
Anything p = Unit {0}

may_show : (f : Top) (earlier : List Upload) (name : List ℕ) (s : SessionValue) (steps : Steps)
    → IsLeastPlan f (earlier ++ s.own) steps → (p : Progress) → p.own ≡ s.own
    → MayShow (build_service f earlier name) Anything (root_cell (plan_tree steps)) (tree_cost (plan_tree steps))
    (plan_tree steps) p
may_show f earlier name s steps h p own =
    let least : IsLeastPlan f (earlier ++ p.own) steps = subst
    (λ (us : List Upload). IsLeastPlan f (earlier ++ us) steps) (sym own) h in record {
      number = least.least;
      shown = record {
        derivation = least.derivation;
        inside = least.inside;
        from = least.from;
        cell_is =
            refl;
        cost_is = refl;
      };
      knows = tt;
      knows_blocks = tt;
    }

pub returns : goal.returns
returns c = record {
  start = λ f earlier section. served_start (build_service f earlier section.name) Anything section tt;
  goes_on = λ f earlier section s t. served_on (build_service f earlier section.name) Anything section s t;
  accept = λ f earlier section s u h asking. served_reply _ Anything Anything section s _ h
      (replied_accept _ Anything Anything s u h.frame_is (ap (λ (x : SectionValue). x.name) h.section_is) asking
      (λ p own k. tt));
  bound = λ f earlier section s cell b h asking least. served_reply _ Anything Anything section s _ h
      (replied_bound _ Anything Anything s cell b h.frame_is asking
      (λ p own k. (subst (λ (us : List Upload). IsLeast f (earlier ++ us) cell b) (sym own) least, tt)));
  plan = λ f earlier section s steps h asking least. served_reply _ Anything Anything section s _ h
      (replied_plan _ Anything Anything s steps h.frame_is asking least.spelled
      (λ p own k. may_show f earlier section.name s steps least p own));
  settle = λ f earlier section s h asking. served_reply _ Anything Anything section s _ h
      (replied_settle _ Anything Anything s asking (λ p own k. tt));
  done = λ f earlier section s h none. let d = served_done _ Anything section s h none in ((d.0, d.1), d.2);
}
