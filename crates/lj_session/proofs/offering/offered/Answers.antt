use Rattle.std.proofs.Common.{List, subst, sym}
use Rattle.std.proofs.lemmas.Result.{IfOk-weaker}
use Rattle.std.specs.List.{AllByRecursion, Contains}
use Rattle.lj_base.proofs.Lists.{AllByRecursion-contains}
use Rattle.lj_cover.specs.Rules.{Upload}
use Rattle.lj_cover.specs.Uses.{EachUpload-weaker}
use Rattle.lj_deriv.specs.Nodes.{plan_tree}
use Rattle.lj_session.specs.Offered.{IsOffered}
use Rattle.lj_session.proofs.PlanUploads.{each_named}
use Rattle.lj_session.proofs.offering.offered.Goals as goal

pub returns-clause-tree : goal.returns-clause-tree
returns-clause-tree c =
    let p = c.args.plan.now in
    let P : Upload → Type 0 = IsOffered c.args.sections.now in
    let same = c.uploads.ensures.uploads in
    IfOk-weaker c.are_offered.result _ _
    (λ yes e. (
      λ t.
          let all : AllByRecursion P p.uploads = subst (λ (us : List Upload). AllByRecursion P us) same (e.0 t) in
          EachUpload-weaker (Contains p.uploads) P (λ u k. AllByRecursion-contains P p.uploads u all k) (plan_tree p)
          c.cost-cost.ensures.from,
      λ all. e.1 (subst (λ (us : List Upload). AllByRecursion P us) (sym same)
          (each_named P p c.len-nodes.ensures.valid c.len-nodes.ensures.whole all)),
    ))
    c.are_offered.ensures
