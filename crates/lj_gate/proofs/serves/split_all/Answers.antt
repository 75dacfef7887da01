use Rattle.std.proofs.Common.{rules, ◌≡◌, [], ◌∷◌, ◌++◌, ◌∙◌, sym, subst, arith}
use Rattle.std.proofs.lemmas.List.{length-append}
use Rattle.lj_base.proofs.Lists.{AllByRecursion-push}
use Rattle.lj_board.specs.Seen.{PassView}
use Rattle.lj_gate.specs.Whole.{IsSmall}
use Rattle.lj_gate.proofs.serves.split_all.Goals as goal

pub loop-preserved : goal.loop-preserved
loop-preserved g c =
    let f = g.S.Serving.frame in
    let b = c.args.board.now in
    let other = c.split-other.result in
    let e : c.push.new.self.items ≡ c.loop.passes.items ++ other ∷ [] = search rules in
    let same : c.args.pass ≡ other = sym (c.split-other.ensures.new ∙ c.loop.invariant.pass) in
    record {
      pass = c.split-other.ensures.same ∙ c.loop.invariant.pass;
      count = rw e (omega (arith, c.loop.invariant.count, length-append c.loop.passes.items (other ∷ [])));
      passes = rw e (AllByRecursion-push (IsSmall f b) c.loop.passes.items other c.loop.invariant.passes
          (subst (λ (p : PassView). IsSmall f b p) same c.requires));
    }
