use Rattle.std.proofs.Common.{◌≡◌, length, get_or, subst, sym}
use Rattle.std.proofs.lemmas.List.Elements.{Contains-get_or}
use Rattle.std.specs.List.{AllByRecursion, Contains}
use Rattle.lj_base.proofs.Lists.{AllByRecursion-both}
use Rattle.lj_deriv.specs.Trees.{trees_of, uploads_of}
use Rattle.lj_deriv.proofs.CopySteps.{IsAt, IsAt-kept}
use Rattle.lj_deriv.proofs.Sizes.{HasPlaces-full}
use Rattle.lj_deriv.proofs.copying.Copying.next_copy.Goals as goal

pub renumbered-requires : goal.renumbered-requires
renumbered-requires c = (length c.args.arena.now.rules, c.requires.copying.closed.ascends)

pub returns : goal.returns
returns c =
    let a = c.args.arena.now in
    let p = c.args.self.now.plan in
    let h = c.requires.copying in
    let numbers = c.args.numbers.now in
    let named = c.args.named.now in
    let r = c.rule-rule.result.now in
    let q = c.place_of_upload-upload.result in
    let one : Contains numbers c.args.node = subst (Contains numbers) (sym c.requires.next)
    (Contains-get_or numbers (length p.rules) 0 c.requires.more) in
    let all : AllByRecursion (Contains named) (uploads_of r) =
    subst (λ s. AllByRecursion (Contains named) (uploads_of s)) (sym c.rule-rule.ensures.node.rule)
    (h.named_by.all c.args.node one) in
    record {
      rule = r;
      number = q;
      is_next = c.requires.next;
      node = c.rule-rule.ensures.node;
      inside = c.rule-rule.ensures.inside;
      places =
          HasPlaces-full c.sizes_of_cuts.ensures.by_row a.uploads
          (trees_of a.uploads a.rules) r c.renumbered.ensures.full
          c.rule-rule.ensures.node.sound;
      upload = AllByRecursion-both (Contains named) (λ u. q ≡ get_or c.args.self.now.uploads.items u 0) (IsAt named q)
          (uploads_of r)
          (λ u has is. IsAt-kept a p named c.args.self.now.uploads.items q u h.uploads_copied h.all_uploads has is) all
          c.place_of_upload-upload.ensures;
      copy_is = c.renumbered.ensures.rule;
    }
