use Rattle.std.proofs.Common.{◌≡◌, arith, inr, length, refl}
use Rattle.std.proofs.lemmas.Grind.{common_steps}
use Rattle.lj_cert.proofs.FieldLists.{no_parts}
use Rattle.lj_cert.proofs.nodes.read_product.Goals as goal

pub returns-then-is_empty-clause-fault : goal.returns-then-is_empty-clause-fault
returns-then-is_empty-clause-fault c =
    let none : length c.in_ok-parts.parts ≡ 0 = grind (arith, common_steps) in
    let first = c.in-Some.ensures.first in
    inr (
      refl,
      λ v1 parts h. no_parts c.args.words c.next_number.new.words first.0 c.in_ok-parts.parts v1 parts first.1
          c.in_ok-parts.ensures.ok none h,
    )
