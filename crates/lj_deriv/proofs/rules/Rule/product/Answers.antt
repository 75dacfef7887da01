use Rattle.std.proofs.Common.{◌++◌, ap₂, length}
use Rattle.std.proofs.lemmas.List.{drop-replicate}
use Rattle.lj_deriv.specs.declared.rules.Part.{Part}
use Rattle.lj_deriv.specs.declared.rules.Rule.TheVariants.{Product}
use Rattle.lj_deriv.proofs.rules.Rule.product.Goals as goal

pub returns : goal.returns
returns c =
    let no_part : Part = record { a = 0; b = 0; l = 0; first = 0; second = 0 } in
    ap₂ (λ front rest. Product c.args.cell c.args.v1 (front ++ rest) (length c.args.parts.now))
    c.copy_from_slice.ensures.after (drop-replicate (length c.args.parts.now) 9 no_part)
