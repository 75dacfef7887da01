use Rattle.std.proofs.Common.{ℕ, List, subst}
use Rattle.std.specs.Prelude.{IfNone}
use Rattle.lj_blockfile.specs.BlockLines.{IsBlockLine}
use Rattle.lj_cover.specs.Rules.{Upload}
use Rattle.lj_cert.proofs.reading.block_of.Goals as goal

pub returns-clause-none : goal.returns-clause-none
returns-clause-none c =
    subst (λ (u : Upload). IfNone c.block_in.result ((b : List ℕ)
    → IsBlockLine c.args.text.now u.cell.v u.cell.k b → ⊥)) c.upload.view_is c.block_in.ensures.none
