-- The rows at a cell, upload by upload.
use Rattle.std.proofs.Common.{◌≡◌, ℕ, ◌+◌, ◌<◌, cond, List, [], ◌∷◌, ◌++◌, length, take}
use Rattle.std.proofs.Common.{get_or, sym, ap, ◌∙◌, arith}
use Rattle.std.proofs.lemmas.List.{length-take-le, take_more}
use Rattle.lj_base.specs.Cells.{Triple}
use Rattle.lj_base.specs.declared.Row.{Row}
use Rattle.lj_cover.specs.Instances.{cut_counts, has_row, rows_at, rows_from}
use Rattle.lj_cover.specs.Rules.{Upload}

abbrev pub row_at : Upload → ℕ → Triple → Row
row_at u i c = record { upload = i; counts = cut_counts c.v u.blocks }

abbrev pub MoreRows : Type 0
MoreRows = (uploads others : List Upload) (c : Triple)
    → rows_at (uploads ++ others) c ≡ rows_at uploads c ++ rows_from (length uploads) others c

-- the rows of one upload more
pub next_rows : MoreRows → (c : Triple) (us : List Upload) (i : ℕ) (u : Upload) → i < length us → u ≡ get_or us i u
    → rows_at (take (i + 1) us) c ≡ rows_at (take i us) c ++ cond (has_row c u) (row_at u i c ∷ []) []
next_rows more c us i u inside is =
    let count : length (take i us) ≡ i = length-take-le i us (omega (arith, inside)) in
    ap (λ vs. rows_at vs c) (take_more us i u inside ∙ ap (λ v. take i us ++ v ∷ []) (sym is))
    ∙ more (take i us) (u ∷ []) c
    ∙ ap (λ n. rows_at (take i us) c ++ rows_from n (u ∷ []) c) count
