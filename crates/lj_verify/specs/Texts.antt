-- The words for a refusal. What a check prints has `fault ` before those of a limit, a reply of a session `refused `
-- before all.
use Rattle.std.specs.Prelude.{ℕ, List, [], ◌∷◌, ◌++◌, codes}
use Rattle.lj_text.specs.Fields.{named, points_text}
use Rattle.lj_verify.specs.declared.refusals.Refusal.{Refusal}
use Rattle.lj_verify.specs.declared.refusals.Refusal.TheVariants.{Blocks, TSets, Marks, Uncovered, Memory}

-- a word, a space and a number; or `uncovered` and the points, from 1, each after a space; nothing for memory
abbrev pub refusal_text : Refusal → List ℕ
refusal_text (Blocks n) = named (codes "blocks") (n ∷ [])
refusal_text (TSets n) = named (codes "tsets") (n ∷ [])
refusal_text (Marks n) = named (codes "marks") (n ∷ [])
refusal_text (Uncovered s) = codes "uncovered" ++ points_text s
refusal_text Memory = []
