-- The lines of replies.
use Rattle.std.specs.Prelude.{ℕ, List, [], ◌∷◌, ◌++◌, codes, length}
use Rattle.lj_base.specs.Cells.{Triple}
use Rattle.lj_text.specs.Fields.{named}
use Rattle.lj_blockfile.specs.BlockFiles.{blocks_text}
use Rattle.lj_blockfile.specs.FaultTexts.{body_fault_text}
use Rattle.lj_cover.specs.Rules.{Upload}
use Rattle.lj_upload.specs.declared.quotas.QuotaFull.{QuotaFull}
use Rattle.lj_upload.specs.declared.quotas.QuotaFull.TheVariants.{Uploads, Blocks}
use Rattle.lj_verify.specs.Texts.{refusal_text}
use Rattle.lj_session.specs.declared.reasons.Reason.{Reason}
use Rattle.lj_session.specs.declared.reasons.Reason.TheVariants.{Header, Outside, Body, Count, Quota, Check}

-- a word and, each after a space, numbers, as a line
abbrev pub numbers_line : List ℕ → List ℕ → List ℕ
numbers_line word numbers = named word numbers ++ 10 ∷ []

-- a word and a cell
abbrev pub cell_line : List ℕ → Triple → List ℕ
cell_line word c = numbers_line word (c.v ∷ c.k ∷ c.t ∷ [])

-- a word, a cell and a number of blocks
abbrev pub bound_line : List ℕ → Triple → ℕ → List ℕ
bound_line word c b = numbers_line word (c.v ∷ c.k ∷ c.t ∷ b ∷ [])

-- the client's ordinal of the upload, and the number of its blocks
abbrev pub accepted_line : Upload → List ℕ
accepted_line u = numbers_line (codes "accepted") (u.ordinal ∷ length u.blocks ∷ [])

abbrev pub quota_text : QuotaFull → List ℕ
quota_text (Uploads n) = named (codes "quota uploads") (n ∷ [])
quota_text (Blocks n) = named (codes "quota blocks") (n ∷ [])

-- the words for a reason
abbrev pub reason_text : Reason → List ℕ
reason_text Header = codes "header"
reason_text Outside = codes "outside frame"
reason_text (Body fault) = body_fault_text fault
reason_text (Count announced found) = named (codes "count") (announced ∷ found ∷ [])
reason_text (Quota full) = quota_text full
reason_text (Check refusal) = refusal_text refusal

abbrev pub refused_line : Reason → List ℕ
refused_line reason = codes "refused " ++ (reason_text reason ++ 10 ∷ [])

-- a read of a cell that is not in the frame
abbrev pub outside_line : Triple → List ℕ
outside_line c = cell_line (codes "outside") c

abbrev pub settled_line : List ℕ
settled_line = codes "settled" ++ 10 ∷ []

-- the reply to a plan, with the lines of its nodes
abbrev pub plan_reply : Triple → ℕ → List ℕ → List ℕ
plan_reply c b nodes = bound_line (codes "plan") c b ++ (nodes ++ (codes "end" ++ 10 ∷ []))

-- the reply to an expand, with its blocks
abbrev pub expand_reply : Triple → ℕ → List (List ℕ) → List ℕ
expand_reply c b blocks = bound_line (codes "expand") c b ++ blocks_text blocks
