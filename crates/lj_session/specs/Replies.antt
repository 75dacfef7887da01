-- The replies to a section's commands, one for each, whoever serves the client.
use Rattle.std.specs.Prelude.{◌≡◌, ◌⊎◌, ℕ, ◌+◌, ◌<◌, ◌≤◌, List, [], ◌∷◌, ◌++◌, Ok, Err, codes}
use Rattle.lj_base.specs.Cells.{Triple}
use Rattle.lj_base.specs.Frames.{InFrame, Top}
use Rattle.lj_cover.specs.Derivations.{EachRule, IsDerivation, IsIn, Tree, expand, root_cell, tree_cost}
use Rattle.lj_cover.specs.Rules.{ForUpload, Upload}
use Rattle.lj_deriv.specs.Texts.{Spelled}
use Rattle.lj_script.specs.declared.scripts.Command.{Command}
use Rattle.lj_script.specs.declared.scripts.Command.TheVariants.{Upload as Offered, UploadFile, Bound, Plan, Expand}
use Rattle.lj_script.specs.declared.scripts.Command.TheVariants.{Settle}
use Rattle.lj_session.specs.Outcomes.{Outcome, UploadGives, held, upload_of}
use Rattle.lj_session.specs.ReplyTexts.{accepted_line, bound_line, expand_reply, outside_line, plan_reply, refused_line}
use Rattle.lj_session.specs.ReplyTexts.{settled_line}
use Rattle.lj_session.specs.declared.limits.TheConstants.{MAX_WRITTEN}

-- a number that was reported for a cell
pub record Reported : Type 0 where
  pub cell : Triple
  pub number : ℕ

-- how far a section has come: its accepted uploads; the numbers that were reported, the last first; for each settle the
-- uploads that were accepted before it, the last first; and how many blocks its expand replies have
pub record Progress : Type 0 where
  pub own : List Upload
  pub reported : List Reported
  pub settles : List (List Upload)
  pub written : ℕ

abbrev pub no_progress : Progress
no_progress = record { own = []; reported = []; settles = []; written = 0 }

-- the progress with one upload more
abbrev pub and_upload : Progress → Upload → Progress
and_upload p u = record p { own = p.own ++ u ∷ [] }

-- the progress with one reported number more
abbrev pub and_number : Progress → Triple → ℕ → Progress
and_number p c b = record p { reported = record { cell = c; number = b } ∷ p.reported }

-- the progress with one reported number more, of which the blocks were written
abbrev pub and_blocks : Progress → Triple → ℕ → Progress
and_blocks p c b = record (and_number p c b) { written = p.written + b }

-- the progress with one settle more
abbrev pub and_settle : Progress → Progress
and_settle p = record p { settles = p.own ∷ p.settles }

-- how a client is served: the frame, the client's name, which numbers may be reported for a cell, and the uploads from
-- which derivations may be shown
pub record Service : Type 1 where
  pub frame : Top
  pub client : List ℕ
  pub Number : Progress → Triple → ℕ → Type 0
  pub Source : Progress → Upload → Type 0

-- a derivation that may be shown for a cell and its number
pub record IsShown (f : Top) (Source : Upload → Type 0) (c : Triple) (b : ℕ) (d : Tree) : Type 0 where
  pub derivation : IsDerivation d
  pub inside : IsIn f d
  pub from : EachRule (ForUpload Source) d
  pub cell_is : root_cell d ≡ c
  pub cost_is : tree_cost d ≡ b

-- the reply to an upload
abbrev pub outcome_line : List ℕ → Progress → Outcome → List ℕ
outcome_line name p (Ok d) = accepted_line (upload_of name (held p.own) d)
outcome_line name p (Err reason) = refused_line reason

-- the progress after an upload: a refused one changes nothing
abbrev pub and_outcome : List ℕ → Progress → Outcome → Progress
and_outcome name p (Ok d) = and_upload p (upload_of name (held p.own) d)
and_outcome name p (Err reason) = p

abbrev pub IsUploadReply : Service → Command → Progress → List ℕ → Progress → Type 0
IsUploadReply s command p text q =
    (outcome : Outcome) × UploadGives s.frame (held p.own) command outcome
    × (text ≡ outcome_line s.client p outcome) × (q ≡ and_outcome s.client p outcome)

-- the reply to a read: a cell that is not in the frame is named so, and for another a number is reported that may be
abbrev pub IsReadReply : Service → Triple → (ℕ → List ℕ → Progress → Type 0) → Progress → List ℕ → Progress → Type 0
IsReadReply s c Reports p text q =
    ((InFrame s.frame c → ⊥) × (text ≡ outside_line c) × (q ≡ p))
    ⊎ (InFrame s.frame c × (b : ℕ) × s.Number p c b × Reports b text q)

abbrev pub ReportsBound : Triple → Progress → ℕ → List ℕ → Progress → Type 0
ReportsBound c p b text q = (text ≡ bound_line (codes "bound") c b) × (q ≡ and_number p c b)

-- a derivation of that cost is spelled by its nodes' lines
abbrev pub ReportsPlan : Service → Triple → Progress → ℕ → List ℕ → Progress → Type 0
ReportsPlan s c p b text q =
    (d : Tree) × (nodes : List ℕ) × IsShown s.frame (s.Source p) c b d × Spelled d nodes
    × (text ≡ plan_reply c b nodes) × (q ≡ and_number p c b)

-- the blocks of a derivation of that cost are written, or, with those before them, they are too many
abbrev pub ReportsBlocks : Service → Triple → Progress → ℕ → List ℕ → Progress → Type 0
ReportsBlocks s c p b text q =
    ((p.written + b ≤ MAX_WRITTEN) × (d : Tree) × IsShown s.frame (s.Source p) c b d
    × (text ≡ expand_reply c b (expand d)) × (q ≡ and_blocks p c b))
    ⊎ ((MAX_WRITTEN < p.written + b) × (text ≡ bound_line (codes "toobig") c b) × (q ≡ and_number p c b))

-- the text is the reply to the command, which takes a section from progress p to q
abbrev pub IsReply : Service → Command → Progress → List ℕ → Progress → Type 0
IsReply s (Offered c body) p text q = IsUploadReply s (Offered c body) p text q
IsReply s (UploadFile body) p text q = IsUploadReply s (UploadFile body) p text q
IsReply s (Bound c) p text q = IsReadReply s c (ReportsBound c p) p text q
IsReply s (Plan c) p text q = IsReadReply s c (ReportsPlan s c p) p text q
IsReply s (Expand c) p text q = IsReadReply s c (ReportsBlocks s c p) p text q
IsReply s Settle p text q = (text ≡ settled_line) × (q ≡ and_settle p)

-- the text has one reply for each of the commands, in order, which take a section from progress p to q
abbrev pub AreReplies : Service → List Command → Progress → List ℕ → Progress → Type 0
AreReplies s [] p text q = (text ≡ []) × (q ≡ p)
AreReplies s (command ∷ commands) p text q =
    (here : List ℕ) × (rest : List ℕ) × (middle : Progress) × IsReply s command p here middle
    × AreReplies s commands middle rest q × (text ≡ here ++ rest)
