-- Sessions as contracts see them: a section whose commands are gone through one by one.
use Rattle.std.specs.Prelude.{◌≡◌, ◌⊎◌, ℕ, ◌+◌, ◌<◌, nat_lt, if◌then◌else◌, List, [], ◌∷◌, ◌++◌, Ok, Err, codes, drop}
use Rattle.std.specs.Prelude.{length}
use Rattle.lj_base.specs.Cells.{Triple}
use Rattle.lj_base.specs.Frames.{InFrame, Top}
use Rattle.lj_cover.specs.Derivations.{expand, root_cell, tree_cost}
use Rattle.lj_cover.specs.Designs.{Covering}
use Rattle.lj_cover.specs.Rules.{Upload, triple}
use Rattle.lj_deriv.specs.Nodes.{Steps, plan_tree}
use Rattle.lj_deriv.specs.Texts.{plan_text}
use Rattle.lj_script.specs.Values.{SectionValue}
use Rattle.lj_script.specs.declared.scripts.Command.{Command}
use Rattle.lj_script.specs.declared.scripts.Command.TheVariants as command
use Rattle.lj_upload.specs.Quotas.{Held}
use Rattle.lj_session.specs.Outcomes.{UploadGives, held, upload_of}
use Rattle.lj_session.specs.ReplyTexts.{accepted_line, bound_line, expand_reply, outside_line, plan_reply, refused_line}
use Rattle.lj_session.specs.ReplyTexts.{settled_line}
use Rattle.lj_session.specs.declared.asks.Ask.{Ask}
use Rattle.lj_session.specs.declared.asks.Ask.TheVariants.{Accept, Bound, Plan, Settle, Done}
use Rattle.lj_session.specs.declared.limits.TheConstants.{MAX_WRITTEN}
use Rattle.lj_session.specs.declared.reasons.Reason.{Reason}

pub record SessionValue : Type 0 where
  pub frame : Top
  pub section : SectionValue
  -- the commands that have no reply yet; while an ask waits, the first of them asks it
  pub left : List Command
  -- the uploads that were accepted
  pub own : List Upload
  -- how many blocks the expand replies have
  pub written : ℕ
  pub replies : List ℕ
  -- the ask that waits for its reply, or `Done` while none does
  pub ask : Ask

-- a session that has gone through no command
abbrev pub new_session : Top → SectionValue → SessionValue
new_session f section = record {
  frame = f;
  section = section;
  left = section.commands;
  own = [];
  written = 0;
  replies = [];
  ask = Done;
}

-- the reply that needs no table: to an upload that is refused, and to a read of a cell that is not in the frame
abbrev pub IsLocalReply : Top → Held → Command → List ℕ → Type 0
IsLocalReply f before (command.Upload c body) text =
    (reason : Reason) × UploadGives f before (command.Upload c body) (Err reason) × (text ≡ refused_line reason)
IsLocalReply f before (command.UploadFile body) text =
    (reason : Reason) × UploadGives f before (command.UploadFile body) (Err reason) × (text ≡ refused_line reason)
IsLocalReply f before (command.Bound c) text = (InFrame f c → ⊥) × (text ≡ outside_line c)
IsLocalReply f before (command.Plan c) text = (InFrame f c → ⊥) × (text ≡ outside_line c)
IsLocalReply f before (command.Expand c) text = (InFrame f c → ⊥) × (text ≡ outside_line c)
IsLocalReply f before command.Settle text = ⊥

-- such replies to commands, one after the other
abbrev pub AreLocalReplies : Top → Held → List Command → List ℕ → Type 0
AreLocalReplies f before [] text = text ≡ []
AreLocalReplies f before (first ∷ commands) text =
    (here : List ℕ) × (rest : List ℕ) × IsLocalReply f before first here
    × AreLocalReplies f before commands rest × (text ≡ here ++ rest)

-- what the command of a client of this name asks: that its upload be accepted, the number of its cell, a plan for its
-- cell, or that the table be settled
abbrev pub Asks : Top → List ℕ → Held → Command → Ask → Type 0
Asks f name before asking (Accept u) =
    (d : Covering) × UploadGives f before asking (Ok d) × (u ≡ upload_of name before d)
Asks f name before asking (Bound c) = (asking ≡ command.Bound c) × InFrame f c
Asks f name before asking (Plan c) = ((asking ≡ command.Plan c) ⊎ (asking ≡ command.Expand c)) × InFrame f c
Asks f name before asking Settle = asking ≡ command.Settle
Asks f name before asking Done = ⊥

-- the first command left asks this
pub record IsAsking (s : SessionValue) (ask : Ask) : Type 0 where
  pub first : Command
  pub others : List Command
  pub left : s.left ≡ first ∷ others
  pub asks : Asks s.frame s.section.name (held s.own) first ask

-- the session has gone from s to t over commands whose replies need no table
pub record GoesOn (s t : SessionValue) : Type 0 where
  pub passed : List Command
  pub text : List ℕ
  pub frame : t.frame ≡ s.frame
  pub section : t.section ≡ s.section
  pub own : t.own ≡ s.own
  pub written : t.written ≡ s.written
  pub left : s.left ≡ passed ++ t.left
  pub local : AreLocalReplies s.frame (held s.own) passed text
  pub replies : t.replies ≡ s.replies ++ text

-- what the ask says of the session: no command is left, or the first that is left asks this
abbrev pub IsNext : SessionValue → Ask → Type 0
IsNext s Done = s.left ≡ []
IsNext s ask = IsAsking s ask

-- the cell that is asked about, if any, is in the frame
abbrev pub AsksInside : Top → Ask → Type 0
AsksInside f (Accept u) = InFrame f u.cell
AsksInside f (Bound c) = InFrame f c
AsksInside f (Plan c) = InFrame f c
AsksInside f ask = Unit {0}

-- the upload of which is asked that it be accepted
abbrev pub asked_upload : Ask → Upload
asked_upload (Accept u) = u
asked_upload ask = record { client = []; ordinal = 0; cell = triple 0 0 0; blocks = [] }

-- the cell of which the number or a plan is asked
abbrev pub asked_cell : Ask → Triple
asked_cell (Bound c) = c
asked_cell (Plan c) = c
asked_cell ask = triple 0 0 0

-- the session after a reply to the first command left
abbrev pub with_reply : SessionValue → List ℕ → SessionValue
with_reply s text = record s { left = drop 1 s.left; replies = s.replies ++ text; ask = Done }

-- the session after the reply that the upload is accepted
abbrev pub with_upload : SessionValue → Upload → SessionValue
with_upload s u = record (with_reply s (accepted_line u)) { own = s.own ++ u ∷ [] }

-- the session after the reply to a bound
abbrev pub with_bound : SessionValue → Triple → ℕ → SessionValue
with_bound s c b = with_reply s (bound_line (codes "bound") c b)

-- the session after the reply to a settle
abbrev pub with_settle : SessionValue → SessionValue
with_settle s = with_reply s settled_line

-- the session after the reply to a plan
abbrev pub with_plan : SessionValue → Steps → SessionValue
with_plan s p =
    with_reply s (plan_reply (root_cell (plan_tree p)) (tree_cost (plan_tree p)) (plan_text p))

-- the session after the reply that the plan's blocks are too many
abbrev pub with_too_big : SessionValue → Steps → SessionValue
with_too_big s p = with_reply s (bound_line (codes "toobig") (root_cell (plan_tree p)) (tree_cost (plan_tree p)))

-- the session after the reply with the plan's blocks
abbrev pub with_blocks : SessionValue → Steps → SessionValue
with_blocks s p =
    let c = root_cell (plan_tree p) in
    let n : ℕ = tree_cost (plan_tree p) in
    record (with_reply s (expand_reply c n (expand (plan_tree p)))) { written = s.written + n }

-- the session after the reply to an expand: the blocks, or, where with those before them they are too many, that
abbrev pub with_expansion : SessionValue → Steps → SessionValue
with_expansion s p =
    if nat_lt MAX_WRITTEN (s.written + tree_cost (plan_tree p)) then with_too_big s p else with_blocks s p

-- the session after the reply to the first of its commands left, a plan or an expand
abbrev pub with_plan_for : SessionValue → List Command → Steps → SessionValue
with_plan_for s [] p = s
with_plan_for s (command.Plan c ∷ others) p = with_plan s p
with_plan_for s (command.Expand c ∷ others) p = with_expansion s p
with_plan_for s (other ∷ others) p = s

-- the first command left of the session has got its reply: no ask waits, and one command less is left
pub record Passes (s t : SessionValue) : Type 0 where
  pub frame : t.frame ≡ s.frame
  pub section : t.section ≡ s.section
  pub free : t.ask ≡ Done
  pub left : t.left ≡ drop 1 s.left
  pub less : length t.left < length s.left
