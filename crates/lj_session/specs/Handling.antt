-- One command that a session goes through: it replies to it, or it asks.
use Rattle.std.specs.Prelude.{◌≡◌, ℕ, ◌+◌, ◌≤◌, Bool, true, false, List, [], ◌∷◌, ◌++◌, Ok, Err, drop, length}
use Rattle.lj_base.specs.Cells.{Triple}
use Rattle.lj_base.specs.Frames.{InFrame, Top}
use Rattle.lj_script.specs.declared.scripts.Command.{Command}
use Rattle.lj_script.specs.declared.scripts.Command.TheVariants.{Plan, Expand}
use Rattle.lj_upload.specs.Quotas.{Held}
use Rattle.lj_session.specs.Outcomes.{Outcome, held, upload_of}
use Rattle.lj_session.specs.ReplyTexts.{outside_line, refused_line}
use Rattle.lj_session.specs.Sessions.{Asks, GoesOn, IsAsking, IsLocalReply, SessionValue}
use Rattle.lj_session.specs.declared.asks.Ask.{Ask}
use Rattle.lj_session.specs.declared.asks.Ask.TheVariants.{Accept, Done}

-- the command has this reply, or it asks
abbrev pub Handles : Top → List ℕ → Held → Command → List ℕ → Ask → Type 0
Handles f name before command text Done = IsLocalReply f before command text
Handles f name before command text ask = (text ≡ []) × Asks f name before command ask

-- a command was handled, and its reply, if it has one, was appended
pub record IsHandled (f : Top) (name : List ℕ) (before : Held) (command : Command) (old now : List ℕ)
    (ask : Ask) : Type 0 where
  pub text : List ℕ
  pub appended : now ≡ old ++ text
  pub handles : Handles f name before command text ask

-- an upload of a client with this outcome was handled: it asks to be accepted, or the reply that it is refused was
-- appended
abbrev pub HandlesOutcome : List ℕ → Held → Outcome → List ℕ → List ℕ → Ask → Type 0
HandlesOutcome name before (Ok d) old now ask = (now ≡ old) × (ask ≡ Accept (upload_of name before d))
HandlesOutcome name before (Err reason) old now ask = (now ≡ old ++ refused_line reason) × (ask ≡ Done)

-- a cell is in the frame, or the reply that it is not was appended
abbrev pub Reads : Top → Triple → List ℕ → List ℕ → Bool → Type 0
Reads f c old now true = InFrame f c × (now ≡ old)
Reads f c old now false = (InFrame f c → ⊥) × (now ≡ old ++ outside_line c)

-- the first command left of a session was handled
pub record HandlesFirst (s : SessionValue) (old now : List ℕ) (ask : Ask) : Type 0 where
  pub first : Command
  pub others : List Command
  pub left : s.left ≡ first ∷ others
  pub handled : IsHandled s.frame s.section.name (held s.own) first old now ask

-- the commands left after one that was handled: it stays where it asks
abbrev pub left_after : Ask → List Command → List Command
left_after Done commands = drop 1 commands
left_after ask commands = commands

-- the session has handled its first command left
pub record TakesOne (s t : SessionValue) : Type 0 where
  pub text : List ℕ
  pub handled : HandlesFirst s [] text t.ask
  pub now : t ≡ record s { left = left_after t.ask s.left; replies = s.replies ++ text; ask = t.ask }

-- an ask waits and the first command left asks it, or none waits
abbrev pub Waits : SessionValue → Ask → Type 0
Waits s Done = Unit {0}
Waits s ask = IsAsking s ask

-- the session has gone on, up to a command that asks, if an ask waits
pub record GoesOnToAsk (s t : SessionValue) : Type 0 where
  pub goes_on : GoesOn s t
  pub waits : Waits t t.ask

-- how much is left to go through before an ask waits
abbrev pub work_left : Ask → List Command → ℕ
work_left Done commands = length commands + 1
work_left ask commands = 0

-- of the commands left the first asks for a plan for the cell: an expand where it is to be expanded
abbrev pub IsAskedBy : List Command → Triple → Bool → Type 0
IsAskedBy commands c false = (others : List Command) × (commands ≡ Plan c ∷ others)
IsAskedBy commands c true = (1 ≤ c.k) × (others : List Command) × (commands ≡ Expand c ∷ others)
