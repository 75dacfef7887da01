-- The headline of `serve`, word by word: which uploads are accepted, what each number that a client reads is worth, and
-- what the closing report says.
use Rattle.std.specs.Prelude.{◌≡◌, ◌↔◌, ℕ, ◌≤◌, Bool, IfSome, List, [], ◌∷◌, ◌++◌, length}
use Rattle.std.specs.List.{AllByRecursion, AllZip, Contains}
use Rattle.lj_base.specs.Blocks.{Covers}
use Rattle.lj_base.specs.Colex.{choose}
use Rattle.lj_base.specs.Frames.{InFrame, Top}
use Rattle.lj_base.specs.Streams.{Appends, IsAtEnd}
use Rattle.lj_base.specs.declared.limits.TheConstants.{MAX_INPUT}
use Rattle.lj_blockfile.specs.BlockFiles.{AreBlocksOf}
use Rattle.lj_blockfile.specs.Headers.{IsHeader}
use Rattle.lj_blockfile.specs.declared.headers.Header.{Header}
use Rattle.lj_build.specs.Runs.{AreBuilt, IsBuildOutput, IsReport, sections_text, uploads_of}
use Rattle.lj_cover.specs.Derivations.{DerivableIn, IsLeast, expand}
use Rattle.lj_cover.specs.Designs.{Covering}
use Rattle.lj_cover.specs.Rules.{Upload}
use Rattle.lj_script.specs.Scripts.{IsScript}
use Rattle.lj_script.specs.Values.{ScriptValue, SectionValue}
use Rattle.lj_script.specs.declared.scripts.Command.{Command}
use Rattle.lj_script.specs.declared.scripts.Command.TheVariants.{UploadFile}
use Rattle.lj_session.specs.AcceptedUploads.{AreAcceptedOf, AreAcceptedOfAll, IsAcceptedIn}
use Rattle.lj_session.specs.Offered.{Offers}
use Rattle.lj_session.specs.Outcomes.{held, upload_of}
use Rattle.lj_session.specs.Replies.{AreReplies, IsUploadReply, Progress, Reported, Service, no_progress}
use Rattle.lj_session.specs.ReplyTexts.{accepted_line}
use Rattle.lj_session.specs.ServeReplies.{serve_service}
use Rattle.lj_session.specs.declared.ends.SessionEnd.{SessionEnd}
use Rattle.lj_upload.specs.Quotas.{Admits, Held}
use Rattle.lj_text.specs.Inputs.{HasRead}
use Rattle.lj_verify.specs.Limits.{IsWithinLimits}
use Rattle.lj_cli.specs.Ends.{Input, Output}
use Rattle.lj_cli.specs.ServeOutput.{rebuilt_line}
use Rattle.lj_cli.specs.declared.status.TheConstants.{DONE}

-- the command is an upload of these blocks that is within the limits: it offers a text that has them; the header of a
-- file announces as many; the cell is in the frame; and neither the quota of a client that holds as much before nor a
-- limit of the check refuses it
pub record IsWithin (f : Top) (before : Held) (command : Command) (d : Covering) : Type 0 where
  pub text : List ℕ
  pub offers : Offers command d.cell text
  pub blocks : AreBlocksOf text d.cell.v d.cell.k d.blocks
  pub announces : (body : List ℕ) (h : Header) → command ≡ UploadFile body → IsHeader body h → h.n ≡ length d.blocks
  pub inside : InFrame f d.cell
  pub admits : Admits before (length d.blocks)
  pub within : IsWithinLimits d.cell (length d.blocks)

-- an upload within the limits is accepted exactly where its blocks cover, whatever else was accepted before
abbrev pub AcceptsCoverings : Service → Type 0
AcceptsCoverings service = (command : Command) (p q : Progress) (reply : List ℕ) (d : Covering)
    → IsUploadReply service command p reply q → IsWithin service.frame (held p.own) command d
    → (reply ≡ accepted_line (upload_of service.client (held p.own) d)) ↔ Covers d.blocks d.cell

-- the number is the cost of a derivation of the cell in the frame from the uploads, which gives as many blocks, and
-- they cover; and it is not below the least such cost
pub record IsFounded (f : Top) (us : List Upload) (r : Reported) : Type 0 where
  pub derivable : DerivableIn f us r.cell r.number
  pub count : length (expand derivable.tree) ≡ r.number
  pub covers : Covers (expand derivable.tree) r.cell
  pub least : (n : ℕ) → IsLeast f us r.cell n → n ≤ r.number

-- no number is above an earlier one for its cell, where the last one stands first
abbrev pub NeverRise : List Reported → Type 0
NeverRise [] = Unit {0}
NeverRise (r ∷ earlier) = AllByRecursion (λ e. e.cell ≡ r.cell → r.number ≤ e.number) earlier × NeverRise earlier

-- how a client of this name is served among the clients of a script
abbrev pub service_of : ScriptValue → List ℕ → Service
service_of script name = serve_service script.frame (λ c. choose c.v c.t) script.clients name

-- what the client of a section reads: one reply for each command, in which each number is founded on the uploads and
-- none rises
pub record IsClientRead (script : ScriptValue) (us : List Upload) (section : SectionValue)
    (e : SessionEnd) : Type 0 where
  pub end : Progress
  pub replies : AreReplies (service_of script section.name) section.commands no_progress e.replies end
  pub uploads : AcceptsCoverings (service_of script section.name)
  pub accepted : AreAcceptedOf script.frame section e.accepted
  pub founded : AllByRecursion (IsFounded script.frame us) end.reported
  pub fall : NeverRise end.reported

-- the text is what `serve` promises of a script: for each client its line and its replies, the closing report, and
-- whether the table was made anew
pub record IsHeadline (script : ScriptValue) (json : Bool) (text : List ℕ) : Type 0 where
  pub ends : List SessionEnd
  pub report : List ℕ
  pub rebuilt : Bool
  pub text_is : text ≡ sections_text script.clients ends ++ (report ++ rebuilt_line rebuilt)
  pub clients : AllZip (IsClientRead script (uploads_of ends)) script.clients ends
  -- the script alone fixes the accepted uploads, and plans and blocks are of derivations from these
  pub accepted : AreAcceptedOfAll script.frame script.clients (uploads_of ends)
  pub sources : (u : Upload) → IsAcceptedIn script.frame script.clients u ↔ Contains (uploads_of ends) u
  -- the report has for each cell the least cost of a derivation in the frame from them
  pub least : IsReport script.frame (uploads_of ends) json report
  -- and it is that of each output of `build` for the script, byte by byte
  pub as_build : (other : List ℕ) → IsBuildOutput script json other → (others : List SessionEnd)
      × AreBuilt script.frame [] script.clients others × (other ≡ sections_text script.clients others ++ report)

-- a run read its input to the end without a fault, and these bytes are what it read, which are all that its source had,
-- where it reports them; they spell a script, and what was written is what `serve` promises of it
pub record KeepsHeadline (json : Bool) (i : Input) (o : Output) : Type 0 where
  pub bytes : List ℕ
  pub read : HasRead i.left i.left_now bytes MAX_INPUT
  pub at_end : IsAtEnd i.left_now
  pub no_fault : i.faults_now ≡ i.faults
  pub all : IfSome i.left (λ left. bytes ≡ left)
  pub script : ScriptValue
  pub spelled : IsScript bytes script
  pub text : List ℕ
  pub headline : IsHeadline script json text
  pub written : Appends o.written o.written_now text

-- a run that ends with status 0 keeps the promises of `serve`
abbrev pub HasHeadline : Bool → Input → Output → ℕ → Type 0
HasHeadline json i o ended = ended ≡ DONE → KeepsHeadline json i o
