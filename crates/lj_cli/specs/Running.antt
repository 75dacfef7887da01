-- How the run of each command ends, and what was printed of a script.
use Rattle.std.specs.Prelude.{◌≡◌, ℕ, Bool, List}
use Rattle.lj_base.specs.Streams.{Appends}
use Rattle.lj_build.specs.Runs.{IsBuildOutput}
use Rattle.lj_gen.specs.Generated.{gen_text}
use Rattle.lj_script.specs.Values.{ScriptValue}
use Rattle.lj_cli.specs.AuditOutput.{IsAuditOutput}
use Rattle.lj_cli.specs.BigOutput.{IsBigCommandOutput}
use Rattle.lj_cli.specs.BuildOutput.{IsBuildCommandOutput}
use Rattle.lj_cli.specs.CertifyOutput.{IsCertifyOutput}
use Rattle.lj_cli.specs.CheckOutput.{IsCheckOutput}
use Rattle.lj_cli.specs.CountOutput.{IsExcessOutput, IsGreedyOutput, IsReduceOutput}
use Rattle.lj_cli.specs.Ends.{Ends, EndsUnread, EndsWithin, EndsWithOutput, EndsWithText, Input, Output}
use Rattle.lj_cli.specs.Headline.{HasHeadline}
use Rattle.lj_cli.specs.ServeOutput.{IsServeCommandOutput, IsServeOutput}
use Rattle.lj_cli.specs.declared.limits.TheConstants.{MAX_CERT_INPUT}
use Rattle.lj_cli.specs.declared.status.TheConstants.{DONE}
use Rattle.lj_cli.specs.declared.words.Call.{Call}
use Rattle.lj_cli.specs.declared.words.Call.TheVariants.{Check, Build, Serve, Gen, Big, Excess, Greedy, Reduce}
use Rattle.lj_cli.specs.declared.words.Call.TheVariants.{Certify, Audit}

-- how a run of `serve` ends, and that it keeps the promises of the headline
pub record EndsServed (json : Bool) (i : Input) (o : Output) (ended : ℕ) : Type 0 where
  pub ends : Ends (IsServeCommandOutput json) i o ended
  pub headline : HasHeadline json i o ended

-- how the run of a command ends
abbrev pub EndsAs : Call → Input → Output → ℕ → Type 0
EndsAs (Check call) i o ended = Ends (IsCheckOutput call.cell) i o ended
EndsAs (Build json) i o ended = Ends (IsBuildCommandOutput json) i o ended
EndsAs (Serve call) i o ended = EndsServed call.json i o ended
EndsAs (Big call) i o ended = EndsUnread (EndsWithOutput (IsBigCommandOutput call.m)) i o ended
EndsAs (Gen m) i o ended = EndsUnread (EndsWithText (gen_text m)) i o ended
EndsAs (Excess cell) i o ended = Ends (IsExcessOutput cell) i o ended
EndsAs (Greedy cell) i o ended = EndsUnread (EndsWithOutput (IsGreedyOutput cell)) i o ended
EndsAs (Reduce cell) i o ended = Ends (IsReduceOutput cell) i o ended
EndsAs Certify i o ended = Ends IsCertifyOutput i o ended
EndsAs (Audit workers) i o ended = EndsWithin MAX_CERT_INPUT IsAuditOutput i o ended

-- a text that the script comes to was written whole, and the run ended well
abbrev pub HasBuilt : ScriptValue → Bool → Output → ℕ → Type 0
HasBuilt script json o ended =
    (text : List ℕ) × (ended ≡ DONE) × IsBuildOutput script json text × Appends o.written o.written_now text

-- a text that `serve` may print of the script was written whole, and the run ended well
abbrev pub HasServed : ScriptValue → Bool → Output → ℕ → Type 0
HasServed script json o ended =
    (text : List ℕ) × (ended ≡ DONE) × IsServeOutput script json text × Appends o.written o.written_now text
