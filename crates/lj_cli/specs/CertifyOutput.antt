-- What is printed of a script as its certificate, and the status.
use Rattle.std.specs.Prelude.{◌≡◌, ◌⊎◌, ℕ, Bool, List, length}
use Rattle.std.specs.List.{AllByRecursion}
use Rattle.lj_base.specs.Frames.{Top}
use Rattle.lj_build.specs.Runs.{AreLeastBounds, report_of}
use Rattle.lj_cert.specs.Certificates.{IsCert}
use Rattle.lj_cert.specs.Good.{IsGood, bounds_of}
use Rattle.lj_cert.specs.Texts.{AreHeldIn, cert_text}
use Rattle.lj_cert.specs.Values.{CertValue, IsFormed}
use Rattle.lj_cover.specs.Rules.{Upload}
use Rattle.lj_deriv.specs.Forests.{ForestValue}
use Rattle.lj_script.specs.Scripts.{IsScript}
use Rattle.lj_script.specs.Values.{ScriptValue}
use Rattle.lj_session.specs.AcceptedUploads.{AreAcceptedOfAll}
use Rattle.lj_verify.specs.Limits.{IsWithinLimits}
use Rattle.lj_cli.specs.BuildOutput.{EndsWithReport, IsFaulted}
use Rattle.lj_cli.specs.declared.status.TheConstants.{DONE}

-- the text is a good certificate of the frame and these uploads, and its bounds are the least
pub record IsCertificateOf (f : Top) (uploads : List Upload) (text : List ℕ) : Type 0 where
  pub cert : CertValue
  pub spelled : IsCert text cert
  pub formed : IsFormed cert.frame cert.uploads cert.bounds
  pub good : IsGood cert
  pub frame_is : cert.frame ≡ f
  pub uploads_are : cert.uploads ≡ uploads
  pub bounds : List ℕ
  pub bounds_are : bounds_of cert ≡ bounds
  pub least : AreLeastBounds f uploads bounds
  pub forest : ForestValue
  pub text_is : text ≡ cert_text f uploads forest bounds

-- the text is a certificate of the script's frame and of the uploads that are accepted of the script
pub record IsScriptCertificate (script : ScriptValue) (text : List ℕ) : Type 0 where
  pub uploads : List Upload
  pub accepted : AreAcceptedOfAll script.frame script.clients uploads
  pub certificate : IsCertificateOf script.frame uploads text

-- the bytes spell a script, and the text is its certificate
pub record IsCertified (bytes text : List ℕ) (status : ℕ) : Type 0 where
  pub script : ScriptValue
  pub spelled : IsScript bytes script
  pub certificate : IsScriptCertificate script text
  pub done : status ≡ DONE

-- the text and the status of these bytes' certificate
abbrev pub IsCertifyOutput : List ℕ → List ℕ → ℕ → Type 0
IsCertifyOutput bytes text status = IsCertified bytes text status ⊎ IsFaulted bytes text status

-- uploads such as a certificate of the frame holds, each within the limits of a check
pub record AreCheckedIn (f : Top) (uploads : List Upload) : Type 0 where
  pub are_held : AreHeldIn f uploads
  pub within : AllByRecursion (λ (u : Upload). IsWithinLimits u.cell (length u.blocks)) uploads

-- the text is a certificate, and what was built of the bytes ends with the report of its bounds
pub record EndsWithBounds (json : Bool) (bytes text built : List ℕ) : Type 0 where
  pub script : ScriptValue
  pub spelled : IsScript bytes script
  pub cert : CertValue
  pub is_cert : IsCert text cert
  pub report : EndsWithReport script json built (report_of script.frame json (bounds_of cert))
