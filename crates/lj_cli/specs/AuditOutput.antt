-- What an audit prints for an input, and the status that it ends with.
use Rattle.std.specs.Prelude.{◌≡◌, ◌⊎◌, ℕ, ◌<◌, List, [], ◌∷◌, ◌++◌, codes, length}
use Rattle.lj_base.specs.Frames.{size_of}
use Rattle.lj_cert.specs.Certificates.{IsCert}
use Rattle.lj_cert.specs.Faults.{IsCertFault}
use Rattle.lj_cert.specs.Good.{IsGood, bounds_of}
use Rattle.lj_cert.specs.Refusals.{IsNo}
use Rattle.lj_cert.specs.Rests.{AreLeast}
use Rattle.lj_cert.specs.Values.{CertValue, IsFormed}
use Rattle.lj_cert.specs.declared.faults.CertFault.{CertFault}
use Rattle.lj_cert.specs.declared.faults.CertFault.TheVariants.{BadLine, TooManyUploads, Unended}
use Rattle.lj_cert.specs.declared.faults.CertFault.TheVariants.{Memory as FaultMemory}
use Rattle.lj_cert.specs.declared.refusals.No.{No}
use Rattle.lj_cert.specs.declared.refusals.No.TheVariants.{Upload as NoUpload, Node as NoNode, Bound as NoBound, Low}
use Rattle.lj_cert.specs.declared.refusals.No.TheVariants.{Memory}
use Rattle.lj_cover.specs.Rules.{Upload}
use Rattle.lj_deriv.specs.Trees.{upload_at}
use Rattle.lj_text.specs.Fields.{named}
use Rattle.lj_cli.specs.BuildOutput.{at_line}
use Rattle.lj_cli.specs.declared.audit_lines.UploadName.{UploadName}
use Rattle.lj_cli.specs.declared.status.TheConstants.{DONE, FAULTY, NOT_GOOD}

-- why bytes spell no certificate; that memory ran out has no words
abbrev pub cert_fault_text : CertFault → List ℕ
cert_fault_text (BadLine n) = at_line n (codes " bad line")
cert_fault_text (TooManyUploads n) = at_line n (codes " too many uploads")
cert_fault_text Unended = codes "no end"
cert_fault_text FaultMemory = []

abbrev pub cert_fault_line : CertFault → List ℕ
cert_fault_line fault = codes "fault " ++ cert_fault_text fault ++ 10 ∷ []

-- for bounds that are the least: the number of the uploads, and that of the cells
abbrev pub rest_line : ℕ → ℕ → List ℕ
rest_line uploads cells = named (codes "rest") (uploads ∷ cells ∷ []) ++ 10 ∷ []

-- the name and the ordinal of an upload
abbrev pub upload_name : Upload → UploadName
upload_name u = record { client = u.client; ordinal = u.ordinal }

abbrev pub upload_words : UploadName → List ℕ
upload_words n = codes "no upload " ++ named n.client (n.ordinal ∷ [])

-- why a certificate of these uploads is not good: the upload by its name and ordinal, the node by its number, the bound
-- by its cell, and a rule that costs less than a bound by the cell and the least such cost; that memory ran out has no
-- words
abbrev pub no_text : List Upload → No → List ℕ
no_text uploads (NoUpload place refusal) = upload_words (upload_name (upload_at uploads place))
no_text uploads (NoNode number) = named (codes "no node") (number ∷ [])
no_text uploads (NoBound c) = named (codes "no bound") (c.v ∷ c.k ∷ c.t ∷ [])
no_text uploads (Low c n) = named (codes "no rest") (c.v ∷ c.k ∷ c.t ∷ n ∷ [])
no_text uploads Memory = []

abbrev pub no_line : List Upload → No → List ℕ
no_line uploads why = no_text uploads why ++ 10 ∷ []

-- an upload that is named is there
abbrev pub IsThere : ℕ → No → Type 0
IsThere count (NoUpload place refusal) = place < count
IsThere count why = Unit {0}

-- the certificate is good; so its bounds are the least costs of derivations in its frame from its uploads
pub record IsRested (cert : CertValue) (text : List ℕ) (status : ℕ) : Type 0 where
  pub good : IsGood cert
  pub least : AreLeast (record { frame = cert.frame; uploads = cert.uploads; bounds = bounds_of cert })
  pub line : text ≡ rest_line (length cert.uploads) (size_of cert.frame)
  pub done : status ≡ DONE

-- the certificate is not good, for this reason
pub record IsDenied (cert : CertValue) (text : List ℕ) (status : ℕ) : Type 0 where
  pub why : No
  pub reason : IsNo cert why
  pub line : text ≡ no_line cert.uploads why
  pub not_good : status ≡ NOT_GOOD

-- what is printed of a certificate
abbrev pub IsAudited : CertValue → List ℕ → ℕ → Type 0
IsAudited cert text status = IsRested cert text status ⊎ IsDenied cert text status

-- the bytes spell a certificate, and this is printed of it
pub record IsCertAudited (bytes text : List ℕ) (status : ℕ) : Type 0 where
  pub cert : CertValue
  pub spelled : IsCert bytes cert
  pub formed : IsFormed cert.frame cert.uploads cert.bounds
  pub audited : IsAudited cert text status

-- the bytes have this fault, and the text is its line
pub record IsNoCert (bytes text : List ℕ) (status : ℕ) : Type 0 where
  pub fault : CertFault
  pub found : IsCertFault bytes fault
  pub line : text ≡ cert_fault_line fault
  pub faulty : status ≡ FAULTY

-- the text and the status of the audit of these bytes; they do not depend on the number of workers
abbrev pub IsAuditOutput : List ℕ → List ℕ → ℕ → Type 0
IsAuditOutput bytes text status = IsCertAudited bytes text status ⊎ IsNoCert bytes text status
