-- What an audit prints of its input.
use Rattle.std.proofs.Common.{◌≡◌, ◌∙◌, ◌⊎◌, ℕ, ◌<◌, List, [], ◌∷◌, ◌++◌, arith, length, map, refl, sym, ap, subst}
use Rattle.std.proofs.Common.{inl, inr}
use Rattle.std.proofs.lemmas.List.{length-append, length-map}
use Rattle.lj_cert.specs.Certificates.{IsCert}
use Rattle.lj_cert.specs.Faults.{IsCertFault}
use Rattle.lj_cert.specs.Good.{IsGood}
use Rattle.lj_cert.specs.Refusals.{IsNo}
use Rattle.lj_cert.specs.Values.{AreDistinct, CertValue, IsFormed}
use Rattle.lj_cert.specs.declared.faults.CertFault.{CertFault}
use Rattle.lj_cert.specs.declared.faults.CertFault.TheVariants.{Memory as FaultMemory}
use Rattle.lj_cert.specs.declared.refusals.No.{No}
use Rattle.lj_cert.specs.declared.refusals.No.TheVariants.{Upload as NoUpload, Node as NoNode, Bound as NoBound, Low}
use Rattle.lj_cert.specs.declared.refusals.No.TheVariants.{Memory}
use Rattle.lj_cover.specs.Rules.{Upload}
use Rattle.lj_cli.specs.AuditOutput.{IsAuditOutput, IsAudited, IsCertAudited, IsNoCert, IsRested, IsThere}
use Rattle.lj_cli.specs.AuditOutput.{cert_fault_line, no_line, upload_name}
use Rattle.lj_cli.specs.declared.audit_lines.UploadName.{UploadName}
use Rattle.lj_cli.specs.declared.status.TheConstants.{DONE, FAULTY, NOT_GOOD}

-- an upload that is refused is one of the certificate's
is_there : (cert : CertValue) (why : No) → IsNo cert why → IsThere (length cert.uploads) why
is_there cert (NoUpload place refusal) h =
    let all = ap (λ (us : List Upload). length us) h.uploads_are in
    let parts = length-append h.before (h.upload ∷ h.later) in
    let first = h.place_is in
    omega (arith, all, parts, first)
is_there cert (NoNode number) h = tt
is_there cert (NoBound c) h = tt
is_there cert (Low c n) h = tt
is_there cert Memory h = tt

pub named_there : (cert : CertValue) (names : List UploadName) (why : No) → names ≡ map upload_name cert.uploads
    → (why ≡ Memory) ⊎ IsNo cert why → (why ≡ Memory → ⊥) → IsThere (length names) why
named_there cert names why named (inl e) other = absurd (other e)
named_there cert names why named (inr h) other =
    let count : length cert.uploads ≡ length names =
    sym (ap (λ (ns : List UploadName). length ns) named ∙ length-map cert.uploads upload_name) in
    subst (λ (n : ℕ). IsThere n why) count (is_there cert why h)

-- the line of the reason that a certificate has
pub denied : (cert : CertValue) (line : List ℕ) (why : No) → (why ≡ Memory) ⊎ IsNo cert why → (why ≡ Memory → ⊥)
    → line ≡ no_line cert.uploads why → IsAudited cert line NOT_GOOD
denied cert line why (inl e) other is = absurd (other e)
denied cert line why (inr h) other is = inr (record { why = why; reason = h; line = is; not_good = refl })

-- the line of a fault that is one of the bytes
pub no_cert : (bytes line : List ℕ) (fault : CertFault) → (fault ≡ FaultMemory) ⊎ IsCertFault bytes fault
    → (fault ≡ FaultMemory → ⊥) → line ≡ cert_fault_line fault → IsAuditOutput bytes line FAULTY
no_cert bytes line fault (inl e) other is = absurd (other e)
no_cert bytes line fault (inr h) other is = inr (record { fault = fault; found = h; line = is; faulty = refl })

module _ (certs : (bytes : List ℕ) (a b : CertValue) → IsCert bytes a → IsCert bytes b → a ≡ b)
    (faults : (bytes : List ℕ) (f g : CertFault) → IsCertFault bytes f → IsCertFault bytes g → f ≡ g)
    (either : (bytes : List ℕ) (cert : CertValue) (fault : CertFault) → IsCert bytes cert → IsCertFault bytes fault
    → ⊥)
    (one_no : (cert : CertValue) (a b : No) → AreDistinct cert.uploads → IsNo cert a → IsNo cert b → a ≡ b)
    (never : (cert : CertValue) (why : No) → AreDistinct cert.uploads → IsGood cert → IsNo cert why → ⊥) where
  -- what is printed of a certificate that the bytes spell
  audited_of : (bytes text : List ℕ) (status : ℕ) (cert : CertValue) → IsAuditOutput bytes text status
      → IsCert bytes cert → IsFormed cert.frame cert.uploads cert.bounds × IsAudited cert text status
  audited_of bytes text status cert (inl h) is =
      subst (λ (x : CertValue). IsFormed x.frame x.uploads x.bounds × IsAudited x text status)
      (certs bytes h.cert cert h.spelled is) (h.formed, h.audited)
  audited_of bytes text status cert (inr h) is = absurd (either bytes cert h.fault is h.found)

  rested : (cert : CertValue) (text : List ℕ) (status : ℕ) → AreDistinct cert.uploads → IsAudited cert text status
      → IsGood cert → IsRested cert text status
  rested cert text status distinct (inl h) good = h
  rested cert text status distinct (inr h) good = absurd (never cert h.why distinct good h.reason)

  pub of_good : (bytes text : List ℕ) (status : ℕ) (cert : CertValue) → IsAuditOutput bytes text status
      → IsCert bytes cert → IsGood cert → IsRested cert text status
  of_good bytes text status cert h is good =
      let a = audited_of bytes text status cert h is in rested cert text status a.0.distinct a.1 good

  refused : (cert : CertValue) (text : List ℕ) (status : ℕ) (why : No) → AreDistinct cert.uploads
      → IsAudited cert text status → IsNo cert why → (status ≡ NOT_GOOD) × (text ≡ no_line cert.uploads why)
  refused cert text status why distinct (inl h) reason = absurd (never cert why distinct h.good reason)
  refused cert text status why distinct (inr h) reason = (
    h.not_good,
    h.line ∙ ap (λ (x : No). no_line cert.uploads x) (one_no cert h.why why distinct h.reason reason),
  )

  pub of_refused : (bytes text : List ℕ) (status : ℕ) (cert : CertValue) (why : No) → IsAuditOutput bytes text status
      → IsCert bytes cert → IsNo cert why → (status ≡ NOT_GOOD) × (text ≡ no_line cert.uploads why)
  of_refused bytes text status cert why h is reason =
      let a = audited_of bytes text status cert h is in refused cert text status why a.0.distinct a.1 reason

  pub of_fault : (bytes text : List ℕ) (status : ℕ) (fault : CertFault) → IsAuditOutput bytes text status
      → IsCertFault bytes fault → (status ≡ FAULTY) × (text ≡ cert_fault_line fault)
  of_fault bytes text status fault (inl h) is = absurd (either bytes h.cert fault h.spelled is)
  of_fault bytes text status fault (inr h) is =
      (h.faulty, h.line ∙ ap (λ (f : CertFault). cert_fault_line f) (faults bytes h.fault fault h.found is))

  one_of_cert : (bytes text other : List ℕ) (status ended : ℕ) (cert : CertValue) → IsCert bytes cert
      → IsAuditOutput bytes text status → IsAudited cert other ended → (text ≡ other) × (status ≡ ended)
  one_of_cert bytes text other status ended cert is h (inl rest) =
      let also = of_good bytes text status cert h is rest.good in
      (also.line ∙ sym rest.line, also.done ∙ sym rest.done)
  one_of_cert bytes text other status ended cert is h (inr denial) =
      let also = of_refused bytes text status cert denial.why h is denial.reason in
      (also.1 ∙ sym denial.line, also.0 ∙ sym denial.not_good)

  pub one_audit : (bytes text other : List ℕ) (status ended : ℕ) → IsAuditOutput bytes text status
      → IsAuditOutput bytes other ended → (text ≡ other) × (status ≡ ended)
  one_audit bytes text other status ended h (inl k) =
      one_of_cert bytes text other status ended k.cert k.spelled h k.audited
  one_audit bytes text other status ended h (inr k) =
      let also = of_fault bytes text status k.fault h k.found in (also.1 ∙ sym k.line, also.0 ∙ sym k.faulty)
