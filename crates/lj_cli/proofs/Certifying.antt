-- What a certificate of a script comes to.
use Rattle.std.proofs.Common.{◌≡◌, ◌∙◌, ◌⊎◌, ℕ, Bool, List, [], ◌++◌, arith, refl, sym, ap, subst, inl, inr}
use Rattle.lj_base.specs.Cells.{IsCell}
use Rattle.lj_base.specs.Frames.{Top}
use Rattle.lj_build.specs.Building.{IsWholeBuilt}
use Rattle.lj_build.specs.Runs.{AreBuilt, IsBuildOutput, IsReport, report_of, sections_text, uploads_of}
use Rattle.lj_cert.specs.Certificates.{IsCert}
use Rattle.lj_cert.specs.Good.{IsGood, bounds_of}
use Rattle.lj_cert.specs.Values.{CertValue}
use Rattle.lj_cover.specs.Rules.{Upload}
use Rattle.lj_script.specs.Faults.{IsScriptFault}
use Rattle.lj_script.specs.Scripts.{IsScript}
use Rattle.lj_script.specs.Values.{ScriptValue, SectionValue}
use Rattle.lj_script.specs.declared.faults.ScriptFault.{ScriptFault}
use Rattle.lj_script.specs.declared.faults.ScriptFault.TheVariants.{Memory}
use Rattle.lj_session.specs.AcceptedUploads.{AreAcceptedOfAll}
use Rattle.lj_session.specs.declared.ends.SessionEnd.{SessionEnd}
use Rattle.lj_table.specs.Tables.{Contents}
use Rattle.lj_cli.specs.AuditOutput.{IsAuditOutput, IsRested}
use Rattle.lj_cli.specs.BuildOutput.{EndsWithReport, IsBuildCommandOutput, script_fault_line}
use Rattle.lj_cli.specs.CertifyOutput.{AreCheckedIn, EndsWithBounds, IsCertificateOf, IsCertified, IsCertifyOutput}
use Rattle.lj_cli.specs.CertifyOutput.{IsScriptCertificate}
use Rattle.lj_cli.specs.declared.status.TheConstants.{DONE, FAULTY}
use Rattle.lj_cli.proofs.HeldUploads.{checked_of_script}

-- the table of a script that was built holds such uploads as a certificate does
pub checked_of_built : (bytes : List ℕ) (script : ScriptValue) (ends : List SessionEnd) (t : Contents)
    → IsScript bytes script → IsWholeBuilt script ends t → AreCheckedIn t.arena.frame t.arena.uploads
checked_of_built bytes script ends t spelled built =
    let checked = checked_of_script bytes script (uploads_of ends) spelled built.accepted in
    subst (λ (us : List Upload). AreCheckedIn t.arena.frame us) (sym built.rests.uploads_are)
    (subst (λ (f : Top). AreCheckedIn f (uploads_of ends)) (sym built.rests.frame) checked)

-- and its certificate is that of the script
pub certificate_of_built : (script : ScriptValue) (ends : List SessionEnd) (t : Contents) (text : List ℕ)
    → IsWholeBuilt script ends t → IsCertificateOf t.arena.frame t.arena.uploads text → IsScriptCertificate script text
certificate_of_built script ends t text built h = record {
  uploads = uploads_of ends;
  accepted = built.accepted;
  certificate = subst (λ (f : Top). IsCertificateOf f (uploads_of ends) text) built.rests.frame
      (subst (λ (us : List Upload). IsCertificateOf t.arena.frame us text) built.rests.uploads_are h);
}

-- the line of a fault that is one of the bytes
pub certify_fault : (bytes line : List ℕ) (fault : ScriptFault) → (fault ≡ Memory) ⊎ IsScriptFault bytes fault
    → (fault ≡ Memory → ⊥) → line ≡ script_fault_line fault → IsCertifyOutput bytes line FAULTY
certify_fault bytes line fault (inl e) other is = absurd (other e)
certify_fault bytes line fault (inr h) other is =
    inr (record { fault = fault; found = h; line = is; faulty = refl })

-- what is printed with status 0 is a certificate of a script
certified : (bytes text : List ℕ) → IsCertifyOutput bytes text DONE → IsCertified bytes text DONE
certified bytes text (inl h) = h
certified bytes text (inr h) = absurd (omega (arith, h.faulty))

module _ (scripts : (bytes : List ℕ) (a b : ScriptValue) → IsScript bytes a → IsScript bytes b → a ≡ b)
    (faults : (bytes : List ℕ) (f g : ScriptFault) → IsScriptFault bytes f → IsScriptFault bytes g → f ≡ g)
    (either : (bytes : List ℕ) (script : ScriptValue) (fault : ScriptFault) → IsScript bytes script
    → IsScriptFault bytes fault → ⊥) where
  pub of_script : (bytes text : List ℕ) (status : ℕ) (script : ScriptValue) → IsCertifyOutput bytes text status
      → IsScript bytes script → (status ≡ DONE) × IsScriptCertificate script text
  of_script bytes text status script (inl h) is = (
    h.done,
    subst (λ (s : ScriptValue). IsScriptCertificate s text) (scripts bytes h.script script h.spelled is)
        h.certificate,
  )
  of_script bytes text status script (inr h) is = absurd (either bytes script h.fault is h.found)

  pub of_fault : (bytes text : List ℕ) (status : ℕ) (fault : ScriptFault) → IsCertifyOutput bytes text status
      → IsScriptFault bytes fault → (status ≡ FAULTY) × (text ≡ script_fault_line fault)
  of_fault bytes text status fault (inl h) is = absurd (either bytes h.script fault h.spelled is)
  of_fault bytes text status fault (inr h) is =
      (h.faulty, h.line ∙ ap (λ (f : ScriptFault). script_fault_line f) (faults bytes h.fault fault h.found is))

-- a certificate that is printed is good when it is audited
pub audits_well : ((bytes text : List ℕ) (status : ℕ) (cert : CertValue) → IsAuditOutput bytes text status
    → IsCert bytes cert → IsGood cert → IsRested cert text status)
    → (bytes text other : List ℕ) (ended : ℕ) → IsCertifyOutput bytes text DONE → IsAuditOutput text other ended
    → ended ≡ DONE
audits_well of_good bytes text other ended h audit =
    let c = (certified bytes text h).certificate.certificate in
    (of_good text other ended c.cert audit c.spelled c.good).done

module _ (scripts : (bytes : List ℕ) (a b : ScriptValue) → IsScript bytes a → IsScript bytes b → a ≡ b)
    (accepted : (f : Top) (earlier : List Upload) (sections : List SectionValue) (ends : List SessionEnd)
    → AreBuilt f earlier sections ends → AreAcceptedOfAll f sections (uploads_of ends))
    (sections : (f : Top) (sections : List SectionValue) (us vs : List Upload) → AreAcceptedOfAll f sections us
    → AreAcceptedOfAll f sections vs → us ≡ vs)
    (reports : (f : Top) (us : List Upload) (json : Bool) (a b : List ℕ) → IsCell f.top → IsReport f us json a
    → IsReport f us json b → a ≡ b) where
  -- a build of the script ends with the report of the certificate's bounds
  same_report : (json : Bool) (bytes text built : List ℕ) → IsCertified bytes text DONE
      → IsBuildCommandOutput json bytes built DONE → EndsWithBounds json bytes text built
  same_report json bytes text built h (inr k) = absurd (omega (arith, k.faulty))
  same_report json bytes text built h (inl k) =
      let script = h.script in
      let f : Top = script.frame in
      let us : List Upload = h.certificate.uploads in
      let c = h.certificate.certificate in
      let out = subst (λ (s : ScriptValue). IsBuildOutput s json built)
      (scripts bytes k.script script k.spelled h.spelled)
      k.output in
      let ends : List SessionEnd = out.0 in
      let last : List ℕ = out.1 in
      let same : uploads_of ends ≡ us =
      sections f script.clients (uploads_of ends) us (accepted f [] script.clients ends out.2)
      h.certificate.accepted in
      let here : IsReport f us json (report_of f json c.bounds) = (c.bounds, c.least, refl) in
      let there : IsReport f us json last = subst (λ (ws : List Upload). IsReport f ws json last) same out.3 in
      let equal : last ≡ report_of f json c.bounds =
      reports f us json last (report_of f json c.bounds) h.spelled.names_frame.in_limits there here in
      let shown : report_of f json (bounds_of c.cert) ≡ report_of f json c.bounds =
      ap (λ (bs : List ℕ). report_of f json bs) c.bounds_are in
      record {
        script = script;
        spelled = h.spelled;
        cert = c.cert;
        is_cert = c.spelled;
        report = record {
          uploads = us;
          accepted = h.certificate.accepted;
          is_report = subst (λ (r : List ℕ). IsReport f us json r) (sym shown) here;
          front = sections_text script.clients ends;
          text_is = out.4 ∙ ap (λ (r : List ℕ). sections_text script.clients ends ++ r) (equal ∙ sym shown);
        };
      }

  pub one_bounds : (json : Bool) (bytes text built : List ℕ) → IsCertifyOutput bytes text DONE
      → IsBuildCommandOutput json bytes built DONE → EndsWithBounds json bytes text built
  one_bounds json bytes text built h k = same_report json bytes text built (certified bytes text h) k
