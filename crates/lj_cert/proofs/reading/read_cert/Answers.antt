use Rattle.std.proofs.Common.{◌≡◌, ◌⊎◌, ℕ, List, [], Result, Ok, Err, arith, sym, subst, ap₂, inl, inr}
use Rattle.std.proofs.lemmas.Grind.{common_steps}
use Rattle.std.proofs.lemmas.Result.{err_from_is_err_and}
use Rattle.std.specs.List.{AllByRecursion}
use Rattle.std.specs.Prelude.{IfErr, IfOk, MatchResult}
use Rattle.lj_text.specs.Lines.{IsLineOf}
use Rattle.lj_text.specs.declared.lines.Line.{Line}
use Rattle.lj_cert.specs.Certificates.{IsCert, Progress, Says, TakesAt, progress, texts_of}
use Rattle.lj_cert.specs.Faults.{IsCertFault}
use Rattle.lj_cert.specs.Values.{CertValue}
use Rattle.lj_cert.specs.declared.faults.CertFault.{CertFault}
use Rattle.lj_cert.specs.declared.faults.CertFault.TheVariants.{Unended, Memory}
use Rattle.lj_cert.specs.declared.reading.Stage.{Stage}
use Rattle.lj_cert.specs.declared.reading.Stage.TheVariants.{Ended}
use Rattle.lj_cert.proofs.Reaching.{IsFound, IsReached, found-first, found-last, found-later, reached-all}
use Rattle.lj_cert.proofs.Reaching.{reached-first, reached-more}
use Rattle.lj_cert.proofs.reading.read_cert.Goals as goal

-- bytes that spell a certificate have no fault
only_memory : (bytes : List ℕ) (found : CertFault) → (IsCertFault bytes found → ⊥) → IsFound bytes found
    → found ≡ Memory
only_memory bytes found none (inl memory) = memory
only_memory bytes found none (inr h) = absurd (none h)

found_or_memory : (bytes : List ℕ) (found fault : CertFault) → (IsCertFault bytes found → found ≡ fault)
    → IsFound bytes found → (found ≡ fault) ⊎ (found ≡ Memory)
found_or_memory bytes found fault same (inl memory) = inr memory
found_or_memory bytes found fault same (inr h) = inl (same h)

pub loop-line-init : goal.loop-line-init
loop-line-init c =
    let bytes = c.args.bytes.now in
    let read = c.in_ok-frame.ensures.frame in
    let inside = subst (AllByRecursion (IsLineOf bytes)) read.lines_are c.of-lines.ensures.inside in
    record {
      reached = rw c.of-reading.ensures (reached-first bytes _ _ _ c.of-lines.ensures.walk read);
      inside = inside.1;
      stays = tt;
    }

pub loop-line-preserved : goal.loop-line-preserved
loop-line-preserved c =
    let bytes = c.args.bytes.now in
    let before = c.loop-line in
    let inside = subst (AllByRecursion (IsLineOf bytes)) c.in-Some.ensures.steps before.invariant.inside in
    let taken = subst (λ text. TakesAt before.stage before.reading text (progress c.take.new.self c.in_ok-stage.stage))
    c.text_of.ensures c.in_ok-stage.ensures.ok in
    record {
      reached = reached-more bytes (progress before.reading before.stage) (progress c.take.new.self c.in_ok-stage.stage)
          before.lines c.in-Some.line c.next.new.self c.in-Some.ensures.steps before.invariant.reached taken;
      inside = inside.1;
      stays = c.in_ok-stage.ensures.next;
    }

pub returns-in_err-frame-clause-complete : goal.returns-in_err-frame-clause-complete
returns-in_err-frame-clause-complete c =
    let p = err_from_is_err_and c.from_residual.result c.from_residual.ensures.1 in
    let found = found-first c.args.bytes.now _ _ c.of-lines.ensures.walk c.in_err-frame.ensures.fault in
    let law = c.cert_law.ensures.either c.args.bytes.now in
    rw (p.1, p.2) (λ cert is. only_memory c.args.bytes.now _ (law cert _ is) found)

pub returns-in_err-frame-clause-exact : goal.returns-in_err-frame-clause-exact
returns-in_err-frame-clause-exact c =
    let p = err_from_is_err_and c.from_residual.result c.from_residual.ensures.1 in
    let found = found-first c.args.bytes.now _ _ c.of-lines.ensures.walk c.in_err-frame.ensures.fault in
    let law = c.cert_law.ensures.fault c.args.bytes.now in
    rw (p.1, p.2) (λ fault is. found_or_memory c.args.bytes.now _ fault (λ h. law _ fault h is) found)

pub returns-in_err-stage-clause-complete : goal.returns-in_err-stage-clause-complete
returns-in_err-stage-clause-complete c =
    let bytes = c.args.bytes.now in
    let before = c.loop-line in
    let p = err_from_is_err_and c.from_residual-in_err-stage.result c.from_residual-in_err-stage.ensures.1 in
    let found = found-later bytes (progress before.reading before.stage) before.lines c.in-Some.line c.next.new.self _
    c.text_of.result.now c.text_of.ensures c.in-Some.ensures.steps before.invariant.reached
    c.in_err-stage.ensures.fault in
    let law = c.cert_law.ensures.either bytes in
    rw (p.1, p.2) (λ cert is. only_memory bytes _ (law cert _ is) found)

pub returns-in_err-stage-clause-exact : goal.returns-in_err-stage-clause-exact
returns-in_err-stage-clause-exact c =
    let bytes = c.args.bytes.now in
    let before = c.loop-line in
    let p = err_from_is_err_and c.from_residual-in_err-stage.result c.from_residual-in_err-stage.ensures.1 in
    let found = found-later bytes (progress before.reading before.stage) before.lines c.in-Some.line c.next.new.self _
    c.text_of.result.now c.text_of.ensures c.in-Some.ensures.steps before.invariant.reached
    c.in_err-stage.ensures.fault in
    let law = c.cert_law.ensures.fault bytes in
    rw (p.1, p.2) (λ fault is. found_or_memory bytes _ fault (λ h. law _ fault h is) found)

-- what is returned after the last line
abbrev IsVerdict : List ℕ → Result CertValue CertFault → Type 0
IsVerdict bytes result = IfOk result (IsCert bytes) × IfErr result (IsFound bytes)

verdict : (bytes : List ℕ) (reading : CertValue) (stage : Stage) (lines : List Line)
    (result : Result CertValue CertFault) → lines ≡ [] → IsReached bytes (progress reading stage) lines
    → IfOk result (λ cert. (stage ≡ Ended) × (cert ≡ reading))
    → IfErr result (λ fault. (fault ≡ Unended) × (stage ≡ Ended → ⊥)) → IsVerdict bytes result
verdict bytes reading stage lines (Ok cert) none reached ok err =
    let said = reached-all bytes (progress reading stage) lines none reached in
    (subst (λ (p : Progress). Says (texts_of bytes) p) (ap₂ (λ v s. progress v s) (sym ok.1) ok.0) said, tt)
verdict bytes reading stage lines (Err fault) none reached ok err =
    let last = found-last bytes (progress reading stage) lines none reached err.1 in
    (tt, inr (subst (IsCertFault bytes) (sym err.0) last))

complete : (bytes : List ℕ) (result : Result CertValue CertFault) (cert : CertValue) → IsVerdict bytes result
    → ((read : CertValue) → IsCert bytes read → read ≡ cert) → ((fault : CertFault) → IsCertFault bytes fault → ⊥)
    → MatchResult result (λ read. read ≡ cert) (λ fault. fault ≡ Memory)
complete bytes (Ok read) cert h one none = one read h.0
complete bytes (Err fault) cert h one none = only_memory bytes fault (none fault) h.1

exact : (bytes : List ℕ) (result : Result CertValue CertFault) (fault : CertFault) → IsVerdict bytes result
    → ((read : CertValue) → IsCert bytes read → ⊥) → ((found : CertFault) → IsCertFault bytes found → found ≡ fault)
    → MatchResult result (λ _. ⊥) (λ found. (found ≡ fault) ⊎ (found ≡ Memory))
exact bytes (Ok read) fault h none one = none read h.0
exact bytes (Err found) fault h none one = found_or_memory bytes found fault (one found) h.1

pub returns-clause-complete : goal.returns-clause-complete
returns-clause-complete c =
    let bytes = c.args.bytes.now in
    let none : c.loop-line.lines ≡ [] = grind (arith, common_steps) in
    let found = verdict bytes c.loop-line.reading c.loop-line.stage c.loop-line.lines c.finish.result none
    c.loop-line.invariant.reached c.finish.ensures.ok c.finish.ensures.fault in
    λ cert is. complete bytes c.finish.result cert found (λ read h. c.cert_law.ensures.cert bytes read cert h is)
    (λ fault h. c.cert_law.ensures.either bytes cert fault is h)

pub returns-clause-exact : goal.returns-clause-exact
returns-clause-exact c =
    let bytes = c.args.bytes.now in
    let none : c.loop-line.lines ≡ [] = grind (arith, common_steps) in
    let found = verdict bytes c.loop-line.reading c.loop-line.stage c.loop-line.lines c.finish.result none
    c.loop-line.invariant.reached c.finish.ensures.ok c.finish.ensures.fault in
    λ fault is. exact bytes c.finish.result fault found (λ read h. c.cert_law.ensures.either bytes read fault h is)
    (λ other h. c.cert_law.ensures.fault bytes other fault h is)
