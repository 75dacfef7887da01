-- What `serve` prints keeps the promises of the headline, and has the report that `build` prints.
use Rattle.std.proofs.Common.{◌≡◌, ◌↔◌, ◌⊎◌, ◌∙◌, ℕ, ◌≤◌, Bool, List, [], ◌++◌, Some, IfSome, arith}
use Rattle.std.proofs.Common.{length, sym, ap, subst, inl, inr, ⊎_elim}
use Rattle.std.proofs.lemmas.Option.{IfSome_then}
use Rattle.std.specs.List.{Contains}
use Rattle.lj_base.specs.Cells.{IsCell}
use Rattle.lj_base.specs.Frames.{Top}
use Rattle.lj_base.specs.Streams.{Appends, IsAtEnd, Rose}
use Rattle.lj_base.specs.declared.limits.TheConstants.{MAX_INPUT}
use Rattle.lj_build.specs.Runs.{AreBuilt, IsBuildOutput, IsReport, sections_text, uploads_of}
use Rattle.lj_cover.specs.Rules.{Upload}
use Rattle.lj_script.specs.Faults.{IsScriptFault}
use Rattle.lj_script.specs.Scripts.{IsScript}
use Rattle.lj_script.specs.Values.{ScriptValue, SectionValue}
use Rattle.lj_script.specs.declared.faults.ScriptFault.{ScriptFault}
use Rattle.lj_session.specs.AcceptedUploads.{AreAcceptedOfAll, IsAcceptedIn}
use Rattle.lj_session.specs.declared.ends.SessionEnd.{SessionEnd}
use Rattle.lj_text.specs.Inputs.{HasRead}
use Rattle.lj_cli.specs.BuildOutput.{IsBuildCommandOutput, script_fault_line}
use Rattle.lj_cli.specs.Ends.{Ends, HasOutput, Input, Output, Prints, too_large_text}
use Rattle.lj_cli.specs.Headline.{HasHeadline, IsHeadline, KeepsHeadline}
use Rattle.lj_cli.specs.Running.{HasServed}
use Rattle.lj_cli.specs.ServeOutput.{HaveOneReport, IsServeCommandOutput, IsServeOutput}
use Rattle.lj_cli.specs.declared.status.TheConstants.{DONE, FAULTY, NO_MEMORY, TOO_LARGE}
use Rattle.lj_cli.proofs.Ending.{small, whole_is}
use Rattle.lj_cli.proofs.Replied.{Laws, clients_read}

-- the frame of a script that bytes spell is within the limits
frame_in_limits : (bytes : List ℕ) (script : ScriptValue) → IsScript bytes script → IsCell script.frame.top
frame_in_limits bytes script is = is.names_frame.in_limits

-- what ends well was printed whole
ended_well : (o : Output) (text : List ℕ) (status ended : ℕ) → Prints o text status ended → ended ≡ DONE
    → (status ≡ DONE) × Appends o.written o.written_now text
ended_well o text status ended (inl put) done = (sym put.0 ∙ done, put.1)
ended_well o text status ended (inr failed) done = absurd (omega (arith, failed.0, done))

module _ (texts : (f : Top) (us : List Upload) (json : Bool) (a b : List ℕ) → IsCell f.top → IsReport f us json a
    → IsReport f us json b → a ≡ b)
    (accepted : (f : Top) (earlier : List Upload) (sections : List SectionValue) (ends : List SessionEnd)
    → AreBuilt f earlier sections ends → AreAcceptedOfAll f sections (uploads_of ends))
    (lists : (f : Top) (sections : List SectionValue) (us vs : List Upload) → AreAcceptedOfAll f sections us
    → AreAcceptedOfAll f sections vs → us ≡ vs) where
  -- the report of a build is this one
  one_report : (script : ScriptValue) (json : Bool) (us : List Upload) (report other : List ℕ)
      → IsCell script.frame.top → AreAcceptedOfAll script.frame script.clients us
      → IsReport script.frame us json report → IsBuildOutput script json other
      → (others : List SessionEnd) × AreBuilt script.frame [] script.clients others × (us ≡ uploads_of others)
      × (other ≡ sections_text script.clients others ++ report)
  one_report script json us report other limits own is (ends, text, built, closing, whole) =
      let theirs = accepted script.frame [] script.clients ends built in
      let same : us ≡ uploads_of ends = lists script.frame script.clients us (uploads_of ends) own theirs in
      let mine = subst (λ (vs : List Upload). IsReport script.frame vs json report) same is in
      let one : text ≡ report = texts script.frame (uploads_of ends) json text report limits closing mine in
      (ends, built, same, whole ∙ ap (λ (x : List ℕ). sections_text script.clients ends ++ x) one)

  module _ (laws : Laws)
      (sources : (f : Top) (sections : List SectionValue) (us : List Upload) → AreAcceptedOfAll f sections us
      → (u : Upload) → IsAcceptedIn f sections u ↔ Contains us u) where
    -- an output of `serve` keeps the promises
    pub headline : (bytes text : List ℕ) (script : ScriptValue) (json : Bool) → IsScript bytes script
        → IsServeOutput script json text → IsHeadline script json text
    headline bytes text script json is out = record {
      ends = out.ends;
      report = out.report;
      rebuilt = out.rebuilt;
      text_is = out.text_is;
      clients = clients_read laws script (uploads_of out.ends) out.accepted script.clients out.ends out.served;
      accepted = out.accepted;
      sources = sources script.frame script.clients (uploads_of out.ends) out.accepted;
      least = out.closing;
      as_build = λ other built.
          let one = one_report script json (uploads_of out.ends) out.report other (frame_in_limits bytes script is)
          out.accepted out.closing built in (one.0, one.1, one.3);
    }

    -- of an output that belongs to the bytes and that was printed whole with status 0
    served_headline : (json : Bool) (i : Input) (bytes text : List ℕ) (o : Output)
        → HasRead i.left i.left_now bytes MAX_INPUT → IsAtEnd i.left_now → i.faults_now ≡ i.faults
        → IfSome i.left (λ left. bytes ≡ left) → IsServeCommandOutput json bytes text DONE
        → Appends o.written o.written_now text → KeepsHeadline json i o
    served_headline json i bytes text o read at_end no_fault all (inl h) put = record {
      bytes = bytes;
      read = read;
      at_end = at_end;
      no_fault = no_fault;
      all = all;
      script = h.script;
      spelled = h.spelled;
      text = text;
      headline = headline bytes text h.script json h.spelled h.output;
      written = put;
    }
    served_headline json i bytes text o read at_end no_fault all (inr h) put = absurd (omega (arith, h.faulty))

    -- so a run that ends well keeps them
    pub run_headline : (json : Bool) (i : Input) (o : Output) (ended : ℕ) → Ends (IsServeCommandOutput json) i o ended
        → HasHeadline json i o ended
    run_headline json i o ended (inl h) done =
        let put = ended_well o h.text h.status ended h.printed done in
        served_headline json i h.bytes h.text o h.read h.at_end h.no_fault
        (whole_is i.left i.left_now h.bytes h.read.taken h.at_end)
        (subst (λ (n : ℕ). IsServeCommandOutput json h.bytes h.text n) put.0 h.belongs) put.1
    run_headline json i o ended (inr (inl h)) done =
        let put = ended_well o too_large_text TOO_LARGE ended h.printed done in absurd (omega (arith, put.0))
    run_headline json i o ended (inr (inr (inl h))) done = absurd (omega (arith, h.status, done))
    run_headline json i o ended (inr (inr (inr h))) done = absurd (omega (arith, h.status, done))

  module _ (scripts : (bytes : List ℕ) (a b : ScriptValue) → IsScript bytes a → IsScript bytes b → a ≡ b) where
    -- outputs of `serve` and of `build` for the same bytes have one report
    pub equal_reports : (json : Bool) (bytes text other : List ℕ) → IsServeCommandOutput json bytes text DONE
        → IsBuildCommandOutput json bytes other DONE → HaveOneReport json bytes text other
    equal_reports json bytes text other (inl h) (inl g) =
        let out = h.output in
        let script : g.script ≡ h.script = scripts bytes g.script h.script g.spelled h.spelled in
        let built = subst (λ (s : ScriptValue). IsBuildOutput s json other) script g.output in
        let one = one_report h.script json (uploads_of out.ends) out.report other
        (frame_in_limits bytes h.script h.spelled) out.accepted out.closing built in record {
          script = h.script;
          spelled = h.spelled;
          served = out.ends;
          served_is = out.served;
          built = one.0;
          built_is = one.1;
          accepted = out.accepted;
          same = one.2;
          report = out.report;
          closing = out.closing;
          rebuilt = out.rebuilt;
          text_is = out.text_is;
          other_is = one.3;
        }
    equal_reports json bytes text other (inl h) (inr g) = absurd (omega (arith, g.faulty))
    equal_reports json bytes text other (inr h) built = absurd (omega (arith, h.faulty))

module _ (scripts : (bytes : List ℕ) (a b : ScriptValue) → IsScript bytes a → IsScript bytes b → a ≡ b)
    (faults : (bytes : List ℕ) (f g : ScriptFault) → IsScriptFault bytes f → IsScriptFault bytes g → f ≡ g)
    (either : (bytes : List ℕ) (script : ScriptValue) (fault : ScriptFault) → IsScript bytes script
    → IsScriptFault bytes fault → ⊥) where
  -- bytes that spell a script have its output
  of_script : (json : Bool) (bytes text : List ℕ) (status : ℕ) (script : ScriptValue)
      → IsServeCommandOutput json bytes text status → IsScript bytes script
      → (status ≡ DONE) × IsServeOutput script json text
  of_script json bytes text status script (inl h) is = (
    h.done,
    subst (λ (s : ScriptValue). IsServeOutput s json text) (scripts bytes h.script script h.spelled is)
        h.output,
  )
  of_script json bytes text status script (inr h) is = absurd (either bytes script h.fault is h.found)

  -- bytes with a fault have its line
  of_fault : (json : Bool) (bytes text : List ℕ) (status : ℕ) (fault : ScriptFault)
      → IsServeCommandOutput json bytes text status → IsScriptFault bytes fault
      → (status ≡ FAULTY) × (text ≡ script_fault_line fault)
  of_fault json bytes text status fault (inl h) is = absurd (either bytes h.script fault h.spelled is)
  of_fault json bytes text status fault (inr h) is =
      (h.faulty, h.line ∙ ap (λ (f : ScriptFault). script_fault_line f) (faults bytes h.fault fault h.found is))

  -- a run on a script that its source reports ends well, unless memory runs out
  pub script_ends : (json : Bool) (i : Input) (o : Output) (ended : ℕ) (script : ScriptValue)
      → Ends (IsServeCommandOutput json) i o ended → IfSome i.left (λ all. length all ≤ MAX_INPUT → IsScript all script
      → (Rose i.faults i.faults_now → ⊥) → (Rose o.faults o.faults_now → ⊥)
      → HasServed script json o ended ⊎ (ended ≡ NO_MEMORY))
  script_ends json i o ended script h =
      IfSome_then i.left (small MAX_INPUT (IsServeCommandOutput json) i o ended h) (λ all ends few is quiet calm. ⊎_elim
      (λ (done : HasOutput (IsServeCommandOutput json) all o ended).
      let served = of_script json all done.0 ended script done.1 is in inl (done.0, served.0, served.1, done.2))
      (λ (ran_out : ended ≡ NO_MEMORY). inr ran_out) (ends few quiet calm))

  -- and one on bytes with a fault has the fault's line
  pub fault_ends : (json : Bool) (i : Input) (o : Output) (ended : ℕ) (fault : ScriptFault)
      → Ends (IsServeCommandOutput json) i o ended
      → IfSome i.left (λ all. length all ≤ MAX_INPUT → IsScriptFault all fault
      → (Rose i.faults i.faults_now → ⊥) → (Rose o.faults o.faults_now → ⊥)
      → ((ended ≡ FAULTY) × Appends o.written o.written_now (script_fault_line fault)) ⊎ (ended ≡ NO_MEMORY))
  fault_ends json i o ended fault h =
      IfSome_then i.left (small MAX_INPUT (IsServeCommandOutput json) i o ended h) (λ all ends few is quiet calm. ⊎_elim
      (λ (done : HasOutput (IsServeCommandOutput json) all o ended).
      let line = of_fault json all done.0 ended fault done.1 is in
      inl (line.0, subst (λ (text : List ℕ). Appends o.written o.written_now text) line.1 done.2))
      (λ (ran_out : ended ≡ NO_MEMORY). inr ran_out) (ends few quiet calm))
