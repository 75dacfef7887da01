-- The text of a build: the replies and the report.
use Rattle.std.proofs.Common.{◌≡◌, ◌∙◌, ℕ, suc, ◌+◌, ◌≤◌, ◌<◌, Bool, List, [], ◌∷◌, ◌++◌, ◌⊎◌, arith, drop, get_or}
use Rattle.std.proofs.Common.{length, map, take, refl, sym, ap, ap₂, subst, append_assoc, append-nil, drop-cons}
use Rattle.std.proofs.Common.{IfSome, inl, inr, min, ⊎_elim}
use Rattle.std.proofs.lemmas.Bool.{cases_lt}
use Rattle.std.proofs.lemmas.List.{drop_all, get_or-map, length-map, map-append, take_more}
use Rattle.std.proofs.lemmas.Option.{IfSome_then}
use Rattle.lj_base.specs.Bounds.{at_cell}
use Rattle.lj_base.specs.Cells.{IsCell}
use Rattle.lj_base.specs.Frames.{Top, size_of}
use Rattle.lj_base.specs.Streams.{Appends, Rose}
use Rattle.lj_base.specs.declared.limits.TheConstants.{MAX_INPUT}
use Rattle.lj_cover.specs.Derivations.{IsLeast}
use Rattle.lj_cover.specs.Rules.{Upload}
use Rattle.lj_script.specs.Faults.{IsScriptFault}
use Rattle.lj_script.specs.Scripts.{IsScript}
use Rattle.lj_script.specs.Values.{ScriptValue, SectionValue}
use Rattle.lj_script.specs.declared.faults.ScriptFault.{ScriptFault}
use Rattle.lj_script.specs.declared.faults.ScriptFault.TheVariants.{Memory}
use Rattle.lj_session.specs.AcceptedUploads.{AreAcceptedOfAll}
use Rattle.lj_session.specs.declared.ends.SessionEnd.{SessionEnd}
use Rattle.lj_table.specs.Tables.{Contents}
use Rattle.lj_build.specs.Building.{IsWholeBuilt, Rests}
use Rattle.lj_build.specs.Runs.{AreBuilt, AreLeastBounds, IsBuildOutput, IsReport, client_line, report_of}
use Rattle.lj_build.specs.Runs.{sections_text, uploads_of}
use Rattle.lj_cli.specs.BuildOutput.{EndsWithReport, IsBuildCommandOutput, script_fault_line}
use Rattle.lj_cli.specs.Ends.{Ends, HasOutput, Input, Output}
use Rattle.lj_cli.specs.Running.{HasBuilt}
use Rattle.lj_cli.specs.declared.status.TheConstants.{DONE, FAULTY, NO_MEMORY}
use Rattle.lj_cli.proofs.Ending.{small}

abbrev pub names_of : List SectionValue → List (List ℕ)
names_of sections = map (λ (s : SectionValue). s.name) sections

-- one name more
pub names_more : (sections : List SectionValue) (i : ℕ) (section : SectionValue) (before now : List (List ℕ))
    → i < length sections → section ≡ get_or sections i section → before ≡ names_of (take i sections)
    → now ≡ before ++ section.name ∷ [] → now ≡ names_of (take (i + 1) sections)
names_more sections i section before now inside is h j =
    let more : take (i + 1) sections ≡ take i sections ++ section ∷ [] =
    take_more sections i section inside ∙ ap (λ (s : SectionValue). take i sections ++ s ∷ []) (sym is) in
    j ∙ ap (λ ns. ns ++ section.name ∷ []) h
    ∙ sym (map-append (λ (s : SectionValue). s.name) (take i sections) (section ∷ []))
    ∙ sym (ap names_of more)

-- the replies of the section at a place
pub replies_more : (sections : List SectionValue) (names : List (List ℕ)) (ends : List SessionEnd) (i : ℕ)
    (name : List ℕ) (e : SessionEnd) (before now whole : List ℕ) → names ≡ names_of sections → i < length names
    → i < length ends → name ≡ get_or names i name → e ≡ get_or ends i e
    → before ++ sections_text (drop i sections) (drop i ends) ≡ whole
    → now ≡ before ++ (client_line name ++ e.replies)
    → now ++ sections_text (drop (i + 1) sections) (drop (i + 1) ends) ≡ whole
replies_more sections names ends i name e before now whole are some inside is there h j =
    let next : i + 1 ≡ suc i = omega arith in
    let count : length names ≡ length sections =
    ap (λ (ns : List (List ℕ)). length ns) are ∙ length-map sections (λ (x : SectionValue). x.name) in
    let inside_sections : i < length sections = omega (arith, some, count) in
    let other : SectionValue = record { name = name; commands = [] } in
    let s : SectionValue = get_or sections i other in
    let named : name ≡ s.name =
    is ∙ ap (λ (ns : List (List ℕ)). get_or ns i name) are
    ∙ get_or-map (λ (x : SectionValue). x.name) sections i other name inside_sections in
    let first : drop i sections ≡ s ∷ drop (suc i) sections = drop-cons sections i other inside_sections in
    let last : drop i ends ≡ e ∷ drop (suc i) ends =
    drop-cons ends i e inside ∙ ap (λ (x : SessionEnd). x ∷ drop (suc i) ends) (sym there) in
    let rest : List ℕ = sections_text (drop (suc i) sections) (drop (suc i) ends) in
    let line : now ≡ before ++ (client_line s.name ++ e.replies) =
    j ∙ ap (λ (n : List ℕ). before ++ (client_line n ++ e.replies)) named in
    let shown : now ++ rest ≡ whole =
    ap (λ text. text ++ rest) line ∙ append_assoc before (client_line s.name ++ e.replies) rest
    ∙ ap (λ text. before ++ text) (append_assoc (client_line s.name) e.replies rest)
    ∙ ap₂ (λ (ss : List SectionValue) (es : List SessionEnd). before ++ sections_text ss es) (sym first) (sym last)
    ∙ h in
    subst (λ n. now ++ sections_text (drop n sections) (drop n ends) ≡ whole) (sym next) shown

no_ends : (sections : List SectionValue) → sections_text sections [] ≡ []
no_ends [] = refl
no_ends (s ∷ sections) = refl

-- where one of the lists has ended nothing is left
nothing_left : (sections : List SectionValue) (ends : List SessionEnd) (i : ℕ)
    → i ≡ min (length sections) (length ends) → sections_text (drop i sections) (drop i ends) ≡ []
nothing_left sections ends i end = ⊎_elim
    (λ (less : length ends < length sections).
    ap (λ (es : List SessionEnd). sections_text (drop i sections) es) (drop_all i ends (omega (arith, end, less)))
    ∙ no_ends (drop i sections))
    (λ (more : length sections ≤ length ends).
    ap (λ (ss : List SectionValue). sections_text ss (drop i ends)) (drop_all i sections (omega (arith, end, more))))
    (cases_lt (length ends) (length sections))

pub replies_done : (sections : List SectionValue) (names : List (List ℕ)) (ends : List SessionEnd) (i : ℕ)
    (now whole : List ℕ) → names ≡ names_of sections → i ≡ min (length names) (length ends)
    → now ++ sections_text (drop i sections) (drop i ends) ≡ whole → now ≡ whole
replies_done sections names ends i now whole are end h =
    let count : length names ≡ length sections =
    ap (λ (ns : List (List ℕ)). length ns) are ∙ length-map sections (λ (x : SectionValue). x.name) in
    let at : i ≡ min (length sections) (length ends) = end ∙ ap (λ (n : ℕ). min n (length ends)) count in
    sym (append-nil now) ∙ ap (λ text. now ++ text) (sym (nothing_left sections ends i at)) ∙ h

-- the bounds of a table at rest are the least
least_bounds : (f : Top) (us : List Upload) (t : Contents) → Rests f us t → length t.bounds ≡ size_of t.arena.frame
    → AreLeastBounds f us t.bounds
least_bounds f us t rests count = record {
  count = count ∙ ap (λ (x : Top). size_of x) rests.frame;
  least = λ c inside.
      let least = rests.least c (rw rests.frame inside) in
      subst (λ (x : Top × List Upload). IsLeast x.0 x.1 c (at_cell x.0 t.bounds c))
      (λ i. (rests.frame i, rests.uploads_are i)) least;
}

pub whole_text : (script : ScriptValue) (json : Bool) (ends : List SessionEnd) (t : Contents) (all : List SessionEnd)
    (start middle whole : List ℕ) → IsWholeBuilt script ends t → length t.bounds ≡ size_of t.arena.frame
    → all ≡ ends → start ≡ [] → middle ≡ start ++ sections_text script.clients all
    → whole ≡ middle ++ report_of t.arena.frame json t.bounds → IsBuildOutput script json whole
whole_text script json ends t all start middle whole built count items none h j =
    let report = report_of script.frame json t.bounds in
    let replies : middle ≡ sections_text script.clients ends =
    h ∙ ap₂ (λ (text : List ℕ) (es : List SessionEnd). text ++ sections_text script.clients es) none items in (
      ends,
      report,
      built.built,
      (t.bounds, least_bounds script.frame (uploads_of ends) t built.rests count, refl),
      j ∙ ap₂ (λ (text : List ℕ) (f : Top). text ++ report_of f json t.bounds) replies built.rests.frame,
    )

-- the texts of two builds of a script end with one report
pub one_report : ((f : Top) (earlier : List Upload) (sections : List SectionValue) (ends : List SessionEnd)
    → AreBuilt f earlier sections ends → AreAcceptedOfAll f sections (uploads_of ends))
    → ((f : Top) (sections : List SectionValue) (us vs : List Upload) → AreAcceptedOfAll f sections us
    → AreAcceptedOfAll f sections vs → us ≡ vs)
    → ((f : Top) (us : List Upload) (json : Bool) (a b : List ℕ) → IsCell f.top → IsReport f us json a
    → IsReport f us json b → a ≡ b)
    → (script : ScriptValue) (json : Bool) (text other : List ℕ) → IsCell script.frame.top
    → IsBuildOutput script json text → IsBuildOutput script json other
    → (report : List ℕ) × EndsWithReport script json text report × EndsWithReport script json other report
one_report accepted sections reports script json text other cell (ends, report, built, is, t)
    (others, last, run, too, u) =
    let f = script.frame in
    let first = accepted f [] script.clients ends built in
    let second = accepted f [] script.clients others run in
    let same : uploads_of others ≡ uploads_of ends =
    sections f script.clients (uploads_of others) (uploads_of ends) second first in
    let also = subst (λ (us : List Upload). IsReport f us json last) same too in
    let equal : last ≡ report = reports f (uploads_of ends) json last report cell also is in (
      report,
      record {
        uploads = uploads_of ends;
        accepted = first;
        is_report = is;
        front = sections_text script.clients ends;
        text_is = t;
      },
      record {
        uploads = uploads_of ends;
        accepted = first;
        is_report = is;
        front = sections_text script.clients others;
        text_is = u ∙ ap (λ (r : List ℕ). sections_text script.clients others ++ r) equal;
      },
    )

-- the line of a fault that is one of the bytes
pub faulted : (json : Bool) (bytes line : List ℕ) (fault : ScriptFault)
    → (fault ≡ Memory) ⊎ IsScriptFault bytes fault → (fault ≡ Memory → ⊥) → line ≡ script_fault_line fault
    → IsBuildCommandOutput json bytes line FAULTY
faulted json bytes line fault (inl e) other is = absurd (other e)
faulted json bytes line fault (inr h) other is = inr (record { fault = fault; found = h; line = is; faulty = refl })

module _ (scripts : (bytes : List ℕ) (a b : ScriptValue) → IsScript bytes a → IsScript bytes b → a ≡ b)
    (faults : (bytes : List ℕ) (f g : ScriptFault) → IsScriptFault bytes f → IsScriptFault bytes g → f ≡ g)
    (either : (bytes : List ℕ) (script : ScriptValue) (fault : ScriptFault) → IsScript bytes script
    → IsScriptFault bytes fault → ⊥) where
  -- bytes that spell a script have its output
  pub of_script : (json : Bool) (bytes text : List ℕ) (status : ℕ) (script : ScriptValue)
      → IsBuildCommandOutput json bytes text status → IsScript bytes script
      → (status ≡ DONE) × IsBuildOutput script json text
  of_script json bytes text status script (inl h) is = (
    h.done,
    subst (λ (s : ScriptValue). IsBuildOutput s json text) (scripts bytes h.script script h.spelled is)
        h.output,
  )
  of_script json bytes text status script (inr h) is = absurd (either bytes script h.fault is h.found)

  -- bytes with a fault have its line
  pub of_fault : (json : Bool) (bytes text : List ℕ) (status : ℕ) (fault : ScriptFault)
      → IsBuildCommandOutput json bytes text status → IsScriptFault bytes fault
      → (status ≡ FAULTY) × (text ≡ script_fault_line fault)
  of_fault json bytes text status fault (inl h) is = absurd (either bytes h.script fault h.spelled is)
  of_fault json bytes text status fault (inr h) is =
      (h.faulty, h.line ∙ ap (λ (f : ScriptFault). script_fault_line f) (faults bytes h.fault fault h.found is))

  -- a build of a script that its source reports ends well, unless memory runs out
  pub script_ends : (json : Bool) (i : Input) (o : Output) (ended : ℕ) (script : ScriptValue)
      → Ends (IsBuildCommandOutput json) i o ended → IfSome i.left (λ all. length all ≤ MAX_INPUT → IsScript all script
      → (Rose i.faults i.faults_now → ⊥) → (Rose o.faults o.faults_now → ⊥)
      → HasBuilt script json o ended ⊎ (ended ≡ NO_MEMORY))
  script_ends json i o ended script h =
      IfSome_then i.left (small MAX_INPUT (IsBuildCommandOutput json) i o ended h) (λ all ends few is quiet calm. ⊎_elim
      (λ (done : HasOutput (IsBuildCommandOutput json) all o ended).
      let built = of_script json all done.0 ended script done.1 is in inl (done.0, built.0, built.1, done.2))
      (λ (ran_out : ended ≡ NO_MEMORY). inr ran_out) (ends few quiet calm))

  -- and one of bytes with a fault has the fault's line
  pub fault_ends : (json : Bool) (i : Input) (o : Output) (ended : ℕ) (fault : ScriptFault)
      → Ends (IsBuildCommandOutput json) i o ended
      → IfSome i.left (λ all. length all ≤ MAX_INPUT → IsScriptFault all fault
      → (Rose i.faults i.faults_now → ⊥) → (Rose o.faults o.faults_now → ⊥)
      → ((ended ≡ FAULTY) × Appends o.written o.written_now (script_fault_line fault)) ⊎ (ended ≡ NO_MEMORY))
  fault_ends json i o ended fault h =
      IfSome_then i.left (small MAX_INPUT (IsBuildCommandOutput json) i o ended h) (λ all ends few is quiet calm. ⊎_elim
      (λ (done : HasOutput (IsBuildCommandOutput json) all o ended).
      let line = of_fault json all done.0 ended fault done.1 is in
      inl (line.0, subst (λ (text : List ℕ). Appends o.written o.written_now text) line.1 done.2))
      (λ (ran_out : ended ≡ NO_MEMORY). inr ran_out) (ends few quiet calm))
