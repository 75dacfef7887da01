use Rattle.std.proofs.Common.{◌≡◌, ◌⊎◌, ℕ, List, [], ◌∷◌, arith, refl, ◌∙◌, sym, subst, inl, inr}
use Rattle.std.proofs.lemmas.Grind.{common_steps}
use Rattle.std.proofs.lemmas.Result.{err_from_is_err_and}
use Rattle.lj_base.specs.Frames.{Top}
use Rattle.lj_text.specs.Lines.{StandFrom, after_line, text_lines}
use Rattle.lj_text.specs.declared.lines.Line.{Line}
use Rattle.lj_script.specs.Scripts.{IsReadUpTo}
use Rattle.lj_script.specs.Faults.{IsFaulty, IsFrameFault, IsScriptFault}
use Rattle.lj_script.specs.Values.{ScriptValue, SectionValue}
use Rattle.lj_script.specs.declared.faults.ScriptFault.{ScriptFault}
use Rattle.lj_script.specs.declared.faults.ScriptFault.TheVariants.{Memory}
use Rattle.lj_script.proofs.Adding.{IsReadUpTo-more, after_item}
use Rattle.lj_script.proofs.reading.read_script.Goals as goal

-- out of memory, or the fault that the bytes have
abbrev IsFound : List ℕ → ScriptFault → Type 0
IsFound bytes found = (found ≡ Memory) ⊎ IsScriptFault bytes found

found_first : (bytes : List ℕ) (lines : List Line) (found : ScriptFault) → lines ≡ text_lines bytes
    → IsFrameFault bytes lines found → IsFound bytes found
found_first bytes lines found is h = inr (inl (subst (λ ls. IsFrameFault bytes ls found) is h))

found_later : (bytes : List ℕ) (frame : Top) (before : List SectionValue) (line : Line) (later : List Line)
    (found : ScriptFault) → IsReadUpTo bytes frame before (line ∷ later)
    → (found ≡ Memory) ⊎ IsFaulty bytes before line later found → IsFound bytes found
found_later bytes frame before line later found read (inl memory) = inl memory
found_later bytes frame before line later found read (inr h) =
    inr (inr (record { frame = frame; before = before; line = line; later = later; read = read; faulty = h }))

-- bytes that spell a script have no fault
only_memory : (bytes : List ℕ) (script : ScriptValue) (found : ScriptFault) → (IsScriptFault bytes found → ⊥)
    → IsFound bytes found → found ≡ Memory
only_memory bytes script found none (inl memory) = memory
only_memory bytes script found none (inr h) = absurd (none h)

found_or_memory : (bytes : List ℕ) (found fault : ScriptFault) → (IsScriptFault bytes found → found ≡ fault)
    → IsFound bytes found → (found ≡ fault) ⊎ (found ≡ Memory)
found_or_memory bytes found fault same (inl memory) = inr memory
found_or_memory bytes found fault same (inr h) = inl (same h)

pub loop-line-init : goal.loop-line-init
loop-line-init c =
    let bytes = c.args.bytes.now in
    let read = c.in_ok-frame.ensures.frame in
    let lines = sym c.of-lines.ensures.walk ∙ read.lines_are in
    let law = c.line_order_law.ensures in
    let known = subst (StandFrom bytes 0) read.lines_are c.of-lines.ensures.order in
    record {
      read = record {
        first = read.first;
        others = c.read_frame.new.lines;
        lines_are = lines;
        names_frame = read.names_frame;
        are_sections = rw c.new-sections.ensures.items refl;
        within = rw c.new-sections.ensures.items (omega arith, tt);
      };
      inside = law.earlier bytes (after_line bytes read.first) 0 c.read_frame.new.lines (omega arith) known.2;
    }

pub loop-line-preserved : goal.loop-line-preserved
loop-line-preserved c =
    let bytes = c.args.bytes.now in
    let sections = c.loop-line.sections.items in
    let law = c.line_order_law.ensures in
    let adds = c.in_ok-read_item.ensures.item in
    let read =
    subst (IsReadUpTo bytes c.in_ok-frame.frame sections) c.in-Some.ensures.steps c.loop-line.invariant.read in
    let inside = subst (StandFrom bytes 0) c.in-Some.ensures.steps c.loop-line.invariant.inside in
    record {
      read = IsReadUpTo-more read adds;
      inside =
          after_item law.earlier law.rest bytes adds.item _ _ adds.is inside;
    }

pub returns-in_err-frame-clause-fault : goal.returns-in_err-frame-clause-fault
returns-in_err-frame-clause-fault c =
    let p = err_from_is_err_and c.from_residual.result c.from_residual.ensures.1 in
    let found = found_first c.args.bytes.now _ _ c.of-lines.ensures.walk c.in_err-frame.ensures.fault in
    rw (p.1, p.2) found

pub returns-in_err-frame-clause-complete : goal.returns-in_err-frame-clause-complete
returns-in_err-frame-clause-complete c =
    let p = err_from_is_err_and c.from_residual.result c.from_residual.ensures.1 in
    let found = found_first c.args.bytes.now _ _ c.of-lines.ensures.walk c.in_err-frame.ensures.fault in
    let law = c.script_law.ensures.either c.args.bytes.now in
    rw (p.1, p.2) (λ script is. only_memory c.args.bytes.now script _ (law script _ is) found)

pub returns-in_err-frame-clause-exact : goal.returns-in_err-frame-clause-exact
returns-in_err-frame-clause-exact c =
    let p = err_from_is_err_and c.from_residual.result c.from_residual.ensures.1 in
    let found = found_first c.args.bytes.now _ _ c.of-lines.ensures.walk c.in_err-frame.ensures.fault in
    let law = c.script_law.ensures.fault c.args.bytes.now in
    rw (p.1, p.2) (λ fault is. found_or_memory c.args.bytes.now _ fault (λ h. law _ fault h is) found)

pub returns-in_err-read_item-clause-fault : goal.returns-in_err-read_item-clause-fault
returns-in_err-read_item-clause-fault c =
    let p = err_from_is_err_and c.from_residual-in_err-read_item.result c.from_residual-in_err-read_item.ensures.1 in
    let sections = c.loop-line.sections.items in
    let invariant = c.loop-line.invariant.read in
    let read = subst (IsReadUpTo c.args.bytes.now c.in_ok-frame.frame sections) c.in-Some.ensures.steps invariant in
    let item = c.in_err-read_item.ensures.fault in
    rw (p.1, p.2) (found_later c.args.bytes.now _ _ c.in-Some.line c.next.new.self _ read item)

pub returns-in_err-read_item-clause-complete : goal.returns-in_err-read_item-clause-complete
returns-in_err-read_item-clause-complete c =
    let p = err_from_is_err_and c.from_residual-in_err-read_item.result c.from_residual-in_err-read_item.ensures.1 in
    let sections = c.loop-line.sections.items in
    let invariant = c.loop-line.invariant.read in
    let read = subst (IsReadUpTo c.args.bytes.now c.in_ok-frame.frame sections) c.in-Some.ensures.steps invariant in
    let item = c.in_err-read_item.ensures.fault in
    let found = found_later c.args.bytes.now _ _ c.in-Some.line c.next.new.self _ read item in
    let law = c.script_law.ensures.either c.args.bytes.now in
    rw (p.1, p.2) (λ script is. only_memory c.args.bytes.now script _ (law script _ is) found)

pub returns-in_err-read_item-clause-exact : goal.returns-in_err-read_item-clause-exact
returns-in_err-read_item-clause-exact c =
    let p = err_from_is_err_and c.from_residual-in_err-read_item.result c.from_residual-in_err-read_item.ensures.1 in
    let sections = c.loop-line.sections.items in
    let invariant = c.loop-line.invariant.read in
    let read = subst (IsReadUpTo c.args.bytes.now c.in_ok-frame.frame sections) c.in-Some.ensures.steps invariant in
    let item = c.in_err-read_item.ensures.fault in
    let found = found_later c.args.bytes.now _ _ c.in-Some.line c.next.new.self _ read item in
    let law = c.script_law.ensures.fault c.args.bytes.now in
    rw (p.1, p.2) (λ fault is. found_or_memory c.args.bytes.now _ fault (λ h. law _ fault h is) found)

pub returns-clause-script : goal.returns-clause-script
returns-clause-script c =
    let none : c.loop-line.lines ≡ [] = grind (arith, common_steps) in
    let frame = c.in_ok-frame.frame in
    let sections = c.loop-line.sections.items in
    let read = subst (IsReadUpTo c.args.bytes.now frame sections) none c.loop-line.invariant.read in
    subst (λ ss. IsReadUpTo c.args.bytes.now frame ss []) (sym c.of.ensures) read

pub returns-clause-complete : goal.returns-clause-complete
returns-clause-complete c =
    λ script is. c.script_law.ensures.script c.args.bytes.now _ script (returns-clause-script c) is

pub returns-clause-exact : goal.returns-clause-exact
returns-clause-exact c =
    λ fault is. c.script_law.ensures.either c.args.bytes.now _ fault (returns-clause-script c) is
