-- Bytes spell one script at most, or have one fault at most.
use Rattle.std.proofs.Common.{◌≡◌, ℕ, ◌<◌, List, [], ◌∷◌, length, refl, sym, ap, ◌∙◌, subst, arith, inl, inr}
use Rattle.std.specs.List.{AllByRecursion, Contains}
use Rattle.lj_base.proofs.Lists.{AllByRecursion-back}
use Rattle.lj_base.specs.Cells.{Triple}
use Rattle.lj_base.specs.Frames.{Top}
use Rattle.lj_text.specs.Lines.{text_lines}
use Rattle.lj_text.specs.declared.lines.Line.{Line}
use Rattle.lj_text.specs.Tokens.{words}
use Rattle.lj_script.specs.Items.{FitsAfter, IsItem, Item, new_client, new_command}
use Rattle.lj_script.specs.LineForms.{IsEnd, IsFrameLine, Says, SaysCommand, SaysUpload}
use Rattle.lj_script.specs.Scripts.{IsBody, IsReadUpTo, IsScript}
use Rattle.lj_script.specs.Faults.{Follows, HasFaultyLine, IsFaulty, IsFrameFault, IsScriptFault, LacksFrame}
use Rattle.lj_script.specs.Faults.{SpoilsFrame, last_commands}
use Rattle.lj_script.specs.Values.{ScriptValue, SectionValue}
use Rattle.lj_script.specs.declared.limits.TheConstants.{MAX_COMMANDS}
use Rattle.lj_script.specs.declared.faults.ScriptFault.{ScriptFault}
use Rattle.lj_script.specs.declared.faults.ScriptFault.TheVariants.{NoFrame, BadLine, BadFrame, Unended, TooManyClients}
use Rattle.lj_script.specs.declared.faults.ScriptFault.TheVariants.{TooManyCommands}
use Rattle.lj_script.specs.declared.forms.Form.{Form}
use Rattle.lj_script.specs.declared.forms.Form.TheVariants.{Client, Upload as Offer, UploadFile as OfferFile, Ask}
use Rattle.lj_script.specs.declared.scripts.Command.{Command}
use Rattle.lj_script.specs.declared.scripts.Command.TheVariants.{Upload, UploadFile}
use Rattle.lj_script.proofs.Paths.{IsStuck, Leads, items_of, leads_by_sections, same_ends}
use Rattle.lj_script.proofs.SameItems.{first_form, says_item}
use Rattle.lj_script.proofs.Unique.{same_cell, same_form}

-- ---- after a whole script and at a faulty line no item comes next

IsStuck-end : (bytes : List ℕ) (sections : List SectionValue) → IsStuck bytes sections []
IsStuck-end bytes sections (new_client name) rest h fits = let none = h.1.lines_are in cc
IsStuck-end bytes sections (new_command c) rest h fits = let none = h.begins.lines_are in cc

-- the first line of an item that fits may follow the sections
follows_item : (sections : List SectionValue) (item : Item) → FitsAfter sections item
    → Follows sections (first_form item)
follows_item sections (new_client name) fits = fits.0
follows_item sections (new_command (Upload c body)) fits = fits.0
follows_item sections (new_command (UploadFile body)) fits = fits.0
follows_item sections (new_command c) fits = fits.0

-- a command's line is no client's line
no_client : (line : List (List ℕ)) (name : List ℕ) → SaysCommand line → Says line (Client name) → ⊥
no_client line name (inl (inl (c, says))) client = let same = same_form line (Offer c) (Client name) says client in cc
no_client line name (inl (inr says)) client = let same = same_form line OfferFile (Client name) says client in cc
no_client line name (inr (command, says)) client =
    let same = same_form line (Ask command) (Client name) says client in
    cc

-- an upload's line is no line that asks
no_ask : (line : List (List ℕ)) (command : Command) → SaysUpload line → Says line (Ask command) → ⊥
no_ask line command (inl (c, says)) asks = let same = same_form line (Offer c) (Ask command) says asks in cc
no_ask line command (inr says) asks = let same = same_form line OfferFile (Ask command) says asks in cc

module _ (bytes : List ℕ) where
  abbrev NoneEnds : List Line → Type 0
  NoneEnds lines = AllByRecursion (λ line. IsEnd bytes line → ⊥) lines

  no_body : (begin : Line) (lines : List Line) (body : List ℕ) (rest : List Line) → IsBody bytes begin lines body rest
      → NoneEnds lines → ⊥
  no_body begin lines body rest is none =
      let last = subst NoneEnds is.reaches.lines_are none in
      (AllByRecursion-back (λ line. IsEnd bytes line → ⊥) is.reaches.inner (is.end ∷ rest) last).0 is.reaches.ends

  module _ (line : Line) (later rest : List Line) where
    no_item-unended : (item : Item) → SaysUpload (words bytes line) → NoneEnds later
        → IsItem bytes item (line ∷ later) rest → ⊥
    no_item-unended (new_client name) upload none h =
        no_client (words bytes line) name (inl upload) (says_item bytes (new_client name) line later rest h)
    no_item-unended (new_command (Upload c body)) upload none h =
        let others : later ≡ h.others = cc (h.begins.lines_are) in
        no_body h.first h.others body rest h.completes (subst NoneEnds others none)
    no_item-unended (new_command (UploadFile body)) upload none h =
        let others : later ≡ h.others = cc (h.begins.lines_are) in
        no_body h.first h.others body rest h.completes (subst NoneEnds others none)
    no_item-unended (new_command c) upload none h =
        no_ask (words bytes line) c upload (says_item bytes (new_command c) line later rest h)

    -- a client's line begins no command
    no_command-client : (name : List ℕ) (c : Command) → Says (words bytes line) (Client name)
        → IsItem bytes (new_command c) (line ∷ later) rest → ⊥
    no_command-client name c client h =
        let says = says_item bytes (new_command c) line later rest h in
        go c (same_form (words bytes line) (Client name) (first_form (new_command c)) client says)
      where
        go : (d : Command) → Client name ≡ first_form (new_command d) → ⊥
        go (Upload d body) same = cc
        go (UploadFile body) same = cc
        go d same = cc

  module _ (sections : List SectionValue) (line : Line) (later : List Line) where
    abbrev AtLine : ScriptFault → Type 0
    AtLine fault = IsFaulty bytes sections line later fault

    IsStuck-faulty : (fault : ScriptFault) → AtLine fault → IsStuck bytes sections (line ∷ later)
    IsStuck-faulty (BadLine n) h item rest is fits =
        h.1 (first_form item) (says_item bytes item line later rest is) (follows_item sections item fits)
    IsStuck-faulty (Unended n) h item rest is fits = no_item-unended line later rest item h.3 h.4 is
    IsStuck-faulty (TooManyClients n) h (new_client name) rest is fits = omega (arith, h.1, fits.1)
    IsStuck-faulty (TooManyClients n) h (new_command c) rest is fits = no_command-client line later rest h.2 c h.3 is
    IsStuck-faulty (TooManyCommands n) h (new_client name) rest is fits =
        no_client (words bytes line) name h.2 (says_item bytes (new_client name) line later rest is)
    IsStuck-faulty (TooManyCommands n) h (new_command c) rest is fits = omega (arith, h.1, fits.1)
    IsStuck-faulty fault h item rest is fits = h

    -- ---- a line has one fault

    some_commands : (ss : List SectionValue) → last_commands ss ≡ MAX_COMMANDS → 0 < length ss
    some_commands [] h = omega arith
    some_commands (s ∷ ss) h = omega arith

    -- a form that the line has, and may have after these sections
    record HasForm : Type 0 where
      pub form : Form
      pub says : Says (words bytes line) form
      pub follows : Follows sections form

    HasForm-command : SaysCommand (words bytes line) → 0 < length sections → HasForm
    HasForm-command (inl (inl (c, says))) some = record { form = Offer c; says = says; follows = some }
    HasForm-command (inl (inr says)) some = record { form = OfferFile; says = says; follows = some }
    HasForm-command (inr (command, says)) some = record { form = Ask command; says = says; follows = some }

    has_form-clients : (n : ℕ) → AtLine (TooManyClients n) → HasForm
    has_form-clients n h = record { form = Client h.2; says = h.3; follows = h.4 }

    has_form-commands : (n : ℕ) → AtLine (TooManyCommands n) → HasForm
    has_form-commands n h = HasForm-command h.2 (some_commands sections h.1)

    has_form-unended : (n : ℕ) → AtLine (Unended n) → HasForm
    has_form-unended n h = HasForm-command (inl h.3) h.1

    not_bad : (n : ℕ) → AtLine (BadLine n) → HasForm → ⊥
    not_bad n bad h = bad.1 h.form h.says h.follows

    same_fault : (f g : ScriptFault) → AtLine f → AtLine g → f ≡ g
    same_fault (BadLine n) (BadLine m) h k = ap BadLine (h.0 ∙ sym k.0)
    same_fault (BadLine n) (TooManyClients m) h k = absurd (not_bad n h (has_form-clients m k))
    same_fault (BadLine n) (TooManyCommands m) h k = absurd (not_bad n h (has_form-commands m k))
    same_fault (BadLine n) (Unended m) h k = absurd (not_bad n h (has_form-unended m k))
    same_fault (BadLine n) g h k = absurd k
    same_fault (TooManyClients n) (TooManyClients m) h k = ap TooManyClients (h.0 ∙ sym k.0)
    same_fault (TooManyClients n) (BadLine m) h k = absurd (not_bad m k (has_form-clients n h))
    same_fault (TooManyClients n) (TooManyCommands m) h k = absurd (no_client (words bytes line) h.2 k.2 h.3)
    same_fault (TooManyClients n) (Unended m) h k = absurd (no_client (words bytes line) h.2 (inl k.3) h.3)
    same_fault (TooManyClients n) g h k = absurd k
    same_fault (TooManyCommands n) (TooManyCommands m) h k = ap TooManyCommands (h.0 ∙ sym k.0)
    same_fault (TooManyCommands n) (BadLine m) h k = absurd (not_bad m k (has_form-commands n h))
    same_fault (TooManyCommands n) (TooManyClients m) h k = absurd (no_client (words bytes line) k.2 h.2 k.3)
    same_fault (TooManyCommands n) (Unended m) h k = absurd (omega (arith, h.1, k.2))
    same_fault (TooManyCommands n) g h k = absurd k
    same_fault (Unended n) (Unended m) h k = ap Unended (h.0 ∙ sym k.0)
    same_fault (Unended n) (BadLine m) h k = absurd (not_bad m k (has_form-unended n h))
    same_fault (Unended n) (TooManyClients m) h k = absurd (no_client (words bytes line) k.2 (inl h.3) k.3)
    same_fault (Unended n) (TooManyCommands m) h k = absurd (omega (arith, k.1, h.2))
    same_fault (Unended n) g h k = absurd k
    same_fault f g h k = absurd h

  -- ---- two readings up to where no item comes next are one

  record IsSameReading (f g : Top) (before other : List SectionValue) (r s : List Line) : Type 0 where
    pub frame : f ≡ g
    pub sections : before ≡ other
    pub rest : r ≡ s

  leads_by_reading : (frame : Top) (sections : List SectionValue) (rest : List Line)
      (read : IsReadUpTo bytes frame sections rest) → Leads bytes [] read.others (items_of sections) sections rest
  leads_by_reading frame sections rest read =
      let none : (n : List ℕ) → Contains {X = List ℕ} [] n → Contains {X = List ℕ} [] n = λ n k. k in
      leads_by_sections bytes sections [] [] read.others rest read.are_sections none (omega (arith, read.within.0))
      read.within.1

  same_reading : (f g : Top) (before other : List SectionValue) (r s : List Line) → IsReadUpTo bytes f before r
      → IsReadUpTo bytes g other s → IsStuck bytes before r → IsStuck bytes other s
      → IsSameReading f g before other r s
  same_reading f g before other r s h k stuck stuck' =
      let lines_are : h.first ∷ h.others ≡ k.first ∷ k.others = sym h.lines_are ∙ k.lines_are in
      let first : k.first ≡ h.first = cc in
      let others : k.others ≡ h.others = cc in
      let named = subst (λ (l : Line). IsFrameLine (words bytes l) g) first k.names_frame in
      let cell : f.top ≡ g.top = same_cell h.names_frame named in
      let frame : f ≡ g = ap (λ (c : Triple). let top : Top = record { top = c } in top) cell in
      let leads = leads_by_reading f before r h in
      let leads' = subst (λ ls. Leads bytes [] ls (items_of other) other s) others (leads_by_reading g other s k) in
      let ends =
      same_ends bytes (items_of before) (items_of other) [] before other h.others r s leads leads' stuck stuck' in
      record { frame = frame; sections = ends.0; rest = ends.1 }

  pub one_script : (a b : ScriptValue) → IsScript bytes a → IsScript bytes b → a ≡ b
  one_script a b h k =
      let stuck = IsStuck-end bytes a.clients in
      let stuck' = IsStuck-end bytes b.clients in
      let same = same_reading a.frame b.frame a.clients b.clients [] [] h k stuck stuck' in
      ap (λ (f : Top). let script : ScriptValue = record { frame = f; clients = a.clients } in script) same.frame
      ∙ ap (λ (ss : List SectionValue). let script : ScriptValue = record { frame = b.frame; clients = ss } in script)
      same.sections

  -- ---- a script has no fault, and other bytes have one at most

  no_frame_fault : (fault : ScriptFault) (frame : Top) (sections : List SectionValue) (rest : List Line)
      → IsFrameFault bytes (text_lines bytes) fault → IsReadUpTo bytes frame sections rest → ⊥
  no_frame_fault NoFrame frame sections rest h read =
      let names = read.names_frame in
      let lacks = subst (LacksFrame bytes) read.lines_are h in
      lacks (names.v ∷ names.k ∷ names.t ∷ [], names.words_are)
  no_frame_fault (BadFrame n) frame sections rest h read =
      let spoils = subst (λ ls. SpoilsFrame bytes ls n) read.lines_are h in
      spoils.2 frame read.names_frame
  no_frame_fault fault frame sections rest h read = h

  same_frame_fault : (lines : List Line) (f g : ScriptFault) → IsFrameFault bytes lines f → IsFrameFault bytes lines g
      → f ≡ g
  same_frame_fault lines NoFrame NoFrame h k = refl
  same_frame_fault [] NoFrame (BadFrame m) h k = absurd k
  same_frame_fault [] (BadFrame n) g h k = absurd h
  same_frame_fault (line ∷ lines) (BadFrame n) (BadFrame m) h k = ap BadFrame (h.0 ∙ sym k.0)
  same_frame_fault (line ∷ lines) NoFrame (BadFrame m) h k = absurd (h k.1)
  same_frame_fault (line ∷ lines) (BadFrame n) NoFrame h k = absurd (k h.1)
  same_frame_fault lines NoFrame g h k = absurd k
  same_frame_fault lines (BadFrame n) g h k = absurd k
  same_frame_fault lines f g h k = absurd h

  pub no_fault : (script : ScriptValue) (fault : ScriptFault) → IsScript bytes script → IsScriptFault bytes fault → ⊥
  no_fault script fault is (inl h) = no_frame_fault fault script.frame script.clients [] h is
  no_fault script fault is (inr h) =
      let stuck = IsStuck-end bytes script.clients in
      let stuck' = IsStuck-faulty h.before h.line h.later fault h.faulty in
      let none =
      (same_reading script.frame h.frame script.clients h.before [] (h.line ∷ h.later) is h.read stuck stuck').rest in
      cc

  same_later : (f g : ScriptFault) → HasFaultyLine bytes f → HasFaultyLine bytes g → f ≡ g
  same_later f g h k =
      let stuck = IsStuck-faulty h.before h.line h.later f h.faulty in
      let stuck' = IsStuck-faulty k.before k.line k.later g k.faulty in
      let same =
      same_reading h.frame k.frame h.before k.before (h.line ∷ h.later) (k.line ∷ k.later) h.read k.read stuck stuck' in
      let lines = same.rest in
      let line : k.line ≡ h.line = cc in
      let later : k.later ≡ h.later = cc in
      let faulty = subst (λ ss. IsFaulty bytes ss k.line k.later g) (sym same.sections) k.faulty in
      let here = subst (λ (l : Line). IsFaulty bytes h.before l k.later g) line faulty in
      let there = subst (λ ls. IsFaulty bytes h.before h.line ls g) later here in
      same_fault h.before h.line h.later f g h.faulty there

  pub one_fault : (f g : ScriptFault) → IsScriptFault bytes f → IsScriptFault bytes g → f ≡ g
  one_fault f g (inl h) (inl k) = same_frame_fault (text_lines bytes) f g h k
  one_fault f g (inl h) (inr k) = absurd (no_frame_fault f k.frame k.before (k.line ∷ k.later) h k.read)
  one_fault f g (inr h) (inl k) = absurd (no_frame_fault g h.frame h.before (h.line ∷ h.later) k h.read)
  one_fault f g (inr h) (inr k) = same_later f g h k
