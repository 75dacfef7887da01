-- Items that come to the sections read so far.
use Rattle.std.proofs.Common.{◌≡◌, ℕ, zero, suc, ◌<◌, ◌≤◌, List, [], ◌∷◌, ◌++◌, Result, Ok, Err, length, map, refl, sym}
use Rattle.std.proofs.Common.{ap, subst, arith, ⊎_elim, length-append, OnOk, MatchResult}
use Rattle.std.specs.List.{AllByRecursion, Contains}
use Rattle.std.specs.Result.{IsErrAnd}
use Rattle.std.proofs.lemmas.List.Elements.{Contains-append_cases}
use Rattle.lj_base.proofs.Lists.{AllByRecursion-append}
use Rattle.lj_base.specs.Cells.{Triple}
use Rattle.lj_base.specs.Frames.{Top}
use Rattle.lj_text.specs.Lines.{StandFrom, after_line, line_text}
use Rattle.lj_text.specs.declared.lines.Line.{Line}
use Rattle.lj_text.specs.Tokens.{words, words_of}
use Rattle.lj_script.specs.Items.{AddsItem, FitsAfter, HasRoom, IsItem, Item, new_client, new_command, with_command}
use Rattle.lj_script.specs.Items.{with_item}
use Rattle.lj_script.specs.LineForms.{Says}
use Rattle.lj_script.specs.Scripts.{AreCommands, AreSections, Begins, Completes, IsBody, IsCommand, IsReadUpTo}
use Rattle.lj_script.specs.Scripts.{IsWithin}
use Rattle.lj_script.specs.Faults.{last_commands}
use Rattle.lj_script.specs.Values.{SectionValue}
use Rattle.lj_script.specs.declared.limits.TheConstants.{MAX_CLIENTS, MAX_COMMANDS}
use Rattle.lj_script.specs.declared.forms.Form.{Form}
use Rattle.lj_script.specs.declared.forms.Form.TheVariants.{Client, Upload as Offer, UploadFile as OfferFile, Ask}
use Rattle.lj_script.specs.declared.scripts.Command.{Command}
use Rattle.lj_script.specs.declared.scripts.Command.TheVariants.{Upload, UploadFile, Bound, Plan, Expand, Settle}

-- what is known of an `Ok` stays known after a `map_err`
pub OnOk-mapped : {T E F : Type 0} (P : Type 0) (Q : E → F → Type 0) (r : Result T E) (s : Result T F)
    → MatchResult r (λ x. s ≡ Ok x) (λ e. IsErrAnd s (Q e)) → OnOk r P → OnOk s P
OnOk-mapped P Q (Ok x) (Ok y) h k = k
OnOk-mapped P Q (Ok x) (Err e) h k = tt
OnOk-mapped P Q (Err d) (Ok y) h k = absurd h
OnOk-mapped P Q (Err d) (Err e) h k = tt

-- ---- one item

-- what a line says, by its text and its form
pub said : (bytes : List ℕ) (line : Line) (form f : Form) (text : List ℕ) → text ≡ line_text bytes line
    → Says (words_of text) form → form ≡ f → Says (words bytes line) f
said bytes line form f text is says same =
    subst (λ g. Says (words bytes line) g) same (subst (λ t. Says (words_of t) form) is says)

IsCommand-ask : (bytes : List ℕ) (line : Line) (rest : List Line) (command : Command)
    → Says (words bytes line) (Ask command) → IsCommand bytes command (line ∷ rest) rest
IsCommand-ask bytes line rest (Upload c body) says = absurd says
IsCommand-ask bytes line rest (UploadFile body) says = absurd says
IsCommand-ask bytes line rest c says =
    record { first = line; others = rest; begins = record { lines_are = refl; says = says }; completes = refl }

module _ {bytes : List ℕ} {line : Line} {rest : List Line} {before now : List SectionValue} where
  pub AddsItem-client : (name : List ℕ) → Says (words bytes line) (Client name)
      → FitsAfter before (new_client name) × (now ≡ with_item before (new_client name))
      → AddsItem bytes (line ∷ rest) rest before now
  AddsItem-client name says h =
      record { item = new_client name; is = (line, record { lines_are = refl; says = says }); fits = h.0; added = h.1 }

  pub AddsItem-ask : (command : Command) → Says (words bytes line) (Ask command) → HasRoom before
      → now ≡ with_item before (new_command command)
      → AddsItem bytes (line ∷ rest) rest before now
  AddsItem-ask command says room added =
      record { item = new_command command; is = IsCommand-ask bytes line rest command says; fits = room; added = added }

  pub AddsItem-upload : (c : Triple) (body : List ℕ) (left : List Line) → Says (words bytes line) (Offer c)
      → IsBody bytes line rest body left
      → HasRoom before → now ≡ with_item before (new_command (Upload c body))
      → AddsItem bytes (line ∷ rest) left before now
  AddsItem-upload c body left says is room added = record {
    item = new_command (Upload c body);
    is = record { first = line; others = rest; begins = record { lines_are = refl; says = says }; completes = is };
    fits = room;
    added = added;
  }

  pub AddsItem-upload_file : (body : List ℕ) (left : List Line) → Says (words bytes line) OfferFile
      → IsBody bytes line rest body left
      → HasRoom before → now ≡ with_item before (new_command (UploadFile body))
      → AddsItem bytes (line ∷ rest) left before now
  AddsItem-upload_file body left says is room added = record {
    item = new_command (UploadFile body);
    is = record { first = line; others = rest; begins = record { lines_are = refl; says = says }; completes = is };
    fits = room;
    added = added;
  }

-- ---- the sections with an item more

pub Contains-one : (x n : List ℕ) → Contains (x ∷ []) n → x ≡ n
Contains-one x n (zero, lt, e) = e
Contains-one x n (suc k, lt, e) = absurd (omega arith)

-- a name that is neither the first nor among the others is not among all
pub unused_more : (x n : List ℕ) (used : List (List ℕ)) → (Contains used n → ⊥) → (x ≡ n → ⊥) → Contains (x ∷ used) n
    → ⊥
unused_more x n used fresh other h =
    ⊎_elim (λ one. other (Contains-one x n one)) (λ rest. fresh rest) (Contains-append_cases (x ∷ []) used n h)

pub Contains-first : (x : List ℕ) (used : List (List ℕ)) → Contains (x ∷ used) x
Contains-first x used = (0, omega arith, refl)

pub Contains-later : (x n : List ℕ) (used : List (List ℕ)) → Contains used n → Contains (x ∷ used) n
Contains-later x n used (k, lt, e) = (suc k, omega arith, e)

abbrev pub names : List SectionValue → List (List ℕ)
names sections = map (λ s. s.name) sections

AreSections-client : (bytes name : List ℕ) (first : Line) (used : List (List ℕ)) (ss : List SectionValue)
    (lines middle rest : List Line) → AreSections bytes used ss lines middle
    → Begins bytes (Client name) middle first rest → (Contains used name → ⊥) → (Contains (names ss) name → ⊥)
    → AreSections bytes used (ss ++ record { name = name; commands = [] } ∷ []) lines rest
AreSections-client bytes name first used [] lines middle rest h begins fresh new = (
  rest,
  record {
    first = first;
    others = rest;
    begins = subst (λ ls. Begins bytes (Client name) ls first rest)
        (sym h) begins;
    fresh = fresh;
    commands = refl;
  },
  refl,
)
AreSections-client bytes name first used (s ∷ ss) lines middle rest h begins fresh new = (
  h.0,
  h.1,
  AreSections-client bytes name first (s.name ∷ used) ss h.0 middle rest h.2 begins
      (unused_more s.name name used fresh (λ same. new
      (subst (λ n. Contains (names (s ∷ ss)) n) same (Contains-first s.name (names ss)))))
      (λ k. new (Contains-later s.name name (names ss) k)),
)

AreCommands-push : (bytes : List ℕ) (c : Command) (cs : List Command) (lines middle rest : List Line)
    → AreCommands bytes cs lines middle → IsCommand bytes c middle rest
    → AreCommands bytes (cs ++ c ∷ []) lines rest
AreCommands-push bytes c [] lines middle rest h is = (rest, subst (λ ls. IsCommand bytes c ls rest) (sym h) is, refl)
AreCommands-push bytes c (d ∷ cs) lines middle rest h is =
    (h.0, h.1, AreCommands-push bytes c cs h.0 middle rest h.2 is)

AreSections-command : (bytes : List ℕ) (c : Command) (used : List (List ℕ)) (ss : List SectionValue)
    (lines middle rest : List Line) → AreSections bytes used ss lines middle
    → IsCommand bytes c middle rest → 0 < length ss → AreSections bytes used (with_command ss c) lines rest
AreSections-command bytes c used [] lines middle rest h is some = absurd (omega arith)
AreSections-command bytes c used (s ∷ []) lines middle rest h is some =
    let here = subst (λ ls. IsCommand bytes c ls rest) (sym h.2) is in (
      rest,
      record {
        first = h.1.first;
        others = h.1.others;
        begins = h.1.begins;
        fresh = h.1.fresh;
        commands = AreCommands-push bytes c s.commands h.1.others h.0 rest h.1.commands here;
      },
      refl,
    )
AreSections-command bytes c used (s ∷ (r ∷ ss)) lines middle rest h is some =
    (h.0, h.1, AreSections-command bytes c (s.name ∷ used) (r ∷ ss) h.0 middle rest h.2 is (omega arith))

length-with_command : (ss : List SectionValue) (c : Command) → length (with_command ss c) ≡ length ss
length-with_command [] c = refl
length-with_command (s ∷ []) c = refl
length-with_command (s ∷ (r ∷ ss)) c = let rest = length-with_command (r ∷ ss) c in omega arith

abbrev pub AreFew : List SectionValue → Type 0
AreFew sections = AllByRecursion (λ s. length s.commands ≤ MAX_COMMANDS) sections

few-with_command : (ss : List SectionValue) (c : Command) → AreFew ss → last_commands ss < MAX_COMMANDS
    → AreFew (with_command ss c)
few-with_command [] c h room = tt
few-with_command (s ∷ []) c h room = (omega (arith, length-append s.commands (c ∷ [])), tt)
few-with_command (s ∷ (r ∷ ss)) c h room = (h.0, few-with_command (r ∷ ss) c h.1 room)

IsWithin-with_item : (sections : List SectionValue) (item : Item) → IsWithin sections → FitsAfter sections item
    → IsWithin (with_item sections item)
IsWithin-with_item sections (new_client name) h fits =
    let one : SectionValue = record { name = name; commands = [] } in
    let count : length (sections ++ one ∷ []) ≤ MAX_CLIENTS =
    omega (arith, length-append sections (one ∷ []), fits.1) in
    let none : length one.commands ≤ MAX_COMMANDS = omega arith in (
      count,
      AllByRecursion-append (λ (s : SectionValue). length s.commands ≤ MAX_COMMANDS) sections (one ∷ []) h.1
          (none, tt),
    )
IsWithin-with_item sections (new_command c) h fits =
    let count : length (with_command sections c) ≤ MAX_CLIENTS = omega (arith, length-with_command sections c, h.0) in
    (count, few-with_command sections c h.1 fits.1)

AreSections-with_item : (bytes : List ℕ) (sections : List SectionValue) (item : Item) (lines middle rest : List Line)
    → AreSections bytes [] sections lines middle
    → IsItem bytes item middle rest → FitsAfter sections item
    → AreSections bytes [] (with_item sections item) lines rest
AreSections-with_item bytes sections (new_client name) lines middle rest h is fits =
    AreSections-client bytes name is.0 [] sections lines middle rest h is.1 (λ (k, lt, e). omega arith) fits.0
AreSections-with_item bytes sections (new_command c) lines middle rest h is fits =
    AreSections-command bytes c [] sections lines middle rest h is fits.0

pub IsReadUpTo-more : {bytes : List ℕ} {frame : Top} {before now : List SectionValue} {lines rest : List Line}
    → IsReadUpTo bytes frame before lines → AddsItem bytes lines rest before now
    → IsReadUpTo bytes frame now rest
IsReadUpTo-more {bytes} {frame} {before} {now} {lines} {rest} read adds =
    subst (λ sections. IsReadUpTo bytes frame sections rest) (sym adds.added)
    (record {
      first = read.first;
      others = read.others;
      lines_are = read.lines_are;
      names_frame = read.names_frame;
      are_sections =
          AreSections-with_item bytes before adds.item read.others lines rest read.are_sections adds.is adds.fits;
      within = IsWithin-with_item before adds.item read.within adds.fits;
    })

-- ---- the lines after an item

-- lines that are in order from a place on are so from each earlier place on
abbrev pub Earlier : Type 0
Earlier = (bytes : List ℕ) (place other : ℕ) (lines : List Line) → other ≤ place → StandFrom bytes place lines
    → StandFrom bytes other lines

-- the lines after some lines in order are in order
abbrev pub Rest : Type 0
Rest = (bytes : List ℕ) (place : ℕ) (some others : List Line) → StandFrom bytes place (some ++ others)
    → StandFrom bytes place others

module _ (earlier : Earlier) (others_after : Rest) (bytes : List ℕ) where
  after_body : (begin : Line) (lines : List Line) (body : List ℕ) (rest : List Line)
      → IsBody bytes begin lines body rest → StandFrom bytes 0 lines → StandFrom bytes 0 rest
  after_body begin lines body rest is h =
      let all = subst (StandFrom bytes 0) is.reaches.lines_are h in
      let later = others_after bytes 0 is.reaches.inner (is.end ∷ rest) all in
      earlier bytes (after_line bytes is.end) 0 rest (omega arith) later.2

  after_first : (lines others : List Line) (first : Line) → lines ≡ first ∷ others → StandFrom bytes 0 lines
      → StandFrom bytes 0 others
  after_first lines others first is h =
      let known = subst (StandFrom bytes 0) is h in
      earlier bytes (after_line bytes first) 0 others (omega arith) known.2

  after_command : (c : Command) (first : Line) (others rest : List Line) → Completes bytes c first others rest
      → StandFrom bytes 0 others → StandFrom bytes 0 rest
  after_command (Upload c body) first others rest is h = after_body first others body rest is h
  after_command (UploadFile body) first others rest is h = after_body first others body rest is h
  after_command c first others rest is h = subst (StandFrom bytes 0) is h

  pub after_item : (item : Item) (lines rest : List Line) → IsItem bytes item lines rest → StandFrom bytes 0 lines
      → StandFrom bytes 0 rest
  after_item (new_client name) lines rest is h = after_first lines rest is.0 is.1.lines_are h
  after_item (new_command c) lines rest is h =
      after_command c is.first is.others rest is.completes
      (after_first lines is.others is.first is.begins.lines_are h)

shorter_body : {bytes : List ℕ} {begin : Line} {lines rest : List Line} {body : List ℕ}
    → IsBody bytes begin lines body rest → length rest ≤ length lines
shorter_body {bytes} {begin} {lines} {rest} {body} is =
    omega (arith, ap length is.reaches.lines_are, length-append is.reaches.inner (is.end ∷ rest))

shorter_command : (bytes : List ℕ) (c : Command) (lines rest : List Line) → IsCommand bytes c lines rest
    → length rest < length lines
shorter_command bytes (Upload c body) lines rest is =
    omega (arith, ap length is.begins.lines_are, shorter_body is.completes)
shorter_command bytes (UploadFile body) lines rest is =
    omega (arith, ap length is.begins.lines_are, shorter_body is.completes)
shorter_command bytes c lines rest is = omega (arith, ap length is.begins.lines_are, ap length is.completes)

pub shorter_item : (bytes : List ℕ) (item : Item) (lines rest : List Line) → IsItem bytes item lines rest
    → length rest < length lines
shorter_item bytes (new_client name) lines rest is = omega (arith, ap length is.1.lines_are)
shorter_item bytes (new_command c) lines rest is = shorter_command bytes c lines rest is
