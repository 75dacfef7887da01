-- Sections are read item by item, in one way at most.
use Rattle.std.proofs.Common.{◌≡◌, ◌⊎◌, ℕ, ◌+◌, ◌<◌, ◌≤◌, List, [], ◌∷◌, ◌++◌, length, map, refl, sym, ap, ◌∙◌, subst}
use Rattle.std.proofs.Common.{arith, inl, inr, ⊎_elim, append_assoc, append-nil, length-append}
use Rattle.std.specs.List.{Contains}
use Rattle.std.proofs.lemmas.List.Elements.{Contains-append_cases}
use Rattle.lj_text.specs.declared.lines.Line.{Line}
use Rattle.lj_script.specs.Items.{FitsAfter, HasRoom, IsItem, Item, new_client, new_command, with_command, with_item}
use Rattle.lj_script.specs.Scripts.{AreCommands, AreSections}
use Rattle.lj_script.specs.Faults.{last_commands}
use Rattle.lj_script.specs.Values.{SectionValue}
use Rattle.lj_script.specs.declared.limits.TheConstants.{MAX_CLIENTS, MAX_COMMANDS}
use Rattle.lj_script.specs.declared.scripts.Command.{Command}
use Rattle.lj_script.proofs.Adding.{AreFew, Contains-first, Contains-later, Contains-one, names}
use Rattle.lj_script.proofs.SameItems.{same_item}

-- from some sections, with these lines left, the items lead to others, with the rest left
abbrev pub Leads : List ℕ → List SectionValue → List Line → List Item → List SectionValue → List Line → Type 0
Leads bytes from lines [] to rest = (from ≡ to) × (lines ≡ rest)
Leads bytes from lines (i ∷ is) to rest =
    (middle : List Line) × IsItem bytes i lines middle × FitsAfter from i
    × Leads bytes (with_item from i) middle is to rest

-- no item comes next
abbrev pub IsStuck : List ℕ → List SectionValue → List Line → Type 0
IsStuck bytes sections lines = (i : Item) (rest : List Line) → IsItem bytes i lines rest → FitsAfter sections i → ⊥

not_stuck : (bytes : List ℕ) (from to : List SectionValue) (lines rest middle : List Line) (i : Item) → from ≡ to
    → lines ≡ rest → IsStuck bytes to rest
    → IsItem bytes i lines middle → FitsAfter from i → ⊥
not_stuck bytes from to lines rest middle i same left stuck item fits =
    stuck i middle (subst (λ ls. IsItem bytes i ls middle) left item) (subst (λ ss. FitsAfter ss i) same fits)

pub same_ends : (bytes : List ℕ) (is js : List Item) (from to other : List SectionValue) (lines r s : List Line)
    → Leads bytes from lines is to r → Leads bytes from lines js other s
    → IsStuck bytes to r → IsStuck bytes other s → (to ≡ other) × (r ≡ s)
same_ends bytes [] [] from to other lines r s h k stuck stuck' = (sym h.0 ∙ k.0, sym h.1 ∙ k.1)
same_ends bytes [] (j ∷ js) from to other lines r s h k stuck stuck' =
    absurd (not_stuck bytes from to lines r k.0 j h.0 h.1 stuck k.1 k.2)
same_ends bytes (i ∷ is) [] from to other lines r s h k stuck stuck' =
    absurd (not_stuck bytes from other lines s h.0 i k.0 k.1 stuck' h.1 h.2)
same_ends bytes (i ∷ is) (j ∷ js) from to other lines r s h k stuck stuck' =
    let same = same_item bytes i j lines h.0 k.0 h.1 k.1 in
    let item = subst (λ x. Leads bytes (with_item from x) k.0 js other s) (sym same.0) k.3 in
    same_ends bytes is js (with_item from i) to other h.0 r s h.3
    (subst (λ ls. Leads bytes (with_item from i) ls js other s) (sym same.1) item) stuck stuck'

-- ---- sections are read by items

abbrev with_commands : SectionValue → List Command → SectionValue
with_commands s cs = record { name = s.name; commands = s.commands ++ cs }

with_command-last : (front : List SectionValue) (s : SectionValue) (c : Command)
    → with_command (front ++ s ∷ []) c ≡ front ++ with_commands s (c ∷ []) ∷ []
with_command-last [] s c = refl
with_command-last (r ∷ []) s c = refl
with_command-last (r ∷ (q ∷ front)) s c = ap (λ rest. r ∷ rest) (with_command-last (q ∷ front) s c)

last_commands-last : (front : List SectionValue) (s : SectionValue)
    → last_commands (front ++ s ∷ []) ≡ length s.commands
last_commands-last [] s = refl
last_commands-last (r ∷ []) s = refl
last_commands-last (r ∷ (q ∷ front)) s = last_commands-last (q ∷ front) s

HasRoom-last : (front : List SectionValue) (s : SectionValue) → length s.commands < MAX_COMMANDS
    → HasRoom (front ++ s ∷ [])
HasRoom-last front s few = (omega (arith, length-append front (s ∷ [])), omega (arith, last_commands-last front s))

leads_by_commands : (bytes : List ℕ) (cs : List Command) (is : List Item) (front : List SectionValue)
    (s : SectionValue) (to : List SectionValue) (lines middle rest : List Line)
    → AreCommands bytes cs lines middle → length s.commands + length cs ≤ MAX_COMMANDS
    → Leads bytes (front ++ with_commands s cs ∷ []) middle is to rest
    → Leads bytes (front ++ s ∷ []) lines (map new_command cs ++ is) to rest
leads_by_commands bytes [] is front s to lines middle rest h few leads =
    let none : with_commands s [] ≡ s = ap (λ (cs : List Command). let t : SectionValue =
    record { name = s.name; commands = cs } in t) (append-nil s.commands) in
    subst (λ t. Leads bytes (front ++ t ∷ []) lines is to rest) none
    (subst (λ ls. Leads bytes (front ++ with_commands s [] ∷ []) ls is to rest) (sym h) leads)
leads_by_commands bytes (c ∷ cs) is front s to lines middle rest h few leads =
    let one : with_command (front ++ s ∷ []) c ≡ front ++ with_commands s (c ∷ []) ∷ [] = with_command-last front s c in
    let next : SectionValue = with_commands s (c ∷ []) in
    let all : with_commands s (c ∷ cs) ≡ with_commands next cs =
    ap (λ (ds : List Command). let t : SectionValue = record { name = s.name; commands = ds } in t)
    (sym (append_assoc s.commands (c ∷ []) cs)) in
    let others = subst (λ t. Leads bytes (front ++ t ∷ []) middle is to rest) all leads in
    let more : length next.commands + length cs ≤ MAX_COMMANDS = omega (arith, length-append s.commands (c ∷ [])) in
    let later = leads_by_commands bytes cs is front next to h.0 middle rest h.2 more others in
    let room : length s.commands < MAX_COMMANDS = omega arith in (
      h.0,
      h.1,
      HasRoom-last front s room,
      subst (λ ss. Leads bytes ss h.0 (map new_command cs ++ is) to rest)
          (sym one) later,
    )

-- the items of sections
abbrev pub items_of : List SectionValue → List Item
items_of [] = []
items_of (s ∷ ss) = new_client s.name ∷ (map new_command s.commands ++ items_of ss)

names-push : (front : List SectionValue) (s : SectionValue) (n : List ℕ) → Contains (names (front ++ s ∷ [])) n
    → Contains (names front) n ⊎ (s.name ≡ n)
names-push [] s n h = inr (Contains-one s.name n h)
names-push (r ∷ front) s n h =
    ⊎_elim
    (λ one. inl (subst (λ m. Contains (r.name ∷ names front) m) (Contains-one r.name n one)
    (Contains-first r.name (names front))))
    (λ later. ⊎_elim (λ k. inl (Contains-later r.name n (names front) k)) (λ e. inr e) (names-push front s n later))
    (Contains-append_cases (r.name ∷ []) (names (front ++ s ∷ [])) n h)

pub leads_by_sections : (bytes : List ℕ) (ss front : List SectionValue) (used : List (List ℕ)) (lines rest : List Line)
    → AreSections bytes used ss lines rest
    → ((n : List ℕ) → Contains (names front) n → Contains used n) → length front + length ss ≤ MAX_CLIENTS
    → AreFew ss → Leads bytes front lines (items_of ss) (front ++ ss) rest
leads_by_sections bytes [] front used lines rest h known within few = (sym (append-nil front), h)
leads_by_sections bytes (s ∷ ss) front used lines rest h known within few =
    let section = h.1 in
    let begun : SectionValue = record { name = s.name; commands = [] } in
    let more : length (front ++ s ∷ []) + length ss ≤ MAX_CLIENTS = omega (arith, length-append front (s ∷ [])) in
    let known_now : (n : List ℕ) → Contains (names (front ++ s ∷ [])) n → Contains (s.name ∷ used) n =
    λ n k. ⊎_elim (λ old. Contains-later s.name n used (known n old))
    (λ e. subst (λ m. Contains (s.name ∷ used) m) e (Contains-first s.name used)) (names-push front s n k) in
    let rest_leads = leads_by_sections bytes ss (front ++ s ∷ []) (s.name ∷ used) h.0 rest h.2 known_now more few.1 in
    let to : (front ++ s ∷ []) ++ ss ≡ front ++ s ∷ ss = append_assoc front (s ∷ []) ss in
    let later = subst (λ ts. Leads bytes (front ++ s ∷ []) h.0 (items_of ss) ts rest) to rest_leads in
    let room : length front < MAX_CLIENTS = omega arith in (
      section.others,
      (section.first, section.begins),
      (λ k. section.fresh (known s.name k), room),
      leads_by_commands bytes s.commands (items_of ss) front begun
          (front ++ s ∷ ss) section.others h.0 rest section.commands (omega (arith, few.0)) later,
    )
