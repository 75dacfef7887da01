-- The last of some sections, and the names of all.
use Rattle.std.proofs.Common.{◌≡◌, ℕ, zero, suc, ◌+◌, ◌-◌, ◌<◌, List, [], ◌∷◌, ◌++◌, Bool, true, false, Some, IsTrue}
use Rattle.std.proofs.Common.{MatchBool, ◌↔◌, length, map, get_or, set, refl, sym, ap, ◌∙◌, arith, slice_get}
use Rattle.std.proofs.lemmas.List.{get_or-map, length-map}
use Rattle.std.proofs.lemmas.Option.{get_or_from_slice_get}
use Rattle.std.proofs.lemmas.Bool.{false≢true}
use Rattle.std.specs.List.{AllWithin, Contains, HoldsAt}
use Rattle.lj_script.specs.Items.{with_command}
use Rattle.lj_script.specs.Faults.{last_commands}
use Rattle.lj_script.specs.Values.{SectionValue}
use Rattle.lj_script.specs.declared.scripts.Command.{Command}

pub last_commands-at : (ss : List SectionValue) (i : ℕ) (d : SectionValue) → i + 1 ≡ length ss
    → last_commands ss ≡ length (get_or ss i d).commands
last_commands-at [] i d e = absurd (omega arith)
last_commands-at (s ∷ []) zero d e = refl
last_commands-at (s ∷ []) (suc i) d e = absurd (omega arith)
last_commands-at (s ∷ (r ∷ ss)) zero d e = absurd (omega arith)
last_commands-at (s ∷ (r ∷ ss)) (suc i) d e = last_commands-at (r ∷ ss) i d (omega arith)

pub with_command-at : (ss : List SectionValue) (i : ℕ) (d : SectionValue) (c : Command) → i + 1 ≡ length ss
    → with_command ss c ≡ set ss i (record {
      name = (get_or ss i d).name;
      commands =
          (get_or ss i d).commands ++ c ∷ [];
    })
with_command-at [] i d c e = absurd (omega arith)
with_command-at (s ∷ []) zero d c e = refl
with_command-at (s ∷ []) (suc i) d c e = absurd (omega arith)
with_command-at (s ∷ (r ∷ ss)) zero d c e = absurd (omega arith)
with_command-at (s ∷ (r ∷ ss)) (suc i) d c e = ap (λ rest. s ∷ rest) (with_command-at (r ∷ ss) i d c (omega arith))

-- the result of a search for a section with a name
pub IsTrue-named : (found : Bool) (ss : List SectionValue) (name : List ℕ)
    → MatchBool found ((k : ℕ) × (k < length ss) × HoldsAt (λ s. s.name ≡ name) ss k)
    (AllWithin (λ s. s.name ≡ name → ⊥) ss 0 (length ss))
    → IsTrue found ↔ Contains (map (λ s. s.name) ss) name
IsTrue-named true ss name h =
    let d : SectionValue = record { name = name; commands = [] } in
    let inside : h.0 < length (map (λ (s : SectionValue). s.name) ss) =
    omega (arith, h.1, length-map ss (λ (s : SectionValue). s.name)) in
    (λ _. (h.0, inside, get_or-map (λ s. s.name) ss h.0 d name h.1 ∙ h.2 d), λ _. refl)
IsTrue-named false ss name h =
    let d : SectionValue = record { name = name; commands = [] } in (
      λ e. absurd (false≢true e),
      λ (k, lt, e).
          let inside : k < length ss = omega (arith, lt, length-map ss (λ (s : SectionValue). s.name)) in
          absurd (h k d (omega arith) inside (sym (get_or-map (λ s. s.name) ss k d name inside) ∙ e)),
    )

pub last_commands-in : (ss : List SectionValue) (s : SectionValue) → slice_get ss (length ss - 1) ≡ Some s
    → last_commands ss ≡ length s.commands
last_commands-in [] s is = cc
last_commands-in (r ∷ ss) s is =
    let one : length (r ∷ ss) - 1 + 1 ≡ length (r ∷ ss) = omega arith in
    last_commands-at (r ∷ ss) (length (r ∷ ss) - 1) s one
    ∙ ap (λ (x : SectionValue). length x.commands) (get_or_from_slice_get (r ∷ ss) (length (r ∷ ss) - 1) s s is)

pub some-in : (ss : List SectionValue) (i : ℕ) (s : SectionValue) → slice_get ss i ≡ Some s → 0 < length ss
some-in [] i s is = cc
some-in (r ∷ ss) i s is = omega arith
