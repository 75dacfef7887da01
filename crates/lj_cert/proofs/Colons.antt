-- Where a field is cut at its first colon.
use Rattle.std.proofs.Common.{◌≡◌, ℕ, zero, suc, ◌<◌, false, List, [], ◌∷◌, ◌++◌, None, Some}
use Rattle.std.proofs.Common.{length, length-append, take, get_or, arith, refl, sym, ap, ◌∙◌, ⊎_elim}
use Rattle.std.proofs.Math.ListN.{get_or-append}
use Rattle.std.proofs.Math.Seq.{get_or-append_seam, take-append_seam}
use Rattle.std.proofs.lemmas.Bool.{and_right, cases_order, eqb-true}
use Rattle.std.specs.Str.{all_ascii_digits}
use Rattle.memchr.specs.Find.{NoneBefore, Nowhere, Passes, is_byte}
use Rattle.lj_text.specs.Numbers.{number_of}

no_digits : (token : List ℕ) (i : ℕ) → i < length token → get_or token i 0 ≡ 58 → all_ascii_digits token ≡ false
no_digits [] i inside h = absurd (omega arith)
no_digits (c ∷ cs) zero inside h = rw h refl
no_digits (c ∷ cs) (suc i) inside h = and_right _ _ (no_digits cs i (omega arith) h)

-- no number has a colon
pub no_colon : (token : List ℕ) (n i : ℕ) → number_of token ≡ Some n → i < length token → get_or token i 0 ≡ 58 → ⊥
no_colon token n i is inside h =
    let not : all_ascii_digits token ≡ false = no_digits token i inside h in
    let none : None ≡ number_of token = rw (and_right _ _ not) refl in
    cc (none, is)

colon_at : (field piece rest : List ℕ) → field ≡ piece ++ 58 ∷ rest → get_or field (length piece) 0 ≡ 58
colon_at field piece rest is = rw is (get_or-append_seam piece 58 rest 0)

is_colon : (field : List ℕ) (i : ℕ) → Passes (is_byte 58) field i → get_or field i 0 ≡ 58
is_colon field i h = eqb-true (get_or field i 0) 58 h

passes_colon : (field : List ℕ) (i : ℕ) → get_or field i 0 ≡ 58 → Passes (is_byte 58) field i
passes_colon field i h = rw h refl

-- a search finds the colon after a number
pub colon-found : (field piece rest : List ℕ) (n i : ℕ) → field ≡ piece ++ 58 ∷ rest → number_of piece ≡ Some n
    → NoneBefore (Passes (is_byte 58) field) 0 (length field) i → Passes (is_byte 58) field i → i ≡ length piece
colon-found field piece rest n i is number first at =
    ⊎_elim (λ same. same) (λ other. ⊎_elim
    (λ less. absurd (no_colon piece n i number less
    (sym (ap (λ xs. get_or xs i 0) is ∙ get_or-append piece (58 ∷ rest) 0 i less) ∙ is_colon field i at)))
    (λ more. absurd (first.before (length piece) (omega arith) more
    (passes_colon field (length piece) (colon_at field piece rest is)))) other) (cases_order i (length piece))

-- and nothing stands where a field has none
pub colon-none : (field piece rest : List ℕ) → field ≡ piece ++ 58 ∷ rest
    → Nowhere (Passes (is_byte 58) field) 0 (length field) → ⊥
colon-none field piece rest is none =
    let inside : length piece < length field = omega (arith, ap length is ∙ length-append piece (58 ∷ rest)) in
    none (length piece) (omega arith) inside (passes_colon field (length piece) (colon_at field piece rest is))

-- what stands before the colon, and what after it
pub before_colon : (field piece rest : List ℕ) (i : ℕ) → field ≡ piece ++ 58 ∷ rest → i ≡ length piece
    → take i field ≡ piece
before_colon field piece rest i is at = rw (is, at) (take-append_seam piece (58 ∷ rest))
