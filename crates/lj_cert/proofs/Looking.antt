-- An upload is found by its name and ordinal where there is one.
use Rattle.std.proofs.Common.{◌≡◌, ℕ, ◌<◌, List, ◌∷◌, [], ◌++◌, length, get_or, arith, refl, ap, ap₂}
use Rattle.std.proofs.Common.{◌∙◌, subst}
use Rattle.std.proofs.Common.{⊎_elim, ◌+◌}
use Rattle.std.proofs.lemmas.Bool.{cases_lt}
use Rattle.std.proofs.lemmas.Cmp.{nat_cmp_total, nat_list_cmp_total, on_total, then_total}
use Rattle.std.proofs.lemmas.List.Elements.{All-from_recursion, Contains-append_left, Contains-push, recursion_from_All}
use Rattle.std.proofs.lemmas.List.Sorted.{All-permutation, Contains-permutation, searchable_from_sorted}
use Rattle.std.proofs.lemmas.Map.Lookups.{CmpEqualImpliesEq, exact_bytes, exact_unsigned}
use Rattle.std.specs.Cmp.{IsTotalOrder}
use Rattle.std.specs.Cmp.Lexicographic.{slice_cmp}
use Rattle.std.specs.List.{Contains, HoldsAt}
use Rattle.std.specs.List.Sorted.{IsNonDecreasingBy, IsPartitionPoint, IsPermutation}
use Rattle.std.specs.Ordering.{nat_cmp, ordering_index, ordering_reverse, ordering_then}
use Rattle.std.specs.declared.cmp.Ordering.{Ordering}
use Rattle.std.specs.declared.cmp.Ordering.TheVariants.{Less, Equal, Greater}
use Rattle.lj_base.proofs.Lists.{AllByRecursion-at, AllByRecursion-push}
use Rattle.lj_cover.specs.Rules.{Upload}
use Rattle.lj_deriv.specs.Trees.{upload_at}
use Rattle.lj_cert.proofs.OneRefusal.{within}
use Rattle.lj_cert.specs.Places.{AreEntries, HasEntries, IsEntryOf, IsPlaceOf, name_cmp, name_of, upload_name}
use Rattle.lj_cert.specs.Unfolding.{IsNamed}
use Rattle.lj_cert.specs.declared.places.Entry.{Entry}

pub name_total : IsTotalOrder name_cmp
name_total =
    then_total (on_total (λ (n : List ℕ × ℕ). n.0) nat_list_cmp_total)
    (on_total (λ (n : List ℕ × ℕ). n.1) nat_cmp_total)

both_equal : (a b : Ordering) → ordering_then a b ≡ Equal → (a ≡ Equal) × (b ≡ Equal)
both_equal Less b h = absurd (cc h)
both_equal Equal b h = (refl, h)
both_equal Greater b h = absurd (cc h)

exact_names : CmpEqualImpliesEq name_cmp
exact_names x y h =
    let both = both_equal (slice_cmp nat_cmp x.0 y.0) (nat_cmp x.1 y.1) h in
    let pair : List ℕ → ℕ → List ℕ × ℕ = λ a b. (a, b) in
    ap₂ pair (exact_bytes x.0 y.0 both.0) (exact_unsigned x.1 y.1 both.1)

own_reverse : (r : Ordering) → r ≡ ordering_reverse r → r ≡ Equal
own_reverse Less h = absurd (cc h)
own_reverse Equal h = refl
own_reverse Greater h = absurd (cc h)

same_equal : (x : List ℕ × ℕ) → name_cmp x x ≡ Equal
same_equal x = own_reverse (name_cmp x x) (name_total.antisymm x x)

-- where the entry that was found stands at i
pub found_place : (us : List Upload) (es : List Entry) (client : List ℕ) (o i : ℕ) (d : Entry) → AreEntries us es
    → i < length es → HoldsAt (λ e. name_cmp (name_of e) (client, o) ≡ Equal) es i
    → IsPlaceOf us client o (get_or es i d).place
found_place us es client o i d h inside equal =
    let e = get_or es i d in
    let name = exact_names (name_of e) (client, o) (equal d) in
    let place : IsEntryOf us e = AllByRecursion-at (IsEntryOf us) d es i inside h.held.places in
    subst (λ (n : List ℕ × ℕ). IsPlaceOf us n.0 n.1 e.place) name place

-- where none was found, and it would stand at i
pub no_place : (us : List Upload) (es : List Entry) (client : List ℕ) (o i : ℕ) → AreEntries us es
    → (IsNonDecreasingBy (λ e. ordering_index (name_cmp (name_of e) (client, o))) es
    → IsPartitionPoint (λ e. name_cmp (name_of e) (client, o) ≡ Less)
    (λ e. name_cmp (name_of e) (client, o) ≡ Greater) es i) → (u : Upload) → IsNamed us client o u → ⊥
no_place us es client o i h split u named =
    let q : List ℕ × ℕ = (client, o) in
    let parts = split (searchable_from_sorted name_total name_of es q h.sorted) in
    let k = named.there.0 in
    let here : upload_at us k ≡ u = within us k _ u named.there.1 ∙ named.there.2 in
    let entry = h.held.each k named.there.1 in
    let e = entry.0 in
    let place : Contains es e = entry.1 in
    let pair : List ℕ → ℕ → List ℕ × ℕ = λ a b. (a, b) in
    let name : name_of e ≡ q = entry.2 ∙ ap upload_name here ∙ ap₂ pair named.client_is named.ordinal_is in
    let equal : name_cmp (name_of (get_or es place.0 e)) q ≡ Equal =
    ap (λ x. name_cmp (name_of x) q) place.2 ∙ ap (λ n. name_cmp n q) name ∙ same_equal q in
    ⊎_elim (λ low. cc (parts.0 place.0 e (omega arith) low, equal)) (λ high. cc (parts.1 place.0 e high place.1, equal))
    (cases_lt place.0 i)

-- ---- how the entries are made

-- an entry of the next upload
pub entries_more : (us : List Upload) (n : ℕ) (es : List Entry) (e : Entry) → HasEntries us n es → IsEntryOf us e
    → name_of e ≡ upload_name (upload_at us n) → HasEntries us (n + 1) (es ++ e ∷ [])
entries_more us n es e h place name = record {
  places = AllByRecursion-push (IsEntryOf us) es e h.places place;
  each = λ u less. ⊎_elim
      (λ low. let old = h.each u low in (old.0, Contains-append_left es (e ∷ []) old.0 old.1, old.2))
      (λ high. let last : n ≡ u = omega (arith, less, high) in
      (e, Contains-push es e, subst (λ m. name_of e ≡ upload_name (upload_at us m)) last name))
      (cases_lt u n);
}

-- the same entries in another order
pub entries_moved : (us : List Upload) (n : ℕ) (es fs : List Entry) → IsPermutation es fs → HasEntries us n es
    → HasEntries us n fs
entries_moved us n es fs moved h = record {
  places = recursion_from_All (IsEntryOf us) fs (All-permutation (IsEntryOf us) es fs moved
      (All-from_recursion (IsEntryOf us) es h.places));
  each = λ u less. let old = h.each u less in (old.0, Contains-permutation es fs old.0 moved old.1, old.2);
}
