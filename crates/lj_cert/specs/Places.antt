-- The places of uploads in the order of their names and ordinals.
use Rattle.std.specs.Prelude.{◌≡◌, ℕ, ◌<◌, List, length}
use Rattle.std.specs.Cmp.Lexicographic.{slice_cmp}
use Rattle.std.specs.List.{AllByRecursion, Contains}
use Rattle.std.specs.List.Sorted.{IsSortedBy}
use Rattle.std.specs.Ordering.{is_lt, nat_cmp, on, then_cmp}
use Rattle.std.specs.declared.cmp.Ordering.{Ordering}
use Rattle.lj_cover.specs.Rules.{Upload}
use Rattle.lj_deriv.specs.Trees.{upload_at}
use Rattle.lj_cert.specs.declared.places.Entry.{Entry}

-- the upload at this place has the name and ordinal
pub record IsPlaceOf (uploads : List Upload) (client : List ℕ) (ordinal u : ℕ) : Type 0 where
  pub there : u < length uploads
  pub client_is : (upload_at uploads u).client ≡ client
  pub ordinal_is : (upload_at uploads u).ordinal ≡ ordinal

-- the order of names by their bytes, and then of ordinals
abbrev pub name_cmp : List ℕ × ℕ → List ℕ × ℕ → Ordering
name_cmp = then_cmp (on (λ (n : List ℕ × ℕ). n.0) (slice_cmp nat_cmp)) (on (λ (n : List ℕ × ℕ). n.1) nat_cmp)

-- the name and ordinal of an entry, and of an upload
abbrev pub name_of : Entry → List ℕ × ℕ
name_of e = (e.client, e.ordinal)

abbrev pub upload_name : Upload → List ℕ × ℕ
upload_name u = (u.client, u.ordinal)

abbrev pub IsEntryOf : List Upload → Entry → Type 0
IsEntryOf uploads e = IsPlaceOf uploads e.client e.ordinal e.place

-- each entry is that of an upload, and each of the first n uploads has one
pub record HasEntries (uploads : List Upload) (n : ℕ) (entries : List Entry) : Type 0 where
  pub places : AllByRecursion (IsEntryOf uploads) entries
  pub each : (u : ℕ) → u < n → (e : Entry) × Contains entries e × (name_of e ≡ upload_name (upload_at uploads u))

-- the entries are those of the uploads, in order
pub record AreEntries (uploads : List Upload) (entries : List Entry) : Type 0 where
  pub held : HasEntries uploads (length uploads) entries
  pub sorted : IsSortedBy (λ e f. is_lt (name_cmp (name_of e) (name_of f))) entries
