-- Uploads that are taken out of a list one by one, whatever their order. Places of the list are kept for those left.
use Rattle.std.specs.Prelude.{◌≡◌, ℕ, ◌<◌, ◌≤◌, Bool, true, false, ◌++◌, IsPermutation, List, map, slice_index}
use Rattle.lj_cover.specs.Rules.{Upload}
use Rattle.lj_deriv.specs.Nodes.{upload_at}

-- the uploads at these places
abbrev pub uploads_at : List Upload → List ℕ → List Upload
uploads_at held places = map (λ i. upload_at held i) places

-- the upload is at the j-th of the places
abbrev pub IsAt : List Upload → List ℕ → ℕ → Upload → Type 0
IsAt held places j u = upload_at held (slice_index places j) ≡ u

-- it is at none of these
abbrev pub LacksIn : List Upload → List ℕ → ℕ → ℕ → Upload → Type 0
LacksIn held places from until u = (j : ℕ) → from ≤ j → j < until → IsAt held places j u → ⊥

-- the places left are those without a place for each of the uploads; or there are none for all of them, whatever was
-- taken out before and whatever follows
abbrev pub TakesOutAll : List Upload → List ℕ → List ℕ → List Upload → Bool → Type 0
TakesOutAll held before now us true = IsPermutation (uploads_at held before) (us ++ uploads_at held now)
TakesOutAll held before now us false = (done rest : List Upload)
    → IsPermutation (done ++ uploads_at held before) (done ++ (us ++ rest)) → ⊥
