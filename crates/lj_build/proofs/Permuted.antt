-- Lists with the same uploads, each as often, in whatever order.
use Rattle.std.proofs.Common.{◌≡◌, ℕ, ◌<◌, Bool, true, false, ◌&&◌, eqb, List, [], ◌∷◌, ◌++◌, Decides}
use Rattle.std.proofs.Common.{length, refl, sym, ap, ◌∙◌, subst, arith}
use Rattle.std.specs.Prelude.{◌↔◌, IsPermutation, slice_index}
use Rattle.std.specs.Cmp.Lexicographic.{pointwise}
use Rattle.std.specs.List.{Contains, remove, sum_by}
use Rattle.std.proofs.lemmas.Bool.Decides.{Decides-and, Decides-eqb}
use Rattle.std.proofs.lemmas.Grind.{get_or_default_zero}
use Rattle.std.proofs.lemmas.List.{get_or-map, length-map}
use Rattle.std.proofs.lemmas.List.Elements.{Contains-append_right}
use Rattle.std.proofs.lemmas.List.Sorted.{Contains-permutation, IsPermutation-map, IsPermutation-pop_more}
use Rattle.std.proofs.lemmas.List.Sorted.{IsPermutation-refl}
use Rattle.std.proofs.lemmas.List.Sorted.{IsPermutation-remove, IsPermutation-sym, sum_by-IsPermutation}
use Rattle.std.proofs.lemmas.List.Sums.{sum_by-append, sum_by-cons}
use Rattle.std.proofs.lemmas.Slice.Eq.{slice_eq-Decides}
use Rattle.lj_base.specs.Cells.{Triple}
use Rattle.lj_base.specs.Frames.{InFrame, Top, size_of}
use Rattle.lj_cover.specs.Derivations.{IsLeast}
use Rattle.lj_cover.specs.Rules.{Upload}
use Rattle.lj_deriv.specs.Nodes.{upload_at}
use Rattle.lj_table.specs.Tables.{AreLeast, Contents, IsAtRest, state_of}
use Rattle.lj_build.specs.Building.{Rests}
use Rattle.lj_build.specs.Closing.{HasUploads, IsClosed}
use Rattle.lj_build.specs.Matching.{IsAt, LacksIn, uploads_at}

-- ---- how often an upload is in a list

Decides-iff : {P Q : Type 0} (r : Bool) → (P → Q) → (Q → P) → Decides r P → Decides r Q
Decides-iff r to back d = (λ e. to (d.0 e), λ q. d.1 (back q))

same_cell : Triple → Triple → Bool
same_cell c d = eqb c.v d.v && (eqb c.k d.k && eqb c.t d.t)

Decides-cell : (c d : Triple) → Decides (same_cell c d) (c ≡ d)
unfolding same_cell
Decides-cell c d = Decides-iff (same_cell c d)
    (λ h i. record { v = h.0 i; k = h.1.0 i; t = h.1.1 i })
    (λ e. (ap (λ (x : Triple). x.v) e, (ap (λ (x : Triple). x.k) e, ap (λ (x : Triple). x.t) e)))
    (Decides-and (eqb c.v d.v) _ (Decides-eqb c.v d.v) (Decides-and (eqb c.k d.k) _ (Decides-eqb c.k d.k)
    (Decides-eqb c.t d.t)))

Decides-numbers : (xs ys : List ℕ) → Decides (pointwise eqb xs ys) (xs ≡ ys)
Decides-numbers xs ys = slice_eq-Decides Decides-eqb xs ys (pointwise eqb xs ys) refl

Decides-blocks : (xs ys : List (List ℕ)) → Decides (pointwise (pointwise eqb) xs ys) (xs ≡ ys)
Decides-blocks xs ys = slice_eq-Decides Decides-numbers xs ys (pointwise (pointwise eqb) xs ys) refl

same_upload : Upload → Upload → Bool
same_upload a b = pointwise eqb a.client b.client && (eqb a.ordinal b.ordinal
    && (same_cell a.cell b.cell && pointwise (pointwise eqb) a.blocks b.blocks))

Decides-upload : (a b : Upload) → Decides (same_upload a b) (a ≡ b)
unfolding same_upload
Decides-upload a b = Decides-iff (same_upload a b)
    (λ h i. record { client = h.0 i; ordinal = h.1.0 i; cell = h.1.1.0 i; blocks = h.1.1.1 i })
    (λ e. (
      ap (λ (x : Upload). x.client) e,
      (
        ap (λ (x : Upload). x.ordinal) e,
        (ap (λ (x : Upload). x.cell) e, ap (λ (x : Upload). x.blocks) e),
      ),
    ))
    (Decides-and (pointwise eqb a.client b.client) _ (Decides-numbers a.client b.client)
    (Decides-and (eqb a.ordinal b.ordinal) _ (Decides-eqb a.ordinal b.ordinal)
    (Decides-and (same_cell a.cell b.cell) _ (Decides-cell a.cell b.cell) (Decides-blocks a.blocks b.blocks))))

abbrev one_if : Bool → ℕ
one_if true = 1
one_if false = 0

-- 1 for the upload itself, and 0 for others
times : Upload → Upload → ℕ
times u x = one_if (same_upload u x)

one_if-true : (b : Bool) → b ≡ true → one_if b ≡ 1
one_if-true b e = ap (λ (x : Bool). one_if x) e

one_if-other : (b : Bool) → (b ≡ true → ⊥) → one_if b ≡ 0
one_if-other true other = absurd (other refl)
one_if-other false other = refl

times-same : (u : Upload) → times u u ≡ 1
unfolding times
times-same u = one_if-true (same_upload u u) ((Decides-upload u u).1 refl)

times-other : (u x : Upload) → (u ≡ x → ⊥) → times u x ≡ 0
unfolding times
times-other u x other = one_if-other (same_upload u x) (λ e. other ((Decides-upload u x).0 e))

times-none : (u : Upload) (xs : List Upload) → (Contains xs u → ⊥) → sum_by (times u) xs ≡ 0
times-none u [] lacks = refl
times-none u (x ∷ xs) lacks =
    let here : times u x ≡ 0 = times-other u x (λ e. lacks (0, omega arith, sym e)) in
    let rest : sum_by (times u) xs ≡ 0 = times-none u xs (λ h. lacks (Contains-append_right (x ∷ []) xs u h)) in
    omega (arith, sum_by-cons (times u) x xs)

-- what a list lacks can't follow where the list can
lacks_more : (done left rest : List Upload) (u : Upload) → (Contains left u → ⊥)
    → IsPermutation (done ++ left) (done ++ u ∷ rest) → ⊥
lacks_more done left rest u lacks p =
    let e : sum_by (times u) (done ++ u ∷ rest) ≡ sum_by (times u) (done ++ left) =
    sum_by-IsPermutation (times u) (done ++ left) (done ++ u ∷ rest) p in
    omega (
      arith,
      e,
      sum_by-append (times u) done left,
      sum_by-append (times u) done (u ∷ rest),
      sum_by-cons (times u) u rest,
      times-none u left lacks,
      times-same u,
    )

-- ---- places

-- none of the places has it, so it is not among their uploads
not_contained : (held : List Upload) (places : List ℕ) (u : Upload) → LacksIn held places 0 (length places) u
    → Contains (uploads_at held places) u → ⊥
not_contained held places u lacks (k, inside, is) =
    let at : k < length places = omega (
      arith,
      length-map places (λ (i : ℕ). upload_at held i),
    ) in
    lacks k (omega arith) at
    (sym (get_or-map (λ (i : ℕ). upload_at held i) places k 0 u at) ∙ is)

pub lacking : (held : List Upload) (places : List ℕ) (done rest : List Upload) (u : Upload)
    → LacksIn held places 0 (length places) u
    → IsPermutation (done ++ uploads_at held places) (done ++ u ∷ rest) → ⊥
lacking held places done rest u lacks p =
    lacks_more done (uploads_at held places) rest u (not_contained held places u lacks) p

-- one place more is taken out
pub take_one : (held : List Upload) (before places : List ℕ) (done : List Upload) (j : ℕ) (u : Upload)
    → j < length places → IsAt held places j u
    → IsPermutation (uploads_at held before) (done ++ uploads_at held places)
    → IsPermutation (uploads_at held before) ((done ++ u ∷ []) ++ uploads_at held (remove places j))
take_one held before places done j u within is p =
    let first : IsPermutation places (slice_index places j ∷ remove places j) =
    IsPermutation-remove places j (slice_index places j) within
    (sym (get_or_default_zero places j (slice_index places j) within)) in
    let taken : IsPermutation (uploads_at held places)
    (upload_at held (slice_index places j) ∷ uploads_at held (remove places j))
    = IsPermutation-map (λ (i : ℕ). upload_at held i) places
    (slice_index places j ∷ remove places j) first in
    let one : IsPermutation (uploads_at held places) (u ∷ uploads_at held (remove places j)) =
    subst (λ (w : Upload). IsPermutation (uploads_at held places) (w ∷ uploads_at held (remove places j))) is taken in
    IsPermutation-pop_more (uploads_at held before) done (uploads_at held places) (uploads_at held (remove places j)) u
    p one

-- ---- the least does not depend on the order

-- what lj_cover says of two lists with the same uploads
pub record LeastByMembers : Type 0 where
  pub least : (frame : Top) (c : Triple) (uploads others : List Upload) (n : ℕ)
      → ((u : Upload) → Contains uploads u ↔ Contains others u) → IsLeast frame uploads c n → IsLeast frame others c n

-- a table that was settled
pub closed_settled : LeastByMembers → (f : Top) (us : List Upload) (before t : Contents) → HasUploads f us before
    → t.arena.frame ≡ before.arena.frame → t.arena.uploads ≡ before.arena.uploads
    → length t.bounds ≡ size_of t.arena.frame
    → IsAtRest t → AreLeast t → IsClosed f us t
closed_settled members f us before t has frame uploads count rest least =
    let frame_is : t.arena.frame ≡ f = frame ∙ has.frame in
    let same : IsPermutation t.arena.uploads us =
    subst (λ (vs : List Upload). IsPermutation vs us) (sym uploads) has.same in record {
      has = record { frame = frame_is; same = same };
      count = count ∙ ap (λ (g : Top). size_of g) frame_is;
      rest = rest;
      least = λ c inside.
          let here : InFrame t.arena.frame c = subst (λ (g : Top). InFrame g c) (sym frame_is) inside in
          members.least f c t.arena.uploads us ((state_of t).bounds c)
          (λ u. (
            Contains-permutation t.arena.uploads us u same,
            Contains-permutation us t.arena.uploads u (IsPermutation-sym t.arena.uploads us same),
          ))
          (subst (λ (g : Top). IsLeast g t.arena.uploads c ((state_of t).bounds c)) frame_is (least c here));
    }

-- a table that was made anew
pub closed_rests : (f : Top) (us : List Upload) (t : Contents) → Rests f us t → length t.bounds ≡ size_of t.arena.frame
    → IsClosed f us t
closed_rests f us t rests count = record {
  has = record {
    frame = rests.frame;
    same = subst (λ (vs : List Upload). IsPermutation vs us) (sym rests.uploads_are) (IsPermutation-refl us);
  };
  count = count ∙ ap (λ (g : Top). size_of g) rests.frame;
  rest = rests.rest;
  least = λ c inside.
      let here : InFrame t.arena.frame c = subst (λ (g : Top). InFrame g c) (sym rests.frame) inside in
      subst (λ (x : Top × List Upload). IsLeast x.0 x.1 c ((state_of t).bounds c))
      (λ i. (rests.frame i, rests.uploads_are i)) (rests.least c here);
}
