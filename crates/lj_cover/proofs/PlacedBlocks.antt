-- Placing a block on the points of another, and the places of points within an ascending list.
use Rattle.std.proofs.Common.{◌≡◌, ℕ, suc, ◌<◌, ◌≤◌, List, [], ◌∷◌, length, map, get_or, refl, sym, ap, ◌∙◌, arith}
use Rattle.std.proofs.Common.{⊎_elim}
use Rattle.std.proofs.lemmas.Bool.{cases_eq}
use Rattle.std.proofs.lemmas.List.{length-map}
use Rattle.lj_base.specs.Blocks.{Ascends, IsBlock, Has, Within}
use Rattle.lj_base.proofs.Ascending.{Ascends-get_or_below, Ascends-get_or_lt, Ascends-wider, Has-from, length-ascending}
use Rattle.lj_cover.specs.Operations.{place}

place_ascends : (q : List ℕ) (m lo low v : ℕ) (b : List ℕ) → ((i : ℕ) → m ≤ i → i < length q → lo ≤ get_or q i 0)
    → Ascends low v q → Ascends m (length q) b → Ascends lo v (place q b)
place_ascends q m lo low v [] from h k = tt
place_ascends q m lo low v (i ∷ is) from h k = (
  from i k.0 k.1,
  Ascends-get_or_below low v q i h k.1,
  place_ascends q (suc i) (suc (get_or q i 0)) low v is
      (λ j above inside. Ascends-get_or_lt low v q i j h above inside) h k.2,
)

-- a block placed on the points of a set of its size
pub IsBlock-place : (v k : ℕ) (q b : List ℕ) → Ascends 0 v q → IsBlock (length q) k b → IsBlock v k (place q b)
IsBlock-place v k q b h block =
    (place_ascends q 0 0 0 v b (λ i above inside. omega arith) h block.0, length-map b (λ i. get_or q i 0) ∙ block.1)

-- the places of the points of a set within an ascending list
pub record Places (q s : List ℕ) : Type 0 where
  pub places : List ℕ
  pub ascends : Ascends 0 (length q) places
  pub is : place q places ≡ s

Ascends-next : (m n : ℕ) (b : List ℕ) → Ascends m n b → Ascends (suc m) (suc n) (map suc b)
Ascends-next m n [] h = tt
Ascends-next m n (x ∷ xs) h = (omega (arith, h.0), omega (arith, h.1), Ascends-next (suc x) n xs h.2)

place-next : (x : ℕ) (xs b : List ℕ) → place (x ∷ xs) (map suc b) ≡ place xs b
place-next x xs [] = refl
place-next x xs (i ∷ is) = ap (λ r. get_or xs i 0 ∷ r) (place-next x xs is)

-- what a list from x on has is in the rest of the list where that begins before
Within-rest : (x lo v : ℕ) (s ys : List ℕ) → x < lo → Ascends lo v s → Within s (x ∷ ys) → Within s ys
Within-rest x lo v [] ys below h within = tt
Within-rest x lo v (z ∷ zs) ys below h within = (
  ⊎_elim (λ e. absurd (omega (arith, e, h.0))) (λ r. r) within.0,
  Within-rest x (suc z) v zs ys
      (omega (arith, h.0)) h.2 within.1,
)

pub places_of : (lo low v w : ℕ) (q s : List ℕ) → Ascends lo v q → Ascends low w s → Within s q → Places q s
places_of lo low v w [] [] h k within = record { places = []; ascends = tt; is = refl }
places_of lo low v w [] (x ∷ xs) h k within = absurd within.0
places_of lo low v w (y ∷ ys) [] h k within = record { places = []; ascends = tt; is = refl }
places_of lo low v w (y ∷ ys) (x ∷ xs) h k within =
    ⊎_elim
    (λ same.
    let rest = places_of (suc y) (suc x) v w ys xs h.2 k.2
    (Within-rest y (suc x) w xs ys (omega (arith, same)) k.2 within.1) in record {
      places = 0 ∷ map suc rest.places;
      ascends = (omega arith, omega arith, Ascends-next 0 (length ys) rest.places rest.ascends);
      is = ap (λ z. z ∷ place (y ∷ ys) (map suc rest.places)) same ∙ ap (λ r. x ∷ r)
          (place-next y ys rest.places ∙ rest.is);
    })
    (λ other.
    let later : Has ys x = ⊎_elim (λ e. absurd (other e)) (λ r. r) within.0 in
    let below = Has-from (suc y) v x ys h.2 later in
    let rest = places_of (suc y) x v w ys (x ∷ xs) h.2 (omega arith, k.1, k.2)
    (later, Within-rest y (suc x) w xs ys (omega arith) k.2 within.1) in record {
      places = map suc rest.places;
      ascends = Ascends-wider 1 0 (suc (length ys)) (suc (length ys)) (map suc rest.places) (omega arith) (omega arith)
          (Ascends-next 0 (length ys) rest.places rest.ascends);
      is = place-next y ys rest.places ∙ rest.is;
    })
    (cases_eq y x)

pub length-places : (q s : List ℕ) (p : Places q s) → length p.places ≡ length s
length-places q s p = sym (length-map p.places (λ i. get_or q i 0)) ∙ ap length p.is

-- a set within a block has at most as many points
pub length-Within : (lo low v w : ℕ) (q s : List ℕ) → Ascends lo v q → Ascends low w s → Within s q
    → length s ≤ length q
length-Within lo low v w q s h k within =
    let p = places_of lo low v w q s h k within in
    omega (arith, length-places q s p, length-ascending 0 (length q) p.places (omega arith) p.ascends)
