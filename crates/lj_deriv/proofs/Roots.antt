-- What some roots reach, copied whole: plans and forests.
use Rattle.std.proofs.Common.{◌≡◌, ℕ, zero, suc, ◌+◌, ◌-◌, ◌<◌, ◌≤◌, List, [], ◌∷◌, length, map, get_or}
use Rattle.std.proofs.Common.{sym, ap, ◌∙◌, subst, arith, ⊎_elim, inl, inr}
use Rattle.std.proofs.lemmas.Bool.{cases_lt}
use Rattle.std.proofs.lemmas.List.{get_or_default, get_or-map, length-map}
use Rattle.std.specs.List.{AllByRecursion, Contains}
use Rattle.lj_base.specs.Blocks.{Ascends}
use Rattle.lj_base.proofs.Ascending.{Ascends-get_or_below, Ascends-get_or_lt, Ascends-wider}
use Rattle.lj_base.proofs.Lists.{AllByRecursion-map, AllByRecursion-weaker}
use Rattle.lj_deriv.specs.Copies.{IsClosed, IsCopyOf, IsReach, place_in}
use Rattle.lj_deriv.specs.Forests.{IsForestOf, forest_of}
use Rattle.lj_deriv.specs.Forests.{IsWhole as IsWholeForest}
use Rattle.lj_deriv.specs.Nodes.{Nodes, steps_of}
use Rattle.lj_deriv.specs.Plans.{IsPlanOf, IsWhole}
use Rattle.lj_deriv.proofs.CopySteps.{IsPlaced, copied_among, copied_named, copies_all, map-placed}
use Rattle.lj_deriv.proofs.Places.{place_in-at, place_of}

-- what is reached is closed
pub IsReach-closed : (a : Nodes) (roots : List ℕ) (end : ℕ) (numbers : List ℕ) → end ≤ length a.rules
    → IsReach a roots end numbers → IsClosed a numbers
IsReach-closed a roots end numbers there reach = record {
  ascends = Ascends-wider 0 0 end (length a.rules) numbers (omega arith) there reach.ascends;
  closed = reach.closed;
}

-- ---- plans

-- the root is the last of the nodes that it reaches
root_last : (a : Nodes) (root : ℕ) (numbers : List ℕ) → IsReach a (root ∷ []) (root + 1) numbers
    → (0 < length numbers) × (get_or numbers (length numbers - 1) 0 ≡ root)
root_last a root numbers reach =
    let (k, inside, is) = place_of numbers root reach.roots_there.0 in
    let last : k ≡ length numbers - 1 =
    ⊎_elim
    (λ earlier. absurd (
    let rises = Ascends-get_or_lt 0 (root + 1) numbers k (length numbers - 1) reach.ascends earlier (omega arith) in
    let below = Ascends-get_or_below 0 (root + 1) numbers (length numbers - 1) reach.ascends (omega arith) in
    omega (arith, is)))
    (λ from. omega arith)
    (cases_lt k (length numbers - 1)) in
    (omega arith, ap (λ m. get_or numbers m 0) (sym last) ∙ is)

pub IsPlanOf-copied : (a : Nodes) (root : ℕ) (numbers : List ℕ) (p : Nodes) → IsReach a (root ∷ []) (root + 1) numbers
    → IsCopyOf a numbers p → IsPlanOf a root (steps_of p)
IsPlanOf-copied a root numbers p reach h =
    let next : root + 1 ≡ suc root = omega arith in
    record {
      numbers = numbers;
      ascends = subst (λ n. Ascends 0 n numbers) next reach.ascends;
      as_many = sym h.all;
      last = ap (λ n. get_or numbers (n - 1) 0) h.all ∙ (root_last a root numbers reach).1;
      trees = h.copying.copied.trees;
      children = h.copying.copied.children;
      named = h.named;
      named_ascend = h.copying.named_by.ascends;
      uploads = copies_all a p h.named h.uploads h.copying.uploads_copied h.copying.all_uploads;
      names = h.copying.copied.names;
    }

-- the one root is no node before the last
only_root : (root i : ℕ) → Contains (root ∷ []) i → root ≡ i
only_root root i (k, inside, is) = only k inside is
  where
    only : (m : ℕ) → m < 1 → get_or (root ∷ []) m i ≡ i → root ≡ i
    only zero low e = e
    only (suc m) low e = absurd (omega arith)

pub IsWhole-copied : (a : Nodes) (root : ℕ) (numbers : List ℕ) (p : Nodes) → IsReach a (root ∷ []) (root + 1) numbers
    → IsCopyOf a numbers p → IsWhole (steps_of p)
IsWhole-copied a root numbers p reach h =
    let last = root_last a root numbers reach in
    record {
      some = omega (arith, last.0, h.all);
      reached = λ i low.
          let here : i < length numbers = omega (arith, h.all) in
          let rises = Ascends-get_or_lt 0 (root + 1) numbers i (length numbers - 1) reach.ascends
          (omega (arith, h.all)) (omega arith) in
          ⊎_elim
          (λ one. absurd (let same = only_root root (get_or numbers i 0) one in omega (arith, last.1, rises, same)))
          (λ up. copied_among a numbers h.named p h.uploads i h.copying h.all h.valid here up)
          (reach.parents (get_or numbers i 0) (i, here, get_or_default numbers i _ 0 here));
      named = λ u low. copied_named a numbers h.named p h.uploads u h.copying h.all h.valid low;
    }

-- ---- forests

-- each root stands among the numbers at its place
roots_placed : (a : Nodes) (roots : List ℕ) (end : ℕ) (numbers : List ℕ) → IsReach a roots end numbers
    → AllByRecursion (IsPlaced numbers (length numbers)) roots
roots_placed a roots end numbers reach =
    AllByRecursion-weaker (Contains numbers) (IsPlaced numbers (length numbers)) roots
    (λ root has.
    let (k, inside, is) = place_of numbers root has in
    let place : place_in numbers root ≡ k =
    ap (place_in numbers) (sym is) ∙ place_in-at end numbers k reach.ascends inside in
    (omega arith, ap (λ m. get_or numbers m 0) place ∙ is))
    reach.roots_there

pub IsForestOf-copied : (a : Nodes) (roots : List ℕ) (end : ℕ) (numbers : List ℕ) (p : Nodes) (places : List ℕ)
    → end ≤ length a.rules → IsReach a roots end numbers → IsCopyOf a numbers p → places ≡ map (place_in numbers) roots
    → IsForestOf a roots (forest_of p places)
IsForestOf-copied a roots end numbers p places there reach h are = record {
  frame = h.copying.uploads_copied.frame;
  numbers = numbers;
  ascends = Ascends-wider 0 0 end (length a.rules) numbers (omega arith) there reach.ascends;
  as_many = sym h.all;
  roots_are =
      ap (map (λ i. get_or numbers i 0)) are ∙ map-placed numbers (length numbers) roots
      (roots_placed a roots end numbers reach);
  trees = h.copying.copied.trees;
  children = h.copying.copied.children;
  named = h.named;
  named_ascend = h.copying.named_by.ascends;
  uploads = copies_all a p h.named h.uploads h.copying.uploads_copied h.copying.all_uploads;
  names = h.copying.copied.names;
}

-- where a number is a root, its place is the place of a root
place_among : (numbers : List ℕ) (end i : ℕ) (roots : List ℕ) → Ascends 0 end numbers → i < length numbers
    → Contains roots (get_or numbers i 0) → Contains (map (place_in numbers) roots) i
place_among numbers end i roots order here one =
    let (k, inside, is) = place_of roots (get_or numbers i 0) one in (
      k,
      omega (arith, length-map roots (place_in numbers)),
      get_or-map (place_in numbers) roots k 0 i inside ∙ ap (place_in numbers) is
          ∙ place_in-at end numbers i order here,
    )

pub IsWhole-grown : (a : Nodes) (roots : List ℕ) (end : ℕ) (numbers : List ℕ) (p : Nodes) (places : List ℕ)
    → IsReach a roots end numbers → IsCopyOf a numbers p → places ≡ map (place_in numbers) roots
    → IsWholeForest (forest_of p places)
IsWhole-grown a roots end numbers p places reach h are = record {
  there = subst (AllByRecursion (λ i. i < length p.rules)) (sym are)
      (AllByRecursion-map (IsPlaced numbers (length numbers)) (λ i. i < length p.rules) (place_in numbers) roots
      (λ root at. omega (arith, at.0, h.all)) (roots_placed a roots end numbers reach));
  reached = λ i low.
      let here : i < length numbers = omega (arith, h.all) in
      ⊎_elim
      (λ one. inl (subst (λ ps. Contains ps i) (sym are) (place_among numbers end i roots reach.ascends here one)))
      (λ up. inr (copied_among a numbers h.named p h.uploads i h.copying h.all h.valid here up))
      (reach.parents (get_or numbers i 0) (i, here, get_or_default numbers i _ 0 here));
  named = λ u low. copied_named a numbers h.named p h.uploads u h.copying h.all h.valid low;
}
