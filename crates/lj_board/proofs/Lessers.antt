-- The lesser of two lists, place by place.
use Rattle.std.proofs.Common.{◌≡◌, ℕ, zero, suc, ◌≤◌, min, List, [], ◌∷◌, length, set, refl, sym, ap, le_refl}
use Rattle.std.proofs.Common.{subst, ◌∙◌, arith}
use Rattle.std.proofs.Math.Nat.{le-min, min-le_left, min-le_right}
use Rattle.lj_base.specs.Cells.{Triple}
use Rattle.lj_base.specs.Frames.{index_of}
use Rattle.lj_board.specs.Seen.{BoardView, NoneRises, PassView, lesser, saw, seen_at, seen_of}

pub length-lesser : (xs ys : List ℕ) → length xs ≡ length ys → length (lesser xs ys) ≡ length xs
length-lesser [] ys e = sym e
length-lesser (x ∷ xs) [] e = refl
length-lesser (x ∷ xs) (y ∷ ys) e = ap suc (length-lesser xs ys (omega arith))

pub below_lesser : (xs ys : List ℕ) (i n : ℕ) → n ≤ seen_at xs i → n ≤ seen_at ys i → n ≤ seen_at (lesser xs ys) i
below_lesser [] ys i n a b = b
below_lesser (x ∷ xs) [] i n a b = a
below_lesser (x ∷ xs) (y ∷ ys) zero n a b = le-min a b
below_lesser (x ∷ xs) (y ∷ ys) (suc i) n a b = below_lesser xs ys i n a b

pub seen_at-lesser : (xs ys : List ℕ) (i : ℕ) → length xs ≡ length ys
    → seen_at (lesser xs ys) i ≡ min (seen_at xs i) (seen_at ys i)
seen_at-lesser [] [] i e = refl
seen_at-lesser [] (y ∷ ys) i e = absurd (omega arith)
seen_at-lesser (x ∷ xs) [] i e = absurd (omega arith)
seen_at-lesser (x ∷ xs) (y ∷ ys) zero e = refl
seen_at-lesser (x ∷ xs) (y ∷ ys) (suc i) e = seen_at-lesser xs ys i (omega arith)

-- where a number at a place falls, no number rises
seen_at-set : (xs : List ℕ) (p n : ℕ) → n ≤ seen_at xs p → (i : ℕ) → seen_at (set xs p n) i ≤ seen_at xs i
seen_at-set [] p n h i = le_refl _
seen_at-set (x ∷ xs) zero n h zero = h
seen_at-set (x ∷ xs) zero n h (suc i) = le_refl _
seen_at-set (x ∷ xs) (suc p) n h zero = le_refl _
seen_at-set (x ∷ xs) (suc p) n h (suc i) = seen_at-set xs p n h i

pub saw_falls : (p : PassView) (c : Triple) (n : ℕ) → n ≤ seen_of p c → NoneRises p (saw p c n)
saw_falls p c n h = (
  refl,
  λ d. seen_at-set p.seen (index_of p.board.frame c) n h (index_of p.board.frame d),
)

-- r has seen the lesser of what p and q have seen
pub joined_least : (p q r : PassView) → r ≡ record { board = p.board; seen = lesser p.seen q.seen } → q.board ≡ p.board
    → length p.seen ≡ length q.seen → (c : Triple) → seen_of r c ≡ min (seen_of p c) (seen_of q c)
joined_least p q r joined same len c =
    let i : ℕ = index_of p.board.frame c in
    let least : seen_at (lesser p.seen q.seen) i ≡ min (seen_at p.seen i) (seen_at q.seen i) =
    seen_at-lesser p.seen q.seen i len in
    let other : seen_of q c ≡ seen_at q.seen i =
    ap (λ (b : BoardView). seen_at q.seen (index_of b.frame c)) same in
    ap (λ (x : PassView). seen_of x c) joined ∙ least ∙ ap (λ (n : ℕ). min (seen_at p.seen i) n) (sym other)

pub joined_falls : (p q r : PassView) → r ≡ record { board = p.board; seen = lesser p.seen q.seen } → q.board ≡ p.board
    → length p.seen ≡ length q.seen → NoneRises p r × NoneRises q r
joined_falls p q r joined same len = (
  (
    ap (λ (x : PassView). x.board) joined,
    λ c. subst (λ (n : ℕ). n ≤ seen_of p c) (sym (joined_least p q r joined same len c)) (min-le_left _ _),
  ),
  (
    ap (λ (x : PassView). x.board) joined ∙ sym same,
    λ c. subst (λ (n : ℕ). n ≤ seen_of q c) (sym (joined_least p q r joined same len c)) (min-le_right _ _),
  ),
)
