-- The parts of a chain follow each other from its first number to its last.
use Rattle.std.proofs.Common.{◌≡◌, ℕ, ◌+◌, ◌≤◌, List, [], ◌∷◌, ◌++◌, length, subst, arith}
use Rattle.std.specs.List.{AllByRecursion}
use Rattle.lj_base.proofs.Lists.{AllByRecursion-weaker}
use Rattle.lj_cover.specs.Rules.{Part, Chain}

pub Chain-le : (lo hi : ℕ) (parts : List Part) → Chain lo hi parts → lo ≤ hi + 1
Chain-le lo hi [] h = omega arith
Chain-le lo hi (p ∷ ps) h = let rest = Chain-le (p.b + 1) hi ps h.2 in omega (arith, h.0, h.1)

-- each part lies between the ends
pub Chain-within : (lo hi : ℕ) (parts : List Part) → Chain lo hi parts
    → AllByRecursion (λ p. (lo ≤ p.a) × (p.a ≤ p.b) × (p.b ≤ hi)) parts
Chain-within lo hi [] h = tt
Chain-within lo hi (p ∷ ps) h =
    let last = Chain-le (p.b + 1) hi ps h.2 in
    let rest = Chain-within (p.b + 1) hi ps h.2 in (
      (omega (arith, h.0), h.1, omega arith),
      AllByRecursion-weaker (λ q. (p.b + 1 ≤ q.a) × (q.a ≤ q.b) × (q.b ≤ hi))
          (λ q. (lo ≤ q.a) × (q.a ≤ q.b) × (q.b ≤ hi)) ps
          (λ q ends. (omega (arith, ends.0, h.0, h.1), ends.1, ends.2)) rest,
    )

-- the last part ends the chain
pub Chain-last : (lo hi : ℕ) (parts : List Part) (p : Part) → Chain lo hi (parts ++ p ∷ []) → p.b ≡ hi
Chain-last lo hi [] p h = omega (arith, h.2)
Chain-last lo hi (q ∷ qs) p h = Chain-last (q.b + 1) hi qs p h.2

-- there are at most as many parts as numbers
pub Chain-few : (lo hi : ℕ) (parts : List Part) → Chain lo hi parts → lo + length parts ≤ hi + 1
Chain-few lo hi [] h = omega arith
Chain-few lo hi (p ∷ ps) h = let rest = Chain-few (p.b + 1) hi ps h.2 in omega (arith, h.0, h.1)

-- two chains of which the second begins after the first are one
pub Chain-joined : (lo mid hi : ℕ) (parts others : List Part) → Chain lo mid parts → Chain (mid + 1) hi others
    → Chain lo hi (parts ++ others)
Chain-joined lo mid hi [] others h k = subst (λ n. Chain n hi others) (symmetric h) k
  where
    symmetric : lo ≡ mid + 1 → mid + 1 ≡ lo
    symmetric e = omega arith
Chain-joined lo mid hi (p ∷ ps) others h k = (h.0, h.1, Chain-joined (p.b + 1) mid hi ps others h.2 k)
