-- The rules that go through the blocks of an upload: what one block gives and costs, of which the rule has the join
-- and the sum.
use Rattle.std.specs.Prelude.{ℕ, if◌then◌else◌, List, [], ◌∷◌, length}
use Rattle.lj_cover.specs.BlockLists.{at_size, cut_blocks, cut_sizes}
use Rattle.lj_cover.specs.Operations.{cut, has_both, has_point, without}
use Rattle.lj_cover.specs.Rules.{Rule, Derived, Derived2, Induced, cut_cost}

-- under the rule each block of an upload gives blocks of its own
abbrev pub IsBlockwise : Rule → Type 0
IsBlockwise (Derived u x) = Unit {0}
IsBlockwise (Derived2 u x y) = Unit {0}
IsBlockwise (Induced u w k) = Unit {0}
IsBlockwise _ = ⊥

-- the blocks that the rule goes through: those of its upload, where it is such a rule
abbrev pub source : Rule → List (List ℕ)
source (Derived u x) = u.blocks
source (Derived2 u x y) = u.blocks
source (Induced u w k) = u.blocks
source _ = []

-- the blocks that one of them gives, from the lists of the rule's children
abbrev pub gives : Rule → List (List (List ℕ)) → List ℕ → List (List ℕ)
gives (Derived u x) lists b = if has_point b x then without x b ∷ [] else []
gives (Derived2 u x y) lists b = if has_both x y b then without x (without y b) ∷ [] else []
gives (Induced u w k) lists b = cut_blocks u.cell.t k (cut_sizes k w u.blocks) lists (cut w b)
gives _ lists b = []

-- how many those are, from the costs of the rule's children
abbrev pub share : Rule → List ℕ → List ℕ → ℕ
share (Derived u x) ns b = if has_point b x then 1 else 0
share (Derived2 u x y) ns b = if has_both x y b then 1 else 0
share (Induced u w k) ns b =
    let l = length (cut w b) in cut_cost u.cell.t k (at_size (cut_sizes k w u.blocks) ns 0 l) l
share _ ns b = 0
