-- The uploads of a plan are those that the rules of its derivation name.
use Rattle.std.proofs.Common.{◌≡◌, ℕ, zero, suc, ◌+◌, ◌-◌, ◌<◌, ◌≤◌, List, [], ◌∷◌, length, subst}
use Rattle.std.proofs.Common.{get_or, ⊎_elim, arith}
use Rattle.std.proofs.lemmas.Bool.{cases_lt}
use Rattle.std.specs.List.{AllByRecursion, Contains}
use Rattle.lj_base.proofs.Lists.{AllByRecursion-from_places}
use Rattle.lj_cover.specs.Derivations.{EachRule, EachRules, Tree}
use Rattle.lj_cover.specs.Rules.{ForUpload, Upload}
use Rattle.lj_cover.specs.Rules.{Rule as TreeRule}
use Rattle.lj_cover.specs.Uses.{EachUpload}
use Rattle.lj_deriv.proofs.Validity.{node_at}
use Rattle.lj_deriv.specs.Nodes.{AreValid, Steps, build, children_of, plan_tree, rule_at, rule_of, step_tree}
use Rattle.lj_deriv.specs.Nodes.{tree_at, trees_at, trees_of, upload_at, uploads_of}
use Rattle.lj_deriv.specs.Plans.{HasParent, IsNamed, IsWhole}
use Rattle.lj_deriv.specs.declared.rules.Rule.{Rule}
use Rattle.lj_deriv.specs.declared.rules.Rule.TheVariants.{Leaf, Derived, Derived2, Induced}
use Rattle.lj_session.proofs.Collected.{contains_none}

-- what holds of each rule of these trees holds of each rule of one of them
one_tree : (P : TreeRule → Type 0) (ts : List Tree) (is : List ℕ) (n i : ℕ) → n < length is → get_or is n i ≡ i
    → EachRules P (trees_at ts is) → EachRule P (tree_at ts i)
one_tree P ts [] n i inside e h = absurd (omega arith)
one_tree P ts (j ∷ is) zero i inside e h = subst (λ (m : ℕ). EachRule P (tree_at ts m)) e h.0
one_tree P ts (j ∷ is) (suc n) i inside e h = one_tree P ts is n i (omega arith) e h.1

-- and what holds of each rule of a node's derivation holds of each rule of a child's
of_child : (P : TreeRule → Type 0) (p : Steps) → AreValid p.uploads p.rules → (i : ℕ) → (h : HasParent p i)
    → EachRule P (step_tree p h.parent) → EachRule P (step_tree p i)
of_child P p valid i h all =
    let ts : List Tree = trees_of p.uploads p.rules in
    let r : Rule = rule_at p.rules h.parent in
    let unfolds : step_tree p h.parent ≡ build p.uploads ts r =
    (node_at p.uploads p.rules valid h.parent h.there).unfolds in
    let parts : EachRule P (build p.uploads ts r) = subst (λ (d : Tree). EachRule P d) unfolds all in
    one_tree P ts (children_of p.uploads r) h.child.0 i h.child.1 h.child.2 parts.1

-- what holds of each rule of the plan's derivation holds of each rule of each node's, since it is reached from the last
each_node : (P : TreeRule → Type 0) (p : Steps) → AreValid p.uploads p.rules → IsWhole p → EachRule P (plan_tree p)
    → (n i : ℕ) → i < length p.rules → length p.rules ≤ i + n → EachRule P (step_tree p i)
each_node P p valid whole all zero i inside near = absurd (omega arith)
each_node P p valid whole all (suc n) i inside near =
    ⊎_elim
    (λ (low : suc i < length p.rules).
    let h : HasParent p i = whole.reached i low in
    let later = h.later in
    of_child P p valid i h (each_node P p valid whole all n h.parent h.there (omega arith)))
    (λ (high : length p.rules ≤ suc i).
    let last : length p.rules - 1 ≡ i = omega (arith, inside, high) in
    subst (λ (m : ℕ). EachRule P (step_tree p m)) last all)
    (cases_lt (suc i) (length p.rules))

one_number : (w u : ℕ) → Contains (w ∷ []) u → w ≡ u
one_number w u (zero, inside, is) = is
one_number w u (suc n, inside, is) = absurd (omega arith)

-- what holds of the upload that a rule names holds of the upload with the number that its node names
of_named : (P : Upload → Type 0) (us : List Upload) (ts : List Tree) (r : Rule) (u : ℕ) → Contains (uploads_of r) u
    → ForUpload P (rule_of us ts r) → P (upload_at us u)
of_named P us ts (Leaf w) u k h = subst (λ (n : ℕ). P (upload_at us n)) (one_number w u k) h
of_named P us ts (Derived w x) u k h = subst (λ (n : ℕ). P (upload_at us n)) (one_number w u k) h
of_named P us ts (Derived2 w x y) u k h = subst (λ (n : ℕ). P (upload_at us n)) (one_number w u k) h
of_named P us ts (Induced c w children) u k h = subst (λ (n : ℕ). P (upload_at us n)) (one_number w u k) h
of_named P us ts r u k h = absurd (contains_none u k)

-- what holds of each upload that a rule of the plan's derivation names holds of each upload of the plan
pub each_named : (P : Upload → Type 0) (p : Steps) → AreValid p.uploads p.rules → IsWhole p
    → EachUpload P (plan_tree p) → AllByRecursion P p.uploads
each_named P p valid whole all =
    AllByRecursion-from_places P _ p.uploads (λ u inside.
    let ts : List Tree = trees_of p.uploads p.rules in
    let h : IsNamed p u = whole.named u inside in
    let r : Rule = rule_at p.rules h.node in
    let node : EachRule (ForUpload P) (step_tree p h.node) =
    each_node (ForUpload P) p valid whole all (length p.rules) h.node h.there (omega arith) in
    let parts : EachRule (ForUpload P) (build p.uploads ts r) = subst (λ (d : Tree). EachRule (ForUpload P) d)
    (node_at p.uploads p.rules valid h.node h.there).unfolds node in
    of_named P p.uploads ts r u h.names parts.0)
