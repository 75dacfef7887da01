use Rattle.std.proofs.Common.{◌≡◌, ℕ, List, Option, None, Some, [], ◌∷◌}
use Rattle.std.specs.Prelude.{IfNone}
use Rattle.lj_cert.specs.LineForms.{AreFields, HasList, NamesUpload, rule_kind}
use Rattle.lj_cert.specs.declared.certs.CertRule.{CertRule}
use Rattle.lj_cert.specs.declared.kinds.Kind.TheVariants.{Leaf, Derived, Derived2}
use Rattle.lj_cert.proofs.Unique.{derived2_fields, derived_fields, leaf_fields}
use Rattle.lj_cert.proofs.nodes.plain_rule.Goals as goal

no_leaf : (fields : List (List ℕ)) (found : Option CertRule)
    → IfNone found ((client : List ℕ) (o : ℕ) → NamesUpload fields client (o ∷ []) → ⊥)
    → IfNone found ((r : CertRule) → rule_kind r ≡ Leaf → AreFields fields r → HasList Leaf)
no_leaf fields None none = λ r same h. let named = leaf_fields fields r same h in absurd (none named.0 named.1 named.2)
no_leaf fields (Some r) none = tt

no_derived : (fields : List (List ℕ)) (found : Option CertRule)
    → IfNone found ((client : List ℕ) (o x : ℕ) → NamesUpload fields client (o ∷ x ∷ []) → ⊥)
    → IfNone found ((r : CertRule) → rule_kind r ≡ Derived → AreFields fields r → HasList Derived)
no_derived fields None none =
    λ r same h. let named = derived_fields fields r same h in absurd (none named.0 named.1 named.2 named.3)
no_derived fields (Some r) none = tt

no_derived2 : (fields : List (List ℕ)) (found : Option CertRule)
    → IfNone found ((client : List ℕ) (o x y : ℕ) → NamesUpload fields client (o ∷ x ∷ y ∷ []) → ⊥)
    → IfNone found ((r : CertRule) → rule_kind r ≡ Derived2 → AreFields fields r → HasList Derived2)
no_derived2 fields None none =
    λ r same h. let named = derived2_fields fields r same h in absurd (none named.0 named.1 named.2 named.3 named.4)
no_derived2 fields (Some r) none = tt

pub returns-in-Leaf-clause-none : goal.returns-in-Leaf-clause-none
returns-in-Leaf-clause-none c = rw c.in-Leaf.is (no_leaf c.args.words c.leaf.result c.leaf.ensures.none)

pub returns-in-Derived-clause-none : goal.returns-in-Derived-clause-none
returns-in-Derived-clause-none c = rw c.in-Derived.is (no_derived c.args.words c.derived.result c.derived.ensures.none)

pub returns-in-Derived2-clause-none : goal.returns-in-Derived2-clause-none
returns-in-Derived2-clause-none c =
    rw c.in-Derived2.is (no_derived2 c.args.words c.derived2.result c.derived2.ensures.none)
