-- A certificate is refused for one reason at most, and a good one for none.
use Rattle.std.proofs.Common.{◌≡◌, ℕ, zero, suc, ◌-◌, ◌<◌, List, [], ◌∷◌, ◌++◌, length, map, get_or}
use Rattle.std.proofs.Common.{arith, refl, sym, ap, ap₂, ◌∙◌, subst, ⊎_elim}
use Rattle.std.proofs.lemmas.Bool.{cases_order}
use Rattle.std.specs.List.{AllByRecursion}
use Rattle.lj_base.specs.Blocks.{Covers}
use Rattle.lj_base.specs.Bounds.{at_cell}
use Rattle.lj_base.specs.Cells.{Triple}
use Rattle.lj_base.specs.Frames.{InFrame, Top, index_of}
use Rattle.lj_base.proofs.Lists.{AllByRecursion-at, AllByRecursion-back}
use Rattle.lj_cover.specs.Derivations.{Tree, node}
use Rattle.lj_cover.specs.Rules.{Rule, Upload}
use Rattle.lj_cover.specs.Rules.{Leaf as LeafRule, Derived as DerivedRule, Derived2 as Derived2Rule}
use Rattle.lj_cover.specs.Rules.{Induced as InducedRule}
use Rattle.lj_deriv.specs.Trees.{trees_at}
use Rattle.lj_verify.specs.Limits.{IsWithinLimits}
use Rattle.lj_verify.specs.Refusals.{IsRefused}
use Rattle.lj_verify.specs.declared.refusals.Refusal.{Refusal}
use Rattle.lj_verify.specs.declared.refusals.Refusal.TheVariants.{Memory as NoMemory}
use Rattle.lj_cert.specs.Good.{IsAtRest, IsChecked, IsGood, IsMet, bounds_of}
use Rattle.lj_cert.specs.Refusals.{IsFirstLoose, IsFirstLow, IsFirstRefused, IsFirstUnmet, IsNo}
use Rattle.lj_cert.specs.Unfolding.{IsNamed, IsUse, Unfold, UnfoldsTo}
use Rattle.lj_cert.specs.Values.{AreDistinct, CertValue, SharesName}
use Rattle.lj_cert.specs.declared.certs.CertBound.{CertBound}
use Rattle.lj_cert.specs.declared.certs.CertNode.{CertNode}
use Rattle.lj_cert.specs.declared.certs.CertRule.{CertRule}
use Rattle.lj_cert.specs.declared.certs.CertRule.TheVariants.{One, Runs, All, Leaf, Derived, Derived2, Drop, Add}
use Rattle.lj_cert.specs.declared.certs.CertRule.TheVariants.{Grow, Lower, Product, Induced}
use Rattle.lj_cert.specs.declared.refusals.No.{No}
use Rattle.lj_cert.specs.declared.refusals.No.TheVariants.{Upload as NoUpload, Node as NoNode, Bound as NoBound, Low}
use Rattle.lj_cert.specs.declared.refusals.No.TheVariants.{Memory}

-- what is known of a check's refusals and of the places of a frame's cells
pub record RefusalLaws : Type 0 where
  pub one_refusal : (c : Triple) (bs : List (List ℕ)) (a b : Refusal) → IsRefused c bs a → IsRefused c bs b
      → (a ≡ NoMemory → ⊥) → (b ≡ NoMemory → ⊥) → a ≡ b
  pub no_refusal : (c : Triple) (bs : List (List ℕ)) (a : Refusal) → IsWithinLimits c (length bs) → Covers bs c
      → IsRefused c bs a → a ≡ NoMemory
  pub one_to_one : (f : Top) (c d : Triple) → InFrame f c → InFrame f d → index_of f c ≡ index_of f d → c ≡ d

-- ---- the first item of which P does not hold

middle : {X : Type 0} (P : X → Type 0) (xs before : List X) (x : X) (later : List X) → AllByRecursion P xs
    → xs ≡ before ++ x ∷ later → P x
middle P xs before x later h is = (AllByRecursion-back P before (x ∷ later) (subst (AllByRecursion P) is h)).0

same_first : {X : Type 0} (P : X → Type 0) (before others : List X) (x y : X) (later rest : List X)
    → AllByRecursion P before → AllByRecursion P others → (P x → ⊥) → (P y → ⊥)
    → before ++ x ∷ later ≡ others ++ y ∷ rest → (before ≡ others) × (x ≡ y)
same_first P [] [] x y later rest h k fails none same = (refl, cc same)
same_first P [] (b ∷ bs) x y later rest h k fails none same =
    let is : b ≡ x = cc same in
    absurd (fails (subst P is k.0))
same_first P (a ∷ ones) [] x y later rest h k fails none same =
    let is : a ≡ y = cc same in
    absurd (none (subst P is h.0))
same_first P (a ∷ ones) (b ∷ bs) x y later rest h k fails none same =
    let head : a ≡ b = cc same in
    let tail : ones ++ x ∷ later ≡ bs ++ y ∷ rest = cc same in
    let others = same_first P ones bs x y later rest h.1 k.1 fails none tail in
    (ap₂ (λ z zs. z ∷ zs) head others.0, others.1)

-- ---- a name and an ordinal are one upload's

distinct_at : (us : List Upload) (d : Upload) (i j : ℕ) → AreDistinct us → i < j → j < length us
    → SharesName (get_or us i d) (get_or us j d) → ⊥
distinct_at [] d i j h less inside same = absurd (omega arith)
distinct_at (u ∷ us) d i zero h less inside same = absurd (omega arith)
distinct_at (u ∷ us) d zero (suc j) h less inside same =
    AllByRecursion-at (λ w. SharesName w u → ⊥) d us j (omega arith) h.0 (sym same.0, sym same.1)
distinct_at (u ∷ us) d (suc i) (suc j) h less inside same =
    distinct_at us d i j h.1 (omega arith) (omega arith) same

-- within a list no default is read
pub within : (us : List Upload) (i : ℕ) (d e : Upload) → i < length us → get_or us i d ≡ get_or us i e
within [] i d e inside = absurd (omega arith)
within (u ∷ us) zero d e inside = refl
within (u ∷ us) (suc i) d e inside = within us i d e (omega arith)

pub same_named : (us : List Upload) (client : List ℕ) (o : ℕ) (u w : Upload) → AreDistinct us
    → IsNamed us client o u → IsNamed us client o w → u ≡ w
same_named us client o u w distinct h k =
    let i = h.there.0 in
    let j = k.there.0 in
    let first : get_or us i u ≡ u = h.there.2 in
    let second : get_or us j u ≡ w = within us j u w k.there.1 ∙ k.there.2 in
    let same : SharesName (get_or us i u) (get_or us j u) = (
      ap (λ (x : Upload). x.client) first ∙ h.client_is ∙ sym (ap (λ (x : Upload). x.client) second ∙ k.client_is),
      ap (λ (x : Upload). x.ordinal) first ∙ h.ordinal_is ∙ sym (ap (λ (x : Upload). x.ordinal) second ∙ k.ordinal_is),
    ) in
    ⊎_elim (λ is. sym first ∙ ap (λ n. get_or us n u) is ∙ second) (λ other. ⊎_elim
    (λ less. absurd (distinct_at us u i j distinct less k.there.1 same))
    (λ more. absurd (distinct_at us u j i distinct more h.there.1 (sym same.0, sym same.1))) other)
    (cases_order i j)

-- ---- a node's line unfolds to one derivation at most

pub same_use : (us : List Upload) → AreDistinct us → (c : Triple) (rule : CertRule) (r q : Rule) (is js : List ℕ)
    → IsUse us c rule r is → IsUse us c rule q js → (r ≡ q) × (is ≡ js)
same_use us distinct c One r q is js h k = (h.0 ∙ sym k.0, h.1 ∙ sym k.1)
same_use us distinct c Runs r q is js h k = (h.0 ∙ sym k.0, h.1 ∙ sym k.1)
same_use us distinct c All r q is js h k = (h.0 ∙ sym k.0, h.1 ∙ sym k.1)
same_use us distinct c (Leaf client o) r q is js h k =
    let same = same_named us client o h.0 k.0 distinct h.1 k.1 in
    (h.2 ∙ ap LeafRule same ∙ sym k.2, h.3 ∙ sym k.3)
same_use us distinct c (Derived client o x) r q is js h k =
    let same = same_named us client o h.0 k.0 distinct h.1 k.1 in
    (h.3 ∙ ap (λ u. DerivedRule u (x - 1)) same ∙ sym k.3, h.4 ∙ sym k.4)
same_use us distinct c (Derived2 client o x y) r q is js h k =
    let same = same_named us client o h.0 k.0 distinct h.1 k.1 in
    (h.3 ∙ ap (λ u. Derived2Rule u (x - 1) (y - 1)) same ∙ sym k.3, h.4 ∙ sym k.4)
same_use us distinct c (Drop i) r q is js h k = (h.0 ∙ sym k.0, h.1 ∙ sym k.1)
same_use us distinct c (Add i) r q is js h k = (h.0 ∙ sym k.0, h.1 ∙ sym k.1)
same_use us distinct c (Grow i) r q is js h k = (h.0 ∙ sym k.0, h.1 ∙ sym k.1)
same_use us distinct c (Lower i) r q is js h k = (h.0 ∙ sym k.0, h.1 ∙ sym k.1)
same_use us distinct c (Product v1 parts) r q is js h k = (h.0 ∙ sym k.0, h.1 ∙ sym k.1)
same_use us distinct c (Induced client o children) r q is js h k =
    let same = same_named us client o h.0 k.0 distinct h.1 k.1 in
    (h.2 ∙ ap (λ u. InducedRule u c.v c.k) same ∙ sym k.2, h.4 ∙ sym k.4)

pub same_unfolding : (frame : Top) (us : List Upload) (trees : List Tree) (n : CertNode) (d e : Tree) → AreDistinct us
    → UnfoldsTo frame us trees n d → UnfoldsTo frame us trees n e → d ≡ e
same_unfolding frame us trees n d e distinct h k =
    let same = same_use us distinct n.cell n.rule h.rule k.rule h.children k.children h.use_is k.use_is in
    h.tree_is ∙ ap₂ (λ r is. node r (trees_at trees (map (λ i. i - 1) is))) same.0 same.1 ∙ sym k.tree_is

pub same_trees : (frame : Top) (us : List Upload) (done : List Tree) (ns : List CertNode) (trees others : List Tree)
    → AreDistinct us → Unfold frame us done ns trees → Unfold frame us done ns others → trees ≡ others
same_trees frame us done [] trees others distinct h k = sym h ∙ k
same_trees frame us done (n ∷ ns) trees others distinct h k =
    let same = same_unfolding frame us done n h.0 k.0 distinct h.1 k.1 in
    same_trees frame us (done ++ h.0 ∷ []) ns trees others distinct h.2
    (subst (λ d. Unfold frame us (done ++ d ∷ []) ns others) (sym same) k.2)

-- ---- the first node that unfolds to none

same_loose : (frame : Top) (us : List Upload) (done : List Tree) (before others : List CertNode) (x y : CertNode)
    (later rest : List CertNode) (trees more : List Tree) → AreDistinct us → Unfold frame us done before trees
    → Unfold frame us done others more → ((d : Tree) → UnfoldsTo frame us trees x d → ⊥)
    → ((d : Tree) → UnfoldsTo frame us more y d → ⊥) → before ++ x ∷ later ≡ others ++ y ∷ rest
    → length before ≡ length others
same_loose frame us done [] [] x y later rest trees more distinct h k fails none same = refl
same_loose frame us done [] (b ∷ bs) x y later rest trees more distinct h k fails none same =
    let is : b ≡ x = cc same in
    absurd (fails k.0 (subst (λ ts. UnfoldsTo frame us ts x k.0) h (subst (λ n. UnfoldsTo frame us done n k.0) is k.1)))
same_loose frame us done (a ∷ ones) [] x y later rest trees more distinct h k fails none same =
    let is : a ≡ y = cc same in
    absurd (none h.0 (subst (λ ts. UnfoldsTo frame us ts y h.0) k (subst (λ n. UnfoldsTo frame us done n h.0) is h.1)))
same_loose frame us done (a ∷ ones) (b ∷ bs) x y later rest trees more distinct h k fails none same =
    let head : b ≡ a = cc same in
    let tail : ones ++ x ∷ later ≡ bs ++ y ∷ rest = cc same in
    let one = same_unfolding frame us done a k.0 h.0 distinct
    (subst (λ n. UnfoldsTo frame us done n k.0) head k.1) h.1 in
    let next = subst (λ d. Unfold frame us (done ++ d ∷ []) bs more) one k.2 in
    let others =
    same_loose frame us (done ++ h.0 ∷ []) ones bs x y later rest trees more distinct h.2 next fails none tail in
    omega (arith, others)

loose_unfolds : (frame : Top) (us : List Upload) (done : List Tree) (before : List CertNode) (x : CertNode)
    (later : List CertNode) (trees all : List Tree) → AreDistinct us → Unfold frame us done before trees
    → Unfold frame us done (before ++ x ∷ later) all → ((d : Tree) → UnfoldsTo frame us trees x d → ⊥) → ⊥
loose_unfolds frame us done [] x later trees all distinct h k fails =
    fails k.0 (subst (λ ts. UnfoldsTo frame us ts x k.0) h k.1)
loose_unfolds frame us done (a ∷ ones) x later trees all distinct h k fails =
    let one = same_unfolding frame us done a k.0 h.0 distinct k.1 h.1 in
    let next = subst (λ d. Unfold frame us (done ++ d ∷ []) (ones ++ x ∷ later) all) one k.2 in
    loose_unfolds frame us (done ++ h.0 ∷ []) ones x later trees all distinct h.2 next fails

-- ---- no part that holds has a first failure

no_refused : RefusalLaws → (us : List Upload) (place : ℕ) (refusal : Refusal) → AllByRecursion IsChecked us
    → IsFirstRefused us place refusal → ⊥
no_refused laws us place refusal all h =
    let checked = middle IsChecked us h.before h.upload h.later all h.uploads_are in
    h.by_blocks (laws.no_refusal h.upload.cell h.upload.blocks refusal checked.within checked.covers h.refused)

no_loose : (frame : Top) (us : List Upload) (ns : List CertNode) (number : ℕ) (trees : List Tree) → AreDistinct us
    → Unfold frame us [] ns trees → IsFirstLoose frame us ns number → ⊥
no_loose frame us ns number trees distinct all h =
    loose_unfolds frame us [] h.before h.node h.later h.trees trees distinct h.earlier
    (subst (λ xs. Unfold frame us [] xs trees) h.nodes_are all) h.loose

no_unmet : (trees : List Tree) (bs : List CertBound) (c : Triple) → AllByRecursion (IsMet trees) bs
    → IsFirstUnmet trees bs c → ⊥
no_unmet trees bs c all h = h.unmet (middle (IsMet trees) bs h.before h.bound h.later all h.bounds_are)

no_low : (frame : Top) (us : List Upload) (bounds : Triple → ℕ) (c : Triple) (n : ℕ)
    → IsAtRest frame us bounds c → IsFirstLow frame us bounds c n → ⊥
no_low frame us bounds c n rest h = let least = rest n h.cost_is in let lower = h.lower in omega (arith, least, lower)

-- ---- one first failure in each part

same_refused : RefusalLaws → (us : List Upload) (p q : ℕ) (a b : Refusal) → IsFirstRefused us p a
    → IsFirstRefused us q b → NoUpload p a ≡ NoUpload q b
same_refused laws us p q a b h k =
    let fails : IsChecked h.upload → ⊥ = λ x. h.by_blocks
    (laws.no_refusal h.upload.cell h.upload.blocks a x.within x.covers h.refused) in
    let none : IsChecked k.upload → ⊥ = λ x. k.by_blocks
    (laws.no_refusal k.upload.cell k.upload.blocks b x.within x.covers k.refused) in
    let same = same_first IsChecked h.before k.before h.upload k.upload h.later k.later h.earlier k.earlier fails none
    (sym h.uploads_are ∙ k.uploads_are) in
    let place : p ≡ q = sym h.place_is ∙ ap length same.0 ∙ k.place_is in
    let refused = subst (λ (u : Upload). IsRefused u.cell u.blocks b) (sym same.1) k.refused in
    let refusal = laws.one_refusal h.upload.cell h.upload.blocks a b h.refused refused h.by_blocks k.by_blocks in
    ap₂ NoUpload place refusal

same_number : (frame : Top) (us : List Upload) (ns : List CertNode) (m n : ℕ) → AreDistinct us
    → IsFirstLoose frame us ns m → IsFirstLoose frame us ns n → m ≡ n
same_number frame us ns m n distinct h k =
    sym h.number_is
    ∙ ap suc (same_loose frame us [] h.before k.before h.node k.node h.later k.later h.trees k.trees distinct h.earlier
    k.earlier h.loose k.loose (sym h.nodes_are ∙ k.nodes_are)) ∙ k.number_is

same_unmet : (trees : List Tree) (bs : List CertBound) (c d : Triple) → IsFirstUnmet trees bs c
    → IsFirstUnmet trees bs d → c ≡ d
same_unmet trees bs c d h k =
    let same = same_first (IsMet trees) h.before k.before h.bound k.bound h.later k.later h.earlier k.earlier h.unmet
    k.unmet (sym h.bounds_are ∙ k.bounds_are) in
    sym h.cell_is ∙ ap (λ (b : CertBound). b.cell) same.1 ∙ k.cell_is

same_low : RefusalLaws → (frame : Top) (us : List Upload) (bounds : Triple → ℕ) (c d : Triple) (m n : ℕ)
    → IsFirstLow frame us bounds c m → IsFirstLow frame us bounds d n → Low c m ≡ Low d n
same_low laws frame us bounds c d m n h k =
    let place : index_of frame c ≡ index_of frame d = ⊎_elim (λ is. is) (λ other. ⊎_elim
    (λ less. absurd (no_low frame us bounds c m (k.earlier c h.inside less) h))
    (λ more. absurd (no_low frame us bounds d n (h.earlier d k.inside more) k)) other)
    (cases_order (index_of frame c) (index_of frame d)) in
    let cell : c ≡ d = laws.one_to_one frame c d h.inside k.inside place in
    let here : IsFirstLow frame us bounds c n = subst (λ e. IsFirstLow frame us bounds e n) (sym cell) k in
    let least = h.least n here.cost_is in
    let most = here.least m h.cost_is in
    let cost : m ≡ n = omega (arith, least, most) in
    ap₂ Low cell cost

-- ---- all parts

pub no_reason : RefusalLaws → (cert : CertValue) (reason : No) → AreDistinct cert.uploads → IsGood cert
    → IsNo cert reason → ⊥
no_reason laws cert (NoUpload place refusal) distinct good h = no_refused laws cert.uploads place refusal good.checked h
no_reason laws cert (NoNode n) distinct good h =
    no_loose cert.frame cert.uploads cert.nodes n good.trees distinct good.unfolds h.1
no_reason laws cert (NoBound c) distinct good h =
    let same = same_trees cert.frame cert.uploads [] cert.nodes good.trees h.0 distinct good.unfolds h.1.unfolds in
    no_unmet h.0 cert.bounds c (subst (λ ts. AllByRecursion (IsMet ts) cert.bounds) same good.met) h.2
no_reason laws cert (Low c n) distinct good h =
    no_low cert.frame cert.uploads (at_cell cert.frame (bounds_of cert)) c n (good.rest c h.3.inside) h.3
no_reason laws cert Memory distinct good h = h

pub one_reason : RefusalLaws → (cert : CertValue) (a b : No) → AreDistinct cert.uploads → IsNo cert a → IsNo cert b
    → a ≡ b
one_reason laws cert (NoUpload p a) (NoUpload q b) distinct h k = same_refused laws cert.uploads p q a b h k
one_reason laws cert (NoUpload p a) (NoNode n) distinct h k = absurd (no_refused laws cert.uploads p a k.0 h)
one_reason laws cert (NoUpload p a) (NoBound c) distinct h k =
    absurd (no_refused laws cert.uploads p a k.1.checked h)
one_reason laws cert (NoUpload p a) (Low c n) distinct h k = absurd (no_refused laws cert.uploads p a k.1.checked h)
one_reason laws cert (NoUpload p a) Memory distinct h k = absurd k
one_reason laws cert (NoNode m) (NoUpload q b) distinct h k = absurd (no_refused laws cert.uploads q b h.0 k)
one_reason laws cert (NoNode m) (NoNode n) distinct h k =
    ap NoNode (same_number cert.frame cert.uploads cert.nodes m n distinct h.1 k.1)
one_reason laws cert (NoNode m) (NoBound c) distinct h k =
    absurd (no_loose cert.frame cert.uploads cert.nodes m k.0 distinct k.1.unfolds h.1)
one_reason laws cert (NoNode m) (Low c n) distinct h k =
    absurd (no_loose cert.frame cert.uploads cert.nodes m k.0 distinct k.1.unfolds h.1)
one_reason laws cert (NoNode m) Memory distinct h k = absurd k
one_reason laws cert (NoBound c) (NoUpload q b) distinct h k =
    absurd (no_refused laws cert.uploads q b h.1.checked k)
one_reason laws cert (NoBound c) (NoNode n) distinct h k =
    absurd (no_loose cert.frame cert.uploads cert.nodes n h.0 distinct h.1.unfolds k.1)
one_reason laws cert (NoBound c) (NoBound d) distinct h k =
    let same = same_trees cert.frame cert.uploads [] cert.nodes k.0 h.0 distinct k.1.unfolds h.1.unfolds in
    ap NoBound (same_unmet h.0 cert.bounds c d h.2 (subst (λ ts. IsFirstUnmet ts cert.bounds d) same k.2))
one_reason laws cert (NoBound c) (Low d n) distinct h k =
    let same = same_trees cert.frame cert.uploads [] cert.nodes k.0 h.0 distinct k.1.unfolds h.1.unfolds in
    absurd (no_unmet h.0 cert.bounds c (subst (λ ts. AllByRecursion (IsMet ts) cert.bounds) same k.2) h.2)
one_reason laws cert (NoBound c) Memory distinct h k = absurd k
one_reason laws cert (Low c m) (NoUpload q b) distinct h k = absurd (no_refused laws cert.uploads q b h.1.checked k)
one_reason laws cert (Low c m) (NoNode n) distinct h k =
    absurd (no_loose cert.frame cert.uploads cert.nodes n h.0 distinct h.1.unfolds k.1)
one_reason laws cert (Low c m) (NoBound d) distinct h k =
    let same = same_trees cert.frame cert.uploads [] cert.nodes h.0 k.0 distinct h.1.unfolds k.1.unfolds in
    absurd (no_unmet k.0 cert.bounds d (subst (λ ts. AllByRecursion (IsMet ts) cert.bounds) same h.2) k.2)
one_reason laws cert (Low c m) (Low d n) distinct h k =
    same_low laws cert.frame cert.uploads (at_cell cert.frame (bounds_of cert)) c d m n h.3 k.3
one_reason laws cert (Low c m) Memory distinct h k = absurd k
one_reason laws cert Memory b distinct h k = absurd h
