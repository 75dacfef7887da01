-- The blocks of a design, one by one, and what is made of them.
use Rattle.std.proofs.Common.{◌≡◌, ℕ, zero, suc, ◌+◌, ◌-◌, ◌<◌, ◌≤◌, Bool, true, false, cond, List, [], ◌∷◌, ◌++◌}
use Rattle.std.proofs.Common.{length, map, take, get_or, sym, ap, ◌∙◌, subst, subst₂, arith, append-nil}
use Rattle.std.proofs.lemmas.Bool.{cond-true, cond-false}
use Rattle.std.proofs.lemmas.List.{map-append, take_all, take_more}
use Rattle.std.proofs.lemmas.List.Elements.{filter-append}
use Rattle.std.specs.List.{filter}
use Rattle.lj_base.specs.Cells.{Triple}
use Rattle.lj_base.specs.Blocks.{AreBlocks, Covers, IsBlock}
use Rattle.lj_cover.specs.BlockLists.{add_blocks, drop_blocks, grow_blocks}
use Rattle.lj_cover.specs.Rules.{triple}
use Rattle.lj_cover.proofs.ElementaryRules.{add_covers, drop_covers, grow_covers, lower_covers}

-- a design's list covers its cell, given by the three numbers
pub covering : (v k t : ℕ) (c : Triple) (items bs : List (List ℕ)) → triple v k t ≡ c → items ≡ bs → Covers bs c
    → Covers items (triple v k t)
covering v k t c items bs same list h = subst₂ Covers (sym list) (sym same) h

block_at : (v k : ℕ) (bs : List (List ℕ)) (i : ℕ) (d : List ℕ) → i < length bs → AreBlocks v k bs
    → IsBlock v k (get_or bs i d)
block_at v k [] i d inside h = absurd (omega arith)
block_at v k (b ∷ bs) zero d inside h = h.0
block_at v k (b ∷ bs) (suc i) d inside h = block_at v k bs i d (omega arith) h.1

-- the i-th block that was read
pub block_read : (v k t i : ℕ) (bs : List (List ℕ)) (b : List ℕ) → i < length bs → b ≡ get_or bs i b
    → Covers bs (triple v k t) → IsBlock v k b
block_read v k t i bs b inside is h = subst (IsBlock v k) (sym is) (block_at v k bs i b inside h.blocks)

-- what was made of all blocks of a design covers the cell that is made of the design's
pub made_covers : (f : List (List ℕ) → List (List ℕ)) (to : Triple → Triple) (old c new : Triple)
    (made items bs : List (List ℕ)) (i : ℕ) → length items ≤ i → made ≡ f (take i items) → items ≡ bs
    → new ≡ to c → c ≡ old → Covers (f bs) (to old) → Covers made new
made_covers f to old c new made items bs i done is same new_is c_is h =
    subst₂ Covers (sym (is ∙ ap f (take_all i items done ∙ same))) (sym (new_is ∙ ap to c_is)) h

pub dropped_covers : (v k t : ℕ) (bs : List (List ℕ)) → k < v → Covers bs (triple v k t)
    → Covers (drop_blocks (v - 1) bs) (triple (v - 1) k t)
dropped_covers v k t bs room h =
    let again : v ≡ v - 1 + 1 = omega arith in
    drop_covers (v - 1) k t bs (omega arith) (subst (λ w. Covers bs (triple w k t)) again h)

pub added_covers : (v k t : ℕ) (bs : List (List ℕ)) → t ≤ k → k ≤ v → Covers bs (triple v k t)
    → Covers (add_blocks v bs) (triple (v + 1) (k + 1) t)
added_covers v k t bs small room h =
    let v_is : v ≡ v + 1 - 1 = omega arith in
    let k_is : k ≡ k + 1 - 1 = omega arith in
    subst (λ w. Covers (add_blocks w bs) (triple (v + 1) (k + 1) t)) (sym v_is)
    (add_covers (v + 1) (k + 1) t bs (omega arith) (omega arith)
    (subst (λ w. Covers bs (triple w (k + 1 - 1) t)) v_is (subst (λ j. Covers bs (triple v j t)) k_is h)))

pub grown_covers : (v k t : ℕ) (bs : List (List ℕ)) → t ≤ k → k < v → Covers bs (triple v k t)
    → Covers (grow_blocks (k + 1) bs) (triple v (k + 1) t)
grown_covers v k t bs small room h =
    let k_is : k ≡ k + 1 - 1 = omega arith in
    grow_covers v (k + 1) t bs (omega arith) (omega arith) (subst (λ j. Covers bs (triple v j t)) k_is h)

pub lowered_covers : (v k t : ℕ) (bs : List (List ℕ)) → 1 ≤ t → t ≤ k → k ≤ v → Covers bs (triple v k t)
    → Covers bs (triple v k (t - 1))
lowered_covers v k t bs some small room h =
    let again : t ≡ t - 1 + 1 = omega arith in
    lower_covers v k (t - 1) bs (omega arith) room (subst (λ u. Covers bs (triple v k u)) again h)

-- one block more: it is kept where it passes the test
kept_more : (p : List ℕ → Bool) (f : List ℕ → List ℕ) (bs : List (List ℕ)) (i : ℕ) (b : List ℕ) → i < length bs
    → b ≡ get_or bs i b
    → map f (filter p (take (i + 1) bs)) ≡ map f (filter p (take i bs)) ++ map f (cond (p b) (b ∷ []) [])
kept_more p f bs i b inside is =
    ap (λ cs. map f (filter p cs)) (take_more bs i b inside ∙ ap (λ c. take i bs ++ c ∷ []) (sym is))
    ∙ ap (map f) (filter-append p (take i bs) (b ∷ []))
    ∙ map-append f (filter p (take i bs)) (cond (p b) (b ∷ []) [])

pub kept_yes : (p : List ℕ → Bool) (f : List ℕ → List ℕ) (bs : List (List ℕ)) (i : ℕ) (b : List ℕ) → i < length bs
    → b ≡ get_or bs i b → p b ≡ true
    → map f (filter p (take (i + 1) bs)) ≡ map f (filter p (take i bs)) ++ f b ∷ []
kept_yes p f bs i b inside is passes =
    kept_more p f bs i b inside is ∙ ap (λ cs. map f (filter p (take i bs)) ++ map f cs)
    (cond-true (p b) (b ∷ []) [] passes)

pub kept_no : (p : List ℕ → Bool) (f : List ℕ → List ℕ) (bs : List (List ℕ)) (i : ℕ) (b : List ℕ) → i < length bs
    → b ≡ get_or bs i b → p b ≡ false
    → map f (filter p (take (i + 1) bs)) ≡ map f (filter p (take i bs))
kept_no p f bs i b inside is fails =
    kept_more p f bs i b inside is ∙ ap (λ cs. map f (filter p (take i bs)) ++ map f cs)
    (cond-false (p b) (b ∷ []) [] fails) ∙ append-nil (map f (filter p (take i bs)))
