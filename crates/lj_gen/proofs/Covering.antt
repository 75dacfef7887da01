-- The quadruples with xor 0 cover each three points: with these goes the point that is their xor.
use Rattle.std.proofs.Common.{◌≡◌, ℕ, zero, suc, ◌^◌, ◌<◌, ◌≤◌, ◌≢◌, Contains, List, [], ◌∷◌, bit_xor, inl, inr, ⊎_elim}
use Rattle.std.proofs.Common.{refl, sym, ap, ◌∙◌, subst, arith}
use Rattle.std.proofs.lemmas.Bool.{cases_lt}
use Rattle.std.proofs.lemmas.Nat.{xor_comm}
use lib.Bits.{xor_assoc, xor_self, xor_zero_r}
use Rattle.lj_base.specs.Blocks.{Covers, IsBlock, SomeContains, Within}
use Rattle.lj_gen.specs.Quadruples.{gen_blocks}
use Rattle.lj_gen.proofs.Chosen.{AreBlocks-gen_blocks}
use Rattle.lj_gen.proofs.LastPoint.{fourth-below, same_from_xor}
use Rattle.lj_gen.proofs.Members.{Contains-gen_blocks}

SomeContains-from : (bs : List (List ℕ)) (b s : List ℕ) → Contains bs b → Within s b → SomeContains bs s
SomeContains-from [] b s (k, lt, e) inside = absurd (omega arith)
SomeContains-from (c ∷ cs) b s (zero, lt, e) inside = inl (subst (Within s) (sym e) inside)
SomeContains-from (c ∷ cs) b s (suc k, lt, e) inside = inr (SomeContains-from cs b s (k, omega arith, e) inside)

-- ---- the xor of three points

-- the order of the last two does not matter
pub swap_last : (q a b : ℕ) → bit_xor (bit_xor q a) b ≡ bit_xor (bit_xor q b) a
swap_last q a b = xor_assoc q a b ∙ ap (bit_xor q) (xor_comm a b) ∙ sym (xor_assoc q b a)

-- what leaves a number as it is is 0
none_from_same : (q z : ℕ) → bit_xor q z ≡ z → q ≡ 0
none_from_same q z h =
    sym (xor_zero_r q) ∙ ap (bit_xor q) (sym (xor_self z)) ∙ sym (xor_assoc q z z) ∙ ap (λ n. bit_xor n z) h
    ∙ xor_self z

module _ (x y z : ℕ) (first : x < y) (second : y < z) where
  abbrev w : ℕ
  w = bit_xor (bit_xor x y) z

  pub not_z : w ≢ z
  not_z h = omega (arith, same_from_xor x y (none_from_same (bit_xor x y) z h))

  pub not_y : w ≢ y
  not_y h = omega (arith, same_from_xor x z (none_from_same (bit_xor x z) y (swap_last x z y ∙ h)))

  pub not_x : w ≢ x
  not_x h =
      let turned = xor_comm (bit_xor y z) x ∙ sym (xor_assoc x y z) ∙ h in
      omega (arith, same_from_xor y z (none_from_same (bit_xor y z) x turned))

  last : bit_xor (bit_xor (bit_xor x y) z) w ≡ 0
  last = xor_self w

  third : bit_xor (bit_xor (bit_xor x y) w) z ≡ 0
  third = swap_last (bit_xor x y) w z ∙ last

  middle : bit_xor (bit_xor (bit_xor x w) y) z ≡ 0
  middle = ap (λ n. bit_xor n z) (swap_last x w y) ∙ third

  front : bit_xor (bit_xor (bit_xor w x) y) z ≡ 0
  front = ap (λ n. bit_xor (bit_xor n y) z) (xor_comm w x) ∙ middle

  module _ (m : ℕ) (below : z < 2 ^ m) where
    with_block : (b : List ℕ) → IsBlock (2 ^ m) 4 b → Contains (gen_blocks m) b → Within (x ∷ y ∷ z ∷ []) b
        → SomeContains (gen_blocks m) (x ∷ y ∷ z ∷ [])
    with_block b block there inside = SomeContains-from (gen_blocks m) b (x ∷ y ∷ z ∷ []) there inside

    pub triple-covered : SomeContains (gen_blocks m) (x ∷ y ∷ z ∷ [])
    triple-covered =
        let limit : w < 2 ^ m = fourth-below x y z m first second below in
        ⊎_elim
        (λ (h : w < x).
        let b : List ℕ = w ∷ x ∷ y ∷ z ∷ [] in
        let block : IsBlock (2 ^ m) 4 b = (
          (omega arith, limit, (omega arith, omega arith, (omega arith, omega arith, (omega arith, below, tt)))),
          refl,
        ) in
        with_block b block (Contains-gen_blocks m b block front)
        (inr (inl refl), (inr (inr (inl refl)), (inr (inr (inr (inl refl))), tt))))
        (λ (h : x ≤ w).
        ⊎_elim
        (λ (k : w < y).
        let b : List ℕ = x ∷ w ∷ y ∷ z ∷ [] in
        let later : x < w = omega (arith, not_x) in
        let block : IsBlock (2 ^ m) 4 b =
        ((omega arith, omega arith, (later, limit, (omega arith, omega arith, (omega arith, below, tt)))), refl) in
        with_block b block (Contains-gen_blocks m b block middle)
        (inl refl, (inr (inr (inl refl)), (inr (inr (inr (inl refl))), tt))))
        (λ (k : y ≤ w).
        ⊎_elim
        (λ (l : w < z).
        let b : List ℕ = x ∷ y ∷ w ∷ z ∷ [] in
        let later : y < w = omega (arith, not_y) in
        let block : IsBlock (2 ^ m) 4 b =
        ((omega arith, omega arith, (omega arith, omega arith, (later, limit, (omega arith, below, tt)))), refl) in
        with_block b block (Contains-gen_blocks m b block third)
        (inl refl, (inr (inl refl), (inr (inr (inr (inl refl))), tt))))
        (λ (l : z ≤ w).
        let b : List ℕ = x ∷ y ∷ z ∷ w ∷ [] in
        let later : z < w = omega (arith, not_z) in
        let block : IsBlock (2 ^ m) 4 b =
        ((omega arith, omega arith, (omega arith, omega arith, (omega arith, below, (later, limit, tt)))), refl) in
        with_block b block (Contains-gen_blocks m b block last)
        (inl refl, (inr (inl refl), (inr (inr (inl refl)), tt))))
        (cases_lt w z))
        (cases_lt w y))
        (cases_lt w x)

each_covered : (m : ℕ) (s : List ℕ) → IsBlock (2 ^ m) 3 s → SomeContains (gen_blocks m) s
each_covered m [] h = absurd (omega (arith, h.1))
each_covered m (x ∷ []) h = absurd (omega (arith, h.1))
each_covered m (x ∷ (y ∷ [])) h = absurd (omega (arith, h.1))
each_covered m (x ∷ (y ∷ (z ∷ []))) h = triple-covered x y z h.0.2.0 h.0.2.2.0 m h.0.2.2.1
each_covered m (x ∷ (y ∷ (z ∷ (u ∷ us)))) h = absurd (omega (arith, h.1))

pub Covers-gen_blocks : (m : ℕ) → Covers (gen_blocks m) (record { v = 2 ^ m; k = 4; t = 3 })
Covers-gen_blocks m = record { blocks = AreBlocks-gen_blocks m; sets = each_covered m }
