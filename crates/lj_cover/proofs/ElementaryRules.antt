-- The rules drop, add, grow and lower cover where their child does.
use Rattle.std.proofs.Common.{◌≡◌, ℕ, suc, ◌+◌, ◌-◌, ◌<◌, ◌≤◌, List, [], ◌∷◌, length, refl, sym, ap, ◌∙◌, subst, arith}
use Rattle.std.proofs.Common.{inl, ⊎_elim, length-append}
use Rattle.lj_base.specs.Blocks.{Ascends, IsBlock, SomeContains, Covers}
use Rattle.lj_base.proofs.Ascending.{Ascends-append, Ascends-wider, Has-append_left, Has-append_right, SomeContains-map}
use Rattle.lj_base.proofs.Ascending.{Within-append, Within-larger}
use Rattle.lj_base.proofs.Lists.{AllByRecursion-map}
use Rattle.lj_cover.specs.Operations.{add_point, cut, drop_last, fill}
use Rattle.lj_cover.specs.BlockLists.{drop_blocks, add_blocks, grow_blocks}
use Rattle.lj_cover.specs.Rules.{triple}
use Rattle.lj_cover.proofs.FilledBlocks.{Has-fill, IsBlock-fill, covers_fewer}
use Rattle.lj_cover.proofs.CutsOfBlocks.{Ascends-cut, Within-cut, length-cut}
use Rattle.lj_cover.proofs.SidesOfSets.{EndsIn, last_or_below}

pub drop_covers : (v k t : ℕ) (bs : List (List ℕ)) → k ≤ v → Covers bs (triple (v + 1) k t)
    → Covers (drop_blocks v bs) (triple v k t)
drop_covers v k t bs room h = record {
  blocks = AllByRecursion-map (IsBlock (v + 1) k) (IsBlock v k) (drop_last v) bs each h.blocks;
  sets = λ s set. SomeContains-map (drop_last v) bs s s
      (λ b within. Within-larger s (cut v b) (drop_last v b) (Has-fill (length b) (cut v b))
      (Within-cut v 0 s b set.0 within))
      (h.sets s (Ascends-wider 0 0 v (v + 1) s (omega arith) (omega arith) set.0, set.1));
}
  where
    each : (b : List ℕ) → IsBlock (v + 1) k b → IsBlock v k (drop_last v b)
    each b block =
        let made = IsBlock-fill v (length b) (cut v b) (length-cut v b) (omega (arith, block.1))
        (Ascends-cut v 0 (v + 1) b block.0) in
        (made.0, made.1 ∙ block.1)

-- the last point, after the points below it
pub Ascends-add_point : (v : ℕ) (b : List ℕ) → Ascends 0 v b → Ascends 0 (suc v) (add_point v b)
Ascends-add_point v b h =
    Ascends-append 0 v (suc v) b (v ∷ []) (omega arith) (omega arith) h (omega arith, omega arith, tt)

add_covers_next : (v k t : ℕ) (bs : List (List ℕ)) → t ≤ v → Covers bs (triple v k t)
    → Covers (add_blocks v bs) (triple (suc v) (suc k) t)
add_covers_next v k t bs room h = record {
  blocks = AllByRecursion-map (IsBlock v k) (IsBlock (suc v) (suc k)) (add_point v) bs each h.blocks;
  sets = λ s set. ⊎_elim (with_last s set) (λ below. without_last s (below, set.1)) (last_or_below 0 v s set.0);
}
  where
    each : (b : List ℕ) → IsBlock v k b → IsBlock (suc v) (suc k) (add_point v b)
    each b block = (Ascends-add_point v b block.0, omega (arith, length-append b (v ∷ []), block.1))

    without_last : (s : List ℕ) → IsBlock v t s → SomeContains (add_blocks v bs) s
    without_last s set = SomeContains-map (add_point v) bs s s
        (λ b within. Within-larger s b (add_point v b) (Has-append_left b (v ∷ [])) within) (h.sets s set)

    with_last : (s : List ℕ) → IsBlock (suc v) t s → EndsIn 0 v s → SomeContains (add_blocks v bs) s
    with_last s set e =
        let longer = ap length e.is in
        let few : length e.front ≤ t = omega (arith, length-append e.front (v ∷ []), set.1) in
        subst (SomeContains (add_blocks v bs)) (sym e.is)
        (SomeContains-map (add_point v) bs e.front (add_point v e.front)
        (λ b within. Within-append e.front (v ∷ []) (add_point v b)
        (Within-larger e.front b (add_point v b) (Has-append_left b (v ∷ [])) within)
        (Has-append_right b (v ∷ []) v (inl refl), tt))
        (covers_fewer bs (triple v k t) e.front room h e.ascends few))

pub add_covers : (v k t : ℕ) (bs : List (List ℕ)) → t < k → k ≤ v → Covers bs (triple (v - 1) (k - 1) t)
    → Covers (add_blocks (v - 1) bs) (triple v k t)
add_covers v k t bs small room h =
    let v_is : suc (v - 1) ≡ v = omega arith in
    let k_is : suc (k - 1) ≡ k = omega arith in
    subst (λ w. Covers (add_blocks (v - 1) bs) (triple w k t)) v_is
    (subst (λ j. Covers (add_blocks (v - 1) bs) (triple (suc (v - 1)) j t)) k_is
    (add_covers_next (v - 1) (k - 1) t bs (omega arith) h))

pub grow_covers : (v k t : ℕ) (bs : List (List ℕ)) → t < k → k ≤ v → Covers bs (triple v (k - 1) t)
    → Covers (grow_blocks k bs) (triple v k t)
grow_covers v k t bs small room h = record {
  blocks = AllByRecursion-map (IsBlock v (k - 1)) (IsBlock v k) (fill k) bs
      (λ b block. IsBlock-fill v k b (omega (arith, block.1)) room block.0) h.blocks;
  sets = λ s set. SomeContains-map (fill k) bs s s (λ b within. Within-larger s b (fill k b) (Has-fill k b) within)
      (h.sets s set);
}

pub lower_covers : (v k t : ℕ) (bs : List (List ℕ)) → t < k → k ≤ v → Covers bs (triple v k (t + 1))
    → Covers bs (triple v k t)
lower_covers v k t bs small room h = record {
  blocks = h.blocks;
  sets = λ s set. covers_fewer bs (triple v k (t + 1)) s (omega arith) h set.0 (omega (arith, set.1));
}
