use Rattle.std.proofs.Common.{◌≡◌, ◌≢◌, ℕ, suc, ◌+◌, ◌<◌, List, [], ◌∷◌, length, take, get_or, arith, sym, ap, subst}
use Rattle.std.proofs.Common.{◌∙◌}
use Rattle.std.proofs.Math.ListN.{length-set, set}
use Rattle.std.proofs.lemmas.List.{get_or-map, get_or-set_other, get_or-set_same, length-map, take-map, take_more}
use Rattle.std.specs.List.{AllByRecursion}
use Rattle.lj_base.proofs.Ascending.{AllBelow-take, Ascends-get_or_below}
use Rattle.lj_base.proofs.Lists.{AllByRecursion-push}
use Rattle.lj_base.specs.Blocks.{AllBelow, Ascends}
use Rattle.lj_cert.specs.Storing.{IsStoredChild, child_sizes}
use Rattle.lj_cert.specs.declared.certs.CertChild.{CertChild}
use Rattle.lj_cert.proofs.storing.stored_children.Goals as goal

abbrev size_of : CertChild → ℕ
size_of c = c.l

small_size : (cs : List CertChild) (i : ℕ) (d : CertChild) → Ascends 0 26 (child_sizes cs) → i < length cs
    → (get_or cs i d).l < 26
small_size cs i d h inside =
    let below = Ascends-get_or_below 0 26 (child_sizes cs) i h (omega (arith, length-map cs size_of)) in
    omega (arith, below, get_or-map size_of cs i d 0 inside)

-- what is set at a greater size changes no child's place
still_stored : (stored : List ℕ) (l n : ℕ) (cs : List CertChild) → AllBelow l (child_sizes cs)
    → AllByRecursion (IsStoredChild stored) cs → AllByRecursion (IsStoredChild (set stored l n)) cs
still_stored stored l n [] below h = tt
still_stored stored l n (c ∷ cs) below h =
    let other : c.l ≢ l = omega (arith, below.0) in
    (ap suc (get_or-set_other stored l c.l n 0 other) ∙ h.0, still_stored stored l n cs below.1 h.1)

child_more : (stored : List ℕ) (cs : List CertChild) (i n : ℕ) (d : CertChild) → length stored ≡ 26
    → Ascends 0 26 (child_sizes cs) → i < length cs → suc n ≡ (get_or cs i d).child
    → AllByRecursion (IsStoredChild stored) (take i cs)
    → AllByRecursion (IsStoredChild (set stored (get_or cs i d).l n)) (take (i + 1) cs)
child_more stored cs i n d places ascend inside number h =
    let c = get_or cs i d in
    let after = set stored c.l n in
    let small = small_size cs i d ascend inside in
    let within : i < length (child_sizes cs) = omega (arith, length-map cs size_of) in
    let lesser : AllBelow (get_or (child_sizes cs) i 0) (child_sizes (take i cs)) =
    subst (AllBelow (get_or (child_sizes cs) i 0)) (take-map size_of i cs)
    (AllBelow-take 0 26 (child_sizes cs) i ascend within) in
    let below : AllBelow c.l (child_sizes (take i cs)) =
    subst (λ m. AllBelow m (child_sizes (take i cs))) (get_or-map size_of cs i d 0 inside) lesser in
    let own : IsStoredChild after c =
    ap suc (get_or-set_same stored c.l n 0 (omega (arith, small, places))) ∙ number in
    subst (AllByRecursion (IsStoredChild after)) (sym (take_more cs i d inside))
    (AllByRecursion-push (IsStoredChild after) (take i cs) c (still_stored stored c.l n (take i cs) below h) own)

pub bounds-stored-child : goal.bounds-stored-child
bounds-stored-child c = small_size c.args.children.now c.loop-child.child-index _ c.requires (omega arith)

pub offset_bounds-stored-child : goal.offset_bounds-stored-child
offset_bounds-stored-child c =
    let none : CertChild = record { l = 0; child = 0 } in
    let small = small_size c.args.children.now c.loop-child.child-index none c.requires (omega arith) in
    omega (arith, small)

pub loop-child-preserved : goal.loop-child-preserved
loop-child-preserved c =
    let none : CertChild = record { l = 0; child = 0 } in
    let cs = c.args.children.now in
    let i = c.loop-child.child-index in
    let stored = c.loop-child.stored in
    let n : ℕ = c.in_ok-stored.field-0 in
    let number : suc n ≡ (get_or cs i none).child = omega (arith, c.in_ok-stored.ensures) in
    record {
      places = length-set stored (get_or cs i none).l n ∙ c.loop-child.invariant.places;
      done = child_more stored cs i n none c.loop-child.invariant.places c.requires (omega arith) number
          c.loop-child.invariant.done;
    }
