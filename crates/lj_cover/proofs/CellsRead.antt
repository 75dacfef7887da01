-- What a cell reads is just what its instances have as children.
use Rattle.std.proofs.Common.{◌≡◌, ℕ, zero, suc, ◌+◌, ◌-◌, ◌<◌, ◌≤◌, min, max, true, cond, eqb, List, [], ◌∷◌, length}
use Rattle.std.proofs.Common.{map, refl, sym, ap, subst, arith, inl, inr, ⊎_elim}
use Rattle.std.proofs.lemmas.Bool.{cond_both, cond-true, cases_eq, eqb-true, eq-eqb, false≢true, or_cases, or_left}
use Rattle.std.proofs.lemmas.Bool.{or_right}
use Rattle.std.proofs.lemmas.List.Elements.{All-contains, All-from_recursion}
use Rattle.std.proofs.lemmas.List.FromFn.{length-range_with_len}
use Rattle.std.specs.List.{AllByRecursion, Contains, filter, flat_map, list_any, range_with_len}
use Rattle.lj_base.specs.Cells.{IsCell, Triple}
use Rattle.lj_base.specs.Blocks.{AreBlocks, Covers, Has, IsBlock, SomeContains}
use Rattle.lj_base.specs.Colex.{sets}
use Rattle.lj_base.specs.Frames.{InFrame, Top}
use Rattle.lj_base.proofs.Ascending.{Ascends-range, Ascends-wider, Has-range, SomeContains-smaller}
use Rattle.lj_cover.specs.Operations.{cut, fill}
use Rattle.lj_cover.specs.BlockLists.{cut_sizes}
use Rattle.lj_cover.specs.Rules.{Rule, Upload, Part, One, Runs, All, Leaf, Derived, Derived2, Drop, Add, Grow, Lower}
use Rattle.lj_cover.specs.Rules.{Product, Induced, Chain, PartFits, IsCovering, rule_cell, rule_children, part_cells}
use Rattle.lj_cover.specs.Rules.{triple}
use Rattle.lj_cover.specs.Instances.{AreUploads, IsInstance, ReadSomewhere, Reads, by_add, by_drop, by_grow, by_induced}
use Rattle.lj_cover.specs.Instances.{by_lower, by_product}
use Rattle.lj_cover.proofs.PartsInOrder.{Chain-le}
use Rattle.lj_cover.proofs.FilledBlocks.{Has-fill, IsBlock-fill}
use Rattle.lj_cover.proofs.CutsOfBlocks.{Ascends-cut, Within-cut, length-cut}
use Rattle.lj_cover.proofs.PlacedBlocks.{length-Within}
use Rattle.lj_cover.proofs.InducedRule.{Has-filter}
use Rattle.lj_cover.proofs.BasesCover.{all_cover}
use Rattle.lj_cover.proofs.RowsOfUploads.{Contains-later}

part_cells_read : (frame : Top) (c : Triple) (v1 lo hi : ℕ) (parts : List Part) → 1 ≤ v1 → v1 < c.v → hi ≤ c.t
    → Chain lo hi parts → AllByRecursion (PartFits c v1) parts
    → AllByRecursion (Reads frame c) (flat_map (part_cells c v1) parts)
part_cells_read frame c v1 lo hi [] some split most chain fits = tt
part_cells_read frame c v1 lo hi (p ∷ ps) some split most chain fits =
    let last = Chain-le (p.b + 1) hi ps chain.2 in
    let fit = fits.0 in
    let order = chain.1 in (
      by_product split (omega (arith, fit.second_sets)) (omega arith) (omega (arith, fit.second_sets))
          (omega (arith, fit.second_blocks)),
      (
        by_product (omega arith) (omega arith) (omega arith) (omega (arith, fit.second_sets, fit.first_sets))
            (omega (arith, fit.second_sets, fit.first_blocks)),
        part_cells_read frame c v1 (p.b + 1) hi ps some split most chain.2 fits.1,
      ),
    )

-- a test that some block passes, each of which has at most m points, is of at most m
size_of_some : (v m w l : ℕ) (bs : List (List ℕ)) → AreBlocks v m bs
    → list_any (λ b. eqb (length (cut w b)) l) bs ≡ true → l ≤ m
size_of_some v m w l [] h some = absurd (false≢true some)
size_of_some v m w l (b ∷ bs) h some =
    ⊎_elim (λ (e : eqb (length (cut w b)) l ≡ true). omega
    (arith, eqb-true (length (cut w b)) l e, length-cut w b, h.0.1))
    (λ rest. size_of_some v m w l bs h.1 rest) (or_cases _ _ some)

sizes_read : (frame : Top) (c : Triple) (v m : ℕ) (bs : List (List ℕ)) (lo n : ℕ) → AreBlocks v m bs → m ≤ frame.top.k
    → c.k < lo → lo + n ≤ suc c.v
    → AllByRecursion (Reads frame c) (map (λ l. triple l c.k c.t)
    (filter (λ l. list_any (λ b. eqb (length (cut c.v b)) l) bs) (range_with_len lo n)))
sizes_read frame c v m bs lo zero h small from to = tt
sizes_read frame c v m bs lo (suc n) h small from to =
    let rest = sizes_read frame c v m bs (lo + 1) n h small (omega arith) (omega arith) in
    cond_both (list_any (λ b. eqb (length (cut c.v b)) lo) bs) _ _
    (λ ls. AllByRecursion (Reads frame c) (map (λ l. triple l c.k c.t) ls))
    (λ some. let most = size_of_some v m c.v lo bs h some in (by_induced refl from (omega arith) (omega arith), rest))
    (λ none. rest)

-- each child of an instance is read
pub children_are_read : (frame : Top) (uploads : List Upload) (c : Triple) (r : Rule) → AreUploads frame uploads
    → IsInstance frame uploads c r → AllByRecursion (Reads frame c) (rule_children r)
children_are_read frame uploads c r covering i =
    subst (λ d. AllByRecursion (Reads frame d) (rule_children r)) i.cell_is (each r i)
  where
    each : (r : Rule) → IsInstance frame uploads c r → AllByRecursion (Reads frame (rule_cell r)) (rule_children r)
    each (One d) i = absurd i.step
    each (Runs d) i = absurd i.step
    each (All d) i = absurd i.step
    each (Leaf u) i = absurd i.step
    each (Derived u x) i = absurd i.step
    each (Derived2 u x y) i = absurd i.step
    each (Drop d) i = (by_drop refl, tt)
    each (Add d) i = (by_add refl i.condition, tt)
    each (Grow d) i = (by_grow refl i.condition.0, tt)
    each (Lower d) i = (by_lower refl i.condition, tt)
    each (Product d v1 parts) i =
        part_cells_read frame d v1 _ (min d.t v1) parts i.condition.first_side i.condition.second_side
        (omega arith) i.condition.chain i.condition.fits
    each (Induced u w k) i =
        let facts = All-contains (λ u. IsCovering u × InFrame frame u.cell) uploads u covering i.upload_from in
        sizes_read frame (triple w k u.cell.t) u.cell.v u.cell.k u.blocks (suc k)
        (w - k) facts.0.covers.blocks facts.1.k (omega arith) (omega (arith, i.condition.1))

-- one instance with one child
single : (frame : Top) (c d : Triple) (r : Rule) → IsInstance frame [] c r → rule_children r ≡ d ∷ []
    → ReadSomewhere frame c d
single frame c d r i only = record {
  uploads = [];
  rule = r;
  are_uploads = All-from_recursion (λ u. IsCovering u × InFrame frame u.cell) [] tt;
  instance = i;
  has_child = subst (λ cs. Contains cs d) (sym only) (0, omega arith, refl);
}

-- one part for each number of points from lo on, n of them: the part for j has l blocks' points, the others as few as
-- they can
abbrev single_parts : Triple → ℕ → ℕ → ℕ → ℕ → ℕ → List Part
single_parts c v1 j l lo zero = []
single_parts c v1 j l lo (suc n) =
    (record { a = lo; b = lo; l = cond (eqb lo j) l (max lo (c.k - (c.v - v1))) }) ∷ single_parts c v1 j l (suc lo) n

single_parts_chain : (c : Triple) (v1 j l lo n hi : ℕ) → lo + n ≡ hi + 1 → Chain lo hi (single_parts c v1 j l lo n)
single_parts_chain c v1 j l lo zero hi e = omega arith
single_parts_chain c v1 j l lo (suc n) hi e =
    let next : suc lo ≡ lo + 1 = omega arith in (
      refl,
      omega arith,
      subst (λ m. Chain m hi (single_parts c v1 j l (suc lo) n)) next
          (single_parts_chain c v1 j l (suc lo) n hi (omega arith)),
    )

-- a first factor of j points in sets and l in blocks is possible beside v1 points
record IsFactor (frame : Top) (c : Triple) (v1 j l : ℕ) : Type 0 where
  reader : InFrame frame c
  some : 1 ≤ v1
  split : v1 < c.v
  sets : j ≤ l
  blocks : l ≤ v1
  other_sets : l + c.t ≤ c.k + j
  other_blocks : c.k ≤ l + (c.v - v1)

-- both cells of a part that fits are in the frame
part_cells_inside : (frame : Top) (c : Triple) (v1 i l : ℕ) → IsFactor frame c v1 i l → i ≤ c.t
    → AllByRecursion (InFrame frame) (part_cells c v1 (record { a = i; b = i; l = l }))
part_cells_inside frame c v1 i l f most =
    let limits = f.reader.cell in (
      record {
        cell = (
          f.some,
          omega (arith, limits.1, f.split),
          f.sets,
          f.blocks,
          omega
              (arith, limits.4, f.other_sets),
          omega (arith, limits.5),
        );
        v = omega (arith, f.split, f.reader.v);
        k = omega (arith, f.other_sets, f.reader.k);
        t = omega (arith, f.reader.t);
      },
      (
        record {
          cell = (
            omega (arith, f.split),
            omega (arith, limits.1),
            omega (arith, f.other_sets),
            omega
                (arith, f.other_blocks),
            omega (arith, limits.4),
            omega (arith, limits.5),
          );
          v = omega (arith, f.reader.v);
          k = omega (arith, f.reader.k);
          t = omega (arith, f.reader.t);
        },
        tt,
      ),
    )

record SinglesFit (frame : Top) (c : Triple) (v1 : ℕ) (parts : List Part) : Type 0 where
  fits : AllByRecursion (PartFits c v1) parts
  inside : AllByRecursion (InFrame frame) (flat_map (part_cells c v1) parts)

single_parts_fit : (frame : Top) (c : Triple) (v1 j l lo n : ℕ) → IsFactor frame c v1 j l → c.t - (c.v - v1) ≤ lo
    → lo + n ≤ suc (min c.t v1) → SinglesFit frame c v1 (single_parts c v1 j l lo n)
single_parts_fit frame c v1 j l lo zero f from to = record { fits = tt; inside = tt }
single_parts_fit frame c v1 j l lo (suc n) f from to =
    let rest = single_parts_fit frame c v1 j l (suc lo) n f (omega arith) (omega arith) in
    let limits = f.reader.cell in
    let size = cond (eqb lo j) l (max lo (c.k - (c.v - v1))) in
    let here : IsFactor frame c v1 lo size =
    cond_both (eqb lo j) l (max lo (c.k - (c.v - v1))) (IsFactor frame c v1 lo)
    (λ e. subst (λ i. IsFactor frame c v1 i l) (sym (eqb-true lo j e)) f)
    (λ e. record {
      reader = f.reader;
      some = f.some;
      split = f.split;
      sets = omega arith;
      blocks = omega (arith, limits.3);
      other_sets = omega (arith, limits.2, limits.3);
      other_blocks = omega arith;
    }) in
    let inside = part_cells_inside frame c v1 lo size here (omega arith) in
    record {
      fits = (
        record {
          first_sets = here.sets;
          first_blocks = here.blocks;
          second_sets =
              here.other_sets;
          second_blocks = here.other_blocks;
        },
        rest.fits,
      );
      inside = (inside.0, (inside.1.0, rest.inside));
    }

single_parts_have : (c : Triple) (v1 j l lo n : ℕ) → lo ≤ j → j < lo + n
    → Contains (flat_map (part_cells c v1) (single_parts c v1 j l lo n)) (triple v1 l j)
single_parts_have c v1 j l lo zero from to = absurd (omega arith)
single_parts_have c v1 j l lo (suc n) from to =
    ⊎_elim
    (λ same.
    let size : cond (eqb lo j) l (max lo (c.k - (c.v - v1))) ≡ l = cond-true (eqb lo j) l _ (eq-eqb lo j same) in
    (0, omega arith, λ i. triple v1 (size i) (same i)))
    (λ other.
    let size = cond (eqb lo j) l (max lo (c.k - (c.v - v1))) in
    let rest = flat_map (part_cells c v1) (single_parts c v1 j l (suc lo) n) in
    let second = triple (c.v - v1) (c.k - size) (c.t - lo) in
    Contains-later (triple v1 size lo) (triple v1 l j) (second ∷ rest)
    (Contains-later second (triple v1 l j) rest (single_parts_have c v1 j l (suc lo) n (omega arith) (omega arith))))
    (cases_eq lo j)

read_by_product : (frame : Top) (c d : Triple) → InFrame frame c → InFrame frame d → d.v < c.v → d.k ≤ c.k → d.t ≤ c.t
    → c.t - d.t ≤ c.k - d.k → c.k - d.k ≤ c.v - d.v → ReadSomewhere frame c d
read_by_product frame c d reader child split blocks sets other_sets other_blocks =
    let own = child.cell in
    let lo = c.t - (c.v - d.v) in
    let n = suc (min c.t d.v) - lo in
    let parts = single_parts c d.v d.t d.k lo n in
    let limits = reader.cell in
    let whole : lo + n ≡ min c.t d.v + 1 = omega (arith, limits.2, limits.3) in
    let factor : IsFactor frame c d.v d.t d.k =
    record {
      reader = reader;
      some = own.0;
      split = split;
      sets = own.2;
      blocks = own.3;
      other_sets =
          omega arith;
      other_blocks = omega arith;
    } in
    let fit = single_parts_fit frame c d.v d.t d.k lo n factor (omega arith) (omega arith) in
    record {
      uploads = [];
      rule = Product c d.v parts;
      are_uploads = All-from_recursion (λ u. IsCovering u × InFrame frame u.cell) [] tt;
      instance = record {
        step = tt;
        cell_is = refl;
        condition = record {
          first_side = own.0;
          second_side = split;
          chain = single_parts_chain c d.v d.t d.k lo n
              (min c.t d.v) whole;
          fits = fit.fits;
        };
        children_inside = fit.inside;
        upload_from = tt;
      };
      has_child = single_parts_have c d.v d.t d.k lo n (omega arith) (omega (arith, own.2, own.3));
    }

-- every set of l points: it covers the sets of t points, and some block of it has just the points below l
sets_cover : (v l t : ℕ) → t ≤ l → l ≤ v → Covers (sets v l) (triple v l t)
sets_cover v l t small room = record {
  blocks = (all_cover v l).blocks;
  sets = λ s set.
      SomeContains-smaller (sets v l) s (fill l s) (Has-fill l s)
      ((all_cover v l).sets (fill l s) (IsBlock-fill v l s (omega (arith, set.1)) room set.0));
}

some_cut : (v w l : ℕ) (bs : List (List ℕ)) → l ≤ w → AreBlocks v l bs → SomeContains bs (range_with_len 0 l)
    → list_any (λ b. eqb (length (cut w b)) l) bs ≡ true
some_cut v w l [] room h some = absurd some
some_cut v w l (b ∷ bs) room h (inl here) =
    let row = range_with_len 0 l in
    let ascends = Ascends-range 0 l in
    let within = Within-cut w 0 row b (Ascends-wider 0 0 (0 + l) w row (omega arith) (omega arith) ascends) here in
    let many = length-Within 0 0 w (0 + l) (cut w b) row (Ascends-cut w 0 v b h.0.0) ascends within in
    let same : length (cut w b) ≡ l = omega (arith, length-cut w b, h.0.1, length-range_with_len 0 l) in
    or_left _ _ (eq-eqb (length (cut w b)) l same)
some_cut v w l (b ∷ bs) room h (inr rest) = or_right _ _ (some_cut v w l bs room h.1 rest)

-- the sizes of cuts, as cells, are in the frame
pub sizes_inside : (frame : Top) (c : Triple) (bs : List (List ℕ)) (lo n : ℕ) → InFrame frame c → c.k < lo
    → lo + n ≤ suc c.v
    → AllByRecursion (InFrame frame) (map (λ l. triple l c.k c.t)
    (filter (λ l. list_any (λ b. eqb (length (cut c.v b)) l) bs) (range_with_len lo n)))
sizes_inside frame c bs lo zero f from to = tt
sizes_inside frame c bs lo (suc n) f from to =
    let rest = sizes_inside frame c bs (lo + 1) n f (omega arith) (omega arith) in
    let limits = f.cell in
    cond_both (list_any (λ b. eqb (length (cut c.v b)) lo) bs) _ _
    (λ ls. AllByRecursion (InFrame frame) (map (λ l. triple l c.k c.t) ls))
    (λ some. (
      record {
        cell = (omega arith, omega (arith, limits.1), limits.2, omega arith, limits.4, limits.5);
        v =
            omega (arith, f.v);
        k = f.k;
        t = f.t;
      },
      rest,
    ))
    (λ none. rest)

Contains-from_Has : (f : ℕ → Triple) (xs : List ℕ) (x : ℕ) → Has xs x → Contains (map f xs) (f x)
Contains-from_Has f [] x has = absurd has
Contains-from_Has f (y ∷ ys) x (inl e) = (0, omega arith, ap f e)
Contains-from_Has f (y ∷ ys) x (inr rest) = Contains-later (f y) (f x) (map f ys) (Contains-from_Has f ys x rest)

read_by_induced : (frame : Top) (c : Triple) (l : ℕ) → InFrame frame c → IsCell frame.top → c.k < l → l ≤ c.v
    → l ≤ frame.top.k → ReadSomewhere frame c (triple l c.k c.t)
read_by_induced frame c l reader whole more room size =
    let limits = reader.cell in
    let u : Upload = record {
      client = [];
      ordinal = 0;
      cell = triple frame.top.v l c.t;
      blocks =
          sets frame.top.v l;
    } in
    let covers = sets_cover frame.top.v l c.t (omega (arith, limits.2)) (omega (arith, reader.v)) in
    let inside : InFrame frame u.cell = record {
      cell = (whole.0, whole.1, omega (arith, limits.2), omega (arith, reader.v), omega (arith, whole.4), limits.5);
      v = omega arith;
      k = size;
      t = reader.t;
    } in
    let here : IsBlock frame.top.v l (range_with_len 0 l) = (
      Ascends-wider 0 0 (0 + l) frame.top.v (range_with_len 0 l) (omega arith) (omega (arith, reader.v))
          (Ascends-range 0 l),
      length-range_with_len 0 l,
    ) in
    let occurs = some_cut frame.top.v c.v l (sets frame.top.v l) room covers.blocks
    ((all_cover frame.top.v l).sets (range_with_len 0 l) here) in
    record {
      uploads = u ∷ [];
      rule = Induced u c.v c.k;
      are_uploads = All-from_recursion (λ a. IsCovering a × InFrame frame a.cell) (u ∷ [])
          ((record { in_limits = inside.cell; covers = covers }, inside), tt);
      instance = record {
        step = tt;
        cell_is = refl;
        condition = (limits.2, limits.3, reader.v);
        children_inside = sizes_inside frame c (sets frame.top.v l) (suc c.k) (c.v - c.k) reader (omega arith)
            (omega (arith, limits.3));
        upload_from = (0, omega arith, refl);
      };
      has_child = Contains-from_Has (λ m. triple m c.k c.t) (cut_sizes c.k c.v (sets frame.top.v l)) l
          (Has-filter (λ m. list_any (λ b. eqb (length (cut c.v b)) m) (sets frame.top.v l))
          (range_with_len (suc c.k) (c.v - c.k)) l occurs
          (Has-range (suc c.k) (c.v - c.k) l more (omega (arith, limits.3))));
    }

-- each cell that is read is a child of some instance
pub read_somewhere : (frame : Top) (c d : Triple) → IsCell frame.top → InFrame frame c → InFrame frame d
    → Reads frame c d → ReadSomewhere frame c d
read_somewhere frame c d whole reader child (by_drop e) =
    single frame c d (Drop c) (record {
      step = tt;
      cell_is = refl;
      condition = reader.cell.3;
      children_inside =
          (subst (InFrame frame) e child, tt);
      upload_from = tt;
    }) (ap (λ x. x ∷ []) (sym e))
read_somewhere frame c d whole reader child (by_add e small) =
    single frame c d (Add c) (record {
      step = tt;
      cell_is = refl;
      condition = small;
      children_inside =
          (subst (InFrame frame) e child, tt);
      upload_from = tt;
    }) (ap (λ x. x ∷ []) (sym e))
read_somewhere frame c d whole reader child (by_grow e small) =
    single frame c d (Grow c) (record {
      step = tt;
      cell_is = refl;
      condition =
          (small, reader.cell.3);
      children_inside = (subst (InFrame frame) e child, tt);
      upload_from = tt;
    })
    (ap (λ x. x ∷ []) (sym e))
read_somewhere frame c d whole reader child (by_lower e small) =
    single frame c d (Lower c) (record {
      step = tt;
      cell_is = refl;
      condition = small;
      children_inside =
          (subst (InFrame frame) e child, tt);
      upload_from = tt;
    }) (ap (λ x. x ∷ []) (sym e))
read_somewhere frame c d whole reader child (by_product split blocks sets other_sets other_blocks) =
    read_by_product frame c d reader child split blocks sets other_sets other_blocks
read_somewhere frame c d whole reader child (by_induced e more room size) =
    subst (ReadSomewhere frame c) (sym e) (read_by_induced frame c d.v reader whole more room size)
