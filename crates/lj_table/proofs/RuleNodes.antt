-- What was found over a ticket, as a rule over the ticket's nodes.
use Rattle.std.proofs.Common.{◌≡◌, ℕ, zero, suc, ◌+◌, ◌-◌, ◌<◌, ◌≤◌, true, List, [], ◌∷◌, length, map, take, eqb}
use Rattle.std.proofs.Common.{get_or}
use Rattle.std.proofs.Common.{refl, sym, ap, ap₂, ◌∙◌, subst, arith, ⊎_elim}
use Rattle.std.proofs.lemmas.Bool.{cond_both, eqb-true, false≢true, or_cases}
use Rattle.std.proofs.lemmas.List.Elements.{All-contains, All-get_or, Contains-get_or}
use Rattle.std.proofs.lemmas.Option.{get_or_from_slice_get, slice_get_within}
use Rattle.std.specs.List.{All as AllOf}
use Rattle.std.specs.List.{AllByRecursion, Contains, filter, flat_map, list_any, range_with_len}
use Rattle.lj_base.specs.Blocks.{AreBlocks}
use Rattle.lj_base.specs.Cells.{IsCell, Triple}
use Rattle.lj_base.specs.Frames.{InFrame, Top}
use Rattle.lj_base.specs.declared.Row.{Row}
use Rattle.lj_base.specs.declared.limits.TheConstants.{COST_LIMIT}
use Rattle.lj_cover.specs.Derivations.{IsSound, root_cells, tree_cost, tree_costs}
use Rattle.lj_cover.specs.Instances.{AreUploads, IsInstance, IsRowOf, cut_counts, price, row_price}
use Rattle.lj_cover.specs.Operations.{cut}
use Rattle.lj_cover.specs.Rules.{Upload, IsCovering, Drop, Add, Grow, Lower, Product, Induced}
use Rattle.lj_cover.specs.Rules.{rule_cell, rule_children, rule_cost, part_cells, triple}
use Rattle.lj_cover.specs.Rules.{Rule as TreeRule, Part as TreePart}
use Rattle.lj_cover.specs.Uses.{ForUpload-weaker}
use Rattle.lj_deriv.specs.declared.rules.Part.{Part}
use Rattle.lj_deriv.specs.declared.rules.Rule.{Rule}
use Rattle.lj_deriv.specs.Nodes.{Nodes, IsShaped, build, children_of, rule_of, sizes_of, trees_at}
use Rattle.lj_deriv.specs.Nodes.{trees_of, upload_at, uploads_of}
use Rattle.lj_induced.specs.Rows.{IsInducedChoice}
use Rattle.lj_induced.specs.declared.choices.InducedChoice.{InducedChoice}
use Rattle.lj_product.specs.Products.{chosen_parts}
use Rattle.lj_product.specs.declared.choices.PartChoice.{PartChoice}
use Rattle.lj_rules.specs.Elementary.{rule_of_kind}
use Rattle.lj_rules.specs.declared.choices.Kind.{Kind}
use Rattle.lj_rules.specs.declared.choices.Kind.TheVariants.{Drop as DropKind, Add as AddKind, Grow as GrowKind}
use Rattle.lj_rules.specs.declared.choices.Kind.TheVariants.{Lower as LowerKind}
use Rattle.lj_table.specs.RulesOver.{IsInducedNode, IsProductNode, IsRuleFor, kind_node, part_node}
use Rattle.lj_table.specs.Tables.{IsNodeOf}
use Rattle.lj_table.proofs.ByCell.{same_cell}

abbrev pub no_row : Row
no_row = record { upload = 0; counts = [] }

abbrev pub Shorter : Type 0
Shorter = (w : ℕ) (b : List ℕ) → length (cut w b) ≤ length b

size_of_some : Shorter → (v m w l : ℕ) (bs : List (List ℕ)) → AreBlocks v m bs
    → list_any (λ b. eqb (length (cut w b)) l) bs ≡ true → l ≤ m
size_of_some short v m w l [] h some = absurd (false≢true some)
size_of_some short v m w l (b ∷ bs) h some =
    ⊎_elim (λ (e : eqb (length (cut w b)) l ≡ true). omega (arith, eqb-true (length (cut w b)) l e, short w b, h.0.1))
    (λ rest. size_of_some short v m w l bs h.1 rest) (or_cases _ _ some)

module _ (a : Nodes) (f : Top) (nodes bounds : Triple → ℕ)
    (has : (c : Triple) → InFrame f c → IsNodeOf a (nodes c) c (bounds c)) where
  cells_at : (cs : List Triple) → AllByRecursion (InFrame f) cs
      → root_cells (trees_at (trees_of a.uploads a.rules) (map nodes cs)) ≡ cs
  cells_at [] h = refl
  cells_at (c ∷ cs) h = ap₂ (λ x xs. x ∷ xs) (has c h.0).cell (cells_at cs h.1)

  costs_at : (cs : List Triple) → AllByRecursion (InFrame f) cs
      → tree_costs (trees_at (trees_of a.uploads a.rules) (map nodes cs)) ≡ map bounds cs
  costs_at [] h = refl
  costs_at (c ∷ cs) h = ap₂ (λ x xs. x ∷ xs) (has c h.0).cost (costs_at cs h.1)

  all_there : (cs : List Triple) → AllByRecursion (InFrame f) cs
      → AllByRecursion (λ i. i < length a.rules) (map nodes cs)
  all_there [] h = tt
  all_there (c ∷ cs) h = ((has c h.0).there, all_there cs h.1)

  -- a stored rule over the nodes of an instance's children
  pub rule_for : (c : Triple) (r : TreeRule) (stored : Rule) (n : ℕ) → InFrame f c
      → AllByRecursion (InFrame f) (rule_children r) → rule_cell r ≡ c → IsSound r
      → rule_of a.uploads (trees_of a.uploads a.rules) stored ≡ r
      → children_of a.uploads stored ≡ map nodes (rule_children r)
      → IsShaped a.uploads stored → AllByRecursion (λ u. u < length a.uploads) (uploads_of stored)
      → price bounds r ≡ n → n < COST_LIMIT → IsRuleFor a c n stored
  rule_for c r stored n inside children cell sound rule kids shaped there priced small =
      let ts = trees_of a.uploads a.rules in
      let cost : tree_cost (build a.uploads (trees_of a.uploads a.rules) stored) ≡ n =
      ap₂ (λ q is. rule_cost q (tree_costs (trees_at (trees_of a.uploads a.rules) is))) rule kids
      ∙ ap (rule_cost r) (costs_at (rule_children r) children) ∙ priced in
      record {
        valid = record {
          shaped = shaped;
          children = subst (AllByRecursion (λ i. i < length a.rules)) (sym kids) (all_there (rule_children r) children);
          uploads_there = there;
          sound = subst IsSound (sym rule) sound;
          fitting =
              ap (λ is. root_cells (trees_at (trees_of a.uploads a.rules) is)) kids
              ∙ cells_at (rule_children r) children ∙ ap rule_children (sym rule);
          small = subst (λ m. m < COST_LIMIT) (sym cost) small;
        };
        cell = ap rule_cell rule ∙ cell;
        cost = cost;
      }

  sound_of : (c : Triple) (r : TreeRule) → InFrame f c → AreUploads f a.uploads → IsInstance f a.uploads c r → IsSound r
  sound_of c r inside covering i = record {
    in_limits = subst IsCell (sym i.cell_is) inside.cell;
    condition = i.condition;
    upload_covers =
        ForUpload-weaker (Contains a.uploads) IsCovering
        (λ u h. (All-contains (λ u. IsCovering u × InFrame f u.cell) a.uploads u covering h).0) r i.upload_from;
  }

  -- the rules of one child
  pub kind_rule : (c child : Triple) (kind : Kind) (n : ℕ) → InFrame f c → IsInstance f [] c (rule_of_kind kind c)
      → rule_children (rule_of_kind kind c) ≡ child ∷ [] → price bounds (rule_of_kind kind c) ≡ n → n < COST_LIMIT
      → IsRuleFor a c n (kind_node kind (nodes child))
  kind_rule c child DropKind n inside i only priced small =
      let e : triple (c.v + 1) c.k c.t ≡ child = cc in
      let root = (has (triple (c.v + 1) c.k c.t) i.children_inside.0).cell in
      let back : c.v + 1 - 1 ≡ c.v = omega arith in
      subst (λ d. IsRuleFor a c n (kind_node DropKind (nodes d))) e
      (rule_for c (Drop c) (kind_node DropKind (nodes (triple (c.v + 1) c.k c.t))) n inside i.children_inside refl
      (record { in_limits = inside.cell; condition = i.condition; upload_covers = tt })
      (ap (λ (d : Triple). Drop (triple (d.v - 1) d.k d.t)) root ∙ ap (λ v. Drop (triple v c.k c.t)) back) refl tt tt
      priced small)
  kind_rule c child AddKind n inside i only priced small =
      let e : triple (c.v - 1) (c.k - 1) c.t ≡ child = cc in
      let root = (has (triple (c.v - 1) (c.k - 1) c.t) i.children_inside.0).cell in
      let v : c.v - 1 + 1 ≡ c.v = omega (arith, inside.cell) in
      let k : c.k - 1 + 1 ≡ c.k = omega (arith, i.condition) in
      subst (λ d. IsRuleFor a c n (kind_node AddKind (nodes d))) e
      (rule_for c (TreeRule-add c) (kind_node AddKind (nodes (triple (c.v - 1) (c.k - 1) c.t))) n inside
      i.children_inside refl (record { in_limits = inside.cell; condition = i.condition; upload_covers = tt })
      (ap (λ (d : Triple). Add (triple (d.v + 1) (d.k + 1) d.t)) root ∙ ap₂ (λ v k. Add (triple v k c.t)) v k) refl tt
      tt priced small)
    where
      TreeRule-add : Triple → TreeRule
      TreeRule-add d = Add d
  kind_rule c child GrowKind n inside i only priced small =
      let e : triple c.v (c.k - 1) c.t ≡ child = cc in
      let root = (has (triple c.v (c.k - 1) c.t) i.children_inside.0).cell in
      let k : c.k - 1 + 1 ≡ c.k = omega (arith, i.condition.0) in
      subst (λ d. IsRuleFor a c n (kind_node GrowKind (nodes d))) e
      (rule_for c (Grow c) (kind_node GrowKind (nodes (triple c.v (c.k - 1) c.t))) n inside i.children_inside refl
      (record { in_limits = inside.cell; condition = i.condition; upload_covers = tt })
      (ap (λ (d : Triple). Grow (triple d.v (d.k + 1) d.t)) root ∙ ap (λ k. Grow (triple c.v k c.t)) k) refl tt tt
      priced small)
  kind_rule c child LowerKind n inside i only priced small =
      let e : triple c.v c.k (c.t + 1) ≡ child = cc in
      let root = (has (triple c.v c.k (c.t + 1)) i.children_inside.0).cell in
      let t : c.t + 1 - 1 ≡ c.t = omega arith in
      subst (λ d. IsRuleFor a c n (kind_node LowerKind (nodes d))) e
      (rule_for c (Lower c) (kind_node LowerKind (nodes (triple c.v c.k (c.t + 1)))) n inside i.children_inside refl
      (record { in_limits = inside.cell; condition = i.condition; upload_covers = tt })
      (ap (λ (d : Triple). Lower (triple d.v d.k (d.t - 1))) root ∙ ap (λ t. Lower (triple c.v c.k t)) t) refl tt tt
      priced small)

  -- products
  part_nodes : (c : Triple) (v1 : ℕ) (ps : List PartChoice) → flat_map (λ (p : Part). p.first ∷ p.second ∷ [])
      (map (part_node nodes c v1) ps) ≡ map nodes
      (flat_map (part_cells c v1) (map (λ (p : PartChoice). let q : TreePart = record { a = p.a; b = p.b; l = p.l } in
      q) ps))
  part_nodes c v1 [] = refl
  part_nodes c v1 (p ∷ ps) =
      ap (λ rest. nodes (triple v1 p.l p.b) ∷ nodes (triple (c.v - v1) (c.k - p.l) (c.t - p.a)) ∷ rest)
      (part_nodes c v1 ps)

  part_rules : (c : Triple) (v1 : ℕ) (ps : List PartChoice) → map
      (λ (p : Part). let q : TreePart = record { a = p.a; b = p.b; l = p.l } in q)
      (map (part_node nodes c v1) ps) ≡ map (λ (p : PartChoice). let q : TreePart =
      record { a = p.a; b = p.b; l = p.l } in q) ps
  part_rules c v1 [] = refl
  part_rules c v1 (p ∷ ps) = ap (λ rest. record { a = p.a; b = p.b; l = p.l } ∷ rest) (part_rules c v1 ps)

  pub product_rule : (c : Triple) (v1 : ℕ) (choices : List PartChoice) (count n : ℕ) (stored : Rule) → InFrame f c
      → count ≤ 9 → IsInstance f [] c (Product c v1 (chosen_parts choices count))
      → price bounds (Product c v1 (chosen_parts choices count)) ≡ n → n < COST_LIMIT
      → IsProductNode nodes c v1 choices count stored → IsRuleFor a c n stored
  product_rule c v1 choices count n stored inside few i priced small node =
      subst (IsRuleFor a c n) (sym node.rule)
      (rule_for c (Product c v1 (chosen_parts choices count)) _ n inside i.children_inside refl
      (record { in_limits = inside.cell; condition = i.condition; upload_covers = tt })
      (ap (Product c v1) (ap (map (λ (p : Part). let q : TreePart = record { a = p.a; b = p.b; l = p.l } in q))
      node.are ∙ part_rules c v1 (take count choices)))
      (ap (flat_map (λ (p : Part). p.first ∷ p.second ∷ [])) node.are ∙ part_nodes c v1 (take count choices)) few tt
      priced small)

  -- a size of a cut above k
  size_children : Shorter → (c : Triple) (children : List ℕ) (m v : ℕ) (bs : List (List ℕ)) (lo n : ℕ)
      → AreBlocks v m bs → m ≤ 25 → c.k < lo → lo + n ≤ suc c.v
      → ((l : ℕ) → c.k < l → l ≤ c.v → l < 26 → get_or children l 0 ≡ nodes (triple l c.k c.t))
      → map (λ l. get_or children l 0) (filter (λ l. list_any (λ b. eqb (length (cut c.v b)) l) bs)
      (range_with_len lo n)) ≡ map nodes (map (λ l. triple l c.k c.t)
      (filter (λ l. list_any (λ b. eqb (length (cut c.v b)) l) bs) (range_with_len lo n)))
  size_children short c children m v bs lo zero h small from to are = refl
  size_children short c children m v bs lo (suc n) h small from to are =
      let rest = size_children short c children m v bs (lo + 1) n h small (omega arith) (omega arith) are in
      cond_both (list_any (λ b. eqb (length (cut c.v b)) lo) bs) _ _
      (λ ls. map (λ l. get_or children l 0) ls ≡ map nodes (map (λ l. triple l c.k c.t) ls))
      (λ some. let most = size_of_some short v m c.v lo bs h some in ap₂ (λ x xs. x ∷ xs)
      (are lo from (omega arith) (omega arith)) rest)
      (λ none. rest)

  pub induced_rule : Shorter → ((f : Top) (us : List Upload) (c : Triple) (u : Upload) → InFrame f c → Contains us u →
      u.cell.t ≡ c.t → c.v ≤ u.cell.v → IsInstance f us c (Induced u c.v c.k)) → (c : Triple) (u n : ℕ) (stored : Rule)
      → InFrame f c → AreUploads f a.uploads → u < length a.uploads → (upload_at a.uploads u).cell.t ≡ c.t → c.v ≤
      (upload_at a.uploads u).cell.v
      → price bounds (Induced (upload_at a.uploads u) c.v c.k) ≡ n → n < COST_LIMIT → IsInducedNode nodes c u stored
      → IsRuleFor a c n stored
  induced_rule short instances c u n stored inside covering there t v priced small node =
      let up = upload_at a.uploads u in
      let has_up : Contains a.uploads (upload_at a.uploads u) = Contains-get_or a.uploads u _ there in
      let facts =
      All-contains (λ u. IsCovering u × InFrame f u.cell) a.uploads (upload_at a.uploads u) covering has_up in
      let i = instances f a.uploads c (upload_at a.uploads u) inside has_up t v in
      let kids = size_children short c node.children (upload_at a.uploads u).cell.k (upload_at a.uploads u).cell.v
      (upload_at a.uploads u).blocks (suc c.k) (c.v - c.k) facts.0.covers.blocks facts.0.in_limits.4 (omega arith)
      (omega (arith, inside.cell.3)) node.are in
      subst (IsRuleFor a c n) (sym node.rule)
      (rule_for c (Induced (upload_at a.uploads u) c.v c.k) _ n inside i.children_inside i.cell_is
      (sound_of c (Induced (upload_at a.uploads u) c.v c.k) inside covering i)
      refl (kids ∙ ap (λ t. map nodes (map (λ l. triple l c.k t) (sizes_of (upload_at a.uploads u) c.k c.v))) (sym t))
      (sym t) (there, tt) priced small)

  -- a row of one of the uploads
  pub row_rule : Shorter → ((f : Top) (us : List Upload) (c : Triple) (u : Upload) → InFrame f c → Contains us u
      → u.cell.t ≡ c.t → c.v ≤ u.cell.v → IsInstance f us c (Induced u c.v c.k))
      → ((bounds : Triple → ℕ) (u : Upload) (w k : ℕ) → u.cell.k ≤ 25 → AreBlocks u.cell.v u.cell.k u.blocks
      → price bounds (Induced u w k) ≡ row_price bounds (triple w k u.cell.t) (cut_counts w u.blocks))
      → (c : Triple) (rows : List Row) (choice : InducedChoice) (stored : Rule) → InFrame f c → f ≡ a.frame
      → AreUploads a.frame a.uploads → AllOf (IsRowOf a.uploads c) rows → IsInducedChoice bounds c rows choice
      → choice.cost < COST_LIMIT → IsInducedNode nodes c (get_or rows choice.place no_row).upload stored
      → IsRuleFor a c choice.cost stored
  row_rule short instances priced c rows choice stored inside frame covering all chosen small node =
      let row : Row = get_or rows choice.place no_row in
      let is : IsRowOf a.uploads c (get_or rows choice.place no_row) =
      All-get_or (IsRowOf a.uploads c) rows choice.place no_row chosen.place all in
      let at : upload_at a.uploads row.upload ≡ is.held =
      get_or_from_slice_get a.uploads row.upload is.held _ is.at_place in
      let there = slice_get_within a.uploads row.upload is.held is.at_place in
      let frames : AreUploads f a.uploads = subst (λ g. AreUploads g a.uploads) (sym frame) covering in
      let u = upload_at a.uploads (get_or rows choice.place no_row).upload in
      let facts = All-contains (λ u. IsCovering u × InFrame f u.cell) a.uploads (upload_at a.uploads row.upload) frames
      (Contains-get_or a.uploads row.upload _ there) in
      let t : (upload_at a.uploads (get_or rows choice.place no_row).upload).cell.t ≡ c.t =
      ap (λ (w : Upload). w.cell.t) at ∙ is.t in
      let v : c.v ≤ (upload_at a.uploads (get_or rows choice.place no_row).upload).cell.v =
      subst (λ (w : Upload). c.v ≤ w.cell.v) (sym at) is.v in
      let counts : cut_counts c.v (upload_at a.uploads (get_or rows choice.place no_row).upload).blocks ≡
      (get_or rows choice.place no_row).counts =
      ap (λ (w : Upload). cut_counts c.v w.blocks) at ∙ sym is.counts_are in
      let cost : price bounds (Induced (upload_at a.uploads (get_or rows choice.place no_row).upload) c.v c.k) ≡
      choice.cost =
      priced bounds (upload_at a.uploads row.upload) c.v c.k facts.0.in_limits.4 facts.0.covers.blocks
      ∙ ap₂ (λ d ns. row_price bounds d ns) (same_cell (triple c.v c.k u.cell.t) c refl refl t) counts
      ∙ chosen.cost_is no_row in
      induced_rule short instances c
      (get_or rows choice.place no_row).upload choice.cost stored inside frames there t v cost small node
