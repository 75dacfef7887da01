-- A line has one form at most, and says one thing.
use Rattle.std.proofs.Common.{◌≡◌, ℕ, suc, ◌<◌, false, List, [], ◌∷◌, ◌++◌, Some}
use Rattle.std.proofs.Common.{length, get_or, arith, refl, sym, ap, ◌∙◌, subst}
use Rattle.std.proofs.lemmas.Bool.{both_ways}
use Rattle.std.proofs.lemmas.Slice.Eq.{bytes_eq-Decides}
use Rattle.std.specs.List.{AllZip}
use Rattle.std.specs.Str.{bytes_eq}
use Rattle.lj_base.specs.Cells.{Triple}
use Rattle.lj_base.specs.Frames.{Top}
use Rattle.lj_cover.specs.Rules.{Upload}
use Rattle.lj_text.specs.Numbers.{number_of}
use Rattle.lj_cert.proofs.Colons.{no_colon}
use Rattle.lj_cert.specs.LineForms.{AreFields, AreInducedFields, AreNumbers, AreProductFields, BeginsWith, IsBoundLine}
use Rattle.lj_cert.specs.LineForms.{IsChildField, IsFrameLine, IsHead, IsJoined, IsNodeLine, IsPartField, IsUploadLine}
use Rattle.lj_cert.specs.LineForms.{NamesUpload, kind_word, rule_kind}
use Rattle.lj_cert.specs.declared.certs.CertBound.{CertBound}
use Rattle.lj_cert.specs.declared.certs.CertChild.{CertChild}
use Rattle.lj_cert.specs.declared.certs.CertNode.{CertNode}
use Rattle.lj_cert.specs.declared.certs.CertPart.{CertPart}
use Rattle.lj_cert.specs.declared.certs.CertRule.{CertRule}
use Rattle.lj_cert.specs.declared.certs.CertRule.TheVariants.{One, Runs, All, Leaf, Derived, Derived2, Drop, Add}
use Rattle.lj_cert.specs.declared.certs.CertRule.TheVariants.{Grow, Lower, Product, Induced}
use Rattle.lj_cert.specs.declared.kinds.Kind.{Kind}
use Rattle.lj_cert.specs.declared.kinds.Kind.TheVariants.{One as OneKind, Runs as RunsKind, All as AllKind}
use Rattle.lj_cert.specs.declared.kinds.Kind.TheVariants.{Leaf as LeafKind, Derived as DerivedKind}
use Rattle.lj_cert.specs.declared.kinds.Kind.TheVariants.{Derived2 as Derived2Kind, Drop as DropKind, Add as AddKind}
use Rattle.lj_cert.specs.declared.kinds.Kind.TheVariants.{Grow as GrowKind, Lower as LowerKind}
use Rattle.lj_cert.specs.declared.kinds.Kind.TheVariants.{Product as ProductKind, Induced as InducedKind}

-- ---- numbers

pub same_numbers : (ws : List (List ℕ)) (ns ms : List ℕ) → AreNumbers ws ns → AreNumbers ws ms → ns ≡ ms
same_numbers [] [] [] h k = refl
same_numbers [] [] (m ∷ ms) h k = absurd k
same_numbers [] (n ∷ ns) ms h k = absurd h
same_numbers (w ∷ ws) [] ms h k = absurd h
same_numbers (w ∷ ws) (n ∷ ns) [] h k = absurd k
same_numbers (w ∷ ws) (n ∷ ns) (m ∷ ms) h k =
    let head : n ≡ m = cc (h.0, k.0) in
    let tail = same_numbers ws ns ms h.1 k.1 in
    cc (head, tail)

-- ---- fields of numbers with colons

abbrev NoColon : List ℕ → Type 0
NoColon xs = (i : ℕ) → i < length xs → get_or xs i 0 ≡ 58 → ⊥

NoColon-tail : (x : ℕ) (xs : List ℕ) → NoColon (x ∷ xs) → NoColon xs
NoColon-tail x xs h = λ i inside at. h (suc i) (omega arith) at

same_cut : (p q r s : List ℕ) → p ++ 58 ∷ r ≡ q ++ 58 ∷ s → NoColon p → NoColon q → (p ≡ q) × (r ≡ s)
same_cut [] [] r s h none other = let rest : r ≡ s = cc h in (refl, rest)
same_cut [] (y ∷ ys) r s h none other =
    let head : y ≡ 58 = cc h in
    absurd (other 0 (omega arith) head)
same_cut (x ∷ xs) [] r s h none other =
    let head : x ≡ 58 = cc h in
    absurd (none 0 (omega arith) head)
same_cut (x ∷ xs) (y ∷ ys) r s h none other =
    let head : x ≡ y = cc h in
    let tail : xs ++ 58 ∷ r ≡ ys ++ 58 ∷ s = cc h in
    let ih = same_cut xs ys r s tail (NoColon-tail x xs none) (NoColon-tail y ys other) in
    let front : x ∷ xs ≡ y ∷ ys = cc (head, ih.0) in
    (front, ih.1)

pub same_pieces : (field p q r s : List ℕ) (n m : ℕ) → field ≡ p ++ 58 ∷ r → field ≡ q ++ 58 ∷ s
    → number_of p ≡ Some n → number_of q ≡ Some m → (p ≡ q) × (r ≡ s)
same_pieces field p q r s n m h k number other =
    same_cut p q r s (sym h ∙ k) (λ i. no_colon p n i number) (λ i. no_colon q m i other)

pub same_start : (field : List ℕ) (n m : ℕ) (r s : List ℕ) → BeginsWith field n r → BeginsWith field m s
    → (n ≡ m) × (r ≡ s)
same_start field n m r s h k =
    let cut = same_pieces field h.piece k.piece r s n m h.field_is k.field_is h.number_is k.number_is in
    let number : n ≡ m = cc (h.number_is, k.number_is, ap number_of cut.0) in
    (number, cut.1)

pub same_joined : (field : List ℕ) (ns ms : List ℕ) → length ns ≡ length ms → IsJoined field ns → IsJoined field ms
    → ns ≡ ms
same_joined field [] ms same h k = absurd h
same_joined field (n ∷ ns) [] same h k = absurd k
same_joined field (n ∷ []) (m ∷ []) same h k = let head : n ≡ m = cc (h, k) in cc head
same_joined field (n ∷ []) (m ∷ (b ∷ ms)) same h k = absurd (omega (arith, same))
same_joined field (n ∷ (a ∷ ns)) (m ∷ []) same h k = absurd (omega (arith, same))
same_joined field (n ∷ (a ∷ ns)) (m ∷ (b ∷ ms)) same h k =
    let cut = same_start field n m h.0 k.0 h.1 k.1 in
    let rest : IsJoined h.0 (b ∷ ms) = subst (λ xs. IsJoined xs (b ∷ ms)) (sym cut.1) k.2 in
    let tail = same_joined h.0 (a ∷ ns) (b ∷ ms) (omega (arith, same)) h.2 rest in
    cc (cut.0, tail)

-- the numbers after the first
pub joined_rest : (field : List ℕ) (n m : ℕ) (rest : List ℕ) (k : ℕ) (ns : List ℕ) → BeginsWith field n rest
    → IsJoined field (m ∷ (k ∷ ns)) → IsJoined rest (k ∷ ns)
joined_rest field n m rest k ns h j =
    subst (λ xs. IsJoined xs (k ∷ ns)) (sym (same_start field n m rest j.0 h j.1).1) j.2

pub same_part : (field : List ℕ) (p q : CertPart) → IsPartField field p → IsPartField field q → p ≡ q
same_part field p q h k =
    let same = same_joined field (p.a ∷ p.b ∷ p.l ∷ p.first ∷ p.second ∷ [])
    (q.a ∷ q.b ∷ q.l ∷ q.first ∷ q.second ∷ []) refl h k in
    let a : p.a ≡ q.a = cc same in
    let b : p.b ≡ q.b = cc same in
    let l : p.l ≡ q.l = cc same in
    let first : p.first ≡ q.first = cc same in
    let second : p.second ≡ q.second = cc same in
    ap (λ n. let part : CertPart = record { a = n; b = p.b; l = p.l; first = p.first; second = p.second } in part) a
    ∙ ap (λ n. let part : CertPart = record { a = q.a; b = n; l = p.l; first = p.first; second = p.second } in part) b
    ∙ ap (λ n. let part : CertPart = record { a = q.a; b = q.b; l = n; first = p.first; second = p.second } in part) l
    ∙ ap (λ n. let part : CertPart = record { a = q.a; b = q.b; l = q.l; first = n; second = p.second } in part) first
    ∙ ap (λ n. let part : CertPart = record { a = q.a; b = q.b; l = q.l; first = q.first; second = n } in part) second

pub same_child : (field : List ℕ) (p q : CertChild) → IsChildField field p → IsChildField field q → p ≡ q
same_child field p q h k =
    let same = same_joined field (p.l ∷ p.child ∷ []) (q.l ∷ q.child ∷ []) refl h k in
    let l : p.l ≡ q.l = cc same in
    let child : p.child ≡ q.child = cc same in
    ap (λ n. let found : CertChild = record { l = n; child = p.child } in found) l
    ∙ ap (λ n. let found : CertChild = record { l = q.l; child = n } in found) child

pub same_each : {A : Type 0} (P : List ℕ → A → Type 0) → ((w : List ℕ) (x y : A) → P w x → P w y → x ≡ y)
    → (ws : List (List ℕ)) (xs ys : List A) → AllZip P ws xs → AllZip P ws ys → xs ≡ ys
same_each P same [] [] [] h k = refl
same_each P same [] [] (y ∷ ys) h k = absurd k
same_each P same [] (x ∷ xs) ys h k = absurd h
same_each P same (w ∷ ws) [] ys h k = absurd h
same_each P same (w ∷ ws) (x ∷ xs) [] h k = absurd k
same_each P same (w ∷ ws) (x ∷ xs) (y ∷ ys) h k =
    let head = same w x y h.0 k.0 in
    let tail = same_each P same ws xs ys h.1 k.1 in
    cc (head, tail)

-- ---- kinds

-- two words that differ are not the same
other_word : (a b : List ℕ) → a ≡ b → bytes_eq a b ≡ false → ⊥
other_word a b same other = both_ways (bytes_eq a b) other ((bytes_eq-Decides a b).1 same)

pub same_kind : (a b : Kind) → kind_word a ≡ kind_word b → a ≡ b
same_kind OneKind OneKind h = refl
same_kind RunsKind RunsKind h = refl
same_kind AllKind AllKind h = refl
same_kind LeafKind LeafKind h = refl
same_kind DerivedKind DerivedKind h = refl
same_kind Derived2Kind Derived2Kind h = refl
same_kind DropKind DropKind h = refl
same_kind AddKind AddKind h = refl
same_kind GrowKind GrowKind h = refl
same_kind LowerKind LowerKind h = refl
same_kind ProductKind ProductKind h = refl
same_kind InducedKind InducedKind h = refl
same_kind a b h = absurd (other_word (kind_word a) (kind_word b) h refl)

-- ---- rules

-- fields that begin with a name begin with no other, and the numbers after it are the same
same_named : (fields : List (List ℕ)) (client other : List ℕ) (ns ms : List ℕ) → NamesUpload fields client ns
    → NamesUpload fields other ms → (client ≡ other) × (ns ≡ ms)
same_named fields client other ns ms h k =
    let name : client ≡ other = cc (h.1, k.1) in
    let rest : h.0 ≡ k.0 = cc (h.1, k.1) in
    (name, same_numbers h.0 ns ms h.3 (subst (λ ws. AreNumbers ws ms) (sym rest) k.3))

same_product : (fields : List (List ℕ)) (v1 w1 : ℕ) (ps qs : List CertPart) → AreProductFields fields v1 ps
    → AreProductFields fields w1 qs → Product v1 ps ≡ Product w1 qs
same_product fields v1 w1 ps qs h k =
    let side : h.side ≡ k.side = cc (h.fields_are, k.fields_are) in
    let rest : h.others ≡ k.others = cc (h.fields_are, k.fields_are) in
    let number : v1 ≡ w1 = cc (h.side_is, k.side_is, ap number_of side) in
    let parts = same_each IsPartField same_part h.others ps qs h.parts_are
    (subst (λ ws. AllZip IsPartField ws qs) (sym rest) k.parts_are) in
    cc (number, parts)

same_induced : (fields : List (List ℕ)) (client other : List ℕ) (o p : ℕ) (cs ds : List CertChild)
    → AreInducedFields fields client o cs → AreInducedFields fields other p ds
    → Induced client o cs ≡ Induced other p ds
same_induced fields client other o p cs ds h k =
    let name : client ≡ other = cc (h.fields_are, k.fields_are) in
    let place : h.place ≡ k.place = cc (h.fields_are, k.fields_are) in
    let rest : h.others ≡ k.others = cc (h.fields_are, k.fields_are) in
    let number : o ≡ p = cc (h.place_is, k.place_is, ap number_of place) in
    let children = same_each IsChildField same_child h.others cs ds h.children_are
    (subst (λ ws. AllZip IsChildField ws ds) (sym rest) k.children_are) in
    cc (name, number, children)

pub same_rule : (fields : List (List ℕ)) (r s : CertRule) → rule_kind r ≡ rule_kind s → AreFields fields r
    → AreFields fields s → r ≡ s
same_rule fields One One same h k = refl
same_rule fields Runs Runs same h k = refl
same_rule fields All All same h k = refl
same_rule fields (Leaf a o) (Leaf b p) same h k =
    let both = same_named fields a b (o ∷ []) (p ∷ []) h k in
    let number : o ≡ p = cc both.1 in
    cc (both.0, number)
same_rule fields (Derived a o x) (Derived b p y) same h k =
    let both = same_named fields a b (o ∷ x ∷ []) (p ∷ y ∷ []) h k in
    let number : o ≡ p = cc both.1 in
    let point : x ≡ y = cc both.1 in
    cc (both.0, number, point)
same_rule fields (Derived2 a o x z) (Derived2 b p y w) same h k =
    let both = same_named fields a b (o ∷ x ∷ z ∷ []) (p ∷ y ∷ w ∷ []) h k in
    let number : o ≡ p = cc both.1 in
    let point : x ≡ y = cc both.1 in
    let other : z ≡ w = cc both.1 in
    cc (both.0, number, point, other)
same_rule fields (Drop i) (Drop j) same h k = let n : i ≡ j = cc (same_numbers fields (i ∷ []) (j ∷ []) h k) in cc n
same_rule fields (Add i) (Add j) same h k = let n : i ≡ j = cc (same_numbers fields (i ∷ []) (j ∷ []) h k) in cc n
same_rule fields (Grow i) (Grow j) same h k = let n : i ≡ j = cc (same_numbers fields (i ∷ []) (j ∷ []) h k) in cc n
same_rule fields (Lower i) (Lower j) same h k = let n : i ≡ j = cc (same_numbers fields (i ∷ []) (j ∷ []) h k) in cc n
same_rule fields (Product v1 ps) (Product w1 qs) same h k = same_product fields v1 w1 ps qs h k
same_rule fields (Induced a o cs) (Induced b p ds) same h k = same_induced fields a b o p cs ds h k
same_rule fields r s same h k = absurd (cc same)

-- a rule of one of these kinds has fields that name an upload
pub leaf_fields : (fields : List (List ℕ)) (r : CertRule) → rule_kind r ≡ LeafKind → AreFields fields r
    → (client : List ℕ) × (o : ℕ) × NamesUpload fields client (o ∷ [])
leaf_fields fields (Leaf client o) same h = (client, o, h)
leaf_fields fields r same h = absurd (cc same)

pub derived_fields : (fields : List (List ℕ)) (r : CertRule) → rule_kind r ≡ DerivedKind → AreFields fields r
    → (client : List ℕ) × (o : ℕ) × (x : ℕ) × NamesUpload fields client (o ∷ x ∷ [])
derived_fields fields (Derived client o x) same h = (client, o, x, h)
derived_fields fields r same h = absurd (cc same)

pub derived2_fields : (fields : List (List ℕ)) (r : CertRule) → rule_kind r ≡ Derived2Kind → AreFields fields r
    → (client : List ℕ) × (o : ℕ) × (x : ℕ) × (y : ℕ) × NamesUpload fields client (o ∷ x ∷ y ∷ [])
derived2_fields fields (Derived2 client o x y) same h = (client, o, x, y, h)
derived2_fields fields r same h = absurd (cc same)

-- ---- lines

same_cell : (c d : Triple) → c.v ≡ d.v → c.k ≡ d.k → c.t ≡ d.t → c ≡ d
same_cell c d v k t =
    ap (λ n. let triple : Triple = record { v = n; k = c.k; t = c.t } in triple) v
    ∙ ap (λ n. let triple : Triple = record { v = d.v; k = n; t = c.t } in triple) k
    ∙ ap (λ n. let triple : Triple = record { v = d.v; k = d.k; t = n } in triple) t

pub same_frame : (text : List ℕ) (f g : Top) → IsFrameLine text f → IsFrameLine text g → f ≡ g
same_frame text f g h k =
    let rest : h.numbers ≡ k.numbers = cc (h.words_are, k.words_are) in
    let same = same_numbers h.numbers (f.top.v ∷ f.top.k ∷ f.top.t ∷ []) (g.top.v ∷ g.top.k ∷ g.top.t ∷ [])
    h.numbers_are (subst (λ ws. AreNumbers ws (g.top.v ∷ g.top.k ∷ g.top.t ∷ [])) (sym rest) k.numbers_are) in
    let v : f.top.v ≡ g.top.v = cc same in
    let top_k : f.top.k ≡ g.top.k = cc same in
    let t : f.top.t ≡ g.top.t = cc same in
    ap (λ c. let top : Top = record { top = c } in top) (same_cell f.top g.top v top_k t)

pub same_upload : (frame : Top) (text : List ℕ) (u w : Upload) → IsUploadLine frame text u → IsUploadLine frame text w
    → u ≡ w
same_upload frame text u w h k =
    let rest : h.numbers ≡ k.numbers = cc (h.words_are, k.words_are) in
    let name : u.client ≡ w.client = cc (h.words_are, k.words_are) in
    let place : h.place ≡ k.place = cc (h.words_are, k.words_are) in
    let same = same_numbers h.numbers (u.cell.v ∷ u.cell.k ∷ u.cell.t ∷ [])
    (w.cell.v ∷ w.cell.k ∷ w.cell.t ∷ []) h.cell.numbers_are
    (subst (λ ws. AreNumbers ws (w.cell.v ∷ w.cell.k ∷ w.cell.t ∷ [])) (sym rest) k.cell.numbers_are) in
    let o : u.ordinal ≡ w.ordinal = cc (h.ordinal_is, k.ordinal_is, ap number_of place) in
    let v : u.cell.v ≡ w.cell.v = cc same in
    let cell_k : u.cell.k ≡ w.cell.k = cc same in
    let t : u.cell.t ≡ w.cell.t = cc same in
    let blocks : u.blocks ≡ w.blocks = h.no_blocks ∙ sym k.no_blocks in
    let cell = same_cell u.cell w.cell v cell_k t in
    ap (λ x. let up : Upload = record { client = x; ordinal = u.ordinal; cell = u.cell; blocks = u.blocks } in up) name
    ∙ ap (λ x. let up : Upload = record { client = w.client; ordinal = x; cell = u.cell; blocks = u.blocks } in up) o
    ∙ ap (λ x. let up : Upload = record { client = w.client; ordinal = w.ordinal; cell = x; blocks = u.blocks } in up)
    cell
    ∙ ap (λ x. let up : Upload = record { client = w.client; ordinal = w.ordinal; cell = w.cell; blocks = x } in up)
    blocks

same_heads : (number : ℕ) (ws : List (List ℕ)) (a b : List ℕ) (c d : Triple) (m n : ℕ) (fs gs : List (List ℕ))
    → IsHead number ws a c m fs → IsHead number ws b d n gs → (a ≡ b) × (c ≡ d) × (m ≡ n) × (fs ≡ gs)
same_heads number ws a b c d m n fs gs h k =
    let word : a ≡ b = cc (h.words_are, k.words_are) in
    let v : h.v ≡ k.v = cc (h.words_are, k.words_are) in
    let head_k : h.k ≡ k.k = cc (h.words_are, k.words_are) in
    let t : h.t ≡ k.t = cc (h.words_are, k.words_are) in
    let last : h.last ≡ k.last = cc (h.words_are, k.words_are) in
    let rest : fs ≡ gs = cc (h.words_are, k.words_are) in
    let v_is : c.v ≡ d.v = cc (h.v_is, k.v_is, ap number_of v) in
    let k_is : c.k ≡ d.k = cc (h.k_is, k.k_is, ap number_of head_k) in
    let t_is : c.t ≡ d.t = cc (h.t_is, k.t_is, ap number_of t) in
    let cost : m ≡ n = cc (h.cost_is, k.cost_is, ap number_of last) in
    (word, same_cell c d v_is k_is t_is, cost, rest)

pub same_node : (number : ℕ) (text : List ℕ) (m n : CertNode) → IsNodeLine number text m → IsNodeLine number text n
    → m ≡ n
same_node number text m n h k =
    let heads = same_heads number _ h.word k.word m.cell n.cell m.cost n.cost h.fields k.fields h.head k.head in
    let kind = same_kind (rule_kind m.rule) (rule_kind n.rule) (sym h.rule_is.0 ∙ heads.0 ∙ k.rule_is.0) in
    let rule = same_rule h.fields m.rule n.rule kind h.rule_is.1
    (subst (λ fs. AreFields fs n.rule) (sym heads.3) k.rule_is.1) in
    ap (λ x. let node : CertNode = record { cell = x; cost = m.cost; rule = m.rule } in node) heads.1
    ∙ ap (λ x. let node : CertNode = record { cell = n.cell; cost = x; rule = m.rule } in node) heads.2
    ∙ ap (λ x. let node : CertNode = record { cell = n.cell; cost = n.cost; rule = x } in node) rule

pub same_bound : (text : List ℕ) (a b : CertBound) → IsBoundLine text a → IsBoundLine text b → a ≡ b
same_bound text a b h k =
    let same = same_numbers _ (a.cell.v ∷ a.cell.k ∷ a.cell.t ∷ a.bound ∷ a.node ∷ [])
    (b.cell.v ∷ b.cell.k ∷ b.cell.t ∷ b.bound ∷ b.node ∷ []) h.numbers_are k.numbers_are in
    let v : a.cell.v ≡ b.cell.v = cc same in
    let cell_k : a.cell.k ≡ b.cell.k = cc same in
    let t : a.cell.t ≡ b.cell.t = cc same in
    let bound : a.bound ≡ b.bound = cc same in
    let node : a.node ≡ b.node = cc same in
    let cell = same_cell a.cell b.cell v cell_k t in
    ap (λ x. let said : CertBound = record { cell = x; bound = a.bound; node = a.node } in said) cell
    ∙ ap (λ x. let said : CertBound = record { cell = b.cell; bound = x; node = a.node } in said) bound
    ∙ ap (λ x. let said : CertBound = record { cell = b.cell; bound = b.bound; node = x } in said) node
