-- The lines of a certificate that is written: they read back, and say what they were made from.
use Rattle.std.proofs.Common.{◌≡◌, ℕ, zero, suc, ◌+◌, ◌-◌, ◌^◌, ◌<◌, ◌≤◌, Bool, true, false, eqb, List, [], ◌∷◌, Some}
use Rattle.std.proofs.Common.{codes, decimal, length, map, slice_index, take, refl, sym, subst, arith, ⊎_elim}
use Rattle.std.proofs.lemmas.Bool.{cases_Bool, or_from, or_parts}
use Rattle.std.proofs.lemmas.Map.Views.{exact_unsigned_eq}
use Rattle.std.specs.List.{AllByRecursion, AllZip, filter, flat_map, list_any, range_with_len}
use Rattle.lj_base.proofs.Lists.{AllByRecursion-at, AllByRecursion-map, AllByRecursion-weaker}
use Rattle.lj_base.specs.Blocks.{IsBlock}
use Rattle.lj_base.specs.Cells.{IsCell, Triple}
use Rattle.lj_base.specs.Frames.{Top}
use Rattle.lj_blockfile.specs.BlockLines.{IsBlockLine, block_line}
use Rattle.lj_cover.specs.Derivations.{IsDerivation, IsSound, Tree, node, root_cell, tree_cost}
use Rattle.lj_cover.specs.Rules.{Chain, Part, PartFits, Upload}
use Rattle.lj_text.specs.Lines.{IsPlain, is_blank, line_text, text_lines, with_feeds}
use Rattle.lj_text.specs.Numbers.{number_of}
use Rattle.lj_text.specs.Tokens.{ArePlainWords, IsPlainWord, is_separator, join_by_space, words_of}
use Rattle.lj_text.specs.Tokens.{IsWord as IsTokenWord}
use Rattle.lj_upload.specs.Names.{IsName, is_name_byte}
use Rattle.lj_upload.specs.Uploads.{IsAccepted}
use Rattle.lj_deriv.specs.Forests.{ForestValue, forest_tree}
use Rattle.lj_deriv.specs.Nodes.{IsDerivedIn}
use Rattle.lj_deriv.specs.Texts.{join_by_colon, node_words, part_field, rule_fields, rule_word}
use Rattle.lj_deriv.specs.Trees.{children_of, rule_at, rule_of, sizes_of, upload_at, uploads_of}
use Rattle.lj_deriv.specs.Validity.{AreValid}
use Rattle.lj_deriv.specs.declared.limits.TheConstants.{MAX_NODES}
use Rattle.lj_deriv.specs.declared.rules.Part.{Part as StoredPart}
use Rattle.lj_deriv.specs.declared.rules.Rule.{Rule}
use Rattle.lj_deriv.specs.declared.rules.Rule.TheVariants.{One, Runs, All, Leaf, Derived, Derived2, Drop, Add, Grow}
use Rattle.lj_deriv.specs.declared.rules.Rule.TheVariants.{Lower, Product, Induced}
use Rattle.lj_cert.specs.LineForms.{AreFields, AreNumbers, IsBoundLine, IsChildField, IsFrameLine, IsJoined, IsNodeLine}
use Rattle.lj_cert.specs.LineForms.{IsPartField, IsUploadLine, IsWord, NamesUpload, kind_word, rule_kind}
use Rattle.lj_cert.specs.Texts.{IsHeldIn, cell_numbers, cert_child, cert_node, cert_part}
use Rattle.lj_cert.specs.Texts.{cert_rule, frame_line, upload_line}

-- what is known of words, numbers, lines and blocks in text
pub record TextLaws : Type 0 where
  pub plain_lines : (lines : List (List ℕ)) → AllByRecursion IsPlain lines
      → (let bytes = with_feeds lines in map (line_text bytes) (text_lines bytes) ≡ lines)
  pub plain_line : (ws : List (List ℕ)) → ArePlainWords ws → IsPlain (join_by_space ws)
  pub joined_words : (ws : List (List ℕ)) → AllByRecursion IsTokenWord ws → words_of (join_by_space ws) ≡ ws
  pub plain_number : (n : ℕ) → n < 2 ^ 64 → IsPlainWord (decimal n)
  pub number : (n : ℕ) → n < 10 ^ 18 → number_of (decimal n) ≡ Some n
  pub plain_block : (v k : ℕ) (b : List ℕ) → 1 ≤ k → v ≤ 99 → IsBlock v k b → IsPlain (block_line b)
  pub block : (v k : ℕ) (b : List ℕ) → v ≤ 99 → IsBlock v k b → IsBlockLine (block_line b) v k b

-- ---- words

not_blank : (word : List ℕ) → list_any is_separator word ≡ false → AllByRecursion (λ byte. is_blank byte ≡ false) word
not_blank [] h = tt
not_blank (b ∷ bs) h = let parts = or_parts _ _ h in ((or_parts _ _ parts.0).0, not_blank bs parts.1)

said : TextLaws → (ws : List (List ℕ)) → AllByRecursion IsPlainWord ws → words_of (join_by_space ws) ≡ ws
said laws ws h =
    laws.joined_words ws
    (AllByRecursion-weaker IsPlainWord IsTokenWord ws (λ w plain. (plain.0, not_blank w plain.1)) h)

-- the line is the one word
pub word-said : TextLaws → (word : List ℕ) → IsPlainWord word → IsWord word word
word-said laws word plain = said laws (word ∷ []) (plain, tt)

pub word-plain : TextLaws → (word : List ℕ) → IsPlainWord word → IsPlain word
word-plain laws word plain = laws.plain_line (word ∷ []) (omega arith, (plain, tt))

is_false : (b : Bool) → (b ≡ true → ⊥) → b ≡ false
is_false true h = absurd (h refl)
is_false false h = refl

both : (b : Bool) → b ≡ true → b ≡ false → ⊥
both true h k = cc
both false h k = cc

other_byte : (b c : ℕ) → is_name_byte b ≡ true → is_name_byte c ≡ false → eqb b c ≡ false
other_byte b c h none = is_false (eqb b c) (λ e. both (is_name_byte c)
    (subst (λ x. is_name_byte x ≡ true) (exact_unsigned_eq b c e) h) none)

free_byte : (b : ℕ) → is_name_byte b ≡ true → is_separator b ≡ false
free_byte b h =
    or_from _ _ (or_from _ _ (other_byte b 32 h refl) (other_byte b 9 h refl))
    (or_from _ _ (other_byte b 10 h refl) (other_byte b 13 h refl))

free_bytes : (bytes : List ℕ) → AllByRecursion (λ b. is_name_byte b ≡ true) bytes
    → list_any is_separator bytes ≡ false
free_bytes [] h = refl
free_bytes (b ∷ bs) h = or_from _ _ (free_byte b h.0) (free_bytes bs h.1)

name-plain : (name : List ℕ) → IsName name → IsPlainWord name
name-plain name h = (h.some, free_bytes name h.allowed)

-- ---- numbers

abbrev pub IsSmall : ℕ → Type 0
IsSmall n = n < 10 ^ 18

pub number-plain : TextLaws → (n : ℕ) → IsSmall n → IsPlainWord (decimal n)
number-plain laws n small = laws.plain_number n (omega (arith, small))

pub numbers-plain : TextLaws → (ns : List ℕ) → AllByRecursion IsSmall ns → AllByRecursion IsPlainWord (map decimal ns)
numbers-plain laws ns h = AllByRecursion-map IsSmall IsPlainWord decimal ns (number-plain laws) h

numbers-said : TextLaws → (ns : List ℕ) → AllByRecursion IsSmall ns → AreNumbers (map decimal ns) ns
numbers-said laws [] h = tt
numbers-said laws (n ∷ ns) h = (laws.number n h.0, numbers-said laws ns h.1)

joined-said : TextLaws → (ns : List ℕ) → 1 ≤ length ns → AllByRecursion IsSmall ns → IsJoined (join_by_colon ns) ns
joined-said laws [] some h = absurd (omega (arith, some))
joined-said laws (n ∷ []) some h = laws.number n h.0
joined-said laws (n ∷ (m ∷ ns)) some h = (
  join_by_colon (m ∷ ns),
  record { piece = decimal n; field_is = refl; number_is = laws.number n h.0 },
  joined-said laws (m ∷ ns) (omega arith) h.1,
)

cell-small : (c : Triple) → IsCell c → AllByRecursion IsSmall (cell_numbers c)
cell-small c cell = (omega (arith, cell), (omega (arith, cell), (omega (arith, cell), tt)))

-- ---- the frame's line

abbrev cert_plain : IsPlainWord (codes "cert")
cert_plain = (omega arith, refl)

pub frame-plain : TextLaws → (frame : Top) → IsCell frame.top → IsPlain (frame_line frame)
frame-plain laws frame cell =
    laws.plain_line (codes "cert" ∷ map decimal (cell_numbers frame.top))
    (omega arith, (cert_plain, numbers-plain laws (cell_numbers frame.top) (cell-small frame.top cell)))

pub frame-said : TextLaws → (frame : Top) → IsCell frame.top → 1 ≤ frame.top.k → IsFrameLine (frame_line frame) frame
frame-said laws frame cell some =
    let ns = cell_numbers frame.top in
    let small = cell-small frame.top cell in
    record {
      numbers = map decimal ns;
      words_are = said laws (codes "cert" ∷ map decimal ns) (cert_plain, numbers-plain laws ns small);
      numbers_are = numbers-said laws ns small;
      in_limits = cell;
      some = some;
    }

-- ---- an upload's line

-- the upload is one that a certificate of the frame may hold, and its client has a name
abbrev pub IsOffered : Top → Upload → Type 0
IsOffered frame u = IsHeldIn frame u × IsAccepted u

upload_plain : IsPlainWord (codes "upload")
upload_plain = (omega arith, refl)

upload-words : TextLaws → (frame : Top) (u : Upload) → IsOffered frame u
    → AllByRecursion IsPlainWord (codes "upload" ∷ u.client ∷ map decimal (u.ordinal ∷ cell_numbers u.cell))
upload-words laws frame u h = (
  upload_plain,
  (
    name-plain u.client h.1.client,
    numbers-plain laws (u.ordinal ∷ cell_numbers u.cell) (h.0.short, cell-small u.cell h.0.inside.cell),
  ),
)

pub upload-plain : TextLaws → (frame : Top) (u : Upload) → IsOffered frame u → IsPlain (upload_line u)
upload-plain laws frame u h =
    laws.plain_line (codes "upload" ∷ u.client ∷ map decimal (u.ordinal ∷ cell_numbers u.cell))
    (omega arith, upload-words laws frame u h)

-- the upload with these blocks
abbrev pub holding : Upload → List (List ℕ) → Upload
holding u bs = record u { blocks = bs }

pub upload-said : TextLaws → (frame : Top) (u : Upload) → IsOffered frame u
    → IsUploadLine frame (upload_line u) (holding u [])
upload-said laws frame u h =
    record {
      place = decimal u.ordinal;
      numbers = map decimal (cell_numbers u.cell);
      words_are = said laws (codes "upload" ∷ u.client ∷ map decimal (u.ordinal ∷ cell_numbers u.cell))
          (upload-words laws frame u h);
      is_name = h.1.client;
      ordinal_is = laws.number u.ordinal h.0.short;
      first = h.0.first;
      cell = record {
        numbers_are = numbers-said laws (cell_numbers u.cell) (cell-small u.cell h.0.inside.cell);
        inside = h.0.inside;
        some = h.0.points;
      };
      no_blocks = refl;
    }

-- ---- a bound's line

-- the numbers of a bound's line are such as lines can have
pub record IsSmallBound (c : Triple) (bound root : ℕ) : Type 0 where
  pub cell : IsCell c
  pub bound_small : IsSmall bound
  pub node_small : IsSmall (suc root)

bound-words : (c : Triple) (bound root : ℕ) → IsSmallBound c bound root
    → AllByRecursion IsSmall (c.v ∷ c.k ∷ c.t ∷ bound ∷ suc root ∷ [])
bound-words c bound root h =
    let small = cell-small c h.cell in
    (small.0, (small.1.0, (small.1.1.0, (h.bound_small, (h.node_small, tt)))))

abbrev pub bound_text : Triple → ℕ → ℕ → List ℕ
bound_text c bound root = join_by_space (map decimal (c.v ∷ c.k ∷ c.t ∷ bound ∷ suc root ∷ []))

pub bound-plain : TextLaws → (c : Triple) (bound root : ℕ) → IsSmallBound c bound root
    → IsPlain (bound_text c bound root)
bound-plain laws c bound root h =
    let ns = c.v ∷ c.k ∷ c.t ∷ bound ∷ suc root ∷ [] in
    laws.plain_line (map decimal ns) (omega arith, numbers-plain laws ns (bound-words c bound root h))

pub bound-said : TextLaws → (c : Triple) (bound root : ℕ) → IsSmallBound c bound root
    → IsBoundLine (bound_text c bound root) (record { cell = c; bound = bound; node = suc root })
bound-said laws c bound root h =
    let ns = c.v ∷ c.k ∷ c.t ∷ bound ∷ suc root ∷ [] in
    let small = bound-words c bound root h in
    record {
      numbers_are = subst (λ ws. AreNumbers ws ns) (sym (said laws (map decimal ns) (numbers-plain laws ns small)))
          (numbers-said laws ns small);
      in_limits = h.cell;
    }

-- ---- what a node's line says after the cost

-- the uploads that rules name have names, and ordinals of at most 18 digits
abbrev pub AreCited : List Upload → Type 0
AreCited us = AllByRecursion (λ (u : Upload). IsName u.client × IsSmall u.ordinal) us

cited_at : (us : List Upload) (u : ℕ) → AreCited us → u < length us
    → IsName (upload_at us u).client × IsSmall (upload_at us u).ordinal
cited_at us u h there =
    AllByRecursion-at (λ (w : Upload). IsName w.client × IsSmall w.ordinal) _ us u there h

named-said : TextLaws → (u : Upload) (ns : List ℕ) → IsName u.client × IsSmall u.ordinal → AllByRecursion IsSmall ns
    → NamesUpload (u.client ∷ decimal u.ordinal ∷ map decimal ns) u.client (u.ordinal ∷ ns)
named-said laws u ns h small =
    (decimal u.ordinal ∷ map decimal ns, refl, h.0, numbers-said laws (u.ordinal ∷ ns) (h.1, small))

abbrev sides : List StoredPart → List Part
sides parts = map (λ (p : StoredPart). let q : Part = record { a = p.a; b = p.b; l = p.l } in q) parts

parts-said : TextLaws → (c : Triple) (v1 lo hi n : ℕ) (ps : List StoredPart) → v1 ≤ 99 → n ≤ MAX_NODES
    → Chain lo hi (sides ps) → AllByRecursion (PartFits c v1) (sides ps)
    → AllByRecursion (λ j. j < n) (flat_map (λ (p : StoredPart). p.first ∷ p.second ∷ []) ps)
    → AllZip IsPartField (map part_field ps) (map cert_part ps)
parts-said laws c v1 lo hi n [] few most chain fits there = tt
parts-said laws c v1 lo hi n (p ∷ ps) few most chain fits there =
    let sets = fits.0.first_sets in
    let blocks = fits.0.first_blocks in
    let order = chain.1 in
    let l : IsSmall p.l = omega (arith, blocks, few) in
    let b : IsSmall p.b = omega (arith, blocks, few, sets) in
    let a : IsSmall p.a = omega (arith, blocks, few, sets, order) in
    let first : IsSmall (suc p.first) = omega (arith, most, there.0) in
    let second : IsSmall (suc p.second) = omega (arith, most, there.1.0) in (
      joined-said laws (p.a ∷ p.b ∷ p.l ∷ suc p.first ∷ suc p.second ∷ []) (omega arith)
          (a, (b, (l, (first, (second, tt))))),
      parts-said laws c v1 (p.b + 1) hi n ps few most chain.2 fits.1 there.1.1,
    )

-- a chain of numbers, of which there are some, has parts
some_part : (lo hi : ℕ) (ps : List StoredPart) → lo ≤ hi → Chain lo hi (sides ps) → 1 ≤ length (map cert_part ps)
some_part lo hi [] some chain = absurd (omega (arith, some, chain))
some_part lo hi (p ∷ ps) some chain = omega arith

below : (p : ℕ → Bool) (a n top : ℕ) → a + n ≤ top → AllByRecursion (λ l. l < top) (filter p (range_with_len a n))
below p a zero top fits = tt
below p a (suc n) top fits =
    let rest = below p (a + 1) n top (omega arith) in
    ⊎_elim (λ (h : p a ≡ true). rw h (omega arith, rest)) (λ (h : p a ≡ false). rw h rest) (cases_Bool (p a))

cuts-said : TextLaws → (n : ℕ) (children sizes : List ℕ) → n ≤ MAX_NODES → AllByRecursion (λ l. l < 200) sizes
    → AllByRecursion (λ j. j < n) (map (λ l. slice_index children l) sizes)
    → AllZip IsChildField (map (λ l. join_by_colon (l ∷ suc (slice_index children l) ∷ [])) sizes)
    (map (cert_child children) sizes)
cuts-said laws n children [] most low there = tt
cuts-said laws n children (l ∷ ls) most low there =
    let size : IsSmall l = omega (arith, low.0) in
    let child : IsSmall (suc (slice_index children l)) = omega (arith, most, there.0) in (
      joined-said laws (l ∷ suc (slice_index children l) ∷ []) (omega arith) (size, (child, tt)),
      cuts-said laws n children ls most low.1 there.1,
    )

child-said : TextLaws → (n i : ℕ) → n ≤ MAX_NODES → i < n → AreNumbers (decimal (suc i) ∷ []) (suc i ∷ [])
child-said laws n i most there =
    let small : IsSmall (suc i) = omega (arith, most, there) in
    (laws.number (suc i) small, tt)

fields-said : TextLaws → (us : List Upload) (ts : List Tree) (r : Rule) (n : ℕ) → n ≤ MAX_NODES → AreCited us
    → IsSound (rule_of us ts r) → AllByRecursion (λ j. j < n) (children_of us r)
    → AllByRecursion (λ u. u < length us) (uploads_of r) → AreFields (rule_fields us r) (cert_rule us r)
fields-said laws us ts (One c) n most cited sound there held = refl
fields-said laws us ts (Runs c) n most cited sound there held = refl
fields-said laws us ts (All c) n most cited sound there held = refl
fields-said laws us ts (Leaf u) n most cited sound there held =
    named-said laws (upload_at us u) [] (cited_at us u cited held.0) tt
fields-said laws us ts (Derived u x) n most cited sound there held =
    let few = sound.upload_covers.in_limits.1 in
    let low = sound.condition.2 in
    let point : IsSmall (suc x) = omega (arith, few, low) in
    named-said laws (upload_at us u) (suc x ∷ []) (cited_at us u cited held.0) (point, tt)
fields-said laws us ts (Derived2 u x y) n most cited sound there held =
    let few = sound.upload_covers.in_limits.1 in
    let order = sound.condition.2 in
    let low = sound.condition.3 in
    let first : IsSmall (suc x) = omega (arith, few, low, order) in
    let second : IsSmall (suc y) = omega (arith, few, low) in
    named-said laws (upload_at us u) (suc x ∷ suc y ∷ []) (cited_at us u cited held.0) (first, (second, tt))
fields-said laws us ts (Drop i) n most cited sound there held = child-said laws n i most there.0
fields-said laws us ts (Add i) n most cited sound there held = child-said laws n i most there.0
fields-said laws us ts (Grow i) n most cited sound there held = child-said laws n i most there.0
fields-said laws us ts (Lower i) n most cited sound there held = child-said laws n i most there.0
fields-said laws us ts (Product c v1 parts count) n most cited sound there held =
    let few = sound.in_limits.1 in
    let side = sound.condition.second_side in
    let first_side = sound.condition.first_side in
    let fits = sound.in_limits in
    let v1_few : v1 ≤ 99 = omega (arith, few, side) in
    let v1_small : IsSmall v1 = omega (arith, v1_few) in
    record {
      side = decimal v1;
      others = map part_field (take count parts);
      fields_are = refl;
      side_is = laws.number v1 v1_small;
      parts_are = parts-said laws c v1 _ _ n (take count parts) v1_few most sound.condition.chain sound.condition.fits
          there;
      some = some_part _ _ (take count parts) (omega (arith, side, first_side, fits)) sound.condition.chain;
    }
fields-said laws us ts (Induced c u children) n most cited sound there held =
    let few = sound.in_limits.1 in
    let wide = sound.condition.1 in
    let upload = upload_at us u in
    let named = cited_at us u cited held.0 in
    record {
      place = decimal upload.ordinal;
      others = map (λ l. join_by_colon (l ∷ suc (slice_index children l) ∷ [])) (sizes_of upload c.k c.v);
      fields_are = refl;
      is_name = named.0;
      place_is = laws.number upload.ordinal named.1;
      children_are = cuts-said laws n children (sizes_of upload c.k c.v) most
          (below _ (suc c.k) (c.v - c.k) 200 (omega (arith, few, wide))) there;
    }

kind-said : (us : List Upload) (r : Rule) → rule_word r ≡ kind_word (rule_kind (cert_rule us r))
kind-said us (One c) = refl
kind-said us (Runs c) = refl
kind-said us (All c) = refl
kind-said us (Leaf u) = refl
kind-said us (Derived u x) = refl
kind-said us (Derived2 u x y) = refl
kind-said us (Drop i) = refl
kind-said us (Add i) = refl
kind-said us (Grow i) = refl
kind-said us (Lower i) = refl
kind-said us (Product c v1 parts count) = refl
kind-said us (Induced c u children) = refl

-- ---- a node's line

-- the forest's nodes are derivations over uploads with names, and are not too many
pub record IsSpelled (f : ForestValue) : Type 0 where
  pub few : length f.rules ≤ MAX_NODES
  pub valid : AreValid f.uploads f.rules
  pub derive : (i : ℕ) → i < length f.rules → IsDerivedIn f.frame f.uploads (forest_tree f i)
  pub cited : AreCited f.uploads

root_limits : (d : Tree) → IsDerivation d → IsCell (root_cell d)
root_limits (node r ds) h = h.0.in_limits

-- the words of a node's line
abbrev pub words_at : ForestValue → ℕ → List (List ℕ)
words_at f i = node_words f.uploads (suc i) (forest_tree f i) (rule_at f.rules i)

pub node-said : TextLaws → (f : ForestValue) (i : ℕ) (text : List ℕ) → IsSpelled f → i < length f.rules
    → words_of text ≡ words_at f i → IsNodeLine (suc i) text (cert_node f i)
node-said laws f i text h inside words =
    let us = f.uploads in
    let r = rule_at f.rules i in
    let tree = forest_tree f i in
    let c = root_cell tree in
    let few = h.few in
    let valid = h.valid i inside in
    let derived = h.derive i inside in
    let limits = root_limits tree derived.derivation in
    let small = cell-small c limits in
    let cheap = derived.small in
    let cost : IsSmall (tree_cost tree) = omega (arith, cheap) in
    let number : IsSmall (suc i) = omega (arith, inside, few) in
    let before : length (take i f.rules) ≤ MAX_NODES = omega (arith, few, length-take i f.rules) in
    record {
      word = rule_word r;
      fields = rule_fields us r;
      head = record {
        first = decimal (suc i);
        v = decimal c.v;
        k = decimal c.k;
        t = decimal c.t;
        last = decimal (tree_cost tree);
        words_are = words;
        number_is = laws.number (suc i) number;
        v_is = laws.number c.v small.0;
        k_is = laws.number c.k small.1.0;
        t_is = laws.number c.t small.1.1.0;
        cost_is = laws.number (tree_cost tree) cost;
        in_limits = limits;
      };
      rule_is = (
        kind-said us r,
        fields-said laws us _ r (length (take i f.rules)) before h.cited valid.sound valid.children
            valid.uploads_there,
      );
    }
  where
    length-take : {X : Type 0} (n : ℕ) (xs : List X) → length (take n xs) ≤ length xs
    length-take zero xs = omega arith
    length-take (suc n) [] = omega arith
    length-take (suc n) (x ∷ xs) = let rest = length-take n xs in omega arith
