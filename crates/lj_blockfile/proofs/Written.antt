-- The text of the lines of blocks reads back.
use Rattle.std.proofs.Common.{◌≡◌, ℕ, ◌+◌, ◌-◌, ◌^◌, ◌<◌, ◌≤◌, List, [], ◌∷◌, ◌++◌, append_assoc, decimal, drop, length}
use Rattle.std.proofs.Common.{length-append, map, refl, sym, ap, ◌∙◌, subst, arith}
use Rattle.std.proofs.Math.Nat.{min-eq_right}
use Rattle.std.proofs.lemmas.List.{drop_at, length-map, take_at}
use Rattle.std.specs.List.{AllByRecursion, AllZip}
use Rattle.lj_base.proofs.Lists.{AllByRecursion-map}
use Rattle.lj_base.specs.Blocks.{AreBlocks, IsBlock}
use Rattle.lj_base.specs.Cells.{IsCell, Triple}
use Rattle.lj_base.specs.declared.limits.TheConstants.{MAX_BLOCKS}
use Rattle.lj_text.specs.Lines.{IsPlain, after_line, cut_lines, line_text, lines_from, text_lines, with_feeds}
use Rattle.lj_text.specs.Numbers.{Spells}
use Rattle.lj_text.specs.Tokens.{join_by_space, tokens_of}
use Rattle.lj_text.specs.declared.lines.Line.{Line}
use Rattle.lj_blockfile.specs.BlockFiles.{AreBlocksOf, blocks_text}
use Rattle.lj_blockfile.specs.BlockLines.{IsBlockLine, block_line}
use Rattle.lj_blockfile.specs.Headers.{IsHeader, file_text, header_line}

-- from equal lists of values to a fact of the items that have them
AllZip-from_map : {A B C : Type 0} (f : A → C) (g : B → C) (P : B → Type 0) (R : C → B → Type 0)
    → ((b : B) → P b → R (g b) b) → (xs : List A) (bs : List B)
    → map f xs ≡ map g bs → AllByRecursion P bs → AllZip (λ x b. R (f x) b) xs bs
AllZip-from_map f g P R each [] [] same h = tt
AllZip-from_map f g P R each [] (b ∷ bs) same h = cc
AllZip-from_map f g P R each (x ∷ xs) [] same h = cc
AllZip-from_map f g P R each (x ∷ xs) (b ∷ bs) same h =
    let first : g b ≡ f x = cc in
    let rest : map f xs ≡ map g bs = cc in
    (subst (λ y. R y b) first (each b h.0), AllZip-from_map f g P R each xs bs rest h.1)

module _
    (plain : (lines : List (List ℕ)) → AllByRecursion IsPlain lines
    → map (line_text (with_feeds lines)) (text_lines (with_feeds lines)) ≡ lines)
    (plain_block : (v k : ℕ) (b : List ℕ) → 1 ≤ k → v ≤ 99 → IsBlock v k b → IsPlain (block_line b))
    (block : (v k : ℕ) (b : List ℕ) → v ≤ 99 → IsBlock v k b → IsBlockLine (block_line b) v k b)
  where
    are_plain : (v k : ℕ) (bs : List (List ℕ)) → 1 ≤ k → v ≤ 99 → AreBlocks v k bs
        → AllByRecursion IsPlain (map block_line bs)
    are_plain v k bs some small h =
        AllByRecursion-map (IsBlock v k) IsPlain block_line bs (λ b is. plain_block v k b some small is) h

    pub AreBlocksOf-blocks_text : (v k : ℕ) (bs : List (List ℕ)) → 1 ≤ k → v ≤ 99 → length bs ≤ MAX_BLOCKS
        → AreBlocks v k bs → AreBlocksOf (blocks_text bs) v k bs
    AreBlocksOf-blocks_text v k bs some small few h =
        let text = blocks_text bs in
        let same : map (line_text text) (text_lines text) ≡ map block_line bs =
        plain (map block_line bs) (are_plain v k bs some small h) in
        let count : length (text_lines text) ≡ length bs =
        sym (length-map (text_lines text) (line_text text)) ∙ ap length same ∙ length-map bs block_line in
        record {
          few = omega arith;
          lines =
              AllZip-from_map (line_text text) block_line (IsBlock v k) (λ line b. IsBlockLine line v k b)
              (λ b is. block v k b small is) (text_lines text) bs same h;
        }

-- ---- the text of a file with a header

module _
    (first : (line rest : List ℕ) → IsPlain line
    → text_lines (line ++ 10 ∷ rest)
    ≡ record { number = 1; start = 0; stop = length line } ∷ lines_from 2 (length line + 1) (cut_lines rest))
    (plain_numbers : (ns : List ℕ) → 1 ≤ length ns → AllByRecursion (λ n. n < 10 ^ 18) ns
    → IsPlain (join_by_space (map decimal ns)))
    (spelled_numbers : (ns : List ℕ) → AllByRecursion (λ n. n < 10 ^ 18) ns
    → Spells (join_by_space (map decimal ns)) (tokens_of (join_by_space (map decimal ns))) ns)
    (written : (v k : ℕ) (bs : List (List ℕ)) → 1 ≤ k → v ≤ 99 → length bs ≤ MAX_BLOCKS → AreBlocks v k bs
    → AreBlocksOf (blocks_text bs) v k bs)
    (c : Triple) (bs : List (List ℕ)) (cell : IsCell c) (some : 1 ≤ c.k) (few : length bs ≤ MAX_BLOCKS)
  where
    abbrev header_numbers : List ℕ
    header_numbers = c.v ∷ c.k ∷ c.t ∷ length bs ∷ []

    abbrev line : List ℕ
    line = header_line c (length bs)

    small : AllByRecursion (λ n. n < 10 ^ 18) header_numbers
    small = (omega (arith, cell), (omega (arith, cell), (omega (arith, cell), (omega (arith, few), tt))))

    whole : file_text c bs ≡ (line ++ 10 ∷ []) ++ blocks_text bs
    whole = sym (append_assoc line (10 ∷ []) (blocks_text bs))

    count : length (line ++ 10 ∷ []) ≡ length line + 1
    count = length-append line (10 ∷ [])

    abbrev begins : Line
    begins = record { number = 1; start = 0; stop = length line }

    first_text : line_text (file_text c bs) begins ≡ line
    first_text =
        let long : length line - 0 ≡ length line = omega arith in
        rw long (take_at line (10 ∷ blocks_text bs) (length line) refl)

    after_first : length line + 1 ≡ after_line (file_text c bs) begins
    after_first =
        let rest = 10 ∷ blocks_text bs in
        let cut : drop (length line) (file_text c bs) ≡ rest = drop_at line rest (length line) refl in
        let long : length (file_text c bs) ≡ length line + length rest = length-append line rest in
        let within : length line + 0 + 1 ≤ length (file_text c bs) = omega arith in
        let place : length line + 0 + 1 ≡ length line + 1 = omega arith in
        rw cut (sym (min-eq_right within ∙ place))

    pub IsHeader-file_text : IsHeader (file_text c bs)
        (record { cell = c; n = length bs; line = 1; rest = length line + 1 })
    IsHeader-file_text =
        record {
          first = begins;
          others = lines_from 2 (length line + 1) (cut_lines (blocks_text bs));
          lines = first line (blocks_text bs) (plain_numbers header_numbers (omega arith) small);
          spelled =
              subst (λ text. Spells text (tokens_of text) header_numbers) (sym first_text)
              (spelled_numbers header_numbers small);
          in_limits = cell;
          some = some;
          line_is = refl;
          rest_is = after_first;
        }

    pub AreBlocksOf-file_text : AreBlocks c.v c.k bs → AreBlocksOf (drop (length line + 1) (file_text c bs)) c.v c.k bs
    AreBlocksOf-file_text blocks =
        let rest : drop (length line + 1) (file_text c bs) ≡ blocks_text bs =
        ap (drop (length line + 1)) whole ∙ drop_at (line ++ 10 ∷ []) (blocks_text bs) (length line + 1) count in
        subst (λ text. AreBlocksOf text c.v c.k bs) (sym rest)
        (written c.v c.k bs some (omega (arith, cell)) few blocks)
