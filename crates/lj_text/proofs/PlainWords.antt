-- Words without LF and CR: joined by spaces they are a plain line, whose words they are.
use Rattle.std.proofs.Common.{◌≡◌, ◌≢◌, ℕ, ◌^◌, ◌<◌, ◌≤◌, false, eqb, List, [], ◌∷◌, ◌++◌, decimal, map}
use Rattle.std.proofs.Common.{refl, sym, ap, ◌∙◌, subst, arith, append-nil, length-append, ne_eqb}
use Rattle.std.proofs.lemmas.Bool.{and_left, eqb-false, or_from, or_parts}
use Rattle.std.proofs.lemmas.Fmt.{decimal_nonempty}
use Rattle.std.proofs.lemmas.List.Folds.{list_any-append}
use Rattle.std.specs.List.{AllByRecursion, join_with_byte, list_all, list_any}
use Rattle.lj_base.proofs.Lists.{AllByRecursion-append, AllByRecursion-map, AllByRecursion-weaker, map-map}
use Rattle.lj_text.specs.Lines.{IsPlain, is_blank, line_text, text_lines, with_feeds, without_return}
use Rattle.lj_text.specs.Tokens.{ArePlainWords, IsPlainWord, IsWord, is_separator, join_by_space, words, words_of}
use Rattle.lj_text.proofs.LineLaws.{text_lines-feeds}
use Rattle.lj_text.proofs.Spelling.{high-decimal}
use Rattle.lj_text.proofs.TokenLaws.{tokens_of-join}

-- ---- the bytes of plain words

-- a byte that separates nothing
record IsInner (byte : ℕ) : Type 0 where
  pub no_blank : is_blank byte ≡ false
  pub no_feed : byte ≢ 10
  pub no_return : byte ≢ 13

IsInner-free : (byte : ℕ) → is_separator byte ≡ false → IsInner byte
IsInner-free byte h =
    let parts = or_parts _ _ h in
    let ends = or_parts _ _ parts.1 in
    record { no_blank = parts.0; no_feed = eqb-false byte 10 ends.0; no_return = eqb-false byte 13 ends.1 }

each_inner : (word : List ℕ) → list_any is_separator word ≡ false → AllByRecursion IsInner word
each_inner [] h = tt
each_inner (b ∷ bs) h = let parts = or_parts _ _ h in (IsInner-free b parts.0, each_inner bs parts.1)

none-each : (word : List ℕ) → AllByRecursion (λ byte. is_separator byte ≡ false) word
    → list_any is_separator word ≡ false
none-each [] h = refl
none-each (b ∷ bs) h = or_from _ _ h.0 (none-each bs h.1)

IsWord-plain : (word : List ℕ) → IsPlainWord word → IsWord word
IsWord-plain word h =
    let inner = each_inner word h.1 in
    (h.0, AllByRecursion-weaker IsInner (λ byte. is_blank byte ≡ false) word (λ byte i. i.no_blank) inner)

-- what holds of a space and of each byte that separates nothing holds of each byte of the line
each_byte : (P : ℕ → Type 0) → P 32 → ((byte : ℕ) → IsInner byte → P byte) → (ws : List (List ℕ))
    → AllByRecursion IsPlainWord ws
    → AllByRecursion P (join_by_space ws)
each_byte P space each [] h = tt
each_byte P space each (w ∷ []) h = AllByRecursion-weaker IsInner P w each (each_inner w h.0.1)
each_byte P space each (w ∷ (v ∷ ws)) h =
    AllByRecursion-append P w (32 ∷ join_by_space (v ∷ ws))
    (AllByRecursion-weaker IsInner P w each (each_inner w h.0.1))
    (space, each_byte P space each (v ∷ ws) h.1)

-- ---- the line

without_return-kept : (line : List ℕ) → AllByRecursion (λ byte. byte ≢ 13) line → without_return line ≡ line
without_return-kept [] h = refl
without_return-kept (b ∷ []) h = let other : eqb b 13 ≡ false = ne_eqb _ _ h.0 in rw other refl
without_return-kept (b ∷ (c ∷ cs)) h = ap (λ l. b ∷ l) (without_return-kept (c ∷ cs) h.1)

not_blank-append : (word rest : List ℕ) → IsWord word → list_all is_blank (word ++ rest) ≡ false
not_blank-append [] rest h = absurd (omega (arith, h.0))
not_blank-append (b ∷ bs) rest h = and_left _ _ h.1.0

not_blank-join : (word : List ℕ) (ws : List (List ℕ)) → IsWord word
    → list_all is_blank (join_by_space (word ∷ ws)) ≡ false
not_blank-join word [] h = subst (λ l. list_all is_blank l ≡ false) (append-nil word) (not_blank-append word [] h)
not_blank-join word (v ∷ ws) h = not_blank-append word (32 ∷ join_by_space (v ∷ ws)) h

pub IsPlain-words : (ws : List (List ℕ)) → ArePlainWords ws → IsPlain (join_by_space ws)
IsPlain-words [] h = absurd (omega (arith, h.0))
IsPlain-words (w ∷ ws) h = (
  not_blank-join w ws (IsWord-plain w h.1.0),
  each_byte (λ byte. byte ≢ 10) (λ e. omega (arith, e)) (λ byte inner. inner.no_feed) (w ∷ ws) h.1,
  without_return-kept (join_by_space (w ∷ ws))
      (each_byte (λ byte. byte ≢ 13) (λ e. omega (arith, e)) (λ byte inner. inner.no_return) (w ∷ ws) h.1),
)

pub words_of-join : (ws : List (List ℕ)) → AllByRecursion IsPlainWord ws → words_of (join_by_space ws) ≡ ws
words_of-join ws h = tokens_of-join ws (AllByRecursion-weaker IsPlainWord IsWord ws IsWord-plain h)

-- ---- lines of plain words

map-words_of : (lines : List (List (List ℕ))) → AllByRecursion ArePlainWords lines
    → map words_of (map join_by_space lines) ≡ lines
map-words_of [] h = refl
map-words_of (ws ∷ lines) h =
    ap (λ line. line ∷ map words_of (map join_by_space lines)) (words_of-join ws h.0.1)
    ∙ ap (λ rest. ws ∷ rest) (map-words_of lines h.1)

pub words-feeds : (lines : List (List (List ℕ))) → AllByRecursion ArePlainWords lines
    → map (words (with_feeds (map join_by_space lines))) (text_lines (with_feeds (map join_by_space lines))) ≡ lines
words-feeds lines h =
    let bytes = with_feeds (map join_by_space lines) in
    let plain = AllByRecursion-map ArePlainWords IsPlain join_by_space lines IsPlain-words h in
    sym (map-map words_of (line_text bytes) (text_lines bytes))
    ∙ ap (map words_of) (text_lines-feeds (map join_by_space lines) plain)
    ∙ map-words_of lines h

-- ---- which words are plain

free_digit : (byte : ℕ) → 48 ≤ byte → is_separator byte ≡ false
free_digit byte high =
    let space : eqb byte 32 ≡ false = ne_eqb byte 32 (λ e. omega (arith, e)) in
    let tab : eqb byte 9 ≡ false = ne_eqb byte 9 (λ e. omega (arith, e)) in
    let feed : eqb byte 10 ≡ false = ne_eqb byte 10 (λ e. omega (arith, e)) in
    let «return» : eqb byte 13 ≡ false = ne_eqb byte 13 (λ e. omega (arith, e)) in
    or_from _ _ (or_from _ _ space tab) (or_from _ _ feed «return»)

pub IsPlainWord-decimal : (n : ℕ) → n < 2 ^ 64 → IsPlainWord (decimal n)
IsPlainWord-decimal n small = (decimal_nonempty n small, none-each (decimal n) (high-decimal _ free_digit n small))

pub IsPlainWord-join : (byte : ℕ) → is_separator byte ≡ false → (ws : List (List ℕ)) → ArePlainWords ws
    → IsPlainWord (join_with_byte byte ws)
IsPlainWord-join byte free [] h = absurd (omega (arith, h.0))
IsPlainWord-join byte free (w ∷ []) h = h.1.0
IsPlainWord-join byte free (w ∷ (v ∷ ws)) h =
    let rest = join_with_byte byte (v ∷ ws) in
    let more : IsPlainWord rest = IsPlainWord-join byte free (v ∷ ws) (omega arith, h.1.1) in
    let first = h.1.0.0 in (
      omega (arith, length-append w (byte ∷ rest), first),
      list_any-append is_separator w (byte ∷ rest) ∙ or_from _ _ h.1.0.1 (or_from _ _ free more.1),
    )
