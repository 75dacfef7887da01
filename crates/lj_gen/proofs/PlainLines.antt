-- The lines of the script are plain.
use Rattle.std.proofs.Common.{◌≡◌, ℕ, suc, ◌^◌, ◌<◌, ◌≤◌, List, [], ◌∷◌, ◌++◌, codes, decimal, length, map, refl}
use Rattle.std.proofs.Common.{arith, false}
use Rattle.std.proofs.lemmas.Bool.{or_parts}
use Rattle.std.proofs.lemmas.List.{length-map}
use Rattle.std.specs.List.{AllByRecursion, list_any}
use Rattle.lj_base.proofs.Lists.{AllByRecursion-weaker}
use Rattle.lj_base.specs.Blocks.{AreBlocks, Ascends, IsBlock}
use Rattle.lj_base.specs.Cells.{IsCell, Triple}
use Rattle.lj_text.specs.Lines.{IsPlain, is_blank}
use Rattle.lj_text.specs.Tokens.{ArePlainWords, IsPlainWord, IsWord, is_separator, join_by_space, words_of}
use Rattle.lj_blockfile.specs.BlockLines.{block_line}
use Rattle.lj_gen.specs.Generated.{cell_line, derived_cell, frame_cell, head_lines, tail_lines, upload_cell}

module _ (v : ℕ) (low : 4 ≤ v) (high : v ≤ 99) where
  pub IsCell-frame : IsCell (frame_cell v)
  IsCell-frame = omega arith

  pub IsCell-upload : IsCell (upload_cell v)
  IsCell-upload = omega arith

  pub IsCell-derived : IsCell (derived_cell v)
  IsCell-derived = omega arith

-- a number in decimal digits is a plain word
abbrev pub DecimalLaw : Type 0
DecimalLaw = (n : ℕ) → n < 2 ^ 64 → IsPlainWord (decimal n)

-- plain words that are joined by spaces are a plain line
abbrev pub PlainLaw : Type 0
PlainLaw = (ws : List (List ℕ)) → ArePlainWords ws → IsPlain (join_by_space ws)

not_blank : (bytes : List ℕ) → list_any is_separator bytes ≡ false
    → AllByRecursion (λ byte. is_blank byte ≡ false) bytes
not_blank [] h = tt
not_blank (b ∷ bs) h =
    let parts = or_parts _ _ h in
    ((or_parts _ _ parts.0).0, not_blank bs parts.1)

-- plain words that are joined by spaces are the words of the line
pub words_joined : ((ws : List (List ℕ)) → AllByRecursion IsWord ws → words_of (join_by_space ws) ≡ ws)
    → (ws : List (List ℕ)) → AllByRecursion IsPlainWord ws → words_of (join_by_space ws) ≡ ws
words_joined law ws h =
    law ws (AllByRecursion-weaker IsPlainWord IsWord ws (λ w plain. (plain.0, not_blank w plain.1)) h)

module _ (word : DecimalLaw) where
  pub are_points : (lo v : ℕ) (b : List ℕ) → v ≤ 99 → Ascends lo v b
      → AllByRecursion IsPlainWord (map (λ p. decimal (suc p)) b)
  are_points lo v [] small h = tt
  are_points lo v (p ∷ b) small h = (word (suc p) (omega (arith, h.1)), are_points (suc p) v b small h.2)

  pub are_cell_words : (first : List ℕ) (c : Triple) → IsPlainWord first → IsCell c
      → AllByRecursion IsPlainWord (first ∷ decimal c.v ∷ decimal c.k ∷ decimal c.t ∷ [])
  are_cell_words first c is_word h =
      (is_word, (word c.v (omega (arith, h)), (word c.k (omega (arith, h)), (word c.t (omega (arith, h)), tt))))

  module _ (plain : PlainLaw) where
    IsPlain-cell : (first : List ℕ) (c : Triple) → IsPlainWord first → IsCell c → IsPlain (cell_line first c)
    IsPlain-cell first c is_word h =
        plain (first ∷ decimal c.v ∷ decimal c.k ∷ decimal c.t ∷ []) (omega arith, are_cell_words first c is_word h)

    IsPlain-block_line : (v k : ℕ) (b : List ℕ) → 1 ≤ k → v ≤ 99 → IsBlock v k b → IsPlain (block_line b)
    IsPlain-block_line v k b some small h =
        let count : length (map (λ p. decimal (suc p)) b) ≡ length b = length-map b (λ p. decimal (suc p)) in
        plain (map (λ p. decimal (suc p)) b) (omega (arith, h.1), are_points 0 v b small h.0)

    -- the lines of the blocks, and plain lines after them
    are_plain_before : (v k : ℕ) (bs lines : List (List ℕ)) → 1 ≤ k → v ≤ 99 → AreBlocks v k bs
        → AllByRecursion IsPlain lines → AllByRecursion IsPlain (map block_line bs ++ lines)
    are_plain_before v k [] lines some small h rest = rest
    are_plain_before v k (b ∷ bs) lines some small h rest =
        (IsPlain-block_line v k b some small h.0, are_plain_before v k bs lines some small h.1 rest)

    -- a line of one word or of two, which are known
    one_word : (first : List ℕ) → IsPlainWord first → IsPlain (join_by_space (first ∷ []))
    one_word first is_word = plain (first ∷ []) (omega arith, (is_word, tt))

    client_line : IsPlain (codes "client gen")
    client_line =
        plain (codes "client" ∷ codes "gen" ∷ []) (omega arith, ((omega arith, refl), ((omega arith, refl), tt)))

    pub are_plain : (v : ℕ) → 4 ≤ v → v ≤ 99 → (bs : List (List ℕ)) → AreBlocks v 4 bs
        → AllByRecursion IsPlain (head_lines v ++ (map block_line bs ++ tail_lines v))
    are_plain v low high bs blocks =
        let bound : IsPlainWord (codes "bound") = (omega arith, refl) in
        let tail : AllByRecursion IsPlain (tail_lines v) = (
          one_word (codes "end") (omega arith, refl),
          (
            one_word (codes "settle") (omega arith, refl),
            (
              IsPlain-cell (codes "bound") (upload_cell v) bound (IsCell-upload v low high),
              (IsPlain-cell (codes "bound") (derived_cell v) bound (IsCell-derived v low high), tt),
            ),
          ),
        ) in (
          IsPlain-cell (codes "frame") (frame_cell v) (omega arith, refl) (IsCell-frame v low high),
          (
            client_line,
            (
              IsPlain-cell (codes "upload") (upload_cell v) (omega arith, refl) (IsCell-upload v low high),
              are_plain_before v 4 bs (tail_lines v) (omega arith) high blocks tail,
            ),
          ),
        )
