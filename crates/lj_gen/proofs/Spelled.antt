-- The lines of the generated text spell the script.
use Rattle.std.proofs.Common.{◌≡◌, ℕ, suc, ◌+◌, ◌^◌, ◌<◌, ◌≤◌, List, [], ◌∷◌, ◌++◌, None, Some, codes, decimal, length}
use Rattle.std.proofs.Common.{map, refl, sym, ap, ◌∙◌, arith, append_assoc, append-nil, length-append}
use Rattle.std.specs.Prelude.{slice_range}
use Rattle.std.specs.List.{AllByRecursion, AllZip}
use Rattle.lj_base.specs.Blocks.{AreBlocks, IsBlock}
use Rattle.lj_base.specs.Cells.{IsCell, Triple}
use Rattle.lj_text.specs.Lines.{IsPlain, after_line, line_text, placed_from, text_lines, with_feeds}
use Rattle.lj_text.specs.Numbers.{number_of}
use Rattle.lj_text.specs.Tokens.{IsPlainWord, join_by_space, words, words_of}
use Rattle.lj_text.specs.declared.lines.Line.{Line}
use Rattle.lj_upload.specs.Names.{IsName}
use Rattle.lj_blockfile.specs.BlockFiles.{blocks_text}
use Rattle.lj_blockfile.specs.BlockLines.{block_line}
use Rattle.lj_script.specs.LineForms.{IsEnd, NamesCell}
use Rattle.lj_script.specs.Scripts.{IsReadUpTo}
use Rattle.lj_script.specs.declared.scripts.Command.TheVariants.{Upload, Bound, Settle}
use Rattle.lj_gen.specs.Generated.{cell_line, derived_cell, frame_cell, head_lines, tail_lines, upload_cell}
use Rattle.lj_gen.proofs.PlainLines.{DecimalLaw, IsCell-derived, IsCell-frame, IsCell-upload, PlainLaw, are_cell_words}
use Rattle.lj_gen.proofs.PlainLines.{are_plain, are_points}
use Rattle.lj_gen.proofs.Placed.{placed-append, placed-texts, text-after_three}
use Rattle.lj_gen.proofs.Written.{text-parts}

module _ (word : DecimalLaw) (value : (n : ℕ) → n < 10 ^ 18 → number_of (decimal n) ≡ Some n)
    (joined : (ws : List (List ℕ)) → AllByRecursion IsPlainWord ws → words_of (join_by_space ws) ≡ ws)
  where
    module _ (bytes : List ℕ) where
      -- the lines have these texts
      abbrev HaveTexts : List Line → List (List ℕ) → Type 0
      HaveTexts lines texts = AllZip (λ line text. line_text bytes line ≡ text) lines texts

      names_cell : (first : List ℕ) (c : Triple) (line : Line) → IsPlainWord first → IsCell c → 1 ≤ c.k
          → line_text bytes line ≡ cell_line first c → NamesCell first (words bytes line) c
      names_cell first c line is_word cell some text =
          let all : List (List ℕ) = first ∷ decimal c.v ∷ decimal c.k ∷ decimal c.t ∷ [] in
          record {
            v = decimal c.v;
            k = decimal c.k;
            t = decimal c.t;
            words_are = ap words_of text ∙ joined all (are_cell_words word first c is_word cell);
            v_is = value c.v (omega (arith, cell));
            k_is = value c.k (omega (arith, cell));
            t_is = value c.t (omega (arith, cell));
            in_limits = cell;
            some = some;
          }

      module _ (v : ℕ) (low : 4 ≤ v) (high : v ≤ 99) where
        -- a block's line is not `end`
        not_end : (b : List ℕ) (line : Line) → IsBlock v 4 b → line_text bytes line ≡ block_line b → IsEnd bytes line
            → ⊥
        not_end [] line block text ends = omega (arith, block.1)
        not_end (p ∷ b) line block text ends =
            let all : List (List ℕ) = map (λ q. decimal (suc q)) (p ∷ b) in
            let same : all ≡ codes "end" ∷ [] =
            sym (ap words_of text ∙ joined all (are_points word 0 v (p ∷ b) high block.0)) ∙ ends in
            let first : decimal (suc p) ≡ codes "end" = cc in
            let bad : Some (suc p) ≡ None = sym (value (suc p) (omega (arith, block.0.1))) ∙ ap number_of first in
            cc

        none_ends : (bs : List (List ℕ)) (lines : List Line) → AreBlocks v 4 bs → HaveTexts lines (map block_line bs)
            → AllByRecursion (λ line. IsEnd bytes line → ⊥) lines
        none_ends [] [] blocks texts = tt
        none_ends [] (line ∷ lines) blocks texts = absurd texts
        none_ends (b ∷ bs) [] blocks texts = absurd texts
        none_ends (b ∷ bs) (line ∷ lines) blocks texts =
            (not_end b line blocks.0 texts.0, none_ends bs lines blocks.1 texts.1)

        name : IsName (codes "gen")
        name = record { some = omega arith; short = omega arith; allowed = (refl, (refl, (refl, tt))) }

        is_script : (bs : List (List ℕ)) (frame client upload end settle bound last : Line) (inner : List Line)
            → AreBlocks v 4 bs
            → text_lines bytes ≡ frame ∷ client ∷ upload ∷ (inner ++ end ∷ settle ∷ bound ∷ last ∷ [])
            → HaveTexts (frame ∷ client ∷ upload ∷ []) (head_lines v) → HaveTexts inner (map block_line bs)
            → HaveTexts (end ∷ settle ∷ bound ∷ last ∷ []) (tail_lines v)
            → blocks_text bs ≡ slice_range bytes (after_line bytes upload) end.start
            → IsReadUpTo bytes (record { top = frame_cell v }) (record {
              name = codes "gen";
              commands =
                  Upload (upload_cell v) (blocks_text bs) ∷ Settle ∷ Bound (upload_cell v) ∷ Bound
                  (derived_cell v) ∷ [];
            } ∷ []) []
        is_script bs frame client upload end settle bound last inner blocks lines head middle tail body =
            record {
              first = frame;
              others = client ∷ upload ∷ (inner ++ end ∷ settle ∷ bound ∷ last ∷ []);
              lines_are = lines;
              names_frame =
                  names_cell (codes "frame") (frame_cell v) frame (omega arith, refl) (IsCell-frame v low high)
                  (omega arith) head.0;
              are_sections = (
                [],
                record {
                  first = client;
                  others = upload ∷ (inner ++ end ∷ settle ∷ bound ∷ last ∷ []);
                  begins = record { lines_are = refl; says = (ap words_of head.1.0, name) };
                  fresh = λ (k, lt, e). omega arith;
                  commands = (
                    settle ∷ bound ∷ last ∷ [],
                    record {
                      first = upload;
                      others = inner ++ end ∷ settle ∷ bound ∷ last ∷ [];
                      begins = record {
                        lines_are = refl;
                        says =
                            names_cell (codes "upload") (upload_cell v) upload (omega arith, refl)
                            (IsCell-upload v low high) (omega arith) head.1.1.0;
                      };
                      completes = record {
                        end = end;
                        reaches = record {
                          inner = inner;
                          lines_are = refl;
                          none_ends =
                              none_ends bs inner blocks middle;
                          ends = ap words_of tail.0;
                        };
                        body_is = body;
                      };
                    },
                    (
                      bound ∷ last ∷ [],
                      record {
                        first = settle;
                        others = bound ∷ last ∷ [];
                        begins =
                            record { lines_are = refl; says = ap words_of tail.1.0 };
                        completes = refl;
                      },
                      (
                        last ∷ [],
                        record {
                          first = bound;
                          others = last ∷ [];
                          begins = record {
                            lines_are = refl;
                            says =
                                names_cell (codes "bound") (upload_cell v) bound (omega arith, refl)
                                (IsCell-upload v low high) (omega arith) tail.1.1.0;
                          };
                          completes = refl;
                        },
                        (
                          [],
                          record {
                            first = last;
                            others = [];
                            begins = record {
                              lines_are = refl;
                              says =
                                  names_cell (codes "bound") (derived_cell v) last (omega arith, refl)
                                  (IsCell-derived v low high) (omega arith) tail.1.1.1.0;
                            };
                            completes = refl;
                          },
                          refl,
                        ),
                      ),
                    ),
                  );
                },
                refl,
              );
              within = (omega arith, (omega arith, tt));
            }

    module _ (plain : PlainLaw)
        (places : (lines : List (List ℕ)) → AllByRecursion IsPlain lines
        → text_lines (with_feeds lines) ≡ placed_from 1 0 lines)
      where
        pub IsReadUpTo-lines : (v : ℕ) → 4 ≤ v → v ≤ 99 → (bs : List (List ℕ)) → AreBlocks v 4 bs
            → IsReadUpTo (with_feeds (head_lines v ++ (map block_line bs ++ tail_lines v)))
            (record { top = frame_cell v }) (record {
              name = codes "gen";
              commands =
                  Upload (upload_cell v) (blocks_text bs) ∷ Settle ∷ Bound (upload_cell v) ∷ Bound
                  (derived_cell v) ∷ [];
            } ∷ []) []
        IsReadUpTo-lines v low high bs blocks =
            let head : List (List ℕ) = head_lines v in
            let inner : List (List ℕ) = map block_line bs in
            let tail : List (List ℕ) = tail_lines v in
            let bytes = with_feeds (head ++ (inner ++ tail)) in
            let before = with_feeds head in
            let body = with_feeds inner in
            let after = with_feeds tail in
            let whole : bytes ≡ before ++ (body ++ after) = text-parts head inner tail in
            let first : ℕ = 0 + length before in
            let then : ℕ = first + length body in
            let count : ℕ = 1 + length head in
            let more : ℕ = count + length inner in
            let placed : text_lines bytes ≡ placed_from 1 0 head ++
            (placed_from count first inner ++ placed_from more then tail) =
            places (head ++ (inner ++ tail)) (are_plain word plain v low high bs blocks)
            ∙ placed-append head (inner ++ tail) 1 0
            ∙ ap (λ lines. placed_from 1 0 head ++ lines) (placed-append inner tail count first) in
            let at_first : first ≡ length before = omega arith in
            let at_then : then ≡ length (before ++ body) = omega (arith, length-append before body) in
            let last_part : bytes ≡ (before ++ body) ++ (after ++ []) =
            whole ∙ sym (append_assoc before body after)
            ∙ ap (λ text. (before ++ body) ++ text) (sym (append-nil after)) in
            let to : then ≡ length before + length body = omega arith in
            is_script bytes v low high bs _ _ _ _ _ _ _ (placed_from count first inner) blocks placed
            (placed-texts head [] (body ++ after) bytes 1 0 refl whole)
            (placed-texts inner before after bytes count first at_first whole)
            (placed-texts tail (before ++ body) [] bytes more then at_then last_part)
            (text-after_three (cell_line (codes "frame") (frame_cell v)) (codes "client gen")
            (cell_line (codes "upload") (upload_cell v)) inner tail bytes then whole to)
