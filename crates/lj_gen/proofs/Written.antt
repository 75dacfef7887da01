-- The text that is written part by part.
use Rattle.std.proofs.Common.{◌≡◌, ℕ, ◌^◌, List, [], ◌∷◌, ◌++◌, map, sym, ap, ap₂, ◌∙◌, append_assoc, append-nil, codes}
use Rattle.std.proofs.Common.{min}
use Rattle.std.proofs.lemmas.List.Concat.{flat_map-append}
use Rattle.lj_text.specs.Lines.{with_feeds}
use Rattle.lj_blockfile.specs.BlockFiles.{blocks_text}
use Rattle.lj_blockfile.specs.BlockLines.{block_line}
use Rattle.lj_gen.specs.Generated.{cell_line, frame_cell, gen_text, head_lines, tail_lines, upload_cell}
use Rattle.lj_gen.specs.Quadruples.{completions, gen_blocks}
use Rattle.lj_gen.proofs.Chosen.{completions-gen_blocks}

-- the lines before the blocks, those of the blocks, and those after them
pub text-parts : (head inner tail : List (List ℕ))
    → with_feeds (head ++ (inner ++ tail)) ≡ with_feeds head ++ (with_feeds inner ++ with_feeds tail)
text-parts head inner tail =
    let feed : List ℕ → List ℕ = λ line. line ++ 10 ∷ [] in
    flat_map-append feed head (inner ++ tail) ∙ ap (λ text. with_feeds head ++ text) (flat_map-append feed inner tail)

pub written-text : (m v : ℕ) (start head body text : List ℕ) → v ≡ 2 ^ m → start ≡ []
    → head ≡ start ++ with_feeds (head_lines v)
    → body ≡ head ++ blocks_text (completions [] 0 v 4) → text ≡ body ++ with_feeds (tail_lines v) → text ≡ gen_text m
written-text m v start head body text count none first second third =
    let bs = gen_blocks m in
    let front : head ≡ with_feeds (head_lines (2 ^ m)) =
    first ∙ ap₂ (λ text n. text ++ with_feeds (head_lines n)) none count in
    let middle : blocks_text (completions [] 0 v 4) ≡ blocks_text bs =
    ap (λ n. blocks_text (completions [] 0 n 4)) count ∙ ap blocks_text (completions-gen_blocks m) in
    third
    ∙ ap₂ (λ text n. text ++ with_feeds (tail_lines n)) (second ∙ ap₂ (λ a b. a ++ b) front middle) count
    ∙ append_assoc (with_feeds (head_lines (2 ^ m))) (blocks_text bs) (with_feeds (tail_lines (2 ^ m)))
    ∙ sym (text-parts (head_lines (2 ^ m)) (map block_line bs) (tail_lines (2 ^ m)))

three_parts : (start a b c : List ℕ) → ((start ++ a) ++ b) ++ c ≡ start ++ (a ++ (b ++ (c ++ [])))
three_parts start a b c = simp (append_assoc, append-nil)

pub written-head : (v k : ℕ) (start first second text : List ℕ) → k ≡ min 6 v
    → first ≡ start ++ (cell_line (codes "frame") (record { v = v; k = k; t = 3 }) ++ 10 ∷ [])
    → second ≡ first ++ (codes "client gen" ++ 10 ∷ [])
    → text ≡ second ++ (cell_line (codes "upload") (upload_cell v) ++ 10 ∷ [])
    → text ≡ start ++ with_feeds (head_lines v)
written-head v k start first second text least one two three =
    let a : List ℕ = cell_line (codes "frame") (frame_cell v) ++ 10 ∷ [] in
    let b : List ℕ = codes "client gen" ++ 10 ∷ [] in
    let c : List ℕ = cell_line (codes "upload") (upload_cell v) ++ 10 ∷ [] in
    let front : first ≡ start ++ a =
    one ∙ ap (λ n. start ++ (cell_line (codes "frame") (record { v = v; k = n; t = 3 }) ++ 10 ∷ [])) least in
    three ∙ ap (λ t. t ++ c) (two ∙ ap (λ t. t ++ b) front) ∙ three_parts start a b c
