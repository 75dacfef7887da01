-- The generated script: one client uploads the quadruples with xor 0, settles, and asks for two bounds.
use Rattle.std.specs.Prelude.{ℕ, ◌-◌, ◌^◌, List, [], ◌∷◌, ◌++◌, codes, decimal, map, min}
use Rattle.lj_base.specs.Cells.{Triple}
use Rattle.lj_text.specs.Lines.{with_feeds}
use Rattle.lj_text.specs.Tokens.{join_by_space}
use Rattle.lj_blockfile.specs.BlockFiles.{blocks_text}
use Rattle.lj_blockfile.specs.BlockLines.{block_line}
use Rattle.lj_script.specs.Values.{ScriptValue}
use Rattle.lj_script.specs.declared.scripts.Command.TheVariants.{Upload, Bound, Settle}
use Rattle.lj_gen.specs.Quadruples.{gen_blocks}

-- the frame's greatest cell, for v points
abbrev pub frame_cell : ℕ → Triple
frame_cell v = record { v = v; k = min 6 v; t = 3 }

-- the cell that the quadruples cover
abbrev pub upload_cell : ℕ → Triple
upload_cell v = record { v = v; k = 4; t = 3 }

-- the cell that the blocks through one point cover, without that point
abbrev pub derived_cell : ℕ → Triple
derived_cell v = record { v = v - 1; k = 3; t = 2 }

-- the line of a word and of a cell's numbers
abbrev pub cell_line : List ℕ → Triple → List ℕ
cell_line word c = join_by_space (word ∷ decimal c.v ∷ decimal c.k ∷ decimal c.t ∷ [])

-- the lines before the blocks
abbrev pub head_lines : ℕ → List (List ℕ)
head_lines v =
    cell_line (codes "frame") (frame_cell v) ∷ codes "client gen" ∷ cell_line (codes "upload") (upload_cell v) ∷ []

-- the lines after the blocks
abbrev pub tail_lines : ℕ → List (List ℕ)
tail_lines v =
    codes "end" ∷ codes "settle" ∷ cell_line (codes "bound") (upload_cell v) ∷ cell_line (codes "bound")
    (derived_cell v) ∷ []

-- the script's lines, with the blocks of 2 ^ m points
abbrev pub gen_lines : ℕ → List (List ℕ)
gen_lines m = head_lines (2 ^ m) ++ (map block_line (gen_blocks m) ++ tail_lines (2 ^ m))

abbrev pub gen_text : ℕ → List ℕ
gen_text m = with_feeds (gen_lines m)

-- the script that these lines spell
abbrev pub gen_value : ℕ → ScriptValue
gen_value m =
    let v = 2 ^ m in
    record {
      frame = record { top = frame_cell v };
      clients = record {
        name = codes "gen";
        commands =
            Upload (upload_cell v) (blocks_text (gen_blocks m)) ∷ Settle ∷ Bound (upload_cell v) ∷ Bound
            (derived_cell v) ∷ [];
      } ∷ [];
    }
