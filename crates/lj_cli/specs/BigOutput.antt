-- What a run of `serve` on a generated script comes to, in short.
use Rattle.std.specs.Prelude.{◌≡◌, ℕ, ◌^◌, Bool, List, [], ◌∷◌, ◌++◌, codes, length}
use Rattle.std.specs.List.{sum_by}
use Rattle.lj_base.specs.Bounds.{at_cell}
use Rattle.lj_build.specs.Runs.{AreLeastBounds}
use Rattle.lj_cover.specs.Rules.{Upload}
use Rattle.lj_gate.specs.Whole.{AreServedOf}
use Rattle.lj_gen.specs.Generated.{derived_cell, gen_value, upload_cell}
use Rattle.lj_gen.specs.Quadruples.{gen_blocks}
use Rattle.lj_report.specs.ReportCells.{report_cells}
use Rattle.lj_session.specs.ReplyTexts.{accepted_line, bound_line, settled_line}
use Rattle.lj_session.specs.declared.ends.SessionEnd.{SessionEnd}
use Rattle.lj_cli.specs.CountOutput.{number_line}
use Rattle.lj_cli.specs.ServeOutput.{rebuilt_line}
use Rattle.lj_cli.specs.declared.status.TheConstants.{DONE}

-- the upload of the generated script
abbrev pub gen_upload : ℕ → Upload
gen_upload m =
    record { client = codes "gen"; ordinal = 1; cell = upload_cell (2 ^ m); blocks = gen_blocks m }

-- the replies to the two bounds
abbrev pub bound_lines : ℕ → ℕ → ℕ → List ℕ
bound_lines m whole derived =
    bound_line (codes "bound") (upload_cell (2 ^ m)) whole ++ bound_line (codes "bound") (derived_cell (2 ^ m)) derived

-- the summary: m; the number of the upload's blocks; the replies to the bounds; how many cells the report lists, and
-- the sum of their bounds; whether the table was made anew
abbrev pub big_text : ℕ → ℕ → List ℕ → ℕ → ℕ → Bool → List ℕ
big_text m blocks lines cells sum rebuilt =
    number_line (codes "big") m ++ (number_line (codes "blocks") blocks ++ (lines
    ++ (number_line (codes "cells") cells ++ (number_line (codes "sum") sum ++ rebuilt_line rebuilt))))

-- the text sums up an output of `serve` for the generated script of 2 ^ m points
pub record IsBigOutput (m : ℕ) (text : List ℕ) : Type 0 where
  pub end : SessionEnd
  pub served : AreServedOf (gen_value m).frame (gen_value m).clients (gen_value m).clients (end ∷ [])
  pub accepted : end.accepted ≡ gen_upload m ∷ []
  pub whole : ℕ
  pub derived : ℕ
  pub replies : end.replies ≡ accepted_line (gen_upload m) ++ (settled_line ++ bound_lines m whole derived)
  pub bounds : List ℕ
  pub least : AreLeastBounds (gen_value m).frame end.accepted bounds
  pub rebuilt : Bool
  pub text_is : text ≡ big_text m (length (gen_blocks m)) (bound_lines m whole derived)
      (length (report_cells (gen_value m).frame))
      (sum_by (at_cell (gen_value m).frame bounds) (report_cells (gen_value m).frame)) rebuilt

-- with its status
abbrev pub IsBigCommandOutput : ℕ → List ℕ → ℕ → Type 0
IsBigCommandOutput m text status = IsBigOutput m text × (status ≡ DONE)
