-- The compact text of the report's JSON value is the report's line without its LF.
use Rattle.std.proofs.Common.{◌≡◌, ℕ, Bool, true, false, ◌==◌, ◌||◌, cond, List, [], ◌∷◌, ◌++◌, codes, decimal, map}
use Rattle.std.proofs.Common.{refl, sym, ap, ap₂, ◌∙◌, append_assoc}
use Rattle.std.specs.List.{join_with_byte}
use Rattle.serde_json.proofs.OnLiterals.{serde_json_on_literals}
use Rattle.serde_json.specs.Data.{Data, array, boolean}
use Rattle.serde_json.specs.View.{items_of}
use Rattle.serde_json.specs.Written.{compact_text, has_float, items_have_float, items_text}
use Rattle.lj_base.specs.Bounds.{at_cell}
use Rattle.lj_base.specs.Cells.{Triple}
use Rattle.lj_base.specs.Frames.{Top}
use Rattle.lj_report.specs.ReportCells.{report_cells}
use Rattle.lj_report.specs.Reports.{json_cell, json_list, lower_number, report_json, reported_numbers}
use Rattle.lj_report.specs.ReportValues.{cell_value, cell_values, number_values, report_value}

items_text-join : (ds : List Data) → items_text false (items_of ds) ≡ join_with_byte 44 (map compact_text ds) ++ 93 ∷ []
items_text-join [] = refl
items_text-join (d ∷ []) = refl
items_text-join (d ∷ (e ∷ ds)) =
    ap (λ text. compact_text d ++ 44 ∷ text) (items_text-join (e ∷ ds))
    ∙ sym (append_assoc (compact_text d) (44 ∷ join_with_byte 44 (map compact_text (e ∷ ds))) (93 ∷ []))

compact_text-array : (ds : List Data) → compact_text (array (items_of ds)) ≡ json_list (map compact_text ds)
compact_text-array ds = ap (λ text. 91 ∷ text) (items_text-join ds)

compact_text-boolean : (b : Bool) → compact_text (boolean b) ≡ cond b (codes "true") (codes "false")
unfolding serde_json_on_literals
compact_text-boolean true = refl
compact_text-boolean false = refl

compact_text-cell : (c : Triple) (bound : ℕ) → compact_text (cell_value c bound) ≡ json_cell c bound
compact_text-cell c bound =
    compact_text-array (number_values (reported_numbers c bound) ++ boolean (bound == lower_number c) ∷ [])
    ∙ ap (λ text. json_list (map decimal (reported_numbers c bound) ++ text ∷ []))
    (compact_text-boolean (bound == lower_number c))

compact_text-cells : (bound : Triple → ℕ) (cs : List Triple)
    → map compact_text (map (λ c. cell_value c (bound c)) cs) ≡ map (λ c. json_cell c (bound c)) cs
compact_text-cells bound [] = refl
compact_text-cells bound (c ∷ cs) =
    ap₂ (λ text texts. text ∷ texts) (compact_text-cell c (bound c)) (compact_text-cells bound cs)

cells_have_no_float : (bound : Triple → ℕ) (cs : List Triple)
    → items_have_float (items_of (map (λ c. cell_value c (bound c)) cs)) ≡ false
cells_have_no_float bound [] = refl
cells_have_no_float bound (c ∷ cs) = cells_have_no_float bound cs

pub report_has_no_float : (f : Top) (bounds : List ℕ) → has_float (report_value f bounds) ≡ false
report_has_no_float f bounds = ap (λ b. b || false) (cells_have_no_float (at_cell f bounds) (report_cells f))

pub report_json_is : (f : Top) (bounds : List ℕ)
    → compact_text (report_value f bounds) ++ 10 ∷ [] ≡ report_json f bounds
unfolding serde_json_on_literals
report_json_is f bounds =
    let cells = compact_text (array (items_of (cell_values f bounds))) in
    let frame = compact_text (array (items_of (number_values (f.top.v ∷ f.top.k ∷ f.top.t ∷ [])))) in
    let cells_is =
    compact_text-array (cell_values f bounds) ∙ ap json_list (compact_text-cells (at_cell f bounds) (report_cells f)) in
    let frame_is = compact_text-array (number_values (f.top.v ∷ f.top.k ∷ f.top.t ∷ [])) in
    ap (λ text. codes "{\"cells\":" ++ text)
    (append_assoc cells (codes ",\"frame\":" ++ (frame ++ codes "}")) (10 ∷ [])
    ∙ ap (λ text. cells ++ (codes ",\"frame\":" ++ text)) (append_assoc frame (codes "}") (10 ∷ [])))
    ∙ ap₂ (λ first second. codes "{\"cells\":" ++ (first ++ (codes ",\"frame\":" ++ (second ++ codes "}\n")))) cells_is
    frame_is
