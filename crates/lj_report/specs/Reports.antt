-- Reports: each listed cell with its bound and its lower number, as lines or as one line of JSON.
use Rattle.std.specs.Prelude.{ℕ, ◌==◌, if◌then◌else◌, List, [], ◌∷◌, ◌++◌, codes, decimal, map}
use Rattle.std.specs.List.{join_with_byte}
use Rattle.lj_base.specs.Cells.{Triple}
use Rattle.lj_base.specs.Bounds.{at_cell}
use Rattle.lj_base.specs.Frames.{Top}
use Rattle.lj_text.specs.Lines.{with_feeds}
use Rattle.lj_text.specs.Tokens.{join_by_space}
use Rattle.lj_cover.specs.Lower.{schonheim}
use Rattle.lj_report.specs.ReportCells.{report_cells}

-- Schönheim's number: no covering of the cell has fewer blocks
abbrev pub lower_number : Triple → ℕ
lower_number c = schonheim c.v c.k c.t

-- what is reported of a cell: its numbers, its bound and its lower number
abbrev pub reported_numbers : Triple → ℕ → List ℕ
reported_numbers c bound = c.v ∷ c.k ∷ c.t ∷ bound ∷ lower_number c ∷ []

-- the numbers with one space between each two, and the word `optimal` after them where the bound is the lower number
abbrev pub report_line : Triple → ℕ → List ℕ
report_line c bound =
    join_by_space (map decimal (reported_numbers c bound)) ++ (if bound == lower_number c then codes " optimal" else [])

-- the word `report` and then each cell, a line each
abbrev pub report_text : Top → List ℕ → List ℕ
report_text f bounds = with_feeds (codes "report" ∷ map (λ c. report_line c (at_cell f bounds c)) (report_cells f))

-- a list in JSON: the texts of its items with a comma (44) between each two, in brackets
abbrev pub json_list : List (List ℕ) → List ℕ
json_list texts = codes "[" ++ (join_with_byte 44 texts ++ codes "]")

-- the numbers, and whether the bound is the lower number
abbrev pub json_cell : Triple → ℕ → List ℕ
json_cell c bound =
    let flag = if bound == lower_number c then codes "true" else codes "false" in
    json_list (map decimal (reported_numbers c bound) ++ flag ∷ [])

-- one line: the cells' lists, and the frame's numbers
abbrev pub report_json : Top → List ℕ → List ℕ
report_json f bounds =
    codes "{\"cells\":" ++ (json_list (map (λ c. json_cell c (at_cell f bounds c)) (report_cells f))
    ++ (codes ",\"frame\":" ++ (json_list (map decimal (f.top.v ∷ f.top.k ∷ f.top.t ∷ [])) ++ codes "}\n")))
