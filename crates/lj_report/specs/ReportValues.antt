-- The JSON value whose text a report is.
use Rattle.std.specs.Prelude.{ℕ, ◌==◌, List, [], ◌∷◌, ◌++◌, codes, map}
use Rattle.serde_json.specs.Data.{Data, array, boolean, member, no_members, number, object, unsigned}
use Rattle.serde_json.specs.View.{items_of}
use Rattle.lj_base.specs.Bounds.{at_cell}
use Rattle.lj_base.specs.Cells.{Triple}
use Rattle.lj_base.specs.Frames.{Top}
use Rattle.lj_report.specs.ReportCells.{report_cells}
use Rattle.lj_report.specs.Reports.{lower_number, reported_numbers}

abbrev pub number_values : List ℕ → List Data
number_values ns = map (λ n. number (unsigned n)) ns

-- a cell's numbers, and whether the bound is the lower number
abbrev pub cell_value : Triple → ℕ → Data
cell_value c bound =
    array (items_of (number_values (reported_numbers c bound) ++ boolean (bound == lower_number c) ∷ []))

abbrev pub cell_values : Top → List ℕ → List Data
cell_values f bounds = map (λ c. cell_value c (at_cell f bounds c)) (report_cells f)

-- the cells' lists and the frame's numbers, by name
abbrev pub report_value : Top → List ℕ → Data
report_value f bounds =
    object (member (codes "cells") (array (items_of (cell_values f bounds)))
    (member (codes "frame") (array (items_of (number_values (f.top.v ∷ f.top.k ∷ f.top.t ∷ [])))) no_members))
