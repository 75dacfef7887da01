-- The words for what is wrong with a line or with a text.
use Rattle.std.specs.Prelude.{ℕ, List, [], ◌∷◌, ◌++◌, codes}
use Rattle.lj_text.specs.Fields.{named}
use Rattle.lj_blockfile.specs.declared.faults.LineFault.{LineFault}
use Rattle.lj_blockfile.specs.declared.faults.LineFault.TheVariants.{NotNumber, PointRange, Repeat, Short, Long}
use Rattle.lj_blockfile.specs.declared.faults.BodyFault.{BodyFault}
use Rattle.lj_blockfile.specs.declared.faults.BodyFault.TheVariants.{Blocks, Line as LineAt, Memory}

abbrev pub line_fault_text : LineFault → List ℕ
line_fault_text (NotNumber column) = named (codes "column") (column ∷ []) ++ codes " not a number"
line_fault_text (PointRange value) = named (codes "point") (value ∷ []) ++ codes " out of range"
line_fault_text (Repeat point) = named (codes "point") (point ∷ []) ++ codes " repeated"
line_fault_text (Short count) = named (codes "too few points") (count ∷ [])
line_fault_text (Long count) = named (codes "too many points") (count ∷ [])

-- that memory ran out has no words
abbrev pub body_fault_text : BodyFault → List ℕ
body_fault_text (Blocks n) = named (codes "blocks") (n ∷ [])
body_fault_text (LineAt number fault) = named (codes "line") (number ∷ []) ++ 32 ∷ line_fault_text fault
body_fault_text Memory = []
