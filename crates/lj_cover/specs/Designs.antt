-- A design: a cell, and a list of blocks that covers it.
use Rattle.std.specs.Prelude.{ℕ, List}
use Rattle.lj_base.specs.Cells.{Triple}

pub record Covering : Type 0 where
  pub cell : Triple
  pub blocks : List (List ℕ)
