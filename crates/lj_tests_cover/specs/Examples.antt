-- Worked derivations.
use Rattle.std.specs.Prelude.{[], ◌∷◌}
use Rattle.lj_samples.specs.Samples.{five_fives as blocks_of_five, three_fours as blocks_of_four}
use Rattle.lj_cover.specs.Rules.{Upload, Add, All, Derived2, Induced, One, Product, Runs, triple}
use Rattle.lj_cover.specs.Derivations.{Tree, node, none, more}

abbrev pub three_fours : Upload
three_fours = record {
  client = 120 ∷ [];
  ordinal = 1;
  cell = triple 6 4 2;
  blocks = blocks_of_four;
}

abbrev pub five_fives : Upload
five_fives = record {
  client = 120 ∷ [];
  ordinal = 1;
  cell = triple 6 5 4;
  blocks = blocks_of_five;
}

abbrev pub runs_example : Tree
runs_example = node (Runs (triple 5 2 1)) none

-- the cuts to five points, of which one has four, for which a point is added to the pairs of three
abbrev pub induced_example : Tree
induced_example =
    node (Induced three_fours 5 3)
    (more (node (Add (triple 4 3 2)) (more (node (All (triple 3 2 2)) none) none)) none)

-- a part for each number of points on the first side
abbrev pub product_example : Tree
product_example =
    node (Product (triple 5 3 2) 2 (
    record { a = 0; b = 0; l = 0 } ∷ record { a = 1; b = 1; l = 2 } ∷ record { a = 2; b = 2; l = 2 } ∷ []))
    (more (node (One (triple 2 0 0)) none) (more (node (One (triple 3 3 2)) none)
    (more (node (One (triple 2 2 1)) none) (more (node (Runs (triple 3 1 1)) none)
    (more (node (One (triple 2 2 2)) none) (more (node (One (triple 3 1 0)) none) none))))))

-- one part for one and two points
abbrev pub interval_example : Tree
interval_example =
    node (Product (triple 5 3 2) 2 (record { a = 0; b = 0; l = 0 } ∷ record { a = 1; b = 2; l = 2 } ∷ []))
    (more (node (One (triple 2 0 0)) none) (more (node (One (triple 3 3 2)) none)
    (more (node (One (triple 2 2 2)) none) (more (node (Runs (triple 3 1 1)) none) none))))

abbrev pub two_points_example : Tree
two_points_example = node (Derived2 five_fives 0 1) none
