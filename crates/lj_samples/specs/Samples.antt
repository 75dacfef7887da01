-- Lists of blocks that cover, and a client's name.
use Rattle.std.specs.Prelude.{ℕ, List, [], ◌∷◌}

-- each pair of five points is in one of these
abbrev pub four_triples : List (List ℕ)
four_triples = (0 ∷ 1 ∷ 2 ∷ []) ∷ (0 ∷ 3 ∷ 4 ∷ []) ∷ (1 ∷ 3 ∷ 4 ∷ []) ∷ (2 ∷ 3 ∷ 4 ∷ []) ∷ []

-- the lines of the Fano plane
abbrev pub fano_lines : List (List ℕ)
fano_lines =
    (0 ∷ 1 ∷ 3 ∷ []) ∷ (1 ∷ 2 ∷ 4 ∷ []) ∷ (2 ∷ 3 ∷ 5 ∷ []) ∷ (3 ∷ 4 ∷ 6 ∷ [])
    ∷ (0 ∷ 4 ∷ 5 ∷ []) ∷ (1 ∷ 5 ∷ 6 ∷ []) ∷ (0 ∷ 2 ∷ 6 ∷ []) ∷ []

-- the planes of the affine space of eight points
abbrev pub fourteen_planes : List (List ℕ)
fourteen_planes =
    (0 ∷ 1 ∷ 2 ∷ 3 ∷ []) ∷ (0 ∷ 1 ∷ 4 ∷ 5 ∷ []) ∷ (0 ∷ 1 ∷ 6 ∷ 7 ∷ []) ∷ (0 ∷ 2 ∷ 4 ∷ 6 ∷ []) ∷ (0 ∷ 2 ∷ 5 ∷ 7 ∷ [])
    ∷ (0 ∷ 3 ∷ 4 ∷ 7 ∷ []) ∷ (0 ∷ 3 ∷ 5 ∷ 6 ∷ []) ∷ (1 ∷ 2 ∷ 4 ∷ 7 ∷ []) ∷ (1 ∷ 2 ∷ 5 ∷ 6 ∷ []) ∷ (1 ∷ 3 ∷ 4 ∷ 6 ∷ [])
    ∷ (1 ∷ 3 ∷ 5 ∷ 7 ∷ []) ∷ (2 ∷ 3 ∷ 4 ∷ 5 ∷ []) ∷ (2 ∷ 3 ∷ 6 ∷ 7 ∷ []) ∷ (4 ∷ 5 ∷ 6 ∷ 7 ∷ []) ∷ []

-- each pair of six points is in one of these
abbrev pub three_fours : List (List ℕ)
three_fours = (0 ∷ 1 ∷ 2 ∷ 3 ∷ []) ∷ (0 ∷ 1 ∷ 4 ∷ 5 ∷ []) ∷ (2 ∷ 3 ∷ 4 ∷ 5 ∷ []) ∷ []

-- each four of six points are in one of these
abbrev pub five_fives : List (List ℕ)
five_fives =
    (1 ∷ 2 ∷ 3 ∷ 4 ∷ 5 ∷ []) ∷ (0 ∷ 2 ∷ 3 ∷ 4 ∷ 5 ∷ []) ∷ (0 ∷ 1 ∷ 3 ∷ 4 ∷ 5 ∷ [])
    ∷ (0 ∷ 1 ∷ 2 ∷ 4 ∷ 5 ∷ []) ∷ (0 ∷ 1 ∷ 2 ∷ 3 ∷ 5 ∷ []) ∷ []

abbrev pub pairs_of_three : List (List ℕ)
pairs_of_three = (0 ∷ 1 ∷ []) ∷ (0 ∷ 2 ∷ []) ∷ (1 ∷ 2 ∷ []) ∷ []

-- each of five points is in one of these
abbrev pub runs_of_two : List (List ℕ)
runs_of_two = (0 ∷ 1 ∷ []) ∷ (2 ∷ 3 ∷ []) ∷ (0 ∷ 4 ∷ []) ∷ []

abbrev pub ann : List ℕ
ann = 97 ∷ 110 ∷ 110 ∷ []
