-- The fields of a line, as they are appended to a text.
use Rattle.std.specs.Prelude.{◌≡◌, ℕ, suc, List, ◌∷◌, ◌++◌, decimal, length, map, take}
use Rattle.std.specs.List.{flat_map}

-- each field after the byte
abbrev pub after_each : ℕ → List (List ℕ) → List ℕ
after_each byte fields = flat_map (λ field. byte ∷ field) fields

-- each field after a space (32)
abbrev pub spaced : List (List ℕ) → List ℕ
spaced fields = after_each 32 fields

-- a word and, each after a space, numbers
abbrev pub named : List ℕ → List ℕ → List ℕ
named word numbers = word ++ spaced (map decimal numbers)

-- each of the points, which are printed from 1, after a space
abbrev pub points_text : List ℕ → List ℕ
points_text points = spaced (map (λ p. decimal (suc p)) points)

-- the text begins with what was there before
abbrev pub Extends : List ℕ → List ℕ → Type 0
Extends before text = take (length before) text ≡ before
