-- The texts of points, made once for all lines.
use Rattle.std.specs.Prelude.{◌≡◌, ℕ, suc, ◌<◌, List, [], decimal, get_or, length, take}

-- two bytes, of which the first are the number's digits
pub record IsText (n : ℕ) (text : List ℕ) : Type 0 where
  pub two : length text ≡ 2
  pub digits : take (length (decimal n)) text ≡ decimal n

-- there is a text for each point, numbered from 1
pub record AreTexts (texts : List (List ℕ)) : Type 0 where
  pub all : length texts ≡ 99
  pub each : (p : ℕ) → p < 99 → IsText (suc p) (get_or texts p [])
