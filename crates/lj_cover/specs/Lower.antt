-- A lower number for coverings, after Schönheim: the blocks through each point cover the sets of one point less.
use Rattle.std.specs.Prelude.{ℕ, zero, suc, ◌*◌, ◌-◌}
use Rattle.lj_cover.specs.BlockLists.{ceil_div}

-- no covering of v points by blocks of k has fewer blocks, for sets of t points
abbrev pub schonheim : ℕ → ℕ → ℕ → ℕ
schonheim v k zero = 1
schonheim v k (suc t) = ceil_div (v * schonheim (v - 1) (k - 1) t) k
