-- How the words of a map are lent.
use Rattle.std.specs.Prelude.{ℕ, Bool, List}
use Rattle.std.specs.Borrow.{Array, Fml, Lends, MutBor, u64}
use Rattle.lj_bitmap.specs.Marks.{overwritten}
use Rattle.lj_bitmap.specs.contracts.maps.RankMap.{the_row}

-- the marks end as those of the words that were written last
abbrev pub LendsWords : MutBor (List Bool) → MutBor (List ℕ) → Fml
LendsWords marks words = Lends the_row (Array u64 0) marks words (overwritten marks.now)
