-- One piece more that was read.
use Rattle.std.proofs.Common.{ℕ, ◌≡◌, ◌+◌, ◌<◌, ◌≤◌, List, ◌++◌, Option, length, take, arith, length-append}
use Rattle.std.proofs.KnownBytes.{Consumes-trans}
use Rattle.std.proofs.lemmas.List.{length-take-le}
use Rattle.lj_base.specs.Streams.{Consumes}
use Rattle.lj_text.specs.Inputs.{HasExceeded, HasRead}
use Rattle.lj_text.specs.declared.input.TheConstants.{PIECE}

module _ (before middle after : Option (List ℕ)) (bytes piece : List ℕ) (count limit : ℕ)
    (taken : Consumes before middle bytes)
    (next : Consumes middle after (take count piece)) (inside : count ≤ length piece)
  where
    count_is : length (bytes ++ take count piece) ≡ length bytes + count
    count_is = omega (arith, length-append bytes (take count piece), length-take-le count piece inside)

    taken_more : Consumes before after (bytes ++ take count piece)
    taken_more = Consumes-trans before middle after bytes (take count piece) taken next

    pub HasRead-more : length bytes + count ≤ limit → HasRead before after (bytes ++ take count piece) limit
    HasRead-more few = record { taken = taken_more; within = omega (arith, count_is) }

    pub HasExceeded-more : length bytes ≤ limit → length piece ≡ PIECE → limit < length bytes + count
        → HasExceeded before after limit
    HasExceeded-more within room more = record {
      bytes = bytes ++ take count piece;
      read = record { taken = taken_more; within = omega (arith, count_is) };
      more = omega (arith, count_is);
    }
