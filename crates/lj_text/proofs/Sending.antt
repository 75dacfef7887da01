-- One piece more that a sink took.
use Rattle.std.proofs.Common.{ℕ, ◌+◌, ◌-◌, List, Option, length, take, drop, subst, sym, take-add}
use Rattle.std.proofs.KnownBytes.{Appends-trans}
use Rattle.std.proofs.lemmas.List.{take_rest}
use Rattle.lj_base.specs.Streams.{Appends}

pub Appends-more : (a b c : Option (List ℕ)) (bytes : List ℕ) (done count : ℕ) → Appends a b (take done bytes)
    → Appends b c (take count (take (length bytes - done) (drop done bytes))) → Appends a c (take (done + count) bytes)
Appends-more a b c bytes done count before piece =
    let next = subst (λ l. Appends b c (take count l)) (take_rest bytes done) piece in
    subst (Appends a c) (sym (take-add done count bytes)) (Appends-trans a b c _ _ before next)
