use Rattle.std.proofs.Common.{◌≡◌, ℕ, ◌+◌, ◌≤◌, ◌↔◌, IsTrue, List, ◌∷◌, ◌++◌, length, get_or, arith, ap, sym}
use Rattle.std.proofs.Common.{subst, ◌∙◌}
use Rattle.lj_base.specs.Blocks.{IsBlock}
use Rattle.lj_base.specs.Cells.{Triple}
use Rattle.lj_base.specs.Colex.{choose}
use Rattle.lj_verify.specs.Marks.{IsRankAmong}
use Rattle.lj_excess.specs.Multiplicities.{Tally, contains_set, multiplicities, multiplicity}
use Rattle.lj_excess.proofs.BlockTallies.{room_in, twice_is_spare}
use Rattle.lj_excess.proofs.counts.Counts.is_spare.Goals as goal

pub each_twice-requires-clause-some : goal.each_twice-requires-clause-some
each_twice-requires-clause-some c =
    let cell = c.self.inside.cell in
    let limits = c.set_size.ensures.limits in
    let many = c.choose_law.ensures.some cell.v cell.t (omega (arith, limits)) in
    let count = c.self.invariant.0 in
    omega (arith, many, count, ap length c.deref.ensures.value)

pub each_twice-requires-clause-room : goal.each_twice-requires-clause-room
each_twice-requires-clause-room c = λ i inside.
    let cell = c.self.inside.cell in
    let b = c.args.block.now in
    let block = subst (λ (s : Tally). IsBlock s.cell.v s.cell.k b) (sym c.self.view_is) c.requires in
    subst (λ t. choose (get_or b i 0 + 1) t ≤ length c.deref.result.now) (sym c.set_size.ensures.value)
    (room_in c.choose_law.ensures.grows cell.v cell.t b (length c.deref.result.now) block.0
    (ap length c.deref.ensures.value ∙ c.self.invariant.0) i inside)

pub returns : goal.returns
returns c = λ bs cs is.
    let cell = c.self.inside.cell in
    let b = c.args.block.now in
    let old = c.self.inside.counts.items in
    let limits = c.set_size.ensures.limits in
    let block = subst (λ (s : Tally). IsBlock s.cell.v s.cell.k b) (sym c.self.view_is) c.requires in
    let cell_is : cell ≡ c.args.self.now.cell = ap (λ (s : Tally). s.cell) c.self.view_is in
    let counts_is : old ≡ multiplicities (bs ++ b ∷ cs) cell =
    ap (λ (s : Tally). s.counts) (c.self.view_is ∙ is) ∙ ap (multiplicities (bs ++ b ∷ cs)) (sym cell_is) in
    let sized = subst (λ t. IsTrue c.each_twice.result
    ↔ ((r : ℕ) → IsRankAmong b t 0 r → 2 ≤ get_or c.deref.result.now r 0)) c.set_size.ensures.value
    c.each_twice.ensures in
    let twice = subst (λ ns. IsTrue c.each_twice.result
    ↔ ((r : ℕ) → IsRankAmong b cell.t 0 r → 2 ≤ get_or ns r 0)) c.deref.ensures.value sized in
    let spare = twice_is_spare c.set_laws.ensures c.multiplicity_law.ensures.within cell (omega (arith, limits)) bs cs b
    old block.0 counts_is in
    subst (λ (k : Triple). IsTrue c.each_twice.result ↔ ((s : List ℕ) → IsBlock k.v k.t s
    → IsTrue (contains_set s b) → 1 ≤ multiplicity (bs ++ cs) s)) cell_is
    (λ yes. spare.0 (twice.0 yes), λ means. twice.1 (spare.1 means))
