use Rattle.std.proofs.Common.{◌≡◌, ◌+◌, ◌≤◌, ◌∷◌, ◌++◌, length, get_or, arith, ap, sym, subst, ◌∙◌}
use Rattle.std.proofs.lemmas.List.{with_items_is}
use Rattle.lj_base.specs.Blocks.{IsBlock}
use Rattle.lj_base.specs.Colex.{choose}
use Rattle.lj_verify.specs.Marks.{IsRankAmong}
use Rattle.lj_excess.specs.Changes.{Changed, shifted}
use Rattle.lj_excess.specs.Multiplicities.{Tally, multiplicities}
use Rattle.lj_excess.proofs.BlockTallies.{room_in, tally_removed, tally_parts}
use Rattle.lj_excess.proofs.counts.Counts.remove.Goals as goal

pub shift_block-requires-clause-some : goal.shift_block-requires-clause-some
shift_block-requires-clause-some c =
    let cell = c.self.inside.cell in
    let limits = c.set_size.ensures.limits in
    let many = c.choose_law.ensures.some cell.v cell.t (omega (arith, limits)) in
    let count = c.self.invariant.0 in
    omega (arith, many, count, ap length c.deref_mut.ensures.value)

pub shift_block-requires-clause-room : goal.shift_block-requires-clause-room
shift_block-requires-clause-room c = λ i inside.
    let cell = c.self.inside.cell in
    let b = c.args.block.now in
    let block = subst (λ (s : Tally). IsBlock s.cell.v s.cell.k b) (sym c.self.view_is) c.requires in
    subst (λ t. choose (get_or b i 0 + 1) t ≤ length c.deref_mut.result.now) (sym c.set_size.ensures.value)
    (room_in c.choose_law.ensures.grows cell.v cell.t b (length c.deref_mut.result.now) block.0
    (ap length c.deref_mut.ensures.value ∙ c.self.invariant.0) i inside)

pub returns-clause-counts : goal.returns-clause-counts
returns-clause-counts c = λ bs cs short is.
    let cell = c.self.inside.cell in
    let b = c.args.block.now in
    let new = c.shift_block.new.counts in
    let old = c.self.inside.counts.items in
    let limits = c.set_size.ensures.limits in
    let block = subst (λ (s : Tally). IsBlock s.cell.v s.cell.k b) (sym c.self.view_is) c.requires in
    let cell_is : cell ≡ c.args.self.now.cell = ap (λ (s : Tally). s.cell) c.self.view_is in
    let counts_is : old ≡ multiplicities (bs ++ c.args.block.now ∷ cs) cell =
    ap (λ (s : Tally). s.counts) (c.self.view_is ∙ is) ∙ ap (multiplicities (bs ++ c.args.block.now ∷ cs))
    (sym cell_is) in
    let sized = subst (λ t. Changed (shifted 4294967295) c.deref_mut.result.now new
    (IsRankAmong b t 0)) c.set_size.ensures.value
    c.shift_block.ensures in
    let changed = subst (λ ns. Changed (shifted 4294967295) ns new
    (IsRankAmong b cell.t 0)) c.deref_mut.ensures.value sized in
    let now = tally_removed c.set_laws.ensures c.multiplicity_law.ensures.within c.tally_law.ensures.ranks cell
    (omega (arith, limits)) bs cs b old new block.0 short counts_is changed in
    tally_parts cell c.args.self.now.cell _ (multiplicities (bs ++ cs) c.args.self.now.cell) cell_is
    (with_items_is c.self.inside.counts new (c.shift_block.ensures.count ∙ c.deref_mut.ensures.len) ∙ now
    ∙ ap (multiplicities (bs ++ cs)) cell_is)
