use Rattle.std.proofs.Common.{◌≡◌, ◌<◌, ◌≤◌, ◌+◌, ◌++◌, ℕ, List, length, take, sym, subst, arith}
use Rattle.std.specs.Prelude.{All, IsPermutation}
use Rattle.std.specs.List.{remove}
use Rattle.lj_build.specs.Matching.{IsAt, LacksIn, uploads_at}
use Rattle.lj_build.proofs.Taking.{all_remove, room_left, stuck, taken_more}
use Rattle.lj_build.proofs.matching.take_out_all.Goals as goal

pub returns-in-None-clause-takes : goal.returns-in-None-clause-takes
returns-in-None-clause-takes c =
    let held = c.args.held.now in
    let up = c.up-item.result in
    let lacks : LacksIn held c.loop-up.places.items 0 (length c.loop-up.places.items) up =
    subst (λ (ps : List ℕ). LacksIn held ps 0 (length ps) up) c.deref.ensures.value c.in-None.ensures in
    stuck held c.args.places.now.items c.loop-up.places.items c.args.uploads.now c.loop-up.up-index up (omega arith)
    c.up-item.is lacks c.loop-up.invariant.taken

pub loop-up-preserved : goal.loop-up-preserved
loop-up-preserved c =
    let held = c.args.held.now in
    let places = c.loop-up.places.items in
    let j = c.in-Some.j in
    let up = c.up-item.result in
    let at : (j < length places) × IsAt held places j up =
    subst (λ (ps : List ℕ). (j < length ps) × IsAt held ps j up) c.deref.ensures.value c.in-Some.ensures in
    let now : c.remove.new.self.items ≡ remove places j = c.remove.ensures.items in
    let inside : All (λ i. i < length held) (remove places j) =
    all_remove (length held) places j at.0 c.loop-up.invariant.inside in
    let taken = taken_more held c.args.places.now.items places c.args.uploads.now c.loop-up.up-index j up
    (omega arith) c.up-item.is at.0 at.1 c.loop-up.invariant.taken in
    record {
      inside = subst (λ (ps : List ℕ). All (λ i. i < length held) ps) (sym now) inside;
      from = subst (λ (ps : List ℕ). j ≤ length ps) (sym now) (room_left places j at.0);
      taken = subst (λ (ps : List ℕ). IsPermutation (uploads_at held c.args.places.now.items)
          (take (c.loop-up.up-index + 1) c.args.uploads.now ++ uploads_at held ps)) (sym now) taken;
    }
