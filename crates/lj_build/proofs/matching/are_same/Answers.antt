use Rattle.std.proofs.Common.{◌≡◌, ◌<◌, ◌++◌, ℕ, List, length, take, sym, ap, ◌∙◌, subst, arith}
use Rattle.std.specs.Prelude.{◌==◌, All, IsPermutation, vec_len}
use Rattle.std.specs.List.{range_with_len}
use Rattle.std.proofs.lemmas.Bool.{false≢true}
use Rattle.std.proofs.lemmas.List.{take_all}
use Rattle.std.proofs.lemmas.List.Sorted.{IsPermutation-refl}
use Rattle.lj_cover.specs.Rules.{Upload}
use Rattle.lj_session.specs.declared.ends.SessionEnd.{SessionEnd}
use Rattle.lj_build.specs.Matching.{uploads_at}
use Rattle.lj_build.specs.Runs.{uploads_of}
use Rattle.lj_build.proofs.Taking.{emptied, matched_more, not_matched, places_below, uploads_at_all}
use Rattle.lj_build.proofs.matching.are_same.Goals as goal

pub loop-end-init : goal.loop-end-init
loop-end-init c =
    let held : List Upload = c.args.held.now in
    let all : c.in_ok-places.places.items ≡ range_with_len 0 (length held) = c.in_ok-places.ensures in
    record {
      inside = subst (λ (ps : List ℕ). All (λ i. i < length held) ps) (sym all) (places_below (length held));
      matched = subst (λ (us : List Upload). IsPermutation held us)
          (sym (ap (λ (ps : List ℕ). uploads_at held ps) all ∙ uploads_at_all held)) (IsPermutation-refl held);
    }

pub returns-then-not-take_out_all : goal.returns-then-not-take_out_all
returns-then-not-take_out_all c =
    let held : List Upload = c.args.held.now in
    let ends : List SessionEnd = c.args.ends.now in
    let before : List ℕ = c.loop-end.places.items in
    let e : SessionEnd = c.end-item.result in
    let none = subst (λ (us : List Upload). (done rest : List Upload)
    → IsPermutation (done ++ uploads_at held before) (done ++ (us ++ rest)) → ⊥) c.items.ensures
    c.if-not-take_out_all.ensures.takes in (
      λ t. absurd (false≢true t),
      λ p. absurd (not_matched held ends c.loop-end.end-index e before (omega arith) c.end-item.is
          c.loop-end.invariant.matched none p),
    )

pub loop-end-preserved : goal.loop-end-preserved
loop-end-preserved c =
    let held : List Upload = c.args.held.now in
    let ends : List SessionEnd = c.args.ends.now in
    let before : List ℕ = c.loop-end.places.items in
    let now : List ℕ = c.take_out_all.new.places.items in
    let e : SessionEnd = c.end-item.result in
    let takes : IsPermutation (uploads_at held before) (e.accepted ++ uploads_at held now) =
    subst (λ (us : List Upload). IsPermutation (uploads_at held before) (us ++ uploads_at held now)) c.items.ensures
    c.if-not-take_out_all.ensures.takes in record {
      inside = c.take_out_all.ensures.places;
      matched = matched_more held ends c.loop-end.end-index e before now (omega arith) c.end-item.is
          c.loop-end.invariant.matched takes;
    }

pub returns : goal.returns
returns c =
    let held : List Upload = c.args.held.now in
    let ends : List SessionEnd = c.args.ends.now in
    let left : List ℕ = c.loop-end.places.items in
    let all : take c.loop-end.end-index ends ≡ ends = take_all c.loop-end.end-index ends (omega arith) in
    let matched : IsPermutation held (uploads_of ends ++ uploads_at held left) =
    subst (λ (es : List SessionEnd). IsPermutation held (uploads_of es ++ uploads_at held left)) all
    c.loop-end.invariant.matched in
    let count : vec_len c.loop-end.places ≡ length left = omega (arith, c.loop-end.places.ok.0) in
    emptied held (uploads_of ends) left c.is_empty.result
    (c.is_empty.ensures ∙ ap (λ (n : ℕ). n == 0) count) matched
