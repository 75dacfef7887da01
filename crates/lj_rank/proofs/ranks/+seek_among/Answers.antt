use Rattle.std.proofs.Common.{◌-◌, ◌++◌, take, [], ◌∷◌, arith, sym, subst}
use Rattle.std.proofs.lemmas.List.{length-take-le}
use Rattle.lj_base.proofs.Ascending.{AllBelow-from_Ascends, Ascends-take}
use Rattle.lj_rank.specs.Ranks.{IsFirstFrom}
use Rattle.lj_rank.proofs.Subsets.{NoneFrom, NoneFrom-without, NoneFrom-with, IsFirstFrom-without, IsFirstFrom-with}
use Rattle.lj_rank.proofs.Subsets.{subset-count, Ascends-subset, IsLastOf-from_place}
use Rattle.lj_rank.proofs.ranks.+seek_among.Goals as goal
use Rattle.lj_rank.proofs.ranks.+seek_among.Goals.{then-least-before+in_default, else-least-before}

pub returns-then-n-t-clause-none : goal.returns-then-n-t-clause-none
returns-then-n-t-clause-none t c s h =
    let b = c.args.block.now in
    let n = c.args.n in
    let short = subset-count 99 (take n b) (omega arith) (Ascends-take 0 99 b n c.requires.ascends) c.args.t s h in
    let count = length-take-le n b c.requires.within in
    absurd (omega arith)

pub binom-before-requires-clause-few_points : goal.binom-before-requires-clause-few_points
binom-before-requires-clause-few_points t c =
    let last =
    IsLastOf-from_place c.args.block.now c.args.n c.at-last.result c.requires.ascends (omega arith) c.requires.within
    c.at-last.ensures in
    omega (arith, last.below)

pub returns-in-Some-clause-first : goal.returns-in-Some-clause-first
returns-in-Some-clause-first t c =
    let b = c.args.block.now in
    let point = c.at-last.result in
    let last =
    IsLastOf-from_place b c.args.n point c.requires.ascends (omega arith) c.requires.within c.at-last.ensures in
    subst (λ d. IsFirstFrom d c.args.t c.args.least c.in-Some.set) (sym last.split)
    (IsFirstFrom-without (take (c.args.n - 1) b) point c.args.t c.args.least c.in-Some.set last.others last.below
    (omega arith) (omega arith) c.in-Some.ensures.first)

pub returns-in_err-set-clause-none : goal.returns-in_err-set-clause-none
returns-in_err-set-clause-none t c =
    let b = c.args.block.now in
    let point = c.at-last.result in
    let last =
    IsLastOf-from_place b c.args.n point c.requires.ascends (omega arith) c.requires.within c.at-last.ensures in
    let none : NoneFrom (take (c.args.n - 1) b) c.args.t c.args.least =
    elim c.if-least-before.branch [
      | then-least-before+in_default w ↦ w.in_default.ensures.none
      | else-least-before w ↦ NoneFrom-without _ c.at-last.result _ _ last.others (omega arith)
    ] in
    rw c.from_residual.ensures
    (subst (λ d. NoneFrom d c.args.t c.args.least) (sym last.split)
    (NoneFrom-with (take (c.args.n - 1) b) point c.args.t c.args.least c.saturating_sub.result last.others last.below
    (omega arith) (omega arith) none c.in_err-set.ensures.none))

pub push-requires-clause-in_range : goal.push-requires-clause-in_range
push-requires-clause-in_range t c =
    let last =
    IsLastOf-from_place c.args.block.now c.args.n c.at-last.result c.requires.ascends (omega arith) c.requires.within
    c.at-last.ensures in
    last.below

pub push-requires-clause-greatest : goal.push-requires-clause-greatest
push-requires-clause-greatest t c =
    let b = c.args.block.now in
    let point = c.at-last.result in
    let last =
    IsLastOf-from_place b c.args.n point c.requires.ascends (omega arith) c.requires.within c.at-last.ensures in
    let found = c.in_ok-set.ensures.first in
    AllBelow-from_Ascends 0 c.at-last.result c.in_ok-set.set
    (Ascends-subset c.at-last.result (c.args.t - 1) (take (c.args.n - 1) b) c.in_ok-set.set last.others found.subset)

pub returns-clause-first : goal.returns-clause-first
returns-clause-first t c =
    let b = c.args.block.now in
    let point = c.at-last.result in
    let last =
    IsLastOf-from_place b c.args.n point c.requires.ascends (omega arith) c.requires.within c.at-last.ensures in
    let none : NoneFrom (take (c.args.n - 1) b) c.args.t c.args.least =
    elim c.if-least-before.branch [
      | then-least-before+in_default w ↦ w.in_default.ensures.none
      | else-least-before w ↦ NoneFrom-without _ c.at-last.result _ _ last.others (omega arith)
    ] in
    subst (λ s. IsFirstFrom (take c.args.n b) c.args.t c.args.least s) (sym c.push.ensures)
    (subst (λ d. IsFirstFrom d c.args.t c.args.least (c.in_ok-set.set ++ c.at-last.result ∷ [])) (sym last.split)
    (IsFirstFrom-with (take (c.args.n - 1) b) point c.args.t c.args.least c.saturating_sub.result c.in_ok-set.set
    last.others last.below (omega arith) (omega arith) none c.in_ok-set.ensures.first))
