use Rattle.std.proofs.Common.{◌≡◌, ◌∷◌}
use Rattle.lj_cert.proofs.nodes.read_head.Goals as goal

pub returns-in_err-v-clause-none : goal.returns-in_err-v-clause-none
returns-in_err-v-clause-none c =
    let first = c.in_ok-first.ensures.first in
    rw c.from_residual-in_err-v.ensures (λ word d cost fields h.
    let left : c.next.new.self ≡ h.v ∷ h.k ∷ h.t ∷ h.last ∷ fields =
    cc (first.1, c.in_ok-word.ensures.steps, h.words_are) in
    c.in_err-v.ensures.no_first h.v (h.k ∷ h.t ∷ h.last ∷ fields) d.v left h.v_is)

pub returns-in_err-k-clause-none : goal.returns-in_err-k-clause-none
returns-in_err-k-clause-none c =
    let first = c.in_ok-first.ensures.first in
    let v = c.in_ok-v.ensures.first in
    rw c.from_residual-in_err-k.ensures (λ word d cost fields h.
    let left : c.next_number-2.new.words ≡ h.k ∷ h.t ∷ h.last ∷ fields =
    cc (first.1, c.in_ok-word.ensures.steps, v.1, h.words_are) in
    c.in_err-k.ensures.no_first h.k (h.t ∷ h.last ∷ fields) d.k left h.k_is)

pub returns-in_err-t-clause-none : goal.returns-in_err-t-clause-none
returns-in_err-t-clause-none c =
    let first = c.in_ok-first.ensures.first in
    let v = c.in_ok-v.ensures.first in
    let k = c.in_ok-k.ensures.first in
    rw c.from_residual-in_err-t.ensures (λ word d cost fields h.
    let left : c.next_number-3.new.words ≡ h.t ∷ h.last ∷ fields =
    cc (first.1, c.in_ok-word.ensures.steps, v.1, k.1, h.words_are) in
    c.in_err-t.ensures.no_first h.t (h.last ∷ fields) d.t left h.t_is)

pub returns-in_err-cost-clause-none : goal.returns-in_err-cost-clause-none
returns-in_err-cost-clause-none c =
    let first = c.in_ok-first.ensures.first in
    let v = c.in_ok-v.ensures.first in
    let k = c.in_ok-k.ensures.first in
    let t = c.in_ok-t.ensures.first in
    rw c.from_residual-in_err-cost.ensures (λ word d cost fields h.
    let left : c.next_number-4.new.words ≡ h.last ∷ fields =
    cc (first.1, c.in_ok-word.ensures.steps, v.1, k.1, t.1, h.words_are) in
    c.in_err-cost.ensures.no_first h.last fields cost left h.cost_is)
