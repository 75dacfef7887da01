-- Closed cells that stay closed after a bound has fallen.
use Rattle.std.proofs.Common.{◌≡◌, ◌≤◌, ℕ, Bool, true, false, ◌&&◌, refl, sym, ap, ◌∙◌, subst, inl, inr, ⊎_elim}
use Rattle.std.proofs.Common.{Option, None, Some}
use Rattle.std.specs.Option.{IfSome}
use Rattle.lj_base.specs.Bounds.{at_cell}
use Rattle.lj_base.specs.Cells.{Triple}
use Rattle.lj_base.specs.Frames.{InFrame}
use Rattle.lj_relax.specs.Steps.{Publishes, Snapshot}
use Rattle.lj_table.specs.Keeping.{OnlyShuts, PublishesKeeping}
use Rattle.lj_table.specs.Settling.{IsKept, NoneCheaper}
use Rattle.lj_table.specs.Tables.{Contents, KeepsNodes, is_taken, state_of}

pub kept_at : (t n : Contents) (c : Triple)
    → ((d : Triple) → InFrame t.arena.frame d → (state_of t).pending d ≡ false
    → at_cell n.arena.frame n.bounds d ≤ at_cell n.arena.frame n.bounds c
    → NoneCheaper n.arena.frame n.bounds n.arena.uploads d)
    → (o : Option Triple) → IfSome o (InFrame t.arena.frame) → IfSome o (λ d. (state_of t).pending d ≡ false)
    → IsKept c n.arena n.bounds o
kept_at t n c least None inside closed = tt
kept_at t n c least (Some d) inside closed = least d inside closed

pub kept_same : (c : Triple) (t n : Contents) (o : Option Triple) → n.arena ≡ t.arena → n.bounds ≡ t.bounds
    → IsKept c t.arena t.bounds o → IsKept c n.arena n.bounds o
kept_same c t n o arena bounds h =
    subst (λ a. IsKept c a n.bounds o) (sym arena) (subst (λ bs. IsKept c t.arena bs o) (sym bounds) h)

pub only_none : (P : Triple → Type 0) (t : Contents) → OnlyShuts P t t
only_none P t = record {
  arena = refl;
  bounds = refl;
  nodes = refl;
  marks = λ c at. inl (record { pending = refl; taken = refl });
}

pub only_weaker : (P Q : Triple → Type 0) (t n : Contents) → ((c : Triple) → P c → Q c) → OnlyShuts P t n
    → OnlyShuts Q t n
only_weaker P Q t n weaker h = record {
  arena = h.arena;
  bounds = h.bounds;
  nodes = h.nodes;
  marks = λ c at. ⊎_elim (λ k. inl k) (λ k. inr (weaker c k.0, k.1)) (h.marks c at);
}

-- one after the other
pub only_both : (P : Triple → Type 0) (t m n : Contents) → OnlyShuts P t m → OnlyShuts P m n → OnlyShuts P t n
only_both P t m n g h = record {
  arena = h.arena ∙ g.arena;
  bounds = h.bounds ∙ g.bounds;
  nodes = h.nodes ∙ g.nodes;
  marks = λ c at. ⊎_elim
      (λ k. ⊎_elim
      (λ i. inl (record { pending = k.pending ∙ i.pending; taken = k.taken ∙ i.taken }))
      (λ i. inr (i.0, record { pending = k.pending ∙ i.1.pending; untaken = k.taken ∙ i.1.untaken })) (g.marks c at))
      (λ k. inr k)
      (h.marks c (subst (λ a. InFrame a.frame c) (sym g.arena) at));
}

-- a cell of which it is known that it was closed
pub only_closed : (s t n : Contents) (o : Option Triple) → IfSome o (λ d. (state_of s).pending d ≡ false)
    → OnlyShuts (λ d. o ≡ Some d) t n → OnlyShuts (λ d. (state_of s).pending d ≡ false) t n
only_closed s t n o closed h =
    only_weaker (λ d. o ≡ Some d) (λ d. (state_of s).pending d ≡ false) t n
    (λ d is. subst (λ o. IfSome o (λ d. (state_of s).pending d ≡ false)) is closed) h

none_taken : (b pending : Bool) → pending ≡ false → (b && pending) ≡ false
none_taken true pending e = e
none_taken false pending e = refl

-- a publication from s to t, after which cells that were closed in s may have been closed
module _ (s t n : Contents) (h : OnlyShuts (λ c. (state_of s).pending c ≡ false) t n) where
  pub keeping : (a : Snapshot) (best : Option ℕ) (lowered agreed : Bool)
      → Publishes (state_of s) a best lowered agreed (state_of t)
      → PublishesKeeping (state_of s) a best lowered agreed (state_of n)
  keeping a best lowered agreed step = record {
    published = state_of t;
    step = step;
    kept = record {
      frame = ap (λ a. a.frame) h.arena;
      uploads = ap (λ a. a.uploads) h.arena;
      bounds = λ c at. ap (λ a. at_cell a.frame n.bounds c) h.arena
          ∙ ap (λ bs. at_cell t.arena.frame bs c) h.bounds;
      pending = λ c at. ⊎_elim (λ k. inl k.pending) (λ k. inr (k.0, k.1.pending)) (h.marks c at);
    };
  }

  pub keeping_untaken : (c : Triple) → InFrame t.arena.frame c → is_taken t c ≡ false → is_taken n c ≡ false
  keeping_untaken c at free = ⊎_elim (λ k. k.taken ∙ free) (λ k. k.1.untaken) (h.marks c at)

  pub keeping_taken : (c : Triple) → InFrame t.arena.frame c → is_taken t c ≡ is_taken s c
      → is_taken n c ≡ is_taken s c
  keeping_taken c at same =
      ⊎_elim (λ k. k.taken ∙ same) (λ k. k.1.untaken ∙ sym (none_taken _ _ k.0)) (h.marks c at)

  pub keeping_nodes : KeepsNodes s t → KeepsNodes s n
  keeping_nodes kept c at same =
      ap (λ ns. at_cell s.arena.frame ns c) h.nodes
      ∙ kept c at (sym (ap (λ bs. at_cell s.arena.frame bs c) h.bounds) ∙ same)
