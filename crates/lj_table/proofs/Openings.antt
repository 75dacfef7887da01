-- Openings, one after another.
use Rattle.std.proofs.Common.{◌≡◌, ◌≢◌, ◌↔◌, ◌⊎◌, ℕ, Bool, true, false, not, ◌&&◌, List, get_or, refl, sym, ap, ◌∙◌}
use Rattle.std.proofs.Common.{[], ◌∷◌, ◌++◌, append_assoc, arith, subst, inl, inr, ⊎_elim, ◌<◌, ◌≤◌, suc, zero}
use Rattle.std.proofs.Common.{length, map}
use Rattle.std.proofs.lemmas.Bool.{cases_eq, cases_Bool, true_from_ne_false}
use Rattle.std.proofs.lemmas.List.{append-nil, get_or-map, length-map, map-append}
use Rattle.std.proofs.lemmas.List.Elements.{Contains-append_cases, Contains-append_left, Contains-append_right}
use Rattle.std.proofs.lemmas.List.Elements.{Contains-get_or, Contains-push, Contains-push_cases}
use Rattle.std.specs.List.{Contains}
use Rattle.lj_base.specs.Cells.{Triple}
use Rattle.lj_base.specs.Blocks.{Ascends}
use Rattle.lj_base.specs.Frames.{InFrame, Top, index_of, size_of}
use Rattle.lj_base.proofs.Ascending.{Ascends-back, Ascends-get_or_from}
use Rattle.lj_cover.specs.Instances.{Reads}
use Rattle.lj_relax.specs.Readers.{AreReaders}
use Rattle.lj_table.specs.Opening.{AreOpened, IsOpenAfter, IsOpened, IsOpenedAt, IsReopened}
use Rattle.lj_table.specs.Tables.{IsIndexed}
use Rattle.lj_table.proofs.ByCell.{apart, cell_cases, same_bool}

pub none_opened : (closed busy : List Bool) → AreOpened closed busy closed busy
none_opened closed busy = record {
  closed_len = refl;
  busy_len = refl;
  falls = λ i t. t;
  untaken = λ i. (λ h. inl h, λ h. ⊎_elim (λ l. l) (λ r. absurd (apart (sym r.before ∙ r.after))) h);
}

pub both_opened : (c1 b1 c2 b2 c3 b3 : List Bool) → AreOpened c1 b1 c2 b2 → AreOpened c2 b2 c3 b3
    → AreOpened c1 b1 c3 b3
both_opened c1 b1 c2 b2 c3 b3 g h = record {
  closed_len = h.closed_len ∙ g.closed_len;
  busy_len = h.busy_len ∙ g.busy_len;
  falls = λ i k. g.falls i (h.falls i k);
  untaken = λ i. (
    λ q. ⊎_elim
        (λ e. ⊎_elim (λ k. inl k) (λ r. inr (record { before = r.before; after = stays i r.after }))
        ((g.untaken i).0 e))
        (λ r. inr (record { before = g.falls i r.before; after = r.after })) ((h.untaken i).0 q),
    λ w. ⊎_elim (λ e. (h.untaken i).1 (inl ((g.untaken i).1 (inl e))))
        (λ r. ⊎_elim (λ up. (h.untaken i).1 (inr (record { before = up; after = r.after })))
        (λ down. (h.untaken i).1 (inl ((g.untaken i).1 (inr (record { before = r.before; after = down })))))
        (cases_Bool (get_or c2 i false))) w,
  );
}
  where
    stays : (i : ℕ) → get_or c2 i false ≡ false → get_or c3 i false ≡ false
    stays i e = ⊎_elim (λ up. absurd (apart (sym (h.falls i up) ∙ e))) (λ down. down) (cases_Bool (get_or c3 i false))

-- a place that was closed or taken stays one of both
pub still_busy : (c1 b1 c2 b2 : List Bool) (i : ℕ) → AreOpened c1 b1 c2 b2
    → (get_or c1 i false ≡ true → get_or b1 i false ≡ true) → get_or c2 i false ≡ true → get_or b2 i false ≡ true
still_busy c1 b1 c2 b2 i h was now =
    true_from_ne_false (get_or b2 i false)
    (λ q. ⊎_elim (λ b. apart (sym (was (h.falls i now)) ∙ b)) (λ r. apart (sym now ∙ r.after)) ((h.untaken i).0 q))

-- who has taken an open cell stays so
pub still_taken : (c1 b1 c2 b2 : List Bool) (i : ℕ) → AreOpened c1 b1 c2 b2
    → (get_or b2 i false && not (get_or c2 i false)) ≡ (get_or b1 i false && not (get_or c1 i false))
still_taken c1 b1 c2 b2 i h =
    ⊎_elim
    (λ up. ⊎_elim
    (λ now. ap (λ x. get_or b2 i false && not x) now ∙ none (get_or b2 i false) ∙ sym (none (get_or b1 i false))
    ∙ ap (λ x. get_or b1 i false && not x) (sym up))
    (λ now. ap (λ x. x && not (get_or c2 i false)) ((h.untaken i).1 (inr (record { before = up; after = now })))
    ∙ sym (none (get_or b1 i false)) ∙ ap (λ x. get_or b1 i false && not x) (sym up))
    (cases_Bool (get_or c2 i false)))
    (λ down.
    let now : get_or c2 i false ≡ false = stays down in
    let same : get_or b2 i false ≡ get_or b1 i false = same_bool (get_or b2 i false) (get_or b1 i false) (
      λ q. ⊎_elim (λ e. e) (λ r. absurd (apart (sym r.before ∙ down))) ((h.untaken i).0 q),
      λ e. (h.untaken i).1
          (inl e),
    ) in
    ap (λ x. x && not (get_or c2 i false)) same ∙ ap (λ x. get_or b1 i false && not x) (now ∙ sym down))
    (cases_Bool (get_or c1 i false))
  where
    none : (b : Bool) → (b && not true) ≡ false
    none true = refl
    none false = refl

    stays : get_or c1 i false ≡ false → get_or c2 i false ≡ false
    stays e = ⊎_elim (λ up. absurd (apart (sym (h.falls i up) ∙ e))) (λ down. down) (cases_Bool (get_or c2 i false))

pub opened_none : (f : Top) (P : Triple → Type 0) (closed busy : List Bool) → ((d : Triple) → InFrame f d → P d → ⊥)
    → IsOpened f P closed busy closed busy
opened_none f P closed busy none = record {
  marks = none_opened closed busy;
  opened = λ d i. (λ q. inl q, λ w. ⊎_elim (λ q. q) (λ p. absurd (none d i p)) w);
}

pub opened_as : (f : Top) (P Q : Triple → Type 0) (closed busy closed2 busy2 : List Bool)
    → ((d : Triple) → InFrame f d → P d ↔ Q d) → IsOpened f P closed busy closed2 busy2
    → IsOpened f Q closed busy closed2 busy2
opened_as f P Q closed busy closed2 busy2 same h = record {
  marks = h.marks;
  opened = λ d i. (
    λ q. ⊎_elim (λ e. inl e) (λ p. inr ((same d i).0 p)) ((h.opened d i).0 q),
    λ w. (h.opened d i).1 (⊎_elim (λ e. inl e) (λ p. inr ((same d i).1 p)) w),
  );
}

pub opened_both : (f : Top) (P Q : Triple → Type 0) (c1 b1 c2 b2 c3 b3 : List Bool) → IsOpened f P c1 b1 c2 b2
    → IsOpened f Q c2 b2 c3 b3 → IsOpened f (λ d. P d ⊎ Q d) c1 b1 c3 b3
opened_both f P Q c1 b1 c2 b2 c3 b3 g h = record {
  marks = both_opened c1 b1 c2 b2 c3 b3 g.marks h.marks;
  opened = λ d i. (
    λ q. ⊎_elim (λ e. ⊎_elim (λ k. inl k) (λ p. inr (inl p)) ((g.opened d i).0 e)) (λ p. inr (inr p))
        ((h.opened d i).0 q),
    λ w. (h.opened d i).1 (⊎_elim (λ e. inl ((g.opened d i).1 (inl e)))
        (λ p. ⊎_elim (λ l. inl ((g.opened d i).1 (inr l))) (λ r. inr r) p) w),
  );
}

abbrev IsLoosened : (closed busy closed2 busy2 : List Bool) → ℕ → Type 0
IsLoosened closed busy closed2 busy2 i =
    (get_or busy2 i false ≡ false) ↔ ((get_or busy i false ≡ false) ⊎ IsOpenedAt i closed closed2)

-- the cell at a place
pub opened_one : (f : Top) → IsIndexed f → (d : Triple) (j : ℕ) (closed busy closed2 busy2 : List Bool) → InFrame f d
    → j ≡ index_of f d → IsReopened j closed busy closed2 busy2 → IsOpened f (λ e. e ≡ d) closed busy closed2 busy2
opened_one f ix d j closed busy closed2 busy2 inside at r = record {
  marks = record {
    closed_len = r.closed_len;
    busy_len = r.busy_len;
    falls = λ i t. ⊎_elim (λ e. absurd (apart (sym t ∙ ap (λ k. get_or closed2 k false) e ∙ r.here)))
        (λ other. sym (r.others i other) ∙ t) (cases_eq i j);
    untaken = λ i. ⊎_elim (λ e. subst (IsLoosened closed busy closed2 busy2) (sym e) here) (λ other. away i other)
        (cases_eq i j);
  };
  opened = λ e i. ⊎_elim
      (λ same. (
        λ _. inr same,
        λ _. ap (λ z. get_or closed2 (index_of f z) false) same ∙ ap
            (λ k. get_or closed2 k false) (sym at) ∙ r.here,
      ))
      (λ other. let kept = r.others (index_of f e) (λ q. other (ix.one e d i inside (q ∙ at))) in
      (λ q. inl (sym kept ∙ q), λ w. ⊎_elim (λ q. kept ∙ q) (λ p. absurd (other p)) w))
      (cell_cases e d);
}
  where
    here : IsLoosened closed busy closed2 busy2 j
    here = ⊎_elim (λ t. (λ _. inr (record { before = t; after = r.here }), λ _. r.was t))
        (λ e. (
          λ b. inl (sym (r.kept e) ∙ b),
          λ w. r.kept e ∙ ⊎_elim (λ l. l)
              (λ q. absurd (apart (sym q.before ∙ e))) w,
        ))
        (cases_Bool (get_or closed j false))

    away : (i : ℕ) → i ≢ j → IsLoosened closed busy closed2 busy2 i
    away i other = (
      λ b. inl (sym (r.busy_others i other) ∙ b),
      λ w. ⊎_elim (λ l. r.busy_others i other ∙ l)
          (λ q. absurd (apart (sym q.before ∙ sym (r.others i other) ∙ q.after))) w,
    )

-- in a list whose numbers ascend none comes after a greater one
in_order : (g : Triple → ℕ) (n : ℕ) (done left : List Triple) (d x : Triple)
    → Ascends 0 n (map g (done ++ d ∷ left)) → Contains (d ∷ left) x → g d ≤ g x
in_order g n done left d x h has =
    from_first has.0 (Ascends-back 0 n (map g done) (map g (d ∷ left))
    (subst (Ascends 0 n) (map-append g done (d ∷ left)) h)) has.1 has.2
  where
    from_first : (i : ℕ) → Ascends 0 n (map g (d ∷ left)) → i < length (d ∷ left) → get_or (d ∷ left) i x ≡ x
        → g d ≤ g x
    from_first zero a lt is = omega (arith, ap g is)
    from_first (suc k) a lt is =
        let low : k < length left = omega (arith, lt) in
        let from = Ascends-get_or_from (suc (g d)) n (map g left) k a.2 (omega (arith, low, length-map left g)) in
        omega (arith, from, get_or-map g left k x 0 low, ap g is)

-- a walk through the cells that read a cell: of those that it has come to, the ones with P have been opened
pub record IsWalk (f : Top) (c : Triple) (P : Triple → Type 0) (left : List Triple)
    (closed busy closed2 busy2 : List Bool)
    : Type 0 where
  pub done : List Triple
  pub readers : AreReaders f c (done ++ left)
  pub opened : IsOpened f (λ d. P d × Contains done d) closed busy closed2 busy2

pub walk_begins : (f : Top) (c : Triple) (P : Triple → Type 0) (left : List Triple) (closed busy : List Bool)
    → AreReaders f c left → IsWalk f c P left closed busy closed busy
walk_begins f c P left closed busy h = record {
  done = [];
  readers = h;
  opened = opened_none f (λ d. P d × Contains [] d) closed busy (λ d i p. nothing d p.1);
}
  where
    nothing : (d : Triple) → Contains [] d → ⊥
    nothing d h = omega (arith, h.1)

walk_on : (f : Top) (c d : Triple) (left : List Triple) (done : List Triple) → AreReaders f c (done ++ d ∷ left)
    → AreReaders f c ((done ++ d ∷ []) ++ left)
walk_on f c d left done h = subst (AreReaders f c) (sym (append_assoc done (d ∷ []) left)) h

pub walk_opens : (f : Top) → IsIndexed f → (c d : Triple) (P : Triple → Type 0) (left before : List Triple) (j : ℕ)
    (c1 b1 c2 b2 c3 b3 : List Bool) → InFrame f d → j ≡ index_of f d → P d → before ≡ d ∷ left
    → IsReopened j c2 b2 c3 b3 → IsWalk f c P before c1 b1 c2 b2 → IsWalk f c P left c1 b1 c3 b3
walk_opens f ix c d P left before j c1 b1 c2 b2 c3 b3 inside at holds e r w = record {
  done = w.done ++ d ∷ [];
  readers = walk_on f c d left w.done (subst (λ ds. AreReaders f c (w.done ++ ds)) e w.readers);
  opened = opened_as f (λ x. (P x × Contains w.done x) ⊎ (x ≡ d)) (λ x. P x × Contains (w.done ++ d ∷ []) x) c1 b1 c3 b3
      (λ x i. (
        λ q. ⊎_elim (λ p. (p.0, Contains-append_left w.done (d ∷ []) x p.1))
            (λ s. (subst P (sym s) holds, subst (Contains (w.done ++ d ∷ [])) (sym s) (Contains-push w.done d))) q,
        λ p. ⊎_elim (λ has. inl (p.0, has)) (λ s. inr (sym s)) (Contains-push_cases w.done d x p.1),
      ))
      (opened_both f (λ x. P x × Contains w.done x) (λ x. x ≡ d) c1 b1 c2 b2 c3 b3 w.opened
      (opened_one f ix d j c2 b2 c3 b3 inside at r));
}

pub walk_skips : (f : Top) (c d : Triple) (P : Triple → Type 0) (left before : List Triple) (c1 b1 c2 b2 : List Bool)
    → (P d → ⊥) → before ≡ d ∷ left → IsWalk f c P before c1 b1 c2 b2 → IsWalk f c P left c1 b1 c2 b2
walk_skips f c d P left before c1 b1 c2 b2 none e w = record {
  done = w.done ++ d ∷ [];
  readers = walk_on f c d left w.done (subst (λ ds. AreReaders f c (w.done ++ ds)) e w.readers);
  opened = opened_as f (λ x. P x × Contains w.done x) (λ x. P x × Contains (w.done ++ d ∷ []) x) c1 b1 c2 b2
      (λ x i. (
        λ p. (p.0, Contains-append_left w.done (d ∷ []) x p.1),
        λ p. ⊎_elim (λ has. (p.0, has)) (λ s. absurd (none (subst P (sym s) p.0))) (Contains-push_cases w.done d x p.1),
      ))
      w.opened;
}

pub walk_ends : (f : Top) (c : Triple) (P : Triple → Type 0) (left : List Triple) (c1 b1 c2 b2 : List Bool) → left ≡ []
    → IsWalk f c P left c1 b1 c2 b2 → IsOpened f (λ d. P d × Reads f d c) c1 b1 c2 b2
walk_ends f c P left c1 b1 c2 b2 e w =
    let all : AreReaders f c w.done =
    subst (AreReaders f c) (ap (λ ds. w.done ++ ds) e ∙ append-nil w.done) w.readers in
    opened_as f (λ x. P x × Contains w.done x) (λ x. P x × Reads f x c) c1 b1 c2 b2
    (λ x i. (λ p. (p.0, ((all.members x).0 p.1).1), λ p. (p.0, (all.members x).1 (i, p.1)))) w.opened

-- a walk may end at a cell after which no cell was closed
pub walk_stops : (f : Top) (c d : Triple) (P : Triple → Type 0) (left before : List Triple) (last j : ℕ)
    (c1 b1 c2 b2 : List Bool) → before ≡ d ∷ left → j ≡ index_of f d → last < j → IsOpenAfter last c1
    → IsWalk f c P before c1 b1 c2 b2 → IsOpened f (λ d. P d × Reads f d c) c1 b1 c2 b2
walk_stops f c d P left before last j c1 b1 c2 b2 e at above after w =
    let all : AreReaders f c (w.done ++ d ∷ left) = subst (λ ds. AreReaders f c (w.done ++ ds)) e w.readers in
    record {
      marks = w.opened.marks;
      opened = λ x i. (
        λ q. ⊎_elim (λ was. inl was)
            (λ p. inr (p.0, ((all.members x).0 (Contains-append_left w.done (d ∷ left) x p.1)).1))
            ((w.opened.opened x i).0 q),
        λ q. (w.opened.opened x i).1 (⊎_elim (λ was. inl was)
            (λ p. ⊎_elim (λ has. inr (p.0, has))
            (λ has. inl (after (index_of f x)
            (omega (arith, above, at, in_order (index_of f) (size_of f) w.done left d x all.order has))))
            (Contains-append_cases w.done (d ∷ left) x ((all.members x).1 (i, p.1)))) q),
      );
    }

-- the cell that a walk comes to is in the frame
pub walk_inside : (f : Top) (c d : Triple) (P : Triple → Type 0) (left before : List Triple) (c1 b1 c2 b2 : List Bool)
    → before ≡ d ∷ left → IsWalk f c P before c1 b1 c2 b2 → InFrame f d
walk_inside f c d P left before c1 b1 c2 b2 e w =
    ((w.readers.members d).0 (Contains-append_right w.done before d (subst (λ ds. Contains ds d) (sym e) here))).0
  where
    here : Contains (d ∷ left) d
    here = Contains-get_or (d ∷ left) 0 d (omega arith)
