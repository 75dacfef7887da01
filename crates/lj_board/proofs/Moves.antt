-- Each step keeps the rule of the board.
use Rattle.std.proofs.Common.{◌≡◌, ◌≢◌, ◌⊎◌, ℕ, zero, suc, ◌+◌, ◌-◌, ◌<◌, ◌≤◌, min, List, [], ◌∷◌, length, get_or}
use Rattle.std.proofs.Common.{set, refl, sym, ap, ◌∙◌, subst, inl, inr, ⊎_elim, le_refl, le_trans, zero-le, add-one}
use Rattle.std.proofs.Common.{arith}
use Rattle.std.proofs.lemmas.List.{get_or-set_same, get_or-set_other, length-set}
use mathlib.Core.Option.{some, none, some-ne-none, some-injective}
use mathlib.Core.Logic.{dite}
use native.Mathlib.Decide.{ℕ_discrete}
use lib.ListN.{get_elem?}
use Rattle.atomic_table.specs.Table.{Allows, Joins, Me, Splits, State, keeps, opening, step}
use Rattle.atomic_table.proofs.Lists.{at_set, at_snoc}
use Rattle.lj_base.specs.Cells.{Triple}
use Rattle.lj_base.specs.Frames.{InFrame, Top, index_of, size_of}
use Rattle.lj_cover.specs.Rules.{Upload}
use Rattle.lj_cover.specs.Uses.{DerivableBy}
use Rattle.lj_board.specs.declared.steps.View.{View}
use Rattle.lj_board.specs.Rule.{BoardRule, IsAbove, Lowers, Peeks, first_view, joined_view, saw_at, spent_view}
use Rattle.lj_board.specs.Seen.{AreDerivable, greatest, seen_at}
use Rattle.lj_board.proofs.Lessers.{below_lesser, length-lesser}

abbrev S : Type 0
S = State (Unit {0}) View

pub word_falls : (ws : List ℕ) (j m : ℕ) → m ≤ get_or ws j 0 → (i : ℕ) → get_or (set ws j m) i 0 ≤ get_or ws i 0
word_falls [] j m h i = le_refl _
word_falls (x ∷ xs) zero m h zero = h
word_falls (x ∷ xs) zero m h (suc i) = le_refl _
word_falls (x ∷ xs) (suc j) m h zero = le_refl _
word_falls (x ∷ xs) (suc j) m h (suc i) = word_falls xs j m h i

-- one view is replaced
views_set : (f : Top) (ws : List ℕ) (views : List View) (id : ℕ) (w : View)
    → ((j : ℕ) (u : View) → get_elem? views j ≡ some u → IsAbove f ws u) → IsAbove f ws w
    → (j : ℕ) (u : View) → get_elem? (set views id w) j ≡ some u → IsAbove f ws u
views_set f ws views id w others mine j u e =
    ⊎_elim (λ (t : (j ≡ id) × (w ≡ u)). subst (IsAbove f ws) t.1 mine)
    (λ (t : (j ≢ id) × (get_elem? views j ≡ some u)). others j u t.1) (at_set views id j w u e)

-- no word has risen, so that a view stays above them
above_lower : (f : Top) (ws vs : List ℕ) (u : View) → ((i : ℕ) → get_or vs i 0 ≤ get_or ws i 0) → IsAbove f ws u
    → IsAbove f vs u
above_lower f ws vs u down a = (a.0, λ i inside. le_trans (down (i + 1)) (a.1 i inside))

module _ (f : Top) (allowed : Upload → Type 0) where
  -- the word of the cells at place p falls to m, and the seat has then seen n there
  pub falls : (s : S) (id p m n : ℕ) (v : View) → BoardRule f allowed s → get_elem? s.views id ≡ some v → v.frame ≡ f
      → length v.seen ≡ size_of f → p < size_of f → m ≤ get_or s.words (p + 1) 0
      → ((c : Triple) → InFrame f c → index_of f c ≡ p → DerivableBy f allowed c m) → m ≤ n
      → BoardRule f allowed (record {
        words = set s.words (p + 1) m;
        homes = s.homes;
        views = set s.views id (saw_at v p n);
      })
  falls s id p m n v r at fr len inside down der le =
      let ws : List ℕ = set s.words (p + 1) m in
      let there : p + 1 < length s.words = omega (arith, r.wide) in
      let w : View = saw_at v p n in
      let here : get_or ws (p + 1) 0 ≡ m = get_or-set_same s.words (p + 1) m 0 there in
      let seen_here : seen_at (set v.seen p n) p ≡ n = get_or-set_same v.seen p n greatest (omega (arith, len)) in
      let old : (i : ℕ) → i < size_of f → get_or s.words (i + 1) 0 ≤ seen_at v.seen i = (r.views id v at).1 in
      let mine : IsAbove f ws w = (
        inr (fr, length-set v.seen p n ∙ len),
        λ i h. dite (ℕ_discrete i p)
            (λ e. subst (λ (k : ℕ). get_or ws (k + 1) 0 ≤ seen_at (set v.seen p n) k) (sym e) (omega arith))
            (λ ne.
            let o : seen_at (set v.seen p n) i ≡ seen_at v.seen i = get_or-set_other v.seen p i n greatest ne in
            let d : get_or ws (i + 1) 0 ≤ get_or s.words (i + 1) 0 = word_falls s.words (p + 1) m down (i + 1) in
            let b : get_or s.words (i + 1) 0 ≤ seen_at v.seen i = old i h in omega arith),
      ) in record {
        wide = length-set s.words (p + 1) m ∙ r.wide;
        spare = get_or-set_other s.words (p + 1) 0 m 0 (omega arith) ∙ r.spare;
        small = λ i. le_trans (word_falls s.words (p + 1) m down i) (r.small i);
        derivable = λ c h. dite (ℕ_discrete (index_of f c) p)
            (λ e. subst (λ (k : ℕ). DerivableBy f allowed c (get_or ws (k + 1) 0)) (sym e)
            (subst (DerivableBy f allowed c) (sym here) (der c h e)))
            (λ ne. subst (DerivableBy f allowed c)
            (sym (get_or-set_other s.words (p + 1) (index_of f c + 1) m 0
            (λ (e : index_of f c + 1 ≡ p + 1). ne (omega arith)))) (r.derivable c h));
        views = views_set f ws s.views id w
            (λ j u e. above_lower f s.words ws u (word_falls s.words (p + 1) m down) (r.views j u e)) mine;
      }

  pub peeks : (slots id p : ℕ) (me : Me (Unit {0}) View) → me.0.frame ≡ f → length me.0.seen ≡ size_of f
      → p < size_of f
      → Allows (BoardRule f allowed) slots id me (p + 1) (λ n. n) (Peeks f allowed (step slots (p + 1) 0 0 none) me)
  peeks slots id p me fr len inside s r _ at _ =
      let n : ℕ = get_or s.words (p + 1) 0 in
      let le : n ≤ seen_at me.0.seen p = (r.views id me.0 at).1 p inside in
      let der : (c : Triple) → InFrame f c → index_of f c ≡ p → DerivableBy f allowed c n =
      λ c h e. subst (λ (k : ℕ). DerivableBy f allowed c (get_or s.words (k + 1) 0)) e (r.derivable c h) in
      let e : (p + 1) - 1 ≡ p = omega arith in (
        saw_at me.0 p n,
        keeps,
        tt,
        falls s id p n n me.0 r at fr len inside (le_refl n) der (le_refl n),
        rw e (der, le, refl),
      )

  pub lowers : (slots id p k : ℕ) (me : Me (Unit {0}) View) → me.0.frame ≡ f → length me.0.seen ≡ size_of f
      → p < size_of f → ((c : Triple) → InFrame f c → index_of f c ≡ p → DerivableBy f allowed c k)
      → Allows (BoardRule f allowed) slots id me (p + 1) (λ n. min n k) (λ n. Lowers (step slots (p + 1) k 0 none) me n)
  lowers slots id p k me fr len inside new s r _ at _ =
      let n : ℕ = get_or s.words (p + 1) 0 in
      let le : n ≤ seen_at me.0.seen p = (r.views id me.0 at).1 p inside in
      let e : (p + 1) - 1 ≡ p = omega arith in
      let q : ℕ = min (seen_at me.0.seen p) k in
      let both : (min n k ≡ n) ⊎ (min n k ≡ k) = grind arith in
      let der : (c : Triple) → InFrame f c → index_of f c ≡ p → DerivableBy f allowed c (min n k) =
      λ c h i. ⊎_elim (λ (a : min n k ≡ n). subst (DerivableBy f allowed c) (sym a)
      (subst (λ (j : ℕ). DerivableBy f allowed c (get_or s.words (j + 1) 0)) i (r.derivable c h)))
      (λ (a : min n k ≡ k). subst (DerivableBy f allowed c) (sym a) (new c h i)) both in (
        saw_at me.0 p q,
        keeps,
        tt,
        falls s id p (min n k) q me.0 r at fr len inside (omega arith) der (omega arith),
        rw e refl,
      )

  pub splits : (id : ℕ) (v : View) → Splits (BoardRule f allowed) id v v v
  splits id v s r at =
      let mine = r.views id v at in record {
        wide = r.wide;
        spare = r.spare;
        small = r.small;
        derivable = r.derivable;
        views = λ j u e. ⊎_elim (λ (was : get_elem? (set s.views id v) j ≡ some u).
            views_set f s.words s.views id v r.views mine j u was)
            (λ (same : v ≡ u). subst (IsAbove f s.words) same mine)
            (at_snoc (set s.views id v) v u j e);
      }

  pub joins : (id : ℕ) (v : View) (other : ℕ) (u : View) → v.frame ≡ f → length v.seen ≡ size_of f
      → length u.seen ≡ size_of f → Joins (BoardRule f allowed) id v other u (joined_view v u) spent_view
  joins id v other u fr lv lu s r at apart there =
      let b : View = joined_view v u in
      let a = r.views id v at in
      let theirs : IsAbove f s.words u = ⊎_elim (λ (t : (other ≡ id) × (b ≡ u)). absurd (apart t.0))
      (λ (t : (other ≢ id) × (get_elem? s.views other ≡ some u)). r.views other u t.1)
      (at_set s.views id other b u there) in
      let mine : IsAbove f s.words b = (
        inr (fr, length-lesser v.seen u.seen (lv ∙ sym lu) ∙ lv),
        λ i h. below_lesser v.seen u.seen i (get_or s.words (i + 1) 0) (a.1 i h) (theirs.1 i h),
      ) in record {
        wide = r.wide;
        spare = r.spare;
        small = r.small;
        derivable = r.derivable;
        views = views_set f s.words (set s.views id b) other spent_view
            (views_set f s.words s.views id b r.views mine) (inl refl, λ i h. r.small (i + 1));
      }

  pub begins : (bounds : List ℕ) → AreDerivable f allowed bounds → ((i : ℕ) → get_or bounds i 0 ≤ greatest)
      → BoardRule f allowed (opening (0 ∷ bounds) [] (first_view f (0 ∷ bounds)))
  begins bounds all small = record {
    wide = rw (add-one (size_of f)) (ap suc all.count);
    spare = refl;
    small = λ i. elim i as (λ j. get_or (0 ∷ bounds) j 0 ≤ greatest) [ zero ↦ zero-le | suc j ↦ small j ];
    derivable = λ c h. rw (add-one (index_of f c)) (all.each c h);
    views = first;
  }
    where
      seen_is : (xs : List ℕ) (i : ℕ) → i < length xs → get_or xs i 0 ≤ seen_at xs i
      seen_is [] i h = zero-le
      seen_is (x ∷ xs) zero h = le_refl x
      seen_is (x ∷ xs) (suc i) h = seen_is xs i (omega arith)

      first : (j : ℕ) (u : View) → get_elem? (first_view f (0 ∷ bounds) ∷ []) j ≡ some u → IsAbove f (0 ∷ bounds) u
      first zero u e = subst (IsAbove f (0 ∷ bounds)) (some-injective _ _ e)
          (inr (refl, all.count), λ i h. rw (add-one i) (seen_is bounds i (omega (arith, all.count))))
      first (suc j) u e = absurd (some-ne-none u (sym e))
