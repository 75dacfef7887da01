-- Each step keeps the rule of a history.
use Rattle.std.proofs.Common.{◌≡◌, ◌≢◌, ℕ, List, [], ◌∷◌, ◌++◌, set, eqb, refl, sym, ap, ◌∙◌, subst, ⊎_elim}
use Rattle.std.proofs.lemmas.List.{append-nil, append_assoc}
use mathlib.Core.Option.{none, some}
use lib.ListN.{get_elem?}
use prog.Atomic.{either}
use Rattle.atomic_table.specs.Table.{Allows, Joins, Me, Splits, State, keeps, step}
use Rattle.atomic_table.proofs.Lists.{at_set, at_snoc}
use Rattle.lj_history.specs.declared.change.Change.{Change}
use Rattle.lj_history.specs.declared.steps.View.{View}
use Rattle.lj_history.specs.Past.{StartsWith}
use Rattle.lj_history.specs.Rule.{Appends, Compares, HistoryRule, first_view, received}

abbrev S : Type 0
S = State Change View

-- all changes begin with what a seat knows
abbrev Fits : List Change → View → Type 0
Fits all v = StartsWith all v.changes × StartsWith all v.returned

longer : (all earlier more : List Change) → StartsWith all earlier → StartsWith (all ++ more) earlier
longer all earlier more h = (
  h.0 ++ more,
  ap (λ (l : List Change). l ++ more) h.1 ∙ append_assoc earlier h.0 more,
)

-- the view of a seat is replaced
replaced : (P : View → Type 0) (views : List View) (seat : ℕ) (w : View)
    → ((j : ℕ) (u : View) → get_elem? views j ≡ some u → P u) → P w
    → (j : ℕ) (u : View) → get_elem? (set views seat w) j ≡ some u → P u
replaced P views seat w others mine j u e =
    ⊎_elim (λ (t : (j ≡ seat) × (w ≡ u)). subst P t.1 mine)
    (λ (t : (j ≢ seat) × (get_elem? views j ≡ some u)). others j u t.1) (at_set views seat j w u e)

-- a seat has the view that replaced its own
at_same : (views : List View) (seat : ℕ) (w u : View) → get_elem? (set views seat w) seat ≡ some u → w ≡ u
at_same views seat w u e =
    ⊎_elim (λ (t : (seat ≡ seat) × (w ≡ u)). t.1)
    (λ (t : (seat ≢ seat) × (get_elem? views seat ≡ some u)). absurd (t.0 refl)) (at_set views seat seat w u e)

-- another seat has the view that it had
at_other : (views : List View) (seat : ℕ) (w : View) (j : ℕ) (u : View) → j ≢ seat
    → get_elem? (set views seat w) j ≡ some u → get_elem? views j ≡ some u
at_other views seat w j u apart e =
    ⊎_elim (λ (t : (j ≡ seat) × (w ≡ u)). absurd (apart t.0))
    (λ (t : (j ≢ seat) × (get_elem? views j ≡ some u)). t.1) (at_set views seat j w u e)

-- the history has appended some changes, or none
moves : (s : S) (ws : List ℕ) (v w : View) (more : List Change) (r : HistoryRule s) → get_elem? s.views 0 ≡ some v
    → w.changes ≡ v.changes ++ more → StartsWith r.all w.returned
    → HistoryRule (record { words = ws; homes = s.homes; views = set s.views 0 w })
moves s ws v w more r at goes returned =
    let all : List Change = r.all ++ more in
    let whole : w.changes ≡ all = goes ∙ ap (λ (l : List Change). l ++ more) (r.whole v at) in record {
      all = all;
      whole = λ u e. ap (λ (x : View). x.changes) (sym (at_same s.views 0 w u e)) ∙ whole;
      begins = replaced (Fits all) s.views 0 w
          (λ j u e. let f = r.begins j u e in (
            longer r.all u.changes more f.0,
            longer r.all u.returned more f.1,
          )) (([], sym (append-nil _ ∙ whole)), longer r.all w.returned more returned);
    }

appends_first : (slots : ℕ) (me : Me Change View) (c : Change)
    → Allows HistoryRule slots 0 me 0 (λ n. either (eqb n 0) 0 n) (λ n. Appends (step slots 0 0 0 (some c)) me n)
appends_first slots me c s r _ at _ =
    let w : View = record { changes = me.0.changes ++ c ∷ []; returned = me.0.returned } in (
      w,
      keeps,
      tt,
      moves s _ me.0 w (c ∷ []) r at refl (r.begins 0 me.0 at).1,
      refl,
    )

pub appends : (slots id : ℕ) (me : Me Change View) (c : Change) → id ≡ 0
    → Allows HistoryRule slots id me 0 (λ n. either (eqb n 0) 0 n) (λ n. Appends (step slots 0 0 0 (some c)) me n)
appends slots id me c e =
    subst (λ (k : ℕ). Allows HistoryRule slots k me 0 (λ n. either (eqb n 0) 0 n)
    (λ n. Appends (step slots 0 0 0 (some c)) me n)) (sym e) (appends_first slots me c)

compares_first : (slots : ℕ) (me : Me Change View)
    → Allows HistoryRule slots 0 me 0 (λ n. n) (Compares (step slots 0 0 0 none) me)
compares_first slots me s r _ at _ =
    let f = r.begins 0 me.0 at in (
      me.0,
      keeps,
      tt,
      moves s _ me.0 me.0 [] r at (sym (append-nil _)) f.1,
      (subst (λ (l : List Change). StartsWith l me.0.returned) (sym (r.whole me.0 at)) f.1, refl),
    )

pub compares : (slots id : ℕ) (me : Me Change View) → id ≡ 0
    → Allows HistoryRule slots id me 0 (λ n. n) (Compares (step slots 0 0 0 none) me)
compares slots id me e =
    subst (λ (k : ℕ). Allows HistoryRule slots k me 0 (λ n. n) (Compares (step slots 0 0 0 none) me)) (sym e)
    (compares_first slots me)

splits_first : (v : View) → Splits HistoryRule 0 v v v
splits_first v s r at =
    let f = r.begins 0 v at in record {
      all = r.all;
      whole = λ u e.
          let same : v ≡ u = ⊎_elim (at_same s.views 0 v u) (λ (o : v ≡ u). o) (at_snoc (set s.views 0 v) v u 0 e) in
          ap (λ (x : View). x.changes) (sym same) ∙ r.whole v at;
      begins = λ j u e. ⊎_elim (replaced (Fits r.all) s.views 0 v r.begins f j u)
          (λ (same : v ≡ u). subst (Fits r.all) same f) (at_snoc (set s.views 0 v) v u j e);
    }

pub splits : (id : ℕ) (v : View) → id ≡ 0 → Splits HistoryRule id v v v
splits id v e = subst (λ (k : ℕ). Splits HistoryRule k v v v) (sym e) (splits_first v)

joins_first : (v : View) (other : ℕ) (u : View) → Joins HistoryRule 0 v other u (received v u) first_view
joins_first v other u s r at apart there =
    let w : View = received v u in
    let f = r.begins other u (at_other s.views 0 w other u apart there) in
    let q = moves s s.words v w [] r at (sym (append-nil _)) f.0 in record {
      all = q.all;
      whole = λ x e. q.whole x
          (at_other (set s.views 0 w) other first_view 0 x (λ (i : 0 ≡ other). apart (sym i)) e);
      begins = replaced (Fits q.all) (set s.views 0 w) other first_view q.begins ((q.all, refl), (q.all, refl));
    }

pub joins : (id : ℕ) (v : View) (other : ℕ) (u : View) → id ≡ 0
    → Joins HistoryRule id v other u (received v u) first_view
joins id v other u e = subst (λ (k : ℕ). Joins HistoryRule k v other u (received v u) first_view) (sym e)
    (joins_first v other u)
