-- The blocks through a point cover, without the point, the other points.
use Rattle.std.proofs.Common.{◌≡◌, ℕ, suc, ◌-◌, ◌<◌, ◌≤◌, Bool, true, false, not, cond, eqb, ltb, ◌&&◌, ◌||◌, List, []}
use Rattle.std.proofs.Common.{◌∷◌, length, map, refl, sym, ap, ◌∙◌, subst, subst₂, arith, inl, inr, ⊎_elim}
use Rattle.std.proofs.lemmas.Bool.{cond_both, cond-true, cond-false, cases_order, eq-eqb, ne_eqb, lt-ltb, le-ltb}
use Rattle.std.proofs.lemmas.Bool.{not_from_true, not_from_false}
use Rattle.std.specs.List.{filter}
use Rattle.lj_base.specs.Blocks.{Ascends, Has, Within, SomeContains, AreBlocks, Covers}
use Rattle.lj_base.proofs.Ascending.{Ascends-wider, Has-below, Has-from, Has-from_Within}
use Rattle.lj_cover.specs.Operations.{has_point, without}
use Rattle.lj_cover.specs.BlockLists.{derived_blocks, derived2_blocks}
use Rattle.lj_cover.specs.Rules.{triple}
use Rattle.lj_cover.proofs.CutsOfBlocks.{Has-from_test, test-from_Has}

-- `without` at the head of a list: the point itself goes, a greater one falls by 1, a lesser one stays
pub without_same : (x y : ℕ) (ys : List ℕ) → y ≡ x → without x (y ∷ ys) ≡ without x ys
without_same x y ys e =
    let test : not (eqb y x) ≡ false = not_from_true (eqb y x) (eq-eqb y x e) in
    ap (map (λ p. cond (ltb x p) (p - 1) p)) (cond-false (not (eqb y x)) _ _ test)

pub without_greater : (x y : ℕ) (ys : List ℕ) → x < y → without x (y ∷ ys) ≡ (y - 1) ∷ without x ys
without_greater x y ys above =
    let test : not (eqb y x) ≡ true = not_from_false (eqb y x) (ne_eqb y x (λ e. omega arith)) in
    ap (map (λ p. cond (ltb x p) (p - 1) p)) (cond-true (not (eqb y x)) _ _ test)
    ∙ ap (λ z. z ∷ without x ys) (cond-true (ltb x y) (y - 1) y (lt-ltb x y above))

pub without_lesser : (x y : ℕ) (ys : List ℕ) → y < x → without x (y ∷ ys) ≡ y ∷ without x ys
without_lesser x y ys below =
    let test : not (eqb y x) ≡ true = not_from_false (eqb y x) (ne_eqb y x (λ e. omega arith)) in
    ap (map (λ p. cond (ltb x p) (p - 1) p)) (cond-true (not (eqb y x)) _ _ test)
    ∙ ap (λ z. z ∷ without x ys) (cond-false (ltb x y) (y - 1) y (le-ltb x y (omega arith)))

-- the points of a list above x all fall by 1
record LowersAll (x lo v : ℕ) (b : List ℕ) : Type 0 where
  ascends : Ascends lo (v - 1) (without x b)
  same_length : length (without x b) ≡ length b

without_above : (x lo v : ℕ) (b : List ℕ) → x ≤ lo → Ascends (suc lo) v b → LowersAll x lo v b
without_above x lo v [] under h = record { ascends = tt; same_length = refl }
without_above x lo v (y ∷ ys) under h =
    let start : suc (y - 1) ≡ y = omega (arith, h.0) in
    let rest = without_above x (suc (y - 1)) v ys (omega (arith, h.0))
    (subst (λ z. Ascends (suc z) v ys) (sym start) h.2) in
    let is = without_greater x y ys (omega (arith, h.0)) in
    record {
      ascends = subst (Ascends lo (v - 1)) (sym is) (omega (arith, h.0), omega (arith, h.0, h.1), rest.ascends);
      same_length = ap length is ∙ ap suc rest.same_length;
    }

-- a block with x loses one point
record LosesOne (x lo v : ℕ) (b : List ℕ) : Type 0 where
  ascends : Ascends lo (v - 1) (without x b)
  shorter : suc (length (without x b)) ≡ length b

without_point : (x lo v : ℕ) (b : List ℕ) → Ascends lo v b → Has b x → LosesOne x lo v b
without_point x lo v [] h has = absurd has
without_point x lo v (y ∷ ys) h (inl e) =
    let is = without_same x y ys e in
    let rest = without_above x y v ys (omega (arith, e)) h.2 in
    record {
      ascends = subst (Ascends lo (v - 1)) (sym is)
          (Ascends-wider y lo (v - 1) (v - 1) (without x ys) h.0 (omega arith) rest.ascends);
      shorter = ap suc (ap length is ∙ rest.same_length);
    }
without_point x lo v (y ∷ ys) h (inr rest) =
    let under : y < x = Has-from (suc y) v x ys h.2 rest in
    let is = without_lesser x y ys under in
    let later = without_point x (suc y) v ys h.2 rest in
    let room = Has-below (suc y) v x ys h.2 rest in
    record {
      ascends = subst (Ascends lo (v - 1)) (sym is) (h.0, omega arith, later.ascends);
      shorter = ap suc (ap length is ∙ later.shorter);
    }

-- what a block has beside x, it has without x too
Has-without_lesser : (x : ℕ) (b : List ℕ) (p : ℕ) → p < x → Has b p → Has (without x b) p
Has-without_lesser x [] p below has = absurd has
Has-without_lesser x (y ∷ ys) p below (inl e) = subst (λ c. Has c p) (sym (without_lesser x y ys (omega arith))) (inl e)
Has-without_lesser x (y ∷ ys) p below (inr rest) =
    let later = Has-without_lesser x ys p below rest in
    ⊎_elim (λ e. subst (λ c. Has c p) (sym (without_same x y ys e)) later)
    (⊎_elim (λ less. subst (λ c. Has c p) (sym (without_lesser x y ys less)) (inr later))
    (λ more. subst (λ c. Has c p) (sym (without_greater x y ys more)) (inr later)))
    (cases_order y x)

Has-without_greater : (x : ℕ) (b : List ℕ) (p : ℕ) → x ≤ p → Has b (suc p) → Has (without x b) p
Has-without_greater x [] p above has = absurd has
Has-without_greater x (y ∷ ys) p above (inl e) =
    let low : y - 1 ≡ p = omega (arith, e) in
    subst (λ c. Has c p) (sym (without_greater x y ys (omega (arith, e)))) (inl low)
Has-without_greater x (y ∷ ys) p above (inr rest) =
    let later = Has-without_greater x ys p above rest in
    ⊎_elim (λ e. subst (λ c. Has c p) (sym (without_same x y ys e)) later)
    (⊎_elim (λ less. subst (λ c. Has c p) (sym (without_lesser x y ys less)) (inr later))
    (λ more. subst (λ c. Has c p) (sym (without_greater x y ys more)) (inr later)))
    (cases_order y x)

-- a set without x, its points from x on raised by 1, and x between them
pub record Raised (x lo v : ℕ) (s : List ℕ) : Type 0 where
  pub set : List ℕ
  pub ascends : Ascends lo (suc v) set
  pub longer : length set ≡ suc (length s)
  pub has : Has set x
  pub lowers : (b : List ℕ) → Within set b → Within s (without x b)

raised_above : (x lo v : ℕ) (s : List ℕ) → x ≤ lo → Ascends lo v s → (r : List ℕ) × Ascends (suc lo) (suc v) r ×
    (length r ≡ length s) × ((b : List ℕ) → Within r b → Within s (without x b))
raised_above x lo v [] under h = ([], tt, refl, λ b within. tt)
raised_above x lo v (y ∷ ys) under h =
    let rest = raised_above x (suc y) v ys (omega (arith, h.0)) h.2 in (
      suc y ∷ rest.0,
      (omega (arith, h.0), omega (arith, h.1), rest.1),
      ap suc rest.2,
      λ b within. (Has-without_greater x b y (omega (arith, h.0)) within.0, rest.3 b within.1),
    )

raised : (x lo v : ℕ) (s : List ℕ) → lo ≤ x → x ≤ v → Ascends lo v s → Raised x lo v s
raised x lo v [] from to h =
    record { set = x ∷ []; ascends = (from, omega arith, tt); longer = refl; has = inl refl; lowers = λ b within. tt }
raised x lo v (y ∷ ys) from to h =
    let between : y < x → Raised x lo v (y ∷ ys) = λ below.
    let rest = raised x (suc y) v ys below to h.2 in record {
      set = y ∷ rest.set;
      ascends = (h.0, omega (arith, h.1), rest.ascends);
      longer = ap suc rest.longer;
      has = inr rest.has;
      lowers = λ b within. (Has-without_lesser x b y below within.0, rest.lowers b within.1);
    } in
    let before : x ≤ y → Raised x lo v (y ∷ ys) = λ above.
    let rest = raised_above x x v (y ∷ ys) (omega arith) (above, h.1, h.2) in record {
      set = x ∷ rest.0;
      ascends = (from, omega arith, rest.1);
      longer = ap suc rest.2;
      has = inl refl;
      lowers = λ b within. rest.3 b within.1;
    } in
    ⊎_elim (λ e. before (omega (arith, e))) (⊎_elim between (λ more. before (omega arith))) (cases_order y x)

derived_are_blocks : (v k x : ℕ) (bs : List (List ℕ)) → AreBlocks v k bs
    → AreBlocks (v - 1) (k - 1) (derived_blocks x bs)
derived_are_blocks v k x [] h = tt
derived_are_blocks v k x (b ∷ bs) h =
    let rest = derived_are_blocks v k x bs h.1 in
    cond_both (has_point b x) _ _ (λ cs. AreBlocks (v - 1) (k - 1) (map (without x) cs))
    (λ e. let less =
    without_point x 0 v b h.0.0 (Has-from_test b x e) in ((less.ascends, omega (arith, less.shorter, h.0.1)), rest))
    (λ _. rest)

derived_contains : (x : ℕ) (bs : List (List ℕ)) (s t : List ℕ) → Has t x
    → ((b : List ℕ) → Within t b → Within s (without x b)) → SomeContains bs t → SomeContains (derived_blocks x bs) s
derived_contains x [] s t has lowers h = absurd h
derived_contains x (b ∷ bs) s t has lowers (inl here) =
    let kept = cond-true (has_point b x) (b ∷ filter (λ c. has_point c x) bs) (filter (λ c. has_point c x) bs)
    (test-from_Has b x (Has-from_Within t b here x has)) in
    subst (λ cs. SomeContains (map (without x) cs) s) (sym kept) (inl (lowers b here))
derived_contains x (b ∷ bs) s t has lowers (inr rest) =
    let later = derived_contains x bs s t has lowers rest in
    cond_both (has_point b x) _ _ (λ cs. SomeContains (map (without x) cs) s) (λ _. inr later) (λ _. later)

pub derived_covers : (v k t x : ℕ) (bs : List (List ℕ)) → 1 ≤ t → x < v → Covers bs (triple v k t)
    → Covers (derived_blocks x bs) (triple (v - 1) (k - 1) (t - 1))
derived_covers v k t x bs some inside h = record {
  blocks = derived_are_blocks v k x bs h.blocks;
  sets = λ s set.
      let up = raised x 0 (v - 1) s (omega arith) (omega arith) set.0 in
      let all : suc (v - 1) ≡ v = omega arith in
      derived_contains x bs s up.set up.has up.lowers
      (h.sets up.set (subst (λ w. Ascends 0 w up.set) all up.ascends, omega (arith, up.longer, set.1)));
}

-- a point below the one that goes is there before and after
has_point-without : (x y : ℕ) (b : List ℕ) → x < y → has_point (without y b) x ≡ has_point b x
has_point-without x y [] below = refl
has_point-without x y (z ∷ zs) below =
    let later = has_point-without x y zs below in
    let gone : z ≡ y → has_point (without y (z ∷ zs)) x ≡ has_point (z ∷ zs) x = λ e.
    let other : eqb z x ≡ false = ne_eqb z x (λ f. omega arith) in
    ap (λ c. has_point c x) (without_same y z zs e) ∙ later ∙ sym (ap (λ q. q || has_point zs x) other) in
    let less : z < y → has_point (without y (z ∷ zs)) x ≡ has_point (z ∷ zs) x = λ e.
    ap (λ c. has_point c x) (without_lesser y z zs e) ∙ ap (λ q. eqb z x || q) later in
    let more : y < z → has_point (without y (z ∷ zs)) x ≡ has_point (z ∷ zs) x = λ e.
    let other : eqb z x ≡ false = ne_eqb z x (λ f. omega arith) in
    let lowered : eqb (z - 1) x ≡ false = ne_eqb (z - 1) x (λ f. omega arith) in
    ap (λ c. has_point c x) (without_greater y z zs e) ∙ ap (λ q. q || has_point (without y zs) x) lowered ∙ later
    ∙ sym (ap (λ q. q || has_point zs x) other) in
    ⊎_elim gone (⊎_elim less more) (cases_order z y)

twice_step : (x y : ℕ) (b : List ℕ) (F G : List (List ℕ)) (p q : Bool) → has_point (without y b) x ≡ p
    → map (λ c. without x (without y c)) F ≡ map (without x) (filter (λ c. has_point c x) (map (without y) G))
    → map (λ c. without x (without y c)) (cond (p && q) (b ∷ F) F) ≡ map (without x)
    (filter (λ c. has_point c x) (map (without y) (cond q (b ∷ G) G)))
twice_step x y b F G true true e later =
    ap (λ r. without x (without y b) ∷ r) later ∙ sym
    (ap (map (without x)) (cond-true (has_point (without y b) x) _ _ e))
twice_step x y b F G false true e later =
    later ∙ sym (ap (map (without x)) (cond-false (has_point (without y b) x) _ _ e))
twice_step x y b F G true false e later = later
twice_step x y b F G false false e later = later

-- through two points is through the greater one, and then through the lesser
pub derived2_twice : (x y : ℕ) (bs : List (List ℕ)) → x < y
    → derived2_blocks x y bs ≡ derived_blocks x (derived_blocks y bs)
derived2_twice x y [] below = refl
derived2_twice x y (b ∷ bs) below =
    twice_step x y b (filter (λ c. has_point c x && has_point c y) bs) (filter (λ c. has_point c y) bs) (has_point b x)
    (has_point b y)
    (has_point-without x y b below) (derived2_twice x y bs below)

pub derived2_covers : (v k t x y : ℕ) (bs : List (List ℕ)) → 2 ≤ t → x < y → y < v → Covers bs (triple v k t)
    → Covers (derived2_blocks x y bs) (triple (v - 2) (k - 2) (t - 2))
derived2_covers v k t x y bs some order inside h =
    let once = derived_covers v k t y bs (omega arith) inside h in
    let again = derived_covers (v - 1) (k - 1) (t - 1) x (derived_blocks y bs) (omega arith) (omega arith) once in
    let same : triple (v - 1 - 1) (k - 1 - 1) (t - 1 - 1) ≡ triple (v - 2) (k - 2) (t - 2) =
    λ i. triple (minus_two v i) (minus_two k i) (minus_two t i) in
    subst₂ Covers (sym (derived2_twice x y bs order)) same again
  where
    minus_two : (n : ℕ) → n - 1 - 1 ≡ n - 2
    minus_two n = omega arith
