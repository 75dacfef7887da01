-- Blocks in a row: what stands from a position on, and lists that are filled from the front.
use Rattle.std.proofs.Common.{◌≡◌, ℕ, zero, suc, ◌+◌, ◌-◌, ◌<◌, ◌≤◌, Bool, true, false, cond, List, [], ◌∷◌, ◌++◌, Some}
use Rattle.std.proofs.Common.{length, map, take, drop, get_or, set, refl, sym, ap, ap₂, ◌∙◌, arith}
use Rattle.std.proofs.Common.{append_assoc, length-append}
use Rattle.std.proofs.lemmas.List.{drop-drop, drop-map, drop_more, drop_all, length-drop, length-take-le, set_split}
use Rattle.std.proofs.lemmas.List.{take-append-le}
use Rattle.std.proofs.lemmas.List.{take-map, take_at, take_all}
use Rattle.std.proofs.lemmas.Option.{get_or_from_slice_get, slice_get_within}
use Rattle.std.specs.List.{filter, slice_get}
use borrow.Rule.Slice.PartMut.{post_of, put_mid}

-- ---- the front and the rest of a list

-- the front that goes past xs
pub take-past : (xs zs : List (List ℕ)) (r : ℕ) → take (length xs + r) (xs ++ zs) ≡ xs ++ take r zs
take-past [] zs r = let e : 0 + r ≡ r = omega arith in ap (λ k. take k zs) e
take-past (x ∷ xs) zs r =
    let e : suc (length xs) + r ≡ suc (length xs + r) = omega arith in
    ap (λ k. take k (x ∷ (xs ++ zs))) e ∙ ap (λ t. x ∷ t) (take-past xs zs r)

-- what comes r after xs
pub drop-past : (xs zs : List (List ℕ)) (r : ℕ) → drop (length xs + r) (xs ++ zs) ≡ drop r zs
drop-past [] zs r = let e : 0 + r ≡ r = omega arith in ap (λ k. drop k zs) e
drop-past (x ∷ xs) zs r =
    let e : suc (length xs) + r ≡ suc (length xs + r) = omega arith in
    ap (λ k. drop k (x ∷ (xs ++ zs))) e ∙ drop-past xs zs r

pub take-split : (m n : ℕ) (xs : List (List ℕ)) → take (m + n) xs ≡ take m xs ++ take n (drop m xs)
take-split zero n xs = let e : 0 + n ≡ n = omega arith in ap (λ k. take k xs) e
take-split (suc m) n [] = none (suc m + n) n
  where
    none : (k l : ℕ) → take {A = List ℕ} k [] ≡ take l []
    none zero zero = refl
    none zero (suc l) = refl
    none (suc k) zero = refl
    none (suc k) (suc l) = refl
take-split (suc m) n (x ∷ xs) =
    let e : suc m + n ≡ suc (m + n) = omega arith in
    ap (λ k. take k (x ∷ xs)) e ∙ ap (λ t. x ∷ t) (take-split m n xs)

pub map-part : (f : List ℕ → List ℕ) (n i : ℕ) (es : List (List ℕ))
    → map f (take n (drop i es)) ≡ take n (drop i (map f es))
map-part f n i es = sym (take-map f n (drop i es)) ∙ ap (take n) (sym (drop-map f i es))

-- ---- lists that are filled from the front

-- the first `done` are those of es from i on, and a piece is written after them of which the first r are the next ones
pub piece-more : (out ys es : List (List ℕ)) (i done n r : ℕ) → done ≤ length out → r ≤ length ys
    → take done out ≡ take done (drop i es) → take r ys ≡ take r (drop (i + done) es)
    → take (done + r) (put_mid done n out ys) ≡ take (done + r) (drop i es)
piece-more out ys es i done n r room long so_far is =
    let front = take done out in
    let count : done + r ≡ length front + r = omega (arith, length-take-le done out room) in
    ap (λ k. take k (front ++ (ys ++ post_of done n out))) count
    ∙ take-past front (ys ++ post_of done n out) r
    ∙ ap (λ t. front ++ t) (take-append-le r ys (post_of done n out) long)
    ∙ ap₂ (λ a b. a ++ b) so_far (is ∙ ap (take r) (sym (drop-drop done i es)))
    ∙ sym (take-split done r (drop i es))

-- the first `done` are those of es from i on, and one is written after them
pub one-more : (out es : List (List ℕ)) (i done : ℕ) (b : List ℕ) → done < length out
    → take done out ≡ take done (drop i es) → slice_get es (i + done) ≡ Some b
    → take (done + 1) (set out done b) ≡ take (done + 1) (drop i es)
one-more out es i done b room so_far is =
    let next : done + 1 ≡ length (take done out) + 1 = omega (arith, length-take-le done out (omega arith)) in
    let inside = slice_get_within es (i + done) b is in
    ap (take (done + 1)) (set_split out done b room)
    ∙ sym (ap (take (done + 1)) (append_assoc (take done out) (b ∷ []) (drop (suc done) out)))
    ∙ take_at (take done out ++ b ∷ []) (drop (suc done) out) (done + 1)
    (omega (arith, length-append (take done out) (b ∷ []), next))
    ∙ ap₂ (λ a c. a ++ c ∷ []) so_far (sym (get_or_from_slice_get es (i + done) b [] is))
    ∙ ap (λ t. take done (drop i es) ++ t) (sym (ap (take 1) (drop_more es (i + done) [] inside)))
    ∙ ap (λ t. take done (drop i es) ++ take 1 t) (sym (drop-drop done i es))
    ∙ sym (take-split done 1 (drop i es))

-- all are written
pub run-all : (out es : List (List ℕ)) (i n done : ℕ) → length out ≡ n → n ≤ done → done ≤ n
    → take done out ≡ take done (drop i es) → out ≡ take n (drop i es)
run-all out es i n done len all no_more so_far =
    let same : done ≡ n = omega arith in
    sym (take_all done out (omega arith)) ∙ so_far ∙ ap (λ k. take k (drop i es)) same

-- a part of a slice that is written from its front on
pub front-all : (ys zs : List (List ℕ)) (n : ℕ) → length ys ≡ n → take n (ys ++ zs) ≡ ys
front-all ys zs n len = take_at ys zs n len

pub one-all : (out : List (List ℕ)) (b : List ℕ) → length out ≡ 1 → set out 0 b ≡ take (length out) (b ∷ [])
one-all [] b len = absurd (omega arith)
one-all (x ∷ []) b len = refl
one-all (x ∷ (y ∷ out)) b len = absurd (omega arith)

-- the first of a list of one
pub only-one : (out es : List (List ℕ)) (i : ℕ) (d : List ℕ) → length out ≡ 1 → out ≡ take 1 (drop i es)
    → slice_get es i ≡ Some (get_or out 0 d)
only-one out es i d len is = at es i (ap length (sym is) ∙ len) ∙ ap (λ xs. Some (get_or xs 0 d)) (sym is)
  where
    at : (xs : List (List ℕ)) (n : ℕ) → length (take 1 (drop n xs)) ≡ 1
        → slice_get xs n ≡ Some (get_or (take 1 (drop n xs)) 0 d)
    at [] zero e = absurd (omega arith)
    at [] (suc n) e = absurd (omega arith)
    at (x ∷ xs) zero e = refl
    at (x ∷ xs) (suc n) e = at xs n e

-- ---- what passes a test and is changed, one block of the source after another

pub kept-yes : (p : List ℕ → Bool) (f : List ℕ → List ℕ) (bs : List (List ℕ)) (i : ℕ) (b : List ℕ) → i < length bs
    → b ≡ get_or bs i b → p b ≡ true → map f (filter p (drop i bs)) ≡ f b ∷ map f (filter p (drop (i + 1) bs))
kept-yes p f bs i b inside is pass =
    ap (λ xs. map f (filter p xs)) (drop_more bs i b inside ∙ ap (λ c. c ∷ drop (i + 1) bs) (sym is))
    ∙ ap (λ q. map f (cond q (b ∷ filter p (drop (i + 1) bs)) (filter p (drop (i + 1) bs)))) pass

pub kept-no : (p : List ℕ → Bool) (f : List ℕ → List ℕ) (bs : List (List ℕ)) (i : ℕ) (b : List ℕ) → i < length bs
    → b ≡ get_or bs i b → p b ≡ false → map f (filter p (drop i bs)) ≡ map f (filter p (drop (i + 1) bs))
kept-no p f bs i b inside is fails =
    ap (λ xs. map f (filter p xs)) (drop_more bs i b inside ∙ ap (λ c. c ∷ drop (i + 1) bs) (sym is))
    ∙ ap (λ q. map f (cond q (b ∷ filter p (drop (i + 1) bs)) (filter p (drop (i + 1) bs)))) fails

-- one more of those that pass
pub rest-yes : (target rest out : List (List ℕ)) (done : ℕ) (b : List ℕ) → done < length out
    → take done out ++ b ∷ rest ≡ target → take (done + 1) (set out done b) ++ rest ≡ target
rest-yes target rest out done b room so_far =
    let front = take done out in
    ap (λ xs. take (done + 1) xs ++ rest) (set_split out done b room ∙ sym (append_assoc front (b ∷ []) _))
    ∙ ap (λ xs. xs ++ rest) (take_at (front ++ b ∷ []) _ (done + 1)
    (omega (arith, length-append front (b ∷ []), length-take-le done out (omega arith))))
    ∙ append_assoc front (b ∷ []) rest ∙ so_far

-- all that there is room for
pub rest-all : (target rest out : List (List ℕ)) (n done : ℕ) → length out ≡ n → done ≡ n
    → take done out ++ rest ≡ target → out ≡ take n target
rest-all target rest out n done len all so_far =
    sym (take_at out rest n len)
    ∙ ap (take n) (ap (λ xs. xs ++ rest) (sym (take_all done out (omega arith))) ∙ so_far)

-- while there is room for more, there is a block to look at
pub rest-some : (p : List ℕ → Bool) (f : List ℕ → List ℕ) (bs target out : List (List ℕ)) (place done : ℕ)
    → done < length out → length out ≤ length target
    → take done out ++ map f (filter p (drop place bs)) ≡ target → place < length bs
rest-some p f bs target out place done room fits so_far = by (length bs - place) refl
  where
    by : (n : ℕ) → length bs - place ≡ n → place < length bs
    by zero e =
        let none = drop_all place bs (omega arith) in
        absurd (omega (
          arith,
          ap length so_far,
          length-append (take done out) (map f (filter p (drop place bs))),
          ap (λ xs. length (map f (filter p xs))) none,
          length-take-le done out (omega arith),
        ))
    by (suc n) e = omega arith

-- a slice of which a part is written is as long as before
pub mid-length : (a k : ℕ) (out ys : List (List ℕ)) → a + k ≤ length out → length ys ≡ k
    → length (put_mid a k out ys) ≡ length out
mid-length a k out ys inside long =
    omega (
      arith,
      length-append (take a out) (ys ++ post_of a k out),
      length-append ys (post_of a k out),
      length-take-le a out (omega arith),
      length-drop k (drop a out),
      length-drop a out,
      long,
    )

-- the part of a slice from a place on
pub tail-length : (out : List (List ℕ)) (done : ℕ) → done ≤ length out
    → length (take (length out - done) (drop done out)) ≡ length out - done
tail-length out done inside =
    length-take-le (length out - done) (drop done out) (omega (arith, length-drop done out))
