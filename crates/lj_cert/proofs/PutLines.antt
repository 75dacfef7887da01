-- Lines that are appended to a text, one piece after the other.
use Rattle.std.proofs.Common.{◌≡◌, ℕ, ◌+◌, ◌<◌, List, [], ◌∷◌, ◌++◌, Result, Ok, Err, Some}
use Rattle.std.proofs.Common.{get_or, length, map, slice_get}
use Rattle.std.proofs.Common.{take}
use Rattle.std.proofs.Common.{sym, ap, ◌∙◌, subst, append-nil, append_assoc}
use Rattle.std.proofs.lemmas.Grind.{flat_map-append}
use Rattle.std.proofs.lemmas.List.{map-append, take_more}
use Rattle.std.proofs.lemmas.Option.{get_or_from_slice_get}
use Rattle.std.specs.List.{flat_map}
use Rattle.std.specs.Result.{OnErr}
use Rattle.lj_base.proofs.Lists.{slice_get-inside}
use Rattle.lj_text.proofs.Joined.{Extends-append}
use Rattle.lj_text.specs.Fields.{Extends}
use Rattle.lj_text.specs.Lines.{with_feeds}

-- what begins with a longer text begins with the shorter one
pub extends-front : (front longer text piece : List ℕ) → longer ≡ front ++ piece → Extends longer text
    → Extends front text
extends-front front longer text piece is h =
    Extends-append front piece text (subst (λ before. Extends before text) is h)

-- what holds in any case holds of an error
pub always : {T E P : Type 0} (r : Result T E) → P → OnErr r P
always (Ok x) h = tt
always (Err e) h = h

pub with_feeds-append : (xs ys : List (List ℕ)) → with_feeds (xs ++ ys) ≡ with_feeds xs ++ with_feeds ys
with_feeds-append xs ys = flat_map-append (λ line. line ++ 10 ∷ []) xs ys

-- the lines of one element more
pub put-more : {X : Type 0} (f : X → List (List ℕ)) (front now next : List ℕ) (xs : List X) (i : ℕ) (d : X)
    → i < length xs → now ≡ front ++ with_feeds (flat_map f (take i xs)) → next ≡ now ++ with_feeds (f (get_or xs i d))
    → next ≡ front ++ with_feeds (flat_map f (take (i + 1) xs))
put-more f front now next xs i d inside before more =
    let lines = flat_map f (take i xs) in
    let last = f (get_or xs i d) in
    let joined : flat_map f (take (i + 1) xs) ≡ lines ++ last =
    ap (flat_map f) (take_more xs i d inside)
    ∙ flat_map-append f (take i xs) (get_or xs i d ∷ [])
    ∙ ap (λ ls. lines ++ ls) (append-nil last) in
    more ∙ ap (λ text. text ++ with_feeds last) before
    ∙ append_assoc front (with_feeds lines) (with_feeds last)
    ∙ ap (λ text. front ++ text) (sym (ap with_feeds joined ∙ with_feeds-append lines last))

-- and the line of one
pub put-line : {X : Type 0} (f : X → List ℕ) (front now next : List ℕ) (xs : List X) (i : ℕ) (x : X)
    → slice_get xs i ≡ Some x → now ≡ front ++ with_feeds (map f (take i xs)) → next ≡ now ++ with_feeds (f x ∷ [])
    → next ≡ front ++ with_feeds (map f (take (i + 1) xs))
put-line f front now next xs i x there before more =
    let lines = map f (take i xs) in
    let joined : map f (take (i + 1) xs) ≡ lines ++ f x ∷ [] =
    ap (map f) (take_more xs i x (slice_get-inside xs i x there)
    ∙ ap (λ y. take i xs ++ y ∷ []) (get_or_from_slice_get xs i x x there))
    ∙ map-append f (take i xs) (x ∷ []) in
    more ∙ ap (λ text. text ++ with_feeds (f x ∷ [])) before
    ∙ append_assoc front (with_feeds lines) (with_feeds (f x ∷ []))
    ∙ ap (λ text. front ++ text) (sym (ap with_feeds joined ∙ with_feeds-append lines (f x ∷ [])))
