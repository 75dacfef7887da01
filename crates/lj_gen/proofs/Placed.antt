-- The places of the lines in a text of plain lines, and their texts.
use Rattle.std.proofs.Common.{◌≡◌, ℕ, suc, ◌+◌, ◌-◌, ◌≤◌, List, [], ◌∷◌, ◌++◌, drop, length, take, refl, sym, ap, ap₂}
use Rattle.std.proofs.Common.{◌∙◌, arith, append_assoc, append-nil, length-append}
use Rattle.std.proofs.Math.Nat.{min-eq_right}
use Rattle.std.proofs.lemmas.List.{drop_at, take_at}
use Rattle.std.proofs.lemmas.List.Concat.{flat_map-append}
use Rattle.std.specs.List.{AllZip}
use Rattle.std.specs.Prelude.{slice_range}
use Rattle.lj_text.specs.Lines.{after_line, line_text, placed_from, with_feeds}
use Rattle.lj_text.specs.declared.lines.Line.{Line}

-- a piece of a text
piece : (front middle back bytes : List ℕ) (start stop : ℕ) → bytes ≡ front ++ (middle ++ back)
    → start ≡ length front → stop ≡ start + length middle → slice_range bytes start stop ≡ middle
piece front middle back bytes start stop is at to =
    let long : stop - start ≡ length middle = omega arith in
    ap₂ (λ n text. take n text) long (ap (drop start) is ∙ drop_at front (middle ++ back) start (sym at))
    ∙ take_at middle back (length middle) refl

length-feeds : (line : List ℕ) (lines : List (List ℕ))
    → length (with_feeds (line ∷ lines)) ≡ length line + 1 + length (with_feeds lines)
length-feeds line lines =
    omega (arith, length-append (line ++ 10 ∷ []) (with_feeds lines), length-append line (10 ∷ []))

pub placed-append : (xs ys : List (List ℕ)) (number start : ℕ) → placed_from number start
    (xs ++ ys) ≡ placed_from number start xs ++ placed_from (number + length xs) (start + length (with_feeds xs)) ys
placed-append [] ys number start =
    let same : number ≡ number + 0 = omega arith in
    let here : start ≡ start + 0 = omega arith in
    ap₂ (λ n s. placed_from n s ys) same here
placed-append (x ∷ xs) ys number start =
    let first : Line = record { number = number; start = start; stop = start + length x } in
    let others = placed_from (suc number) (start + length x + 1) xs in
    let count : suc number + length xs ≡ number + suc (length xs) = omega arith in
    let place : start + length x + 1 + length (with_feeds xs) ≡ start + length (with_feeds (x ∷ xs)) =
    omega (arith, length-feeds x xs) in
    ap (λ l. first ∷ l)
    (placed-append xs ys (suc number) (start + length x + 1) ∙ ap₂ (λ n s. others ++ placed_from n s ys) count place)

-- the lines have the texts that they were written from
pub placed-texts : (lines : List (List ℕ)) (front back bytes : List ℕ) (number start : ℕ) → start ≡ length front
    → bytes ≡ front ++ (with_feeds lines ++ back)
    → AllZip (λ line text. line_text bytes line ≡ text) (placed_from number start lines) lines
placed-texts [] front back bytes number start at is = tt
placed-texts (line ∷ lines) front back bytes number start at is =
    let rest = with_feeds lines ++ back in
    let feed : List ℕ = line ++ 10 ∷ [] in
    let whole : (feed ++ with_feeds lines) ++ back ≡ feed ++ rest = append_assoc feed (with_feeds lines) back in
    let here : bytes ≡ front ++ (line ++ (10 ∷ rest)) =
    is ∙ ap (λ text. front ++ text) (whole ∙ append_assoc line (10 ∷ []) rest) in
    let next : bytes ≡ (front ++ feed) ++ rest =
    is ∙ ap (λ text. front ++ text) whole ∙ sym (append_assoc front feed rest) in
    let place : start + length line + 1 ≡ length (front ++ feed) = omega
    (arith, length-append front feed, length-append line (10 ∷ [])) in (
      piece front line (10 ∷ rest) bytes start (start + length line) here at refl,
      placed-texts lines (front ++ feed) back bytes (suc number) (start + length line + 1) place next,
    )

-- the text from the end of a line up to a place
text-between : (bytes front line middle back : List ℕ) (begin : Line) (place : ℕ)
    → bytes ≡ front ++ ((line ++ 10 ∷ []) ++ (middle ++ back)) → begin.stop ≡ length front + length line
    → place ≡ begin.stop + 1 + length middle → middle ≡ slice_range bytes (after_line bytes begin) place
text-between bytes front line middle back begin place is stop to =
    let rest = middle ++ back in
    let here : bytes ≡ (front ++ line) ++ (10 ∷ rest) =
    is ∙ ap (λ text. front ++ text) (append_assoc line (10 ∷ []) rest) ∙ sym (append_assoc front line (10 ∷ rest)) in
    let size : length (front ++ line) ≡ begin.stop = length-append front line ∙ sym stop in
    let cut : drop begin.stop bytes ≡ 10 ∷ rest =
    ap (drop begin.stop) here ∙ drop_at (front ++ line) (10 ∷ rest) begin.stop size in
    let long : length bytes ≡ begin.stop + length (10 ∷ rest) =
    ap length here ∙ length-append (front ++ line) (10 ∷ rest) ∙ ap (λ n. n + length (10 ∷ rest)) size in
    let within : begin.stop + 0 + 1 ≤ length bytes = omega arith in
    let next : begin.stop + 0 + 1 ≡ begin.stop + 1 = omega arith in
    let after : after_line bytes begin ≡ begin.stop + 1 = rw cut (min-eq_right within ∙ next) in
    let split : bytes ≡ ((front ++ line) ++ 10 ∷ []) ++ (middle ++ back) =
    here ∙ sym (append_assoc (front ++ line) (10 ∷ []) rest) in
    let count : begin.stop + 1 ≡ length ((front ++ line) ++ 10 ∷ []) =
    omega (arith, length-append (front ++ line) (10 ∷ []), size) in
    sym (ap (λ n. slice_range bytes n place) after ∙ piece ((front ++ line) ++ 10 ∷ []) middle back bytes
    (begin.stop + 1) place split count to)

-- the text from the end of the third line up to a place
pub text-after_three : (a b c : List ℕ) (inner tail : List (List ℕ)) (bytes : List ℕ) (place : ℕ)
    → bytes ≡ with_feeds (a ∷ b ∷ c ∷ []) ++ (with_feeds inner ++ with_feeds tail)
    → place ≡ length (with_feeds (a ∷ b ∷ c ∷ [])) + length (with_feeds inner)
    → with_feeds inner ≡ slice_range bytes (after_line bytes
    (record {
      number = 3;
      start = 0 + length a + 1 + length b + 1;
      stop =
          0 + length a + 1 + length b + 1 + length c;
    })) place
text-after_three a b c inner tail bytes place is to =
    let front = with_feeds (a ∷ b ∷ []) in
    let feed : List ℕ = c ++ 10 ∷ [] in
    let rest = with_feeds inner ++ with_feeds tail in
    let split : with_feeds (a ∷ b ∷ c ∷ []) ≡ front ++ feed =
    flat_map-append (λ line. line ++ 10 ∷ []) (a ∷ b ∷ []) (c ∷ []) ∙ ap (λ text. front ++ text) (append-nil feed) in
    let begin : Line =
    record { number = 3; start = 0 + length a + 1 + length b + 1; stop = 0 + length a + 1 + length b + 1 + length c } in
    let stop : begin.stop ≡ length front + length c = omega (arith, length-feeds a (b ∷ []), length-feeds b []) in
    let start : place ≡ begin.stop + 1 + length (with_feeds inner) =
    omega (arith, to, ap length split, length-append front feed, length-append c (10 ∷ []), stop) in
    text-between bytes front c (with_feeds inner) (with_feeds tail) begin place
    (is ∙ ap (λ text. text ++ rest) split ∙ append_assoc front feed rest) stop start
