-- What is known of a line when some of its tokens were read.
use Rattle.std.proofs.Common.{◌≡◌, ◌↔◌, ℕ, zero, suc, ◌+◌, ◌-◌, ◌<◌, ◌≤◌, min, true, false, ◌&&◌, nat_le, if◌then◌else◌}
use Rattle.std.proofs.Common.{List, [], ◌∷◌, ◌++◌, Option, None, Some, length, map, take, refl, sym, ap, ap₂, ◌∙◌}
use Rattle.std.proofs.Common.{subst, IfSome, arith, inl, inr, ⊎_elim, append_assoc, append-nil, length-append}
use Rattle.std.proofs.Math.Seq.{take-nil}
use Rattle.std.proofs.lemmas.Bool.{cases_lt, and_from, and_parts, cases_Bool, le-leb, leb-true, lt-ltb, le-ltb}
use Rattle.std.proofs.lemmas.Bool.{false_from_ne_true}
use Rattle.std.proofs.lemmas.Slice.Zip.{all_zipped_more}
use Rattle.std.specs.List.{AllByRecursion}
use Rattle.std.specs.Option.{option_or, option_to_list}
use Rattle.lj_base.proofs.Ascending.{AllBelow-from_Has, Ascends-narrow, Has-all}
use Rattle.lj_base.proofs.Lists.{AllByRecursion-push}
use Rattle.lj_base.specs.Blocks.{Ascends, Has}
use Rattle.lj_text.specs.Numbers.{Spells, number_of}
use Rattle.lj_text.specs.Tokens.{token_text, tokens_of}
use Rattle.lj_text.specs.declared.tokens.Token.{Token}
use Rattle.lj_blockfile.specs.BlockLines.{AddsPoint, AllDifferent, IsBlockLine, count_fault, first_fault, line_fault}
use Rattle.lj_blockfile.specs.BlockLines.{token_fault}
use Rattle.lj_blockfile.specs.declared.faults.LineFault.{LineFault}
use Rattle.lj_blockfile.specs.declared.faults.LineFault.TheVariants.{PointRange, Repeat}
use Rattle.lj_blockfile.proofs.Members.{AllDifferent-push, Has-from_is_among, Has-map_suc, Has-map_suc-zero, Has-pushed}
use Rattle.lj_blockfile.proofs.Members.{is_among, is_among-from_Has, is_among-same}

-- ---- the fault of a token

in_range : (v n : ℕ) → 1 ≤ n → n ≤ v → (nat_le 1 n && nat_le n v) ≡ true
in_range v n low high = and_from _ _ (le-leb 1 n low) (le-leb n v high)

pub token_fault-repeat : (v n : ℕ) (earlier : List ℕ) (token : Token) → 1 ≤ n → n ≤ v → Has earlier n
    → token_fault v earlier token (Some n) ≡ Some (Repeat n)
token_fault-repeat v n earlier token low high h =
    let inside : (nat_le 1 n && nat_le n v) ≡ true = in_range v n low high in
    let among : is_among n earlier ≡ true = is_among-from_Has earlier n h in
    rw (inside, among) refl

pub token_fault-fresh : (v n : ℕ) (earlier : List ℕ) (token : Token) → 1 ≤ n → n ≤ v → (Has earlier n → ⊥)
    → token_fault v earlier token (Some n) ≡ None
token_fault-fresh v n earlier token low high h =
    let inside : (nat_le 1 n && nat_le n v) ≡ true = in_range v n low high in
    let among : is_among n earlier ≡ false = false_from_ne_true _ (λ k. h (Has-from_is_among earlier n k)) in
    rw (inside, among) refl

-- a number without a fault
record IsNewPoint (v n : ℕ) (earlier : List ℕ) : Type 0 where
  pub low : 1 ≤ n
  pub high : n ≤ v
  pub fresh : Has earlier n → ⊥

IsNewPoint-from_none : (v n : ℕ) (earlier : List ℕ) (token : Token) → token_fault v earlier token (Some n) ≡ None
    → IsNewPoint v n earlier
IsNewPoint-from_none v n earlier token h =
    ⊎_elim
    (λ (inside : (nat_le 1 n && nat_le n v) ≡ true).
    let range = and_parts _ _ inside in
    let known = rw inside at h in
    record {
      low = leb-true 1 n range.0;
      high = leb-true n v range.1;
      fresh = λ k.
          let among : is_among n earlier ≡ true = is_among-from_Has earlier n k in
          let bad = rw among at known in
          cc;
    })
    (λ (outside : (nat_le 1 n && nat_le n v) ≡ false). let known = rw outside at h in cc)
    (cases_Bool (nat_le 1 n && nat_le n v))

-- only which numbers came earlier counts
token_fault-same : (v : ℕ) (earlier others : List ℕ) (token : Token) (spelled : Option ℕ)
    → ((n : ℕ) → Has earlier n ↔ Has others n)
    → token_fault v earlier token spelled ≡ token_fault v others token spelled
token_fault-same v earlier others token None same = refl
token_fault-same v earlier others token (Some n) same =
    ap (λ t. if nat_le 1 n && nat_le n v then (if t then Some (Repeat n) else None) else Some (PointRange n))
    (is_among-same earlier others n (same n))

same-more : (spelled : Option ℕ) (earlier others : List ℕ) → ((n : ℕ) → Has earlier n ↔ Has others n)
    → (n : ℕ) → Has (option_to_list spelled ++ earlier) n ↔ Has (option_to_list spelled ++ others) n
same-more None earlier others same n = same n
same-more (Some m) earlier others same n =
    (λ h. ⊎_elim (λ e. inl e) (λ k. inr ((same n).0 k)) h, λ h. ⊎_elim (λ e. inl e) (λ k. inr ((same n).1 k)) h)

first_fault-same : (v : ℕ) (line earlier others : List ℕ) (tokens : List Token)
    → ((n : ℕ) → Has earlier n ↔ Has others n)
    → first_fault v line earlier tokens ≡ first_fault v line others tokens
first_fault-same v line earlier others [] same = refl
first_fault-same v line earlier others (token ∷ tokens) same =
    let spelled = number_of (token_text line token) in
    ap₂ option_or (token_fault-same v earlier others token spelled same)
    (first_fault-same v line (option_to_list spelled ++ earlier) (option_to_list spelled ++ others) tokens
    (same-more spelled earlier others same))

-- ---- a line whose tokens were read up to those that are left

-- the fault of the line, where none of the tokens read had one
abbrev pub rest_fault : ℕ → ℕ → List ℕ → ℕ → List Token → List ℕ → Option LineFault
rest_fault v k line count left earlier =
    option_or (first_fault v line earlier (take (k - count) left)) (count_fault k (count + length left))

-- `count` tokens were read, and the block has the points that the first k of them spell
pub record IsUnderway (line : List ℕ) (v k count : ℕ) (left : List Token) (b : List ℕ) : Type 0 where
  pub read : List Token
  pub numbers : List ℕ
  pub spelled : Spells line read numbers
  pub in_range : AllByRecursion (λ n. (1 ≤ n) × (n ≤ v)) numbers
  pub different : AllDifferent numbers
  pub points : (p : ℕ) → Has b p ↔ Has numbers (suc p)
  pub as_many : length b ≡ length numbers
  pub filled : length b ≡ min count k
  pub whole : count ≤ k → read ++ left ≡ tokens_of line
  pub fault : line_fault v k line ≡ rest_fault v k line count left (map suc b)

pub IsUnderway-start : (line : List ℕ) (v k : ℕ) → IsUnderway line v k 0 (tokens_of line) []
IsUnderway-start line v k =
    let all : k - 0 ≡ k = omega arith in
    let count : 0 + length (tokens_of line) ≡ length (tokens_of line) = omega arith in
    record {
      read = [];
      numbers = [];
      spelled = tt;
      in_range = tt;
      different = tt;
      points = λ p. (λ h. h, λ h. h);
      as_many = refl;
      filled = omega arith;
      whole = λ _. refl;
      fault = rw (all, count) refl;
    }

pub with_left : {line : List ℕ} {v k count : ℕ} {left rest : List Token} {b : List ℕ} → left ≡ rest
    → IsUnderway line v k count left b
    → IsUnderway line v k count rest b
with_left {line} {v} {k} {count} {left} {rest} {b} same u = subst (λ tokens. IsUnderway line v k count tokens b) same u

module _ {line : List ℕ} {v k count : ℕ} {token : Token} {left : List Token} {b : List ℕ}
    (u : IsUnderway line v k count (token ∷ left) b)
  where
    one_read : count + length (token ∷ left) ≡ count + 1 + length left
    one_read = omega arith

    abbrev spelled_here : Option ℕ
    spelled_here = number_of (token_text line token)

    -- the next token is one of the first k
    fault_next : length b < k → line_fault v k line
        ≡ option_or (option_or (token_fault v (map suc b) token spelled_here)
        (first_fault v line (option_to_list spelled_here ++ map suc b) (take (k - (count + 1)) left)))
        (count_fault k (count + 1 + length left))
    fault_next room =
        let filled = u.filled in
        let next : k - count ≡ suc (k - (count + 1)) = omega arith in
        u.fault ∙ (rw (next, one_read) refl)

    pub fault-here : length b < k → (f : LineFault) → Some f ≡ token_fault v (map suc b) token spelled_here
        → line_fault v k line ≡ Some f
    fault-here room f h = fault_next room ∙ (rw (← h) refl)

    pub IsUnderway-past : k ≤ length b → IsUnderway line v k (count + 1) left b
    IsUnderway-past full =
        let filled = u.filled in
        let none : k - count ≡ 0 = omega arith in
        let none_later : k - (count + 1) ≡ 0 = omega arith in
        let known = rw (none, one_read) at u.fault in
        record {
          read = u.read;
          numbers = u.numbers;
          spelled = u.spelled;
          in_range = u.in_range;
          different = u.different;
          points = u.points;
          as_many = u.as_many;
          filled = omega arith;
          whole = λ few. absurd (omega arith);
          fault = rw none_later known;
        }

    module _ (n : ℕ) (now : List ℕ) (spells : spelled_here ≡ Some n) (new : IsNewPoint v n (map suc b))
        (adds : AddsPoint b now n)
      where
        Has-now : (q : ℕ) → Has (n ∷ map suc b) q ↔ Has (map suc now) q
        Has-now zero = (
          λ h. ⊎_elim (λ e. absurd (omega (arith, e, new.low))) (λ k. absurd (Has-map_suc-zero b k)) h,
          λ h. absurd (Has-map_suc-zero now h),
        )
        Has-now (suc p) =
            let added = adds.0 p in
            let before = Has-map_suc b p in
            let after = Has-map_suc now p in (
              λ h. after.1 (added.1 (⊎_elim (λ e. inl (sym e)) (λ k. inr (before.0 k)) h)),
              λ h. ⊎_elim (λ e. inl (sym e)) (λ k. inr (before.1 k)) (added.0 (after.0 h)),
            )

        fresh_number : Has u.numbers n → ⊥
        fresh_number h =
            let next : suc (n - 1) ≡ n = omega (arith, new.low) in
            let point : Has b (n - 1) = (u.points (n - 1)).1 (subst (Has u.numbers) (sym next) h) in
            new.fresh (subst (Has (map suc b)) next ((Has-map_suc b (n - 1)).1 point))

        IsUnderway-step : length b < k → IsUnderway line v k (count + 1) left now
        IsUnderway-step room =
            let filled = u.filled in
            let longer = adds.1 in
            record {
              read = u.read ++ token ∷ [];
              numbers = u.numbers ++ n ∷ [];
              spelled = all_zipped_more _ u.read u.numbers token n u.spelled spells;
              in_range = AllByRecursion-push _ u.numbers n u.in_range (new.low, new.high);
              different = AllDifferent-push u.numbers n u.different fresh_number;
              points = λ p.
                  let added = adds.0 p in
                  let pushed = Has-pushed u.numbers n (suc p) in
                  let before = u.points p in (
                    λ h. pushed.1 (⊎_elim (λ e. inl (sym e)) (λ k. inr (before.0 k)) (added.0 h)),
                    λ h. added.1 (⊎_elim (λ e. inl (sym e)) (λ k. inr (before.1 k)) (pushed.0 h)),
                  );
              as_many = omega (arith, length-append u.numbers (n ∷ []), u.as_many);
              filled = omega arith;
              whole = λ few. append_assoc u.read (token ∷ []) left ∙ u.whole (omega arith);
              fault =
                  let rest = take (k - (count + 1)) left in
                  let counts = count_fault k (count + 1 + length left) in
                  fault_next room
                  ∙ ap (λ s. option_or (option_or (token_fault v (map suc b) token s)
                  (first_fault v line (option_to_list s ++ map suc b) rest)) counts) spells
                  ∙ ap (λ o. option_or (option_or o (first_fault v line (n ∷ map suc b) rest)) counts)
                  (token_fault-fresh v n (map suc b) token new.low new.high new.fresh)
                  ∙ ap (λ o. option_or o counts) (first_fault-same v line (n ∷ map suc b) (map suc now) rest Has-now);
            }

    -- what adding the point that the next token spells makes known
    pub IsUnderway-read : (now : List ℕ) → length b < k → IfSome (number_of (token_text line token)) (AddsPoint b now)
        → None ≡ token_fault v (map suc b) token (number_of (token_text line token))
        → IsUnderway line v k (count + 1) left now
    IsUnderway-read now room = go (number_of (token_text line token)) refl
      where
        go : (s : Option ℕ) → number_of (token_text line token) ≡ s → IfSome s (AddsPoint b now)
            → None ≡ token_fault v (map suc b) token s
            → IsUnderway line v k (count + 1) left now
        go None spells adds none = cc
        go (Some n) spells adds none =
            IsUnderway-step n now spells (IsNewPoint-from_none v n (map suc b) token (sym none)) adds room

-- where all tokens were read, and none has a fault, they were k
pub count-end : {line : List ℕ} {v k count : ℕ} {b : List ℕ} → IsUnderway line v k count [] b
    → line_fault v k line ≡ None → count ≡ k
count-end {line} {v} {k} {count} {b} u none =
    let over : take {A = Token} (k - count) [] ≡ [] = take-nil (k - count) in
    let all : count + 0 ≡ count = omega arith in
    let counts : count_fault k count ≡ None = sym (rw (over, all) at u.fault) ∙ none in
    ⊎_elim
    (λ less. let short = lt-ltb count k less in let bad = rw short at counts in cc)
    (λ enough. ⊎_elim
    (λ more.
    let not_short = le-ltb count k enough in
    let long = lt-ltb k count more in
    let bad = rw (not_short, long) at counts in
    cc)
    (λ just. omega arith)
    (cases_lt k count))
    (cases_lt count k)

-- all tokens were read, and they were k
pub IsBlockLine-end : {line : List ℕ} {v k count : ℕ} {b : List ℕ} → IsUnderway line v k count [] b → k ≤ length b
    → count ≤ k → Ascends 0 99 b
    → IsBlockLine line v k b
IsBlockLine-end {line} {v} {k} {count} {b} u full just ascends =
    let filled = u.filled in
    let as_many = u.as_many in
    let all : u.read ≡ tokens_of line = sym (append-nil u.read) ∙ u.whole just in
    let below : (p : ℕ) → Has b p → p < v = λ p h. (Has-all _ u.numbers (suc p) u.in_range ((u.points p).0 h)).1 in
    record {
      numbers = u.numbers;
      spelled = subst (λ tokens. Spells line tokens u.numbers) all u.spelled;
      count = omega arith;
      in_range = u.in_range;
      different = u.different;
      block = (Ascends-narrow 0 99 v b ascends (AllBelow-from_Has v b below), omega arith);
      points = u.points;
    }
