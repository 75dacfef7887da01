-- What follows from the way in which a command ends.
use Rattle.std.proofs.Common.{◌≡◌, ◌⊎◌, ◌∙◌, ℕ, ◌≤◌, ◌<◌, List, Option, None, Some, IfSome, length, sym, ap, subst}
use Rattle.std.proofs.Common.{Err, IfOk, MatchResult, Ok, Result, arith}
use Rattle.std.proofs.Common.{◌++◌, append-nil, inl, inr, length-append, ⊎_elim}
use Rattle.std.proofs.lemmas.Option.{IfSome_then}
use Rattle.lj_base.specs.Streams.{Appends, Consumes, IsAtEnd, Rose}
use Rattle.lj_text.specs.Inputs.{HasRead}
use Rattle.lj_cli.specs.Ends.{EndsUnread, EndsWithOutput, EndsWithText, EndsWithUsage, EndsWithin, HasOutput, Input}
use Rattle.lj_cli.specs.Ends.{IsCompleteWithin, Output, Prints, PrintsNothing, too_large_text, usage_text}
use Rattle.lj_cli.specs.declared.prints.Made.{Made}
use Rattle.lj_cli.specs.declared.status.TheConstants.{BAD_WORDS, DONE, NO_MEMORY, TOO_LARGE}

-- no write failed: the text was printed with its status
printed : (o : Output) (text : List ℕ) (status ended : ℕ) → Prints o text status ended
    → (Rose o.faults o.faults_now → ⊥) → (ended ≡ status) × Appends o.written o.written_now text
printed o text status ended (inl h) calm = (h.0, h.1)
printed o text status ended (inr h) calm = absurd (calm h.1)

-- what was made of an input that was read to its end, and printed
pub made_ends : {E : Type 0} (limit : ℕ) (output : List ℕ → List ℕ → ℕ → Type 0) (i : Input) (o : Output)
    (bytes lent : List ℕ) (ended : ℕ) (made : Result Made E) → lent ≡ bytes
    → IfOk made (λ m. output lent m.text.items m.status)
    → MatchResult made (λ m. Prints o m.text.items m.status ended) (λ e. PrintsNothing o ended)
    → HasRead i.left i.left_now bytes limit → IsAtEnd i.left_now → i.faults_now ≡ i.faults
    → EndsWithin limit output i o ended
made_ends limit output i o bytes lent ended (Ok m) same is put read at_end no_fault = inl (record {
  bytes = bytes;
  text = m.text.items;
  status = m.status;
  belongs = subst (λ (bs : List ℕ). output bs m.text.items m.status) same is;
  printed = put;
  read = read;
  at_end = at_end;
  no_fault = no_fault;
})
made_ends limit output i o bytes lent ended (Err e) same is none read at_end no_fault = inr (inr (inr (record {
  status = none.status;
  bytes = bytes;
  read = read;
  no_fault = no_fault;
  nothing = none.nothing;
})))

-- and what was made without an input
pub made_unread : {E : Type 0} (output : List ℕ → ℕ → Type 0) (o : Output) (ended : ℕ) (made : Result Made E)
    → IfOk made (λ m. output m.text.items m.status)
    → MatchResult made (λ m. Prints o m.text.items m.status ended) (λ e. PrintsNothing o ended)
    → EndsWithOutput output o ended
made_unread output o ended (Ok m) is put = inl (m.text.items, m.status, is, put)
made_unread output o ended (Err e) is none = inr none

-- a source that is at its end gave all that it had
pub whole_is : (a b : Option (List ℕ)) (bs : List ℕ) → Consumes a b bs → IsAtEnd b → IfSome a (λ all. bs ≡ all)
whole_is None b bs h end = tt
whole_is (Some xs) None bs h end = absurd h
whole_is (Some xs) (Some ys) bs h end = sym (h ∙ ap (λ l. bs ++ l) end ∙ append-nil bs)

-- what was read is no more than there was
front_is : (a b : Option (List ℕ)) (bs : List ℕ) → Consumes a b bs → IfSome a (λ all. length bs ≤ length all)
front_is None b bs h = tt
front_is (Some xs) None bs h = absurd h
front_is (Some xs) (Some ys) bs h = let e = ap length h in omega (arith, e, length-append bs ys)

everywhere : (o : Option (List ℕ)) (P : List ℕ → Type 0) → ((x : List ℕ) → P x) → IfSome o P
everywhere None P f = tt
everywhere (Some x) P f = f x

-- an input within the limit has its output, unless memory runs out
abbrev SmallEnds : ℕ → (List ℕ → List ℕ → ℕ → Type 0) → Input → Output → ℕ → List ℕ → Type 0
SmallEnds limit output i o ended all = length all ≤ limit → (Rose i.faults i.faults_now → ⊥)
    → (Rose o.faults o.faults_now → ⊥) → HasOutput output all o ended ⊎ (ended ≡ NO_MEMORY)

pub small : (limit : ℕ) (output : List ℕ → List ℕ → ℕ → Type 0) (i : Input) (o : Output) (ended : ℕ)
    → EndsWithin limit output i o ended → IfSome i.left (SmallEnds limit output i o ended)
small limit output i o ended (inl h) =
    IfSome_then i.left (whole_is i.left i.left_now h.bytes h.read.taken h.at_end) (λ all is few quiet calm.
    let done = printed o h.text h.status ended h.printed calm in
    inl (
      h.text,
      subst (λ b. output b h.text ended) is
          (subst (λ n. output h.bytes h.text n) (sym done.0) h.belongs),
      done.1,
    ))
small limit output i o ended (inr (inl h)) =
    let over = h.read.more in
    IfSome_then i.left (front_is i.left i.left_now h.read.bytes h.read.read.taken)
    (λ all more few quiet calm. absurd (omega (arith, over, more, few)))
small limit output i o ended (inr (inr (inl h))) =
    everywhere i.left (SmallEnds limit output i o ended) (λ all few quiet calm. absurd (quiet h.failed))
small limit output i o ended (inr (inr (inr h))) =
    everywhere i.left (SmallEnds limit output i o ended) (λ all few quiet calm. inr h.status)

-- a larger input is refused, unless memory runs out
abbrev LargeEnds : ℕ → Input → Output → ℕ → List ℕ → Type 0
LargeEnds limit i o ended all = limit < length all → (Rose i.faults i.faults_now → ⊥)
    → (Rose o.faults o.faults_now → ⊥)
    → ((ended ≡ TOO_LARGE) × Appends o.written o.written_now too_large_text) ⊎ (ended ≡ NO_MEMORY)

large : (limit : ℕ) (output : List ℕ → List ℕ → ℕ → Type 0) (i : Input) (o : Output) (ended : ℕ)
    → EndsWithin limit output i o ended
    → IfSome i.left (LargeEnds limit i o ended)
large limit output i o ended (inl h) =
    let within = h.read.within in
    IfSome_then i.left (whole_is i.left i.left_now h.bytes h.read.taken h.at_end) (λ all is more quiet calm.
    let count : length h.bytes ≡ length all = ap length is in
    absurd (omega (arith, more, within, count)))
large limit output i o ended (inr (inl h)) =
    everywhere i.left (LargeEnds limit i o ended)
    (λ all more quiet calm. inl (printed o too_large_text TOO_LARGE ended h.printed calm))
large limit output i o ended (inr (inr (inl h))) =
    everywhere i.left (LargeEnds limit i o ended) (λ all more quiet calm. absurd (quiet h.failed))
large limit output i o ended (inr (inr (inr h))) =
    everywhere i.left (LargeEnds limit i o ended) (λ all more quiet calm. inr h.status)

pub complete : (limit : ℕ) (output : List ℕ → List ℕ → ℕ → Type 0) (i : Input) (o : Output) (ended : ℕ)
    → EndsWithin limit output i o ended → IsCompleteWithin limit output i o ended
complete limit output i o ended h =
    record { small = small limit output i o ended h; large = large limit output i o ended h }

-- a text that needs no input is printed whole, unless memory runs out
pub unread : (text : List ℕ) (i : Input) (o : Output) (ended : ℕ) → EndsUnread (EndsWithText text) i o ended
    → (Rose o.faults o.faults_now → ⊥)
    → ((ended ≡ DONE) × Appends o.written o.written_now text) ⊎ (ended ≡ NO_MEMORY)
unread text i o ended h calm = ⊎_elim
    (λ (out : Prints o text DONE ended). inl (printed o text DONE ended out calm))
    (λ (none : PrintsNothing o ended). inr none.status) h.ends

whole_output : (output : List ℕ → ℕ → Type 0) (o : Output) (ended : ℕ) → EndsWithOutput output o ended
    → (Rose o.faults o.faults_now → ⊥)
    → ((text : List ℕ) × output text ended × Appends o.written o.written_now text) ⊎ (ended ≡ NO_MEMORY)
whole_output output o ended (inl (text, status, is, out)) calm =
    let done = printed o text status ended out calm in
    inl (text, subst (λ n. output text n) (sym done.0) is, done.1)
whole_output output o ended (inr none) calm = inr none.status

pub unread_output : (output : List ℕ → ℕ → Type 0) (i : Input) (o : Output) (ended : ℕ)
    → EndsUnread (EndsWithOutput output) i o ended → (Rose o.faults o.faults_now → ⊥)
    → ((text : List ℕ) × output text ended × Appends o.written o.written_now text) ⊎ (ended ≡ NO_MEMORY)
unread_output output i o ended h calm = whole_output output o ended h.ends calm

pub usage : (i : Input) (o : Output) (ended : ℕ) → EndsWithUsage i o ended → (Rose o.faults o.faults_now → ⊥)
    → (ended ≡ BAD_WORDS) × Appends o.written o.written_now usage_text
usage i o ended h calm = printed o usage_text BAD_WORDS ended h.printed calm
