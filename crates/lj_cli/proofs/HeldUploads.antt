-- The uploads that are accepted of a script are such as a certificate holds.
use Rattle.std.proofs.Common.{◌≡◌, ◌∙◌, ℕ, ◌+◌, ◌*◌, ◌<◌, ◌≤◌, List, [], ◌∷◌, ◌++◌, Ok, Err}
use Rattle.std.proofs.Common.{None, Option, Some, arith, drop, length}
use Rattle.std.proofs.Common.{refl, suc, sym, ap, subst, inl, inr}
use Rattle.std.proofs.lemmas.List.{length-append}
use Rattle.std.specs.List.{AllByRecursion, Contains}
use Rattle.lj_base.proofs.Lists.{AllByRecursion-append, AllByRecursion-push, AllByRecursion-weaker}
use Rattle.lj_base.specs.Cells.{Triple}
use Rattle.lj_base.specs.Frames.{InFrame, Top}
use Rattle.lj_cert.specs.Texts.{IsHeldIn}
use Rattle.lj_cert.specs.Values.{AreDistinct, SharesName}
use Rattle.lj_cover.specs.Designs.{Covering}
use Rattle.lj_cover.specs.Rules.{Upload}
use Rattle.lj_script.specs.Scripts.{AreCommands, AreSections, IsCommand, IsScript}
use Rattle.lj_script.specs.Values.{NamesSome, ScriptValue, SectionValue}
use Rattle.lj_script.specs.declared.scripts.Command.{Command}
use Rattle.lj_script.specs.declared.scripts.Command.TheVariants.{Upload as Offered, UploadFile, Bound, Plan, Expand}
use Rattle.lj_script.specs.declared.scripts.Command.TheVariants.{Settle}
use Rattle.lj_session.specs.AcceptedUploads.{Accepts, AcceptsEach, AcceptsUpload, AreAcceptedOfAll, uploads_after}
use Rattle.lj_session.specs.Outcomes.{CheckGives, CountGives, FrameGives, Outcome, QuotaGives, TextGives, UploadGives}
use Rattle.lj_session.specs.Outcomes.{held, upload_of}
use Rattle.lj_text.specs.declared.lines.Line.{Line}
use Rattle.lj_upload.specs.Quotas.{Held}
use Rattle.lj_upload.specs.declared.quotas.TheConstants.{QUOTA_UPLOADS}
use Rattle.lj_verify.specs.Limits.{IsWithinLimits}
use Rattle.lj_cli.specs.CertifyOutput.{AreCheckedIn}

-- ---- an upload that is accepted

-- the covering has these blocks and this cell, and is within the limits of a check
record IsOf (c : Triple) (bs : List (List ℕ)) (d : Covering) : Type 0 where
  is : d ≡ record { cell = c; blocks = bs }
  within : IsWithinLimits c (length bs)

-- and there is room for it
record HasRoom (before : Held) (c : Triple) (d : Covering) : Type 0 where
  room : before.uploads < QUOTA_UPLOADS
  blocks : List (List ℕ)
  of : IsOf c blocks d

check_of : (c : Triple) (bs : List (List ℕ)) (d : Covering) → CheckGives c bs (Ok d) → IsOf c bs d
check_of c bs d (inl h) =
    let e : Ok d ≡ Ok (record { cell = c; blocks = bs }) = h.2 in
    let same : d ≡ record { cell = c; blocks = bs } = cc in
    record { is = same; within = h.0 }
check_of c bs d (inr h) = absurd (let e = h.3 in cc)

quota_of : (before : Held) (c : Triple) (bs : List (List ℕ)) (d : Covering) → QuotaGives before c bs (Ok d)
    → HasRoom before c d
quota_of before c bs d (inl h) = record { room = h.0.0; blocks = bs; of = check_of c bs d h.1 }
quota_of before c bs d (inr h) = absurd (let e = h.2 in cc)

-- an offer stands as its three fields: the cell, the lines before the text, and the number that a header announces
count_of : (before : Held) (c : Triple) (n : ℕ) (m : Option ℕ) (bs : List (List ℕ)) (d : Covering)
    → CountGives before (record { cell = c; before = n; announced = m }) bs (Ok d) → HasRoom before c d
count_of before c n m bs d (inl h) = quota_of before c bs d h.1
count_of before c n m bs d (inr h) = absurd (let e = h.3 in cc)

text_of : (before : Held) (c : Triple) (n : ℕ) (m : Option ℕ) (text : List ℕ) (d : Covering)
    → TextGives before (record { cell = c; before = n; announced = m }) text (Ok d) → HasRoom before c d
text_of before c n m text d (inl h) = count_of before c n m h.0 d h.2
text_of before c n m text d (inr h) = absurd (let e = h.3 in cc)

-- the covering is of a cell of the frame with points, within the limits of a check, and there is room for it
record IsTaken (f : Top) (before : Held) (d : Covering) : Type 0 where
  inside : InFrame f d.cell
  points : 1 ≤ d.cell.k
  within : IsWithinLimits d.cell (length d.blocks)
  room : before.uploads < QUOTA_UPLOADS

taken : (f : Top) (before : Held) (c : Triple) (d : Covering) → InFrame f c → 1 ≤ c.k → HasRoom before c d
    → IsTaken f before d
taken f before c d inside points h =
    subst (λ (x : Covering). IsTaken f before x) (sym h.of.is)
    (record { inside = inside; points = points; within = h.of.within; room = h.room })

frame_taken : (f : Top) (before : Held) (c : Triple) (n : ℕ) (m : Option ℕ) (text : List ℕ) (d : Covering) → 1 ≤ c.k
    → FrameGives f before (record { cell = c; before = n; announced = m }) text (Ok d) → IsTaken f before d
frame_taken f before c n m text d points (inl h) = taken f before c d h.0 points (text_of before c n m text d h.1)
frame_taken f before c n m text d points (inr h) = absurd (let e = h.1 in cc)

gives_taken : (f : Top) (before : Held) (command : Command) (d : Covering) → NamesSome command
    → UploadGives f before command (Ok d) → IsTaken f before d
gives_taken f before (Offered c body) d some gives =
    frame_taken f before c 0 None body d some gives
gives_taken f before (UploadFile body) d some (inl h) =
    frame_taken f before h.0.cell h.0.line (Some h.0.n) (drop h.0.rest body) d h.1.some h.2
gives_taken f before (UploadFile body) d some (inr h) = absurd (let e = h.1 in cc)
gives_taken f before (Bound c) d some gives = absurd gives
gives_taken f before (Plan c) d some gives = absurd gives
gives_taken f before (Expand c) d some gives = absurd gives
gives_taken f before Settle d some gives = absurd gives

-- ---- the uploads of a client

-- one of the first n uploads of a client
record IsOwn (f : Top) (name : List ℕ) (n : ℕ) (u : Upload) : Type 0 where
  is_held : IsHeldIn f u
  within : IsWithinLimits u.cell (length u.blocks)
  client : u.client ≡ name
  last : u.ordinal ≤ n

record AreOwn (f : Top) (name : List ℕ) (us : List Upload) : Type 0 where
  each : AllByRecursion (IsOwn f name (length us)) us
  distinct : AreDistinct us
  few : length us ≤ QUOTA_UPLOADS

distinct_push : (us : List Upload) (u : Upload) → AreDistinct us → AllByRecursion (λ w. SharesName w u → ⊥) us
    → AreDistinct (us ++ u ∷ [])
distinct_push [] u h fresh = (tt, tt)
distinct_push (x ∷ xs) u h fresh = (
  AllByRecursion-push (λ (w : Upload). SharesName w x → ⊥) xs u h.0
      (λ (shares : SharesName u x). fresh.0 (sym shares.0, sym shares.1)),
  distinct_push xs u h.1 fresh.1,
)

own_push : (f : Top) (name : List ℕ) (us : List Upload) (d : Covering) → AreOwn f name us → IsTaken f (held us) d
    → AreOwn f name (us ++ upload_of name (held us) d ∷ [])
own_push f name us d own h =
    let u : Upload = upload_of name (held us) d in
    let count : length (us ++ u ∷ []) ≡ length us + 1 = length-append us (u ∷ []) in
    let room : length us < QUOTA_UPLOADS = h.room in
    let more : length us ≤ length (us ++ u ∷ []) = omega (arith, count) in
    record {
      each = AllByRecursion-push (IsOwn f name (length (us ++ u ∷ []))) us u
          (AllByRecursion-weaker (IsOwn f name (length us)) (IsOwn f name (length (us ++ u ∷ []))) us
          (λ (w : Upload) (k : IsOwn f name (length us) w). record {
            is_held = k.is_held;
            within = k.within;
            client = k.client;
            last = omega (arith, k.last, more);
          }) own.each)
          (record {
            is_held = record {
              inside = h.inside;
              points = h.points;
              first = omega arith;
              short = omega (arith, room);
            };
            within = h.within;
            client = refl;
            last = omega (arith, count);
          });
      distinct = distinct_push us u own.distinct
          (AllByRecursion-weaker (IsOwn f name (length us)) (λ (w : Upload). SharesName w u → ⊥) us
          (λ (w : Upload) (k : IsOwn f name (length us) w) (shares : SharesName w u).
          omega (arith, k.last, shares.1)) own.each);
      few = omega (arith, room, count);
    }

own_outcome : (f : Top) (name : List ℕ) (c : Command) (us : List Upload) (o : Outcome) → NamesSome c
    → UploadGives f (held us) c o → AreOwn f name us → AreOwn f name (uploads_after name us o)
own_outcome f name c us (Ok d) some gives own = own_push f name us d own (gives_taken f (held us) c d some gives)
own_outcome f name c us (Err reason) some gives own = own

own_same : (f : Top) (name : List ℕ) (us vs : List Upload) → vs ≡ us → AreOwn f name us → AreOwn f name vs
own_same f name us vs h own = subst (λ (ws : List Upload). AreOwn f name ws) (sym h) own

own_upload : (f : Top) (name : List ℕ) (c : Command) (us vs : List Upload) → NamesSome c
    → AcceptsUpload f name c us vs → AreOwn f name us → AreOwn f name vs
own_upload f name c us vs some h own =
    own_same f name (uploads_after name us h.0) vs h.2 (own_outcome f name c us h.0 some h.1 own)

own_one : (f : Top) (name : List ℕ) (c : Command) (us vs : List Upload) → NamesSome c → Accepts f name c us vs
    → AreOwn f name us → AreOwn f name vs
own_one f name (Offered c body) us vs some h own = own_upload f name (Offered c body) us vs some h own
own_one f name (UploadFile body) us vs some h own = own_upload f name (UploadFile body) us vs some h own
own_one f name (Bound c) us vs some h own = own_same f name us vs h own
own_one f name (Plan c) us vs some h own = own_same f name us vs h own
own_one f name (Expand c) us vs some h own = own_same f name us vs h own
own_one f name Settle us vs some h own = own_same f name us vs h own

own_each : (f : Top) (name : List ℕ) (cs : List Command) (us vs : List Upload) → AllByRecursion NamesSome cs
    → AcceptsEach f name cs us vs → AreOwn f name us → AreOwn f name vs
own_each f name [] us vs some h own = own_same f name us vs h own
own_each f name (c ∷ cs) us vs some h own =
    own_each f name cs h.0 vs some.1 h.2 (own_one f name c us h.0 some.0 h.1 own)

-- ---- the sections of a script

command_some : (bytes : List ℕ) (c : Command) (lines rest : List Line) → IsCommand bytes c lines rest → NamesSome c
command_some bytes (Offered c body) lines rest h = h.begins.says.some
command_some bytes (UploadFile body) lines rest h = tt
command_some bytes (Bound c) lines rest h = h.begins.says.some
command_some bytes (Plan c) lines rest h = h.begins.says.some
command_some bytes (Expand c) lines rest h = h.begins.says.some
command_some bytes Settle lines rest h = tt

commands_some : (bytes : List ℕ) (cs : List Command) (lines rest : List Line) → AreCommands bytes cs lines rest
    → AllByRecursion NamesSome cs
commands_some bytes [] lines rest h = tt
commands_some bytes (c ∷ cs) lines rest h =
    (command_some bytes c lines h.0 h.1, commands_some bytes cs h.0 rest h.2)

-- what is known of the accepted uploads of n sections, whose clients have none of the used names
record AreAll (f : Top) (used : List (List ℕ)) (n : ℕ) (us : List Upload) : Type 0 where
  few : length us ≤ QUOTA_UPLOADS * n
  are_held : AllByRecursion (IsHeldIn f) us
  within : AllByRecursion (λ (u : Upload). IsWithinLimits u.cell (length u.blocks)) us
  distinct : AreDistinct us
  others : AllByRecursion (λ (u : Upload). Contains used u.client → ⊥) us

distinct_append : (us vs : List Upload) → AreDistinct us → AreDistinct vs
    → AllByRecursion (λ u. AllByRecursion (λ w. SharesName w u → ⊥) vs) us → AreDistinct (us ++ vs)
distinct_append [] vs h k apart = k
distinct_append (u ∷ us) vs h k apart =
    (AllByRecursion-append (λ (w : Upload). SharesName w u → ⊥) us vs h.0 apart.0, distinct_append us vs h.1 k apart.1)

first_is_there : (name : List ℕ) (used : List (List ℕ)) → Contains (name ∷ used) name
first_is_there name used = (0, omega arith, refl)

later_is_there : (name other : List ℕ) (used : List (List ℕ)) → Contains used name → Contains (other ∷ used) name
later_is_there name other used (i, inside, is) = (suc i, omega (arith, inside), is)

-- one section before others
all_more : (f : Top) (used : List (List ℕ)) (name : List ℕ) (n : ℕ) (own rest : List Upload)
    → (Contains used name → ⊥) → AreOwn f name own → AreAll f (name ∷ used) n rest
    → AreAll f used (n + 1) (own ++ rest)
all_more f used name n own rest fresh first others =
    let IsMine : Upload → Type 0 = IsOwn f name (length own) in
    record {
      few = omega (arith, length-append own rest, first.few, others.few);
      are_held = AllByRecursion-append (IsHeldIn f) own rest
          (AllByRecursion-weaker IsMine (IsHeldIn f) own (λ (u : Upload) (k : IsMine u). k.is_held) first.each)
          others.are_held;
      within = AllByRecursion-append (λ (u : Upload). IsWithinLimits u.cell (length u.blocks)) own rest
          (AllByRecursion-weaker IsMine (λ (u : Upload). IsWithinLimits u.cell (length u.blocks)) own
          (λ (u : Upload) (k : IsMine u). k.within) first.each) others.within;
      distinct = distinct_append own rest first.distinct others.distinct
          (AllByRecursion-weaker IsMine (λ (u : Upload). AllByRecursion (λ (w : Upload). SharesName w u → ⊥) rest) own
          (λ (u : Upload) (k : IsMine u).
          AllByRecursion-weaker (λ (w : Upload). Contains (name ∷ used) w.client → ⊥)
          (λ (w : Upload). SharesName w u → ⊥) rest
          (λ (w : Upload) (new : Contains (name ∷ used) w.client → ⊥) (shares : SharesName w u).
          new (subst (λ (x : List ℕ). Contains (name ∷ used) x) (sym (shares.0 ∙ k.client))
          (first_is_there name used))) others.others) first.each);
      others = AllByRecursion-append (λ (u : Upload). Contains used u.client → ⊥) own rest
          (AllByRecursion-weaker IsMine (λ (u : Upload). Contains used u.client → ⊥) own
          (λ (u : Upload) (k : IsMine u) (there : Contains used u.client).
          fresh (subst (λ (x : List ℕ). Contains used x) k.client there)) first.each)
          (AllByRecursion-weaker (λ (u : Upload). Contains (name ∷ used) u.client → ⊥)
          (λ (u : Upload). Contains used u.client → ⊥) rest
          (λ (u : Upload) (new : Contains (name ∷ used) u.client → ⊥) (there : Contains used u.client).
          new (later_is_there u.client name used there)) others.others);
    }

none_own : (f : Top) (name : List ℕ) → AreOwn f name []
none_own f name = record { each = tt; distinct = tt; few = omega arith }

all_of : (f : Top) (bytes : List ℕ) (used : List (List ℕ)) (sections : List SectionValue) (lines rest : List Line)
    (us : List Upload) → AreSections bytes used sections lines rest → AreAcceptedOfAll f sections us
    → AreAll f used (length sections) us
all_of f bytes used [] lines rest us spelled h =
    subst (λ (ws : List Upload). AreAll f used 0 ws) (sym h)
    (record { few = omega arith; are_held = tt; within = tt; distinct = tt; others = tt })
all_of f bytes used (s ∷ ss) lines rest us spelled h =
    let section = spelled.1 in
    let some = commands_some bytes s.commands section.others spelled.0 section.commands in
    let first = own_each f s.name s.commands [] h.0 some h.2 (none_own f s.name) in
    let others = all_of f bytes (s.name ∷ used) ss spelled.0 rest h.1 spelled.2 h.3 in
    let next : length ss + 1 ≡ length (s ∷ ss) = omega arith in
    let whole = all_more f used s.name (length ss) h.0 h.1 section.fresh first others in
    subst (λ (ws : List Upload). AreAll f used (length (s ∷ ss)) ws) (sym h.4)
    (subst (λ (n : ℕ). AreAll f used n (h.0 ++ h.1)) next whole)

pub checked_of_script : (bytes : List ℕ) (script : ScriptValue) (us : List Upload) → IsScript bytes script
    → AreAcceptedOfAll script.frame script.clients us → AreCheckedIn script.frame us
checked_of_script bytes script us spelled h =
    let all = all_of script.frame bytes [] script.clients spelled.others [] us spelled.are_sections h in
    let clients = spelled.within.0 in
    record {
      are_held = record {
        few = omega (arith, all.few, clients);
        held = all.are_held;
        distinct = all.distinct;
      };
      within = all.within;
    }
