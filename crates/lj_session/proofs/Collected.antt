-- The accepted uploads of commands, one after the other: none is lost, each is offered and has a cell of the frame.
use Rattle.std.proofs.Common.{◌≡◌, ◌⊎◌, ℕ, ◌+◌, ◌≤◌, List, [], ◌∷◌, ◌++◌, Ok, Err, None, drop, length, refl}
use Rattle.std.proofs.Common.{sym, ap, subst, inl, inr, ⊎_elim, arith}
use Rattle.std.proofs.lemmas.List.{append-nil, length-append}
use Rattle.std.proofs.lemmas.List.Elements.{Contains-append_cases, Contains-append_left, Contains-append_right}
use Rattle.std.proofs.lemmas.List.Elements.{Contains-push_cases}
use Rattle.std.specs.List.{AllByRecursion, Contains}
use Rattle.lj_base.proofs.Lists.{AllByRecursion-append}
use Rattle.lj_base.specs.Blocks.{Covers}
use Rattle.lj_base.specs.Cells.{Triple}
use Rattle.lj_base.specs.Frames.{InFrame, Top}
use Rattle.lj_blockfile.specs.BlockFiles.{AreBlocksOf}
use Rattle.lj_cover.specs.Designs.{Covering}
use Rattle.lj_cover.specs.Rules.{IsCovering, Upload}
use Rattle.lj_script.specs.Values.{SectionValue}
use Rattle.lj_script.specs.declared.scripts.Command.{Command}
use Rattle.lj_script.specs.declared.scripts.Command.TheVariants.{Upload as Offered, UploadFile, Bound, Plan, Expand}
use Rattle.lj_script.specs.declared.scripts.Command.TheVariants.{Settle}
use Rattle.lj_upload.specs.Quotas.{Held}
use Rattle.lj_session.specs.AcceptedUploads.{Accepts, AcceptsEach, AcceptsUpload, AreAcceptedOf, AreAcceptedOfAll}
use Rattle.lj_session.specs.AcceptedUploads.{IsAcceptedIn, IsAcceptedOf, uploads_after}
use Rattle.lj_session.specs.Offered.{IsOfferOf, IsOffered, IsOfferedBy, Offers, upload_count}
use Rattle.lj_session.specs.Outcomes.{CheckGives, CountGives, FrameGives, Outcome, QuotaGives, TextGives, UploadGives}
use Rattle.lj_session.specs.Outcomes.{held, offer_of, upload_of}
use Rattle.lj_session.specs.declared.offers.Offer.{Offer}
use Rattle.lj_session.proofs.Accepting.{accepted_cell, all_push}
use Rattle.lj_session.proofs.OneOutcome.{OneReading, one_list}

-- ---- none is lost

keeps_after : (name : List ℕ) (us : List Upload) (o : Outcome) (u : Upload) → Contains us u
    → Contains (uploads_after name us o) u
keeps_after name us (Ok d) u k = Contains-append_left us (upload_of name (held us) d ∷ []) u k
keeps_after name us (Err reason) u k = k

upload_keeps : (f : Top) (name : List ℕ) (c : Command) (us vs : List Upload) (u : Upload)
    → AcceptsUpload f name c us vs → Contains us u → Contains vs u
upload_keeps f name c us vs u h k =
    subst (λ (ws : List Upload). Contains ws u) (sym h.2) (keeps_after name us h.0 u k)

same_keeps : (us vs : List Upload) (u : Upload) → vs ≡ us → Contains us u → Contains vs u
same_keeps us vs u h k = subst (λ (ws : List Upload). Contains ws u) (sym h) k

one_keeps : (f : Top) (name : List ℕ) (c : Command) (us vs : List Upload) (u : Upload) → Accepts f name c us vs
    → Contains us u → Contains vs u
one_keeps f name (Offered c body) us vs u h k = upload_keeps f name (Offered c body) us vs u h k
one_keeps f name (UploadFile body) us vs u h k = upload_keeps f name (UploadFile body) us vs u h k
one_keeps f name (Bound c) us vs u h k = same_keeps us vs u h k
one_keeps f name (Plan c) us vs u h k = same_keeps us vs u h k
one_keeps f name (Expand c) us vs u h k = same_keeps us vs u h k
one_keeps f name Settle us vs u h k = same_keeps us vs u h k

each_keeps : (f : Top) (name : List ℕ) (cs : List Command) (us vs : List Upload) (u : Upload)
    → AcceptsEach f name cs us vs → Contains us u → Contains vs u
each_keeps f name [] us vs u h k = same_keeps us vs u h k
each_keeps f name (c ∷ cs) us vs u h k = each_keeps f name cs h.0 vs u h.2 (one_keeps f name c us h.0 u h.1 k)

accepts-split : (f : Top) (name : List ℕ) (cs ds : List Command) (us ws : List Upload)
    → AcceptsEach f name (cs ++ ds) us ws
    → (vs : List Upload) × AcceptsEach f name cs us vs × AcceptsEach f name ds vs ws
accepts-split f name [] ds us ws h = (us, refl, h)
accepts-split f name (c ∷ cs) ds us ws h =
    let r = accepts-split f name cs ds h.0 ws h.2 in (r.0, (h.0, h.1, r.1), r.2)

-- what is accepted after some commands is accepted after all of them
pub accepted_whole : OneReading → (f : Top) (section : SectionValue) (us : List Upload) (u : Upload)
    → AreAcceptedOf f section us → IsAcceptedOf f section u → Contains us u
accepted_whole one f section us u all h =
    let whole : AcceptsEach f section.name (h.passed ++ h.others) [] us =
    subst (λ (cs : List Command). AcceptsEach f section.name cs [] us) h.commands all in
    let parts = accepts-split f section.name h.passed h.others [] us whole in
    let same : h.uploads ≡ parts.0 =
    one_list one f section.name h.passed [] h.uploads parts.0 h.accepts parts.1 in
    each_keeps f section.name h.others parts.0 us u parts.2
    (subst (λ (vs : List Upload). Contains vs u) same h.one)

pub accepted_after : (f : Top) (section : SectionValue) (us : List Upload) (u : Upload) → AreAcceptedOf f section us
    → Contains us u → IsAcceptedOf f section u
accepted_after f section us u all k = record {
  passed = section.commands;
  others = [];
  commands = sym (append-nil section.commands);
  uploads = us;
  accepts = all;
  one = k;
}

pub contains_none : {X : Type 0} (x : X) → Contains {X = X} [] x → ⊥
contains_none x k = omega (arith, k.1)

-- a member is the first or one of the others
contains_cases : {X : Type 0} (x : X) (xs : List X) (y : X) → Contains (x ∷ xs) y → (x ≡ y) ⊎ Contains xs y
contains_cases x xs y k = ⊎_elim
    (λ (h : Contains (x ∷ []) y). ⊎_elim (λ (n : Contains [] y). inl (absurd (contains_none y n)))
    (λ (e : x ≡ y). inl e) (Contains-push_cases [] x y h))
    (λ (h : Contains xs y). inr h) (Contains-append_cases (x ∷ []) xs y k)

pub accepted_in_whole : OneReading → (f : Top) (sections : List SectionValue) (us : List Upload) (u : Upload)
    → AreAcceptedOfAll f sections us → IsAcceptedIn f sections u → Contains us u
accepted_in_whole one f [] us u all h = absurd (contains_none h.0 h.1)
accepted_in_whole one f (s ∷ ss) us u all h =
    let own : List Upload = all.0 in
    let rest : List Upload = all.1 in
    let here : Contains (own ++ rest) u = ⊎_elim
    (λ (e : s ≡ h.0). Contains-append_left own rest u
    (accepted_whole one f s own u all.2 (subst (λ (x : SectionValue). IsAcceptedOf f x u) (sym e) h.2)))
    (λ (later : Contains ss h.0). Contains-append_right own rest u
    (accepted_in_whole one f ss rest u all.3 (h.0, later, h.2)))
    (contains_cases s ss h.0 h.1) in
    subst (λ (ws : List Upload). Contains ws u) (sym all.4) here

pub accepted_in_after : (f : Top) (sections : List SectionValue) (us : List Upload) (u : Upload)
    → AreAcceptedOfAll f sections us → Contains us u → IsAcceptedIn f sections u
accepted_in_after f [] us u all k = absurd (contains_none u (subst (λ (ws : List Upload). Contains ws u) all k))
accepted_in_after f (s ∷ ss) us u all k =
    let own : List Upload = all.0 in
    let rest : List Upload = all.1 in
    ⊎_elim
    (λ (first : Contains own u). (s, (0, omega arith, refl), accepted_after f s own u all.2 first))
    (λ (later : Contains rest u). let h = accepted_in_after f ss rest u all.3 later in
    (h.0, Contains-append_right (s ∷ []) ss h.0 h.1, h.2))
    (Contains-append_cases own rest u (subst (λ (ws : List Upload). Contains ws u) all.4 k))

-- ---- each has a cell of the frame

inside_after : (f : Top) (name : List ℕ) (c : Command) (us : List Upload) (o : Outcome) → UploadGives f (held us) c o
    → AllByRecursion (λ u. InFrame f u.cell) us → AllByRecursion (λ u. InFrame f u.cell) (uploads_after name us o)
inside_after f name c us (Ok d) gives all =
    all_push (λ (u : Upload). InFrame f u.cell) us (upload_of name (held us) d) all
    (accepted_cell f (held us) c d gives)
inside_after f name c us (Err reason) gives all = all

upload_inside : (f : Top) (name : List ℕ) (c : Command) (us vs : List Upload) → AcceptsUpload f name c us vs
    → AllByRecursion (λ u. InFrame f u.cell) us → AllByRecursion (λ u. InFrame f u.cell) vs
upload_inside f name c us vs h all =
    subst (λ (ws : List Upload). AllByRecursion (λ (u : Upload). InFrame f u.cell) ws) (sym h.2)
    (inside_after f name c us h.0 h.1 all)

same_inside : (f : Top) (us vs : List Upload) → vs ≡ us → AllByRecursion (λ u. InFrame f u.cell) us
    → AllByRecursion (λ u. InFrame f u.cell) vs
same_inside f us vs h all =
    subst (λ (ws : List Upload). AllByRecursion (λ (u : Upload). InFrame f u.cell) ws) (sym h) all

one_inside : (f : Top) (name : List ℕ) (c : Command) (us vs : List Upload) → Accepts f name c us vs
    → AllByRecursion (λ u. InFrame f u.cell) us → AllByRecursion (λ u. InFrame f u.cell) vs
one_inside f name (Offered c body) us vs h all = upload_inside f name (Offered c body) us vs h all
one_inside f name (UploadFile body) us vs h all = upload_inside f name (UploadFile body) us vs h all
one_inside f name (Bound c) us vs h all = same_inside f us vs h all
one_inside f name (Plan c) us vs h all = same_inside f us vs h all
one_inside f name (Expand c) us vs h all = same_inside f us vs h all
one_inside f name Settle us vs h all = same_inside f us vs h all

each_inside : (f : Top) (name : List ℕ) (cs : List Command) (us vs : List Upload) → AcceptsEach f name cs us vs
    → AllByRecursion (λ u. InFrame f u.cell) us → AllByRecursion (λ u. InFrame f u.cell) vs
each_inside f name [] us vs h all = same_inside f us vs h all
each_inside f name (c ∷ cs) us vs h all =
    each_inside f name cs h.0 vs h.2 (one_inside f name c us h.0 h.1 all)

pub all_inside : (f : Top) (sections : List SectionValue) (us : List Upload) → AreAcceptedOfAll f sections us
    → AllByRecursion (λ u. InFrame f u.cell) us
all_inside f [] us all = same_inside f [] us all tt
all_inside f (s ∷ ss) us all =
    same_inside f (all.0 ++ all.1) us all.4
    (AllByRecursion-append (λ (u : Upload). InFrame f u.cell) all.0 all.1
    (each_inside f s.name s.commands [] all.0 all.2 tt) (all_inside f ss all.1 all.3))

-- ---- each is offered

-- a covering with the blocks of a text
abbrev IsRead : Triple → List ℕ → Covering → Type 0
IsRead c text d = (bs : List (List ℕ)) × AreBlocksOf text c.v c.k bs × Covers bs c
    × (d ≡ record { cell = c; blocks = bs })

check_reads : (c : Triple) (bs : List (List ℕ)) (d : Covering) → CheckGives c bs (Ok d)
    → Covers bs c × (d ≡ record { cell = c; blocks = bs })
check_reads c bs d (inl h) =
    let e : Ok d ≡ Ok (record { cell = c; blocks = bs }) = h.2 in
    let same : d ≡ record { cell = c; blocks = bs } = cc in (h.1, same)
check_reads c bs d (inr h) = absurd (let e = h.3 in cc)

quota_reads : (before : Held) (c : Triple) (bs : List (List ℕ)) (d : Covering) → QuotaGives before c bs (Ok d)
    → Covers bs c × (d ≡ record { cell = c; blocks = bs })
quota_reads before c bs d (inl h) = check_reads c bs d h.1
quota_reads before c bs d (inr h) = absurd (let e = h.2 in cc)

count_reads : (before : Held) (o : Offer) (bs : List (List ℕ)) (d : Covering) → CountGives before o bs (Ok d)
    → Covers bs o.cell × (d ≡ record { cell = o.cell; blocks = bs })
count_reads before o bs d (inl h) = quota_reads before o.cell bs d h.1
count_reads before o bs d (inr h) = absurd (let e = h.3 in cc)

text_reads : (before : Held) (o : Offer) (text : List ℕ) (d : Covering) → TextGives before o text (Ok d)
    → IsRead o.cell text d
text_reads before o text d (inl h) = let r = count_reads before o h.0 d h.2 in (h.0, h.1, r.0, r.1)
text_reads before o text d (inr h) = absurd (let e = h.3 in cc)

frame_reads : (f : Top) (before : Held) (o : Offer) (text : List ℕ) (d : Covering) → FrameGives f before o text (Ok d)
    → InFrame f o.cell × IsRead o.cell text d
frame_reads f before o text d (inl h) = (h.0, text_reads before o text d h.1)
frame_reads f before o text d (inr h) = absurd (let e = h.1 in cc)

-- what is said of an upload that a command offers
abbrev IsGood : Command → Upload → Type 0
IsGood c u = IsCovering u × IsOfferOf c u

read_good : (f : Top) (name : List ℕ) (before : Held) (command : Command) (c : Triple) (text : List ℕ) (d : Covering)
    → InFrame f c → Offers command c text → IsRead c text d → IsGood command (upload_of name before d)
read_good f name before command c text d inside offers r =
    subst (λ (w : Covering). IsGood command (upload_of name before w)) (sym r.3)
    (record { in_limits = inside.cell; covers = r.2 }, (text, offers, r.1))

gives_good : (f : Top) (name : List ℕ) (before : Held) (command : Command) (d : Covering)
    → UploadGives f before command (Ok d) → IsGood command (upload_of name before d)
gives_good f name before (Offered c body) d gives =
    let r = frame_reads f before (record { cell = c; before = 0; announced = None }) body d gives in
    read_good f name before (Offered c body) c body d r.0 (refl, refl) r.1
gives_good f name before (UploadFile body) d (inl h) =
    let r = frame_reads f before (offer_of h.0) (drop h.0.rest body) d h.2 in
    read_good f name before (UploadFile body) h.0.cell (drop h.0.rest body) d r.0 (h.0, h.1, refl, refl) r.1
gives_good f name before (UploadFile body) d (inr h) = absurd (let e = h.1 in cc)
gives_good f name before (Bound c) d gives = absurd gives
gives_good f name before (Plan c) d gives = absurd gives
gives_good f name before (Expand c) d gives = absurd gives
gives_good f name before Settle d gives = absurd gives

one_count : Command → ℕ
one_count (Offered c body) = 1
one_count (UploadFile body) = 1
one_count (Bound c) = 0
one_count (Plan c) = 0
one_count (Expand c) = 0
one_count Settle = 0

count-cons : (c : Command) (cs : List Command) → upload_count (c ∷ cs) ≡ one_count c + upload_count cs
unfolding one_count
count-cons (Offered c body) cs = omega arith
count-cons (UploadFile body) cs = omega arith
count-cons (Bound c) cs = omega arith
count-cons (Plan c) cs = omega arith
count-cons (Expand c) cs = omega arith
count-cons Settle cs = omega arith

pub count-append : (cs ds : List Command) → upload_count (cs ++ ds) ≡ upload_count cs + upload_count ds
count-append [] ds = omega arith
count-append (c ∷ cs) ds =
    omega (arith, count-cons c (cs ++ ds), count-cons c cs, count-append cs ds)

-- an upload that one of these commands offers, where n uploads were offered before
record IsNew (name : List ℕ) (cs : List Command) (n : ℕ) (u : Upload) : Type 0 where
  covering : IsCovering u
  client : u.client ≡ name
  first : 1 ≤ u.ordinal
  last : u.ordinal ≤ n + upload_count cs
  command : Command
  one : Contains cs command
  offers : IsOfferOf command u

-- the upload was there before, or it is new
abbrev IsOldOrNew : List ℕ → List Command → ℕ → List Upload → Upload → Type 0
IsOldOrNew name cs n us u = Contains us u ⊎ IsNew name cs n u

outcome_new : (f : Top) (name : List ℕ) (c : Command) (us : List Upload) (n : ℕ) (o : Outcome) (u : Upload)
    → length us ≤ n → 1 ≤ one_count c → UploadGives f (held us) c o → Contains (uploads_after name us o) u
    → IsOldOrNew name (c ∷ []) n us u
outcome_new f name c us n (Err reason) u few some gives k = inl k
outcome_new f name c us n (Ok d) u few some gives k =
    let new : Upload = upload_of name (held us) d in
    let good = gives_good f name (held us) c d gives in
    ⊎_elim (λ (old : Contains us u). inl old)
    (λ (e : new ≡ u). inr (subst (λ (w : Upload). IsNew name (c ∷ []) n w) e (record {
      covering = good.0;
      client = refl;
      first = omega arith;
      last = omega (arith, count-cons c [], few, some);
      command = c;
      one = (0, omega arith, refl);
      offers = good.1;
    })))
    (Contains-push_cases us new u k)

upload_new : (f : Top) (name : List ℕ) (c : Command) (us vs : List Upload) (n : ℕ) (u : Upload) → length us ≤ n
    → 1 ≤ one_count c → AcceptsUpload f name c us vs → Contains vs u → IsOldOrNew name (c ∷ []) n us u
upload_new f name c us vs n u few some h k =
    outcome_new f name c us n h.0 u few some h.1 (subst (λ (ws : List Upload). Contains ws u) h.2 k)

one_new : (f : Top) (name : List ℕ) (c : Command) (us vs : List Upload) (n : ℕ) (u : Upload) → length us ≤ n
    → Accepts f name c us vs → Contains vs u → IsOldOrNew name (c ∷ []) n us u
unfolding one_count
one_new f name (Offered c body) us vs n u few h k =
    upload_new f name (Offered c body) us vs n u few (omega arith) h k
one_new f name (UploadFile body) us vs n u few h k =
    upload_new f name (UploadFile body) us vs n u few (omega arith) h k
one_new f name (Bound c) us vs n u few h k = inl (subst (λ (ws : List Upload). Contains ws u) h k)
one_new f name (Plan c) us vs n u few h k = inl (subst (λ (ws : List Upload). Contains ws u) h k)
one_new f name (Expand c) us vs n u few h k = inl (subst (λ (ws : List Upload). Contains ws u) h k)
one_new f name Settle us vs n u few h k = inl (subst (λ (ws : List Upload). Contains ws u) h k)

length_after : (name : List ℕ) (us : List Upload) (o : Outcome) → length (uploads_after name us o) ≤ length us + 1
length_after name us (Ok d) = omega (arith, length-append us (upload_of name (held us) d ∷ []))
length_after name us (Err reason) = omega arith

length_upload : (f : Top) (name : List ℕ) (c : Command) (us vs : List Upload) → AcceptsUpload f name c us vs
    → length vs ≤ length us + 1
length_upload f name c us vs h =
    omega (arith, length_after name us h.0, ap (λ (ws : List Upload). length ws) h.2)

length_one : (f : Top) (name : List ℕ) (c : Command) (us vs : List Upload) → Accepts f name c us vs
    → length vs ≤ length us + one_count c
unfolding one_count
length_one f name (Offered c body) us vs h = length_upload f name (Offered c body) us vs h
length_one f name (UploadFile body) us vs h = length_upload f name (UploadFile body) us vs h
length_one f name (Bound c) us vs h = omega (arith, ap (λ (ws : List Upload). length ws) h)
length_one f name (Plan c) us vs h = omega (arith, ap (λ (ws : List Upload). length ws) h)
length_one f name (Expand c) us vs h = omega (arith, ap (λ (ws : List Upload). length ws) h)
length_one f name Settle us vs h = omega (arith, ap (λ (ws : List Upload). length ws) h)

-- what is new of a later command, and of the first one, is new of all
new_later : (name : List ℕ) (c : Command) (cs : List Command) (n : ℕ) (u : Upload)
    → IsNew name cs (n + one_count c) u → IsNew name (c ∷ cs) n u
new_later name c cs n u h = record {
  covering = h.covering;
  client = h.client;
  first = h.first;
  last = omega (arith, h.last, count-cons c cs);
  command = h.command;
  one = Contains-append_right (c ∷ []) cs h.command h.one;
  offers = h.offers;
}

new_first : (name : List ℕ) (c : Command) (cs : List Command) (n : ℕ) (u : Upload) → IsNew name (c ∷ []) n u
    → IsNew name (c ∷ cs) n u
new_first name c cs n u h = record {
  covering = h.covering;
  client = h.client;
  first = h.first;
  last = omega (arith, h.last, count-cons c cs, count-cons c []);
  command = h.command;
  one = Contains-append_left (c ∷ []) cs h.command h.one;
  offers = h.offers;
}

each_new : (f : Top) (name : List ℕ) (cs : List Command) (us vs : List Upload) (n : ℕ) (u : Upload) → length us ≤ n
    → AcceptsEach f name cs us vs → Contains vs u → IsOldOrNew name cs n us u
each_new f name [] us vs n u few h k = inl (subst (λ (ws : List Upload). Contains ws u) h k)
each_new f name (c ∷ cs) us vs n u few h k =
    let now : length h.0 ≤ n + one_count c = omega (arith, few, length_one f name c us h.0 h.1) in
    ⊎_elim
    (λ (old : Contains h.0 u). ⊎_elim (λ (older : Contains us u). inl older)
    (λ (new : IsNew name (c ∷ []) n u). inr (new_first name c cs n u new))
    (one_new f name c us h.0 n u few h.1 old))
    (λ (new : IsNew name cs (n + one_count c) u). inr (new_later name c cs n u new))
    (each_new f name cs h.0 vs (n + one_count c) u now h.2 k)

offered_of : (f : Top) (section : SectionValue) (u : Upload) → IsAcceptedOf f section u → IsOfferedBy section u
offered_of f section u h = ⊎_elim
    (λ (old : Contains [] u). absurd (contains_none u old))
    (λ (new : IsNew section.name h.passed 0 u). record {
      covering = new.covering;
      client = new.client;
      first = new.first;
      last = omega (
        arith,
        new.last,
        count-append h.passed h.others,
        ap (λ (cs : List Command). upload_count cs) h.commands,
      );
      offer = (
        new.command,
        subst (λ (cs : List Command). Contains cs new.command) (sym h.commands)
            (Contains-append_left h.passed h.others new.command new.one),
        new.offers,
      );
    })
    (each_new f section.name h.passed [] h.uploads 0 u (omega arith) h.accepts h.one)

pub accepted_offered : (f : Top) (sections : List SectionValue) (u : Upload) → IsAcceptedIn f sections u
    → IsOffered sections u
accepted_offered f sections u h = (h.0, h.1, offered_of f h.0 u h.2)
