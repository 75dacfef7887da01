-- Going through commands one by one.
use Rattle.std.proofs.Common.{◌≡◌, ℕ, List, [], ◌∷◌, ◌++◌, Ok, Err, drop, refl, sym, ap, ◌∙◌, subst}
use Rattle.std.proofs.lemmas.List.{append_assoc, append-nil}
use Rattle.lj_base.specs.Frames.{Top}
use Rattle.lj_cover.specs.Rules.{Upload}
use Rattle.lj_script.specs.declared.scripts.Command.{Command}
use Rattle.lj_script.specs.declared.scripts.Command.TheVariants as command
use Rattle.lj_upload.specs.Quotas.{Held}
use Rattle.lj_session.specs.Handling.{GoesOnToAsk, Handles, HandlesFirst, HandlesOutcome, IsHandled, TakesOne, Waits}
use Rattle.lj_session.specs.Handling.{left_after}
use Rattle.lj_session.specs.Outcomes.{Outcome, UploadGives, held}
use Rattle.lj_session.specs.ReplyTexts.{refused_line}
use Rattle.lj_session.specs.Sessions.{AreLocalReplies, GoesOn, IsAsking, IsLocalReply, SessionValue}
use Rattle.lj_session.specs.declared.asks.Ask.{Ask}
use Rattle.lj_session.specs.declared.asks.Ask.TheVariants.{Accept, Bound, Plan, Settle, Done}
use Rattle.lj_session.specs.declared.reasons.Reason.{Reason}

-- a refused upload has its reply
refused_locally : (f : Top) (h : Held) (c : Command) (reason : Reason) → UploadGives f h c (Err reason)
    → IsLocalReply f h c (refused_line reason)
refused_locally f h (command.Upload c body) reason gives = (reason, gives, refl)
refused_locally f h (command.UploadFile body) reason gives = (reason, gives, refl)
refused_locally f h (command.Bound c) reason gives = absurd gives
refused_locally f h (command.Plan c) reason gives = absurd gives
refused_locally f h (command.Expand c) reason gives = absurd gives
refused_locally f h command.Settle reason gives = absurd gives

-- an upload whose outcome was handled was handled
pub upload_handled : (f : Top) (name : List ℕ) (h : Held) (c : Command) (outcome : Outcome) (old now : List ℕ)
    (ask : Ask) → UploadGives f h c outcome → HandlesOutcome name h outcome old now ask →
    IsHandled f name h c old now ask
upload_handled f name h c (Ok d) old now ask gives told =
    subst (λ (a : Ask). IsHandled f name h c old now a) (sym told.1)
    (record { text = []; appended = told.0 ∙ sym (append-nil old); handles = (refl, (d, gives, refl)) })
upload_handled f name h c (Err reason) old now ask gives told =
    subst (λ (a : Ask). IsHandled f name h c old now a) (sym told.1)
    (record { text = refused_line reason; appended = told.0; handles = refused_locally f h c reason gives })

-- one local reply more
replies_snoc : (f : Top) (h : Held) (cs : List Command) (c : Command) (text here : List ℕ)
    → AreLocalReplies f h cs text → IsLocalReply f h c here → AreLocalReplies f h (cs ++ c ∷ []) (text ++ here)
replies_snoc f h [] c text here all one =
    (here, [], one, refl, ap (λ (xs : List ℕ). xs ++ here) all ∙ sym (append-nil here))
replies_snoc f h (d ∷ cs) c text here all one = (
  all.0,
  all.1 ++ here,
  all.2,
  replies_snoc f h cs c all.1 here all.3 one,
  ap (λ (xs : List ℕ). xs ++ here) all.4
      ∙ append_assoc all.0 all.1 here,
)

-- a command that was handled asks what waits
handled_asks : (s : SessionValue) (first : Command) (others : List Command) (text : List ℕ) (ask : Ask)
    → s.left ≡ first ∷ others → Handles s.frame s.section.name (held s.own) first text ask → Waits s ask
handled_asks s first others text (Accept u) left h = record { first = first; others = others; left = left; asks = h.1 }
handled_asks s first others text (Bound c) left h = record { first = first; others = others; left = left; asks = h.1 }
handled_asks s first others text (Plan c) left h = record { first = first; others = others; left = left; asks = h.1 }
handled_asks s first others text Settle left h = record { first = first; others = others; left = left; asks = h.1 }
handled_asks s first others text Done left h = tt

pub first_waits : (s : SessionValue) (old now : List ℕ) (ask : Ask) → HandlesFirst s old now ask → Waits s ask
first_waits s old now ask h = handled_asks s h.first h.others h.handled.text ask h.left h.handled.handles

asking_same : (s t : SessionValue) (ask : Ask) → t.frame ≡ s.frame → t.section ≡ s.section → t.own ≡ s.own
    → t.left ≡ s.left → IsAsking s ask → IsAsking t ask
asking_same s t ask f n o l a = record {
  first = a.first;
  others = a.others;
  left = l ∙ a.left;
  asks = rw (f, n, o) a.asks;
}

-- what waits is asked by the frame, the name, the accepted uploads and the commands left alone
pub waits_same : (s t : SessionValue) (ask : Ask) → t.frame ≡ s.frame → t.section ≡ s.section → t.own ≡ s.own
    → t.left ≡ s.left → Waits s ask → Waits t ask
waits_same s t (Accept u) f n o l w = asking_same s t (Accept u) f n o l w
waits_same s t (Bound c) f n o l w = asking_same s t (Bound c) f n o l w
waits_same s t (Plan c) f n o l w = asking_same s t (Plan c) f n o l w
waits_same s t Settle f n o l w = asking_same s t Settle f n o l w
waits_same s t Done f n o l w = tt

-- a session that goes on to its first command left, which asks
goes_on_same : (s t u : SessionValue) (text : List ℕ) → GoesOn s t → u.frame ≡ t.frame → u.section ≡ t.section
    → u.own ≡ t.own → u.written ≡ t.written → u.left ≡ t.left → u.replies ≡ t.replies ++ text → text ≡ [] → GoesOn s u
goes_on_same s t u text g f n o w l r none = record {
  passed =
      g.passed;
  text = g.text;
  frame = f ∙ g.frame;
  section = n ∙ g.section;
  own = o ∙ g.own;
  written = w ∙ g.written;
  left = g.left ∙ ap (λ (cs : List Command). g.passed ++ cs) (sym l);
  local = g.local;
  replies = r ∙ ap (λ (xs : List ℕ). t.replies ++ xs) none ∙ append-nil t.replies ∙ g.replies;
}

-- the session after its first command left was handled
abbrev after : SessionValue → List ℕ → Ask → SessionValue
after t text ask = record t { left = left_after ask t.left; replies = t.replies ++ text; ask = ask }

asked_next : (s t : SessionValue) (text : List ℕ) (ask : Ask) → GoesOnToAsk s t → (h : HandlesFirst t [] text ask)
    → h.handled.text ≡ [] → left_after ask t.left ≡ t.left → Waits (after t text ask) ask
    → GoesOnToAsk s (after t text ask)
asked_next s t text ask g h none same waits = record {
  goes_on =
      goes_on_same s t (after t text ask) text g.goes_on refl refl refl refl same refl (h.handled.appended ∙ none);
  waits = waits;
}

next : (s t : SessionValue) (text : List ℕ) (ask : Ask) → GoesOnToAsk s t → HandlesFirst t [] text ask
    → GoesOnToAsk s (after t text ask)
next s t text (Accept u) g h =
    asked_next s t text (Accept u) g h h.handled.handles.0 refl
    (waits_same t (after t text (Accept u)) (Accept u) refl refl refl refl (first_waits t [] text (Accept u) h))
next s t text (Bound c) g h =
    asked_next s t text (Bound c) g h h.handled.handles.0 refl
    (waits_same t (after t text (Bound c)) (Bound c) refl refl refl refl (first_waits t [] text (Bound c) h))
next s t text (Plan c) g h =
    asked_next s t text (Plan c) g h h.handled.handles.0 refl
    (waits_same t (after t text (Plan c)) (Plan c) refl refl refl refl (first_waits t [] text (Plan c) h))
next s t text Settle g h =
    asked_next s t text Settle g h h.handled.handles.0 refl
    (waits_same t (after t text Settle) Settle refl refl refl refl (first_waits t [] text Settle h))
next s t text Done g h =
    let on = g.goes_on in
    let here : List ℕ = h.handled.text in
    let one : IsLocalReply s.frame (held s.own) h.first here
    = subst (λ (x : Top × List Upload). IsLocalReply x.0 (held x.1) h.first here)
    (λ i. (on.frame i, on.own i)) h.handled.handles in
    let rest : drop 1 t.left ≡ h.others = ap (λ (cs : List Command). drop 1 cs) h.left in record {
      goes_on = record {
        passed =
            on.passed ++ h.first ∷ [];
        text =
            on.text ++ here;
        frame = on.frame;
        section = on.section;
        own = on.own;
        written = on.written;
        left =
            on.left
            ∙ ap (λ (cs : List Command). on.passed ++ cs) (h.left ∙ ap (λ (cs : List Command). h.first ∷ cs) (sym rest))
            ∙ sym (append_assoc on.passed (h.first ∷ []) (drop 1 t.left));
        local = replies_snoc s.frame (held s.own) on.passed h.first on.text here on.local one;
        replies =
            ap (λ (xs : List ℕ). t.replies ++ xs) h.handled.appended ∙ ap (λ (xs : List ℕ). xs ++ here) on.replies
            ∙ append_assoc s.replies on.text here;
      };
      waits = tt;
    }

pub goes_on_next : (s t u : SessionValue) → GoesOnToAsk s t → TakesOne t u → GoesOnToAsk s u
goes_on_next s t u g one =
    subst (λ (x : SessionValue). GoesOnToAsk s x) (sym one.now) (next s t one.text u.ask g one.handled)

-- a session that has not gone on
pub goes_nowhere : (s : SessionValue) → s.ask ≡ Done → GoesOnToAsk s s
goes_nowhere s free = record {
  goes_on = record {
    passed = [];
    text = [];
    frame = refl;
    section = refl;
    own = refl;
    written = refl;
    left =
        refl;
    local = refl;
    replies = sym (append-nil s.replies);
  };
  waits = subst (λ (a : Ask). Waits s a) (sym free) tt;
}
