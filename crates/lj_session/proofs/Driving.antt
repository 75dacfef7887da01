-- A session goes on through its section: over commands whose replies need no table, and over one that has its reply.
use Rattle.std.proofs.Common.{◌≡◌, ℕ, ◌+◌, ◌<◌, ◌≤◌, Bool, true, false, nat_lt, if◌then◌else◌, List, [], ◌∷◌, ◌++◌}
use Rattle.std.proofs.Common.{Ok, Err, codes, drop, refl, sym, ap, ◌∙◌, subst, inl, inr, ⊎_elim, arith}
use Rattle.std.proofs.lemmas.Bool.Decides.{nat_tests}
use Rattle.std.proofs.lemmas.List.{append_assoc, append-nil}
use Rattle.lj_base.specs.Cells.{Triple}
use Rattle.lj_base.specs.Frames.{Top}
use Rattle.lj_cover.specs.Derivations.{Tree, expand, root_cell, tree_cost}
use Rattle.lj_cover.specs.Rules.{Upload}
use Rattle.lj_deriv.specs.Nodes.{Steps, plan_tree}
use Rattle.lj_deriv.specs.Texts.{Spelled, plan_text}
use Rattle.lj_script.specs.Values.{SectionValue}
use Rattle.lj_script.specs.declared.scripts.Command.{Command}
use Rattle.lj_script.specs.declared.scripts.Command.TheVariants.{Upload as Offered, UploadFile, Bound, Plan, Expand}
use Rattle.lj_script.specs.declared.scripts.Command.TheVariants.{Settle}
use Rattle.lj_session.specs.AcceptedUploads.{Accepts, AcceptsEach, AcceptsUpload, uploads_after}
use Rattle.lj_session.specs.Driving.{IsServed}
use Rattle.lj_session.specs.Outcomes.{Outcome, UploadGives, held, upload_of}
use Rattle.lj_session.specs.Replies.{AreReplies, IsReadReply, IsReply, IsShown, IsUploadReply, Progress, ReportsBlocks}
use Rattle.lj_session.specs.Replies.{ReportsBound, ReportsPlan, Service}
use Rattle.lj_session.specs.Replies.{and_blocks, and_number, and_outcome, and_settle, and_upload, no_progress}
use Rattle.lj_session.specs.ReplyTexts.{accepted_line, bound_line, expand_reply, plan_reply, settled_line}
use Rattle.lj_session.specs.Sessions.{AreLocalReplies, GoesOn, IsAsking, IsLocalReply, SessionValue, new_session}
use Rattle.lj_session.specs.Sessions.{with_blocks, with_bound, with_plan_for, with_reply}
use Rattle.lj_session.specs.Sessions.{with_settle, with_too_big, with_upload}
use Rattle.lj_session.specs.declared.asks.Ask.{Ask}
use Rattle.lj_session.specs.declared.asks.Ask.TheVariants as ask
use Rattle.lj_session.specs.declared.limits.TheConstants.{MAX_WRITTEN}

-- a reply that needs no table leaves the progress as it is
local_reply : (s : Service) (c : Command) (p : Progress) (text : List ℕ) → IsLocalReply s.frame (held p.own) c text
    → IsReply s c p text p
local_reply s (Offered c body) p text h = (Err h.0, h.1, h.2, refl)
local_reply s (UploadFile body) p text h = (Err h.0, h.1, h.2, refl)
local_reply s (Bound c) p text h = inl (h.0, h.1, refl)
local_reply s (Plan c) p text h = inl (h.0, h.1, refl)
local_reply s (Expand c) p text h = inl (h.0, h.1, refl)
local_reply s Settle p text h = absurd h

local_replies : (s : Service) (cs rest : List Command) (p : Progress) (text more : List ℕ) (q : Progress)
    → AreLocalReplies s.frame (held p.own) cs text → AreReplies s rest p more q
    → AreReplies s (cs ++ rest) p (text ++ more) q
local_replies s [] rest p text more q h r = rw h r
local_replies s (c ∷ cs) rest p text more q h r = (
  h.0,
  h.1 ++ more,
  p,
  local_reply s c p h.0 h.2,
  local_replies s cs rest p h.1 more q h.3 r,
  ap (λ (xs : List ℕ). xs ++ more) h.4 ∙ append_assoc h.0 h.1 more,
)

-- the replies accept what their commands are to
upload_accepts : (s : Service) (c : Command) (p : Progress) (text : List ℕ) (q : Progress)
    → IsUploadReply s c p text q → AcceptsUpload s.frame s.client c p.own q.own
upload_accepts s c p text q h = (h.0, h.1, ap (λ (x : Progress). x.own) h.3 ∙ own_after s.client p h.0)
  where
    own_after : (name : List ℕ) (p : Progress) (o : Outcome) → (and_outcome name p o).own ≡ uploads_after name p.own o
    own_after name p (Ok d) = refl
    own_after name p (Err reason) = refl

read_accepts : (s : Service) (c : Triple) (R : ℕ → List ℕ → Progress → Type 0) (p : Progress) (text : List ℕ)
    (q : Progress) → ((b : ℕ) → R b text q → q.own ≡ p.own) → IsReadReply s c R p text q → q.own ≡ p.own
read_accepts s c R p text q own (inl out) = ap (λ (x : Progress). x.own) out.2
read_accepts s c R p text q own (inr h) = own h.1 h.3

blocks_own : (s : Service) (c : Triple) (p : Progress) (b : ℕ) (text : List ℕ) (q : Progress)
    → ReportsBlocks s c p b text q → q.own ≡ p.own
blocks_own s c p b text q (inl h) = ap (λ (x : Progress). x.own) h.4
blocks_own s c p b text q (inr h) = ap (λ (x : Progress). x.own) h.2

one_accepts : (s : Service) (c : Command) (p : Progress) (text : List ℕ) (q : Progress) → IsReply s c p text q
    → Accepts s.frame s.client c p.own q.own
one_accepts s (Offered c body) p text q r = upload_accepts s (Offered c body) p text q r
one_accepts s (UploadFile body) p text q r = upload_accepts s (UploadFile body) p text q r
one_accepts s (Bound c) p text q r =
    read_accepts s c (ReportsBound c p) p text q (λ b t. ap (λ (x : Progress). x.own) t.1) r
one_accepts s (Plan c) p text q r =
    read_accepts s c (ReportsPlan s c p) p text q (λ b t. ap (λ (x : Progress). x.own) t.5) r
one_accepts s (Expand c) p text q r =
    read_accepts s c (ReportsBlocks s c p) p text q (λ b t. blocks_own s c p b text q t) r
one_accepts s Settle p text q r = ap (λ (x : Progress). x.own) r.1

-- what the commands of two lists accept, one after the other
pub accepts-append : (f : Top) (name : List ℕ) (cs ds : List Command) (us vs ws : List Upload)
    → AcceptsEach f name cs us vs → AcceptsEach f name ds vs ws → AcceptsEach f name (cs ++ ds) us ws
accepts-append f name [] ds us vs ws h k = subst (λ (xs : List Upload). AcceptsEach f name ds xs ws) h k
accepts-append f name (c ∷ cs) ds us vs ws h k = (h.0, h.1, accepts-append f name cs ds h.0 vs ws h.2 k)

-- nothing is accepted where the reply needs no table
local_accepts : (f : Top) (name : List ℕ) (us : List Upload) (c : Command) (text : List ℕ)
    → IsLocalReply f (held us) c text → Accepts f name c us us
local_accepts f name us (Offered c body) text h = (Err h.0, h.1, refl)
local_accepts f name us (UploadFile body) text h = (Err h.0, h.1, refl)
local_accepts f name us (Bound c) text h = refl
local_accepts f name us (Plan c) text h = refl
local_accepts f name us (Expand c) text h = refl
local_accepts f name us Settle text h = absurd h

local_accept_each : (f : Top) (name : List ℕ) (us : List Upload) (cs : List Command) (text : List ℕ)
    → AreLocalReplies f (held us) cs text → AcceptsEach f name cs us us
local_accept_each f name us [] text h = refl
local_accept_each f name us (c ∷ cs) text h =
    (us, local_accepts f name us c h.0 h.2, local_accept_each f name us cs h.1 h.3)

pub served_start : (service : Service) (K : Progress → Type 0) (section : SectionValue) → K no_progress
    → IsServed service K section (new_session service.frame section)
served_start service K section k = record {
  section_is = refl;
  frame_is = refl;
  passed = [];
  commands = refl;
  accepts = refl;
  progress = no_progress;
  own = refl;
  written = refl;
  knows = k;
  completes = λ rest q r. r;
}

pub served_on : (service : Service) (K : Progress → Type 0) (section : SectionValue) (s t : SessionValue)
    → IsServed service K section s → GoesOn s t → IsServed service K section t
served_on service K section s t h g = record {
  section_is = g.section ∙ h.section_is;
  frame_is = g.frame ∙ h.frame_is;
  passed = h.passed ++ g.passed;
  commands =
      h.commands ∙ ap (λ (cs : List Command). h.passed ++ cs) g.left ∙ sym (append_assoc h.passed g.passed t.left);
  accepts =
      let local : AreLocalReplies service.frame (held s.own) g.passed g.text =
      subst (λ (f : Top). AreLocalReplies f (held s.own) g.passed g.text) h.frame_is g.local in
      subst (λ (us : List Upload). AcceptsEach service.frame service.client (h.passed ++ g.passed) [] us) (sym g.own)
      (accepts-append service.frame service.client h.passed g.passed [] s.own s.own h.accepts
      (local_accept_each service.frame service.client s.own g.passed g.text local));
  progress = h.progress;
  own = h.own ∙ sym g.own;
  written = h.written ∙ sym g.written;
  knows = h.knows;
  completes = λ rest q r.
      let local : AreLocalReplies service.frame (held h.progress.own) g.passed g.text
      = subst (λ (x : Top × List Upload). AreLocalReplies x.0 (held x.1) g.passed g.text)
      (λ i. (h.frame_is i, sym h.own i)) g.local in
      let whole : AreReplies service s.left h.progress (g.text ++ rest) q
      = subst (λ (cs : List Command). AreReplies service cs h.progress (g.text ++ rest) q) (sym g.left)
      (local_replies service g.passed t.left h.progress g.text rest q local r) in
      let e : s.replies ++ (g.text ++ rest) ≡ t.replies ++ rest =
      sym (append_assoc s.replies g.text rest) ∙ ap (λ (xs : List ℕ). xs ++ rest) (sym g.replies) in
      subst (λ (text : List ℕ). AreReplies service section.commands no_progress text q) e
      (h.completes (g.text ++ rest) q whole);
}

-- the first command left gets its reply, from each progress that the session may have come to
pub record Replied (service : Service) (K L : Progress → Type 0) (s t : SessionValue) : Type 0 where
  pub first : Command
  pub others : List Command
  pub text : List ℕ
  pub left : s.left ≡ first ∷ others
  pub left_now : t.left ≡ others
  pub replies : t.replies ≡ s.replies ++ text
  pub section_is : t.section ≡ s.section
  pub frame_is : t.frame ≡ s.frame
  pub reply : (p : Progress) → p.own ≡ s.own → p.written ≡ s.written → K p
      → (q : Progress) × IsReply service first p text q × (q.own ≡ t.own) × (q.written ≡ t.written) × L q

pub served_reply : (service : Service) (K L : Progress → Type 0) (section : SectionValue) (s t : SessionValue)
    → IsServed service K section s → Replied service K L s t → IsServed service L section t
served_reply service K L section s t h g =
    let r = g.reply h.progress h.own h.written h.knows in record {
      section_is = g.section_is ∙ h.section_is;
      frame_is = g.frame_is ∙ h.frame_is;
      passed = h.passed ++ g.first ∷ [];
      commands =
          h.commands
          ∙ ap (λ (cs : List Command). h.passed ++ cs)
          (g.left ∙ ap (λ (cs : List Command). g.first ∷ cs) (sym g.left_now))
          ∙ sym (append_assoc h.passed (g.first ∷ []) t.left);
      accepts =
          let one : Accepts service.frame service.client g.first s.own t.own =
          subst (λ (x : List Upload × List Upload). Accepts service.frame service.client g.first x.0 x.1)
          (λ i. (h.own i, r.2 i)) (one_accepts service g.first h.progress g.text r.0 r.1) in
          accepts-append service.frame service.client h.passed (g.first ∷ []) [] s.own t.own h.accepts
          (t.own, one, refl);
      progress = r.0;
      own = r.2;
      written = r.3;
      knows = r.4;
      completes = λ rest q after.
          let here : AreReplies service g.others r.0 rest q =
          subst (λ (cs : List Command). AreReplies service cs r.0 rest q) g.left_now after in
          let whole : AreReplies service s.left h.progress (g.text ++ rest) q
          = subst (λ (cs : List Command). AreReplies service cs h.progress (g.text ++ rest) q) (sym g.left)
          (g.text, rest, r.0, r.1, here, refl) in
          let e : s.replies ++ (g.text ++ rest) ≡ t.replies ++ rest =
          sym (append_assoc s.replies g.text rest) ∙ ap (λ (xs : List ℕ). xs ++ rest) (sym g.replies) in
          subst (λ (text : List ℕ). AreReplies service section.commands no_progress text q) e
          (h.completes (g.text ++ rest) q whole);
    }

pub served_done : (service : Service) (K : Progress → Type 0) (section : SectionValue) (s : SessionValue)
    → IsServed service K section s → s.left ≡ []
    → (end : Progress) × AreReplies service section.commands no_progress s.replies end
    × AcceptsEach service.frame service.client section.commands [] s.own
served_done service K section s h none =
    let last : AreReplies service s.left h.progress [] h.progress =
    subst (λ (cs : List Command). AreReplies service cs h.progress [] h.progress) (sym none) (refl, refl) in
    let all : AreReplies service section.commands no_progress s.replies h.progress
    = subst (λ (text : List ℕ). AreReplies service section.commands no_progress text h.progress)
    (append-nil s.replies) (h.completes [] h.progress last) in
    let passed : h.passed ≡ section.commands =
    sym (append-nil h.passed) ∙ ap (λ (cs : List Command). h.passed ++ cs) (sym none) ∙ sym h.commands in (
      h.progress,
      all,
      subst (λ (cs : List Command). AcceptsEach service.frame service.client cs [] s.own) passed h.accepts,
    )

-- the reply to each ask
abbrev ReplyFrom : Service → (Progress → Type 0) → (Progress → Type 0) → SessionValue → Command → List ℕ → Type 0
ReplyFrom service K L s c text = (p : Progress) → p.own ≡ s.own → p.written ≡ s.written → K p
    → (q : Progress) × IsReply service c p text q × (q.own ≡ s.own) × (q.written ≡ s.written) × L q

with_reply_replied : (service : Service) (K L : Progress → Type 0) (s : SessionValue) (a : Ask) (text : List ℕ)
    (asking : IsAsking s a) → ReplyFrom service K L s asking.first text → Replied service K L s (with_reply s text)
with_reply_replied service K L s a text asking reply = record {
  first = asking.first;
  others = asking.others;
  text = text;
  left = asking.left;
  left_now = ap (λ (cs : List Command). drop 1 cs) asking.left;
  replies = refl;
  section_is = refl;
  frame_is = refl;
  reply = reply;
}

pub replied_settle : (service : Service) (K L : Progress → Type 0) (s : SessionValue) → IsAsking s ask.Settle
    → ((p : Progress) → p.own ≡ s.own → K p → L (and_settle p)) → Replied service K L s (with_settle s)
replied_settle service K L s asking keeps = with_reply_replied service K L s ask.Settle settled_line asking
    (λ p own written k. (and_settle p, rw asking.asks (refl, refl), own, written, keeps p own k))

pub replied_bound : (service : Service) (K L : Progress → Type 0) (s : SessionValue) (c : Triple) (b : ℕ)
    → s.frame ≡ service.frame → IsAsking s (ask.Bound c)
    → ((p : Progress) → p.own ≡ s.own → K p → service.Number p c b × L (and_number p c b))
    → Replied service K L s (with_bound s c b)
replied_bound service K L s c b f asking keeps =
    with_reply_replied service K L s (ask.Bound c) (bound_line (codes "bound") c b) asking
    (λ p own written k. let n = keeps p own k in
    (and_number p c b, rw asking.asks.0 (inr (rw (sym f) asking.asks.1, b, n.0, (refl, refl))), own, written, n.1))

upload_reply : (service : Service) (c : Command) (p : Progress) (o : Outcome) (u : Upload)
    → UploadGives service.frame (held p.own) c o → (text : List ℕ) (q : Progress) → IsUploadReply service c p text q
    → IsReply service c p text q
upload_reply service (Offered c body) p o u g text q r = r
upload_reply service (UploadFile body) p o u g text q r = r
upload_reply service (Bound c) p o u g text q r = absurd g
upload_reply service (Plan c) p o u g text q r = absurd g
upload_reply service (Expand c) p o u g text q r = absurd g
upload_reply service Settle p o u g text q r = absurd g

pub replied_accept : (service : Service) (K L : Progress → Type 0) (s : SessionValue) (u : Upload)
    → s.frame ≡ service.frame → s.section.name ≡ service.client → IsAsking s (ask.Accept u)
    → ((p : Progress) → p.own ≡ s.own → K p → L (and_upload p u)) → Replied service K L s (with_upload s u)
replied_accept service K L s u f n asking keeps = record {
  first = asking.first;
  others = asking.others;
  text = accepted_line u;
  left = asking.left;
  left_now = ap (λ (cs : List Command). drop 1 cs) asking.left;
  replies = refl;
  section_is = refl;
  frame_is = refl;
  reply = λ p own written k.
      let d = asking.asks.0 in
      let gives : UploadGives service.frame (held p.own) asking.first (Ok d)
      = subst (λ (x : Top × List Upload). UploadGives x.0 (held x.1) asking.first (Ok d))
      (λ i. (f i, sym own i)) asking.asks.1 in
      let e : u ≡ upload_of service.client (held p.own) d =
      asking.asks.2 ∙ (λ i. upload_of (n i) (held (sym own i)) d) in (
        and_upload p u,
        upload_reply service asking.first p (Ok d) u gives (accepted_line u) (and_upload p u)
            (Ok d, gives, ap (λ (x : Upload). accepted_line x) e, ap (λ (x : Upload). and_upload p x) e),
        ap (λ (us : List Upload). us ++ u ∷ []) own,
        written,
        keeps p own k,
      );
}

-- what the reply to a plan or an expand needs of a progress: the number may be reported and the derivation shown, and
-- what is known after it
pub record MayShow (service : Service) (L : Progress → Type 0) (c : Triple) (n : ℕ) (d : Tree)
    (p : Progress) : Type 0 where
  pub number : service.Number p c n
  pub shown : IsShown service.frame (service.Source p) c n d
  pub knows : L (and_number p c n)
  pub knows_blocks : L (and_blocks p c n)

split : (t : Bool) (P : Bool → Type 0) → (t ≡ true → P true) → (t ≡ false → P false) → P t
split true P yes_case no_case = yes_case refl
split false P yes_case no_case = no_case refl

replied_blocks : (service : Service) (K L : Progress → Type 0) (s : SessionValue) (steps : Steps)
    → s.frame ≡ service.frame → (asking : IsAsking s (ask.Plan (root_cell (plan_tree steps))))
    → asking.first ≡ Expand (root_cell (plan_tree steps)) → s.written + tree_cost (plan_tree steps) ≤ MAX_WRITTEN
    → ((p : Progress) → p.own ≡ s.own → K p → MayShow service L (root_cell (plan_tree steps))
    (tree_cost (plan_tree steps)) (plan_tree steps) p) → Replied service K L s (with_blocks s steps)
replied_blocks service K L s steps f asking is few shows =
    let d : Tree = plan_tree steps in
    let c : Triple = root_cell d in
    let n : ℕ = tree_cost d in record {
      first = asking.first;
      others = asking.others;
      text = expand_reply c n (expand d);
      left = asking.left;
      left_now = ap (λ (cs : List Command). drop 1 cs) asking.left;
      replies = refl;
      section_is = refl;
      frame_is = refl;
      reply = λ p own written k.
          let h = shows p own k in
          let room : p.written + n ≤ MAX_WRITTEN = rw written few in (
            and_blocks p c n,
            rw is (inr (rw (sym f) asking.asks.1, n, h.number, inl (room, d, h.shown, refl, refl))),
            own,
            ap (λ (w : ℕ). w + n) written,
            h.knows_blocks,
          );
    }

pub replied_plan : (service : Service) (K L : Progress → Type 0) (s : SessionValue) (steps : Steps)
    → s.frame ≡ service.frame → IsAsking s (ask.Plan (root_cell (plan_tree steps)))
    → Spelled (plan_tree steps) (plan_text steps)
    → ((p : Progress) → p.own ≡ s.own → K p → MayShow service L (root_cell (plan_tree steps))
    (tree_cost (plan_tree steps)) (plan_tree steps) p) → Replied service K L s (with_plan_for s s.left steps)
replied_plan service K L s steps f asking spelled shows =
    let d : Tree = plan_tree steps in
    let c : Triple = root_cell d in
    let n : ℕ = tree_cost d in
    let Q : List Command → Type 0 = λ cs. Replied service K L s (with_plan_for s cs steps) in
    ⊎_elim
    (λ (is : asking.first ≡ Plan c).
    let l : s.left ≡ Plan c ∷ asking.others = asking.left ∙ ap (λ (x : Command). x ∷ asking.others) is in
    subst Q (sym l) (with_reply_replied service K L s (ask.Plan c) (plan_reply c n (plan_text steps)) asking
    (λ p own written k. let h = shows p own k in (
      and_number p c n,
      rw is (inr (
        rw (sym f) asking.asks.1,
        n,
        h.number,
        (d, plan_text steps, h.shown, spelled, refl, refl),
      )),
      own,
      written,
      h.knows,
    ))))
    (λ (is : asking.first ≡ Expand c).
    let l : s.left ≡ Expand c ∷ asking.others = asking.left ∙ ap (λ (x : Command). x ∷ asking.others) is in
    subst Q (sym l) (split (nat_lt MAX_WRITTEN (s.written + n))
    (λ b. Replied service K L s (if b then with_too_big s steps else with_blocks s steps))
    (λ over. let big : MAX_WRITTEN < s.written + n = grind (arith, nat_tests) in
    with_reply_replied service K L s (ask.Plan c) (bound_line (codes "toobig") c n) asking
    (λ p own written k. let h = shows p own k in (
      and_number p c n,
      rw is (inr (
        rw (sym f) asking.asks.1,
        n,
        h.number,
        inr
            (rw written big, refl, refl),
      )),
      own,
      written,
      h.knows,
    )))
    (λ under. let few : s.written + n ≤ MAX_WRITTEN = grind (arith, nat_tests) in
    replied_blocks service K L s steps f asking is few shows)))
    asking.asks.0
