-- A session that is served as `serve` serves it.
use Rattle.std.proofs.Common.{◌≡◌, ◌⊎◌, ℕ, ◌≤◌, List, [], ◌∷◌, ◌++◌, Ok, refl, sym, ap, ◌∙◌, subst, inl, inr, ⊎_elim}
use Rattle.std.proofs.Common.{le_refl, le_trans, arith}
use Rattle.std.proofs.lemmas.List.{append_assoc}
use Rattle.std.proofs.lemmas.List.Elements.{Contains-append_cases, Contains-get_or, Contains-push}
use Rattle.std.specs.List.{AllByRecursion, Contains}
use Rattle.lj_base.proofs.Lists.{AllByRecursion-from_places, AllByRecursion-weaker}
use Rattle.lj_base.specs.Cells.{Triple}
use Rattle.lj_base.specs.Frames.{InFrame, Top}
use Rattle.lj_cover.specs.Derivations.{root_cell, tree_cost}
use Rattle.lj_cover.specs.Rules.{Condition, Rule, Upload, One, Runs, All, Leaf, Derived, Derived2, Drop, Add, Grow}
use Rattle.lj_cover.specs.Rules.{Lower, Product, Induced, rule_cell, rule_cost, triple}
use Rattle.lj_cover.specs.Uses.{DerivableBy}
use Rattle.lj_deriv.specs.Nodes.{Steps, plan_tree}
use Rattle.lj_script.specs.Values.{SectionValue}
use Rattle.lj_script.specs.declared.scripts.Command.{Command}
use Rattle.lj_script.specs.declared.scripts.Command.TheVariants.{Upload as Offered, UploadFile, Bound, Plan, Expand}
use Rattle.lj_script.specs.declared.scripts.Command.TheVariants.{Settle}
use Rattle.lj_session.specs.AcceptedUploads.{Accepts, IsAcceptedIn}
use Rattle.lj_session.specs.Driving.{IsAcceptedPlan, IsServing, SeesAllowed, SeesLeast, SeesUses}
use Rattle.lj_session.specs.Outcomes.{held}
use Rattle.lj_session.specs.Replies.{AreReplies, IsReadReply, IsReply, Progress, ReportsBlocks, ReportsBound}
use Rattle.lj_session.specs.Replies.{ReportsPlan}
use Rattle.lj_session.specs.Replies.{and_blocks, and_number, and_settle, and_upload, no_progress}
use Rattle.lj_session.specs.ServeReplies.{IsAllowed, IsUseOf, ServeRepliesBelow, serve_service}
use Rattle.lj_session.specs.Sessions.{Asks, GoesOn, IsAsking, SessionValue, new_session, with_bound, with_plan_for}
use Rattle.lj_session.specs.Sessions.{with_settle, with_upload}
use Rattle.lj_session.specs.declared.asks.Ask.TheVariants as ask
use Rattle.lj_session.proofs.Driving.{accepts-append, replied_accept, replied_bound, replied_plan}
use Rattle.lj_session.proofs.Driving.{replied_settle, served_on, served_reply, served_start}

-- ---- what is allowed

use_none : (r : Rule) → IsUseOf [] r → ⊥
use_none (Leaf u) h = omega (arith, h.1)
use_none (Derived u x) h = omega (arith, h.1)
use_none (Derived2 u x y) h = omega (arith, h.1)
use_none (One c) h = h
use_none (Runs c) h = h
use_none (All c) h = h
use_none (Drop c) h = h
use_none (Add c) h = h
use_none (Grow c) h = h
use_none (Lower c) h = h
use_none (Product c v1 parts) h = h
use_none (Induced u w k) h = h

use_cases : (us vs : List Upload) (r : Rule) → IsUseOf (us ++ vs) r → IsUseOf us r ⊎ IsUseOf vs r
use_cases us vs (Leaf u) h = Contains-append_cases us vs u h
use_cases us vs (Derived u x) h = Contains-append_cases us vs u h
use_cases us vs (Derived2 u x y) h = Contains-append_cases us vs u h
use_cases us vs (One c) h = absurd h
use_cases us vs (Runs c) h = absurd h
use_cases us vs (All c) h = absurd h
use_cases us vs (Drop c) h = absurd h
use_cases us vs (Add c) h = absurd h
use_cases us vs (Grow c) h = absurd h
use_cases us vs (Lower c) h = absurd h
use_cases us vs (Product c v1 parts) h = absurd h
use_cases us vs (Induced u w k) h = absurd h

-- a lesser number is allowed too
allowed_lower : (f : Top) (limit : Triple → ℕ) (p : Progress) (c : Triple) (b n : ℕ) → n ≤ b
    → IsAllowed f limit p c b → IsAllowed f limit p c n
allowed_lower f limit p c b n h a = record {
  first = le_trans h a.first;
  reported = AllByRecursion-weaker _ _ p.reported (λ r less same. le_trans h (less same)) a.reported;
  uses = λ r is condition at. le_trans h (a.uses r is condition at);
  settled = AllByRecursion-weaker _ _ p.settles (λ before less m least. le_trans h (less m least)) a.settled;
}

allowed_start : (f : Top) (limit : Triple → ℕ) → SeesAllowed f limit limit no_progress
allowed_start f limit c inside = record {
  first = le_refl (limit c);
  reported = tt;
  uses = λ r is condition at. absurd (use_none r is);
  settled = tt;
}

sees_lower : (f : Top) (limit seen now : Triple → ℕ) (p : Progress) → ((c : Triple) → now c ≤ seen c)
    → SeesAllowed f limit seen p → SeesAllowed f limit now p
sees_lower f limit seen now p falls h c inside =
    allowed_lower f limit p c (seen c) (now c) (falls c) (h c inside)

-- what was seen of a cell is reported
sees_number : (f : Top) (limit seen : Triple → ℕ) (p : Progress) (c : Triple) (b : ℕ) → seen c ≡ b
    → SeesAllowed f limit seen p → SeesAllowed f limit seen (and_number p c b)
sees_number f limit seen p c b at h d inside =
    let a = h d inside in record {
      first = a.first;
      reported = (
        (λ (same : c ≡ d). subst (λ (x : Triple). seen x ≤ b) same
            (subst (λ (n : ℕ). seen c ≤ n) at (le_refl (seen c)))),
        a.reported,
      );
      uses = a.uses;
      settled = a.settled;
    }

sees_blocks : (f : Top) (limit seen : Triple → ℕ) (p : Progress) (c : Triple) (b : ℕ) → seen c ≡ b
    → SeesAllowed f limit seen p → SeesAllowed f limit seen (and_blocks p c b)
sees_blocks f limit seen p c b at h d inside =
    let a = sees_number f limit seen p c b at h d inside in
    record { first = a.first; reported = a.reported; uses = a.uses; settled = a.settled }

sees_upload : (f : Top) (limit seen : Triple → ℕ) (p : Progress) (u : Upload) → SeesUses seen (u ∷ [])
    → SeesAllowed f limit seen p → SeesAllowed f limit seen (and_upload p u)
sees_upload f limit seen p u uses h c inside =
    let a = h c inside in record {
      first = a.first;
      reported = a.reported;
      uses = λ r is condition at. ⊎_elim (λ (old : IsUseOf p.own r). a.uses r old condition at)
          (λ (new : IsUseOf (u ∷ []) r). subst (λ (x : Triple). seen x ≤ rule_cost r []) at (uses r new condition))
          (use_cases p.own (u ∷ []) r is);
      settled = a.settled;
    }

sees_settle : (f : Top) (limit seen : Triple → ℕ) (p : Progress) → SeesLeast f p.own seen
    → SeesAllowed f limit seen p → SeesAllowed f limit seen (and_settle p)
sees_settle f limit seen p least h c inside =
    let a = h c inside in record {
      first = a.first;
      reported = a.reported;
      uses = a.uses;
      settled = ((λ n is. least c n inside is), a.settled);
    }

-- ---- the steps

pub serving_start : (f : Top) (sections : List SectionValue) (section : SectionValue) (seen : Triple → ℕ)
    → IsServing f seen sections section seen (new_session f section)
serving_start f sections section seen =
    served_start (serve_service f seen sections section.name) (SeesAllowed f seen seen) section (allowed_start f seen)

pub serving_on : (f : Top) (limit : Triple → ℕ) (sections : List SectionValue) (section : SectionValue)
    (seen : Triple → ℕ) (s t : SessionValue) → IsServing f limit sections section seen s → GoesOn s t
    → IsServing f limit sections section seen t
serving_on f limit sections section seen s t h g =
    served_on (serve_service f limit sections section.name) (SeesAllowed f limit seen) section s t h g

-- what the pass has seen falls
pub serving_falls : (f : Top) (limit : Triple → ℕ) (sections : List SectionValue) (section : SectionValue)
    (seen now : Triple → ℕ) (s : SessionValue) → ((c : Triple) → now c ≤ seen c)
    → IsServing f limit sections section seen s → IsServing f limit sections section now s
serving_falls f limit sections section seen now s falls h = record {
  section_is = h.section_is;
  frame_is = h.frame_is;
  passed = h.passed;
  commands = h.commands;
  accepts = h.accepts;
  progress = h.progress;
  own = h.own;
  written = h.written;
  knows = sees_lower f limit seen now h.progress falls h.knows;
  completes = h.completes;
}

pub serving_accept : (f : Top) (limit : Triple → ℕ) (sections : List SectionValue) (section : SectionValue)
    (seen : Triple → ℕ) (s : SessionValue) (u : Upload) → IsServing f limit sections section seen s
    → IsAsking s (ask.Accept u) → SeesUses seen (u ∷ []) → IsServing f limit sections section seen (with_upload s u)
serving_accept f limit sections section seen s u h asking uses =
    served_reply (serve_service f limit sections section.name) (SeesAllowed f limit seen) (SeesAllowed f limit seen)
    section s (with_upload s u) h
    (replied_accept (serve_service f limit sections section.name) (SeesAllowed f limit seen) (SeesAllowed f limit seen)
    s u h.frame_is (ap (λ (x : SectionValue). x.name) h.section_is) asking
    (λ p own k. sees_upload f limit seen p u uses k))

pub serving_bound : (f : Top) (limit : Triple → ℕ) (sections : List SectionValue) (section : SectionValue)
    (seen : Triple → ℕ) (s : SessionValue) (c : Triple) (b : ℕ) → IsServing f limit sections section seen s
    → IsAsking s (ask.Bound c) → DerivableBy f (IsAcceptedIn f sections) c b → seen c ≡ b
    → IsServing f limit sections section seen (with_bound s c b)
serving_bound f limit sections section seen s c b h asking derivable at =
    let inside : InFrame f c = subst (λ (g : Top). InFrame g c) h.frame_is asking.asks.1 in
    served_reply (serve_service f limit sections section.name) (SeesAllowed f limit seen) (SeesAllowed f limit seen)
    section s (with_bound s c b) h
    (replied_bound (serve_service f limit sections section.name) (SeesAllowed f limit seen) (SeesAllowed f limit seen)
    s c b h.frame_is asking (λ p own k. (
      (derivable, subst (λ (n : ℕ). IsAllowed f limit p c n) at (k c inside)),
      sees_number f limit seen p c b at k,
    )))

plan_derivable : (f : Top) (sections : List SectionValue) (steps : Steps) → IsAcceptedPlan f sections steps
    → DerivableBy f (IsAcceptedIn f sections) (root_cell (plan_tree steps)) (tree_cost (plan_tree steps))
plan_derivable f sections steps h = record {
  tree = plan_tree steps;
  derivation = h.derivation;
  inside = h.inside;
  uploads = h.from;
  cell_is = refl;
  cost_is = refl;
}

pub serving_plan : (f : Top) (limit : Triple → ℕ) (sections : List SectionValue) (section : SectionValue)
    (seen : Triple → ℕ) (s : SessionValue) (steps : Steps) → IsServing f limit sections section seen s
    → IsAsking s (ask.Plan (root_cell (plan_tree steps))) → IsAcceptedPlan f sections steps
    → seen (root_cell (plan_tree steps)) ≡ tree_cost (plan_tree steps)
    → IsServing f limit sections section seen (with_plan_for s s.left steps)
serving_plan f limit sections section seen s steps h asking plan at =
    let inside : InFrame f (root_cell (plan_tree steps)) =
    subst (λ (g : Top). InFrame g (root_cell (plan_tree steps))) h.frame_is asking.asks.1 in
    served_reply (serve_service f limit sections section.name) (SeesAllowed f limit seen) (SeesAllowed f limit seen)
    section s (with_plan_for s s.left steps) h
    (replied_plan (serve_service f limit sections section.name) (SeesAllowed f limit seen) (SeesAllowed f limit seen)
    s steps h.frame_is asking plan.spelled (λ p own k. record {
      number = (
        plan_derivable f sections steps plan,
        subst (λ (n : ℕ). IsAllowed f limit p (root_cell (plan_tree steps)) n) at
            (k (root_cell (plan_tree steps)) inside),
      );
      shown = record {
        derivation = plan.derivation;
        inside = plan.inside;
        from = plan.from;
        cell_is = refl;
        cost_is = refl;
      };
      knows = sees_number f limit seen p (root_cell (plan_tree steps)) (tree_cost (plan_tree steps)) at k;
      knows_blocks = sees_blocks f limit seen p (root_cell (plan_tree steps)) (tree_cost (plan_tree steps)) at k;
    }))

pub serving_settle : (f : Top) (limit : Triple → ℕ) (sections : List SectionValue) (section : SectionValue)
    (seen : Triple → ℕ) (s : SessionValue) → IsServing f limit sections section seen s → IsAsking s ask.Settle
    → SeesLeast f s.own seen → IsServing f limit sections section seen (with_settle s)
serving_settle f limit sections section seen s h asking least =
    served_reply (serve_service f limit sections section.name) (SeesAllowed f limit seen) (SeesAllowed f limit seen)
    section s (with_settle s) h
    (replied_settle (serve_service f limit sections section.name) (SeesAllowed f limit seen)
    (SeesAllowed f limit seen) s asking
    (λ p own k. sees_settle f limit seen p (subst (λ (us : List Upload). SeesLeast f us seen) (sym own) least) k))

-- ---- what is asked, and what was accepted, is accepted of the sections

accepts_upload : (f : Top) (name : List ℕ) (c : Command) (us : List Upload) (u : Upload)
    → Asks f name (held us) c (ask.Accept u) → Accepts f name c us (us ++ u ∷ [])
accepts_upload f name (Offered c body) us u a =
    (Ok a.0, a.1, ap (λ (w : Upload). us ++ w ∷ []) a.2)
accepts_upload f name (UploadFile body) us u a = (Ok a.0, a.1, ap (λ (w : Upload). us ++ w ∷ []) a.2)
accepts_upload f name (Bound c) us u a = absurd a.1
accepts_upload f name (Plan c) us u a = absurd a.1
accepts_upload f name (Expand c) us u a = absurd a.1
accepts_upload f name Settle us u a = absurd a.1

pub serving_asks : (f : Top) (limit : Triple → ℕ) (sections : List SectionValue) (section : SectionValue)
    (seen : Triple → ℕ) (s : SessionValue) (u : Upload) → Contains sections section
    → IsServing f limit sections section seen s → IsAsking s (ask.Accept u) → IsAcceptedIn f sections u
serving_asks f limit sections section seen s u member h asking =
    let asks : Asks f section.name (held s.own) asking.first (ask.Accept u) =
    subst (λ (x : Top × SectionValue). Asks x.0 x.1.name (held s.own) asking.first (ask.Accept u))
    (λ i. (h.frame_is i, h.section_is i)) asking.asks in
    let one : Accepts f section.name asking.first s.own (s.own ++ u ∷ []) =
    accepts_upload f section.name asking.first s.own u asks in (
      section,
      member,
      record {
        passed = h.passed ++ asking.first ∷ [];
        others = asking.others;
        commands =
            h.commands ∙ ap (λ (cs : List Command). h.passed ++ cs) asking.left
            ∙ sym (append_assoc h.passed (asking.first ∷ []) asking.others);
        uploads = s.own ++ u ∷ [];
        accepts =
            accepts-append f section.name h.passed (asking.first ∷ []) [] s.own (s.own ++ u ∷ []) h.accepts
            (s.own ++ u ∷ [], one, refl);
        one = Contains-push s.own u;
      },
    )

pub serving_own : (f : Top) (limit : Triple → ℕ) (sections : List SectionValue) (section : SectionValue)
    (seen : Triple → ℕ) (s : SessionValue) → Contains sections section → IsServing f limit sections section seen s
    → AllByRecursion (IsAcceptedIn f sections) s.own
serving_own f limit sections section seen s member h =
    AllByRecursion-from_places (IsAcceptedIn f sections) no_upload s.own (λ i within. (
      section,
      member,
      record {
        passed = h.passed;
        others = s.left;
        commands = h.commands;
        uploads = s.own;
        accepts = h.accepts;
        one = Contains-get_or s.own i no_upload within;
      },
    ))
  where
    no_upload : Upload
    no_upload = record { client = []; ordinal = 0; cell = triple 0 0 0; blocks = [] }

pub serving_uses : (f : Top) (limit : Triple → ℕ) (sections : List SectionValue) (section : SectionValue)
    (seen : Triple → ℕ) (s : SessionValue) → IsServing f limit sections section seen s
    → (r : Rule) → IsUseOf s.own r → Condition r → InFrame f (rule_cell r) → seen (rule_cell r) ≤ rule_cost r []
serving_uses f limit sections section seen s h r is condition inside =
    (h.knows (rule_cell r) inside).uses r (subst (λ (us : List Upload). IsUseOf us r) (sym h.own) is) condition refl

-- ---- replies below some numbers are replies below greater ones

read_weaker : (f : Top) (name : List ℕ) (N M : Progress → Triple → ℕ → Type 0) (S : Progress → Upload → Type 0)
    (c : Triple) (R : ℕ → List ℕ → Progress → Type 0) (p : Progress) (text : List ℕ) (q : Progress)
    → ((b : ℕ) → InFrame f c → N p c b → M p c b)
    → IsReadReply (record { frame = f; client = name; Number = N; Source = S }) c R p text q
    → IsReadReply (record { frame = f; client = name; Number = M; Source = S }) c R p text q
read_weaker f name N M S c R p text q w (inl out) = inl out
read_weaker f name N M S c R p text q w (inr h) = inr (h.0, h.1, w h.1 h.0 h.2, h.3)

reply_weaker : (f : Top) (name : List ℕ) (N M : Progress → Triple → ℕ → Type 0) (S : Progress → Upload → Type 0)
    (c : Command) (p : Progress) (text : List ℕ) (q : Progress)
    → ((p : Progress) (c : Triple) (b : ℕ) → InFrame f c → N p c b → M p c b)
    → IsReply (record { frame = f; client = name; Number = N; Source = S }) c p text q
    → IsReply (record { frame = f; client = name; Number = M; Source = S }) c p text q
reply_weaker f name N M S (Offered c body) p text q w r = r
reply_weaker f name N M S (UploadFile body) p text q w r = r
reply_weaker f name N M S (Bound c) p text q w r =
    read_weaker f name N M S c (ReportsBound c p) p text q (w p c) r
reply_weaker f name N M S (Plan c) p text q w r = read_weaker f name N M S c
    (ReportsPlan (record { frame = f; client = name; Number = N; Source = S }) c p) p text q (w p c) r
reply_weaker f name N M S (Expand c) p text q w r = read_weaker f name N M S c
    (ReportsBlocks (record { frame = f; client = name; Number = N; Source = S }) c p) p text q (w p c) r
reply_weaker f name N M S Settle p text q w r = r

replies_weaker : (f : Top) (name : List ℕ) (N M : Progress → Triple → ℕ → Type 0) (S : Progress → Upload → Type 0)
    (cs : List Command) (p : Progress) (text : List ℕ) (q : Progress)
    → ((p : Progress) (c : Triple) (b : ℕ) → InFrame f c → N p c b → M p c b)
    → AreReplies (record { frame = f; client = name; Number = N; Source = S }) cs p text q
    → AreReplies (record { frame = f; client = name; Number = M; Source = S }) cs p text q
replies_weaker f name N M S [] p text q w r = r
replies_weaker f name N M S (c ∷ cs) p text q w r = (
  r.0,
  r.1,
  r.2,
  reply_weaker f name N M S c p r.0 r.2 w r.3,
  replies_weaker f name N M S cs r.2 r.1 q w r.4,
  r.5,
)

pub served_below : (f : Top) (low high : Triple → ℕ) (sections : List SectionValue) (section : SectionValue)
    (text : List ℕ) → ((c : Triple) → InFrame f c → low c ≤ high c)
    → ServeRepliesBelow f low sections section text → ServeRepliesBelow f high sections section text
served_below f low high sections section text less r = (
  r.0,
  replies_weaker f section.name _ _ _ section.commands
      no_progress text r.0
      (λ p c b inside n. (
        n.0,
        record {
          first = le_trans n.1.first (less c inside);
          reported = n.1.reported;
          uses = n.1.uses;
          settled = n.1.settled;
        },
      )) r.1,
)
