-- What each number of a section's replies is worth, and which uploads are accepted.
use Rattle.std.proofs.Common.{◌≡◌, ◌↔◌, ◌∙◌, ℕ, ◌≤◌, ◌⊎◌, List, [], ◌∷◌, Ok, Err, Option, None, Some, arith, drop}
use Rattle.std.proofs.Common.{get_or, length, refl, sym, ap, subst, inl, inr, ⊎_elim}
use Rattle.std.specs.List.{AllByRecursion, AllZip}
use Rattle.lj_base.specs.Blocks.{Covers}
use Rattle.lj_base.specs.Cells.{Triple}
use Rattle.lj_base.specs.Frames.{InFrame, Top}
use Rattle.lj_blockfile.specs.BlockFiles.{AreBlocksOf, IsBodyFault, IsInputFault}
use Rattle.lj_blockfile.specs.Headers.{IsHeader}
use Rattle.lj_blockfile.specs.declared.faults.BodyFault.{BodyFault}
use Rattle.lj_blockfile.specs.declared.headers.Header.{Header}
use Rattle.lj_cover.specs.Derivations.{DerivableIn, IsDerivation, IsLeast, Tree, expand, root_cell, tree_cost}
use Rattle.lj_cover.specs.Designs.{Covering}
use Rattle.lj_cover.specs.Rules.{Upload}
use Rattle.lj_cover.specs.Uses.{DerivableBy}
use Rattle.lj_gate.specs.Whole.{AreServedOf}
use Rattle.lj_script.specs.Values.{ScriptValue, SectionValue}
use Rattle.lj_script.specs.declared.scripts.Command.{Command}
use Rattle.lj_script.specs.declared.scripts.Command.TheVariants.{Upload as Offered, UploadFile, Bound, Plan, Expand}
use Rattle.lj_script.specs.declared.scripts.Command.TheVariants.{Settle}
use Rattle.lj_session.specs.AcceptedUploads.{AreAcceptedOfAll, IsAcceptedIn}
use Rattle.lj_session.specs.Outcomes.{Announces, CheckGives, CountGives, FrameGives, Outcome, QuotaGives, TextGives}
use Rattle.lj_session.specs.Outcomes.{UploadGives, held, offer_of, upload_of}
use Rattle.lj_session.specs.Replies.{AreReplies, IsReadReply, IsReply, IsUploadReply, Progress, Reported, ReportsBlocks}
use Rattle.lj_session.specs.Replies.{ReportsBound, ReportsPlan, Service, and_outcome, no_progress, outcome_line}
use Rattle.lj_session.specs.ReplyTexts.{accepted_line, refused_line}
use Rattle.lj_session.specs.declared.ends.SessionEnd.{SessionEnd}
use Rattle.lj_session.specs.declared.reasons.Reason.{Reason}
use Rattle.lj_session.specs.declared.reasons.Reason.TheVariants.{Check}
use Rattle.lj_upload.specs.Quotas.{Admits, Held, IsQuotaCause}
use Rattle.lj_upload.specs.declared.quotas.QuotaFull.{QuotaFull}
use Rattle.lj_upload.specs.declared.quotas.QuotaFull.TheVariants.{Uploads, Blocks}
use Rattle.lj_verify.specs.Limits.{IsWithinLimits}
use Rattle.lj_verify.specs.Refusals.{IsRefused}
use Rattle.lj_verify.specs.declared.refusals.Refusal.{Refusal}
use Rattle.lj_verify.specs.declared.refusals.Refusal.TheVariants.{Memory as NoMemory}
use Rattle.lj_cli.specs.Headline.{AcceptsCoverings, IsFounded, IsClientRead, IsWithin, NeverRise, service_of}

-- a reply reports a number that may be, or none
abbrev Reports : Service → Progress → Progress → Type 0
Reports s p q = (q.reported ≡ p.reported)
    ⊎ ((c : Triple) × (b : ℕ) × s.Number p c b × (q.reported ≡ record { cell = c; number = b } ∷ p.reported))

kept : (name : List ℕ) (p : Progress) (outcome : Outcome) → (and_outcome name p outcome).reported ≡ p.reported
kept name p (Ok d) = refl
kept name p (Err reason) = refl

upload_reports : (s : Service) (command : Command) (p : Progress) (text : List ℕ) (q : Progress)
    → IsUploadReply s command p text q → Reports s p q
upload_reports s command p text q (outcome, gives, line, is) =
    inl (ap (λ (x : Progress). x.reported) is ∙ kept s.client p outcome)

read_reports : (s : Service) (c : Triple) (R : ℕ → List ℕ → Progress → Type 0) (p : Progress) (text : List ℕ)
    (q : Progress) → ((b : ℕ) → R b text q → q.reported ≡ record { cell = c; number = b } ∷ p.reported)
    → IsReadReply s c R p text q → Reports s p q
read_reports s c R p text q step (inl out) = inl (ap (λ (x : Progress). x.reported) out.2)
read_reports s c R p text q step (inr (inside, b, number, reports)) = inr (c, b, number, step b reports)

bound_reports : (c : Triple) (p : Progress) (b : ℕ) (text : List ℕ) (q : Progress) → ReportsBound c p b text q
    → q.reported ≡ record { cell = c; number = b } ∷ p.reported
bound_reports c p b text q h = ap (λ (x : Progress). x.reported) h.1

plan_reports : (s : Service) (c : Triple) (p : Progress) (b : ℕ) (text : List ℕ) (q : Progress)
    → ReportsPlan s c p b text q → q.reported ≡ record { cell = c; number = b } ∷ p.reported
plan_reports s c p b text q (d, nodes, shown, spelled, line, is) = ap (λ (x : Progress). x.reported) is

blocks_report : (s : Service) (c : Triple) (p : Progress) (b : ℕ) (text : List ℕ) (q : Progress)
    → ReportsBlocks s c p b text q → q.reported ≡ record { cell = c; number = b } ∷ p.reported
blocks_report s c p b text q (inl (few, d, shown, line, is)) = ap (λ (x : Progress). x.reported) is
blocks_report s c p b text q (inr (many, line, is)) = ap (λ (x : Progress). x.reported) is

reply_reports : (s : Service) (command : Command) (p : Progress) (text : List ℕ) (q : Progress)
    → IsReply s command p text q → Reports s p q
reply_reports s (Offered c body) p text q h = upload_reports s (Offered c body) p text q h
reply_reports s (UploadFile body) p text q h = upload_reports s (UploadFile body) p text q h
reply_reports s (Bound c) p text q h =
    read_reports s c (ReportsBound c p) p text q (λ b. bound_reports c p b text q) h
reply_reports s (Plan c) p text q h =
    read_reports s c (ReportsPlan s c p) p text q (λ b. plan_reports s c p b text q) h
reply_reports s (Expand c) p text q h =
    read_reports s c (ReportsBlocks s c p) p text q (λ b. blocks_report s c p b text q) h
reply_reports s Settle p text q h = inl (ap (λ (x : Progress). x.reported) h.1)

-- what holds of the reported numbers before, and with each number more that may be, holds of those after replies
reported_all : (s : Service) (Q : List Reported → Type 0)
    → ((p : Progress) (c : Triple) (b : ℕ) → s.Number p c b → Q p.reported
    → Q (record { cell = c; number = b } ∷ p.reported)) → (commands : List Command) (p : Progress) (text : List ℕ)
    (q : Progress) → Q p.reported → AreReplies s commands p text q → Q q.reported
reported_all s Q step [] p text q before h = subst (λ (x : Progress). Q x.reported) (sym h.1) before
reported_all s Q step (command ∷ commands) p text q before (here, rest, middle, is, more, e) =
    let after : Q middle.reported = ⊎_elim
    (λ (same : middle.reported ≡ p.reported). subst Q (sym same) before)
    (λ (new : (c : Triple) × (b : ℕ) × s.Number p c b
    × (middle.reported ≡ record { cell = c; number = b } ∷ p.reported)).
    subst Q (sym new.3) (step p new.0 new.1 new.2 before))
    (reply_reports s command p here middle is) in
    reported_all s Q step commands middle rest q after more

-- what the laws of the lower crates say
pub record Laws : Type 0 where
  pub blocks : (body : List ℕ) (v k : ℕ) (bs cs : List (List ℕ)) → AreBlocksOf body v k bs → AreBlocksOf body v k cs
      → bs ≡ cs
  pub either : (body : List ℕ) (v k : ℕ) (bs : List (List ℕ)) (fault : BodyFault) → AreBlocksOf body v k bs
      → IsBodyFault body v k fault → IsInputFault fault → ⊥
  pub header : (body : List ℕ) (one other : Header) → IsHeader body one → IsHeader body other → one ≡ other
  pub no_refusal : (c : Triple) (bs : List (List ℕ)) (a : Refusal) → IsWithinLimits c (length bs) → Covers bs c
      → IsRefused c bs a → a ≡ NoMemory
  pub derivable : (f : Top) (sections : List SectionValue) (us : List Upload) → AreAcceptedOfAll f sections us
      → (c : Triple) (n : ℕ) → DerivableBy f (IsAcceptedIn f sections) c n → DerivableIn f us c n
  pub least : (f : Top) (sections : List SectionValue) (us : List Upload) → AreAcceptedOfAll f sections us
      → (c : Triple) (least n : ℕ) → IsLeast f us c least → DerivableBy f (IsAcceptedIn f sections) c n → least ≤ n
  pub covers : (d : Tree) → IsDerivation d → Covers (expand d) (root_cell d)
  pub counts : (d : Tree) → length (expand d) ≡ tree_cost d

admitted : (h : Held) (n : ℕ) (a : QuotaFull) → Admits h n → IsQuotaCause h n a → ⊥
admitted h n (Uploads a) x y = omega (arith, x.0, y.0)
admitted h n (Blocks a) x y = omega (arith, x.1, y.1, y.2)

-- the check of an upload that the steps before it pass on
quota_checked : (before : Held) (c : Triple) (bs : List (List ℕ)) (outcome : Outcome) → Admits before (length bs)
    → QuotaGives before c bs outcome → CheckGives c bs outcome
quota_checked before c bs outcome admits (inl h) = h.1
quota_checked before c bs outcome admits (inr h) = absurd (admitted before (length bs) h.0 admits h.1)

count_checked : (before : Held) (c : Triple) (skipped : ℕ) (o : Option ℕ) (bs : List (List ℕ)) (outcome : Outcome)
    → Admits before (length bs) → ((n : ℕ) → o ≡ Some n → n ≡ length bs)
    → CountGives before (record { cell = c; before = skipped; announced = o }) bs outcome → CheckGives c bs outcome
count_checked before c skipped o bs outcome admits announces (inl h) = quota_checked before c bs outcome admits h.1
count_checked before c skipped o bs outcome admits announces (inr h) = absurd (h.2 (announces h.0 h.1))

text_checked : Laws → (before : Held) (c : Triple) (skipped : ℕ) (o : Option ℕ) (text : List ℕ) (bs : List (List ℕ))
    (outcome : Outcome) → AreBlocksOf text c.v c.k bs → Admits before (length bs)
    → ((n : ℕ) → o ≡ Some n → n ≡ length bs)
    → TextGives before (record { cell = c; before = skipped; announced = o }) text outcome → CheckGives c bs outcome
text_checked laws before c skipped o text bs outcome are admits announces (inl h) =
    let same = laws.blocks text c.v c.k h.0 bs h.1 are in
    count_checked before c skipped o bs outcome admits announces
    (subst (λ (cs : List (List ℕ)).
    CountGives before (record { cell = c; before = skipped; announced = o }) cs outcome) same h.2)
text_checked laws before c skipped o text bs outcome are admits announces (inr h) =
    absurd (laws.either text c.v c.k bs h.0 are h.1 h.2)

frame_checked : Laws → (f : Top) (before : Held) (c : Triple) (skipped : ℕ) (o : Option ℕ) (text : List ℕ)
    (bs : List (List ℕ)) (outcome : Outcome) → InFrame f c → AreBlocksOf text c.v c.k bs → Admits before (length bs)
    → ((n : ℕ) → o ≡ Some n → n ≡ length bs)
    → FrameGives f before (record { cell = c; before = skipped; announced = o }) text outcome
    → CheckGives c bs outcome
frame_checked laws f before c skipped o text bs outcome inside are admits announces (inl h) =
    text_checked laws before c skipped o text bs outcome are admits announces h.1
frame_checked laws f before c skipped o text bs outcome inside are admits announces (inr h) = absurd (h.0 inside)

-- a header announces no other number
announced : (o : Option ℕ) (n m : ℕ) → Announces o m → o ≡ Some n → n ≡ m
announced None n m a e = cc
announced (Some k) n m a e = let y : k ≡ m = a in cc

checked : Laws → (f : Top) (before : Held) (command : Command) (d : Covering) (outcome : Outcome)
    → IsWithin f before command d → UploadGives f before command outcome → CheckGives d.cell d.blocks outcome
checked laws f before (Offered c body) d outcome within gives =
    let same = sym within.offers.0 in
    let are = subst (λ (text : List ℕ). AreBlocksOf text d.cell.v d.cell.k d.blocks) within.offers.1 within.blocks in
    let there = subst (λ (x : Triple). FrameGives f before (record { cell = x; before = 0; announced = None }) body
    outcome) same gives in
    frame_checked laws f before d.cell 0 None body d.blocks outcome
    within.inside are within.admits (λ n. announced None n (length d.blocks) tt) there
checked laws f before (UploadFile body) d outcome within (inl gives) =
    let same : gives.0 ≡ within.offers.0 = laws.header body gives.0 within.offers.0 gives.1 within.offers.1 in
    let h = within.offers.0 in
    let there = subst (λ (x : Header). FrameGives f before (offer_of x) (drop x.rest body) outcome) same gives.2 in
    let cell = within.offers.2 in
    let are = subst (λ (text : List ℕ). AreBlocksOf text d.cell.v d.cell.k d.blocks) within.offers.3 within.blocks in
    subst (λ (c : Triple). CheckGives c d.blocks outcome) (sym cell)
    (frame_checked laws f before h.cell h.line (Some h.n) (drop h.rest body) d.blocks outcome
    (subst (λ (c : Triple). InFrame f c) cell within.inside)
    (subst (λ (c : Triple). AreBlocksOf (drop h.rest body) c.v c.k d.blocks) cell are) within.admits
    (λ n. announced (Some h.n) n (length d.blocks) (within.announces body h refl within.offers.1)) there)
checked laws f before (UploadFile body) d outcome within (inr gives) =
    absurd (gives.0 within.offers.0 within.offers.1)
checked laws f before (Bound c) d outcome within gives = absurd gives
checked laws f before (Plan c) d outcome within gives = absurd gives
checked laws f before (Expand c) d outcome within gives = absurd gives
checked laws f before Settle d outcome within gives = absurd gives

-- the first byte tells them apart
not_refused : (u : Upload) (reason : Reason) → refused_line reason ≡ accepted_line u → ⊥
not_refused u reason e = let first : 114 ≡ 97 = ap (λ (line : List ℕ). get_or line 0 0) e in omega (arith, first)

outcome_covers : Laws → (name : List ℕ) (p : Progress) (d : Covering) (outcome : Outcome) (reply : List ℕ)
    → IsWithinLimits d.cell (length d.blocks) → CheckGives d.cell d.blocks outcome
    → reply ≡ outcome_line name p outcome
    → (reply ≡ accepted_line (upload_of name (held p.own) d)) ↔ Covers d.blocks d.cell
outcome_covers laws name p d outcome reply within (inl h) line =
    (λ _. h.1, λ _. line ∙ ap (λ (o : Outcome). outcome_line name p o) h.2)
outcome_covers laws name p d outcome reply within (inr h) line =
    let refused = line ∙ ap (λ (o : Outcome). outcome_line name p o) h.3 in (
      λ accepted. absurd (not_refused (upload_of name (held p.own) d) (Check h.0) (sym refused ∙ accepted)),
      λ covers. absurd (h.2 (laws.no_refusal d.cell d.blocks h.0 within covers h.1)),
    )

pub accepts_coverings : Laws → (s : Service) → AcceptsCoverings s
accepts_coverings laws s command p q reply d (outcome, gives, line, is) within =
    outcome_covers laws s.client p d outcome reply within.within
    (checked laws s.frame (held p.own) command d outcome within gives) line

-- a number from the accepted uploads is founded on their list
founded : Laws → (f : Top) (sections : List SectionValue) (us : List Upload) → AreAcceptedOfAll f sections us
    → (c : Triple) (b : ℕ) → DerivableBy f (IsAcceptedIn f sections) c b
    → IsFounded f us (record { cell = c; number = b })
founded laws f sections us accepted c b how =
    let derivable = laws.derivable f sections us accepted c b how in record {
      derivable = derivable;
      count = laws.counts derivable.tree ∙ derivable.cost_is;
      covers = subst (λ (x : Triple). Covers (expand derivable.tree) x) derivable.cell_is
          (laws.covers derivable.tree derivable.derivation);
      least = λ n is. laws.least f sections us accepted c n b is how;
    }

-- what the client of a section that was served reads
pub clients_read : Laws → (script : ScriptValue) (us : List Upload) → AreAcceptedOfAll script.frame script.clients us
    → (sections : List SectionValue) (ends : List SessionEnd)
    → AreServedOf script.frame script.clients sections ends → AllZip (IsClientRead script us) sections ends
clients_read laws script us accepted [] [] served = tt
clients_read laws script us accepted [] (e ∷ ends) served = absurd served
clients_read laws script us accepted (section ∷ sections) [] served = absurd served
clients_read laws script us accepted (section ∷ sections) (e ∷ ends) ((end, replies), own, others) =
    let s = service_of script section.name in (
      record {
        end = end;
        replies = replies;
        uploads = accepts_coverings laws s;
        accepted = own;
        founded = reported_all s (λ rs. AllByRecursion (IsFounded script.frame us) rs)
            (λ p c b number before. (founded laws script.frame script.clients us accepted c b number.0, before))
            section.commands no_progress e.replies end tt replies;
        fall = reported_all s NeverRise (λ p c b number before. (number.1.reported, before))
            section.commands no_progress e.replies end tt replies;
      },
      clients_read laws script us accepted sections ends others,
    )
