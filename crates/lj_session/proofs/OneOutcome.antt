-- An upload has one outcome at most, and a section one list of accepted uploads.
use Rattle.std.proofs.Common.{◌≡◌, ℕ, List, [], ◌∷◌, ◌++◌, Option, None, Some, length, sym, ap}
use Rattle.std.proofs.Common.{◌∙◌, subst, inl, inr, drop}
use Rattle.lj_base.specs.Blocks.{Covers}
use Rattle.lj_base.specs.Cells.{Triple}
use Rattle.lj_base.specs.Frames.{Top}
use Rattle.lj_blockfile.specs.BlockFiles.{AreBlocksOf, IsBodyFault, IsInputFault}
use Rattle.lj_blockfile.specs.Headers.{IsHeader}
use Rattle.lj_blockfile.specs.declared.faults.BodyFault.{BodyFault}
use Rattle.lj_blockfile.specs.declared.headers.Header.{Header}
use Rattle.lj_cover.specs.Rules.{Upload}
use Rattle.lj_script.specs.Values.{SectionValue}
use Rattle.lj_script.specs.declared.scripts.Command.{Command}
use Rattle.lj_script.specs.declared.scripts.Command.TheVariants.{Upload as Offered, UploadFile, Bound, Plan, Expand}
use Rattle.lj_script.specs.declared.scripts.Command.TheVariants.{Settle}
use Rattle.lj_upload.specs.Quotas.{Admits, Held, IsQuotaCause}
use Rattle.lj_upload.specs.declared.quotas.QuotaFull.{QuotaFull}
use Rattle.lj_upload.specs.declared.quotas.QuotaFull.TheVariants.{Uploads, Blocks}
use Rattle.lj_verify.specs.Limits.{IsWithinLimits}
use Rattle.lj_verify.specs.Refusals.{IsRefused}
use Rattle.lj_verify.specs.declared.refusals.Refusal.{Refusal}
use Rattle.lj_verify.specs.declared.refusals.Refusal.TheVariants.{Memory as NoMemory}
use Rattle.lj_session.specs.AcceptedUploads.{Accepts, AcceptsEach, AcceptsUpload, AreAcceptedOfAll, uploads_after}
use Rattle.lj_session.specs.Outcomes.{Announces, CheckGives, CountGives, FrameGives, Outcome, QuotaGives, TextGives}
use Rattle.lj_session.specs.Outcomes.{UploadGives, held, offer_of}
use Rattle.lj_session.specs.declared.offers.Offer.{Offer}
use Rattle.std.proofs.Common.{arith}

-- what the lower crates know of a text and of a check
pub record OneReading : Type 0 where
  pub blocks : (body : List ℕ) (v k : ℕ) (bs cs : List (List ℕ)) → AreBlocksOf body v k bs → AreBlocksOf body v k cs
      → bs ≡ cs
  pub either : (body : List ℕ) (v k : ℕ) (bs : List (List ℕ)) (fault : BodyFault) → AreBlocksOf body v k bs
      → IsBodyFault body v k fault → IsInputFault fault → ⊥
  pub fault : (body : List ℕ) (v k : ℕ) (one other : BodyFault) → IsBodyFault body v k one
      → IsBodyFault body v k other → IsInputFault one → IsInputFault other → one ≡ other
  pub header : (body : List ℕ) (one other : Header) → IsHeader body one → IsHeader body other → one ≡ other
  pub one_refusal : (c : Triple) (bs : List (List ℕ)) (a b : Refusal) → IsRefused c bs a → IsRefused c bs b
      → (a ≡ NoMemory → ⊥) → (b ≡ NoMemory → ⊥) → a ≡ b
  pub no_refusal : (c : Triple) (bs : List (List ℕ)) (a : Refusal) → IsWithinLimits c (length bs) → Covers bs c
      → IsRefused c bs a → a ≡ NoMemory

one_check : OneReading → (c : Triple) (bs : List (List ℕ)) (a b : Outcome) → CheckGives c bs a → CheckGives c bs b
    → a ≡ b
one_check one c bs a b (inl x) (inl y) = x.2 ∙ sym y.2
one_check one c bs a b (inl x) (inr y) = absurd (y.2 (one.no_refusal c bs y.0 x.0 x.1 y.1))
one_check one c bs a b (inr x) (inl y) = absurd (x.2 (one.no_refusal c bs x.0 y.0 y.1 x.1))
one_check one c bs a b (inr x) (inr y) = let e = one.one_refusal c bs x.0 y.0 x.1 y.1 x.2 y.2 in cc (x.3, y.3, e)

one_cause : (h : Held) (n : ℕ) (a b : QuotaFull) → IsQuotaCause h n a → IsQuotaCause h n b → a ≡ b
one_cause h n (Uploads a) (Uploads b) x y = let e : a ≡ b = x.1 ∙ sym y.1 in cc
one_cause h n (Uploads a) (Blocks b) x y = absurd (omega (arith, x.0, y.0))
one_cause h n (Blocks a) (Uploads b) x y = absurd (omega (arith, x.0, y.0))
one_cause h n (Blocks a) (Blocks b) x y = let e : a ≡ b = x.1 ∙ sym y.1 in cc

admits_or_cause : (h : Held) (n : ℕ) (a : QuotaFull) → Admits h n → IsQuotaCause h n a → ⊥
admits_or_cause h n (Uploads a) x y = omega (arith, x.0, y.0)
admits_or_cause h n (Blocks a) x y = omega (arith, x.1, y.1, y.2)

one_quota : OneReading → (h : Held) (c : Triple) (bs : List (List ℕ)) (a b : Outcome) → QuotaGives h c bs a
    → QuotaGives h c bs b → a ≡ b
one_quota one h c bs a b (inl x) (inl y) = one_check one c bs a b x.1 y.1
one_quota one h c bs a b (inl x) (inr y) = absurd (admits_or_cause h (length bs) y.0 x.0 y.1)
one_quota one h c bs a b (inr x) (inl y) = absurd (admits_or_cause h (length bs) x.0 y.0 x.1)
one_quota one h c bs a b (inr x) (inr y) = let e = one_cause h (length bs) x.0 y.0 x.1 y.1 in cc (x.2, y.2, e)

announces_other : (o : Option ℕ) (n m : ℕ) → Announces o n → o ≡ Some m → (m ≡ n → ⊥) → ⊥
announces_other None n m a e other = cc
announces_other (Some k) n m a e other = other (let y : k ≡ n = a in cc)

one_count : OneReading → (h : Held) (o : Offer) (bs : List (List ℕ)) (a b : Outcome) → CountGives h o bs a
    → CountGives h o bs b → a ≡ b
one_count one h o bs a b (inl x) (inl y) = one_quota one h o.cell bs a b x.1 y.1
one_count one h o bs a b (inl x) (inr y) = absurd (announces_other o.announced (length bs) y.0 x.0 y.1 y.2)
one_count one h o bs a b (inr x) (inl y) = absurd (announces_other o.announced (length bs) x.0 y.0 x.1 x.2)
one_count one h o bs a b (inr x) (inr y) = let e : Some x.0 ≡ Some y.0 = sym x.1 ∙ y.1 in cc (x.3, y.3, e)

one_text : OneReading → (h : Held) (o : Offer) (text : List ℕ) (a b : Outcome) → TextGives h o text a
    → TextGives h o text b → a ≡ b
one_text one h o text a b (inl x) (inl y) =
    let e = one.blocks text o.cell.v o.cell.k x.0 y.0 x.1 y.1 in
    one_count one h o y.0 a b (subst (λ (bs : List (List ℕ)). CountGives h o bs a) e x.2) y.2
one_text one h o text a b (inl x) (inr y) = absurd (one.either text o.cell.v o.cell.k x.0 y.0 x.1 y.1 y.2)
one_text one h o text a b (inr x) (inl y) = absurd (one.either text o.cell.v o.cell.k y.0 x.0 y.1 x.1 x.2)
one_text one h o text a b (inr x) (inr y) =
    let e = one.fault text o.cell.v o.cell.k x.0 y.0 x.1 y.1 x.2 y.2 in cc (x.3, y.3, e)

one_frame : OneReading → (f : Top) (h : Held) (o : Offer) (text : List ℕ) (a b : Outcome) → FrameGives f h o text a
    → FrameGives f h o text b → a ≡ b
one_frame one f h o text a b (inl x) (inl y) = one_text one h o text a b x.1 y.1
one_frame one f h o text a b (inl x) (inr y) = absurd (y.0 x.0)
one_frame one f h o text a b (inr x) (inl y) = absurd (x.0 y.0)
one_frame one f h o text a b (inr x) (inr y) = x.1 ∙ sym y.1

abbrev FileGives : Top → Held → List ℕ → Outcome → Type 0
FileGives f h body outcome = UploadGives f h (UploadFile body) outcome

one_file : OneReading → (f : Top) (h : Held) (body : List ℕ) (a b : Outcome) → FileGives f h body a
    → FileGives f h body b → a ≡ b
one_file one f h body a b (inl x) (inl y) =
    let e = one.header body x.0 y.0 x.1 y.1 in
    one_frame one f h (offer_of y.0) (drop y.0.rest body) a b
    (subst (λ (header : Header). FrameGives f h (offer_of header) (drop header.rest body) a) e x.2) y.2
one_file one f h body a b (inl x) (inr y) = absurd (y.0 x.0 x.1)
one_file one f h body a b (inr x) (inl y) = absurd (x.0 y.0 y.1)
one_file one f h body a b (inr x) (inr y) = x.1 ∙ sym y.1

pub one_outcome : OneReading → (f : Top) (h : Held) (command : Command) (a b : Outcome) → UploadGives f h command a
    → UploadGives f h command b → a ≡ b
one_outcome one f h (Offered c body) a b x y = one_frame one f h _ body a b x y
one_outcome one f h (UploadFile body) a b x y = one_file one f h body a b x y
one_outcome one f h (Bound c) a b x y = absurd x
one_outcome one f h (Plan c) a b x y = absurd x
one_outcome one f h (Expand c) a b x y = absurd x
one_outcome one f h Settle a b x y = absurd x

one_upload : OneReading → (f : Top) (name : List ℕ) (command : Command) (before us vs : List Upload)
    → AcceptsUpload f name command before us → AcceptsUpload f name command before vs → us ≡ vs
one_upload one f name command before us vs x y =
    let e = one_outcome one f (held before) command x.0 y.0 x.1 y.1 in
    x.2 ∙ ap (λ (o : Outcome). uploads_after name before o) e ∙ sym y.2

one_command : OneReading → (f : Top) (name : List ℕ) (command : Command) (before us vs : List Upload)
    → Accepts f name command before us → Accepts f name command before vs → us ≡ vs
one_command one f name (Offered c body) before us vs x y = one_upload one f name (Offered c body) before us vs x y
one_command one f name (UploadFile body) before us vs x y = one_upload one f name (UploadFile body) before us vs x y
one_command one f name (Bound c) before us vs x y = x ∙ sym y
one_command one f name (Plan c) before us vs x y = x ∙ sym y
one_command one f name (Expand c) before us vs x y = x ∙ sym y
one_command one f name Settle before us vs x y = x ∙ sym y

pub one_list : OneReading → (f : Top) (name : List ℕ) (commands : List Command) (before us vs : List Upload)
    → AcceptsEach f name commands before us → AcceptsEach f name commands before vs → us ≡ vs
one_list one f name [] before us vs x y = x ∙ sym y
one_list one f name (command ∷ commands) before us vs x y =
    let e = one_command one f name command before x.0 y.0 x.1 y.1 in
    one_list one f name commands y.0 us vs (subst (λ (ws : List Upload). AcceptsEach f name commands ws us) e x.2) y.2

pub one_list_of_all : OneReading → (f : Top) (sections : List SectionValue) (us vs : List Upload)
    → AreAcceptedOfAll f sections us → AreAcceptedOfAll f sections vs → us ≡ vs
one_list_of_all one f [] us vs x y = x ∙ sym y
one_list_of_all one f (s ∷ ss) us vs x y =
    let e : x.0 ≡ y.0 = one_list one f s.name s.commands [] x.0 y.0 x.2 y.2 in
    let d : x.1 ≡ y.1 = one_list_of_all one f ss x.1 y.1 x.3 y.3 in
    x.4 ∙ ap (λ (ws : List Upload). ws ++ x.1) e ∙ ap (λ (ws : List Upload). y.0 ++ ws) d ∙ sym y.4
