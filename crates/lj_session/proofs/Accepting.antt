-- An upload that is accepted has a cell of the frame.
use Rattle.std.proofs.Common.{◌≡◌, ℕ, List, [], ◌∷◌, ◌++◌, Ok, inl, inr, ap, subst}
use Rattle.std.specs.List.{AllByRecursion}
use Rattle.lj_base.specs.Cells.{Triple}
use Rattle.lj_base.specs.Frames.{InFrame, Top}
use Rattle.lj_cover.specs.Designs.{Covering}
use Rattle.lj_cover.specs.Rules.{Upload}
use Rattle.lj_script.specs.declared.scripts.Command.{Command}
use Rattle.lj_script.specs.declared.scripts.Command.TheVariants as command
use Rattle.lj_upload.specs.Quotas.{Held}
use Rattle.lj_session.specs.Handling.{Waits}
use Rattle.lj_session.specs.Outcomes.{CheckGives, CountGives, FrameGives, QuotaGives, TextGives, UploadGives}
use Rattle.lj_session.specs.Outcomes.{held}
use Rattle.lj_session.specs.Sessions.{AsksInside, IsAsking, SessionValue}
use Rattle.lj_session.specs.declared.asks.Ask.{Ask}
use Rattle.lj_session.specs.declared.asks.Ask.TheVariants.{Accept, Bound, Plan, Settle, Done}
use Rattle.lj_session.specs.declared.offers.Offer.{Offer}

check_cell : (c : Triple) (bs : List (List ℕ)) (d : Covering) → CheckGives c bs (Ok d) → d.cell ≡ c
check_cell c bs d (inl h) = let e : Ok d ≡ Ok (record { cell = c; blocks = bs }) = h.2 in
    let x : d ≡ record { cell = c; blocks = bs } = cc in ap (λ (y : Covering). y.cell) x
check_cell c bs d (inr h) = absurd (let e = h.3 in cc)

quota_cell : (before : Held) (c : Triple) (bs : List (List ℕ)) (d : Covering) → QuotaGives before c bs (Ok d)
    → d.cell ≡ c
quota_cell before c bs d (inl h) = check_cell c bs d h.1
quota_cell before c bs d (inr h) = absurd (let e = h.2 in cc)

count_cell : (before : Held) (o : Offer) (bs : List (List ℕ)) (d : Covering) → CountGives before o bs (Ok d)
    → d.cell ≡ o.cell
count_cell before o bs d (inl h) = quota_cell before o.cell bs d h.1
count_cell before o bs d (inr h) = absurd (let e = h.3 in cc)

text_cell : (before : Held) (o : Offer) (text : List ℕ) (d : Covering) → TextGives before o text (Ok d)
    → d.cell ≡ o.cell
text_cell before o text d (inl h) = count_cell before o h.0 d h.2
text_cell before o text d (inr h) = absurd (let e = h.3 in cc)

frame_cell : (f : Top) (before : Held) (o : Offer) (text : List ℕ) (d : Covering) → FrameGives f before o text (Ok d)
    → InFrame f d.cell
frame_cell f before o text d (inl h) = rw (text_cell before o text d h.1) h.0
frame_cell f before o text d (inr h) = absurd (let e = h.1 in cc)

file_cell : (f : Top) (before : Held) (body : List ℕ) (d : Covering)
    → UploadGives f before (command.UploadFile body) (Ok d) → InFrame f d.cell
file_cell f before body d (inl h) = frame_cell f before _ _ d h.2
file_cell f before body d (inr h) = absurd (let e = h.1 in cc)

pub accepted_cell : (f : Top) (before : Held) (c : Command) (d : Covering) → UploadGives f before c (Ok d)
    → InFrame f d.cell
accepted_cell f before (command.Upload c body) d gives = frame_cell f before _ body d gives
accepted_cell f before (command.UploadFile body) d gives = file_cell f before body d gives
accepted_cell f before (command.Bound c) d gives = absurd gives
accepted_cell f before (command.Plan c) d gives = absurd gives
accepted_cell f before (command.Expand c) d gives = absurd gives
accepted_cell f before command.Settle d gives = absurd gives

-- what is asked is about a cell of the frame
pub asks_inside : (s : SessionValue) (ask : Ask) → IsAsking s ask → AsksInside s.frame ask
asks_inside s (Accept u) asking =
    rw (ap (λ (x : Upload). x.cell) asking.asks.2) (accepted_cell s.frame (held s.own) asking.first asking.asks.0
    asking.asks.1)
asks_inside s (Bound c) asking = asking.asks.1
asks_inside s (Plan c) asking = asking.asks.1
asks_inside s Settle asking = tt
asks_inside s Done asking = tt

-- the upload that waits to be accepted has a cell of the frame
pub waiting_inside : (s : SessionValue) (u : Upload) (ask : Ask) → ask ≡ Accept u → Waits s ask → InFrame s.frame u.cell
waiting_inside s u ask e w = asks_inside s (Accept u) (subst (λ (a : Ask). Waits s a) e w)

pub all_push : (P : Upload → Type 0) (us : List Upload) (u : Upload) → AllByRecursion P us → P u
    → AllByRecursion P (us ++ u ∷ [])
all_push P [] u all one = (one, tt)
all_push P (x ∷ xs) u all one = (all.0, all_push P xs u all.1 one)
