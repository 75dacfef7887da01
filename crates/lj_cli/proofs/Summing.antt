-- What serving the generated script comes to.
use Rattle.std.proofs.Common.{◌≡◌, ◌∙◌, ℕ, zero, suc, ◌+◌, ◌-◌, ◌*◌, ◌^◌, ◌≤◌, ◌⊎◌, List, [], ◌∷◌, ◌++◌, Ok}
use Rattle.std.proofs.Common.{arith, codes, length, refl, sym, ap, ap₂, subst, inl, inr, append_assoc}
use Rattle.std.proofs.Common.{append-nil, drop, length-append}
use Rattle.std.proofs.Math.Seq.{drop-append_seam}
use Rattle.std.specs.List.{sum_by}
use Rattle.lj_base.specs.Blocks.{Covers}
use Rattle.lj_base.specs.Bounds.{at_cell}
use Rattle.lj_base.specs.Cells.{Triple}
use Rattle.lj_base.specs.Colex.{choose}
use Rattle.lj_base.specs.Frames.{InFrame, Top}
use Rattle.lj_blockfile.specs.BlockFiles.{AreBlocksOf, blocks_text}
use Rattle.lj_build.specs.Runs.{AreLeastBounds, uploads_of}
use Rattle.lj_build.specs.declared.closing.Closed.{Closed}
use Rattle.lj_cover.specs.Derivations.{IsLeast}
use Rattle.lj_cover.specs.Designs.{Covering}
use Rattle.lj_cover.specs.Rules.{Upload}
use Rattle.lj_gate.specs.Whole.{AreServedOf, IsWholeServed}
use Rattle.lj_gen.specs.Generated.{derived_cell, frame_cell, gen_text, gen_value, upload_cell}
use Rattle.lj_gen.specs.Quadruples.{gen_blocks}
use Rattle.lj_report.specs.ReportCells.{report_cells}
use Rattle.lj_script.specs.Faults.{IsScriptFault}
use Rattle.lj_script.specs.Scripts.{IsScript}
use Rattle.lj_script.specs.Values.{ScriptValue}
use Rattle.lj_script.specs.declared.faults.ScriptFault.{ScriptFault}
use Rattle.lj_script.specs.declared.faults.ScriptFault.TheVariants.{Memory as NoMemory}
use Rattle.lj_script.specs.declared.scripts.Command.{Command}
use Rattle.lj_script.specs.declared.scripts.Command.TheVariants.{Upload as Offered, Bound, Settle}
use Rattle.lj_session.specs.AcceptedUploads.{AcceptsEach, uploads_after}
use Rattle.lj_session.specs.Outcomes.{Outcome, UploadGives, held}
use Rattle.lj_session.specs.Replies.{AreReplies, IsReadReply, Progress, ReportsBound, Service, no_progress}
use Rattle.lj_session.specs.Replies.{outcome_line}
use Rattle.lj_session.specs.ReplyTexts.{accepted_line, bound_line, numbers_line, settled_line}
use Rattle.lj_session.specs.declared.ends.SessionEnd.{SessionEnd}
use Rattle.lj_upload.specs.Quotas.{Held}
use Rattle.lj_verify.specs.Limits.{IsWithinLimits}
use Rattle.lj_cli.specs.BigOutput.{IsBigOutput, big_text, bound_lines, gen_upload}
use Rattle.lj_cli.specs.Headline.{service_of}

-- between 4 and 64 points
power_in : (m : ℕ) → 2 ≤ m → m ≤ 6 → (4 ≤ 2 ^ m) × (2 ^ m ≤ 64)
power_in zero low high = absurd (omega (arith, low))
power_in (suc zero) low high = absurd (omega (arith, low))
power_in (suc (suc zero)) low high = (omega arith, omega arith)
power_in (suc (suc (suc zero))) low high = (omega arith, omega arith)
power_in (suc (suc (suc (suc zero)))) low high = (omega arith, omega arith)
power_in (suc (suc (suc (suc (suc zero))))) low high = (omega arith, omega arith)
power_in (suc (suc (suc (suc (suc (suc zero)))))) low high = (omega arith, omega arith)
power_in (suc (suc (suc (suc (suc (suc (suc m))))))) low high = absurd (omega (arith, high))

-- at most 10,416 blocks
few_blocks : (m n : ℕ) → 2 ≤ m → m ≤ 6 → 24 * n ≡ 2 ^ m * (2 ^ m - 1) * (2 ^ m - 2) → n ≤ 10416
few_blocks zero n low high is = absurd (omega (arith, low))
few_blocks (suc zero) n low high is = absurd (omega (arith, low))
few_blocks (suc (suc zero)) n low high is = omega (arith, is)
few_blocks (suc (suc (suc zero))) n low high is = omega (arith, is)
few_blocks (suc (suc (suc (suc zero)))) n low high is = omega (arith, is)
few_blocks (suc (suc (suc (suc (suc zero))))) n low high is = omega (arith, is)
few_blocks (suc (suc (suc (suc (suc (suc zero)))))) n low high is = omega (arith, is)
few_blocks (suc (suc (suc (suc (suc (suc (suc m))))))) n low high is = absurd (omega (arith, high))

one_point : (n : ℕ) → choose n 1 ≤ n
one_point zero = let none : choose zero 1 ≡ 0 = refl in omega (arith, none)
one_point (suc n) =
    let step : choose (suc n) 1 ≡ choose n 1 + 1 = refl in
    let fewer = one_point n in omega (arith, fewer, step)

two_points : (n : ℕ) → n ≤ 64 → choose n 2 ≤ 64 * n
two_points zero small = let none : choose zero 2 ≡ 0 = refl in omega (arith, none)
two_points (suc n) small =
    let step : choose (suc n) 2 ≡ choose n 2 + choose n 1 = refl in
    let fewer = two_points n (omega (arith, small)) in
    let one = one_point n in omega (arith, fewer, one, step, small)

three_points : (n : ℕ) → n ≤ 64 → choose n 3 ≤ 4096 * n
three_points zero small = let none : choose zero 3 ≡ 0 = refl in omega (arith, none)
three_points (suc n) small =
    let step : choose (suc n) 3 ≡ choose n 3 + choose n 2 = refl in
    let fewer = three_points n (omega (arith, small)) in
    let two = two_points n (omega (arith, small)) in
    omega (arith, fewer, two, step, small)

upload_inside : (v : ℕ) → 4 ≤ v → v ≤ 64 → InFrame (record { top = frame_cell v }) (upload_cell v)
upload_inside v low high = record {
  cell = (omega (arith, low), omega (arith, high), omega arith, low, omega arith, omega arith);
  v = omega arith;
  k = omega (arith, low);
  t = omega arith;
}

derived_inside : (v : ℕ) → 4 ≤ v → v ≤ 64 → InFrame (record { top = frame_cell v }) (derived_cell v)
derived_inside v low high = record {
  cell = (omega (arith, low), omega (arith, high), omega arith, omega (arith, low), omega arith, omega arith);
  v = omega arith;
  k = omega (arith, low);
  t = omega arith;
}

-- the reply to the bound of a cell of the frame
inside_reply : (s : Service) (c : Triple) (p : Progress) (text : List ℕ) (q : Progress) → InFrame s.frame c
    → IsReadReply s c (ReportsBound c p) p text q → (b : ℕ) × (text ≡ bound_line (codes "bound") c b)
inside_reply s c p text q inside (inl out) = absurd (out.0 inside)
inside_reply s c p text q inside (inr (also, b, number, reports)) = (b, reports.0)

abbrev gen_covering : ℕ → Covering
gen_covering m = record { cell = upload_cell (2 ^ m); blocks = gen_blocks m }

-- the generated script has no fault
pub never_faulty : ((bytes : List ℕ) (script : ScriptValue) (fault : ScriptFault) → IsScript bytes script
    → IsScriptFault bytes fault → ⊥) → (m : ℕ) (bytes : List ℕ) (fault : ScriptFault)
    → IsScript (gen_text m) (gen_value m) → bytes ≡ gen_text m → (fault ≡ NoMemory) ⊎ IsScriptFault bytes fault
    → (fault ≡ NoMemory → ⊥) → ⊥
never_faulty either m bytes fault is same (inl ran_out) other = other ran_out
never_faulty either m bytes fault is same (inr found) other =
    either (gen_text m) (gen_value m) fault is
    (subst (λ (x : List ℕ). IsScriptFault x fault) same found)

-- what is known of the generated blocks
pub record AreGenerated (m : ℕ) : Type 0 where
  pub low : 2 ≤ m
  pub high : m ≤ 6
  pub read : AreBlocksOf (blocks_text (gen_blocks m)) (2 ^ m) 4 (gen_blocks m)
  pub number : 24 * length (gen_blocks m) ≡ 2 ^ m * (2 ^ m - 1) * (2 ^ m - 2)
  pub covers : Covers (gen_blocks m) (upload_cell (2 ^ m))

-- a client that holds nothing has them accepted
accepts : (m : ℕ) → AreGenerated m → UploadGives (gen_value m).frame (held [])
    (Offered (upload_cell (2 ^ m)) (blocks_text (gen_blocks m))) (Ok (gen_covering m))
accepts m g =
    let power = power_in m g.low g.high in
    let few : length (gen_blocks m) ≤ 10416 = few_blocks m (length (gen_blocks m)) g.low g.high g.number in
    let sets = three_points (2 ^ m) power.1 in
    let marks : length (gen_blocks m) * choose 4 3 ≡ length (gen_blocks m) * 4 = refl in
    let within : IsWithinLimits (upload_cell (2 ^ m)) (length (gen_blocks m)) = record {
      blocks_in = omega (arith, few);
      sets_in = omega (arith, sets, power.1);
      marks_in = omega (arith, few, marks);
    } in
    inl (
      upload_inside (2 ^ m) power.0 power.1,
      inl (gen_blocks m, g.read, inl (tt, inl ((omega arith, omega (arith, few)), inl (within, g.covers, refl)))),
    )

-- what the client's session comes to
pub record IsBigSession (m : ℕ) (e : SessionEnd) : Type 0 where
  pub served : AreServedOf (gen_value m).frame (gen_value m).clients (gen_value m).clients (e ∷ [])
  pub accepted : e.accepted ≡ gen_upload m ∷ []
  pub whole : ℕ
  pub derived : ℕ
  pub replies : e.replies ≡ accepted_line (gen_upload m) ++ (settled_line ++ bound_lines m whole derived)

module _ (one : (f : Top) (before : Held) (command : Command) (a b : Outcome) → UploadGives f before command a
    → UploadGives f before command b → a ≡ b) where
  accepted_of : (m : ℕ) (us : List Upload) → AreGenerated m
      → AcceptsEach (gen_value m).frame (codes "gen") (Offered (upload_cell (2 ^ m)) (blocks_text (gen_blocks m))
      ∷ Settle ∷ Bound (upload_cell (2 ^ m)) ∷ Bound (derived_cell (2 ^ m)) ∷ []) [] us → us ≡ gen_upload m ∷ []
  accepted_of m us g (first, (outcome, gives, is), (second, same, (third, also, (fourth, too, end)))) =
      let f = (gen_value m).frame in
      let command = Offered (upload_cell (2 ^ m)) (blocks_text (gen_blocks m)) in
      let ok : outcome ≡ Ok (gen_covering m) =
      one f (held []) command outcome (Ok (gen_covering m)) gives (accepts m g) in
      end ∙ too ∙ also ∙ same ∙ is ∙ ap (λ (o : Outcome). uploads_after (codes "gen") [] o) ok

  replies_of : (s : Service) (m : ℕ) (text : List ℕ) (end : Progress) → s.frame ≡ (gen_value m).frame
      → s.client ≡ codes "gen" → AreGenerated m
      → AreReplies s (Offered (upload_cell (2 ^ m)) (blocks_text (gen_blocks m))
      ∷ Settle ∷ Bound (upload_cell (2 ^ m)) ∷ Bound (derived_cell (2 ^ m)) ∷ []) no_progress text end
      → (whole : ℕ) × (derived : ℕ)
      × (text ≡ accepted_line (gen_upload m) ++ (settled_line ++ bound_lines m whole derived))
  replies_of s m text end framed named g (
    here,
    rest,
    middle,
    (outcome, gives, line, is),
    (
      here2,
      rest2,
      middle2,
      settled,
      (here3, rest3, middle3, is3, (here4, rest4, middle4, is4, none, e4), e3),
      e2,
    ),
    e,
  ) =
      let power = power_in m g.low g.high in
      let command = Offered (upload_cell (2 ^ m)) (blocks_text (gen_blocks m)) in
      let ok : outcome ≡ Ok (gen_covering m) =
      one (gen_value m).frame (held []) command outcome (Ok (gen_covering m))
      (subst (λ (f : Top). UploadGives f (held []) command outcome) framed gives) (accepts m g) in
      let first : here ≡ accepted_line (gen_upload m) =
      line ∙ ap₂ (λ (name : List ℕ) (o : Outcome). outcome_line name no_progress o) named ok in
      let whole = inside_reply s (upload_cell (2 ^ m)) middle2 here3 middle3
      (subst (λ (f : Top). InFrame f (upload_cell (2 ^ m))) (sym framed) (upload_inside (2 ^ m) power.0 power.1)) is3 in
      let derived = inside_reply s (derived_cell (2 ^ m)) middle3 here4 middle4
      (subst (λ (f : Top). InFrame f (derived_cell (2 ^ m))) (sym framed) (derived_inside (2 ^ m) power.0 power.1))
      is4 in
      let last : rest3 ≡ bound_line (codes "bound") (derived_cell (2 ^ m)) derived.0 =
      e4 ∙ ap₂ (λ (a b : List ℕ). a ++ b) derived.1 none.0 ∙ append-nil _ in
      let both : rest2 ≡ bound_lines m whole.0 derived.0 = e3 ∙ ap₂ (λ (a b : List ℕ). a ++ b) whole.1 last in
      let after : rest ≡ settled_line ++ bound_lines m whole.0 derived.0 =
      e2 ∙ ap₂ (λ (a b : List ℕ). a ++ b) settled.0 both in
      (whole.0, derived.0, e ∙ ap₂ (λ (a b : List ℕ). a ++ b) first after)

  -- the only end of those that were served
  pub big_session : (m : ℕ) (ends lent : List SessionEnd) (e : SessionEnd) → AreGenerated m
      → AreServedOf (gen_value m).frame (gen_value m).clients (gen_value m).clients ends → lent ≡ ends → lent ≡ e ∷ []
      → IsBigSession m e
  big_session m ends lent e g served same only =
      let clients = (gen_value m).clients in
      let alone : AreServedOf (gen_value m).frame clients clients (e ∷ []) =
      subst (λ (es : List SessionEnd). AreServedOf (gen_value m).frame clients clients es) (sym same ∙ only) served in
      let s = service_of (gen_value m) (codes "gen") in
      let replies = replies_of s m e.replies alone.0.0 refl refl g alone.0.1 in record {
        served = alone;
        accepted = accepted_of m e.accepted g alone.1;
        whole = replies.0;
        derived = replies.1;
        replies = replies.2;
      }

-- the front of the replies, with the number of blocks, and the replies to the bounds after it
pub fronted : (m n : ℕ) (e : SessionEnd) (front : List ℕ) (h : IsBigSession m e) → n ≡ length (gen_blocks m)
    → front ≡ numbers_line (codes "accepted") (1 ∷ n ∷ []) ++ settled_line
    → e.replies ≡ front ++ bound_lines m h.whole h.derived
fronted m n e front h count is =
    let line : front ≡ accepted_line (gen_upload m) ++ settled_line =
    is ∙ ap (λ (k : ℕ). numbers_line (codes "accepted") (1 ∷ k ∷ []) ++ settled_line) count in
    h.replies ∙ sym (append_assoc (accepted_line (gen_upload m)) settled_line (bound_lines m h.whole h.derived))
    ∙ ap (λ (x : List ℕ). x ++ bound_lines m h.whole h.derived) (sym line)

pub front_fits : (m n : ℕ) (e : SessionEnd) (front : List ℕ) → IsBigSession m e → n ≡ length (gen_blocks m)
    → front ≡ numbers_line (codes "accepted") (1 ∷ n ∷ []) ++ settled_line → length front ≤ length e.replies
front_fits m n e front h count is =
    let long = ap (λ (x : List ℕ). length x) (fronted m n e front h count is) in
    let parts = length-append front (bound_lines m h.whole h.derived) in omega (arith, long, parts)

pub lines_left : (m n : ℕ) (e : SessionEnd) (front : List ℕ) (h : IsBigSession m e) → n ≡ length (gen_blocks m)
    → front ≡ numbers_line (codes "accepted") (1 ∷ n ∷ []) ++ settled_line
    → drop (length front) e.replies ≡ bound_lines m h.whole h.derived
lines_left m n e front h count is =
    ap (λ (x : List ℕ). drop (length front) x) (fronted m n e front h count is)
    ∙ drop-append_seam front (bound_lines m h.whole h.derived)

-- the bounds of the table that the run was closed with are the least for the uploads of its only end
pub closed_bounds : (m : ℕ) (ends lent : List SessionEnd) (e : SessionEnd) (c : Closed)
    → IsWholeServed (gen_value m) ends c → lent ≡ ends → lent ≡ e ∷ []
    → AreLeastBounds (gen_value m).frame e.accepted c.table.bounds
closed_bounds m ends lent e c served same only =
    let f = (gen_value m).frame in
    let frame : c.table.arena.frame ≡ f = served.closed.has.frame in
    let us : uploads_of ends ≡ e.accepted =
    ap (λ (es : List SessionEnd). uploads_of es) (sym same ∙ only) ∙ append-nil e.accepted in record {
      count = served.closed.count;
      least = λ d inside. subst (λ (x : Top × List Upload). IsLeast f x.1 d (at_cell x.0 c.table.bounds d))
          (λ i. (frame i, us i)) (served.closed.least d inside);
    }

-- the summary
pub summed : (m n : ℕ) (ends lent : List SessionEnd) (e : SessionEnd) (c : Closed) (front lines whole : List ℕ)
    (cells sum : ℕ) (h : IsBigSession m e) → IsWholeServed (gen_value m) ends c → lent ≡ ends
    → lent ≡ e ∷ [] → n ≡ length (gen_blocks m)
    → front ≡ numbers_line (codes "accepted") (1 ∷ n ∷ []) ++ settled_line → lines ≡ drop (length front) e.replies
    → cells ≡ length (report_cells c.table.arena.frame)
    → sum ≡ sum_by (at_cell c.table.arena.frame c.table.bounds) (report_cells c.table.arena.frame)
    → whole ≡ big_text m n lines cells sum c.rebuilt → IsBigOutput m whole
summed m n ends lent e c front lines whole cells sum h served same only count is left counted added text =
    let frame : c.table.arena.frame ≡ (gen_value m).frame = served.closed.has.frame in
    let there : lines ≡ bound_lines m h.whole h.derived = left ∙ lines_left m n e front h count is in
    let number = counted ∙ ap (λ (f : Top). length (report_cells f)) frame in
    let total = added ∙ ap (λ (f : Top). sum_by (at_cell f c.table.bounds) (report_cells f)) frame in record {
      end = e;
      served = h.served;
      accepted = h.accepted;
      whole = h.whole;
      derived = h.derived;
      replies = h.replies;
      bounds = c.table.bounds;
      least = closed_bounds m ends lent e c served same only;
      rebuilt = c.rebuilt;
      text_is = text
          ∙ ap₂ (λ (k : ℕ) (x : List ℕ). big_text m k x cells sum c.rebuilt) count there
          ∙ ap₂ (λ (k l : ℕ). big_text m (length (gen_blocks m)) (bound_lines m h.whole h.derived) k l c.rebuilt)
          number total;
    }
