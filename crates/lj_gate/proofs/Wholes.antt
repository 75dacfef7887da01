-- The ends of all sections of a script, whose passes had seen no number above that of the sets of its cell.
use Rattle.std.proofs.Common.{◌≡◌, ℕ, true, ◌*◌, ◌<◌, ◌≤◌, List, [], ◌∷◌, length, map, refl, ap, subst, arith}
use Rattle.std.proofs.lemmas.List.{length-append, length-map}
use Rattle.std.proofs.lemmas.List.Elements.{Contains-append_right}
use Rattle.std.specs.List.{AllByRecursion, Contains}
use Rattle.lj_base.specs.Cells.{Triple}
use Rattle.lj_base.specs.Colex.{choose}
use Rattle.lj_base.specs.Frames.{InFrame, Top}
use Rattle.lj_board.specs.Seen.{BoardView, PassView, seen_of}
use Rattle.lj_build.specs.Closing.{IsClosed}
use Rattle.lj_build.specs.Runs.{uploads_of}
use Rattle.lj_build.specs.declared.closing.Closed.{Closed}
use Rattle.lj_deriv.specs.declared.limits.TheConstants.{MAX_ARENA_UPLOADS}
use Rattle.lj_script.specs.Values.{ScriptValue, SectionValue}
use Rattle.lj_script.specs.declared.limits.TheConstants.{MAX_CLIENTS}
use Rattle.lj_session.specs.AcceptedUploads.{AreAcceptedOfAll}
use Rattle.lj_session.specs.ServeReplies.{ServeReplies, ServeRepliesBelow}
use Rattle.lj_session.specs.Sessions.{SessionValue, new_session}
use Rattle.lj_session.specs.declared.ends.SessionEnd.{SessionEnd}
use Rattle.lj_upload.specs.declared.quotas.TheConstants.{QUOTA_UPLOADS}
use Rattle.lj_gate.specs.Ends.{AreServed, IsOfRun}
use Rattle.lj_gate.specs.Whole.{AreServedOf, IsSmall, IsWholeServed}

-- replies below a limit that is no greater than the number of sets are those of `serve`
abbrev pub Raises : Top → List SectionValue → Type 0
Raises f all = (low : Triple → ℕ) (section : SectionValue) (text : List ℕ)
    → ((c : Triple) → InFrame f c → low c ≤ choose c.v c.t) → ServeRepliesBelow f low all section text
    → ServeReplies f all section text

pub served_of : (f : Top) (b : BoardView) (all sections : List SectionValue) (passes : List PassView)
    (ends : List SessionEnd) → Raises f all → AllByRecursion (IsSmall f b) passes
    → AreServed f all (map (new_session f) sections) passes ends → AreServedOf f all sections ends
served_of f b all [] passes [] raises small h = tt
served_of f b all [] passes (e ∷ ends) raises small h = absurd h
served_of f b all (s ∷ sections) [] ends raises small h = absurd h
served_of f b all (s ∷ sections) (p ∷ passes) [] raises small h = absurd h
served_of f b all (s ∷ sections) (p ∷ passes) (e ∷ ends) raises small h = (
  raises (seen_of p) s e.replies small.0.small h.0.replies,
  h.0.accepted,
  served_of f b all sections passes ends raises small.1 h.1,
)

pub accepted_of : (f : Top) (all sections : List SectionValue) (ends : List SessionEnd)
    → AreServedOf f all sections ends → AreAcceptedOfAll f sections (uploads_of ends)
accepted_of f all [] [] h = refl
accepted_of f all [] (e ∷ ends) h = absurd h
accepted_of f all (s ∷ sections) [] h = absurd h
accepted_of f all (s ∷ sections) (e ∷ ends) h =
    (e.accepted, uploads_of ends, h.1, accepted_of f all sections ends h.2, refl)

pub few_of : (f : Top) (all : List SectionValue) (sessions : List SessionValue) (passes : List PassView)
    (ends : List SessionEnd) → AreServed f all sessions passes ends
    → length (uploads_of ends) ≤ QUOTA_UPLOADS * length sessions
few_of f all [] passes [] h = omega arith
few_of f all [] passes (e ∷ ends) h = absurd h
few_of f all (s ∷ sessions) [] ends h = absurd h
few_of f all (s ∷ sessions) (p ∷ passes) [] h = absurd h
few_of f all (s ∷ sessions) (p ∷ passes) (e ∷ ends) h =
    let rest = few_of f all sessions passes ends h.1 in
    omega (arith, h.0.few, rest, length-append e.accepted (uploads_of ends))

-- new sessions of some of the sections are sessions of the run
pub sessions_of : (f : Top) (all sections : List SectionValue)
    → ((s : SectionValue) → Contains sections s → Contains all s)
    → AllByRecursion (IsOfRun f all) (map (new_session f) sections)
sessions_of f all [] within = tt
sessions_of f all (s ∷ sections) within = (
  record { start = refl; member = within s (0, omega arith, refl) },
  sessions_of f all sections (λ x h. within x (Contains-append_right (s ∷ []) sections x h)),
)

pub on_board : (f : Top) (b : BoardView) (passes : List PassView) → AllByRecursion (IsSmall f b) passes
    → AllByRecursion (λ p. p.board ≡ b) passes
on_board f b [] h = tt
on_board f b (p ∷ passes) h = (h.0.board, on_board f b passes h.1)

-- ---- the whole of `serve`

pub run_given : (f g : Top) (all sections : List SectionValue) (ss : List SessionValue) → f ≡ g → all ≡ sections
    → ss ≡ map (new_session g) sections → AllByRecursion (IsOfRun f all) ss
run_given f g all sections ss same_frame same_sections same =
    rw (same_frame, same_sections, same) (sessions_of g sections sections (λ s h. h))

pub served_whole : (f g : Top) (b : BoardView) (all sections : List SectionValue) (ss : List SessionValue)
    (passes : List PassView) (ends : List SessionEnd) → f ≡ g → all ≡ sections → ss ≡ map (new_session g) sections
    → Raises g sections → AllByRecursion (IsSmall f b) passes → AreServed f all ss passes ends
    → AreServedOf g sections sections ends
served_whole f g b all sections ss passes ends same_frame same_sections same raises small served =
    served_of g b sections sections passes ends raises
    (subst (λ (x : Top). AllByRecursion (IsSmall x b) passes) same_frame small)
    (subst (λ (x : Top × List SectionValue × List SessionValue). AreServed x.0 x.1 x.2 passes ends)
    (λ i. (same_frame i, same_sections i, same i)) served)

pub few_whole : (f : Top) (all sections : List SectionValue) (g : Top) (ss : List SessionValue)
    (passes : List PassView) (ends : List SessionEnd) → ss ≡ map (new_session g) sections
    → length sections ≤ MAX_CLIENTS → AreServed f all ss passes ends
    → length (uploads_of ends) < MAX_ARENA_UPLOADS
few_whole f all sections g ss passes ends same few served =
    omega (
      arith,
      few,
      few_of f all ss passes ends served,
      ap (λ (xs : List SessionValue). length xs) same,
      length-map sections (new_session g),
    )

pub whole_of : (script : ScriptValue) (ends mine : List SessionEnd) (c : Closed)
    → AreServedOf script.frame script.clients script.clients ends → IsClosed script.frame (uploads_of ends) c.table
    → (c.rebuilt ≡ true → c.table.arena.uploads ≡ uploads_of ends) → mine ≡ ends → IsWholeServed script mine c
whole_of script ends mine c served closed anew same = rw same (record {
  served = served;
  accepted = accepted_of script.frame script.clients script.clients ends served;
  closed = closed;
  anew = anew;
})
