-- One section more.
use Rattle.std.proofs.Common.{◌≡◌, List, [], ◌∷◌, ◌++◌, length, refl, sym, ap, ◌∙◌, subst, arith}
use Rattle.std.proofs.lemmas.List.{append_assoc, append-nil, length-append}
use Rattle.lj_base.specs.Frames.{Top}
use Rattle.lj_cover.specs.Rules.{Upload}
use Rattle.lj_script.specs.Values.{ScriptValue, SectionValue}
use Rattle.lj_session.specs.AcceptedUploads.{AreAcceptedOfAll}
use Rattle.lj_session.specs.declared.ends.SessionEnd.{SessionEnd}
use Rattle.lj_table.specs.Tables.{Contents}
use Rattle.lj_build.specs.Building.{AreBuiltSoFar, IsSectionBuilt, IsWholeBuilt, Rests}
use Rattle.lj_build.specs.Runs.{AreBuilt, uploads_of}

pub uploads_of-append : (ds es : List SessionEnd) → uploads_of (ds ++ es) ≡ uploads_of ds ++ uploads_of es
uploads_of-append [] es = refl
uploads_of-append (d ∷ ds) es =
    ap (λ (us : List Upload). d.accepted ++ us) (uploads_of-append ds es)
    ∙ sym (append_assoc d.accepted (uploads_of ds) (uploads_of es))

pub uploads_of-push : (ds : List SessionEnd) (e : SessionEnd) → uploads_of (ds ++ e ∷ []) ≡ uploads_of ds ++ e.accepted
uploads_of-push ds e =
    uploads_of-append ds (e ∷ []) ∙ ap (λ (us : List Upload). uploads_of ds ++ us) (append-nil e.accepted)

pub built_start : (f : Top) (t : Contents) → Rests f [] t → AreBuiltSoFar f [] [] t
built_start f t rests = record { rests = rests; few = omega arith; completes = λ more others h. h }

pub built_more : (f : Top) (done : List SectionValue) (ends now : List SessionEnd) (section : SectionValue)
    (e : SessionEnd) (before t : Contents)
    → AreBuiltSoFar f done ends before → IsSectionBuilt f before.arena.uploads section t e → now ≡ ends ++ e ∷ []
    → AreBuiltSoFar f (done ++ section ∷ []) now t
built_more f done ends now section e before t h one same =
    let built : IsSectionBuilt f (uploads_of ends) section t e =
    subst (λ (us : List Upload). IsSectionBuilt f us section t e) h.rests.uploads_are one in
    let all : uploads_of now ≡ uploads_of ends ++ e.accepted =
    ap (λ (es : List SessionEnd). uploads_of es) same ∙ uploads_of-push ends e in
    record {
      rests = subst (λ (us : List Upload). Rests f us t) (sym all) built.rests;
      few = omega (
        arith,
        h.few,
        built.few,
        ap (λ (us : List Upload). length us) all,
        length-append
            (uploads_of ends) e.accepted,
        length-append done (section ∷ []),
      );
      completes = λ more others r.
          let rest : AreBuilt f (uploads_of ends ++ e.accepted) more others =
          subst (λ (us : List Upload). AreBuilt f us more others) all r in
          let whole : AreBuilt f [] (done ++ section ∷ more) (ends ++ e ∷ others) =
          h.completes (section ∷ more) (e ∷ others) (built.replies, built.accepted, rest) in
          let sections : (done ++ section ∷ []) ++ more ≡ done ++ section ∷ more =
          append_assoc done (section ∷ []) more in
          let ends_are : now ++ others ≡ ends ++ e ∷ others =
          ap (λ (es : List SessionEnd). es ++ others) same ∙ append_assoc ends (e ∷ []) others in
          rw (sections, ends_are) whole;
    }

pub accepted_all : (f : Top) (earlier : List Upload) (sections : List SectionValue) (ends : List SessionEnd)
    → AreBuilt f earlier sections ends → AreAcceptedOfAll f sections (uploads_of ends)
accepted_all f earlier [] [] h = refl
accepted_all f earlier [] (e ∷ ends) h = absurd h
accepted_all f earlier (s ∷ ss) [] h = absurd h
accepted_all f earlier (s ∷ ss) (e ∷ ends) h =
    (e.accepted, uploads_of ends, h.1, accepted_all f (earlier ++ e.accepted) ss ends h.2, refl)

pub built_all : (script : ScriptValue) (done : List SectionValue) (ends : List SessionEnd) (t : Contents)
    → done ≡ script.clients → AreBuiltSoFar script.frame done ends t → IsWholeBuilt script ends t
built_all script done ends t same h =
    let whole : AreBuilt script.frame [] (done ++ []) (ends ++ []) = h.completes [] [] tt in
    let built : AreBuilt script.frame [] script.clients ends
    =
    subst (λ (x : List SectionValue × List SessionEnd). AreBuilt script.frame [] x.0 x.1)
    (λ i. ((append-nil done ∙ same) i, append-nil ends i)) whole in record {
      built = built;
      accepted = accepted_all script.frame [] script.clients ends built;
      rests = h.rests;
    }
