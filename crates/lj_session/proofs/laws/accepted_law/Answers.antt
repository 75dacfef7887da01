use Rattle.std.proofs.Common.{ℕ, ◌≤◌, List, subst}
use Rattle.std.specs.List.{Contains}
use Rattle.lj_base.specs.Cells.{Triple}
use Rattle.lj_base.specs.Frames.{Top}
use Rattle.lj_cover.specs.Derivations.{DerivableIn}
use Rattle.lj_cover.specs.Rules.{Upload}
use Rattle.lj_cover.specs.Uses.{DerivableBy, DerivableBy-weaker}
use Rattle.lj_script.specs.Values.{SectionValue}
use Rattle.lj_session.specs.AcceptedUploads.{AreAcceptedOfAll, IsAcceptedIn}
use Rattle.lj_session.proofs.Collected.{accepted_after, accepted_in_after, accepted_in_whole, accepted_offered}
use Rattle.lj_session.proofs.Collected.{accepted_whole, all_inside}
use Rattle.lj_session.proofs.OneOutcome.{OneReading}
use Rattle.lj_session.proofs.laws.accepted_law.Goals as goal

pub returns : goal.returns
returns c =
    let one : OneReading = record {
      blocks = c.one_reading_law.ensures.blocks;
      either = c.one_reading_law.ensures.either;
      fault = c.one_reading_law.ensures.fault;
      header = c.one_reading_law.ensures.header;
      one_refusal = c.outcome_law.ensures.one_refusal;
      no_refusal = c.outcome_law.ensures.no_refusal;
    } in
    let from_list : (f : Top) (sections : List SectionValue) (us : List Upload) → AreAcceptedOfAll f sections us
    → (x : Triple) (n : ℕ) → DerivableBy f (IsAcceptedIn f sections) x n → DerivableIn f us x n
    = λ f sections us all x n h. (c.derivations_stay_inside.ensures.members f us x n).1
    (DerivableBy-weaker f (IsAcceptedIn f sections) (Contains us) x n
    (λ u. accepted_in_whole one f sections us u all) h) in record {
      section = λ f section us all u. (accepted_whole one f section us u all, accepted_after f section us u all);
      sections = λ f sections us all u.
          (accepted_in_whole one f sections us u all, accepted_in_after f sections us u all);
      inside = all_inside;
      offered = accepted_offered;
      derivable = from_list;
      least = λ f sections us all x least n is h.
          let d = from_list f sections us all x n h in
          subst (λ (m : ℕ). least ≤ m) d.cost_is (is.least d.tree d.derivation d.inside d.from d.cell_is);
    }
