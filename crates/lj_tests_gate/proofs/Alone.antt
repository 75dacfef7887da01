-- A run of one session.
use Rattle.std.proofs.Common.{◌≡◌, List, [], ◌∷◌, refl}
use Rattle.std.specs.List.{AllByRecursion, Contains}
use Rattle.lj_base.specs.Frames.{Top}
use Rattle.lj_script.specs.Values.{SectionValue}
use Rattle.lj_session.specs.Sessions.{SessionValue, new_session}
use Rattle.lj_gate.specs.Ends.{IsOfRun}

pub one_of_run : (f g : Top) (all : List SectionValue) (section : SectionValue) (s : SessionValue)
    (ss : List SessionValue) → g ≡ f → Contains all section → s ≡ new_session g section → ss ≡ s ∷ []
    → AllByRecursion (IsOfRun f all) ss
one_of_run f g all section s ss frame member is items =
    rw (items, is, frame) (record { start = refl; member = member }, tt)
