-- Runs of events, which uploads they accept, and what they read.
use Rattle.std.specs.Prelude.{◌≡◌, ℕ, ◌≤◌, All, List, [], ◌∷◌, ◌++◌, length}
use Rattle.std.specs.List.{AllByRecursion, AllPairs, zip}
use Rattle.lj_base.specs.Cells.{Triple}
use Rattle.lj_base.specs.Frames.{InFrame, Top}
use Rattle.lj_cover.specs.Derivations.{DerivableIn}
use Rattle.lj_cover.specs.Rules.{IsCovering, Upload}
use Rattle.lj_core.specs.Machines.{IsEventStep, Machine}
use Rattle.lj_core.specs.declared.events.Event.{Event}
use Rattle.lj_core.specs.declared.events.Event.TheVariants.{Accept, Claim, Publish, Read}

-- one event, and then the rest of a run
pub record GoesOn (s : Machine) (e : Event) (reads : List ℕ) (Rest : Machine → List ℕ → Type 0) : Type 0 where
  pub next : Machine
  pub seen : List ℕ
  pub later : List ℕ
  pub reads_are : reads ≡ seen ++ later
  pub step : IsEventStep s e seen next
  pub rest : Rest next later

-- from s to n by the events in order; these are the bounds that are read, in order
abbrev pub IsRun : Machine → List Event → List ℕ → Machine → Type 0
IsRun s [] reads n = (reads ≡ []) × (n ≡ s)
IsRun s (e ∷ es) reads n = GoesOn s e reads (λ next later. IsRun next es later n)

-- the event's cell, or that of its upload, is in the frame
abbrev pub IsEventIn : Top → Event → Type 0
IsEventIn frame (Accept u) = InFrame frame u.cell
IsEventIn frame (Claim w) = Unit {0}
IsEventIn frame (Publish w) = Unit {0}
IsEventIn frame (Read c) = InFrame frame c

-- the uploads that are accepted, in order
abbrev pub accepted_by : List Event → List Upload
accepted_by [] = []
accepted_by (Accept u ∷ es) = u ∷ accepted_by es
accepted_by (Claim w ∷ es) = accepted_by es
accepted_by (Publish w ∷ es) = accepted_by es
accepted_by (Read c ∷ es) = accepted_by es

-- each upload covers, and its cell is in the frame
pub record AreSound (frame : Top) (uploads : List Upload) : Type 0 where
  pub covering : AllByRecursion IsCovering uploads
  pub inside : AllByRecursion (λ u. InFrame frame u.cell) uploads

-- of one read: its cell, and the uploads that were accepted before it
pub record Reading : Type 0 where
  pub cell : Triple
  pub uploads : List Upload

-- the reads of the events, in order, after these uploads
abbrev pub readings : List Upload → List Event → List Reading
readings uploads [] = []
readings uploads (Accept u ∷ es) = readings (uploads ++ u ∷ []) es
readings uploads (Claim w ∷ es) = readings uploads es
readings uploads (Publish w ∷ es) = readings uploads es
readings uploads (Read c ∷ es) = record { cell = c; uploads = uploads } ∷ readings uploads es

-- one number for each read: the cost of a derivation of its cell, in the frame and from the uploads that were accepted
-- before it, and no higher than at an earlier read of that cell
pub record AreReads (frame : Top) (rs : List Reading) (reads : List ℕ) : Type 0 where
  pub count : length reads ≡ length rs
  pub derivable : All (λ (p : Reading × ℕ). DerivableIn frame p.0.uploads p.0.cell p.1) (zip rs reads)
  pub falls : AllPairs (λ (p q : Reading × ℕ). p.0.cell ≡ q.0.cell → q.1 ≤ p.1) (zip rs reads)
