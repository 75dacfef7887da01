-- What holds of passes that see less and less, and of the ends of clients whose passes are joined.
use Rattle.std.proofs.Common.{◌≡◌, ℕ, zero, suc, ◌<◌, List, [], ◌∷◌, ◌++◌, get_or, map, refl, sym, ◌∙◌, subst}
use Rattle.std.proofs.Common.{Err, IfOk, IsOk, MatchResult, Ok, OnOk, Result, ap, le_refl, le_trans, arith}
use Rattle.std.proofs.lemmas.Bool.{false≢true}
use Rattle.std.proofs.lemmas.List.Elements.{All-from_recursion}
use Rattle.std.specs.List.{AllByRecursion, AllZip}
use Rattle.lj_base.proofs.Lists.{AllByRecursion-append, AllByRecursion-back, AllByRecursion-front}
use Rattle.lj_base.proofs.Lists.{AllByRecursion-weaker}
use Rattle.lj_base.specs.Frames.{Top}
use Rattle.lj_base.specs.declared.errors.Memory.{Memory}
use Rattle.lj_board.specs.Seen.{BoardView, NoneRises, PassView, seen_of}
use Rattle.lj_cover.specs.Rules.{Rule, Upload, One, Runs, All, Leaf, Derived, Derived2, Drop, Add, Grow}
use Rattle.lj_cover.specs.Rules.{Lower, Product, Induced, rule_cell}
use Rattle.lj_relax.specs.Steps.{NamesBase}
use Rattle.lj_script.specs.Values.{SectionValue}
use Rattle.lj_session.specs.Driving.{SeesLeast, SeesUses}
use Rattle.lj_session.specs.ServeReplies.{IsUseOf}
use Rattle.lj_session.specs.Sessions.{SessionValue}
use Rattle.lj_session.specs.declared.ends.SessionEnd.{SessionEnd}
use Rattle.lj_shared.specs.Passes.{AtMostEach, AtMostOffers}
use Rattle.lj_gate.specs.Ends.{AreServed, AtMostUses, IsEnd, IsJoined, IsOfRun, IsWorker}
use Rattle.lj_gate.specs.Prepared.{IsPrepared, IsReady, IsRun}
use Rattle.lj_gate.specs.Started.{AreGathered, GivesEnd, IsFinished, IsGathered, IsJob, IsJoinedTo, IsWorking}
use Rattle.lj_gate.specs.declared.clients.Client.{Client}
use Rattle.lj_gate.specs.declared.clients.Started.{Started}
use Rattle.lj_gate.specs.declared.workers.Worker.{Worker}
use Rattle.lj_gate.specs.declared.workers.Working.{Working}
use Rattle.lj_gate.specs.declared.clients.Job.{Job}
use Rattle.lj_gate.specs.declared.runs.Prepared.{Prepared}
use Rattle.lj_gate.specs.declared.runs.Ran.{Ran}
use Rattle.lj_gate.proofs.Pairing.{all_zip-all_second, all_zip-push, all_zip-weaker}

pub falls_refl : (p : PassView) → NoneRises p p
falls_refl p = (refl, λ c. le_refl (seen_of p c))

pub falls_trans : (p q r : PassView) → NoneRises p q → NoneRises q r → NoneRises p r
falls_trans p q r h k = (k.0 ∙ h.0, λ c. le_trans (k.1 c) (h.1 c))

-- ---- what a pass has seen of an accepted upload, and after a settle

contains_one : (u v : Upload) → IsUseOf (u ∷ []) (Leaf v) → v ≡ u
contains_one u v h = sym (first u v h.0 h.1 h.2)
  where
    first : (u v : Upload) (k : ℕ) → k < 1 → get_or (u ∷ []) k v ≡ v → u ≡ v
    first u v zero within is = is
    first u v (suc k) within is = absurd (omega arith)

names_one : (u : Upload) (r : Rule) → IsUseOf (u ∷ []) r → NamesBase u r
names_one u (Leaf v) h = contains_one u v h
names_one u (Derived v x) h = contains_one u v h
names_one u (Derived2 v x y) h = contains_one u v h
names_one u (One c) h = h
names_one u (Runs c) h = h
names_one u (All c) h = h
names_one u (Drop c) h = h
names_one u (Add c) h = h
names_one u (Grow c) h = h
names_one u (Lower c) h = h
names_one u (Product c v1 parts) h = h
names_one u (Induced v w k) h = h

pub sees_uses : (u : Upload) (p : PassView) → AtMostOffers u p → SeesUses (seen_of p) (u ∷ [])
sees_uses u p h r is condition =
    h (rule_cell r) r (record { names = names_one u r is; cell_is = refl; condition = condition })

pub sees_least : (f : Top) (us : List Upload) (p : PassView) → AtMostEach f us p → SeesLeast f us (seen_of p)
sees_least f us p h c n inside least = h c n least.derivable

-- ---- ends whose passes are joined

uses_fall : (f : Top) (us : List Upload) (p q : PassView) → NoneRises p q → AtMostUses f us p → AtMostUses f us q
uses_fall f us p q falls h r is condition inside = le_trans (falls.1 (rule_cell r)) (h r is condition inside)

pub each_falls : (f : Top) (us : List Upload) (p q : PassView) → NoneRises p q → AtMostEach f us p → AtMostEach f us q
each_falls f us p q falls h c n derivable = le_trans (falls.1 c) (h c n derivable)

-- the pass of a client is joined
pub gathered : (f : Top) (sections : List SectionValue) (j : Job) (before now : PassView) (e : SessionEnd)
    → NoneRises j.pass before → IsEnd f sections j.session j.pass before e → NoneRises before now
    → IsGathered f sections now j e
gathered f sections j before now e falls end joined = record {
  end = record { served = end.served; uses = uses_fall f e.accepted before now joined end.uses };
  falls = falls_trans j.pass before now falls joined;
}

pub gathered_falls : (f : Top) (sections : List SectionValue) (p q : PassView) (j : Job) (e : SessionEnd)
    → NoneRises p q → IsGathered f sections p j e → IsGathered f sections q j e
gathered_falls f sections p q j e falls h = record {
  end = record { served = h.end.served; uses = uses_fall f e.accepted p q falls h.end.uses };
  falls = falls_trans j.pass p q h.falls falls;
}

pub all_gathered_fall : (f : Top) (sections : List SectionValue) (p q : PassView) (js : List Job)
    (es : List SessionEnd) → NoneRises p q → AreGathered f sections p js es → AreGathered f sections q js es
all_gathered_fall f sections p q js es falls h =
    all_zip-weaker (IsGathered f sections p) (IsGathered f sections q) js es
    (λ j e one. gathered_falls f sections p q j e falls one) h

-- what a client's thread gives once its pass is joined
pub gives_end : {S : Type 0} (f : Top) (sections : List SectionValue) (one : Started S) (c : Client) (now : PassView)
    (e : SessionEnd) → IsFinished f sections one c → c.end ≡ Ok e → NoneRises c.pass now
    → GivesEnd f sections now one e
gives_end f sections one c now e finished is joined = λ j started.
    let left = finished j started in
    let end : IsEnd f sections j.session j.pass c.pass e =
    subst (λ (r : Result SessionEnd Memory). IfOk r (IsEnd f sections j.session j.pass c.pass)) is left.1 in
    gathered f sections j c.pass now e left.0 end joined

pub gives_fall : {S : Type 0} (f : Top) (sections : List SectionValue) (p q : PassView) (ss : List (Started S))
    (es : List SessionEnd) → NoneRises p q → AllZip (GivesEnd f sections p) ss es
    → AllZip (GivesEnd f sections q) ss es
gives_fall f sections p q ss es falls h =
    all_zip-weaker (GivesEnd f sections p) (GivesEnd f sections q) ss es
    (λ s e gives j started. gathered_falls f sections p q j e falls (gives j started)) h

-- one thread more is joined, whose client had an end
pub more_ends : {S : Type 0} (f : Top) (sections : List SectionValue) (before now : PassView) (ss : List (Started S))
    (one : Started S) (c : Client) (es new : List SessionEnd) → NoneRises before now → NoneRises c.pass now
    → IsFinished f sections one c → AllZip (GivesEnd f sections before) ss es
    → MatchResult c.end (λ e. new ≡ es ++ e ∷ []) (λ _. ⊥) → AllZip (GivesEnd f sections now) (ss ++ one ∷ []) new
more_ends f sections before now ss one c es new falls joined finished gives kept = by_end c.end refl kept
  where
    by_end : (r : Result SessionEnd Memory) → c.end ≡ r → MatchResult r (λ e. new ≡ es ++ e ∷ []) (λ _. ⊥)
        → AllZip (GivesEnd f sections now) (ss ++ one ∷ []) new
    by_end (Ok e) is same = rw same (all_zip-push (GivesEnd f sections now) ss es one e
        (gives_fall f sections before now ss es falls gives) (gives_end f sections one c now e finished is joined))
    by_end (Err x) is same = absurd same

-- what a worker's thread leaves once its pass is joined
pub joined_to : {S : Type 0} (f : Top) (one : Working S) (w : Worker) (now : PassView)
    → ((p : PassView) → IsWorking f p one → IsWorker f p w) → NoneRises w.pass now → IsJoinedTo f now one
joined_to f one w now finished joined = λ p working. falls_trans p w.pass now (finished p working).0 joined

pub joined_fall : {S : Type 0} (f : Top) (p q : PassView) (ws : List (Working S)) → NoneRises p q
    → AllByRecursion (IsJoinedTo f p) ws → AllByRecursion (IsJoinedTo f q) ws
joined_fall f p q ws falls h =
    AllByRecursion-weaker (IsJoinedTo f p) (IsJoinedTo f q) ws
    (λ w joined o working. falls_trans o p q (joined o working) falls) h

pub joined_all : {S : Type 0} (f : Top) (now : PassView) (ps : List PassView) (ws : List (Working S))
    → AllByRecursion (IsJoinedTo f now) ws → AllZip (IsWorking f) ps ws → AllByRecursion (λ p. NoneRises p now) ps
joined_all f now [] [] h k = tt
joined_all f now [] (w ∷ ws) h k = absurd k
joined_all f now (p ∷ ps) [] h k = absurd k
joined_all f now (p ∷ ps) (w ∷ ws) h k = (h.0 p k.0, joined_all f now ps ws h.1 k.1)

-- ---- the whole run

of_ok : {T E : Type 0} (P : Type 0) (r : Result T E) → IsOk r → OnOk r P → P
of_ok P (Ok x) is h = h
of_ok P (Err e) is h = absurd (false≢true is)

all_gathered : (f : Top) (sections : List SectionValue) (middle now : PassView) (js : List Job)
    (ends : Result (List SessionEnd) Memory) (mine : List SessionEnd) → NoneRises middle now
    → IfOk ends (λ es. AreGathered f sections middle js es) → MatchResult ends (λ es. mine ≡ es) (λ _. ⊥)
    → AreGathered f sections now js mine
all_gathered f sections middle now js (Ok es) mine falls h same =
    rw same (all_gathered_fall f sections middle now js es falls h)
all_gathered f sections middle now js (Err x) mine falls h same = absurd same

pub run_made : {S : Type 0} (f : Top) (sections : List SectionValue) (b : BoardView) (p : Prepared S) (w : Worker)
    (middle now : PassView) (ends : Result (List SessionEnd) Memory) (ran : Ran) → p.first.board ≡ b
    → IsWorker f p.first w → NoneRises w.pass middle → NoneRises middle now
    → IfOk ends (λ es. AreGathered f sections middle p.jobs.items es)
    → AllByRecursion (λ q. NoneRises q now) p.others.items → IsOk w.end
    → MatchResult ends (λ es. ran.ends ≡ es) (λ _. ⊥) → ran.pass ≡ now → IsRun f sections b p ran
run_made f sections b p w middle now ends ran board worker clients workers gathered others fine all same =
    let low : NoneRises w.pass now = falls_trans w.pass middle now clients workers in
    let first : NoneRises p.first now = falls_trans p.first w.pass now worker.0 low in
    let least : AtMostEach f [] now
    = each_falls f [] w.pass now low (of_ok (AtMostEach f [] w.pass) w.end fine worker.1) in record {
      ends = rw same (all_gathered f sections middle now p.jobs.items ends ran.ends workers gathered all);
      board = ap (λ (q : PassView). q.board) same ∙ first.0 ∙ board;
      first = rw same first;
      others = rw same others;
      least = rw same least;
    }

served_gathered : (f : Top) (sections : List SectionValue) (now : PassView) (js : List Job) (rest : List PassView)
    (es : List SessionEnd) → AreGathered f sections now js es
    → AreServed f sections (map (λ (j : Job). j.session) js) (map (λ (j : Job). j.pass) js ++ rest) es
served_gathered f sections now [] rest [] h = tt
served_gathered f sections now [] rest (e ∷ es) h = absurd h
served_gathered f sections now (j ∷ js) rest [] h = absurd h
served_gathered f sections now (j ∷ js) rest (e ∷ es) h =
    (h.0.end.served, served_gathered f sections now js rest es h.1)

falls_gathered : (f : Top) (sections : List SectionValue) (now : PassView) (js : List Job) (es : List SessionEnd)
    → AreGathered f sections now js es → AllByRecursion (λ q. NoneRises q now) (map (λ (j : Job). j.pass) js)
falls_gathered f sections now [] [] h = tt
falls_gathered f sections now [] (e ∷ es) h = absurd h
falls_gathered f sections now (j ∷ js) [] h = absurd h
falls_gathered f sections now (j ∷ js) (e ∷ es) h = (h.0.falls, falls_gathered f sections now js es h.1)

pub run_serves : {S : Type 0} (f : Top) (sections : List SectionValue) (b : BoardView) (ss : List SessionValue)
    (ps : List PassView) (p : Prepared S) (ran : Ran) → IsPrepared ss ps p → IsRun f sections b p ran
    → AreServed f sections ss ps ran.ends
run_serves f sections b ss ps p ran made h =
    subst (λ (x : List SessionValue × List PassView). AreServed f sections x.0 x.1 ran.ends)
    (λ i. (made.sessions_are i, made.passes_are i))
    (served_gathered f sections ran.pass p.jobs.items (p.others.items ++ p.first ∷ []) ran.ends h.ends)

pub run_joins : {S : Type 0} (f : Top) (sections : List SectionValue) (b : BoardView) (ss : List SessionValue)
    (ps : List PassView) (p : Prepared S) (ran : Ran) → IsPrepared ss ps p → IsRun f sections b p ran
    → IsJoined f ps ran.ends b ran.pass
run_joins f sections b ss ps p ran made h = record {
  board = h.board;
  falls =
      subst (λ (qs : List PassView). AllByRecursion (λ (q : PassView). NoneRises q ran.pass) qs) made.passes_are
      (AllByRecursion-append (λ (q : PassView). NoneRises q ran.pass) (map (λ (j : Job). j.pass) p.jobs.items)
      (p.others.items ++ p.first ∷ []) (falls_gathered f sections ran.pass p.jobs.items ran.ends h.ends)
      (AllByRecursion-append (λ (q : PassView). NoneRises q ran.pass) p.others.items (p.first ∷ []) h.others
      (h.first, tt)));
  least = h.least;
  uses = all_zip-all_second (IsGathered f sections ran.pass) (λ (e : SessionEnd). AtMostUses f e.accepted ran.pass)
      p.jobs.items ran.ends (λ j e one. one.end.uses) h.ends;
}

jobs_ready : (f : Top) (sections : List SectionValue) (b : BoardView) (js : List Job)
    → AllByRecursion (IsOfRun f sections) (map (λ (j : Job). j.session) js)
    → AllByRecursion (λ p. p.board ≡ b) (map (λ (j : Job). j.pass) js) → AllByRecursion (IsJob f sections b) js
jobs_ready f sections b [] h k = tt
jobs_ready f sections b (j ∷ js) h k =
    (record { pass = k.0; session = h.0 }, jobs_ready f sections b js h.1 k.1)

pub prepared_ready : {S : Type 0} (f : Top) (sections : List SectionValue) (b : BoardView) (ss : List SessionValue)
    (ps : List PassView) (p : Prepared S) → IsPrepared ss ps p → AllByRecursion (IsOfRun f sections) ss
    → AllByRecursion (λ q. q.board ≡ b) ps → IsReady f sections b p
prepared_ready f sections b ss ps p made sessions passes =
    let mine : List PassView = map (λ (j : Job). j.pass) p.jobs.items in
    let all : AllByRecursion (λ (q : PassView). q.board ≡ b) (mine ++ (p.others.items ++ p.first ∷ []))
    = subst (λ (qs : List PassView). AllByRecursion (λ (q : PassView). q.board ≡ b) qs) (sym made.passes_are) passes in
    let rest : AllByRecursion (λ (q : PassView). q.board ≡ b) (p.others.items ++ p.first ∷ [])
    = AllByRecursion-back (λ (q : PassView). q.board ≡ b) mine (p.others.items ++ p.first ∷ []) all in record {
      jobs = All-from_recursion (IsJob f sections b) p.jobs.items (jobs_ready f sections b p.jobs.items
          (subst (λ (xs : List SessionValue). AllByRecursion (IsOfRun f sections) xs) (sym made.sessions_are) sessions)
          (AllByRecursion-front (λ (q : PassView). q.board ≡ b) mine (p.others.items ++ p.first ∷ []) all));
      first = (AllByRecursion-back (λ (q : PassView). q.board ≡ b) p.others.items (p.first ∷ []) rest).0;
      others = All-from_recursion (λ (q : PassView). q.board ≡ b) p.others.items
          (AllByRecursion-front (λ (q : PassView). q.board ≡ b) p.others.items (p.first ∷ []) rest);
      room = made.room;
    }
