-- A ticket that is old stays old.
use Rattle.std.proofs.Common.{◌≡◌, ℕ, Bool, List, [], ◌∷◌, ◌++◌, length, Option, sym, subst}
use Rattle.std.proofs.lemmas.List.Elements.{Contains-append_left}
use Rattle.std.specs.List.{Contains}
use Rattle.lj_base.specs.Cells.{Triple}
use Rattle.lj_base.specs.Frames.{Top}
use Rattle.lj_cover.specs.Derivations.{DerivableIn}
use Rattle.lj_cover.specs.Instances.{rows_at, rows_from}
use Rattle.lj_cover.specs.Rules.{Upload}
use Rattle.lj_relax.specs.States.{State}
use Rattle.lj_relax.specs.Steps.{Accepts, IsOld, Publishes, Snapshot}

pub old_after_publish : (s n : State) (a b : Snapshot) (best : Option ℕ) (lowered agreed : Bool) → IsOld s a
    → Publishes s b best lowered agreed n → IsOld n a
old_after_publish s n a b best lowered agreed old p =
    let frames = sym p.frame in
    let lists = sym p.uploads in
    let was : IsOld (record { frame = s.frame; uploads = s.uploads; bounds = n.bounds; pending = n.pending }) a =
    record {
      inside = old.inside;
      derivable = old.derivable;
      rows = old.rows;
    } in
    subst (λ s. IsOld s a) (λ i. record { frame = frames i; uploads = lists i; bounds = n.bounds; pending = n.pending })
    was

module _ (appended : (frame : Top) (uploads others : List Upload) (c : Triple) (n : ℕ) → DerivableIn frame uploads c n
    → DerivableIn frame (uploads ++ others) c n)
    (rows_more : (uploads others : List Upload) (c : Triple)
    → rows_at (uploads ++ others) c ≡ rows_at uploads c ++ rows_from (length uploads) others c) where
  pub old_after_accept : (s n : State) (a : Snapshot) (u : Upload) → IsOld s a → Accepts s u n → IsOld n a
  old_after_accept s n a u old p =
      let frames = sym p.frame in
      let lists = sym p.uploads in
      let us = s.uploads ++ u ∷ [] in
      let now : IsOld (record { frame = s.frame; uploads = us; bounds = n.bounds; pending = n.pending }) a = record {
        inside = old.inside;
        derivable = λ d i. appended s.frame s.uploads (u ∷ []) d (a.bounds d) (old.derivable d i);
        rows = λ row has. subst (λ rs. Contains rs row) (sym (rows_more s.uploads (u ∷ []) a.cell))
            (Contains-append_left (rows_at s.uploads a.cell) (rows_from (length s.uploads) (u ∷ []) a.cell) row
            (old.rows row has));
      } in
      subst (λ s. IsOld s a)
      (λ i. record { frame = frames i; uploads = lists i; bounds = n.bounds; pending = n.pending }) now
