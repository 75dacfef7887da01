-- Names are compared as arrays of 32 bytes and lengths.
use Rattle.std.proofs.Common.{◌≡◌, ◌↔◌, ℕ, ◌-◌, Bool, ◌&&◌, nat_eq, IsTrue, List, ◌++◌, length, take, replicate, sym}
use Rattle.std.proofs.Common.{ap, ap₂, ◌∙◌}
use Rattle.std.proofs.Math.Seq.{take-append_seam}
use Rattle.std.proofs.lemmas.Bool.{and_from, and_parts, eq-eqb, eqb-true}
use Rattle.std.proofs.lemmas.Slice.Eq.{bytes_eq-Decides}
use Rattle.std.specs.Str.{bytes_eq}

abbrev padded : List ℕ → List ℕ
padded name = name ++ replicate (32 - length name) 0

pub IsTrue-same_name : (same : Bool) (a b : List ℕ)
    → same ≡ (bytes_eq (padded a) (padded b) && nat_eq (length a) (length b)) → IsTrue same ↔ (a ≡ b)
IsTrue-same_name same a b is = (
  λ h.
      let parts = and_parts _ _ (sym is ∙ h) in
      let count : length a ≡ length b = eqb-true (length a) (length b) parts.1 in
      let arrays : padded a ≡ padded b = (bytes_eq-Decides (padded a) (padded b)).0 parts.0 in
      sym (take-append_seam a (replicate (32 - length a) 0)) ∙ ap₂ take count arrays
      ∙ take-append_seam b (replicate (32 - length b) 0),
  λ e. is ∙ and_from _ _ ((bytes_eq-Decides (padded a) (padded b)).1 (ap padded e))
      (eq-eqb (length a) (length b) (ap length e)),
)
