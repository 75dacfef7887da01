-- Lists that are laid into arrays of zeros.
use Rattle.std.proofs.Common.{◌≡◌, ℕ, ◌-◌, List, ◌++◌, ◌&&◌, eqb, length, take, drop, replicate, sym, ap, ap₂, ◌∙◌}
use Rattle.std.proofs.Common.{subst, arith, length-append}
use Rattle.std.proofs.Math.Seq.{take-append_seam}
use Rattle.std.proofs.lemmas.Bool.{and_from, and_parts, eq-eqb, eqb-true}
use Rattle.std.proofs.lemmas.List.{drop-replicate, length-drop}
use Rattle.std.proofs.lemmas.Slice.Eq.{bytes_eq-Decides}
use Rattle.std.specs.Bool.{Decides}
use Rattle.std.specs.Cmp.Lexicographic.{pointwise}
use Rattle.lj_upload.specs.Names.{HoldsName, IsName}

pub HoldsName-laid : (name zeros : List ℕ) → zeros ≡ replicate 32 0 → IsName name
    → HoldsName (length name) (name ++ drop (length name) zeros)
HoldsName-laid name zeros all h =
    let rest : drop (length name) zeros ≡ replicate (32 - length name) 0 =
    ap (drop (length name)) all ∙ drop-replicate (length name) 32 0 in
    let front : take (length name) (name ++ drop (length name) zeros) ≡ name =
    take-append_seam name (drop (length name) zeros) in
    let whole : length zeros ≡ 32 = ap length all in
    record {
      padding = record {
        within = h.short;
        size_is = omega (
          arith,
          length-append name (drop (length name) zeros),
          length-drop
              (length name) zeros,
          h.short,
        );
        padded = ap (λ r. name ++ r) rest ∙ ap (λ f. f ++ replicate (32 - length name) 0) (sym front);
      };
      name = subst IsName (sym front) h;
    }

-- two padded arrays with their lengths are the same where the lists are
pub padded-Decides : (n : ℕ) (a b : List ℕ)
    → Decides (pointwise eqb (a ++ replicate (n - length a) 0) (b ++ replicate (n - length b) 0) && eqb (length a)
    (length b)) (a ≡ b)
padded-Decides n a b = (
  (λ both.
      let parts = and_parts _ _ both in
      let count = eqb-true (length a) (length b) parts.1 in
      let arrays = (bytes_eq-Decides (a ++ replicate (n - length a) 0) (b ++ replicate (n - length b) 0)).0 parts.0 in
      sym (take-append_seam a (replicate (n - length a) 0)) ∙ ap₂ (λ m xs. take m xs) count arrays
      ∙ take-append_seam b (replicate (n - length b) 0)),
  (λ e.
      and_from _ _ ((bytes_eq-Decides (a ++ replicate (n - length a) 0) (b ++ replicate (n - length b) 0)).1
      (ap (λ xs. xs ++ replicate (n - length xs) 0) e))
      (eq-eqb (length a) (length b) (ap length e))),
)
