-- The lines of a body, as they are gone through.
use Rattle.std.proofs.Common.{◌≡◌, ℕ, List, [], ◌∷◌, ◌++◌, refl, sym, ◌∙◌, subst, append_assoc}
use Rattle.std.specs.List.{AllByRecursion}
use Rattle.lj_base.proofs.Lists.{AllByRecursion-append}
use Rattle.lj_text.specs.Lines.{IsLineOf}
use Rattle.lj_text.specs.declared.lines.Line.{Line}
use Rattle.lj_script.specs.LineForms.{IsEnd}
use Rattle.lj_script.specs.Scripts.{ReachesEnd}

-- of the lines those before the ones that are left end no body
pub record IsSearched (bytes : List ℕ) (lines left : List Line) : Type 0 where
  pub inner : List Line
  pub lines_are : lines ≡ inner ++ left
  pub none_ends : AllByRecursion (λ line. IsEnd bytes line → ⊥) inner
  pub inside : AllByRecursion (IsLineOf bytes) left

pub IsSearched-start : {bytes : List ℕ} {lines : List Line} → AllByRecursion (IsLineOf bytes) lines
    → IsSearched bytes lines lines
IsSearched-start inside = record { inner = []; lines_are = refl; none_ends = tt; inside = inside }

pub with_left : {bytes : List ℕ} {lines left rest : List Line} → left ≡ rest → IsSearched bytes lines left
    → IsSearched bytes lines rest
with_left {bytes} {lines} {left} {rest} same s = subst (λ ls. IsSearched bytes lines ls) same s

module _ {bytes : List ℕ} {lines : List Line} {line : Line} {left : List Line}
    (s : IsSearched bytes lines (line ∷ left)) where
  pub IsSearched-past : (IsEnd bytes line → ⊥) → IsSearched bytes lines left
  IsSearched-past other = record {
    inner = s.inner ++ line ∷ [];
    lines_are = s.lines_are ∙ sym (append_assoc s.inner (line ∷ []) left);
    none_ends = AllByRecursion-append _ s.inner (line ∷ []) s.none_ends (other, tt);
    inside = s.inside.1;
  }

  pub ReachesEnd-found : IsEnd bytes line → ReachesEnd bytes line lines left
  ReachesEnd-found ends = record { inner = s.inner; lines_are = s.lines_are; none_ends = s.none_ends; ends = ends }

-- no line ends a body
pub none_end : {bytes : List ℕ} {lines : List Line} → IsSearched bytes lines []
    → AllByRecursion (λ line. IsEnd bytes line → ⊥) lines
none_end {bytes} {lines} s =
    subst (AllByRecursion (λ line. IsEnd bytes line → ⊥)) (sym s.lines_are)
    (AllByRecursion-append _ s.inner [] s.none_ends tt)
