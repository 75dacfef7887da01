use Rattle.std.proofs.Common.{◌≡◌, ◌∙◌, ◌↔◌, ℕ, Bool, List, ap, sym}
use Rattle.std.proofs.lemmas.Bool.{and_parts, eqb-true, false≢true}
use Rattle.std.proofs.lemmas.Slice.Eq.{slice_eq-Decides}
use Rattle.std.specs.Bool.{Decides, IsTrue}
use Rattle.lj_base.specs.Cells.{Triple}
use Rattle.lj_cover.specs.Rules.{Upload}
use Rattle.lj_upload.proofs.Padding.{padded-Decides}
use Rattle.lj_upload.proofs.accepted.Accepted.same.Goals as goal
use Rattle.lj_upload.proofs.accepted.Accepted.same.Goals.{then-eq, else-eq, then-self-other, else-self-other}

same_cell : (x y : Triple) → x.v ≡ y.v → x.k ≡ y.k → x.t ≡ y.t → x ≡ y
same_cell x y v k t = λ i. record { v = v i; k = k i; t = t i }

same_upload : (m n : List ℕ) (a b : ℕ) (c d : Triple) (bs cs : List (List ℕ)) (s t : Upload) (r : Bool)
    → record { client = m; ordinal = a; cell = c; blocks = bs } ≡ s
    → record { client = n; ordinal = b; cell = d; blocks = cs } ≡ t
    → m ≡ n → a ≡ b → c ≡ d → Decides r (bs ≡ cs) → IsTrue r ↔ (s ≡ t)
same_upload m n a b c d bs cs s t r left right name ordinal cell blocks = (
  (λ e. let list = blocks.0 e in sym left ∙ (λ i. record
      { client = name i; ordinal = ordinal i; cell = cell i; blocks = list i }) ∙ right),
  (λ e. blocks.1 (ap (λ (u : Upload). u.blocks) (left ∙ e ∙ sym right))),
)

pub returns-then-eq-2 : goal.returns-then-eq-2
returns-then-eq-2 c =
    let s = c.self.inside in
    let o = c.other.inside in
    let blocks = slice_eq-Decides (λ a b. padded-Decides 25 a b) _ _ _ c.eq-then-eq-2.ensures in
    let of_self = c.blocks-then-eq-2.ensures.blocks in
    let of_other = c.blocks-then-eq-2-2.ensures.blocks in
    elim c.if-self-other.branch [
      | then-self-other w ↦
          elim c.if-eq.branch [
            | then-eq v ↦
                let name : s.client ≡ o.client = (padded-Decides 32 s.client o.client).0
                (sym c.eq.ensures ∙ v.if-eq.true) in
                let ordinal : s.ordinal ≡ o.ordinal = eqb-true s.ordinal o.ordinal
                (sym v.value-is ∙ w.if-self-other.true) in
                let fields = and_parts _ _ (sym w.eq-then-self-other.ensures ∙ sym w.value-is ∙ c.if-eq-2.true) in
                let last = and_parts _ _ fields.1 in
                let vs = eqb-true _ _ fields.0 in
                let ks = eqb-true _ _ last.0 in
                let ts = eqb-true _ _ last.1 in
                let left = w.cell.ensures in
                let right = w.cell-then-self-other.ensures in
                let cell : s.design.cell ≡ o.design.cell = sym left ∙ same_cell _ _ vs ks ts ∙ right in
                same_upload s.client o.client s.ordinal o.ordinal s.design.cell o.design.cell s.design.blocks
                o.design.blocks _ _ _ c.self.view_is c.other.view_is
                name ordinal cell
                ((λ e. sym of_self ∙ blocks.0 e ∙ of_other), (λ e. blocks.1 (of_self ∙ e ∙ sym of_other)))
            | else-eq v ↦ absurd (false≢true (sym v.if-eq.false ∙ sym v.value-is ∙ w.if-self-other.true))
          ]
      | else-self-other w ↦ absurd (false≢true (sym w.if-self-other.false ∙ sym w.value-is ∙ c.if-eq-2.true))
    ]
