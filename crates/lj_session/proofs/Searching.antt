-- Commands gone through one after the other: how many are uploads, and whether one offers an upload.
use Rattle.std.proofs.Common.{◌≡◌, ℕ, ◌+◌, ◌≤◌, List, [], ◌∷◌, ◌++◌, length, refl, sym, subst, ⊎_elim, arith}
use Rattle.std.proofs.Common.{◌<◌, Bool, IsTrue, ap, ◌∙◌, drop, get_or, take}
use Rattle.std.specs.Prelude.{◌↔◌}
use Rattle.std.specs.List.{Contains}
use Rattle.std.proofs.lemmas.List.{take_more}
use Rattle.lj_base.specs.Cells.{Triple}
use Rattle.lj_blockfile.specs.BlockFiles.{AreBlocksOf}
use Rattle.lj_blockfile.specs.Headers.{IsHeader}
use Rattle.lj_blockfile.specs.declared.headers.Header.{Header}
use Rattle.std.proofs.lemmas.List.Elements.{Contains-push_cases}
use Rattle.lj_cover.specs.Rules.{Upload}
use Rattle.lj_script.specs.declared.scripts.Command.{Command}
use Rattle.lj_script.specs.declared.scripts.Command.TheVariants.{Upload as Offered, UploadFile, Bound, Plan, Expand}
use Rattle.lj_script.specs.declared.scripts.Command.TheVariants.{Settle}
use Rattle.lj_session.proofs.Collected.{count-append}
use Rattle.lj_session.specs.Offered.{HasOffer, IsOfferOf, upload_count}

-- no command so far offers it, nor does one more
pub has_none : (cs : List Command) (c : Command) (u : Upload) → (HasOffer cs u → ⊥) → (IsOfferOf c u → ⊥)
    → HasOffer (cs ++ c ∷ []) u → ⊥
has_none cs c u none other h = ⊎_elim
    (λ (old : Contains cs h.0). none (h.0, old, h.2))
    (λ (e : c ≡ h.0). other (subst (λ (x : Command). IsOfferOf x u) (sym e) h.2))
    (Contains-push_cases cs c h.0 h.1)

-- how many are uploads, where one more is an upload, and where it is none
pub counts_one : (cs : List Command) (c : Command) (n : ℕ) → n ≡ upload_count cs → upload_count (c ∷ []) ≡ 1
    → n + 1 ≡ upload_count (cs ++ c ∷ [])
counts_one cs c n e one = omega (arith, e, one, count-append cs (c ∷ []))

-- a command that is no upload counts for nothing
single : (c : Command) → (upload_count (c ∷ []) ≡ 1 → ⊥) → upload_count (c ∷ []) ≡ 0
single (Offered d body) other = absurd (other refl)
single (UploadFile body) other = absurd (other refl)
single (Bound d) other = refl
single (Plan d) other = refl
single (Expand d) other = refl
single Settle other = refl

pub counts_none : (cs : List Command) (c : Command) (n : ℕ) → n ≡ upload_count cs → (upload_count (c ∷ []) ≡ 1 → ⊥)
    → n ≡ upload_count (cs ++ c ∷ [])
counts_none cs c n e other = omega (arith, e, single c other, count-append cs (c ∷ []))

-- there are no more uploads than commands
pub counts_few : (cs : List Command) → upload_count cs ≤ length cs
counts_few [] = omega arith
counts_few (Offered d body ∷ cs) = let rest = counts_few cs in omega (arith, rest)
counts_few (UploadFile body ∷ cs) = let rest = counts_few cs in omega (arith, rest)
counts_few (Bound d ∷ cs) = let rest = counts_few cs in omega (arith, rest)
counts_few (Plan d ∷ cs) = let rest = counts_few cs in omega (arith, rest)
counts_few (Expand d ∷ cs) = let rest = counts_few cs in omega (arith, rest)
counts_few (Settle ∷ cs) = let rest = counts_few cs in omega (arith, rest)

-- ---- elements one after the other

pub take_item : {X : Type 0} (xs : List X) (i : ℕ) (x : X) → i < length xs → x ≡ get_or xs i x
    → take (i + 1) xs ≡ take i xs ++ x ∷ []
take_item xs i x within is = take_more xs i x within ∙ ap (λ y. take i xs ++ y ∷ []) (sym is)

-- ---- the blocks of a text

-- a text in which just these blocks were found holds the upload's where they are these
pub holds_them : (text : List ℕ) (v k w l : ℕ) (bs own : List (List ℕ)) (r : Bool) → w ≡ v → l ≡ k
    → AreBlocksOf text w l bs → ((cs : List (List ℕ)) → AreBlocksOf text w l cs → bs ≡ cs) → (IsTrue r ↔ (own ≡ bs))
    → IsTrue r ↔ AreBlocksOf text v k own
holds_them text v k w l bs own r ev ek h one d = (
  λ t. let same : own ≡ bs = d.0 t in
      subst (λ (x : ℕ × ℕ × List (List ℕ)). AreBlocksOf text x.0 x.1 x.2) (λ i. (ev i, ek i, sym same i)) h,
  λ q. let back : AreBlocksOf text w l own =
      subst (λ (x : ℕ × ℕ). AreBlocksOf text x.0 x.1 own) (λ i. (sym ev i, sym ek i)) q in d.1 (sym (one own back)),
)

-- what follows the one header of a file is what it offers
pub file_offers : (body rest : List ℕ) (header : Header) (u : Upload) → IsHeader body header
    → rest ≡ drop header.rest body → ((h : Header) → IsHeader body h → h ≡ header)
    → ((u.cell ≡ header.cell) × AreBlocksOf rest header.cell.v header.cell.k u.blocks) ↔ IsOfferOf (UploadFile body) u
file_offers body rest header u is same one = (
  λ h. (rest, (header, is, h.0, same), subst (λ (c : Triple). AreBlocksOf rest c.v c.k u.blocks) (sym h.0) h.1),
  λ h.
      let e : h.1.0 ≡ header = one h.1.0 h.1.1 in
      let cell : u.cell ≡ header.cell = h.1.2 ∙ ap (λ (x : Header). x.cell) e in
      let text : h.0 ≡ rest = h.1.3 ∙ ap (λ (x : Header). drop x.rest body) e ∙ sym same in (
        cell,
        subst (λ (x : List ℕ × Triple). AreBlocksOf x.0 x.1.v x.1.k u.blocks) (λ i. (text i, cell i)) h.2,
      ),
)
