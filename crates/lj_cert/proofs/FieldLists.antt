-- Lists of fields, read from the left.
use Rattle.std.proofs.Common.{◌≡◌, ℕ, List, [], ◌∷◌, ◌++◌, sym, subst, ap, ◌∙◌, append_assoc}
use Rattle.std.proofs.Common.{arith, inl, inr, length}
use Rattle.std.specs.List.{AllZip}
use Rattle.lj_cert.specs.Faults.{IsBadOr}
use Rattle.lj_cert.specs.LineForms.{AreProductFields, IsPartField}
use Rattle.lj_cert.specs.declared.certs.CertPart.{CertPart}
use Rattle.lj_cert.specs.declared.faults.CertFault.{CertFault}
use Rattle.lj_cert.proofs.Unique.{same_each, same_part}

-- the fields up to those that are left are of these values
pub record IsReadUpTo {A : Type 0} (P : List ℕ → A → Type 0) (all left : List (List ℕ)) (found : List A) : Type 0 where
  pub done : List (List ℕ)
  pub all_are : all ≡ done ++ left
  pub are : AllZip P done found

zip_push : {A : Type 0} (P : List ℕ → A → Type 0) (ws : List (List ℕ)) (xs : List A) (w : List ℕ) (x : A)
    → AllZip P ws xs → P w x → AllZip P (ws ++ w ∷ []) (xs ++ x ∷ [])
zip_push P [] [] w x h k = (k, tt)
zip_push P [] (y ∷ ys) w x h k = absurd h
zip_push P (v ∷ ws) [] w x h k = absurd h
zip_push P (v ∷ ws) (y ∷ ys) w x h k = (h.0, zip_push P ws ys w x h.1 k)

pub read-more : {A : Type 0} (P : List ℕ → A → Type 0) (all left rest : List (List ℕ)) (found new : List A)
    (w : List ℕ) (x : A) → IsReadUpTo P all left found → left ≡ w ∷ rest → P w x → new ≡ found ++ x ∷ []
    → IsReadUpTo P all rest new
read-more P all left rest found new w x h is k push = rw push (record {
  done = h.done ++ w ∷ [];
  all_are = h.all_are ∙ ap (λ ls. h.done ++ ls) is ∙ sym (append_assoc h.done (w ∷ []) rest);
  are = zip_push P h.done found w x h.are k;
})

zip_at : {A : Type 0} (P : List ℕ → A → Type 0) (ws rest : List (List ℕ)) (w : List ℕ) (xs : List A)
    → AllZip P (ws ++ w ∷ rest) xs → ((x : A) → P w x → ⊥) → ⊥
zip_at P [] rest w [] h none = h
zip_at P [] rest w (x ∷ xs) h none = none x h.0
zip_at P (v ∷ ws) rest w [] h none = h
zip_at P (v ∷ ws) rest w (x ∷ xs) h none = zip_at P ws rest w xs h.1 none

-- where a field is of no value, the fields are of none
pub read-fault : {A : Type 0} (P : List ℕ → A → Type 0) (all left rest : List (List ℕ)) (found : List A) (w : List ℕ)
    → IsReadUpTo P all left found → left ≡ w ∷ rest → ((x : A) → P w x → ⊥) → (xs : List A) → AllZip P all xs → ⊥
read-fault P all left rest found w h is none xs k =
    let all_are : all ≡ h.done ++ w ∷ rest = h.all_are ∙ ap (λ ls. h.done ++ ls) is in
    zip_at P h.done rest w xs (subst (λ ws. AllZip P ws xs) all_are k) none

pub bad-fields : {A : Type 0} (P : List ℕ → A → Type 0) (all left rest : List (List ℕ)) (found : List A) (w : List ℕ)
    (line : ℕ) (fault : CertFault) → IsReadUpTo P all left found → left ≡ w ∷ rest
    → IsBadOr line ((x : A) → P w x → ⊥) fault → IsBadOr line ((xs : List A) → AllZip P all xs → ⊥) fault
bad-fields P all left rest found w line fault h is (inl memory) = inl memory
bad-fields P all left rest found w line fault h is (inr k) = inr (k.0, read-fault P all left rest found w h is k.1)

-- where no part follows, the fields are not those of a product
pub no_parts : (fields rest : List (List ℕ)) (w : List ℕ) (found : List CertPart) (v1 : ℕ) (parts : List CertPart)
    → fields ≡ w ∷ rest → AllZip IsPartField rest found → length found ≡ 0 → AreProductFields fields v1 parts → ⊥
no_parts fields rest w found v1 parts is are none h =
    let others : h.others ≡ rest = cc (h.fields_are, is) in
    let same = same_each IsPartField same_part rest parts found
    (subst (λ ws. AllZip IsPartField ws parts) others h.parts_are) are in
    omega (arith, h.some, ap length same, none)
