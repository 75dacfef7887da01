-- A line has one form at most.
use Rattle.std.proofs.Common.{◌≡◌, ℕ, false, List, [], ◌∷◌, codes, refl, ap, ◌∙◌}
use Rattle.std.proofs.lemmas.Bool.{both_ways}
use Rattle.std.proofs.lemmas.Slice.Eq.{bytes_eq-Decides}
use Rattle.std.specs.Str.{bytes_eq}
use Rattle.lj_base.specs.Cells.{Triple}
use Rattle.lj_text.specs.Numbers.{number_of}
use Rattle.lj_script.specs.LineForms.{NamesCell, Says, StartsWith}
use Rattle.lj_script.specs.declared.forms.Form.{Form}
use Rattle.lj_script.specs.declared.forms.Form.TheVariants.{Client, Upload as Offer, UploadFile as OfferFile, Ask}
use Rattle.lj_script.specs.declared.scripts.Command.TheVariants.{Upload, UploadFile, Bound, Plan, Expand, Settle}

same_numbers : (c d : Triple) → c.v ≡ d.v → c.k ≡ d.k → c.t ≡ d.t → c ≡ d
same_numbers c d v k t =
    ap (λ n. let triple : Triple = record { v = n; k = c.k; t = c.t } in triple) v
    ∙ ap (λ n. let triple : Triple = record { v = d.v; k = n; t = c.t } in triple) k
    ∙ ap (λ n. let triple : Triple = record { v = d.v; k = d.k; t = n } in triple) t

pub same_cell : {a b : List ℕ} {line : List (List ℕ)} {c d : Triple} → NamesCell a line c → NamesCell b line d → c ≡ d
same_cell {a} {b} {line} {c} {d} h j =
    let v : h.v ≡ j.v = cc in
    let k : h.k ≡ j.k = cc in
    let t : h.t ≡ j.t = cc in
    let v_is : c.v ≡ d.v = cc (h.v_is, j.v_is, ap number_of v) in
    let k_is : c.k ≡ d.k = cc (h.k_is, j.k_is, ap number_of k) in
    let t_is : c.t ≡ d.t = cc (h.t_is, j.t_is, ap number_of t) in
    same_numbers c d v_is k_is t_is

-- the first word of a form
abbrev first_word : Form → List ℕ
first_word (Client name) = codes "client"
first_word (Offer c) = codes "upload"
first_word OfferFile = codes "upload"
first_word (Ask (Upload c body)) = []
first_word (Ask (UploadFile body)) = []
first_word (Ask (Bound c)) = codes "bound"
first_word (Ask (Plan c)) = codes "plan"
first_word (Ask (Expand c)) = codes "expand"
first_word (Ask Settle) = codes "settle"

starts : (line : List (List ℕ)) (f : Form) → Says line f → StartsWith (first_word f) line
starts line (Client name) h = (name ∷ [], h.0)
starts line (Offer c) h = (h.v ∷ h.k ∷ h.t ∷ [], h.words_are)
starts line OfferFile h = (codes "file" ∷ [], h)
starts line (Ask (Upload c body)) h = absurd h
starts line (Ask (UploadFile body)) h = absurd h
starts line (Ask (Bound c)) h = (h.v ∷ h.k ∷ h.t ∷ [], h.words_are)
starts line (Ask (Plan c)) h = (h.v ∷ h.k ∷ h.t ∷ [], h.words_are)
starts line (Ask (Expand c)) h = (h.v ∷ h.k ∷ h.t ∷ [], h.words_are)
starts line (Ask Settle) h = ([], h)

-- no line starts with two words
pub other_start : {a b : List ℕ} {line : List (List ℕ)} → StartsWith a line → StartsWith b line
    → bytes_eq a b ≡ false → ⊥
other_start {a} {b} {line} h j other =
    let same : a ≡ b = cc (h.1, j.1) in
    both_ways (bytes_eq a b) other ((bytes_eq-Decides a b).1 same)

pub same_form : (line : List (List ℕ)) (f g : Form) → Says line f → Says line g → f ≡ g
same_form line (Client n) (Client m) h j = cc
same_form line (Offer c) (Offer d) h j = ap Offer (same_cell h j)
same_form line OfferFile OfferFile h j = refl
same_form line (Ask (Bound c)) (Ask (Bound d)) h j = ap (λ x. Ask (Bound x)) (same_cell h j)
same_form line (Ask (Plan c)) (Ask (Plan d)) h j = ap (λ x. Ask (Plan x)) (same_cell h j)
same_form line (Ask (Expand c)) (Ask (Expand d)) h j = ap (λ x. Ask (Expand x)) (same_cell h j)
same_form line (Ask Settle) (Ask Settle) h j = refl
same_form line (Ask (Upload c body)) g h j = absurd h
same_form line (Ask (UploadFile body)) g h j = absurd h
same_form line f (Ask (Upload c body)) h j = absurd j
same_form line f (Ask (UploadFile body)) h j = absurd j
same_form line (Offer c) OfferFile h j = cc (h.words_are, j)
same_form line OfferFile (Offer c) h j = cc (j.words_are, h)
same_form line f g h j = absurd (other_start (starts line f h) (starts line g j) refl)
