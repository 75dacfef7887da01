-- Lines begin with one item at most.
use Rattle.std.proofs.Common.{◌≡◌, ℕ, List, [], ◌∷◌, ◌++◌, slice_range, refl, sym, ap, ◌∙◌, subst}
use Rattle.std.specs.List.{AllByRecursion}
use Rattle.lj_text.specs.Lines.{after_line}
use Rattle.lj_text.specs.declared.lines.Line.{Line}
use Rattle.lj_text.specs.Tokens.{words}
use Rattle.lj_script.specs.Items.{IsItem, Item, new_client, new_command}
use Rattle.lj_script.specs.LineForms.{IsEnd, Says}
use Rattle.lj_script.specs.Scripts.{Completes, IsBody, command_form}
use Rattle.lj_script.specs.declared.forms.Form.{Form}
use Rattle.lj_script.specs.declared.forms.Form.TheVariants.{Client}
use Rattle.lj_script.specs.declared.scripts.Command.{Command}
use Rattle.lj_script.specs.declared.scripts.Command.TheVariants.{Upload, UploadFile, Bound, Plan, Expand, Settle}
use Rattle.lj_script.proofs.Unique.{same_form}

-- the first line that ends a body is one, and so is the rest
same_end : (bytes : List ℕ) (xs ys : List Line) (x y : Line) (r s : List Line) → xs ++ x ∷ r ≡ ys ++ y ∷ s
    → AllByRecursion (λ line. IsEnd bytes line → ⊥) xs
    → AllByRecursion (λ line. IsEnd bytes line → ⊥) ys → IsEnd bytes x → IsEnd bytes y → (x ≡ y) × (r ≡ s)
same_end bytes [] [] x y r s same h j ends others = (cc, cc)
same_end bytes [] (z ∷ ys) x y r s same h j ends others =
    let here : x ≡ z = cc in
    absurd (j.0 (subst (IsEnd bytes) here ends))
same_end bytes (z ∷ xs) [] x y r s same h j ends others =
    let here : y ≡ z = cc in
    absurd (h.0 (subst (IsEnd bytes) here others))
same_end bytes (z ∷ xs) (w ∷ ys) x y r s same h j ends others =
    let rest : xs ++ x ∷ r ≡ ys ++ y ∷ s = cc in
    same_end bytes xs ys x y r s rest h.1 j.1 ends others

same_body : (bytes : List ℕ) (begin : Line) (lines : List Line) (b d : List ℕ) (r s : List Line)
    → IsBody bytes begin lines b r → IsBody bytes begin lines d s → (b ≡ d) × (r ≡ s)
same_body bytes begin lines b d r s h j =
    let same = same_end bytes h.reaches.inner j.reaches.inner h.end j.end r s
    (sym h.reaches.lines_are ∙ j.reaches.lines_are) h.reaches.none_ends j.reaches.none_ends h.reaches.ends
    j.reaches.ends in
    (h.body_is ∙ ap (λ (e : Line). slice_range bytes (after_line bytes begin) e.start) same.0 ∙ sym j.body_is, same.1)

same_completed : (bytes : List ℕ) (c d : Command) (first : Line) (others r s : List Line)
    → command_form c ≡ command_form d → Completes bytes c first others r → Completes bytes d first others s
    → (c ≡ d) × (r ≡ s)
same_completed bytes (Upload c b) (Upload d e) first others r s same h j =
    let body = same_body bytes first others b e r s h j in
    let cell : c ≡ d = cc in
    (cc (cell, body.0), body.1)
same_completed bytes (UploadFile b) (UploadFile e) first others r s same h j =
    let body = same_body bytes first others b e r s h j in
    (ap UploadFile body.0, body.1)
same_completed bytes (Bound c) (Bound d) first others r s same h j = (cc, sym h ∙ j)
same_completed bytes (Plan c) (Plan d) first others r s same h j = (cc, sym h ∙ j)
same_completed bytes (Expand c) (Expand d) first others r s same h j = (cc, sym h ∙ j)
same_completed bytes Settle Settle first others r s same h j = (refl, sym h ∙ j)
same_completed bytes c d first others r s same h j = absurd cc

-- the form of an item's first line
abbrev pub first_form : Item → Form
first_form (new_client name) = Client name
first_form (new_command c) = command_form c

-- what follows an item's first line
abbrev Follows : List ℕ → Item → Line → List Line → List Line → Type 0
Follows bytes (new_client name) first others rest = others ≡ rest
Follows bytes (new_command c) first others rest = Completes bytes c first others rest

record IsParted (bytes : List ℕ) (item : Item) (lines rest : List Line) : Type 0 where
  pub first : Line
  pub others : List Line
  pub lines_are : lines ≡ first ∷ others
  pub says : Says (words bytes first) (first_form item)
  pub follows : Follows bytes item first others rest

parted : (bytes : List ℕ) (item : Item) (lines rest : List Line) → IsItem bytes item lines rest
    → IsParted bytes item lines rest
parted bytes (new_client name) lines rest h =
    record { first = h.0; others = rest; lines_are = h.1.lines_are; says = h.1.says; follows = refl }
parted bytes (new_command c) lines rest h = record
    { first = h.first; others = h.others; lines_are = h.begins.lines_are; says = h.begins.says; follows = h.completes }

-- the line says the item's form
pub says_item : (bytes : List ℕ) (item : Item) (line : Line) (after rest : List Line)
    → IsItem bytes item (line ∷ after) rest → Says (words bytes line) (first_form item)
says_item bytes item line after rest h =
    let p = parted bytes item (line ∷ after) rest h in
    let here : p.first ≡ line = cc (p.lines_are) in
    subst (λ (l : Line). Says (words bytes l) (first_form item)) here p.says

same_parted : (bytes : List ℕ) (i j : Item) (first : Line) (others r s : List Line) → first_form i ≡ first_form j
    → Follows bytes i first others r → Follows bytes j first others s
    → (i ≡ j) × (r ≡ s)
same_parted bytes (new_client n) (new_client m) first others r s same h j = (cc, sym h ∙ j)
same_parted bytes (new_command c) (new_command d) first others r s same h j =
    let both = same_completed bytes c d first others r s same h j in
    (ap new_command both.0, both.1)
same_parted bytes (new_client n) (new_command (Upload c b)) first others r s same h j = absurd cc
same_parted bytes (new_client n) (new_command (UploadFile b)) first others r s same h j = absurd cc
same_parted bytes (new_client n) (new_command (Bound c)) first others r s same h j = absurd cc
same_parted bytes (new_client n) (new_command (Plan c)) first others r s same h j = absurd cc
same_parted bytes (new_client n) (new_command (Expand c)) first others r s same h j = absurd cc
same_parted bytes (new_client n) (new_command Settle) first others r s same h j = absurd cc
same_parted bytes (new_command (Upload c b)) (new_client n) first others r s same h j = absurd cc
same_parted bytes (new_command (UploadFile b)) (new_client n) first others r s same h j = absurd cc
same_parted bytes (new_command (Bound c)) (new_client n) first others r s same h j = absurd cc
same_parted bytes (new_command (Plan c)) (new_client n) first others r s same h j = absurd cc
same_parted bytes (new_command (Expand c)) (new_client n) first others r s same h j = absurd cc
same_parted bytes (new_command Settle) (new_client n) first others r s same h j = absurd cc

pub same_item : (bytes : List ℕ) (i j : Item) (lines r s : List Line) → IsItem bytes i lines r
    → IsItem bytes j lines s → (i ≡ j) × (r ≡ s)
same_item bytes i j lines r s h k =
    let p = parted bytes i lines r h in
    let q = parted bytes j lines s k in
    let lines_are : p.first ∷ p.others ≡ q.first ∷ q.others = sym p.lines_are ∙ q.lines_are in
    let first : q.first ≡ p.first = cc in
    let others : q.others ≡ p.others = cc in
    let says = subst (λ (l : Line). Says (words bytes l) (first_form j)) first q.says in
    let follows = subst (λ ls. Follows bytes j p.first ls s) others
    (subst (λ (l : Line). Follows bytes j l q.others s) first q.follows) in
    same_parted bytes i j p.first p.others r s
    (same_form (words bytes p.first) (first_form i) (first_form j) p.says says) p.follows follows
