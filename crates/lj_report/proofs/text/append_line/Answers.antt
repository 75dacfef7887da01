use Rattle.std.proofs.Common.{◌≡◌, ℕ, ◌==◌, if◌then◌else◌, List, [], ◌∷◌, ◌++◌, codes, decimal, map, ap, ap₂, ◌∙◌, sym}
use Rattle.std.proofs.Common.{append_assoc}
use Rattle.std.proofs.lemmas.Result.{on_ok_weaker}
use Rattle.lj_base.specs.Cells.{Triple}
use Rattle.lj_text.specs.Tokens.{join_by_space}
use Rattle.lj_report.specs.Reports.{lower_number, report_line, reported_numbers}
use Rattle.lj_report.proofs.text.append_line.Goals as goal

line_put : (c : Triple) (n lower : ℕ) (ns old numbers end now : List ℕ) → lower ≡ lower_number c
    → ns ≡ c.v ∷ c.k ∷ c.t ∷ n ∷ lower ∷ [] → numbers ≡ old ++ join_by_space (map decimal ns)
    → end ≡ (if n == lower then codes " optimal" else []) ++ 10 ∷ [] → now ≡ numbers ++ end
    → now ≡ old ++ (report_line c n ++ 10 ∷ [])
line_put c n lower ns old numbers end now lower_is ns_are numbers_is end_is now_is =
    let mark = λ (l : ℕ). let m : List ℕ = if n == l then codes " optimal" else [] in m in
    let line = λ (l : ℕ). join_by_space (map decimal (c.v ∷ c.k ∷ c.t ∷ n ∷ l ∷ [])) in
    let least = lower_number c in
    now_is
    ∙ ap₂ (λ xs ys. xs ++ ys) (numbers_is ∙ ap (λ m. old ++ join_by_space (map decimal m)) ns_are) end_is
    ∙ ap (λ l. (old ++ line l) ++ (mark l ++ 10 ∷ [])) lower_is
    ∙ append_assoc old (line least) (mark least ++ 10 ∷ [])
    ∙ ap (λ xs. old ++ xs) (sym (append_assoc (line least) (mark least) (10 ∷ [])))

same_five : (a b c x y z n l : ℕ) → a ≡ x → b ≡ y → c ≡ z → a ∷ b ∷ c ∷ n ∷ l ∷ [] ≡ x ∷ y ∷ z ∷ n ∷ l ∷ []
same_five a b c x y z n l first second third = cc

pub returns-clause-ok : goal.returns-clause-ok
returns-clause-ok c =
    let cell = c.args.cell in
    let n = c.args.bound in
    let lower = c.schonheim-lower.result in
    let ns : List ℕ = c.from.result ∷ c.from-2.result ∷ c.from-3.result ∷ n ∷ lower ∷ [] in
    let v = c.from.ensures ∙ ap (λ (x : Triple). x.v) c.cell.view_is in
    let k = c.from-2.ensures ∙ ap (λ (x : Triple). x.k) c.cell.view_is in
    let t = c.from-3.ensures ∙ ap (λ (x : Triple). x.t) c.cell.view_is in
    let are = same_five _ _ _ _ _ _ n lower v k t in
    on_ok_weaker c.put.result
    (line_put cell n lower ns c.args.out.now.items _ _ _ c.schonheim-lower.ensures.value are
    c.in_ok-put_joined.ensures.ok
    c.line_end.ensures)
    c.put.ensures.ok
