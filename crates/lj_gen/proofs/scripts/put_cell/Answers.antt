use Rattle.std.proofs.Common.{◌≡◌, List, ℕ, [], ◌∷◌, ◌++◌, append_assoc, ap, decimal, map, sym, ◌∙◌}
use Rattle.std.proofs.lemmas.Result.{on_ok_weaker}
use Rattle.lj_base.specs.Cells.{Triple}
use Rattle.lj_text.specs.Tokens.{join_by_space}
use Rattle.lj_gen.specs.Generated.{cell_line}
use Rattle.lj_gen.proofs.scripts.put_cell.Goals as goal

same_three : (a b c x y z : ℕ) → a ≡ x → b ≡ y → c ≡ z → a ∷ b ∷ c ∷ [] ≡ x ∷ y ∷ z ∷ []
same_three a b c x y z first second third = cc

pub returns : goal.returns
returns c =
    let old = c.args.out.now.items in
    let word = c.args.word.now in
    let cell = c.args.cell in
    let line = cell_line word cell in
    let ns : List ℕ = c.from.result ∷ c.from-2.result ∷ c.from-3.result ∷ [] in
    let v = c.from.ensures ∙ ap (λ (x : Triple). x.v) c.cell.view_is in
    let k = c.from-2.ensures ∙ ap (λ (x : Triple). x.k) c.cell.view_is in
    let t = c.from-3.ensures ∙ ap (λ (x : Triple). x.t) c.cell.view_is in
    let numbers = same_three _ _ _ _ _ _ v k t in
    let joined = sym (c.fields_law.ensures 32 word (map decimal ns))
    ∙ ap (λ n. join_by_space (word ∷ map decimal n)) numbers in
    let named = c.in_ok-put_named.ensures.ok ∙ ap (λ text. old ++ text) joined in
    on_ok_weaker c.put.result
    (λ last. last ∙ ap (λ text. text ++ 10 ∷ []) named ∙ append_assoc old line (10 ∷ [])) c.put.ensures.ok
