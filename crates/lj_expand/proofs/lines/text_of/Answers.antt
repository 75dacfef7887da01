use Rattle.std.proofs.Common.{◌≡◌, ◌<◌, ◌∷◌, [], ◌∙◌, ap, arith, decimal, get_or, length, refl, subst, sym, take}
use Rattle.std.proofs.lemmas.Fmt.{decimal_nonempty, length-decimal-le}
use Rattle.lj_expand.proofs.Texts.{text-one, text-two}
use Rattle.lj_expand.proofs.lines.text_of.Goals as goal

pub bounds-digits-0-else-digits-gt1 : goal.bounds-digits-0-else-digits-gt1
bounds-digits-0-else-digits-gt1 c =
    let same = c.as_bytes-digits.ensures.value ∙ c.format.ensures.text in
    subst (λ d. 0 < length d) (sym same) (decimal_nonempty c.args.n (omega (arith, c.requires)))

pub returns-then-digits-gt1 : goal.returns-then-digits-gt1
returns-then-digits-gt1 c =
    let n = c.args.n in
    let same = c.as_bytes-digits.ensures.value ∙ c.format.ensures.text in
    let short = length-decimal-le 2 n (omega arith) (omega (arith, c.requires)) (omega (arith, c.requires)) in
    let long : length (decimal n) ≡ 2 = omega (arith, short, ap length same, c.if-digits-gt1.true) in
    record {
      two = refl;
      digits = ap (λ d. take (length (decimal n)) (get_or d 0 0 ∷ (get_or d 1 0 ∷ []))) same
          ∙ text-two (decimal n) long;
    }

pub returns-else-digits-gt1 : goal.returns-else-digits-gt1
returns-else-digits-gt1 c =
    let n = c.args.n in
    let same = c.as_bytes-digits.ensures.value ∙ c.format.ensures.text in
    let some = decimal_nonempty n (omega (arith, c.requires)) in
    let long : length (decimal n) ≡ 1 = omega (arith, some, ap length same, c.if-digits-gt1.false) in
    record {
      two = refl;
      digits = ap (λ d. take (length (decimal n)) (get_or d 0 0 ∷ (0 ∷ []))) same ∙ text-one (decimal n) 0 long;
    }
