-- Numbers that are joined by spaces are a plain line, whose tokens spell them.
use Rattle.std.proofs.Common.{◌≡◌, ℕ, ◌^◌, ◌<◌, ◌≤◌, List, [], ◌∷◌, Some, decimal, length, map, ap, ◌∙◌, arith}
use Rattle.std.specs.List.{AllByRecursion, AllZip}
use Rattle.lj_base.proofs.Lists.{AllByRecursion-map, AllByRecursion-weaker}
use Rattle.lj_text.specs.Lines.{IsPlain}
use Rattle.lj_text.specs.Numbers.{Spells, number_of}
use Rattle.lj_text.specs.Tokens.{IsPlainWord, join_by_space, token_text, tokens_of}
use Rattle.lj_text.specs.declared.tokens.Token.{Token}
use Rattle.lj_text.proofs.PlainWords.{IsPlain-words, IsPlainWord-decimal, words_of-join}
use Rattle.lj_text.proofs.Spelling.{number_of-decimal}

are_plain_numbers : (ns : List ℕ) → AllByRecursion (λ n. n < 2 ^ 64) ns → AllByRecursion IsPlainWord (map decimal ns)
are_plain_numbers ns h = AllByRecursion-map (λ n. n < 2 ^ 64) IsPlainWord decimal ns IsPlainWord-decimal h

fit : (ns : List ℕ) → AllByRecursion (λ n. n < 10 ^ 18) ns → AllByRecursion (λ n. n < 2 ^ 64) ns
fit ns h = AllByRecursion-weaker (λ n. n < 10 ^ 18) (λ n. n < 2 ^ 64) ns (λ n small. omega (arith, small)) h

pub IsPlain-numbers : (ns : List ℕ) → 1 ≤ length ns → AllByRecursion (λ n. n < 2 ^ 64) ns
    → IsPlain (join_by_space (map decimal ns))
IsPlain-numbers [] some h = absurd (omega arith)
IsPlain-numbers (n ∷ ns) some h = IsPlain-words (map decimal (n ∷ ns)) (omega arith, are_plain_numbers (n ∷ ns) h)

-- tokens whose texts are the decimal digits of numbers spell these
spelled_by : (text : Token → List ℕ) (tokens : List Token) (ns : List ℕ) → AllByRecursion (λ n. n < 10 ^ 18) ns
    → map text tokens ≡ map decimal ns → AllZip (λ token n. number_of (text token) ≡ Some n) tokens ns
spelled_by text [] [] h same = tt
spelled_by text [] (n ∷ ns) h same = cc
spelled_by text (token ∷ tokens) [] h same = cc
spelled_by text (token ∷ tokens) (n ∷ ns) h same =
    let first : text token ≡ decimal n = cc in
    let rest : map text tokens ≡ map decimal ns = cc in
    (ap number_of first ∙ number_of-decimal n h.0, spelled_by text tokens ns h.1 rest)

pub Spells-numbers : (ns : List ℕ) → AllByRecursion (λ n. n < 10 ^ 18) ns
    → Spells (join_by_space (map decimal ns)) (tokens_of (join_by_space (map decimal ns))) ns
Spells-numbers ns h =
    let line = join_by_space (map decimal ns) in
    spelled_by (token_text line) (tokens_of line) ns h
    (words_of-join (map decimal ns) (are_plain_numbers ns (fit ns h)))
