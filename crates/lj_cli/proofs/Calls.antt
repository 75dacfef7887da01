-- A list of words calls for one command at most.
use Rattle.std.proofs.Common.{◌≡◌, ◌∙◌, ℕ, ◌≤◌, Bool, true, false, if◌then◌else◌, List, [], ◌∷◌, Option, None, Some}
use Rattle.std.proofs.Common.{IfNone, IfSome, arith, bytes_eq, codes, get_or, length, refl, sym, ap, subst}
use Rattle.std.proofs.lemmas.Bool.{both_ways}
use Rattle.std.proofs.lemmas.Slice.Eq.{bytes_eq-Decides}
use Rattle.lj_verify.specs.declared.limits.TheConstants.{MAX_WORKERS}
use Rattle.lj_cli.specs.Given.{Arguments, IsFew, given_by}
use Rattle.lj_base.specs.Cells.{Triple}
use Rattle.lj_cli.specs.GoodWords.{GoodWords, IsBuildCall, IsCall, IsCellCall, IsCheckCall, IsGenCall, IsWorkers}
use Rattle.lj_cli.specs.GoodWords.{IsAuditCall, IsBigCall, IsServeCall, TakesNumbers}
use Rattle.lj_cli.specs.declared.words.BigCall.{BigCall}
use Rattle.lj_cli.specs.declared.words.Call.{Call}
use Rattle.lj_cli.specs.declared.words.Call.TheVariants.{Check, Build, Serve, Gen, Big, Excess, Greedy, Reduce}
use Rattle.lj_cli.specs.declared.words.Call.TheVariants.{Certify, Audit}
use Rattle.lj_cli.specs.declared.words.CheckCall.{CheckCall}
use Rattle.lj_cli.specs.declared.words.ServeCall.{ServeCall}

abbrev given : Arguments → Option Arguments → Arguments
given other None = other
given other (Some g) = g

abbrev command_name : Call → List ℕ
command_name (Check call) = codes "check"
command_name (Build json) = codes "build"
command_name (Serve call) = codes "serve"
command_name (Gen m) = codes "gen"
command_name (Big call) = codes "big"
command_name (Excess cell) = codes "excess"
command_name (Greedy cell) = codes "greedy"
command_name (Reduce cell) = codes "reduce"
command_name Certify = codes "certify"
command_name (Audit workers) = codes "audit"

named : (name : List ℕ) (g : Arguments) (call : Call) → IsCall name g call → name ≡ command_name call
named name g (Check call) h = h.0
named name g (Build json) h = h.0
named name g (Serve call) h = h.0
named name g (Gen m) h = h.0
named name g (Big call) h = h.0
named name g (Excess cell) h = h.0
named name g (Greedy cell) h = h.0
named name g (Reduce cell) h = h.0
named name g Certify h = h.0
named name g (Audit workers) h = h.0

-- no name is two texts
other_name : {a b name : List ℕ} → name ≡ a → name ≡ b → bytes_eq a b ≡ false → ⊥
other_name {a} {b} {name} h j other = both_ways (bytes_eq a b) other ((bytes_eq-Decides a b).1 (sym h ∙ j))

same_workers : (ws : List ℕ) (n m : ℕ) → IsWorkers ws n → IsWorkers ws m → n ≡ m
same_workers [] n m h g = h ∙ sym g
same_workers (l ∷ []) n m h g = h.0 ∙ sym g.0
same_workers (l ∷ (k ∷ ws)) n m h g = absurd h

same_flag : (n : ℕ) (a b : Bool) → n ≡ (if a then 1 else 0) → n ≡ (if b then 1 else 0) → a ≡ b
same_flag n true true h j = refl
same_flag n false false h j = refl
same_flag n true false h j = absurd (omega (arith, h, j))
same_flag n false true h j = absurd (omega (arith, h, j))

one_check : (g h : Arguments) (c d : CheckCall) → g ≡ h → IsCheckCall g c → IsCheckCall h d → c ≡ d
one_check g h c d same call asks =
    let numbers = sym call.0 ∙ ap (λ (x : Arguments). x.numbers) same ∙ asks.0 in
    let v : c.cell.v ≡ d.cell.v = ap (λ ns. get_or ns 0 0) numbers in
    let k : c.cell.k ≡ d.cell.k = ap (λ ns. get_or ns 1 0) numbers in
    let t : c.cell.t ≡ d.cell.t = ap (λ ns. get_or ns 2 0) numbers in
    let says : IsWorkers h.workers c.workers = subst (λ (x : Arguments). IsWorkers x.workers c.workers) same call.3 in
    let workers : c.workers ≡ d.workers = same_workers h.workers c.workers d.workers says asks.3 in
    λ i. record { cell = record { v = v i; k = k i; t = t i }; workers = workers i }

one_cell : (g h : Arguments) (c d : Triple) → g ≡ h → IsCellCall g c → IsCellCall h d → c ≡ d
one_cell g h c d same call asks =
    let numbers = sym call.0 ∙ ap (λ (x : Arguments). x.numbers) same ∙ asks.0 in
    let v : c.v ≡ d.v = ap (λ ns. get_or ns 0 0) numbers in
    let k : c.k ≡ d.k = ap (λ ns. get_or ns 1 0) numbers in
    let t : c.t ≡ d.t = ap (λ ns. get_or ns 2 0) numbers in
    λ i. record { v = v i; k = k i; t = t i }

one_build : (g h : Arguments) (a b : Bool) → g ≡ h → IsBuildCall g a → IsBuildCall h b → a ≡ b
one_build g h a b same call asks = same_flag h.json a b (ap (λ (x : Arguments). x.json) (sym same) ∙ call.2) asks.2

one_serve : (g h : Arguments) (c d : ServeCall) → g ≡ h → IsServeCall g c → IsServeCall h d → c ≡ d
one_serve g h c d same call asks =
    let numbers = sym call.1 ∙ ap (λ (x : Arguments). x.workers) same ∙ asks.1 in
    let workers : c.workers ≡ d.workers = ap (λ ns. get_or ns 0 0) numbers in
    let json : c.json ≡ d.json =
    same_flag h.json c.json d.json (ap (λ (x : Arguments). x.json) (sym same) ∙ call.4) asks.4 in
    λ i. record { workers = workers i; json = json i }

one_big : (g h : Arguments) (c d : BigCall) → g ≡ h → IsBigCall g c → IsBigCall h d → c ≡ d
one_big g h c d same call asks =
    let numbers = sym call.0 ∙ ap (λ (x : Arguments). x.numbers) same ∙ asks.0 in
    let values = sym call.3 ∙ ap (λ (x : Arguments). x.workers) same ∙ asks.3 in
    let m : c.m ≡ d.m = ap (λ ns. get_or ns 0 0) numbers in
    let workers : c.workers ≡ d.workers = ap (λ ns. get_or ns 0 0) values in
    λ i. record { m = m i; workers = workers i }

one_gen : (g h : Arguments) (m n : ℕ) → g ≡ h → IsGenCall g m → IsGenCall h n → m ≡ n
one_gen g h m n same call asks =
    let numbers = sym call.0 ∙ ap (λ (x : Arguments). x.numbers) same ∙ asks.0 in
    ap (λ ns. get_or ns 0 0) numbers

one_audit : (g h : Arguments) (n m : ℕ) → g ≡ h → IsAuditCall g n → IsAuditCall h m → n ≡ m
one_audit g h n m same call asks =
    same_workers h.workers n m (subst (λ (x : Arguments). IsWorkers x.workers n) same call.1) asks.1

one_of : (name : List ℕ) (g h : Arguments) (c d : Call) → g ≡ h → IsCall name g c → IsCall name h d → c ≡ d
one_of name g h (Check c) (Check d) same call asks = ap Check (one_check g h c d same call.1 asks.1)
one_of name g h (Build a) (Build b) same call asks = ap Build (one_build g h a b same call.1 asks.1)
one_of name g h (Serve c) (Serve d) same call asks = ap Serve (one_serve g h c d same call.1 asks.1)
one_of name g h (Gen m) (Gen n) same call asks = ap Gen (one_gen g h m n same call.1 asks.1)
one_of name g h (Big c) (Big d) same call asks = ap Big (one_big g h c d same call.1 asks.1)
one_of name g h (Excess c) (Excess d) same call asks = ap Excess (one_cell g h c d same call.1 asks.1)
one_of name g h (Greedy c) (Greedy d) same call asks = ap Greedy (one_cell g h c d same call.1 asks.1)
one_of name g h (Reduce c) (Reduce d) same call asks = ap Reduce (one_cell g h c d same call.1 asks.1)
one_of name g h Certify Certify same call asks = refl
one_of name g h (Audit n) (Audit m) same call asks = ap Audit (one_audit g h n m same call.1 asks.1)
one_of name g h c d same call asks = absurd (other_name (named name g c call) (named name h d asks) refl)

pub one_call : (words : List (List ℕ)) (c d : Call) → GoodWords words c → GoodWords words d → c ≡ d
one_call [] c d good also = absurd good
one_call (name ∷ words) c d (g, e, call) (h, f, asks) =
    let same : g ≡ h = ap (given g) (sym e ∙ f) in
    one_of name g h c d same call asks

some_workers : (ws : List ℕ) (n : ℕ) → IsWorkers ws n → (1 ≤ n) × (n ≤ MAX_WORKERS)
some_workers [] n h = (omega (arith, h), omega (arith, h))
some_workers (m ∷ []) n h = (omega (arith, h.0, h.1), omega (arith, h.0, h.2))
some_workers (m ∷ (l ∷ ms)) n h = absurd h

numbers_of : (name : List ℕ) (g : Arguments) (call : Call) → IsCall name g call → TakesNumbers call
numbers_of name g (Check call) h =
    let workers = some_workers g.workers call.workers h.1.3 in (h.1.2, workers.0, workers.1)
numbers_of name g (Build json) h = tt
numbers_of name g (Serve call) h = (h.1.2, h.1.3)
numbers_of name g (Gen m) h = (h.1.1, h.1.2)
numbers_of name g (Big call) h = (h.1.1, h.1.2, h.1.4, h.1.5)
numbers_of name g (Excess cell) h = h.1.2
numbers_of name g (Greedy cell) h = h.1.2
numbers_of name g (Reduce cell) h = h.1.2
numbers_of name g Certify h = tt
numbers_of name g (Audit workers) h = some_workers g.workers workers h.1.1

-- the numbers of a good call are those that it takes
pub takes_numbers : (words : List (List ℕ)) (call : Call) → GoodWords words call → TakesNumbers call
takes_numbers [] call good = absurd good
takes_numbers (name ∷ words) call (g, e, h) = numbers_of name g call h

few_workers : (ws : List ℕ) (n : ℕ) → IsWorkers ws n → length ws ≤ 1
few_workers [] n h = omega arith
few_workers (m ∷ []) n h = omega arith
few_workers (m ∷ (l ∷ ms)) n h = absurd h

small_flag : (n : ℕ) (b : Bool) → n ≡ (if b then 1 else 0) → n ≤ 1
small_flag n true h = omega (arith, h)
small_flag n false h = omega (arith, h)

few_for_cell : (g : Arguments) (cell : Triple) → IsCellCall g cell → IsFew g
few_for_cell g cell h = (
  omega (arith, ap (λ (ns : List ℕ). length ns) h.0),
  omega (arith, ap (λ (ns : List ℕ). length ns) h.3),
  omega (arith, h.4),
)

-- no command takes more
few_of : (name : List ℕ) (g : Arguments) (call : Call) → IsCall name g call → IsFew g
few_of name g (Check call) h = (
  omega (arith, ap (λ (ns : List ℕ). length ns) h.1.0),
  few_workers g.workers call.workers h.1.3,
  omega (arith, h.1.4),
)
few_of name g (Build json) h = (
  omega (arith, ap (λ (ns : List ℕ). length ns) h.1.0),
  omega (arith, ap (λ (ns : List ℕ). length ns) h.1.1),
  small_flag g.json json h.1.2,
)
few_of name g (Serve call) h = (
  omega (arith, ap (λ (ns : List ℕ). length ns) h.1.0),
  omega (arith, ap (λ (ns : List ℕ). length ns) h.1.1),
  small_flag g.json call.json h.1.4,
)
few_of name g (Big call) h = (
  omega (arith, ap (λ (ns : List ℕ). length ns) h.1.0),
  omega (arith, ap (λ (ns : List ℕ). length ns) h.1.3),
  omega (arith, h.1.6),
)
few_of name g (Gen m) h = (
  omega (arith, ap (λ (ns : List ℕ). length ns) h.1.0),
  omega (arith, ap (λ (ns : List ℕ). length ns) h.1.3),
  omega (arith, h.1.4),
)
few_of name g (Excess cell) h = few_for_cell g cell h.1
few_of name g (Greedy cell) h = few_for_cell g cell h.1
few_of name g (Reduce cell) h = few_for_cell g cell h.1
few_of name g Certify h = (
  omega (arith, ap (λ (ns : List ℕ). length ns) h.1.0),
  omega (arith, ap (λ (ns : List ℕ). length ns) h.1.1),
  omega (arith, h.1.2),
)
few_of name g (Audit workers) h = (
  omega (arith, ap (λ (ns : List ℕ). length ns) h.1.0),
  few_workers g.workers workers h.1.1,
  omega (arith, h.1.2),
)

-- words that give more than a command takes call for none, whatever else is returned
pub none_few : (name : List ℕ) (words : List (List ℕ)) → IfSome (given_by words) (λ g. IsFew g → ⊥)
    → (returned : Option Call) → IfNone returned ((call : Call) → GoodWords (name ∷ words) call → ⊥)
none_few name words none (Some c) = tt
none_few name words none None = λ call good.
    let why : IfSome (Some good.0) (λ x. IsFew x → ⊥)
    = subst (λ (o : Option Arguments). IfSome o (λ x. IsFew x → ⊥)) good.1 none in
    why (few_of name good.0 call good.2)

-- the name of a command and what the words after it give
pub good_words : (name : List ℕ) (words : List (List ℕ)) (g : Arguments) (call : Option Call)
    → given_by words ≡ Some g → IfSome call (IsCall name g) → IfSome call (GoodWords (name ∷ words))
good_words name words g None given is = tt
good_words name words g (Some call) given is = (g, given, is)

pub bad_words : (name : List ℕ) (words : List (List ℕ)) (g : Arguments) (call : Option Call)
    → given_by words ≡ Some g → IfNone call ((c : Call) → IsCall name g c → ⊥)
    → IfNone call ((c : Call) → GoodWords (name ∷ words) c → ⊥)
bad_words name words g None e none = λ c good.
    none c (subst (λ (x : Arguments). IsCall name x c) (ap (given g) (sym good.1 ∙ e)) good.2)
bad_words name words g (Some c) e none = tt
