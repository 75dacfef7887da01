-- Which words call for which command.
use Rattle.std.specs.Prelude.{◌≡◌, ℕ, ◌≤◌, Bool, if◌then◌else◌, List, [], ◌∷◌, Some, map, codes, String, string_bytes}
use Rattle.std.specs.Global.{Global}
use Rattle.lj_base.specs.Cells.{IsCell, Triple}
use Rattle.lj_gen.specs.declared.limits.TheConstants.{MAX_DIMENSION, MIN_DIMENSION}
use Rattle.lj_verify.specs.declared.limits.TheConstants.{MAX_WORKERS}
use Rattle.lj_cli.specs.Given.{Arguments, given_by}
use Rattle.lj_cli.specs.declared.words.BigCall.{BigCall}
use Rattle.lj_cli.specs.declared.words.Call.{Call}
use Rattle.lj_cli.specs.declared.words.Call.TheVariants.{Check, Build, Serve, Gen, Big, Excess, Greedy, Reduce}
use Rattle.lj_cli.specs.declared.words.Call.TheVariants.{Certify, Audit}
use Rattle.lj_cli.specs.declared.words.CheckCall.{CheckCall}
use Rattle.lj_cli.specs.declared.words.ServeCall.{ServeCall}

abbrev pub texts : List (String Global) → List (List ℕ)
texts words = map (λ word. string_bytes word) words

-- the number of workers: the value of --workers, if it is given once; 1 where it is not given
abbrev pub IsWorkers : List ℕ → ℕ → Type 0
IsWorkers [] n = n ≡ 1
IsWorkers (m ∷ []) n = (n ≡ m) × (1 ≤ m) × (m ≤ MAX_WORKERS)
IsWorkers (m ∷ (l ∷ ms)) n = ⊥

-- check V K T [--workers N]
abbrev pub IsCheckCall : Arguments → CheckCall → Type 0
IsCheckCall g call = let cell = call.cell in
    (g.numbers ≡ cell.v ∷ cell.k ∷ cell.t ∷ []) × IsCell cell × (1 ≤ cell.k)
    × IsWorkers g.workers call.workers × (g.json ≡ 0)

-- V K T, for a command that takes a cell and nothing else
abbrev pub IsCellCall : Arguments → Triple → Type 0
IsCellCall g cell = (g.numbers ≡ cell.v ∷ cell.k ∷ cell.t ∷ []) × IsCell cell × (1 ≤ cell.k)
    × (g.workers ≡ []) × (g.json ≡ 0)

-- build [--json]
abbrev pub IsBuildCall : Arguments → Bool → Type 0
IsBuildCall g json = (g.numbers ≡ []) × (g.workers ≡ []) × (g.json ≡ (if json then 1 else 0))

-- serve --workers N [--json]
abbrev pub IsServeCall : Arguments → ServeCall → Type 0
IsServeCall g call = (g.numbers ≡ []) × (g.workers ≡ call.workers ∷ []) × (1 ≤ call.workers)
    × (call.workers ≤ MAX_WORKERS) × (g.json ≡ (if call.json then 1 else 0))

-- gen M
abbrev pub IsGenCall : Arguments → ℕ → Type 0
IsGenCall g m = (g.numbers ≡ m ∷ []) × (MIN_DIMENSION ≤ m) × (m ≤ MAX_DIMENSION)
    × (g.workers ≡ []) × (g.json ≡ 0)

-- big M --workers N
abbrev pub IsBigCall : Arguments → BigCall → Type 0
IsBigCall g call = (g.numbers ≡ call.m ∷ []) × (MIN_DIMENSION ≤ call.m) × (call.m ≤ MAX_DIMENSION)
    × (g.workers ≡ call.workers ∷ []) × (1 ≤ call.workers) × (call.workers ≤ MAX_WORKERS) × (g.json ≡ 0)

-- certify
abbrev pub IsCertifyCall : Arguments → Type 0
IsCertifyCall g = (g.numbers ≡ []) × (g.workers ≡ []) × (g.json ≡ 0)

-- audit [--workers N]
abbrev pub IsAuditCall : Arguments → ℕ → Type 0
IsAuditCall g workers = (g.numbers ≡ []) × IsWorkers g.workers workers × (g.json ≡ 0)

-- the command's name and what was given after it call for this
abbrev pub IsCall : List ℕ → Arguments → Call → Type 0
IsCall name g (Check call) = (name ≡ codes "check") × IsCheckCall g call
IsCall name g (Build json) = (name ≡ codes "build") × IsBuildCall g json
IsCall name g (Serve call) = (name ≡ codes "serve") × IsServeCall g call
IsCall name g (Gen m) = (name ≡ codes "gen") × IsGenCall g m
IsCall name g (Big call) = (name ≡ codes "big") × IsBigCall g call
IsCall name g (Excess cell) = (name ≡ codes "excess") × IsCellCall g cell
IsCall name g (Greedy cell) = (name ≡ codes "greedy") × IsCellCall g cell
IsCall name g (Reduce cell) = (name ≡ codes "reduce") × IsCellCall g cell
IsCall name g Certify = (name ≡ codes "certify") × IsCertifyCall g
IsCall name g (Audit workers) = (name ≡ codes "audit") × IsAuditCall g workers

-- these words call for this command
abbrev pub GoodWords : List (List ℕ) → Call → Type 0
GoodWords [] call = ⊥
GoodWords (name ∷ words) call = (g : Arguments) × (given_by words ≡ Some g) × IsCall name g call

-- the numbers of a command are those that it takes
abbrev pub TakesNumbers : Call → Type 0
TakesNumbers (Check call) = (1 ≤ call.cell.k) × (1 ≤ call.workers) × (call.workers ≤ MAX_WORKERS)
TakesNumbers (Build json) = Unit {0}
TakesNumbers (Serve call) = (1 ≤ call.workers) × (call.workers ≤ MAX_WORKERS)
TakesNumbers (Gen m) = (MIN_DIMENSION ≤ m) × (m ≤ MAX_DIMENSION)
TakesNumbers (Big call) = (MIN_DIMENSION ≤ call.m) × (call.m ≤ MAX_DIMENSION) × (1 ≤ call.workers)
    × (call.workers ≤ MAX_WORKERS)
TakesNumbers (Excess cell) = 1 ≤ cell.k
TakesNumbers (Greedy cell) = 1 ≤ cell.k
TakesNumbers (Reduce cell) = 1 ≤ cell.k
TakesNumbers Certify = Unit {0}
TakesNumbers (Audit workers) = (1 ≤ workers) × (workers ≤ MAX_WORKERS)
