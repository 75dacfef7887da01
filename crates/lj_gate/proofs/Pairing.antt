-- Lists whose elements belong together by their places.
use Rattle.std.proofs.Common.{◌≡◌, List, [], ◌∷◌, ◌++◌, length, map, refl, ap, subst, zip, arith}
use Rattle.std.specs.List.{AllByRecursion, AllZip}
use Rattle.lj_board.specs.Seen.{PassView}
use Rattle.lj_session.specs.Sessions.{SessionValue}
use Rattle.lj_gate.specs.declared.clients.Job.{Job}

pub all_zip-push : {A B : Type 0} (R : A → B → Type 0) (xs : List A) (ys : List B) (x : A) (y : B)
    → AllZip R xs ys → R x y → AllZip R (xs ++ x ∷ []) (ys ++ y ∷ [])
all_zip-push R [] [] x y p r = (r, tt)
all_zip-push R [] (z ∷ ys) x y p r = absurd p
all_zip-push R (z ∷ xs) [] x y p r = absurd p
all_zip-push R (z ∷ xs) (w ∷ ys) x y p r = (p.0, all_zip-push R xs ys x y p.1 r)

pub all_zip-weaker : {A B : Type 0} (R S : A → B → Type 0) (xs : List A) (ys : List B)
    → ((x : A) (y : B) → R x y → S x y) → AllZip R xs ys → AllZip S xs ys
all_zip-weaker R S [] [] f p = tt
all_zip-weaker R S [] (y ∷ ys) f p = absurd p
all_zip-weaker R S (x ∷ xs) [] f p = absurd p
all_zip-weaker R S (x ∷ xs) (y ∷ ys) f p = (f x y p.0, all_zip-weaker R S xs ys f p.1)

pub all_zip-through : {A B C : Type 0} (R : A → B → Type 0) (S : B → C → Type 0) (T : A → C → Type 0)
    → ((a : A) (b : B) (c : C) → R a b → S b c → T a c) → (xs : List A) (ys : List B) (zs : List C) → AllZip R xs ys
    → AllZip S ys zs → AllZip T xs zs
all_zip-through R S T f [] [] [] p q = tt
all_zip-through R S T f [] [] (z ∷ zs) p q = absurd q
all_zip-through R S T f [] (y ∷ ys) zs p q = absurd p
all_zip-through R S T f (x ∷ xs) [] zs p q = absurd p
all_zip-through R S T f (x ∷ xs) (y ∷ ys) [] p q = absurd q
all_zip-through R S T f (x ∷ xs) (y ∷ ys) (z ∷ zs) p q = (f x y z p.0 q.0, all_zip-through R S T f xs ys zs p.1 q.1)

pub all_zip-first : {A B : Type 0} (R : A → B → Type 0) (xs zs : List A) (ys : List B) → xs ≡ zs → AllZip R xs ys
    → AllZip R zs ys
all_zip-first R xs zs ys same h = subst (λ us. AllZip R us ys) same h

pub all_first : {A : Type 0} (P : A → Type 0) (xs zs : List A) → xs ≡ zs → AllByRecursion P xs → AllByRecursion P zs
all_first P xs zs same h = subst (λ us. AllByRecursion P us) same h

-- what follows of each second element
pub all_zip-all_second : {A B : Type 0} (R : A → B → Type 0) (P : B → Type 0) (xs : List A) (ys : List B)
    → ((x : A) (y : B) → R x y → P y) → AllZip R xs ys → AllByRecursion P ys
all_zip-all_second R P [] [] f p = tt
all_zip-all_second R P [] (y ∷ ys) f p = absurd p
all_zip-all_second R P (x ∷ xs) [] f p = absurd p
all_zip-all_second R P (x ∷ xs) (y ∷ ys) f p = (f x y p.0, all_zip-all_second R P xs ys f p.1)

-- ---- each session with its pass

abbrev pub job_of : SessionValue × PassView → Job
job_of p = record { session = p.0; pass = p.1 }

pub sessions_zip : (ss : List SessionValue) (ps : List PassView) → length ps ≡ length ss
    → map (λ (j : Job). j.session) (map job_of (zip ss ps)) ≡ ss
sessions_zip [] ps e = refl
sessions_zip (s ∷ ss) [] e = absurd (omega arith)
sessions_zip (s ∷ ss) (p ∷ ps) e = ap (λ (xs : List SessionValue). s ∷ xs) (sessions_zip ss ps (omega arith))

pub passes_zip : (ss : List SessionValue) (ps : List PassView) → length ps ≡ length ss
    → map (λ (j : Job). j.pass) (map job_of (zip ss ps)) ≡ ps
passes_zip [] [] e = refl
passes_zip [] (p ∷ ps) e = absurd (omega arith)
passes_zip (s ∷ ss) [] e = absurd (omega arith)
passes_zip (s ∷ ss) (p ∷ ps) e = ap (λ (xs : List PassView). p ∷ xs) (passes_zip ss ps (omega arith))

pub map_push : {A B : Type 0} (f : A → B) (xs : List A) (x : A) → map f (xs ++ x ∷ []) ≡ map f xs ++ f x ∷ []
map_push f [] x = refl
map_push f (y ∷ ys) x = ap (λ zs. f y ∷ zs) (map_push f ys x)
