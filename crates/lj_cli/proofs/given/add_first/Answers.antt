use Rattle.std.proofs.Common.{drop, length, string_bytes, arith, ◌∙◌, ap, sym, subst}
use Rattle.std.proofs.lemmas.List.{take_rest}
use Rattle.lj_text.specs.Numbers.{number_of}
use Rattle.lj_cli.specs.Given.{given_by, joined}
use Rattle.lj_cli.specs.GoodWords.{texts}
use Rattle.lj_cli.specs.declared.given.Kind.TheVariants.{Json, Positional, Unknown, Workers, WorkersValue}
use Rattle.lj_cli.proofs.Joining.{joined-first, number_added, workers_added, json_added, number_refused}
use Rattle.lj_cli.proofs.Joining.{workers_refused, json_refused, refused, value_refused, valued, first_is, IsRefused}
use Rattle.lj_cli.proofs.given.add_first.Goals as goal

pub returns-in_err-add_workers-in-WorkersValue-clause-none : goal.returns-in_err-add_workers-in-WorkersValue-clause-none
returns-in_err-add_workers-in-WorkersValue-clause-none c =
    refused c.args.given.now c.args.word.now (texts c.args.rest.now) WorkersValue c.in-WorkersValue.ensures.kind
    (workers_refused _ _ _ (rw (take_rest c.args.word.now 10) at
    c.in_err-add_workers-in-WorkersValue.ensures.none)) _

pub returns-in_err-add_json-in-Json-clause-none : goal.returns-in_err-add_json-in-Json-clause-none
returns-in_err-add_json-in-Json-clause-none c =
    refused c.args.given.now c.args.word.now (texts c.args.rest.now) Json c.in-Json.ensures.kind
    (json_refused _ _ c.in_err-add_json-in-Json.ensures.none) _

pub returns-in-Unknown-clause-none : goal.returns-in-Unknown-clause-none
returns-in-Unknown-clause-none c = rw (joined-first c.args.given.now c.args.word.now
    (texts c.args.rest.now) Unknown c.in-Unknown.ensures.kind) tt

pub returns-in_err-add_number-in-Positional-clause-none : goal.returns-in_err-add_number-in-Positional-clause-none
returns-in_err-add_number-in-Positional-clause-none c =
    refused c.args.given.now c.args.word.now (texts c.args.rest.now) Positional c.in-Positional.ensures.kind
    (number_refused _ _ _ c.in_err-add_number-in-Positional.ensures.none) _

pub returns-in_ok-add_workers-in-WorkersValue-clause-some : goal.returns-in_ok-add_workers-in-WorkersValue-clause-some
returns-in_ok-add_workers-in-WorkersValue-clause-some c = (
  omega arith,
  joined-first c.args.given.now c.args.word.now
      (texts c.args.rest.now) WorkersValue c.in-WorkersValue.ensures.kind ∙ workers_added _ _ _ _
      (rw (take_rest c.args.word.now 10) at c.in_ok-add_workers-in-WorkersValue.ensures.some),
)

pub returns-in_ok-add_json-in-Json-clause-some : goal.returns-in_ok-add_json-in-Json-clause-some
returns-in_ok-add_json-in-Json-clause-some c = (
  omega arith,
  joined-first c.args.given.now c.args.word.now (texts c.args.rest.now) Json c.in-Json.ensures.kind
      ∙ json_added _ _ _ c.in_ok-add_json-in-Json.ensures.some,
)

pub returns-in_ok-add_number-in-Positional-clause-some : goal.returns-in_ok-add_number-in-Positional-clause-some
returns-in_ok-add_number-in-Positional-clause-some c = (
  omega arith,
  joined-first c.args.given.now c.args.word.now
      (texts c.args.rest.now) Positional c.in-Positional.ensures.kind
      ∙ number_added _ _ _ _ c.in_ok-add_number-in-Positional.ensures.some,
)

pub returns-in_err-add_workers-in-Workers-clause-none : goal.returns-in_err-add_workers-in-Workers-clause-none
returns-in_err-add_workers-in-Workers-clause-none c =
    let value = c.in_ok-value-in-Workers.value.now in
    let split = first_is c.args.rest.now value c.in_ok-value-in-Workers.ensures.value in
    let why = rw c.as_bytes.ensures.value at c.in_err-add_workers-in-Workers.ensures.none in
    refused c.args.given.now c.args.word.now (texts c.args.rest.now) Workers c.in-Workers.ensures.kind
    (subst (λ xs. IsRefused (joined c.args.given.now (valued (texts xs)))) (sym split)
    (value_refused c.args.given.now (string_bytes value) (texts (drop 1 c.args.rest.now)) why)) _

pub returns-in-Workers-clause-some : goal.returns-in-Workers-clause-some
returns-in-Workers-clause-some c =
    let value = c.in_ok-value-in-Workers.value.now in
    let split = first_is c.args.rest.now value c.in_ok-value-in-Workers.ensures.value in
    let added = rw c.as_bytes.ensures.value at c.in_ok-add_workers-in-Workers.ensures.some in (
      omega (arith, ap length split),
      joined-first c.args.given.now c.args.word.now (texts c.args.rest.now) Workers c.in-Workers.ensures.kind
          ∙ ap (λ xs. joined c.args.given.now (valued (texts xs))) split
          ∙ workers_added c.args.given.now c.add_workers.new.self (number_of (string_bytes value))
          (given_by (texts (drop 1 c.args.rest.now))) added,
    )
