use Rattle.std.proofs.Common.{string_bytes}
use Rattle.lj_cli.specs.GoodWords.{texts}
use Rattle.lj_cli.proofs.Calls.{bad_words, good_words, none_few}
use Rattle.lj_cli.proofs.words.read_words.Goals as goal

pub returns-in_err-given-clause-bad : goal.returns-in_err-given-clause-bad
returns-in_err-given-clause-bad c =
    rw c.in_ok-name.ensures.cases.0 (none_few (string_bytes c.in_ok-name.name.now) (texts c.in_ok-name.rest.now)
    c.in_err-given.ensures.none _)

pub returns-clause-good : goal.returns-clause-good
returns-clause-good c =
    rw c.in_ok-name.ensures.cases.0 (good_words (string_bytes c.in_ok-name.name.now) (texts c.in_ok-name.rest.now)
    c.in_ok-given.given c.call_of.result c.in_ok-given.ensures.some
    (rw c.as_str.ensures.value at c.call_of.ensures.good))

pub returns-clause-bad : goal.returns-clause-bad
returns-clause-bad c =
    rw c.in_ok-name.ensures.cases.0 (bad_words (string_bytes c.in_ok-name.name.now) (texts c.in_ok-name.rest.now)
    c.in_ok-given.given c.call_of.result c.in_ok-given.ensures.some
    (rw c.as_str.ensures.value at c.call_of.ensures.bad))
