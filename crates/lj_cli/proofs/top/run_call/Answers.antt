use Rattle.std.proofs.Common.{refl, rules}
use Rattle.lj_cli.proofs.top.run_call.Goals as goal

pub check_run-requires : goal.check_run-requires
check_run-requires g c =
    let takes = rw c.in-Check.is at c.requires in
    (search rules, (takes.0, (takes.1, takes.2)))

pub gen_run-requires : goal.gen_run-requires
gen_run-requires g c =
    let takes = rw c.in-Gen.is at c.requires in
    record { low = takes.0; high = takes.1 }

pub returns-in-Check : goal.returns-in-Check
returns-in-Check g c = rw c.in-Check.is c.check_run.ensures

pub returns-in-Build : goal.returns-in-Build
returns-in-Build g c = rw c.in-Build.is c.build_run.ensures

pub returns-in-Gen : goal.returns-in-Gen
returns-in-Gen g c = rw c.in-Gen.is (record { ends = c.gen_run.ensures; nothing = refl; no_fault = refl })

pub serve_run-requires : goal.serve_run-requires
serve_run-requires g c =
    let takes = rw c.in-Serve.is at c.requires in
    (search rules, (search rules, (takes.0, takes.1)))

pub big_run-requires : goal.big_run-requires
big_run-requires g c =
    let takes = rw c.in-Big.is at c.requires in
    (search rules, (search rules, (takes.0, (takes.1, (takes.2, takes.3)))))

pub returns-in-Serve : goal.returns-in-Serve
returns-in-Serve g c =
    rw c.in-Serve.is (record { ends = c.serve_run.ensures.ends; headline = c.serve_run.ensures.headline })

pub returns-in-Big : goal.returns-in-Big
returns-in-Big g c = rw c.in-Big.is (record { ends = c.big_run.ensures; nothing = refl; no_fault = refl })

pub excess_run-requires : goal.excess_run-requires
excess_run-requires g c = (search rules, rw c.in-Excess.is at c.requires)

pub greedy_run-requires : goal.greedy_run-requires
greedy_run-requires g c = rw c.in-Greedy.is at c.requires

pub reduce_run-requires : goal.reduce_run-requires
reduce_run-requires g c = (search rules, rw c.in-Reduce.is at c.requires)

pub returns-in-Excess : goal.returns-in-Excess
returns-in-Excess g c = rw c.in-Excess.is c.excess_run.ensures

pub returns-in-Greedy : goal.returns-in-Greedy
returns-in-Greedy g c =
    rw c.in-Greedy.is (record { ends = c.greedy_run.ensures; nothing = refl; no_fault = refl })

pub returns-in-Reduce : goal.returns-in-Reduce
returns-in-Reduce g c = rw c.in-Reduce.is c.reduce_run.ensures

pub audit_run-requires : goal.audit_run-requires
audit_run-requires g c =
    let takes = rw c.in-Audit.is at c.requires in
    (search rules, (takes.0, takes.1))

pub returns-in-Certify : goal.returns-in-Certify
returns-in-Certify g c = rw c.in-Certify.is c.certify_run.ensures

pub returns-in-Audit : goal.returns-in-Audit
returns-in-Audit g c = rw c.in-Audit.is c.audit_run.ensures
