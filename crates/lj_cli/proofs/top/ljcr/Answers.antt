use Rattle.std.proofs.Common.{◌≡◌, rules}
use Rattle.lj_cli.specs.GoodWords.{texts}
use Rattle.lj_cli.specs.declared.words.Call.TheVariants.{Check, Build, Serve, Gen, Big, Excess, Greedy, Reduce}
use Rattle.lj_cli.specs.declared.words.Call.TheVariants.{Certify, Audit}
use Rattle.lj_cli.proofs.Calls.{one_call, takes_numbers}
use Rattle.lj_cli.proofs.top.ljcr.Goals as goal

pub run_call-requires : goal.run_call-requires
run_call-requires g c =
    (search rules, (search rules, takes_numbers (texts c.args.words.now) c.in-Some.call c.in-Some.ensures.good))

pub returns-in-Some-clause-check : goal.returns-in-Some-clause-check
returns-in-Some-clause-check g c call good =
    let same : c.in-Some.call ≡ Check call = one_call
    (texts c.args.words.now) c.in-Some.call (Check call) c.in-Some.ensures.good good in
    rw same at c.run_call.ensures

pub returns-in-Some-clause-build : goal.returns-in-Some-clause-build
returns-in-Some-clause-build g c json good =
    let same : c.in-Some.call ≡ Build json = one_call
    (texts c.args.words.now) c.in-Some.call (Build json) c.in-Some.ensures.good good in
    rw same at c.run_call.ensures

pub returns-in-Some-clause-serve : goal.returns-in-Some-clause-serve
returns-in-Some-clause-serve g c call good =
    let same : c.in-Some.call ≡ Serve call = one_call
    (texts c.args.words.now) c.in-Some.call (Serve call) c.in-Some.ensures.good good in
    let served = rw same at c.run_call.ensures in served.ends

pub returns-in-Some-clause-headline : goal.returns-in-Some-clause-headline
returns-in-Some-clause-headline g c call good =
    let same : c.in-Some.call ≡ Serve call = one_call
    (texts c.args.words.now) c.in-Some.call (Serve call) c.in-Some.ensures.good good in
    let served = rw same at c.run_call.ensures in served.headline

pub returns-in-Some-clause-big : goal.returns-in-Some-clause-big
returns-in-Some-clause-big g c call good =
    let same : c.in-Some.call ≡ Big call = one_call
    (texts c.args.words.now) c.in-Some.call (Big call) c.in-Some.ensures.good good in
    rw same at c.run_call.ensures

pub returns-in-Some-clause-generated : goal.returns-in-Some-clause-generated
returns-in-Some-clause-generated g c m good =
    let same : c.in-Some.call ≡ Gen m = one_call
    (texts c.args.words.now) c.in-Some.call (Gen m) c.in-Some.ensures.good good in
    rw same at c.run_call.ensures

pub returns-in-Some-clause-excess : goal.returns-in-Some-clause-excess
returns-in-Some-clause-excess g c cell good =
    let same : c.in-Some.call ≡ Excess cell = one_call
    (texts c.args.words.now) c.in-Some.call (Excess cell) c.in-Some.ensures.good good in
    rw same at c.run_call.ensures

pub returns-in-Some-clause-greedy : goal.returns-in-Some-clause-greedy
returns-in-Some-clause-greedy g c cell good =
    let same : c.in-Some.call ≡ Greedy cell = one_call
    (texts c.args.words.now) c.in-Some.call (Greedy cell) c.in-Some.ensures.good good in
    rw same at c.run_call.ensures

pub returns-in-Some-clause-reduced : goal.returns-in-Some-clause-reduced
returns-in-Some-clause-reduced g c cell good =
    let same : c.in-Some.call ≡ Reduce cell = one_call
    (texts c.args.words.now) c.in-Some.call (Reduce cell) c.in-Some.ensures.good good in
    rw same at c.run_call.ensures

pub returns-in-Some-clause-certified : goal.returns-in-Some-clause-certified
returns-in-Some-clause-certified g c good =
    let same : c.in-Some.call ≡ Certify = one_call
    (texts c.args.words.now) c.in-Some.call Certify c.in-Some.ensures.good good in
    rw same at c.run_call.ensures

pub returns-in-Some-clause-audited : goal.returns-in-Some-clause-audited
returns-in-Some-clause-audited g c workers good =
    let same : c.in-Some.call ≡ Audit workers = one_call
    (texts c.args.words.now) c.in-Some.call (Audit workers) c.in-Some.ensures.good good in
    rw same at c.run_call.ensures
