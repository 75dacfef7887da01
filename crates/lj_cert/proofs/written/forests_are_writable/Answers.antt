use Rattle.lj_cert.proofs.Writable.{writable}
use Rattle.lj_cert.proofs.written.forests_are_writable.Goals as goal

pub returns : goal.returns
returns c =
    writable c.args.frame c.args.uploads.now c.args.forest.now c.args.bounds.now c.requires.held c.requires.forest
    c.len.ensures.whole c.len.ensures.derive (λ d inside. c.index_law.ensures.below c.args.frame d inside)
