use Rattle.std.proofs.Common.{◌≡◌, ◌∙◌, length}
use Rattle.std.proofs.lemmas.Result.{err_from_is_err_and}
use Rattle.lj_cert.specs.Values.{CertValue}
use Rattle.lj_cert.proofs.Faulty.{bad_node}
use Rattle.lj_cert.proofs.reading.Reading.take_node.Goals as goal

pub returns-in_err-node-clause-fault : goal.returns-in_err-node-clause-fault
returns-in_err-node-clause-fault c =
    let p = err_from_is_err_and c.from_residual.result c.from_residual.ensures.1 in
    let inside = c.self.inside in
    let count : c.len.result ≡ length inside.nodes.items = c.len.ensures ∙ inside.nodes.ok.0 in
    let cert : CertValue = record {
      frame = inside.frame;
      uploads = inside.uploads.items;
      nodes = inside.nodes.items;
      bounds = inside.bounds.items;
    } in
    rw (p.1, p.2, ← c.self.view_is) (bad_node cert c.args.text.now c.args.line _ c.len.result count
    (λ is. cc (c.if-is_one_word.ensures.1 is)) c.in_err-node.ensures.fault)
