use Rattle.lj_cert.specs.Values.{CertValue}
use Rattle.lj_cert.proofs.Outcomes.{are_held}
use Rattle.lj_cert.proofs.auditing.hold.Goals as goal

pub returns-clause-held : goal.returns-clause-held
returns-clause-held g c =
    let cert : CertValue = record {
      frame = c.cert.inside.frame;
      uploads = c.cert.inside.uploads;
      nodes = c.cert.inside.nodes;
      bounds = c.cert.inside.bounds;
    } in
    rw (← c.cert.view_is) (are_held cert c.in_ok-arena.arena c.hold_nodes.new.arena c.into_vec.result.items
    c.items.result.now c.items-2.result.now c.in_ok-numbers.numbers.items c.into_vec.ensures c.in_ok-arena.ensures.arena
    c.in_ok-arena.ensures.checked c.items.ensures c.in_ok-hold_nodes.ensures.frame c.in_ok-hold_nodes.ensures.uploads
    c.in_ok-hold_nodes.ensures.unfold c.items-2.ensures c.in_ok-numbers.ensures.met c.in_ok-numbers.ensures.numbers
    c.in_ok-numbers.ensures.some)
