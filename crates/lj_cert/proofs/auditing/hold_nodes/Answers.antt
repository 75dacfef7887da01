use Rattle.std.proofs.Common.{◌∙◌, arith}
use Rattle.lj_cert.proofs.Keeping.{loose_here, unfold_more}
use Rattle.lj_cert.proofs.auditing.hold_nodes.Goals as goal

pub returns-then-not-hold_node-clause-refused : goal.returns-then-not-hold_node-clause-refused
returns-then-not-hold_node-clause-refused c =
    loose_here c.loop-i.arena c.args.arena.now.frame c.args.arena.now.uploads c.args.nodes.now c.loop-i.i
    c.index-nodes-i.result (omega arith) c.index-nodes-i.is c.loop-i.invariant.frame c.loop-i.invariant.uploads
    c.loop-i.invariant.unfolds c.if-not-hold_node.ensures.loose

pub loop-i-preserved : goal.loop-i-preserved
loop-i-preserved c =
    let here = c.if-not-hold_node.ensures.held in
    record {
      frame = here.frame ∙ c.loop-i.invariant.frame;
      uploads = here.uploads ∙ c.loop-i.invariant.uploads;
      room = omega (arith, c.loop-i.invariant.room, here.spare);
      unfolds = unfold_more c.loop-i.arena c.hold_node.new.arena c.args.arena.now.frame c.args.arena.now.uploads
          c.args.nodes.now c.loop-i.i c.index-nodes-i.result (omega arith) c.index-nodes-i.is c.loop-i.invariant.frame
          c.loop-i.invariant.uploads c.loop-i.invariant.unfolds here;
    }
