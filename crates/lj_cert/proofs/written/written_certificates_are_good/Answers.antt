use Rattle.std.proofs.Common.{arith, refl}
use Rattle.lj_cert.proofs.WrittenGood.{written-good}
use Rattle.lj_cert.proofs.written.written_certificates_are_good.Goals as goal

pub returns : goal.returns
returns c =
    written-good c.args.frame c.args.uploads.now c.args.forest.now c.args.bounds.now (record {
      cells = record {
        places = record {
          place = λ d inside. (c.cells_law.ensures.places c.args.frame _ d c.top_law.ensures.cell).1 (inside, refl);
          below = λ d inside. c.index_law.ensures.below c.args.frame d inside;
          count = c.cells_law.ensures.count c.args.frame;
        };
        members = λ d there. (c.cells_law.ensures.members c.args.frame d c.top_law.ensures.cell).0 there;
      };
      count = c.trees_law.ensures.count;
      push = c.trees_law.ensures.push;
      leaves = c.bases_have_no_children.ensures.children;
      priced = c.prices_are_derivable.ensures c.args.frame;
    }) (record {
      cell = c.top_law.ensures.cell;
      some = c.top_law.ensures.some;
      accepted = c.accepted_law.ensures;
      few = omega (arith, c.len.ensures.len, c.len.ensures.few);
      valid = c.len.ensures.valid;
      whole = c.len.ensures.whole;
      derive = c.len.ensures.derive;
    }) c.requires.writable (record { within = c.requires.within; least = c.requires.least })
