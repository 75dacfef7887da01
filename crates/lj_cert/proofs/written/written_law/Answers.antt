use Rattle.std.proofs.Common.{arith, refl}
use Rattle.lj_cert.proofs.WrittenCerts.{reads-back}
use Rattle.lj_cert.proofs.WrittenFacts.{known}
use Rattle.lj_cert.proofs.written.written_law.Goals as goal

pub returns : goal.returns
returns c =
    reads-back (record {
      plain_lines = c.lines_law.ensures.plain;
      plain_line = c.words_law.ensures.plain;
      joined_words = c.tokens_law.ensures.words;
      plain_number = c.words_law.ensures.decimal;
      number = c.decimal_law.ensures.value;
      plain_block = c.block_line_law.ensures.plain;
      block = c.block_line_law.ensures.reads_back;
    }) c.args.frame c.args.uploads.now c.args.forest.now c.args.bounds.now
    (known c.args.frame c.args.uploads.now c.args.forest.now c.args.bounds.now (record {
      number = c.words_law.ensures.decimal;
      joined = c.words_law.ensures.joined;
      lines = c.words_law.ensures.reads_back;
    }) (record {
      places = record {
        place = λ d inside. (c.cells_law.ensures.places c.args.frame _ d c.top_law.ensures.cell).1 (inside, refl);
        below = λ d inside. c.index_law.ensures.below c.args.frame d inside;
        count = c.cells_law.ensures.count c.args.frame;
      };
      members = λ d there. (c.cells_law.ensures.members c.args.frame d c.top_law.ensures.cell).0 there;
    }) (record {
      cell = c.top_law.ensures.cell;
      some = c.top_law.ensures.some;
      accepted = c.accepted_law.ensures;
      few = omega (arith, c.len.ensures.len, c.len.ensures.few);
      valid = c.len.ensures.valid;
      whole = c.len.ensures.whole;
      derive = c.len.ensures.derive;
    }) c.requires)
