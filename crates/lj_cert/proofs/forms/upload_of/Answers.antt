use Rattle.std.proofs.Common.{◌≡◌, arith, codes, refl}
use Rattle.lj_cert.proofs.forms.upload_of.Goals as goal

pub returns-clause-some : goal.returns-clause-some
returns-clause-some c =
    let place = c.in_ok-ordinal.ensures.first in
    let word : c.in_ok-next.field-0.now ≡ codes "upload" = c.if-not-is_word.ensures.0 refl in
    rw c.new_upload.ensures (record {
      place = place.0;
      numbers = c.next_number.new.words;
      words_are = cc (c.of-words.ensures, c.in_ok-next.ensures.steps, word, c.in_ok-client.ensures.some.0, place.1);
      is_name = c.in_ok-client.ensures.some.1;
      ordinal_is = place.2;
      first = omega arith;
      cell = c.in_ok-cell.ensures.some;
      no_blocks = refl;
    })
