use Rattle.std.proofs.Common.{refl}
use Rattle.lj_cert.proofs.Least.{good_is_least}
use Rattle.lj_cert.proofs.laws.good_certificates_are_least.Goals as goal

pub returns : goal.returns
returns c = λ cert cell formed good. good_is_least c.rest_is_least.ensures cert (record {
  place = λ d inside. (c.cells_law.ensures.places cert.frame _ d cell).1 (inside, refl);
  below = λ d inside. c.index_law.ensures.below cert.frame d inside;
  count = c.cells_law.ensures.count cert.frame;
}) formed good
