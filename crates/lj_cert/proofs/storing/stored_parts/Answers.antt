use Rattle.std.proofs.Common.{ℕ, ◌+◌, ◌<◌, List, length, take, get_or, arith, ◌∙◌}
use Rattle.std.proofs.Math.ListN.{length-set, set}
use Rattle.std.proofs.lemmas.List.{take_more, take_more_set}
use Rattle.std.proofs.lemmas.Slice.Zip.{all_zipped_more}
use Rattle.std.specs.List.{AllZip}
use Rattle.lj_deriv.specs.declared.rules.Part.{Part as StoredPart}
use Rattle.lj_cert.specs.Storing.{IsStoredPart}
use Rattle.lj_cert.specs.declared.certs.CertPart.{CertPart}
use Rattle.lj_cert.proofs.storing.stored_parts.Goals as goal

part_more : (ps : List CertPart) (qs : List StoredPart) (i : ℕ) (d : CertPart) (q : StoredPart) → i < length ps
    → i < length qs → IsStoredPart (get_or ps i d) q → AllZip IsStoredPart (take i ps) (take i qs)
    → AllZip IsStoredPart (take (i + 1) ps) (take (i + 1) (set qs i q))
part_more ps qs i d q h k part all =
    rw (take_more ps i d h, take_more_set qs i q k)
    (all_zipped_more IsStoredPart (take i ps) (take i qs) (get_or ps i d) q all part)

pub loop-i-preserved : goal.loop-i-preserved
loop-i-preserved c =
    let i = c.loop-i.i in
    let q : StoredPart = c.in_ok-stored.field-0 in
    record {
      places = length-set c.loop-i.stored i q ∙ c.loop-i.invariant.places;
      done = part_more c.args.parts.now c.loop-i.stored i _ q (omega arith) (omega arith) c.in_ok-stored.ensures
          c.loop-i.invariant.done;
    }
