use Rattle.std.proofs.Common.{◌≡◌, length, subst, sym}
use Rattle.lj_base.specs.Frames.{cells_of}
use Rattle.lj_cert.specs.Certificates.{IsStage}
use Rattle.lj_cert.specs.Values.{CertValue}
use Rattle.lj_cert.proofs.Taking.{IsFormed-ended}
use Rattle.lj_cert.proofs.reading.Reading.finish.Goals as goal

pub invariant_of-result : goal.invariant_of-result
invariant_of-result c =
    let inside = c.self.inside in
    let stage : length c.args.self.bounds ≡ length (cells_of c.args.self.frame) =
    subst (IsStage c.args.self) c.in-Ended.is c.requires.stage in
    let all : length inside.bounds.items ≡ length (cells_of inside.frame) =
    subst (λ (v : CertValue). length v.bounds ≡ length (cells_of v.frame)) (sym c.self.view_is) stage in
    rw (c.of.ensures, c.of-in-Ended-2.ensures)
    (IsFormed-ended inside.frame inside.uploads.items inside.bounds.items c.self.invariant all)
