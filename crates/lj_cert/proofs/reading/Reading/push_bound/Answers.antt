use Rattle.std.proofs.Common.{◌≡◌, Some, length, slice_get, subst, sym}
use Rattle.lj_base.specs.Frames.{cells_of}
use Rattle.lj_cert.specs.Values.{CertValue}
use Rattle.lj_cert.proofs.Taking.{IsReading-bound}
use Rattle.lj_cert.proofs.reading.Reading.push_bound.Goals as goal

pub invariant_of-self-2 : goal.invariant_of-self-2
invariant_of-self-2 c =
    let inside = c.self.inside in
    let next : slice_get (cells_of inside.frame) (length inside.bounds.items) ≡ Some c.args.bound.cell =
    subst (λ (v : CertValue). slice_get (cells_of v.frame) (length v.bounds) ≡ Some c.args.bound.cell)
    (sym c.self.view_is) c.requires.next in
    IsReading-bound inside.frame inside.uploads.items inside.bounds.items _ c.args.bound c.self.invariant next
    c.in_ok-push.ensures.items
