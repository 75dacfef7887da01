use Rattle.std.proofs.Common.{◌<◌, length, subst, sym}
use Rattle.lj_base.specs.Frames.{InFrame}
use Rattle.lj_cert.specs.Values.{CertValue, IsFresh}
use Rattle.lj_cert.specs.declared.limits.TheConstants.{MAX_CERT_UPLOADS}
use Rattle.lj_cert.proofs.Taking.{IsReading-upload}
use Rattle.lj_cert.proofs.reading.Reading.push_upload.Goals as goal

pub invariant_of-self-2 : goal.invariant_of-self-2
invariant_of-self-2 c =
    let inside = c.self.inside in
    let seen = sym c.self.view_is in
    let room : length inside.uploads.items < MAX_CERT_UPLOADS =
    subst (λ (v : CertValue). length v.uploads < MAX_CERT_UPLOADS) seen c.requires.room in
    let within : InFrame inside.frame c.args.upload.cell =
    subst (λ (v : CertValue). InFrame v.frame c.args.upload.cell) seen c.requires.inside in
    let fresh : IsFresh inside.uploads.items c.args.upload =
    subst (λ (v : CertValue). IsFresh v.uploads c.args.upload) seen c.requires.fresh in
    IsReading-upload inside.frame inside.uploads.items _ inside.bounds.items c.args.upload c.self.invariant room within
    fresh c.in_ok-push.ensures.items
