use Rattle.std.proofs.Common.{refl}
use Rattle.lj_upload.proofs.Padding.{HoldsName-laid}
use Rattle.lj_upload.proofs.names.Name.of.Goals as goal

pub invariant_of-result : goal.invariant_of-result
invariant_of-result c = rw c.copy_from_slice.ensures.after
    (HoldsName-laid _ _ refl (c.is_name.ensures.0 c.if-not-is_name.false))
