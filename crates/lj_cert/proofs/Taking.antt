-- What a reading keeps while lines are taken.
use Rattle.std.proofs.Common.{◌≡◌, ℕ, zero, suc, ◌+◌, ◌<◌, List, [], ◌∷◌, ◌++◌, Some, length, map, take}
use Rattle.std.proofs.Common.{length-append}
use Rattle.std.proofs.Common.{slice_get, arith, refl, sym, ap, ◌∙◌}
use Rattle.std.proofs.lemmas.List.{take_all}
use Rattle.lj_base.specs.Cells.{Triple}
use Rattle.lj_base.specs.Frames.{InFrame, Top, cells_of}
use Rattle.lj_base.proofs.Lists.{AllByRecursion-push}
use Rattle.lj_cover.specs.Rules.{Upload}
use Rattle.lj_cert.specs.Certificates.{IsReading}
use Rattle.lj_cert.specs.Values.{AreDistinct, IsFormed, IsFresh, SharesName}
use Rattle.lj_cert.specs.declared.certs.CertBound.{CertBound}
use Rattle.lj_cert.specs.declared.limits.TheConstants.{MAX_CERT_UPLOADS}

abbrev pub bound_cell : CertBound → Triple
bound_cell b = b.cell

other_way : (u w : Upload) → (SharesName u w → ⊥) → SharesName w u → ⊥
other_way u w h k = h (sym k.0, sym k.1)

fresh_front : (us : List Upload) (v u : Upload) → IsFresh us v → (SharesName u v → ⊥) → IsFresh (us ++ u ∷ []) v
fresh_front us v u h k = AllByRecursion-push (λ w. SharesName w v → ⊥) us u h k

pub AreDistinct-push : (us : List Upload) (u : Upload) → AreDistinct us → IsFresh us u → AreDistinct (us ++ u ∷ [])
AreDistinct-push [] u h k = (tt, tt)
AreDistinct-push (v ∷ us) u h k =
    (fresh_front us v u h.0 (other_way v u k.0), AreDistinct-push us u h.1 k.1)

take_suc : (xs : List Triple) (n : ℕ) (x : Triple) → slice_get xs n ≡ Some x → take (suc n) xs ≡ take n xs ++ x ∷ []
take_suc [] n x h = cc h
take_suc (y ∷ ys) zero x h = let same : y ≡ x = cc h in ap (λ z. z ∷ []) same
take_suc (y ∷ ys) (suc n) x h = ap (λ zs. y ∷ zs) (take_suc ys n x h)

take_next : (xs : List Triple) (n : ℕ) (x : Triple) → slice_get xs n ≡ Some x → take (n + 1) xs ≡ take n xs ++ x ∷ []
take_next xs n x h =
    let on : n + 1 ≡ suc n = omega arith in
    ap (λ m. take m xs) on ∙ take_suc xs n x h

map_push : (bs : List CertBound) (b : CertBound) → map bound_cell (bs ++ b ∷ []) ≡ map bound_cell bs ++ b.cell ∷ []
map_push [] b = refl
map_push (c ∷ bs) b = ap (λ cs. c.cell ∷ cs) (map_push bs b)

cells_push : (cells : List Triple) (bs : List CertBound) (b : CertBound) → map bound_cell bs ≡ take (length bs) cells
    → slice_get cells (length bs) ≡ Some b.cell → map bound_cell (bs ++ b ∷ []) ≡ take (length (bs ++ b ∷ [])) cells
cells_push cells bs b h next =
    let count : length (bs ++ b ∷ []) ≡ length bs + 1 = length-append bs (b ∷ []) in
    rw count (map_push bs b ∙ ap (λ cs. cs ++ b.cell ∷ []) h ∙ sym (take_next cells (length bs) b.cell next))

pub IsReading-upload : (frame : Top) (us new : List Upload) (bs : List CertBound) (u : Upload)
    → IsReading frame us bs → length us < MAX_CERT_UPLOADS → InFrame frame u.cell → IsFresh us u
    → new ≡ us ++ u ∷ [] → IsReading frame new bs
IsReading-upload frame us new bs u h room inside fresh is = rw is (record {
  few = omega (arith, length-append us (u ∷ []));
  inside = AllByRecursion-push (λ (w : Upload). InFrame frame w.cell) us u h.inside inside;
  distinct = AreDistinct-push us u h.distinct fresh;
  cells = h.cells;
})

pub IsReading-bound : (frame : Top) (us : List Upload) (bs new : List CertBound) (b : CertBound)
    → IsReading frame us bs → slice_get (cells_of frame) (length bs) ≡ Some b.cell → new ≡ bs ++ b ∷ []
    → IsReading frame us new
IsReading-bound frame us bs new b h next is = rw is (record {
  few = h.few;
  inside = h.inside;
  distinct = h.distinct;
  cells = cells_push (cells_of frame) bs b h.cells next;
})

pub IsFormed-ended : (frame : Top) (us : List Upload) (bs : List CertBound) → IsReading frame us bs
    → length bs ≡ length (cells_of frame) → IsFormed frame us bs
IsFormed-ended frame us bs h all = record {
  few = h.few;
  inside = h.inside;
  distinct = h.distinct;
  cells = h.cells ∙ take_all (length bs) (cells_of frame) (omega (arith, all));
}
