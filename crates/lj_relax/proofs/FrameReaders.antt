-- The readers of a child among all cells of a frame.
use Rattle.std.proofs.Common.{◌≡◌, ◌↔◌, ℕ, ◌+◌, ◌<◌, ◌≤◌, leb, ◌&&◌, Bool, [], ◌∷◌, length, Some, slice_get, arith}
use Rattle.std.proofs.lemmas.Bool.{and_from, and_parts, le-leb}
use Rattle.std.specs.List.{Contains}
use Rattle.lj_base.specs.Cells.{IsCell, Triple}
use Rattle.lj_base.specs.Frames.{InFrame, IsBefore, Top, cells_of, index_of, key, size_of}
use Rattle.lj_relax.specs.Readers.{AreReaders, HasNone, IsFirst, is_reader, readers_from}
use Rattle.lj_relax.proofs.CellOrder.{AreNumbered, ascends_by_index, sorted_by_key}
use Rattle.lj_relax.proofs.Listing.{
  Contains-from_Has,
  Has,
  Has-from_Contains,
  filter_has,
  has_filter,
  kept_first,
  kept_none,
}
use Rattle.lj_relax.proofs.ReaderTests.{reads_true, true_reads}

module _ (members : (f : Top) (c : Triple) → IsCell f.top → (Contains (cells_of f) c ↔ InFrame f c))
    (places : (f : Top) (i : ℕ) (c : Triple) → IsCell f.top
    → ((slice_get (cells_of f) i ≡ Some c) ↔ (InFrame f c × (index_of f c ≡ i))))
    (f : Top) (child : Triple) (limits : IsCell f.top) (inside : InFrame f child) where
  numbered : AreNumbered f 0 (cells_of f)
  numbered i c at = let r = (places f i c limits).0 at in (r.0, omega (arith, r.1))

  is_cell : (e : Triple) → Has (cells_of f) e → InFrame f e
  is_cell e m = (members f e limits).0 (Contains-from_Has (cells_of f) e m)

  has_cell : (e : Triple) → InFrame f e → Has (cells_of f) e
  has_cell e i = Has-from_Contains (cells_of f) e ((members f e limits).1 i)

  pub none_left : (from : ℕ) → HasNone f child from → readers_from f child from ≡ []
  none_left from none =
      kept_none (is_reader f child) from (cells_of f)
      (λ e m t on. none e (is_cell e m) (true_reads f child e inside (is_cell e m) t) on)

  pub first_left : ((f : Top) (c d : Triple) → InFrame f c → InFrame f d
      → (IsBefore c d ↔ (index_of f c < index_of f d)))
      → ((c d : Triple) → IsCell c → IsCell d → (IsBefore c d ↔ (key c < key d)))
      → (from : ℕ) (d : Triple) → IsFirst f child from d
      → readers_from f child from ≡ d ∷ readers_from f child (key d + 1)
  first_left order keys from d h =
      kept_first (is_reader f child) from d (cells_of f) (sorted_by_key order keys f 0 (cells_of f) numbered)
      (has_cell d h.inside)
      (reads_true f child d inside h.inside h.reads) h.from_on
      (λ e m t on. h.first e (is_cell e m) (true_reads f child e inside (is_cell e m) t) on)

  -- from a number on that is no greater than any key
  pub all_left : ((f : Top) → length (cells_of f) ≡ size_of f) → (from : ℕ)
      → ((e : Triple) → InFrame f e → from ≤ key e)
      → AreReaders f child (readers_from f child from)
  all_left count from least = record {
    members = λ e. (
      (λ has.
          let m = has_filter kept (cells_of f) e (Has-from_Contains (readers_from f child from) e has) in
          let i = is_cell e m.0 in
          (i, true_reads f child e inside i (and_parts (leb from (key e)) (is_reader f child e) m.1).1)),
      (λ h. Contains-from_Has (readers_from f child from) e (filter_has kept (cells_of f) e (has_cell e h.0)
          (and_from _ _ (le-leb from (key e) (least e h.0)) (reads_true f child e inside h.0 h.1)))),
    );
    order = ascends_by_index f kept 0 (size_of f) (cells_of f) (omega (arith, count f)) numbered;
  }
    where
      kept : Triple → Bool
      kept e = leb from (key e) && is_reader f child e
