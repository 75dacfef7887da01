-- What the types of uploads and of a forest say of a certificate that is written from them.
use Rattle.std.proofs.Common.{◌≡◌, ℕ, ◌^◌, ◌<◌, List, decimal, false, map, arith}
use Rattle.std.specs.List.{AllByRecursion, Contains, join_with_byte}
use Rattle.lj_base.proofs.Lists.{AllByRecursion-both, AllByRecursion-contains, AllByRecursion-weaker}
use Rattle.lj_base.specs.Bounds.{at_cell}
use Rattle.lj_base.specs.Cells.{Triple}
use Rattle.lj_base.specs.Frames.{InFrame, Top, cells_of}
use Rattle.lj_cover.specs.Rules.{Upload}
use Rattle.lj_text.specs.Lines.{text_lines, with_feeds}
use Rattle.lj_text.specs.Tokens.{ArePlainWords, IsPlainWord, is_separator, join_by_space, words}
use Rattle.lj_upload.specs.Names.{IsName}
use Rattle.lj_upload.specs.Uploads.{IsAccepted}
use Rattle.lj_deriv.specs.Forests.{ForestValue, steps_in}
use Rattle.lj_deriv.proofs.ReadsBack.{plan-reads_back}
use Rattle.lj_cert.specs.Texts.{IsHeldIn, IsWritable}
use Rattle.lj_cert.proofs.WrittenCerts.{IsKnown, IsLine}
use Rattle.lj_cert.proofs.WrittenGood.{AreHeld, CellLaws, cells_inside, root_there}
use Rattle.lj_cert.proofs.WrittenLines.{IsOffered, IsSmall}

-- what is known of the words of lines that read back
pub record WordLaws : Type 0 where
  pub number : (n : ℕ) → n < 2 ^ 64 → IsPlainWord (decimal n)
  pub joined : (byte : ℕ) (ws : List (List ℕ)) → is_separator byte ≡ false → ArePlainWords ws
      → IsPlainWord (join_with_byte byte ws)
  pub lines : (lines : List (List (List ℕ))) → AllByRecursion ArePlainWords lines
      → (let bytes = with_feeds (map join_by_space lines) in map (words bytes) (text_lines bytes) ≡ lines)

offered : (frame : Top) (us : List Upload) (f : ForestValue) (bounds : List ℕ) → AreHeld frame us f
    → IsWritable frame us f bounds → AllByRecursion (IsOffered frame) us
offered frame us f bounds held writable =
    AllByRecursion-both (IsHeldIn frame) IsAccepted (IsOffered frame) us (λ u h k. (h, k)) writable.held held.accepted

-- what holds of each upload that may be held holds of those that the forest's nodes name
of_named : (P : Upload → Type 0) (frame : Top) (us : List Upload) (f : ForestValue) (bounds : List ℕ)
    → AreHeld frame us f → IsWritable frame us f bounds → ((u : Upload) → IsOffered frame u → P u)
    → AllByRecursion P f.uploads
of_named P frame us f bounds held writable each =
    AllByRecursion-weaker (Contains us) P f.uploads
    (λ u there. each u (AllByRecursion-contains (IsOffered frame) us u (offered frame us f bounds held writable) there))
    writable.named

small-line : (frame : Top) (us : List Upload) (f : ForestValue) (bounds : List ℕ) (c : Triple) → CellLaws frame
    → AreHeld frame us f → IsWritable frame us f bounds → InFrame frame c → IsLine frame bounds f.roots c
small-line frame us f bounds c laws held writable inside =
    let root = at_cell frame f.roots c in
    let there = root_there frame us f bounds c laws held writable inside in
    let cheap = (held.derive root there).small in
    let cost = (writable.rooted c inside).cost_is in
    let few = held.few in
    record {
      cell = inside.cell;
      bound_small = omega (arith, cheap, cost);
      node_small = omega (arith, there, few);
    }

pub known : (frame : Top) (us : List Upload) (f : ForestValue) (bounds : List ℕ) → WordLaws → CellLaws frame
    → AreHeld frame us f → IsWritable frame us f bounds → IsKnown frame us f bounds
known frame us f bounds word laws held writable = record {
  cell = held.cell;
  some = held.some;
  few = writable.few;
  offered = offered frame us f bounds held writable;
  distinct = writable.distinct;
  spelled = record {
    few = held.few;
    valid = held.valid;
    derive = held.derive;
    cited = of_named (λ (u : Upload). IsName u.client × IsSmall u.ordinal) frame us f bounds held writable
        (λ u h. (h.1.client, h.0.short));
  };
  lines = AllByRecursion-weaker (InFrame frame) (IsLine frame bounds f.roots) (cells_of frame)
      (λ c inside. small-line frame us f bounds c laws held writable inside) (cells_inside frame laws);
  node_words = plan-reads_back word.number word.joined word.lines (steps_in f) (omega (arith, held.few)) (record {
    accepted = of_named IsAccepted frame us f bounds held writable (λ u h. h.1);
    ordinals = of_named (λ (u : Upload). u.ordinal < 2 ^ 64) frame us f bounds held writable
        (λ u h. let short = h.0.short in
        omega (arith, short));
  }) held.valid;
}
