-- Certificates as contracts see them, and what their types say of them.
use Rattle.std.specs.Prelude.{◌≡◌, ℕ, ◌^◌, ◌<◌, ◌≤◌, List, [], ◌∷◌, length, map}
use Rattle.std.specs.List.{AllByRecursion}
use Rattle.lj_base.specs.Blocks.{AreBlocks}
use Rattle.lj_base.specs.Cells.{Triple}
use Rattle.lj_base.specs.Frames.{InFrame, Top, cells_of}
use Rattle.lj_cover.specs.Rules.{Upload}
use Rattle.lj_cert.specs.declared.certs.CertBound.{CertBound}
use Rattle.lj_cert.specs.declared.certs.CertNode.{CertNode}
use Rattle.lj_cert.specs.declared.limits.TheConstants.{MAX_CERT_UPLOADS}

pub record CertValue : Type 0 where
  pub frame : Top
  pub uploads : List Upload
  pub nodes : List CertNode
  pub bounds : List CertBound

-- the upload's ordinal is from 1 and has at most 18 digits, and its blocks are some of its cell, with points
pub record IsOffer (ordinal : ℕ) (c : Triple) (blocks : List (List ℕ)) : Type 0 where
  pub first : 1 ≤ ordinal
  pub short : ordinal < 10 ^ 18
  pub points : 1 ≤ c.k
  pub are_blocks : AreBlocks c.v c.k blocks

-- the two uploads are of one client and have one ordinal
abbrev pub SharesName : Upload → Upload → Type 0
SharesName u w = (u.client ≡ w.client) × (u.ordinal ≡ w.ordinal)

-- no upload of the list has the name and ordinal of this one
abbrev pub IsFresh : List Upload → Upload → Type 0
IsFresh uploads u = AllByRecursion (λ w. SharesName w u → ⊥) uploads

-- no two of the uploads share a name and ordinal
abbrev pub AreDistinct : List Upload → Type 0
AreDistinct [] = Unit {0}
AreDistinct (u ∷ us) = IsFresh us u × AreDistinct us

-- the uploads are not too many, of cells of the frame, and each has a name and ordinal of its own; and each cell of
-- the frame has a bound, in index order
pub record IsFormed (frame : Top) (uploads : List Upload) (bounds : List CertBound) : Type 0 where
  pub few : length uploads ≤ MAX_CERT_UPLOADS
  pub inside : AllByRecursion (λ (u : Upload). InFrame frame u.cell) uploads
  pub distinct : AreDistinct uploads
  pub cells : map (λ (b : CertBound). b.cell) bounds ≡ cells_of frame
