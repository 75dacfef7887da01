-- Certificates as text, line by line: what each line adds to what stands before it. Blank lines are skipped.
use Rattle.std.specs.Prelude.{◌≡◌, ℕ, ◌+◌, ◌<◌, ◌≤◌, ◌⊎◌, List, [], ◌∷◌, ◌++◌, Some, codes, length, map, slice_get}
use Rattle.std.specs.Prelude.{take}
use Rattle.std.specs.List.{AllByRecursion}
use Rattle.lj_base.specs.Frames.{InFrame, Top, cells_of}
use Rattle.lj_blockfile.specs.BlockLines.{IsBlockLine}
use Rattle.lj_cover.specs.Rules.{Upload}
use Rattle.lj_text.specs.Lines.{line_text, text_lines}
use Rattle.lj_text.specs.declared.lines.Line.{Line}
use Rattle.lj_cert.specs.LineForms.{IsBoundLine, IsFrameLine, IsNodeLine, IsUploadLine, IsWord}
use Rattle.lj_cert.specs.Values.{AreDistinct, CertValue, IsFresh}
use Rattle.lj_cert.specs.declared.certs.CertBound.{CertBound}
use Rattle.lj_cert.specs.declared.certs.CertNode.{CertNode}
use Rattle.lj_cert.specs.declared.limits.TheConstants.{MAX_CERT_UPLOADS}
use Rattle.lj_cert.specs.declared.reading.Stage.{Stage}
use Rattle.lj_cert.specs.declared.reading.Stage.TheVariants.{Uploads, Blocks, Nodes, Bounds, Ended}

-- what the lines up to a place say, and what is to come there: an upload or the nodes; blocks of the upload that has
-- begun; a node or the bounds; a bound or the end; nothing
pub record Progress : Type 0 where
  pub cert : CertValue
  pub stage : Stage

abbrev pub progress : CertValue → Stage → Progress
progress cert stage = record { cert = cert; stage = stage }

-- after the frame's line
abbrev pub begun : Top → Progress
begun frame = progress (record { frame = frame; uploads = []; nodes = []; bounds = [] }) Uploads

-- after the last line
abbrev pub ended : CertValue → Progress
ended cert = progress cert Ended

abbrev pub with_block : Upload → List ℕ → Upload
with_block u b = record u { blocks = u.blocks ++ b ∷ [] }

abbrev pub with_upload : CertValue → Upload → CertValue
with_upload cert u = record cert { uploads = cert.uploads ++ u ∷ [] }

abbrev pub with_node : CertValue → CertNode → CertValue
with_node cert n = record cert { nodes = cert.nodes ++ n ∷ [] }

abbrev pub with_bound : CertValue → CertBound → CertValue
with_bound cert b = record cert { bounds = cert.bounds ++ b ∷ [] }

-- the line begins an upload of a cell of the frame, whose name and ordinal no earlier upload has
abbrev pub Offers : CertValue → List ℕ → Upload → Type 0
Offers cert text u = IsUploadLine cert.frame text u × IsFresh cert.uploads u

-- the line is that of the next cell's bound
abbrev pub IsNextBound : CertValue → List ℕ → CertBound → Type 0
IsNextBound cert text b = IsBoundLine text b × (slice_get (cells_of cert.frame) (length cert.bounds) ≡ Some b.cell)

-- at a stage, a line takes what stands before it to what stands after it
abbrev pub TakesAt : Stage → CertValue → List ℕ → Progress → Type 0
TakesAt Uploads cert text q =
    ((u : Upload) × Offers cert text u × (length cert.uploads < MAX_CERT_UPLOADS) × (q ≡ progress cert (Blocks u)))
    ⊎ (IsWord text (codes "nodes") × (q ≡ progress cert Nodes))
TakesAt (Blocks u) cert text q =
    ((b : List ℕ) × IsBlockLine text u.cell.v u.cell.k b × (q ≡ progress cert (Blocks (with_block u b))))
    ⊎ (IsWord text (codes "end") × (q ≡ progress (with_upload cert u) Uploads))
TakesAt Nodes cert text q =
    ((n : CertNode) × IsNodeLine (length cert.nodes + 1) text n × (q ≡ progress (with_node cert n) Nodes))
    ⊎ (IsWord text (codes "bounds") × (q ≡ progress cert Bounds))
TakesAt Bounds cert text q =
    ((b : CertBound) × IsNextBound cert text b × (q ≡ progress (with_bound cert b) Bounds))
    ⊎ (IsWord text (codes "end") × (length cert.bounds ≡ length (cells_of cert.frame)) × (q ≡ progress cert Ended))
TakesAt Ended cert text q = ⊥

abbrev pub Takes : Progress → List ℕ → Progress → Type 0
Takes p text q = TakesAt p.stage p.cert text q

-- and so do lines, one after the other
abbrev pub Leads : Progress → List (List ℕ) → Progress → Type 0
Leads p [] q = p ≡ q
Leads p (text ∷ texts) q = (m : Progress) × Takes p text m × Leads m texts q

-- the lines with these texts, from the first of a certificate on, say this
pub record Says (texts : List (List ℕ)) (p : Progress) : Type 0 where
  pub frame : Top
  pub first : List ℕ
  pub others : List (List ℕ)
  pub texts_are : texts ≡ first ∷ others
  pub names_frame : IsFrameLine first frame
  pub leads : Leads (begun frame) others p

-- the texts of the lines that are not blank
abbrev pub texts_of : List ℕ → List (List ℕ)
texts_of bytes = map (line_text bytes) (text_lines bytes)

-- the bytes spell the certificate
abbrev pub IsCert : List ℕ → CertValue → Type 0
IsCert bytes cert = Says (texts_of bytes) (ended cert)

-- the first line names the frame, and the others follow
pub record TakesFrame (bytes : List ℕ) (frame : Top) (lines others : List Line) : Type 0 where
  pub first : Line
  pub lines_are : lines ≡ first ∷ others
  pub names_frame : IsFrameLine (line_text bytes first) frame

-- what a stage keeps of what stands before it: an upload that has begun is new, of a cell of the frame, and there is
-- room for it; at the end each cell has its bound
abbrev pub IsStage : CertValue → Stage → Type 0
IsStage cert (Blocks u) =
    (length cert.uploads < MAX_CERT_UPLOADS) × InFrame cert.frame u.cell × IsFresh cert.uploads u
IsStage cert Ended = length cert.bounds ≡ length (cells_of cert.frame)
IsStage cert stage = Unit {0}

-- what is kept besides: the limits, no name and ordinal twice, and the bounds' cells in index order
pub record IsReading (frame : Top) (uploads : List Upload) (bounds : List CertBound) : Type 0 where
  pub few : length uploads ≤ MAX_CERT_UPLOADS
  pub inside : AllByRecursion (λ (u : Upload). InFrame frame u.cell) uploads
  pub distinct : AreDistinct uploads
  pub cells : map (λ (b : CertBound). b.cell) bounds ≡ take (length bounds) (cells_of frame)
