-- Why bytes spell no certificate: the first line that has not the form of its place, or no end.
use Rattle.std.specs.Prelude.{◌≡◌, ℕ, ◌⊎◌, List, [], ◌∷◌, ◌++◌, length, map}
use Rattle.lj_base.specs.Frames.{Top}
use Rattle.lj_cover.specs.Rules.{Upload}
use Rattle.lj_text.specs.Lines.{line_text, text_lines}
use Rattle.lj_text.specs.declared.lines.Line.{Line}
use Rattle.lj_cert.specs.Certificates.{Offers, Progress, Says, Takes, texts_of}
use Rattle.lj_cert.specs.LineForms.{IsFrameLine}
use Rattle.lj_cert.specs.declared.limits.TheConstants.{MAX_CERT_UPLOADS}
use Rattle.lj_cert.specs.declared.reading.Stage.TheVariants.{Uploads, Ended}
use Rattle.lj_cert.specs.declared.faults.CertFault.{CertFault}
use Rattle.lj_cert.specs.declared.faults.CertFault.TheVariants.{BadLine, TooManyUploads, Unended, Memory}

-- the line would begin one upload more than a certificate may have
pub record IsOneMore (p : Progress) (text : List ℕ) : Type 0 where
  pub before_upload : p.stage ≡ Uploads
  pub full : length p.cert.uploads ≡ MAX_CERT_UPLOADS
  pub upload : Upload
  pub offers : Offers p.cert text upload

-- the first line of a text does not name a frame
abbrev pub LacksFrame : List ℕ → List Line → ℕ → Type 0
LacksFrame bytes [] n = ⊥
LacksFrame bytes (line ∷ lines) n =
    (n ≡ line.number) × ((frame : Top) → IsFrameLine (line_text bytes line) frame → ⊥)

-- what is wrong with a line at its place
abbrev pub IsFaulty : Progress → List ℕ → ℕ → CertFault → Type 0
IsFaulty p text number (BadLine n) =
    (n ≡ number) × ((q : Progress) → Takes p text q → ⊥) × (IsOneMore p text → ⊥)
IsFaulty p text number (TooManyUploads n) = (n ≡ number) × IsOneMore p text
IsFaulty p text number fault = ⊥

-- a line has the fault, and those before it have none
pub record HasFaultyLine (bytes : List ℕ) (fault : CertFault) : Type 0 where
  pub before : List Line
  pub line : Line
  pub later : List Line
  pub lines_are : text_lines bytes ≡ before ++ line ∷ later
  pub reached : Progress
  pub said : Says (map (line_text bytes) before) reached
  pub faulty : IsFaulty reached (line_text bytes line) line.number fault

-- what is wrong with the first of these lines, where it names no frame
abbrev pub IsFrameFault : List ℕ → List Line → CertFault → Type 0
IsFrameFault bytes lines (BadLine n) = LacksFrame bytes lines n
IsFrameFault bytes lines Unended = lines ≡ []
IsFrameFault bytes lines fault = ⊥

-- no line has a fault, and the last `end` is missing
abbrev pub IsUnended : List ℕ → Type 0
IsUnended bytes =
    (text_lines bytes ≡ []) ⊎ ((p : Progress) × Says (texts_of bytes) p × (p.stage ≡ Ended → ⊥))

-- why the bytes spell no certificate; running out of memory is no such reason
abbrev pub IsCertFault : List ℕ → CertFault → Type 0
IsCertFault bytes (BadLine n) = LacksFrame bytes (text_lines bytes) n ⊎ HasFaultyLine bytes (BadLine n)
IsCertFault bytes (TooManyUploads n) = HasFaultyLine bytes (TooManyUploads n)
IsCertFault bytes Unended = IsUnended bytes
IsCertFault bytes Memory = ⊥

-- at the line with this number memory ran out, or the line is bad, for this reason
abbrev pub IsBadOr : ℕ → Type 0 → CertFault → Type 0
IsBadOr line Reason fault = (fault ≡ Memory) ⊎ ((fault ≡ BadLine line) × Reason)

-- memory ran out, or the line has this fault at its place
abbrev pub IsFaultyOr : Progress → List ℕ → ℕ → CertFault → Type 0
IsFaultyOr p text line fault = (fault ≡ Memory) ⊎ IsFaulty p text line fault
