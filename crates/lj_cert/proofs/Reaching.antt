-- How far lines were read, and what they say.
use Rattle.std.proofs.Common.{◌≡◌, ◌⊎◌, ℕ, List, [], ◌∷◌, ◌++◌, map, refl, sym, ap, ◌∙◌, subst, inl, inr}
use Rattle.std.proofs.Common.{append_assoc, append-nil}
use Rattle.lj_base.specs.Frames.{Top}
use Rattle.lj_text.specs.Lines.{line_text, text_lines}
use Rattle.lj_text.specs.declared.lines.Line.{Line}
use Rattle.lj_cert.specs.Certificates.{Leads, Progress, Says, Takes, TakesFrame, begun, texts_of}
use Rattle.lj_cert.specs.Faults.{IsCertFault, IsFaulty, IsFaultyOr, IsFrameFault}
use Rattle.lj_cert.specs.declared.faults.CertFault.{CertFault}
use Rattle.lj_cert.specs.declared.faults.CertFault.TheVariants.{BadLine, TooManyUploads, Unended, Memory}
use Rattle.lj_cert.specs.declared.reading.Stage.TheVariants.{Ended}

-- the lines of the bytes before those that are left say this
pub record IsReached (bytes : List ℕ) (p : Progress) (left : List Line) : Type 0 where
  pub done : List Line
  pub lines_are : text_lines bytes ≡ done ++ left
  pub said : Says (map (line_text bytes) done) p

leads_more : (ts : List (List ℕ)) (t : List ℕ) (p q r : Progress) → Leads p ts q → Takes q t r
    → Leads p (ts ++ t ∷ []) r
leads_more [] t p q r h k = (r, subst (λ m. Takes m t r) (sym h) k, refl)
leads_more (s ∷ ts) t p q r h k = (h.0, h.1, leads_more ts t h.0 q r h.2 k)

says_more : (ts : List (List ℕ)) (t : List ℕ) (q r : Progress) → Says ts q → Takes q t r → Says (ts ++ t ∷ []) r
says_more ts t q r h k = record {
  frame = h.frame;
  first = h.first;
  others = h.others ++ t ∷ [];
  texts_are = ap (λ xs. xs ++ t ∷ []) h.texts_are;
  names_frame = h.names_frame;
  leads = leads_more h.others t (begun h.frame) q r h.leads k;
}

map_more : (f : Line → List ℕ) (xs : List Line) (x : Line) → map f (xs ++ x ∷ []) ≡ map f xs ++ f x ∷ []
map_more f [] x = refl
map_more f (y ∷ xs) x = ap (λ zs. f y ∷ zs) (map_more f xs x)

pub reached-first : (bytes : List ℕ) (frame : Top) (lines others : List Line) → lines ≡ text_lines bytes
    → TakesFrame bytes frame lines others → IsReached bytes (begun frame) others
reached-first bytes frame lines others is h = record {
  done = h.first ∷ [];
  lines_are = sym is ∙ h.lines_are;
  said = record {
    frame = frame;
    first = line_text bytes h.first;
    others = [];
    texts_are = refl;
    names_frame = h.names_frame;
    leads = refl;
  };
}

pub reached-more : (bytes : List ℕ) (p q : Progress) (lines : List Line) (line : Line) (left : List Line)
    → lines ≡ line ∷ left → IsReached bytes p lines → Takes p (line_text bytes line) q → IsReached bytes q left
reached-more bytes p q lines line left is h k = record {
  done = h.done ++ line ∷ [];
  lines_are = h.lines_are ∙ ap (λ ls. h.done ++ ls) is ∙ sym (append_assoc h.done (line ∷ []) left);
  said = rw (map_more (line_text bytes) h.done line)
      (says_more (map (line_text bytes) h.done) (line_text bytes line) p q h.said k);
}

pub reached-all : (bytes : List ℕ) (p : Progress) (left : List Line) → left ≡ [] → IsReached bytes p left
    → Says (texts_of bytes) p
reached-all bytes p left none h =
    let lines : text_lines bytes ≡ h.done = h.lines_are ∙ ap (λ ls. h.done ++ ls) none ∙ append-nil h.done in
    subst (λ ls. Says (map (line_text bytes) ls) p) (sym lines) h.said

-- out of memory, or the fault that the bytes have
abbrev pub IsFound : List ℕ → CertFault → Type 0
IsFound bytes found = (found ≡ Memory) ⊎ IsCertFault bytes found

pub found-first : (bytes : List ℕ) (lines : List Line) (found : CertFault) → lines ≡ text_lines bytes
    → IsFrameFault bytes lines found → IsFound bytes found
found-first bytes lines (BadLine n) is h = inr (inl (subst (λ ls. IsFrameFault bytes ls (BadLine n)) is h))
found-first bytes lines (TooManyUploads n) is h = absurd h
found-first bytes lines Unended is h = inr (inl (sym is ∙ h))
found-first bytes lines Memory is h = absurd h

found_at : (bytes : List ℕ) (p : Progress) (line : Line) (left : List Line) (found : CertFault)
    → IsReached bytes p (line ∷ left) → IsFaulty p (line_text bytes line) line.number found → IsCertFault bytes found
found_at bytes p line left (BadLine n) h k = inr (record {
  before = h.done;
  line = line;
  later = left;
  lines_are = h.lines_are;
  reached = p;
  said = h.said;
  faulty = k;
})
found_at bytes p line left (TooManyUploads n) h k = record {
  before = h.done;
  line = line;
  later = left;
  lines_are = h.lines_are;
  reached = p;
  said = h.said;
  faulty = k;
}
found_at bytes p line left Unended h k = absurd k
found_at bytes p line left Memory h k = absurd k

pub found-later : (bytes : List ℕ) (p : Progress) (lines : List Line) (line : Line) (left : List Line)
    (found : CertFault) (text : List ℕ) → text ≡ line_text bytes line → lines ≡ line ∷ left → IsReached bytes p lines
    → IsFaultyOr p text line.number found → IsFound bytes found
found-later bytes p lines line left found text same is h (inl memory) = inl memory
found-later bytes p lines line left found text same is h (inr k) =
    inr (found_at bytes p line left found (subst (IsReached bytes p) is h)
    (subst (λ t. IsFaulty p t line.number found) same k))

pub found-last : (bytes : List ℕ) (p : Progress) (left : List Line) → left ≡ [] → IsReached bytes p left
    → (p.stage ≡ Ended → ⊥) → IsCertFault bytes Unended
found-last bytes p left none h not = inr (p, reached-all bytes p left none h, not)
