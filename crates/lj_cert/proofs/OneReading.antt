-- Bytes spell one certificate at most, or else have one fault at most.
use Rattle.std.proofs.Common.{◌≡◌, ◌⊎◌, ℕ, ◌+◌, List, [], ◌∷◌, ◌++◌, None, Some, codes, length, map}
use Rattle.std.proofs.Common.{length-append, arith, refl, sym, ap, ◌∙◌, subst, inl, inr}
use Rattle.std.specs.List.{AllZip}
use Rattle.lj_base.specs.Frames.{Top}
use Rattle.lj_blockfile.specs.BlockLines.{IsBlockLine}
use Rattle.lj_cover.specs.Rules.{Upload}
use Rattle.lj_text.specs.Lines.{line_text, text_lines}
use Rattle.lj_text.specs.Numbers.{number_of}
use Rattle.lj_text.specs.Tokens.{token_text, tokens_of}
use Rattle.lj_text.specs.declared.lines.Line.{Line}
use Rattle.lj_text.specs.declared.tokens.Token.{Token}
use Rattle.lj_cert.proofs.Unique.{same_bound, same_frame, same_node, same_upload}
use Rattle.lj_cert.specs.Certificates.{IsCert, Leads, Progress, Says, Takes, TakesAt, begun, ended, progress, texts_of}
use Rattle.lj_cert.specs.Certificates.{with_block, with_bound, with_node}
use Rattle.lj_cert.specs.Faults.{HasFaultyLine, IsCertFault, IsFaulty, IsOneMore, IsUnended, LacksFrame}
use Rattle.lj_cert.specs.LineForms.{AreNumbers, IsBoundLine, IsFrameLine, IsNodeLine, IsUploadLine, IsWord}
use Rattle.lj_cert.specs.Values.{CertValue}
use Rattle.lj_cert.specs.declared.certs.CertBound.{CertBound}
use Rattle.lj_cert.specs.declared.certs.CertNode.{CertNode}
use Rattle.lj_cert.specs.declared.faults.CertFault.{CertFault}
use Rattle.lj_cert.specs.declared.faults.CertFault.TheVariants.{BadLine, TooManyUploads, Unended, Memory}
use Rattle.lj_cert.specs.declared.reading.Stage.{Stage}
use Rattle.lj_cert.specs.declared.reading.Stage.TheVariants.{Uploads, Blocks, Nodes, Bounds, Ended}

-- that a list of blocks of one line is the same, by the law of block lines
abbrev pub OneBlock : Type 0
OneBlock = (line : List ℕ) (v k : ℕ) (b c : List ℕ) → IsBlockLine line v k b → IsBlockLine line v k c → b ≡ c

-- ---- one word is no other line

no_end_among : (text : List ℕ) (ts : List Token) (ns : List ℕ)
    → AllZip (λ token n. number_of (token_text text token) ≡ Some n) ts ns
    → map (token_text text) ts ≡ codes "end" ∷ [] → ⊥
no_end_among text [] ns h is = cc is
no_end_among text (t ∷ ts) [] h is = h
no_end_among text (t ∷ ts) (n ∷ ns) h is =
    let word : token_text text t ≡ codes "end" = cc is in
    let none : number_of (codes "end") ≡ None = refl in
    cc (h.0, none, ap number_of word)

no_block : (text : List ℕ) (v k : ℕ) (b : List ℕ) → IsBlockLine text v k b → IsWord text (codes "end") → ⊥
no_block text v k b h is = no_end_among text (tokens_of text) h.numbers h.spelled is

pub no_upload : (frame : Top) (text : List ℕ) (u : Upload) → IsUploadLine frame text u → IsWord text (codes "nodes") → ⊥
no_upload frame text u h is = cc (h.words_are, is)

no_node : (number : ℕ) (text : List ℕ) (n : CertNode) → IsNodeLine number text n → IsWord text (codes "bounds") → ⊥
no_node number text n h is = cc (h.head.words_are, is)

no_bound : (text : List ℕ) (b : CertBound) → IsBoundLine text b → IsWord text (codes "end") → ⊥
no_bound text b h is =
    (subst (λ ws. AreNumbers ws (b.cell.v ∷ b.cell.k ∷ b.cell.t ∷ b.bound ∷ b.node ∷ [])) is h.numbers_are).1

-- ---- a line leads to one place

same_step : OneBlock → (stage : Stage) (cert : CertValue) (text : List ℕ) (p q : Progress)
    → TakesAt stage cert text p → TakesAt stage cert text q → p ≡ q
same_step one Uploads cert text p q (inl h) (inl k) =
    h.3 ∙ ap (λ u. progress cert (Blocks u)) (same_upload cert.frame text h.0 k.0 h.1.0 k.1.0) ∙ sym k.3
same_step one Uploads cert text p q (inl h) (inr k) = absurd (no_upload cert.frame text h.0 h.1.0 k.0)
same_step one Uploads cert text p q (inr h) (inl k) = absurd (no_upload cert.frame text k.0 k.1.0 h.0)
same_step one Uploads cert text p q (inr h) (inr k) = h.1 ∙ sym k.1
same_step one (Blocks u) cert text p q (inl h) (inl k) =
    h.2 ∙ ap (λ b. progress cert (Blocks (with_block u b))) (one text u.cell.v u.cell.k h.0 k.0 h.1 k.1) ∙ sym k.2
same_step one (Blocks u) cert text p q (inl h) (inr k) = absurd (no_block text u.cell.v u.cell.k h.0 h.1 k.0)
same_step one (Blocks u) cert text p q (inr h) (inl k) = absurd (no_block text u.cell.v u.cell.k k.0 k.1 h.0)
same_step one (Blocks u) cert text p q (inr h) (inr k) = h.1 ∙ sym k.1
same_step one Nodes cert text p q (inl h) (inl k) =
    h.2 ∙ ap (λ n. progress (with_node cert n) Nodes) (same_node (length cert.nodes + 1) text h.0 k.0 h.1 k.1)
    ∙ sym k.2
same_step one Nodes cert text p q (inl h) (inr k) = absurd (no_node (length cert.nodes + 1) text h.0 h.1 k.0)
same_step one Nodes cert text p q (inr h) (inl k) = absurd (no_node (length cert.nodes + 1) text k.0 k.1 h.0)
same_step one Nodes cert text p q (inr h) (inr k) = h.1 ∙ sym k.1
same_step one Bounds cert text p q (inl h) (inl k) =
    h.2 ∙ ap (λ b. progress (with_bound cert b) Bounds) (same_bound text h.0 k.0 h.1.0 k.1.0) ∙ sym k.2
same_step one Bounds cert text p q (inl h) (inr k) = absurd (no_bound text h.0 h.1.0 k.0)
same_step one Bounds cert text p q (inr h) (inl k) = absurd (no_bound text k.0 k.1.0 h.0)
same_step one Bounds cert text p q (inr h) (inr k) = h.2 ∙ sym k.2
same_step one Ended cert text p q h k = absurd h

same_leads : OneBlock → (texts : List (List ℕ)) (p q r : Progress) → Leads p texts q → Leads p texts r → q ≡ r
same_leads one [] p q r h k = sym h ∙ k
same_leads one (t ∷ ts) p q r h k =
    let same = same_step one p.stage p.cert t h.0 k.0 h.1 k.1 in
    same_leads one ts h.0 q r h.2 (subst (λ m. Leads m ts r) (sym same) k.2)

pub same_saying : OneBlock → (texts : List (List ℕ)) (p q : Progress) → Says texts p → Says texts q → p ≡ q
same_saying one texts p q h k =
    let first : h.first ≡ k.first = cc (h.texts_are, k.texts_are) in
    let others : h.others ≡ k.others = cc (h.texts_are, k.texts_are) in
    let named = subst (λ t. IsFrameLine t k.frame) (sym first) k.names_frame in
    let frame = same_frame h.first h.frame k.frame h.names_frame named in
    let leads = subst (λ ts. Leads (begun k.frame) ts q) (sym others) k.leads in
    same_leads one h.others (begun h.frame) p q h.leads (subst (λ f. Leads (begun f) h.others q) (sym frame) leads)

-- ---- what stands before a line, and the line

leads_cut : (ts : List (List ℕ)) (t : List ℕ) (rest : List (List ℕ)) (p q : Progress) → Leads p (ts ++ t ∷ rest) q
    → (m : Progress) × (n : Progress) × Leads p ts m × Takes m t n
leads_cut [] t rest p q h = (p, h.0, refl, h.1)
leads_cut (s ∷ ts) t rest p q h =
    let ih = leads_cut ts t rest h.0 q h.2 in
    (ih.0, ih.1, (h.0, h.1, ih.2), ih.3)

-- where lines are read and more than them, the next line is taken
says_next : OneBlock → (ts : List (List ℕ)) (t : List ℕ) (rest : List (List ℕ)) (p q : Progress) → Says ts p
    → Says (ts ++ t ∷ rest) q → (n : Progress) × Takes p t n
says_next one ts t rest p q h k =
    let all : h.first ∷ (h.others ++ t ∷ rest) ≡ k.first ∷ k.others =
    sym (ap (λ xs. xs ++ t ∷ rest) h.texts_are) ∙ k.texts_are in
    let first : h.first ≡ k.first = cc all in
    let others : h.others ++ t ∷ rest ≡ k.others = cc all in
    let named = subst (λ x. IsFrameLine x k.frame) (sym first) k.names_frame in
    let frame = same_frame h.first h.frame k.frame h.names_frame named in
    let leads = subst (λ ts. Leads (begun k.frame) ts q) (sym others) k.leads in
    let cut = leads_cut h.others t rest (begun h.frame) q
    (subst (λ f. Leads (begun f) (h.others ++ t ∷ rest) q) (sym frame) leads) in
    let same = same_leads one h.others (begun h.frame) cut.0 p cut.2 h.leads in
    (cut.1, subst (λ m. Takes m t cut.1) same cut.3)

-- ---- faults

-- no line is taken where there is room for no upload more
full_stays : (p : Progress) (text : List ℕ) (q : Progress) → IsOneMore p text → TakesAt Uploads p.cert text q → ⊥
full_stays p text q h (inl k) = omega (arith, h.full, k.2)
full_stays p text q h (inr k) = no_upload p.cert.frame text h.upload h.offers.0 k.0

-- a line with a fault is not taken
pub not_faulty : (p : Progress) (text : List ℕ) (number : ℕ) (fault : CertFault) (q : Progress)
    → IsFaulty p text number fault → Takes p text q → ⊥
not_faulty p text number (BadLine n) q h k = h.1 q k
not_faulty p text number (TooManyUploads n) q h k =
    full_stays p text q h.1 (subst (λ stage. TakesAt stage p.cert text q) h.1.before_upload k)
not_faulty p text number Unended q h k = h
not_faulty p text number Memory q h k = h

same_fault : (p : Progress) (text : List ℕ) (number : ℕ) (f g : CertFault) → IsFaulty p text number f
    → IsFaulty p text number g → f ≡ g
same_fault p text number (BadLine n) (BadLine m) h k = ap BadLine (h.0 ∙ sym k.0)
same_fault p text number (TooManyUploads n) (TooManyUploads m) h k = ap TooManyUploads (h.0 ∙ sym k.0)
same_fault p text number (BadLine n) (TooManyUploads m) h k = absurd (h.2 k.1)
same_fault p text number (TooManyUploads n) (BadLine m) h k = absurd (k.2 h.1)
same_fault p text number Unended g h k = absurd h
same_fault p text number Memory g h k = absurd h
same_fault p text number f Unended h k = absurd k
same_fault p text number f Memory h k = absurd k

map_cut : (f : Line → List ℕ) (xs : List Line) (x : Line) (ys : List Line)
    → map f (xs ++ x ∷ ys) ≡ map f xs ++ f x ∷ map f ys
map_cut f [] x ys = refl
map_cut f (y ∷ xs) x ys = ap (λ zs. f y ∷ zs) (map_cut f xs x ys)

-- of two places of a list, they are one, or the one stands before the other
abbrev CutCases : List Line → List Line → Line → Line → Type 0
CutCases xs ys x y = ((xs ≡ ys) × (x ≡ y)) ⊎ (((zs : List Line) × (ys ≡ xs ++ x ∷ zs))
    ⊎ ((zs : List Line) × (xs ≡ ys ++ y ∷ zs)))

cut_more : (l : Line) (xs ys : List Line) (x y : Line) → CutCases xs ys x y → CutCases (l ∷ xs) (l ∷ ys) x y
cut_more l xs ys x y (inl h) = inl (ap (λ zs. l ∷ zs) h.0, h.1)
cut_more l xs ys x y (inr (inl h)) = inr (inl (h.0, ap (λ zs. l ∷ zs) h.1))
cut_more l xs ys x y (inr (inr h)) = inr (inr (h.0, ap (λ zs. l ∷ zs) h.1))

cut_cases : (xs ys : List Line) (x y : Line) (us vs : List Line) → xs ++ x ∷ us ≡ ys ++ y ∷ vs → CutCases xs ys x y
cut_cases [] [] x y us vs h = let same : x ≡ y = cc h in inl (refl, same)
cut_cases [] (l ∷ ys) x y us vs h =
    let same : x ≡ l = cc h in inr (inl (ys, ap (λ z. z ∷ ys) (sym same)))
cut_cases (l ∷ xs) [] x y us vs h =
    let same : l ≡ y = cc h in inr (inr (xs, ap (λ z. z ∷ xs) same))
cut_cases (l ∷ xs) (m ∷ ys) x y us vs h =
    let same : l ≡ m = cc h in
    let tail : xs ++ x ∷ us ≡ ys ++ y ∷ vs = cc h in
    subst (λ z. CutCases (l ∷ xs) (z ∷ ys) x y) same (cut_more l xs ys x y (cut_cases xs ys x y us vs tail))

-- no line after a faulty one is reached
not_before : OneBlock → (bytes : List ℕ) (f g : CertFault) (h : HasFaultyLine bytes f) (k : HasFaultyLine bytes g)
    → (zs : List Line) → k.before ≡ h.before ++ h.line ∷ zs → ⊥
not_before one bytes f g h k zs is =
    let text = line_text bytes in
    let said : Says (map text h.before ++ text h.line ∷ map text zs) k.reached =
    subst (λ ts. Says ts k.reached) (ap (map text) is ∙ map_cut text h.before h.line zs) k.said in
    let next = says_next one (map text h.before) (text h.line) (map text zs) h.reached k.reached h.said said in
    not_faulty h.reached (text h.line) h.line.number f next.0 h.faulty next.1

one_fault_at : OneBlock → (bytes : List ℕ) (f g : CertFault) (h : HasFaultyLine bytes f) (k : HasFaultyLine bytes g)
    → CutCases h.before k.before h.line k.line → f ≡ g
one_fault_at one bytes f g h k (inl same) =
    let text = line_text bytes in
    let said = subst (λ ls. Says (map text ls) k.reached) (sym same.0) k.said in
    let reached = same_saying one (map text h.before) h.reached k.reached h.said said in
    let faulty = subst (λ l. IsFaulty k.reached (text l) l.number g) (sym same.1) k.faulty in
    same_fault h.reached (text h.line) h.line.number f g h.faulty
    (subst (λ p. IsFaulty p (text h.line) h.line.number g) (sym reached) faulty)
one_fault_at one bytes f g h k (inr (inl earlier)) = absurd (not_before one bytes f g h k earlier.0 earlier.1)
one_fault_at one bytes f g h k (inr (inr later)) = absurd (not_before one bytes g f k h later.0 later.1)

one_faulty_line : OneBlock → (bytes : List ℕ) (f g : CertFault) → HasFaultyLine bytes f → HasFaultyLine bytes g → f ≡ g
one_faulty_line one bytes f g h k =
    one_fault_at one bytes f g h k (cut_cases h.before k.before h.line k.line h.later k.later
    (sym h.lines_are ∙ k.lines_are))

-- a faulty line comes after one that names a frame
frame_named : (bytes : List ℕ) (fault : CertFault) → HasFaultyLine bytes fault → (lines : List Line)
    → text_lines bytes ≡ lines → (n : ℕ) → LacksFrame bytes lines n → ⊥
frame_named bytes fault h [] is n k = k
frame_named bytes fault h (line ∷ lines) is n k =
    let text = line_text bytes in
    let all : text line ∷ map text lines ≡ h.said.first ∷ (h.said.others ++ text h.line ∷ map text h.later) =
    sym (ap (map text) is) ∙ ap (map text) h.lines_are ∙ map_cut text h.before h.line h.later
    ∙ ap (λ ts. ts ++ text h.line ∷ map text h.later) h.said.texts_are in
    let first : text line ≡ h.said.first = cc all in
    k.1 h.said.frame (subst (λ t. IsFrameLine t h.said.frame) (sym first) h.said.names_frame)

-- where all lines are read none has a fault
all_read : OneBlock → (bytes : List ℕ) (p : Progress) (fault : CertFault) → Says (texts_of bytes) p
    → HasFaultyLine bytes fault → ⊥
all_read one bytes p fault said h =
    let text = line_text bytes in
    let cut : texts_of bytes ≡ map text h.before ++ text h.line ∷ map text h.later =
    ap (map text) h.lines_are ∙ map_cut text h.before h.line h.later in
    let next = says_next one (map text h.before) (text h.line) (map text h.later) h.reached p h.said
    (subst (λ ts. Says ts p) cut said) in
    not_faulty h.reached (text h.line) h.line.number fault next.0 h.faulty next.1

-- where all lines are read the first names a frame
all_named : (bytes : List ℕ) (p : Progress) → Says (texts_of bytes) p → (lines : List Line)
    → text_lines bytes ≡ lines → (n : ℕ) → LacksFrame bytes lines n → ⊥
all_named bytes p said [] is n k = k
all_named bytes p said (line ∷ lines) is n k =
    let text = line_text bytes in
    let all : text line ∷ map text lines ≡ said.first ∷ said.others = sym (ap (map text) is) ∙ said.texts_are in
    let first : text line ≡ said.first = cc all in
    k.1 said.frame (subst (λ t. IsFrameLine t said.frame) (sym first) said.names_frame)

some_lines : (bytes : List ℕ) (p : Progress) → Says (texts_of bytes) p → text_lines bytes ≡ [] → ⊥
some_lines bytes p said none =
    let all : [] ≡ said.first ∷ said.others = sym (ap (map (line_text bytes)) none) ∙ said.texts_are in
    cc all

none_faulty : (bytes : List ℕ) (fault : CertFault) → HasFaultyLine bytes fault → text_lines bytes ≡ [] → ⊥
none_faulty bytes fault h none =
    let all : [] ≡ h.before ++ h.line ∷ h.later = sym none ∙ h.lines_are in
    omega (arith, ap length all, length-append h.before (h.line ∷ h.later))

none_lacking : (bytes : List ℕ) (lines : List Line) (n : ℕ) → LacksFrame bytes lines n → lines ≡ [] → ⊥
none_lacking bytes [] n h none = h
none_lacking bytes (line ∷ lines) n h none = cc none

same_lacking : (bytes : List ℕ) (lines : List Line) (n m : ℕ) → LacksFrame bytes lines n → LacksFrame bytes lines m
    → n ≡ m
same_lacking bytes [] n m h k = absurd h
same_lacking bytes (line ∷ lines) n m h k = h.0 ∙ sym k.0

-- ---- the laws

pub one_cert : OneBlock → (bytes : List ℕ) (a b : CertValue) → IsCert bytes a → IsCert bytes b → a ≡ b
one_cert one bytes a b h k =
    ap (λ (p : Progress). p.cert) (same_saying one (texts_of bytes) (ended a) (ended b) h k)

-- where all lines are read there is no fault in a line
read_or_fault : OneBlock → (bytes : List ℕ) (p : Progress) (fault : CertFault) → Says (texts_of bytes) p
    → IsCertFault bytes fault → (fault ≡ Unended) × (p.stage ≡ Ended → ⊥)
read_or_fault one bytes p (BadLine n) said (inl h) = absurd (all_named bytes p said (text_lines bytes) refl n h)
read_or_fault one bytes p (BadLine n) said (inr h) = absurd (all_read one bytes p (BadLine n) said h)
read_or_fault one bytes p (TooManyUploads n) said h = absurd (all_read one bytes p (TooManyUploads n) said h)
read_or_fault one bytes p Unended said (inl h) = absurd (some_lines bytes p said h)
read_or_fault one bytes p Unended said (inr h) =
    let same = same_saying one (texts_of bytes) p h.0 said h.1 in
    (refl, λ is. h.2 (sym (ap (λ (q : Progress). q.stage) same) ∙ is))
read_or_fault one bytes p Memory said h = absurd h

pub cert_or_fault : OneBlock → (bytes : List ℕ) (cert : CertValue) (fault : CertFault) → IsCert bytes cert
    → IsCertFault bytes fault → ⊥
cert_or_fault one bytes cert fault h k = (read_or_fault one bytes (ended cert) fault h k).1 refl

unended_is : OneBlock → (bytes : List ℕ) (g : CertFault) → IsUnended bytes → IsCertFault bytes g → Unended ≡ g
unended_is one bytes (BadLine n) (inl none) (inl k) = absurd (none_lacking bytes (text_lines bytes) n k none)
unended_is one bytes (BadLine n) (inl none) (inr k) = absurd (none_faulty bytes (BadLine n) k none)
unended_is one bytes (TooManyUploads n) (inl none) k = absurd (none_faulty bytes (TooManyUploads n) k none)
unended_is one bytes Unended (inl none) k = refl
unended_is one bytes Memory (inl none) k = absurd k
unended_is one bytes g (inr h) k = sym (read_or_fault one bytes h.0 g h.1 k).0

pub one_fault : OneBlock → (bytes : List ℕ) (f g : CertFault) → IsCertFault bytes f → IsCertFault bytes g → f ≡ g
one_fault one bytes Unended g h k = unended_is one bytes g h k
one_fault one bytes Memory g h k = absurd h
one_fault one bytes f Unended h k = sym (unended_is one bytes f k h)
one_fault one bytes f Memory h k = absurd k
one_fault one bytes (BadLine n) (BadLine m) (inl h) (inl k) =
    ap BadLine (same_lacking bytes (text_lines bytes) n m h k)
one_fault one bytes (BadLine n) (BadLine m) (inl h) (inr k) =
    absurd (frame_named bytes (BadLine m) k (text_lines bytes) refl n h)
one_fault one bytes (BadLine n) (BadLine m) (inr h) (inl k) =
    absurd (frame_named bytes (BadLine n) h (text_lines bytes) refl m k)
one_fault one bytes (BadLine n) (BadLine m) (inr h) (inr k) = one_faulty_line one bytes (BadLine n) (BadLine m) h k
one_fault one bytes (BadLine n) (TooManyUploads m) (inl h) k =
    absurd (frame_named bytes (TooManyUploads m) k (text_lines bytes) refl n h)
one_fault one bytes (BadLine n) (TooManyUploads m) (inr h) k =
    one_faulty_line one bytes (BadLine n) (TooManyUploads m) h k
one_fault one bytes (TooManyUploads n) (BadLine m) h (inl k) =
    absurd (frame_named bytes (TooManyUploads n) h (text_lines bytes) refl m k)
one_fault one bytes (TooManyUploads n) (BadLine m) h (inr k) =
    one_faulty_line one bytes (TooManyUploads n) (BadLine m) h k
one_fault one bytes (TooManyUploads n) (TooManyUploads m) h k =
    one_faulty_line one bytes (TooManyUploads n) (TooManyUploads m) h k
