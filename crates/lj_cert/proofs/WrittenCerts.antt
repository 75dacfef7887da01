-- A certificate that is written reads back.
use Rattle.std.proofs.Common.{◌≡◌, ℕ, zero, suc, ◌+◌, ◌<◌, ◌≤◌, List, [], ◌∷◌, ◌++◌, Some}
use Rattle.std.proofs.Common.{codes, length, map, slice_get}
use Rattle.std.proofs.Common.{refl, sym, ap, ap₂, ◌∙◌, subst, arith, inl, inr, append-nil, append_assoc, length-append}
use Rattle.std.proofs.lemmas.List.{length-map}
use Rattle.std.specs.List.{AllByRecursion, flat_map, range_with_len}
use Rattle.lj_base.proofs.Lists.{AllByRecursion-append, AllByRecursion-back, AllByRecursion-map, AllByRecursion-push}
use Rattle.lj_base.proofs.Lists.{map-map, slice_get-append_right}
use Rattle.lj_base.specs.Blocks.{AreBlocks, IsBlock}
use Rattle.lj_base.specs.Bounds.{at_cell}
use Rattle.lj_base.specs.Cells.{IsCell, Triple}
use Rattle.lj_base.specs.Frames.{Top, cells_of}
use Rattle.lj_blockfile.specs.BlockLines.{block_line}
use Rattle.lj_cover.specs.Rules.{Upload}
use Rattle.lj_text.specs.Lines.{IsPlain, line_text, text_lines, with_feeds}
use Rattle.lj_text.specs.Tokens.{IsPlainWord, words, words_of}
use Rattle.lj_deriv.specs.Forests.{ForestValue, steps_in}
use Rattle.lj_deriv.specs.Texts.{lines_after, plan_text, plan_words}
use Rattle.lj_cert.specs.Certificates.{IsCert, Leads, Progress, begun, ended, progress, texts_of, with_bound, with_node}
use Rattle.lj_cert.specs.Certificates.{with_upload}
use Rattle.lj_cert.specs.LineForms.{IsNodeLine}
use Rattle.lj_cert.specs.Texts.{bound_line, bound_lines, cert_bound, cert_node, cert_of, cert_text}
use Rattle.lj_cert.specs.Texts.{frame_line, upload_lines}
use Rattle.lj_cert.specs.Values.{AreDistinct, CertValue, IsFresh, SharesName}
use Rattle.lj_cert.specs.declared.certs.CertBound.{CertBound}
use Rattle.lj_cert.specs.declared.certs.CertNode.{CertNode}
use Rattle.lj_cert.specs.declared.limits.TheConstants.{MAX_CERT_UPLOADS}
use Rattle.lj_cert.specs.declared.reading.Stage.TheVariants.{Uploads, Blocks, Nodes, Bounds}
use Rattle.lj_cert.proofs.PutLines.{with_feeds-append}
use Rattle.lj_cert.proofs.TextLines.{texts-feeds}
use Rattle.lj_cert.proofs.WrittenLines.{IsOffered, IsSmallBound, IsSpelled, TextLaws, bound-plain, bound-said}
use Rattle.lj_cert.proofs.WrittenLines.{frame-plain, frame-said, holding, node-said, upload-plain, upload-said}
use Rattle.lj_cert.proofs.WrittenLines.{word-plain, word-said, words_at}

Leads-append : (p m q : Progress) (xs ys : List (List ℕ)) → Leads p xs m → Leads m ys q → Leads p (xs ++ ys) q
Leads-append p m q [] ys h k = subst (λ x. Leads x ys q) (sym h) k
Leads-append p m q (x ∷ xs) ys h k = (h.0, h.1, Leads-append h.0 m q xs ys h.2 k)

-- ---- uploads

nodes_plain : IsPlainWord (codes "nodes")
nodes_plain = (omega arith, refl)

bounds_plain : IsPlainWord (codes "bounds")
bounds_plain = (omega arith, refl)

end_plain : IsPlainWord (codes "end")
end_plain = (omega arith, refl)

-- within an upload, with these blocks so far
abbrev within : CertValue → Upload → List (List ℕ) → Progress
within cert u bs = progress cert (Blocks (holding u bs))

blocks-lead : TextLaws → (cert : CertValue) (u : Upload) (done bs : List (List ℕ)) → u.cell.v ≤ 99
    → AreBlocks u.cell.v u.cell.k bs
    → Leads (within cert u done) (map block_line bs) (within cert u (done ++ bs))
blocks-lead laws cert u done [] small h = ap (within cert u) (sym (append-nil done))
blocks-lead laws cert u done (b ∷ bs) small h =
    let next = done ++ b ∷ [] in
    let rest = blocks-lead laws cert u next bs small h.1 in (
      within cert u next,
      inl (b, laws.block u.cell.v u.cell.k b small h.0, refl),
      subst (λ ds. Leads (within cert u next) (map block_line bs) (within cert u ds)) (append_assoc done (b ∷ []) bs)
          rest,
    )

upload-leads : TextLaws → (cert : CertValue) (u : Upload) → IsOffered cert.frame u → IsFresh cert.uploads u
    → length cert.uploads < MAX_CERT_UPLOADS
    → Leads (progress cert Uploads) (upload_lines u) (progress (with_upload cert u) Uploads)
upload-leads laws cert u h fresh room =
    let limits = h.0.inside.cell in
    let small : u.cell.v ≤ 99 = limits.1 in
    let done : Progress = progress (with_upload cert u) Uploads in
    let lines = map block_line u.blocks in
    let blocks = blocks-lead laws cert u [] u.blocks small h.1.covering.covers.blocks in (
      within cert u [],
      inl (holding u [], (upload-said laws cert.frame u h, fresh), room, refl),
      Leads-append (within cert u []) (within cert u u.blocks) done lines (codes "end" ∷ []) blocks
          (done, inr (word-said laws (codes "end") end_plain, refl), refl),
    )

fresh_of : (done us : List Upload) (u : Upload) → AreDistinct (done ++ u ∷ us) → IsFresh done u
fresh_of [] us u h = tt
fresh_of (w ∷ done) us u h =
    let later = AllByRecursion-back (λ x. SharesName x w → ⊥) done (u ∷ us) h.0 in
    ((λ same. later.0 (sym same.0, sym same.1)), fresh_of done us u h.1)

-- the certificate with these uploads
abbrev having : CertValue → List Upload → CertValue
having cert us = record cert { uploads = us }

uploads-lead : TextLaws → (cert : CertValue) (us : List Upload) → AllByRecursion (IsOffered cert.frame) us
    → AreDistinct (cert.uploads ++ us) → length cert.uploads + length us ≤ MAX_CERT_UPLOADS
    → Leads (progress cert Uploads) (flat_map upload_lines us) (progress (having cert (cert.uploads ++ us)) Uploads)
uploads-lead laws cert [] h distinct few =
    ap (λ us. progress (having cert us) Uploads) (sym (append-nil cert.uploads))
uploads-lead laws cert (u ∷ us) h distinct few =
    let next = with_upload cert u in
    let seam : next.uploads ++ us ≡ cert.uploads ++ u ∷ us = append_assoc cert.uploads (u ∷ []) us in
    let count : length next.uploads ≡ length cert.uploads + 1 = length-append cert.uploads (u ∷ []) in
    let first = upload-leads laws cert u h.0 (fresh_of cert.uploads us u distinct) (omega (arith, few)) in
    let rest = uploads-lead laws next us h.1 (subst AreDistinct (sym seam) distinct) (omega (arith, few, count)) in
    let all = subst (λ xs. Leads (progress next Uploads) (flat_map upload_lines us) (progress (having cert xs) Uploads))
    seam rest in
    Leads-append (progress cert Uploads) (progress next Uploads) _ (upload_lines u) (flat_map upload_lines us) first all

-- ---- nodes

-- the certificate with these nodes
abbrev noding : CertValue → List CertNode → CertValue
noding cert ns = record cert { nodes = ns }

nodes-lead : TextLaws → (f : ForestValue) (cert : CertValue) (i m : ℕ) (texts : List (List ℕ)) → IsSpelled f
    → length cert.nodes ≡ i → i + m ≤ length f.rules
    → map words_of texts ≡ map (words_at f) (range_with_len i m)
    → Leads (progress cert Nodes) texts
    (progress (noding cert (cert.nodes ++ map (cert_node f) (range_with_len i m))) Nodes)
nodes-lead laws f cert i zero [] h count fits words =
    ap (λ ns. progress (noding cert ns) Nodes) (sym (append-nil cert.nodes))
nodes-lead laws f cert i zero (t ∷ ts) h count fits words = absurd (cc words)
nodes-lead laws f cert i (suc m) [] h count fits words = absurd (cc words)
nodes-lead laws f cert i (suc m) (t ∷ ts) h count fits words =
    let n = cert_node f i in
    let others = map (cert_node f) (range_with_len (i + 1) m) in
    let next = with_node cert n in
    let here : words_of t ≡ words_at f i = cc words in
    let later : map words_of ts ≡ map (words_at f) (range_with_len (i + 1) m) = cc words in
    let number : suc i ≡ length cert.nodes + 1 = omega (arith, count) in
    let line = subst (λ k. IsNodeLine k t n) number (node-said laws f i t h (omega (arith, fits)) here) in
    let longer : length next.nodes ≡ i + 1 = omega (arith, length-append cert.nodes (n ∷ []), count) in
    let rest = nodes-lead laws f next (i + 1) m ts h longer (omega (arith, fits)) later in (
      progress next Nodes,
      inl (n, line, refl),
      subst (λ ns. Leads (progress next Nodes) ts (progress (noding cert ns) Nodes))
          (append_assoc cert.nodes (n ∷ []) others) rest,
    )

-- ---- bounds

-- the certificate with these bounds
abbrev bounding : CertValue → List CertBound → CertValue
bounding cert bs = record cert { bounds = bs }

-- the numbers of a cell's line are such as lines can have
abbrev pub IsLine : Top → List ℕ → List ℕ → Triple → Type 0
IsLine frame bounds roots c = IsSmallBound c (at_cell frame bounds c) (at_cell frame roots c)

bounds-lead : TextLaws → (cert : CertValue) (bounds roots : List ℕ) (done cs : List Triple)
    → cells_of cert.frame ≡ done ++ cs → length cert.bounds ≡ length done
    → AllByRecursion (IsLine cert.frame bounds roots) cs
    → Leads (progress cert Bounds) (map (bound_line cert.frame bounds roots) cs)
    (progress (bounding cert (cert.bounds ++ map (cert_bound cert.frame bounds roots) cs)) Bounds)
bounds-lead laws cert bounds roots done [] cells count h =
    ap (λ bs. progress (bounding cert bs) Bounds) (sym (append-nil cert.bounds))
bounds-lead laws cert bounds roots done (c ∷ cs) cells count h =
    let frame = cert.frame in
    let b = cert_bound frame bounds roots c in
    let others = map (cert_bound frame bounds roots) cs in
    let next = with_bound cert b in
    let line = bound-said laws c (at_cell frame bounds c) (at_cell frame roots c) h.0 in
    let place : length cert.bounds ≡ length done + 0 = omega (arith, count) in
    let there : slice_get (cells_of frame) (length cert.bounds) ≡ Some c =
    ap₂ slice_get cells place ∙ slice_get-append_right done (c ∷ cs) 0 in
    let more : cells_of frame ≡ (done ++ c ∷ []) ++ cs = cells ∙ sym (append_assoc done (c ∷ []) cs) in
    let longer : length next.bounds ≡ length (done ++ c ∷ []) =
    omega (arith, length-append cert.bounds (b ∷ []), length-append done (c ∷ []), count) in
    let rest = bounds-lead laws next bounds roots (done ++ c ∷ []) cs more longer h.1 in (
      progress next Bounds,
      inl (b, (line, there), refl),
      subst (λ bs. Leads (progress next Bounds) (map (bound_line frame bounds roots) cs)
          (progress (bounding cert bs) Bounds)) (append_assoc cert.bounds (b ∷ []) others) rest,
    )

-- ---- the whole

-- the lines before those of the nodes, and those after them
abbrev pub lines_before : Top → List Upload → List (List ℕ)
lines_before frame us = frame_line frame ∷ (flat_map upload_lines us ++ codes "nodes" ∷ [])

abbrev pub lines_past : Top → List ℕ → List ℕ → List (List ℕ)
lines_past frame bounds roots = codes "bounds" ∷ bound_lines frame bounds roots

pub text-parts : (frame : Top) (us : List Upload) (f : ForestValue) (bounds : List ℕ)
    → cert_text frame us f bounds
    ≡ with_feeds (lines_before frame us) ++ (plan_text (steps_in f) ++ with_feeds (lines_past frame bounds f.roots))
text-parts frame us f bounds =
    let nodes = lines_after f.uploads 1 [] f.rules in
    let past = lines_past frame bounds f.roots in
    ap (λ ls. with_feeds (frame_line frame ∷ ls))
    (sym (append_assoc (flat_map upload_lines us) (codes "nodes" ∷ []) (nodes ++ past)))
    ∙ with_feeds-append (lines_before frame us) (nodes ++ past)
    ∙ ap (λ text. with_feeds (lines_before frame us) ++ text) (with_feeds-append nodes past)

blocks-plain : TextLaws → (frame : Top) (u : Upload) → IsOffered frame u
    → AllByRecursion IsPlain (map block_line u.blocks)
blocks-plain laws frame u h =
    let limits = h.0.inside.cell in
    AllByRecursion-map (IsBlock u.cell.v u.cell.k) IsPlain block_line u.blocks
    (λ b is. laws.plain_block u.cell.v u.cell.k b h.0.points limits.1 is) h.1.covering.covers.blocks

uploads-plain : TextLaws → (frame : Top) (us : List Upload) → AllByRecursion (IsOffered frame) us
    → AllByRecursion IsPlain (flat_map upload_lines us)
uploads-plain laws frame [] h = tt
uploads-plain laws frame (u ∷ us) h =
    AllByRecursion-append IsPlain (upload_lines u) (flat_map upload_lines us) (
      upload-plain laws frame u h.0,
      AllByRecursion-push IsPlain (map block_line u.blocks) (codes "end") (blocks-plain laws frame u h.0)
          (word-plain laws (codes "end") end_plain),
    ) (uploads-plain laws frame us h.1)

-- what is known of what is written
pub record IsKnown (frame : Top) (us : List Upload) (f : ForestValue) (bounds : List ℕ) : Type 0 where
  pub cell : IsCell frame.top
  pub some : 1 ≤ frame.top.k
  pub few : length us ≤ MAX_CERT_UPLOADS
  pub offered : AllByRecursion (IsOffered frame) us
  pub distinct : AreDistinct us
  pub spelled : IsSpelled f
  pub lines : AllByRecursion (IsLine frame bounds f.roots) (cells_of frame)
  pub node_words : map (words (plan_text (steps_in f))) (text_lines (plan_text (steps_in f))) ≡ plan_words (steps_in f)

before-plain : TextLaws → (frame : Top) (us : List Upload) (f : ForestValue) (bounds : List ℕ)
    → IsKnown frame us f bounds → AllByRecursion IsPlain (lines_before frame us)
before-plain laws frame us f bounds h = (
  frame-plain laws frame h.cell,
  AllByRecursion-push IsPlain (flat_map upload_lines us) (codes "nodes") (uploads-plain laws frame us h.offered)
      (word-plain laws (codes "nodes") nodes_plain),
)

past-plain : TextLaws → (frame : Top) (us : List Upload) (f : ForestValue) (bounds : List ℕ)
    → IsKnown frame us f bounds → AllByRecursion IsPlain (lines_past frame bounds f.roots)
past-plain laws frame us f bounds h = (
  word-plain laws (codes "bounds") bounds_plain,
  AllByRecursion-push IsPlain (map (bound_line frame bounds f.roots) (cells_of frame)) (codes "end")
      (AllByRecursion-map (IsLine frame bounds f.roots) IsPlain (bound_line frame bounds f.roots) (cells_of frame)
      (λ c is. bound-plain laws c (at_cell frame bounds c) (at_cell frame f.roots c) is) h.lines)
      (word-plain laws (codes "end") end_plain),
)

-- the texts of the lines of the nodes
abbrev node_texts : ForestValue → List (List ℕ)
node_texts f = texts_of (plan_text (steps_in f))

texts-written : TextLaws → (frame : Top) (us : List Upload) (f : ForestValue) (bounds : List ℕ)
    → IsKnown frame us f bounds
    → texts_of (cert_text frame us f bounds)
    ≡ lines_before frame us ++ (node_texts f ++ lines_past frame bounds f.roots)
texts-written laws frame us f bounds h =
    let before = lines_before frame us in
    let past = lines_past frame bounds f.roots in
    let nodes = lines_after f.uploads 1 [] f.rules in
    ap texts_of (text-parts frame us f bounds)
    ∙ texts-feeds before (plan_text (steps_in f) ++ with_feeds past)
    ∙ ap₂ (λ xs ys. xs ++ ys) (laws.plain_lines before (before-plain laws frame us f bounds h))
    (texts-feeds nodes (with_feeds past)
    ∙ ap (λ ys. node_texts f ++ ys) (laws.plain_lines past (past-plain laws frame us f bounds h)))

node_texts-said : (frame : Top) (us : List Upload) (f : ForestValue) (bounds : List ℕ) → IsKnown frame us f bounds
    → map words_of (node_texts f) ≡ map (words_at f) (range_with_len 0 (length f.rules))
node_texts-said frame us f bounds h =
    let text = plan_text (steps_in f) in
    map-map words_of (line_text text) (text_lines text) ∙ h.node_words

-- the lines after the frame's
others-lead : TextLaws → (frame : Top) (us : List Upload) (f : ForestValue) (bounds : List ℕ)
    → IsKnown frame us f bounds
    → Leads (begun frame) ((flat_map upload_lines us ++ codes "nodes" ∷ [])
    ++ (node_texts f ++ lines_past frame bounds f.roots)) (ended (cert_of frame us f bounds))
others-lead laws frame us f bounds h =
    let bare : CertValue = record { frame = frame; uploads = []; nodes = []; bounds = [] } in
    let taken : CertValue = record { frame = frame; uploads = us; nodes = []; bounds = [] } in
    let all : CertValue = cert_of frame us f bounds in
    let noded : CertValue = record { frame = frame; uploads = us; nodes = all.nodes; bounds = [] } in
    let uploads = uploads-lead laws bare us h.offered h.distinct (omega (arith, h.few)) in
    let front = Leads-append (begun frame) (progress taken Uploads) (progress taken Nodes) (flat_map upload_lines us)
    (codes "nodes" ∷ []) uploads
    (progress taken Nodes, inr (word-said laws (codes "nodes") nodes_plain, refl), refl) in
    let nodes = nodes-lead laws f taken 0 (length f.rules) (node_texts f) h.spelled refl (omega arith)
    (node_texts-said frame us f bounds h) in
    let bounds-said = bounds-lead laws noded bounds f.roots [] (cells_of frame) refl refl h.lines in
    let count : length all.bounds ≡ length (cells_of frame) =
    length-map (cells_of frame) (cert_bound frame bounds f.roots) in
    let last : Leads (progress all Bounds) (codes "end" ∷ []) (ended all) =
    (ended all, inr (word-said laws (codes "end") end_plain, count, refl), refl) in
    let back = Leads-append (progress noded Bounds) (progress all Bounds) (ended all)
    (map (bound_line frame bounds f.roots) (cells_of frame)) (codes "end" ∷ []) bounds-said last in
    let past : Leads (progress noded Nodes) (lines_past frame bounds f.roots) (ended all) =
    (progress noded Bounds, inr (word-said laws (codes "bounds") bounds_plain, refl), back) in
    Leads-append (begun frame) (progress taken Nodes) (ended all) (flat_map upload_lines us ++ codes "nodes" ∷ [])
    (node_texts f ++ lines_past frame bounds f.roots) front
    (Leads-append (progress taken Nodes) (progress noded Nodes) (ended all) (node_texts f)
    (lines_past frame bounds f.roots) nodes past)

pub reads-back : TextLaws → (frame : Top) (us : List Upload) (f : ForestValue) (bounds : List ℕ)
    → IsKnown frame us f bounds → IsCert (cert_text frame us f bounds) (cert_of frame us f bounds)
reads-back laws frame us f bounds h = record {
  frame = frame;
  first = frame_line frame;
  others = (flat_map upload_lines us ++ codes "nodes" ∷ []) ++ (node_texts f ++ lines_past frame bounds f.roots);
  texts_are = texts-written laws frame us f bounds h;
  names_frame = frame-said laws frame h.cell h.some;
  leads = others-lead laws frame us f bounds h;
}
