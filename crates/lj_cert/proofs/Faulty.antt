-- Lines that have not the form of their place.
use Rattle.std.proofs.Common.{◌≡◌, ℕ, ◌+◌, List, codes, length, refl, sym, subst, inl, inr}
use Rattle.lj_blockfile.specs.BlockLines.{IsBlockLine}
use Rattle.lj_cover.specs.Rules.{Upload}
use Rattle.lj_cert.specs.Certificates.{Offers, Progress, TakesAt, progress}
use Rattle.lj_cert.specs.Faults.{IsBadOr, IsFaulty, IsFaultyOr}
use Rattle.lj_cert.specs.LineForms.{IsNodeLine, IsWord}
use Rattle.lj_cert.specs.Values.{CertValue}
use Rattle.lj_cert.specs.declared.certs.CertNode.{CertNode}
use Rattle.lj_cert.specs.declared.faults.CertFault.{CertFault}
use Rattle.lj_cert.specs.declared.faults.CertFault.TheVariants.{BadLine}
use Rattle.lj_cert.specs.declared.reading.Stage.TheVariants.{Uploads, Blocks, Nodes}

no_upload_taken : (cert : CertValue) (text : List ℕ) → (IsWord text (codes "nodes") → ⊥)
    → ((u : Upload) → Offers cert text u → ⊥) → (q : Progress) → TakesAt Uploads cert text q → ⊥
no_upload_taken cert text word offer q (inl h) = offer h.0 h.1
no_upload_taken cert text word offer q (inr h) = word h.0

-- where an upload or the nodes may begin
pub bad_upload : (cert : CertValue) (text : List ℕ) (line : ℕ) → (IsWord text (codes "nodes") → ⊥)
    → ((u : Upload) → Offers cert text u → ⊥) → IsFaulty (progress cert Uploads) text line (BadLine line)
bad_upload cert text line word offer =
    (refl, no_upload_taken cert text word offer, λ more. offer more.upload more.offers)

no_block_taken : (cert : CertValue) (u : Upload) (text : List ℕ) → (IsWord text (codes "end") → ⊥)
    → ((b : List ℕ) → IsBlockLine text u.cell.v u.cell.k b → ⊥) → (q : Progress) → TakesAt (Blocks u) cert text q → ⊥
no_block_taken cert u text word block q (inl h) = block h.0 h.1
no_block_taken cert u text word block q (inr h) = word h.0

-- after some blocks of an upload
pub bad_block : (cert : CertValue) (u : Upload) (text : List ℕ) (line : ℕ) → (IsWord text (codes "end") → ⊥)
    → ((b : List ℕ) → IsBlockLine text u.cell.v u.cell.k b → ⊥)
    → IsFaulty (progress cert (Blocks u)) text line (BadLine line)
bad_block cert u text line word block =
    (refl, no_block_taken cert u text word block, λ more. cc more.before_upload)

no_node_taken : (cert : CertValue) (text : List ℕ) → (IsWord text (codes "bounds") → ⊥)
    → ((n : CertNode) → IsNodeLine (length cert.nodes + 1) text n → ⊥) → (q : Progress) → TakesAt Nodes cert text q → ⊥
no_node_taken cert text word node q (inl h) = node h.0 h.1
no_node_taken cert text word node q (inr h) = word h.0

-- where a node or the bounds may begin
pub bad_node : (cert : CertValue) (text : List ℕ) (line : ℕ) (fault : CertFault) (number : ℕ)
    → number ≡ length cert.nodes → (IsWord text (codes "bounds") → ⊥)
    → IsBadOr line ((n : CertNode) → IsNodeLine (number + 1) text n → ⊥) fault
    → IsFaultyOr (progress cert Nodes) text line fault
bad_node cert text line fault number is word (inl memory) = inl memory
bad_node cert text line fault number is word (inr h) =
    let none = subst (λ m. (n : CertNode) → IsNodeLine (m + 1) text n → ⊥) is h.1 in
    inr (subst (IsFaulty (progress cert Nodes) text line) (sym h.0)
    (refl, no_node_taken cert text word none, λ more. cc more.before_upload))
