-- The forms of a certificate's lines, by their words.
use Rattle.std.specs.Prelude.{◌≡◌, ℕ, ◌≤◌, List, [], ◌∷◌, ◌++◌, Some, codes, length}
use Rattle.std.specs.List.{AllZip}
use Rattle.lj_base.specs.Cells.{IsCell, Triple}
use Rattle.lj_base.specs.Frames.{InFrame, Top}
use Rattle.lj_cover.specs.Rules.{Upload}
use Rattle.lj_text.specs.Numbers.{number_of}
use Rattle.lj_text.specs.Tokens.{words_of}
use Rattle.lj_upload.specs.Names.{IsName}
use Rattle.lj_cert.specs.declared.certs.CertBound.{CertBound}
use Rattle.lj_cert.specs.declared.certs.CertChild.{CertChild}
use Rattle.lj_cert.specs.declared.certs.CertNode.{CertNode}
use Rattle.lj_cert.specs.declared.certs.CertPart.{CertPart}
use Rattle.lj_cert.specs.declared.certs.CertRule.{CertRule}
use Rattle.lj_cert.specs.declared.certs.CertRule.TheVariants.{One, Runs, All, Leaf, Derived, Derived2, Drop, Add}
use Rattle.lj_cert.specs.declared.certs.CertRule.TheVariants.{Grow, Lower, Product, Induced}
use Rattle.lj_cert.specs.declared.kinds.Kind.{Kind}
use Rattle.lj_cert.specs.declared.kinds.Kind.TheVariants.{One as OneKind, Runs as RunsKind, All as AllKind}
use Rattle.lj_cert.specs.declared.kinds.Kind.TheVariants.{Leaf as LeafKind, Derived as DerivedKind}
use Rattle.lj_cert.specs.declared.kinds.Kind.TheVariants.{Derived2 as Derived2Kind, Drop as DropKind, Add as AddKind}
use Rattle.lj_cert.specs.declared.kinds.Kind.TheVariants.{Grow as GrowKind, Lower as LowerKind}
use Rattle.lj_cert.specs.declared.kinds.Kind.TheVariants.{Product as ProductKind, Induced as InducedKind}

-- the words spell these numbers, in order
abbrev pub AreNumbers : List (List ℕ) → List ℕ → Type 0
AreNumbers ws ns = AllZip (λ w n. number_of w ≡ Some n) ws ns

-- the line is this one word
abbrev pub IsWord : List ℕ → List ℕ → Type 0
IsWord text word = words_of text ≡ word ∷ []

-- the frame's line: `cert` and the numbers of a cell with k of 1 or more
pub record IsFrameLine (text : List ℕ) (frame : Top) : Type 0 where
  pub numbers : List (List ℕ)
  pub words_are : words_of text ≡ codes "cert" ∷ numbers
  pub numbers_are : AreNumbers numbers (frame.top.v ∷ frame.top.k ∷ frame.top.t ∷ [])
  pub in_limits : IsCell frame.top
  pub some : 1 ≤ frame.top.k

-- the words are the numbers of a cell of the frame with k of 1 or more
pub record NamesOffered (frame : Top) (ws : List (List ℕ)) (c : Triple) : Type 0 where
  pub numbers_are : AreNumbers ws (c.v ∷ c.k ∷ c.t ∷ [])
  pub inside : InFrame frame c
  pub some : 1 ≤ c.k

-- the line that begins an upload, which has no blocks yet: `upload`, a name, an ordinal from 1, and the numbers of a
-- cell of the frame with k of 1 or more
pub record IsUploadLine (frame : Top) (text : List ℕ) (u : Upload) : Type 0 where
  pub place : List ℕ
  pub numbers : List (List ℕ)
  pub words_are : words_of text ≡ codes "upload" ∷ u.client ∷ place ∷ numbers
  pub is_name : IsName u.client
  pub ordinal_is : number_of place ≡ Some u.ordinal
  pub first : 1 ≤ u.ordinal
  pub cell : NamesOffered frame numbers u.cell
  pub no_blocks : u.blocks ≡ []

-- the field is a number, a colon (58), and the rest
pub record BeginsWith (field : List ℕ) (n : ℕ) (rest : List ℕ) : Type 0 where
  pub piece : List ℕ
  pub field_is : field ≡ piece ++ 58 ∷ rest
  pub number_is : number_of piece ≡ Some n

-- the field spells these numbers, of which there are some, with a colon between each two
abbrev pub IsJoined : List ℕ → List ℕ → Type 0
IsJoined field [] = ⊥
IsJoined field (n ∷ []) = number_of field ≡ Some n
IsJoined field (n ∷ (m ∷ ns)) = (rest : List ℕ) × BeginsWith field n rest × IsJoined rest (m ∷ ns)

abbrev pub IsPartField : List ℕ → CertPart → Type 0
IsPartField field p = IsJoined field (p.a ∷ p.b ∷ p.l ∷ p.first ∷ p.second ∷ [])

abbrev pub IsChildField : List ℕ → CertChild → Type 0
IsChildField field c = IsJoined field (c.l ∷ c.child ∷ [])

-- the fields begin with a name, and the numbers after it are these
abbrev pub NamesUpload : List (List ℕ) → List ℕ → List ℕ → Type 0
NamesUpload fields client ns =
    (numbers : List (List ℕ)) × (fields ≡ client ∷ numbers) × IsName client × AreNumbers numbers ns

-- the fields begin with a number, and parts follow
pub record AreProductFields (fields : List (List ℕ)) (v1 : ℕ) (parts : List CertPart) : Type 0 where
  pub side : List ℕ
  pub others : List (List ℕ)
  pub fields_are : fields ≡ side ∷ others
  pub side_is : number_of side ≡ Some v1
  pub parts_are : AllZip IsPartField others parts
  pub some : 1 ≤ length parts

-- the fields begin with a name and an ordinal, and children follow
pub record AreInducedFields (fields : List (List ℕ)) (client : List ℕ) (ordinal : ℕ)
    (children : List CertChild) : Type 0 where
  pub place : List ℕ
  pub others : List (List ℕ)
  pub fields_are : fields ≡ client ∷ place ∷ others
  pub is_name : IsName client
  pub place_is : number_of place ≡ Some ordinal
  pub children_are : AllZip IsChildField others children

-- the word for a rule of this kind
abbrev pub kind_word : Kind → List ℕ
kind_word OneKind = codes "one"
kind_word RunsKind = codes "runs"
kind_word AllKind = codes "all"
kind_word LeafKind = codes "leaf"
kind_word DerivedKind = codes "derived"
kind_word Derived2Kind = codes "derived2"
kind_word DropKind = codes "drop"
kind_word AddKind = codes "add"
kind_word GrowKind = codes "grow"
kind_word LowerKind = codes "lower"
kind_word ProductKind = codes "product"
kind_word InducedKind = codes "induced"

-- a rule of this kind has a list of fields
abbrev pub HasList : Kind → Type 0
HasList ProductKind = Unit {0}
HasList InducedKind = Unit {0}
HasList kind = ⊥

-- a rule of this kind names no upload and no node
abbrev pub IsBare : Kind → Type 0
IsBare OneKind = Unit {0}
IsBare RunsKind = Unit {0}
IsBare AllKind = Unit {0}
IsBare kind = ⊥

-- a rule of this kind names no node, or an upload besides
abbrev pub NamesNoNode : Kind → Type 0
NamesNoNode DropKind = ⊥
NamesNoNode AddKind = ⊥
NamesNoNode GrowKind = ⊥
NamesNoNode LowerKind = ⊥
NamesNoNode ProductKind = ⊥
NamesNoNode kind = Unit {0}

abbrev pub rule_kind : CertRule → Kind
rule_kind One = OneKind
rule_kind Runs = RunsKind
rule_kind All = AllKind
rule_kind (Leaf client o) = LeafKind
rule_kind (Derived client o x) = DerivedKind
rule_kind (Derived2 client o x y) = Derived2Kind
rule_kind (Drop i) = DropKind
rule_kind (Add i) = AddKind
rule_kind (Grow i) = GrowKind
rule_kind (Lower i) = LowerKind
rule_kind (Product v1 parts) = ProductKind
rule_kind (Induced client o children) = InducedKind

-- what follows the cost: uploads by name and ordinal, points and nodes by their numbers from 1
abbrev pub AreFields : List (List ℕ) → CertRule → Type 0
AreFields fields One = fields ≡ []
AreFields fields Runs = fields ≡ []
AreFields fields All = fields ≡ []
AreFields fields (Leaf client o) = NamesUpload fields client (o ∷ [])
AreFields fields (Derived client o x) = NamesUpload fields client (o ∷ x ∷ [])
AreFields fields (Derived2 client o x y) = NamesUpload fields client (o ∷ x ∷ y ∷ [])
AreFields fields (Drop i) = AreNumbers fields (i ∷ [])
AreFields fields (Add i) = AreNumbers fields (i ∷ [])
AreFields fields (Grow i) = AreNumbers fields (i ∷ [])
AreFields fields (Lower i) = AreNumbers fields (i ∷ [])
AreFields fields (Product v1 parts) = AreProductFields fields v1 parts
AreFields fields (Induced client o children) = AreInducedFields fields client o children

-- a rule's word, and what follows the cost
abbrev pub IsRule : List ℕ → List (List ℕ) → CertRule → Type 0
IsRule word fields r = (word ≡ kind_word (rule_kind r)) × AreFields fields r

-- what stands before the fields of a node's line: the node's number, the rule's word, the numbers of a cell, and the
-- cost
pub record IsHead (number : ℕ) (ws : List (List ℕ)) (word : List ℕ) (c : Triple) (cost : ℕ)
    (fields : List (List ℕ)) : Type 0 where
  pub first : List ℕ
  pub v : List ℕ
  pub k : List ℕ
  pub t : List ℕ
  pub last : List ℕ
  pub words_are : ws ≡ first ∷ word ∷ v ∷ k ∷ t ∷ last ∷ fields
  pub number_is : number_of first ≡ Some number
  pub v_is : number_of v ≡ Some c.v
  pub k_is : number_of k ≡ Some c.k
  pub t_is : number_of t ≡ Some c.t
  pub cost_is : number_of last ≡ Some cost
  pub in_limits : IsCell c

-- the line of the node with this number: the number, the rule's word, the numbers of a cell, the cost, and what the
-- rule names
pub record IsNodeLine (number : ℕ) (text : List ℕ) (n : CertNode) : Type 0 where
  pub word : List ℕ
  pub fields : List (List ℕ)
  pub head : IsHead number (words_of text) word n.cell n.cost fields
  pub rule_is : IsRule word fields n.rule

-- the line of a cell's bound: the numbers of the cell, the bound, and its node
pub record IsBoundLine (text : List ℕ) (b : CertBound) : Type 0 where
  pub numbers_are : AreNumbers (words_of text) (b.cell.v ∷ b.cell.k ∷ b.cell.t ∷ b.bound ∷ b.node ∷ [])
  pub in_limits : IsCell b.cell
