-- The laws of documents and their verdicts; the crate's law functions ask for their proofs.
use Rattle.std.specs.Prelude.{◌≡◌, ◌⊎◌, ◌↔◌, ℕ, ◌+◌, true, false, List, take, None, slice_get}
use Rattle.std.specs.List.{AllByRecursion}
use Rattle.dz_diff.specs.Operations.{Setting, setting_of}
use Rattle.dz_rank.specs.Rankings.{RankingValue}
use Rattle.dz_syntax.specs.Names.{Declared, signature_of}
use Rattle.dz_check.specs.Certified.{IsCertified}
use Rattle.dz_move.specs.Root.{System}
use Rattle.dz_move.specs.Standing.{MayStand}
use Rattle.dz_move.specs.Systems.{system_limit}
use Rattle.dz_tree.specs.Trees.{Tree}
use Rattle.dz_check.specs.Walk.{all_chains, ends_in, ends_of, rejected, verdict_of}
use Rattle.dz_move.specs.declared.Rule.{Rule}
use Rattle.dz_cert.specs.declared.checking.DocumentVerdict.TheVariants as verdicts
use Rattle.dz_cert.specs.Documents.{ChainTexts, IsDocument, chain_texts, document_of}
use Rattle.dz_cert.specs.LineTexts.{IsLineOf}
use Rattle.dz_cert.specs.Verdicts.{document_verdict}

-- n is the number of the first chain in which two lists differ, where the first chain has the number k
pub record IsFirstOther (k n : ℕ) (cs ds : List ChainTexts) : Type 0 where
  pub index : ℕ
  pub number : n ≡ k + index
  pub before : take index cs ≡ take index ds
  pub there : slice_get cs index ≡ slice_get ds index → ⊥

-- the verdict on a document with a tree, and with texts for its chains
pub record VerdictLaws (g : Setting) (names : Declared) (system : System) (tree : Tree) (chains : List ChainTexts) : Type 0 where
  -- it is accepted exactly where the tree is certified, no end of it is open, and the texts are canonical
  pub accepts : (document_verdict g names system tree chains ≡ verdicts.Accepted)
      ↔ (IsCertified g system tree × (all_chains (ends_in (ends_of g system tree)) ≡ true) × (chains ≡ chain_texts g names system tree))
  -- and partial exactly where an end is open, and otherwise the same holds
  pub is_partial : (document_verdict g names system tree chains ≡ verdicts.Partial)
      ↔ (IsCertified g system tree × (all_chains (ends_in (ends_of g system tree)) ≡ false) × (chains ≡ chain_texts g names system tree))
  -- a tree is rejected exactly as it is without texts
  pub rejects_tree : (place : ℕ) (rule : Rule) → (document_verdict g names system tree chains ≡ verdicts.RejectedTree place rule) ↔ (verdict_of g system tree ≡ rejected place rule)
  -- a chain is rejected exactly where the tree is certified, and this is the first chain whose texts are not canonical
  pub rejects_chain : (n : ℕ) → (document_verdict g names system tree chains ≡ verdicts.RejectedChain n)
      ↔ (IsCertified g system tree × IsFirstOther 1 n chains (chain_texts g names system tree))
  -- bytes that spell a document which is accepted or partial are the document of the tree, byte for byte
  pub bytes : (bytes : List ℕ) → IsDocument names tree chains bytes
      → (document_verdict g names system tree chains ≡ verdicts.Accepted) ⊎ (document_verdict g names system tree chains ≡ verdicts.Partial) → bytes ≡ document_of g names system tree

-- a certified tree, in lines of the names, for a system within its limits whose polynomials may stand in a book over the names
pub record IsWritten (names : Declared) (r : RankingValue) (system : System) (tree : Tree) : Type 0 where
  pub signature : signature_of names ≡ r.signature
  pub stands : MayStand r system.equations system.inequations
  pub within : system_limit system ≡ None
  pub certified : IsCertified (setting_of r) system tree
  pub of_names : AllByRecursion (λ line. IsLineOf names line) tree.lines

-- the documents of certified trees
pub record DocumentLaws (names : Declared) : Type 0 where
  -- the document of a tree spells it, with the canonical texts of its chains
  pub spelled : (r : RankingValue) (system : System) (tree : Tree) → IsWritten names r system tree
      → IsDocument names tree (chain_texts (setting_of r) names system tree) (document_of (setting_of r) names system tree)
  -- two trees with one document are equal
  pub one_tree : (r q : RankingValue) (system other : System) (t u : Tree) → IsWritten names r system t → IsWritten names q other u
      → document_of (setting_of r) names system t ≡ document_of (setting_of q) names other u → t ≡ u
