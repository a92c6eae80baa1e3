-- The verdict on a document (this project): that on its tree, and where this is certified, whether the texts of its chains are
-- the canonical texts of their states.
use Rattle.std.specs.Prelude.{ℕ, suc, Bool, true, false, ◌&&◌, if◌then◌else◌, List, [], ◌∷◌, Option, Some, None}
use Rattle.std.specs.Str.{bytes_eq}
use Rattle.dz_diff.specs.Operations.{Setting}
use Rattle.dz_syntax.specs.Names.{Declared}
use Rattle.dz_move.specs.Root.{System}
use Rattle.dz_tree.specs.Trees.{Tree}
use Rattle.dz_check.specs.Walk.{Verdict, accepted, partial, rejected, verdict_of}
use Rattle.dz_cert.specs.declared.checking.DocumentVerdict.{DocumentVerdict}
use Rattle.dz_cert.specs.declared.checking.DocumentVerdict.TheVariants as verdicts
use Rattle.dz_cert.specs.Documents.{ChainTexts, chain_texts}

-- ---- texts
-- two lists of texts are equal
abbrev pub are_same : List (List ℕ) → List (List ℕ) → Bool
are_same [] [] = true
are_same [] (u ∷ us) = false
are_same (t ∷ ts) [] = false
are_same (t ∷ ts) (u ∷ us) = bytes_eq t u && are_same ts us

-- the texts of two chains are equal
abbrev pub is_same : ChainTexts → ChainTexts → Bool
is_same c d = are_same c.equations d.equations && are_same c.inequations d.inequations

-- the number of the first chain in which two lists differ, where the first chain has the number k; a chain that one of the
-- lists lacks differs too
abbrev pub first_other : ℕ → List ChainTexts → List ChainTexts → Option ℕ
first_other k [] [] = None
first_other k [] (d ∷ ds) = Some k
first_other k (c ∷ cs) [] = Some k
first_other k (c ∷ cs) (d ∷ ds) = if is_same c d then first_other (suc k) cs ds else Some k

-- ---- the verdict
-- what is told of a document whose tree is certified, by the first chain with other texts
abbrev pub judged_texts : DocumentVerdict → Option ℕ → DocumentVerdict
judged_texts verdict None = verdict
judged_texts verdict (Some k) = verdicts.RejectedChain k

-- what is told of a document, by the verdict on its tree
abbrev pub judged_by : Option ℕ → Verdict → DocumentVerdict
judged_by other accepted = judged_texts verdicts.Accepted other
judged_by other partial = judged_texts verdicts.Partial other
judged_by other (rejected place rule) = verdicts.RejectedTree place rule

-- the verdict on a document with a tree, and with texts for its chains
unfoldable pub document_verdict : Setting → Declared → System → Tree → List ChainTexts → DocumentVerdict
document_verdict g names system tree chains = judged_by (first_other 1 chains (chain_texts g names system tree)) (verdict_of g system tree)

-- the tree is certified, and its texts are canonical
abbrev pub has_canonical_texts : DocumentVerdict → Bool
has_canonical_texts verdicts.Accepted = true
has_canonical_texts verdicts.Partial = true
has_canonical_texts (verdicts.RejectedTree place rule) = false
has_canonical_texts (verdicts.RejectedChain k) = false
