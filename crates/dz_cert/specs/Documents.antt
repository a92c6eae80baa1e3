-- Documents of trees: their texts, and what bytes spell one (this project).
use Rattle.std.specs.Prelude.{◌≡◌, ℕ, suc, Bool, true, nat_lt, nat_le, ◌&&◌, List, [], ◌∷◌, ◌++◌, length, filter, map, codes}
use Rattle.std.specs.Fmt.{decimal}
use Rattle.std.specs.List.{AllByRecursion, list_all}
use Rattle.dz_diff.specs.Operations.{Setting}
use Rattle.dz_move.specs.Root.{System}
use Rattle.dz_diff.specs.State.{State}
use Rattle.dz_form.specs.Texts.{polynomial_text}
use Rattle.dz_syntax.specs.Names.{Declared}
use Rattle.dz_tree.specs.Forms.{IsTree}
use Rattle.dz_move.specs.Lines.{Line, is_chain_line}
use Rattle.dz_tree.specs.Trees.{Tree}
use Rattle.dz_check.specs.Walk.{chains_of, ends_in, ends_of}
use Rattle.dz_cert.specs.LineTexts.{IsLineOf, line_text}

-- the texts of a chain's equations, and of its inequations
pub record ChainTexts : Type 0 where
  pub equations : List (List ℕ)
  pub inequations : List (List ℕ)

-- ---- the lines of a document
-- a word, a blank and a number
abbrev pub numbered : List ℕ → ℕ → List ℕ
numbered word n = word ++ codes " " ++ decimal n

-- the lines before the tree
abbrev pub head_lines : ℕ → List (List ℕ)
head_lines budget = codes "blad certificate 1" ∷ numbered (codes "budget") budget ∷ codes "tree" ∷ []

-- the lines of texts, each behind a word
abbrev pub member_lines : List ℕ → List (List ℕ) → List (List ℕ)
member_lines word texts = map (λ text. word ++ codes " " ++ text) texts

-- the lines of the chain with a number: its equations, and then its inequations
abbrev pub section_lines : ℕ → ChainTexts → List (List ℕ)
section_lines k c = numbered (codes "chain") k ∷ member_lines (codes "equation") c.equations ++ member_lines (codes "inequation") c.inequations

-- the lines of chains, of which the first has a number
abbrev pub sections_from : ℕ → List ChainTexts → List (List ℕ)
sections_from k [] = []
sections_from k (c ∷ cs) = section_lines k c ++ sections_from (suc k) cs

-- the lines behind the tree
abbrev pub chain_lines : List ChainTexts → List (List ℕ)
chain_lines chains = numbered (codes "chains") (length chains) ∷ sections_from 1 chains ++ codes "end" ∷ []

-- the lines of the document with a tree, and with texts for its chains
unfoldable pub document_lines : Declared → Tree → List ChainTexts → List (List ℕ)
document_lines names tree chains = head_lines tree.budget ++ map (λ line. line_text names line) tree.lines ++ chain_lines chains

-- ---- the text of a document
-- lines, each of which ends with one line feed
abbrev pub ended_lines : List (List ℕ) → List ℕ
ended_lines [] = []
ended_lines (line ∷ lines) = line ++ codes "\n" ++ ended_lines lines

-- the text of the document with a tree, and with texts for its chains
abbrev pub document_text : Declared → Tree → List ChainTexts → List ℕ
document_text names tree chains = ended_lines (document_lines names tree chains)

-- the canonical texts of a state
abbrev pub canonical_texts : Declared → State → ChainTexts
canonical_texts names s = record {
  equations = map (λ p. polynomial_text names p) s.equations;
  inequations = map (λ p. polynomial_text names p) s.inequations;
}

-- the canonical texts of the states of the chains of a tree for a system
unfoldable pub chain_texts : Setting → Declared → System → Tree → List ChainTexts
chain_texts g names system tree = map (λ s. canonical_texts names s) (chains_of (ends_in (ends_of g system tree)))

-- the document of a tree for a system: with the canonical texts of its chains
unfoldable pub document_of : Setting → Declared → System → Tree → List ℕ
document_of g names system tree = document_text names tree (chain_texts g names system tree)

-- ---- what bytes spell
-- a byte may stand in the text of a member
abbrev pub is_text_byte : ℕ → Bool
is_text_byte b = nat_le 32 b && nat_le b 126

-- one or more such bytes
abbrev pub is_text : List ℕ → Bool
is_text text = nat_lt 0 (length text) && list_all is_text_byte text

-- each member of a chain has such a text
pub record AreTexts (c : ChainTexts) : Type 0 where
  pub equations : list_all is_text c.equations ≡ true
  pub inequations : list_all is_text c.inequations ≡ true

-- how many lines are chains
abbrev pub chain_count : List Line → ℕ
chain_count lines = length (filter is_chain_line lines)

-- Bytes spell a tree and texts for its chains: the lines form one tree of the names, each line `chain` has a section, and the
-- bytes are the text of the document.
pub record IsDocument (names : Declared) (tree : Tree) (chains : List ChainTexts) (bytes : List ℕ) : Type 0 where
  pub is_tree : IsTree tree
  pub of_names : AllByRecursion (λ line. IsLineOf names line) tree.lines
  pub sections : length chains ≡ chain_count tree.lines
  pub texts : AllByRecursion (λ c. AreTexts c) chains
  pub bytes_are : document_text names tree chains ≡ bytes
