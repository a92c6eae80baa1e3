-- A document behind a system.
use Rattle.std.specs.Prelude.{◌≡◌, ℕ, ◌+◌, List, [], ◌∷◌, ◌++◌, length}
use Rattle.dz_syntax.specs.declared.endings.Form.TheVariants as forms
use Rattle.dz_syntax.specs.SystemGrammar.{IsSystem}
use Rattle.dz_syntax.specs.Systems.{Tree}

-- the same system before a document that begins at a place
abbrev pub before_document : Tree → ℕ → Tree
before_document tree place = record {
  names = tree.names;
  signature = tree.signature;
  blocks = tree.blocks;
  equations = tree.equations;
  inequations = tree.inequations;
  questions = [];
  values = [];
  functions = [];
  document = place;
}

-- the bytes up to the end of a system, with a line feed, are followed by any document
abbrev pub IsFollowed : List ℕ → Tree → Type 0
IsFollowed bytes tree =
    (system rest : List ℕ) × (bytes ≡ system ++ rest)
    × ((document : List ℕ) → IsSystem forms.Document (system ++ (10 ∷ document)) (before_document tree (length system + 1)))
