-- Reading a system from left to right.
use Rattle.std.specs.Prelude.{◌≢◌, ◌≤◌, ◌<◌, ℕ, ◌+◌, List, [], length, false, Result, Ok, All}
use Rattle.std.specs.List.{AllPairs}
use Rattle.dz_int.specs.Fractions.{Fraction}
use Rattle.dz_rank.specs.declared.rankings.Signature.{Signature}
use Rattle.dz_rank.specs.declared.symbols.Symbol.{Symbol}
use Rattle.dz_rank.specs.Rankings.{BlockValue, block_values}
use Rattle.dz_rank.specs.Symbols.{BelongsTo, total_order}
use Rattle.dz_syntax.specs.declared.fault.Fault.{Fault}
use Rattle.dz_syntax.specs.declared.fault.SyntaxFault.{SyntaxFault}
use Rattle.dz_syntax.specs.declared.marks.Section.TheVariants.{Equations, Inequations}
use Rattle.dz_syntax.specs.declared.endings.Form.{Form}
use Rattle.dz_syntax.specs.declared.system.SystemTree.{SystemTree}
use Rattle.dz_syntax.specs.declared.expression.Op.{Op}
use Rattle.dz_syntax.specs.Tokens.{front, skip_from}
use Rattle.dz_syntax.specs.Names.{Declared, no_names, signature_of}
use Rattle.dz_algebra.specs.Outcome.{◌>>=◌}
use Rattle.dz_syntax.specs.Marks.{expected, is_ranking}
use Rattle.dz_syntax.specs.Blocks.{independents_at, blocks}
use Rattle.dz_syntax.specs.Sections.{section_at}
use Rattle.dz_syntax.specs.Endings.{rest_at}
use Rattle.dz_syntax.specs.Items.{placed}
use Rattle.dz_syntax.specs.Postfix.{IsExpression}

-- What a system text means. Items are lists of steps in postfix order.
pub record Tree : Type 0 where
  pub names : Declared
  pub signature : Signature
  pub blocks : List BlockValue
  pub equations : List (List Op)
  pub inequations : List (List Op)
  pub questions : List (List Op)
  pub values : List (Symbol × Fraction)
  pub functions : List (ℕ × List Op)
  pub document : ℕ

-- what a tree of the code's own type means
abbrev pub tree_of : SystemTree → Tree
tree_of t = record {
  names = t.names;
  signature = t.signature;
  blocks = block_values t.blocks.items;
  equations = t.equations.items;
  inequations = t.inequations.items;
  questions = t.questions.items;
  values = t.values.items;
  functions = t.functions.items;
  document = t.document;
}

-- "derivations" [names] ";" "ranking" {block} ";"
unfoldable pub header_at : Declared → List ℕ → Result (Declared × List BlockValue × List ℕ) Fault
header_at names text = do
  x ← independents_at names text
  text ← expected (is_ranking (front x.1)) x.1
  blocks (length text + 1) x.0 [] text

-- the header, the equations and the inequations, and what follows them in a form
unfoldable pub system_at : Form → List ℕ → Result Tree Fault
system_at form bytes = do
  h ← header_at no_names (skip_from false bytes)
  e ← section_at Equations h.0 h.2
  i ← section_at Inequations h.0 e.1
  r ← rest_at form (length bytes) h.0 i.1
  Ok (record {
    names = h.0;
    signature = signature_of h.0;
    blocks = h.1;
    equations = e.0;
    inequations = i.0;
    questions = r.questions;
    values = r.values;
    functions = r.functions;
    document = r.document;
  })

-- the tree of a text in a form, or the first fault
unfoldable pub system_of : Form → List ℕ → Result Tree SyntaxFault
system_of form bytes = placed (length bytes) (system_at form bytes)

-- every item of a tree is one expression over its signature
pub record HasExpressions (t : Tree) : Type 0 where
  pub equations : All (λ item. IsExpression t.signature item) t.equations
  pub inequations : All (λ item. IsExpression t.signature item) t.inequations
  pub questions : All (λ item. IsExpression t.signature item) t.questions

-- no symbol stands twice
abbrev pub AreDistinct : List (Symbol × Fraction) → Type 0
AreDistinct values = AllPairs (λ p q. p.0 ≢ q.0) values

-- the values of a tree are of distinct symbols of its signature, with total order at most 60
pub record HasValues (t : Tree) : Type 0 where
  pub belong : All (λ p. BelongsTo t.signature p.0) t.values
  pub low : All (λ p. total_order p.0 ≤ 60) t.values
  pub distinct : AreDistinct t.values

-- the functions of a tree are of distinct dependents, and expressions in independents alone
pub record HasFunctions (t : Tree) : Type 0 where
  pub belong : All (λ f. f.0 < t.signature.dependents) t.functions
  pub plain : All (λ f. IsExpression (record { independents = t.signature.independents; dependents = 0 }) f.1) t.functions
  pub distinct : AllPairs (λ f h. f.0 ≢ h.0) t.functions
