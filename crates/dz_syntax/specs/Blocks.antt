-- Reading the independents, and the blocks of the ranking.
use Rattle.std.specs.Prelude.{ℕ, zero, suc, ◌-◌, Bool, true, false, List, [], ◌∷◌, ◌++◌, Result, Ok, Option, Some, None}
use Rattle.dz_rank.specs.declared.rankings.Kind.{Kind}
use Rattle.dz_rank.specs.Rankings.{BlockValue}
use Rattle.dz_syntax.specs.declared.fault.Fault.{Fault}
use Rattle.dz_syntax.specs.declared.names.Group.TheVariants.{Independents, Dependents}
use Rattle.dz_syntax.specs.Tokens.{front, behind}
use Rattle.dz_syntax.specs.Names.{Declared, dependents, room}
use Rattle.dz_algebra.specs.Outcome.{◌>>=◌}
use Rattle.dz_syntax.specs.Faults.{refuse, unexpected_kind}
use Rattle.dz_syntax.specs.Marks.{expected, is_derivations, is_semicolon, is_open_bracket, is_close_bracket, kind_of}
use Rattle.dz_syntax.specs.Declarations.{declarations}

-- [names] ";", where the token at the front is a semicolon or is not
abbrev pub independents_from : Declared → Bool → List ℕ → Result (Declared × List ℕ) Fault
independents_from names true text = Ok (names, behind text)
independents_from names false text = do
  x ← declarations 4 Independents names text
  text ← expected (is_semicolon (front x.1)) x.1
  Ok (x.0, text)

-- "derivations" [names] ";"
unfoldable pub independents_at : Declared → List ℕ → Result (Declared × List ℕ) Fault
independents_at names text = do
  text ← expected (is_derivations (front text)) text
  independents_from names (is_semicolon (front text)) text

-- so many numbers from the first on
abbrev pub numbers_from : ℕ → ℕ → List ℕ
numbers_from first zero = []
numbers_from first (suc n) = first ∷ numbers_from (suc first) n

-- A block behind the word of its kind: "[" names "]". Its dependents are those that it declares.
unfoldable pub block_at : Kind → Declared → List ℕ → Result (Declared × BlockValue × List ℕ) Fault
block_at kind names text = do
  text ← expected (is_open_bracket (front text)) text
  x ← declarations (room names) Dependents names text
  text ← expected (is_close_bracket (front x.1)) x.1
  Ok (x.0, record { kind = kind; dependents = numbers_from (dependents names) (dependents x.0 - dependents names) }, text)

-- a block and more blocks where a kind stands here, or else the semicolon after them
abbrev pub blocks_from : (Declared → List BlockValue → List ℕ → Result (Declared × List BlockValue × List ℕ) Fault) → Declared → List BlockValue → Option Kind → List ℕ → Result (Declared × List BlockValue × List ℕ) Fault
blocks_from more names found None text = do
  text ← expected (is_semicolon (front text)) text
  Ok (names, found, text)
blocks_from more names found (Some kind) text = do
  x ← block_at kind names (behind text)
  more x.0 (found ++ x.1 ∷ []) x.2

-- at most n blocks, and the semicolon after them
unfoldable pub blocks : ℕ → Declared → List BlockValue → List ℕ → Result (Declared × List BlockValue × List ℕ) Fault
blocks zero names found text = refuse (unexpected_kind (front text)) text
blocks (suc n) names found text = blocks_from (blocks n) names found (kind_of (front text)) text
