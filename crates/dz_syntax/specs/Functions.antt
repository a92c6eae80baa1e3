-- Reading functions of the independents.
use Rattle.std.specs.Prelude.{ℕ, ◌==◌, List, [], map, take, Option, Some, Result, Ok, if◌then◌else◌}
use Rattle.std.specs.List.{list_any}
use Rattle.dz_rank.specs.declared.symbols.Symbol.{Symbol}
use Rattle.dz_rank.specs.declared.symbols.Symbol.TheVariants.{Derivative}
use Rattle.dz_syntax.specs.declared.token.Token.{Token}
use Rattle.dz_syntax.specs.declared.token.Token.TheVariants.{Name}
use Rattle.dz_syntax.specs.declared.fault.Fault.{Fault}
use Rattle.dz_syntax.specs.declared.fault.SyntaxKind.TheVariants.{Twice, Unknown}
use Rattle.dz_syntax.specs.declared.expression.Op.{Op}
use Rattle.dz_syntax.specs.Tokens.{front, behind, bytes_of}
use Rattle.dz_syntax.specs.Names.{Declared, find}
use Rattle.dz_algebra.specs.Outcome.{◌>>=◌}
use Rattle.dz_syntax.specs.Faults.{refuse, unexpected_kind}
use Rattle.dz_syntax.specs.Expressions.{poly_with, inside}
use Rattle.dz_syntax.specs.Marks.{expected, is_equals}

-- the first n names, all of them independents
abbrev pub first_names : ℕ → Declared → Declared
first_names n names = record { all = take n names.all; independents = n }

-- the independents alone
abbrev pub independents_alone : Declared → Declared
independents_alone names = first_names names.independents names

-- what a name stands for, if that is a dependent
abbrev pub as_dependent : List ℕ → Option Symbol → Result ℕ Fault
as_dependent text (Some (Derivative d o)) = Ok d
as_dependent text s = refuse Unknown text

-- the dependent, where the token at the front is a name
abbrev pub dependent_from : Declared → Token → List ℕ → Result ℕ Fault
dependent_from names Name text = as_dependent text (find names (bytes_of text))
dependent_from names t text = refuse (unexpected_kind t) text

-- the dependent named at the front
unfoldable pub dependent_at : Declared → List ℕ → Result ℕ Fault
dependent_at names text = dependent_from names (front text) text

-- a dependent that has no function yet
unfoldable pub new_dependent_at : Declared → List ℕ → List ℕ → Result ℕ Fault
new_dependent_at names taken text = do
  d ← dependent_at names text
  if list_any (λ u. d == u) taken then refuse Twice text else Ok d

-- name "=" poly, where some dependents have functions already; in the poly only independents are known
unfoldable pub function_at : Declared → List ℕ → List ℕ → Result ((ℕ × List Op) × List ℕ) Fault
function_at names taken text = do
  d ← new_dependent_at names taken text
  text ← expected (is_equals (front (behind text))) (behind text)
  s ← poly_with (independents_alone names) (inside (independents_alone names) 64) (record { out = []; text = text })
  Ok ((d, s.out), s.text)

-- a function behind those that were found
abbrev pub element_of : Declared → List (ℕ × List Op) → List ℕ → Result ((ℕ × List Op) × List ℕ) Fault
element_of names found text = function_at names (map (λ f. f.0) found) text
