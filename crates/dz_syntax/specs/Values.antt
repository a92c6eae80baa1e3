-- Reading values.
use Rattle.std.specs.Prelude.{ℕ, ◌==◌, ◌/◌, ◌&&◌, Bool, true, false, List, map, ℤ, pos, unsigned_abs, Result, Ok, if◌then◌else◌}
use Rattle.std.specs.Str.{bytes_eq}
use Rattle.std.specs.List.{list_any}
use Rattle.std.specs.Int.{is_negative}
use Rattle.dz_int.specs.Numbers.{signed}
use Rattle.dz_int.specs.Fractions.{Fraction}
use Rattle.dz_algebra.specs.Norm.{gcd}
use Rattle.dz_rank.specs.declared.symbols.Symbol.{Symbol}
use Rattle.dz_rank.specs.declared.symbols.Symbol.TheVariants.{Independent, Derivative}
use Rattle.dz_syntax.specs.declared.token.Token.{Token}
use Rattle.dz_syntax.specs.declared.token.Token.TheVariants.{Minus, Slash}
use Rattle.dz_syntax.specs.declared.fault.Fault.{Fault}
use Rattle.dz_syntax.specs.declared.fault.SyntaxKind.TheVariants.{Twice, Literal, Denominator}
use Rattle.dz_syntax.specs.Tokens.{front, behind}
use Rattle.dz_syntax.specs.Names.{Declared}
use Rattle.dz_syntax.specs.Atoms.{literal_at, symbol_at}
use Rattle.dz_algebra.specs.Outcome.{◌>>=◌}
use Rattle.dz_syntax.specs.Faults.{refuse}
use Rattle.dz_syntax.specs.Expressions.{most_literal}
use Rattle.dz_syntax.specs.Marks.{expected, is_equals}

-- n over d, reduced
abbrev pub fraction_of : ℤ → ℕ → Fraction
fraction_of n d = record {
  numerator = signed (is_negative n) (unsigned_abs n / gcd (unsigned_abs n) d);
  denominator = d / gcd (unsigned_abs n) d;
}

-- ["-"] number
abbrev pub numerator_from : Token → List ℕ → Result (ℤ × List ℕ) Fault
numerator_from Minus text = do
  n ← literal_at most_literal Literal (behind text)
  Ok (signed true n.0, n.1)
numerator_from t text = do
  n ← literal_at most_literal Literal text
  Ok (pos n.0, n.1)

-- a numerator with its sign
unfoldable pub numerator_at : List ℕ → Result (ℤ × List ℕ) Fault
numerator_at text = numerator_from (front text) text

-- a number that is not 0
unfoldable pub positive_at : List ℕ → Result (ℕ × List ℕ) Fault
positive_at text = do
  n ← literal_at most_literal Literal text
  if n.0 == 0 then refuse Denominator text else Ok n

-- ["/" number], 1 where there is none
abbrev pub denominator_from : Token → List ℕ → Result (ℕ × List ℕ) Fault
denominator_from Slash text = positive_at (behind text)
denominator_from t text = Ok (1, text)

-- a denominator, 1 where none is written
unfoldable pub denominator_at : List ℕ → Result (ℕ × List ℕ) Fault
denominator_at text = denominator_from (front text) text

-- ["-"] number ["/" number]
unfoldable pub fraction_at : List ℕ → Result (Fraction × List ℕ) Fault
fraction_at text = do
  n ← numerator_at text
  d ← denominator_at n.1
  Ok (fraction_of n.0 d.0, d.1)

-- whether two symbols are the same
abbrev pub same_symbol : Symbol → Symbol → Bool
same_symbol (Independent i) (Independent j) = i == j
same_symbol (Derivative u s) (Derivative v t) = u == v && bytes_eq s.counts t.counts
same_symbol v w = false

-- a symbol that has no value yet
unfoldable pub new_symbol_at : Declared → List Symbol → List ℕ → Result (Symbol × List ℕ) Fault
new_symbol_at names valued text = do
  v ← symbol_at names text
  if list_any (λ w. same_symbol v.0 w) valued then refuse Twice text else Ok v

-- symbol "=" ["-"] number ["/" number], where some symbols have values already
unfoldable pub value_at : Declared → List Symbol → List ℕ → Result ((Symbol × Fraction) × List ℕ) Fault
value_at names valued text = do
  v ← new_symbol_at names valued text
  text ← expected (is_equals (front v.1)) v.1
  f ← fraction_at text
  Ok ((v.0, f.0), f.1)

-- a value behind those that were found
abbrev pub element_of : Declared → List (Symbol × Fraction) → List ℕ → Result ((Symbol × Fraction) × List ℕ) Fault
element_of names found text = value_at names (map (λ v. v.0) found) text
