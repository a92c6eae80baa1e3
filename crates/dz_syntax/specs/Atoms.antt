-- Reading literals and symbols.
use Rattle.std.specs.Prelude.{ℕ, zero, suc, ◌+◌, List, Result, Ok, Option, Some, None, slice_set, slice_index}
use Rattle.dz_syntax.specs.declared.token.Token.{Token}
use Rattle.dz_syntax.specs.declared.token.Token.TheVariants.{Name, Number, OpenBracket, CloseBracket, Comma}
use Rattle.dz_syntax.specs.declared.fault.Fault.{Fault}
use Rattle.dz_syntax.specs.declared.fault.SyntaxKind.{SyntaxKind}
use Rattle.dz_syntax.specs.declared.fault.SyntaxKind.TheVariants.{Unknown, Order}
use Rattle.dz_rank.specs.declared.symbols.Operator.{Operator}
use Rattle.dz_rank.specs.declared.symbols.Symbol.{Symbol}
use Rattle.dz_rank.specs.declared.symbols.Symbol.TheVariants.{Independent, Derivative}
use Rattle.dz_rank.specs.Symbols.{identity}
use Rattle.dz_syntax.specs.Tokens.{front, behind, bytes_of}
use Rattle.dz_syntax.specs.Names.{Declared, find}
use Rattle.dz_syntax.specs.Numbers.{number_from, at_most}
use Rattle.dz_algebra.specs.Outcome.{◌>>=◌}
use Rattle.dz_syntax.specs.Faults.{refuse, unexpected_kind}

-- a number that may have passed its bound
abbrev pub number_or : SyntaxKind → List ℕ → Option ℕ → Result (ℕ × List ℕ) Fault
number_or kind text None = refuse kind text
number_or kind text (Some n) = Ok (n, behind text)

-- a number where the token at the front is one
abbrev pub literal_from : ℕ → SyntaxKind → Token → List ℕ → Result (ℕ × List ℕ) Fault
literal_from most kind Number text = number_or kind text (at_most most (number_from 0 (bytes_of text)))
literal_from most kind t text = refuse (unexpected_kind t) text

-- a number up to a bound, past which it is a fault of this kind
unfoldable pub literal_at : ℕ → SyntaxKind → List ℕ → Result (ℕ × List ℕ) Fault
literal_at most kind text = literal_from most kind (front text) text

-- what a name stands for, if that is an independent
abbrev pub as_independent : List ℕ → Option Symbol → Result ℕ Fault
as_independent text (Some (Independent i)) = Ok i
as_independent text s = refuse Unknown text

-- the independent, where the token at the front is a name
abbrev pub independent_from : Declared → Token → List ℕ → Result ℕ Fault
independent_from names Name text = as_independent text (find names (bytes_of text))
independent_from names t text = refuse (unexpected_kind t) text

-- the independent named at the front
unfoldable pub independent_at : Declared → List ℕ → Result ℕ Fault
independent_at names text = independent_from names (front text) text

-- once more by an independent
abbrev pub raised : Operator → ℕ → Operator
raised o i = record { counts = slice_set o.counts i (slice_index o.counts i + 1) }

-- after a name in brackets
abbrev pub names_go_on : (List ℕ → Result (Operator × List ℕ) Fault) → Operator → Token → List ℕ → Result (Operator × List ℕ) Fault
names_go_on more o Comma text = more (behind text)
names_go_on more o CloseBracket text = Ok (o, behind text)
names_go_on more o t text = refuse (unexpected_kind t) text

-- the names in a pair of brackets, where left more may come
unfoldable pub names_in : ℕ → Declared → Operator → List ℕ → Result (Operator × List ℕ) Fault
names_in zero names o text = do
  i ← independent_at names text
  refuse Order text
names_in (suc left) names o text = do
  i ← independent_at names text
  names_go_on (λ rest. names_in left names (raised o i) rest) (raised o i) (front (behind text)) (behind text)

-- A symbol whose name is declared, with the token after the name. Brackets follow a dependent alone.
abbrev pub symbol_of : Declared → List ℕ → Symbol → Token → Result (Symbol × List ℕ) Fault
symbol_of names text (Independent i) OpenBracket = refuse Unknown text
symbol_of names text (Derivative d o) OpenBracket = do
  o ← names_in 60 names identity (behind (behind text))
  Ok (Derivative d o.0, o.1)
symbol_of names text s t = Ok (s, behind text)

-- the symbol of what a name stands for, if it stands for something
abbrev pub symbol_if : Declared → List ℕ → Option Symbol → Result (Symbol × List ℕ) Fault
symbol_if names text None = refuse Unknown text
symbol_if names text (Some s) = symbol_of names text s (front (behind text))

-- the symbol, where the token at the front is a name
abbrev pub symbol_from : Declared → Token → List ℕ → Result (Symbol × List ℕ) Fault
symbol_from names Name text = symbol_if names text (find names (bytes_of text))
symbol_from names t text = refuse (unexpected_kind t) text

-- the symbol at the front
unfoldable pub symbol_at : Declared → List ℕ → Result (Symbol × List ℕ) Fault
symbol_at names text = symbol_from names (front text) text
