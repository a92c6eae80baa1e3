-- Reading the canonical texts of operators and symbols.
use Rattle.std.specs.Prelude.{◌≡◌, ◌≤◌, ◌-◌, ◌+◌, ◌==◌, ℕ, zero, suc, List, take, drop, length, sum, Option, Some, None, position, codes, if◌then◌else◌}
use Rattle.std.specs.Str.{bytes_eq}
use Rattle.std.specs.Option.{option_map, option_and_then}
use Rattle.std.specs.List.{list_all}
use Rattle.dz_rank.specs.declared.symbols.Operator.{Operator}
use Rattle.dz_rank.specs.declared.symbols.Symbol.{Symbol}
use Rattle.dz_rank.specs.declared.symbols.Symbol.TheVariants.{Independent, Derivative}
use Rattle.dz_rank.specs.Symbols.{BelongsTo, IsOperatorOf, identity, total_order}
use Rattle.dz_syntax.specs.Names.{Declared, find, signature_of}
use Rattle.dz_syntax.specs.Atoms.{raised}
use Rattle.dz_form.specs.Texts.{operator_text, symbol_text}

-- a text is the canonical one of an operator of the names, of total order at most 60
pub record IsOperatorText (names : Declared) (o : Operator) (text : List ℕ) : Type 0 where
  pub operator : IsOperatorOf names.independents o
  pub order : sum o.counts ≤ 60
  pub text_is : operator_text names o ≡ text

-- a text is the canonical one of a symbol of the names, of total order at most 60
pub record IsSymbolText (names : Declared) (s : Symbol) (text : List ℕ) : Type 0 where
  pub symbol : BelongsTo (signature_of names) s
  pub order : total_order s ≤ 60
  pub text_is : symbol_text names s ≡ text

-- what stands before and behind the first byte of a kind
abbrev pub split_once : ℕ → List ℕ → Option (List ℕ × List ℕ)
split_once mark text = option_map (λ at. (take at text, drop (at + 1) text)) (position (λ b. b == mark) text)

-- once more by an independent, where none behind it is taken yet
abbrev pub raised_last : Operator → Option Symbol → Option Operator
raised_last o (Some (Independent i)) = if list_all (λ count. count == 0) (drop (i + 1) o.counts) then Some (raised o i) else None
raised_last o s = None

-- once more by the independent with a name
unfoldable pub with_name : Declared → Operator → List ℕ → Option Operator
with_name names o name = raised_last o (find names name)

-- the last name, or one with a comma behind it
abbrev pub derivations_from : (Operator → List ℕ → Option Operator) → Declared → Operator → List ℕ → Option (List ℕ × List ℕ) → Option Operator
derivations_from more names o text None = with_name names o text
derivations_from more names o text (Some p) = option_and_then (λ o. more o p.1) (with_name names o p.0)

-- an operator, and behind it the names with commas between them, of which so many may come
unfoldable pub derivations : ℕ → Declared → Operator → List ℕ → Option Operator
derivations zero names o text = None
derivations (suc left) names o text = derivations_from (λ o rest. derivations left names o rest) names o text (split_once 44 text)

-- the operator with a text
unfoldable pub operator_at : Declared → List ℕ → Option Operator
operator_at names text = if bytes_eq text (codes "-") then Some identity else derivations 60 names identity text

-- what stands before a closing bracket at the end
abbrev pub without_bracket : List ℕ → Option (List ℕ)
without_bracket text = if bytes_eq (drop (length text - 1) text) (codes "]") then Some (take (length text - 1) text) else None

-- the derivative of a dependent by the operator in brackets
abbrev pub derivative_from : Declared → List ℕ → Option Symbol → Option Symbol
derivative_from names inside (Some (Derivative u t)) = option_map (λ o. Derivative u o) (derivations 60 names identity inside)
derivative_from names inside s = None

-- the derivative of the dependent with a name
unfoldable pub derivative_at : Declared → List ℕ → List ℕ → Option Symbol
derivative_at names name inside = derivative_from names inside (find names name)

-- a name alone, or one with a bracket behind it
abbrev pub symbol_from : Declared → List ℕ → Option (List ℕ × List ℕ) → Option Symbol
symbol_from names text None = find names text
symbol_from names text (Some p) = option_and_then (λ inside. derivative_at names p.0 inside) (without_bracket p.1)

-- the symbol with a text
unfoldable pub symbol_at : Declared → List ℕ → Option Symbol
symbol_at names text = symbol_from names text (split_once 91 text)
