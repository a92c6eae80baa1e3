-- The names of a system.
use Rattle.std.specs.Prelude.{ℕ, ◌+◌, ◌-◌, ◌≤◌, ◌<◌, List, [], ◌∷◌, ◌++◌, length, Option, Some, None, position, Bool, true, false, All, ◌≡◌, nat_lt, if◌then◌else◌}
use Rattle.std.specs.Str.{bytes_eq}
use Rattle.std.specs.List.{list_any, list_all, IsDistinct}
use Rattle.dz_rank.specs.Symbols.{identity}
use Rattle.dz_rank.specs.declared.rankings.Signature.{Signature}
use Rattle.dz_syntax.specs.declared.names.Group.TheVariants.{Independents, Dependents}
use Rattle.dz_syntax.specs.declared.names.Group.{Group}
use Rattle.dz_syntax.specs.declared.token.Token.TheVariants.{Name}
use Rattle.dz_syntax.specs.Tokens.{is_letter, is_name_byte, word_or_name}
use Rattle.dz_rank.specs.declared.symbols.Symbol.{Symbol}
use Rattle.dz_rank.specs.declared.symbols.Symbol.TheVariants.{Independent, Derivative}

-- all names in order, and how many of them, from the first on, are independents
pub record Declared : Type 0 where
  pub all : List (List ℕ)
  pub independents : ℕ

-- whether a text begins with a letter or _
abbrev pub begins_with_letter : List ℕ → Bool
begins_with_letter [] = false
begins_with_letter (b ∷ rest) = is_letter b

-- a word that is not reserved
unfoldable pub IsUnreserved : List ℕ → Type 0
IsUnreserved word = word_or_name word ≡ Name

-- a name begins with a letter or _, has letters, _ and digits alone, and is no reserved word
pub record IsName (name : List ℕ) : Type 0 where
  pub first : begins_with_letter name ≡ true
  pub bytes : list_all is_name_byte name ≡ true
  pub unreserved : IsUnreserved name

-- at most four independents, and at most sixteen dependents behind them, all with different names
pub record IsDeclared (names : Declared) : Type 0 where
  pub independents_fit : names.independents ≤ 4
  pub independents_are : names.independents ≤ length names.all
  pub dependents_fit : length names.all ≤ names.independents + 16
  pub are_names : All (λ name. IsName name) names.all
  pub distinct : IsDistinct bytes_eq names.all

-- a dependent without derivation
abbrev pub plain : ℕ → Symbol
plain d = Derivative d identity

-- the symbol of the name with a number, where so many independents stand first
abbrev pub symbol_numbered : ℕ → Option ℕ → Option Symbol
symbol_numbered independents None = None
symbol_numbered independents (Some i) = Some (if nat_lt i independents then Independent i else plain (i - independents))

-- what a name stands for
unfoldable pub find : Declared → List ℕ → Option Symbol
find names name = symbol_numbered names.independents (position (λ n. bytes_eq name n) names.all)

-- whether a name is declared
abbrev pub known : Declared → List ℕ → Bool
known names name = list_any (λ n. bytes_eq name n) names.all

-- the names with one more
abbrev pub declared : Group → Declared → List ℕ → Declared
declared Independents names name = record { all = names.all ++ name ∷ []; independents = names.independents + 1 }
declared Dependents names name = record { all = names.all ++ name ∷ []; independents = names.independents }

-- there is room for so many more names of this group
abbrev pub HasRoom : Group → ℕ → Declared → Type 0
HasRoom Independents left names = (names.independents + left ≤ 4) × (length names.all ≡ names.independents)
HasRoom Dependents left names = length names.all + left ≤ names.independents + 16

-- numbers that a symbol can have
abbrev pub FitsSymbol : Symbol → Type 0
FitsSymbol (Independent i) = i < 4
FitsSymbol (Derivative d o) = d < 16

-- nothing is declared
abbrev pub no_names : Declared
no_names = record { all = []; independents = 0 }

-- how many dependents are declared
abbrev pub dependents : Declared → ℕ
dependents names = length names.all - names.independents

-- how many independents and how many dependents are declared
abbrev pub signature_of : Declared → Signature
signature_of names = record { independents = names.independents; dependents = dependents names }

-- how many more dependents may be declared
abbrev pub room : Declared → ℕ
room names = 16 - dependents names
