-- Canonical texts (this project): one text for each symbol, operator and polynomial.
use Rattle.std.specs.Prelude.{ℕ, zero, suc, ◌+◌, ◌==◌, ◌≤◌, Bool, All, cond, ℤ, List, [], ◌∷◌, ◌++◌, take, map, sum, pos, int_lt, unsigned_abs, codes, slice_index_or}
use Rattle.std.specs.Fmt.{decimal}
use Rattle.dz_algebra.specs.Monomial.{Monomial}
use Rattle.dz_algebra.specs.Polynomial.{Polynomial}
use Rattle.dz_rank.specs.declared.symbols.Operator.{Operator}
use Rattle.dz_rank.specs.declared.symbols.Symbol.{Symbol}
use Rattle.dz_rank.specs.declared.symbols.Symbol.TheVariants.{Independent, Derivative}
use Rattle.dz_rank.specs.Symbols.{BelongsTo, total_order}
use Rattle.dz_syntax.specs.Expressions.{most_exponent, most_literal}
use Rattle.dz_syntax.specs.Names.{Declared, signature_of}

-- texts with a mark between them
abbrev pub joined : List ℕ → List (List ℕ) → List ℕ
joined mark [] = []
joined mark (text ∷ []) = text
joined mark (text ∷ next ∷ more) = text ++ mark ++ joined mark (next ∷ more)

-- a name, so often, before other names
abbrev pub copies : List ℕ → ℕ → List (List ℕ) → List (List ℕ)
copies name zero names = names
copies name (suc n) names = name ∷ copies name n names

-- names, each as often as its exponent says
abbrev pub repeated : List (List ℕ) → List ℕ → List (List ℕ)
repeated [] counts = []
repeated (name ∷ names) [] = []
repeated (name ∷ names) (count ∷ counts) = copies name count (repeated names counts)

-- the names of the independents, in the order in which they are declared
abbrev pub independents : Declared → List (List ℕ)
independents names = take names.independents names.all

-- the independents of an operator, each as often as its exponent says, in the order of their declaration
abbrev pub derivations_text : Declared → Operator → List ℕ
derivations_text names o = joined (codes ",") (repeated (independents names) o.counts)

-- whether an operator takes no derivation
abbrev pub is_identity : Operator → Bool
is_identity o = sum o.counts == 0

-- the text of an operator is - for the one that takes no derivation
unfoldable pub operator_text : Declared → Operator → List ℕ
operator_text names o = cond (is_identity o) (codes "-") (derivations_text names o)

-- the name with this number
abbrev pub name_numbered : Declared → ℕ → List ℕ
name_numbered names i = slice_index_or names.all i []

-- an independent is its name; a derivative is the name of its dependent, and a proper operator in brackets
unfoldable pub symbol_text : Declared → Symbol → List ℕ
symbol_text names (Independent i) = name_numbered names i
symbol_text names (Derivative u o) =
    name_numbered names (names.independents + u) ++ cond (is_identity o) [] (codes "[" ++ derivations_text names o ++ codes "]")

-- a symbol, and its exponent where that is not one
abbrev pub power_text : Declared → Symbol → ℕ → List ℕ
power_text names s e = symbol_text names s ++ cond (e == 1) [] (codes "^" ++ decimal e)

-- the powers of a monomial, in decreasing order of their symbols
abbrev pub powers_text : Declared → Monomial Symbol → List ℕ
powers_text names m = joined (codes "*") (map (λ p. power_text names p.0 p.1) m)

-- the coefficient 1 is left out where a power follows
abbrev pub number_text : ℕ → List ℕ
number_text n = cond (n == 1) [] (decimal n ++ codes "*")

-- the absolute value of a coefficient, and the powers of its monomial
abbrev pub term_text : Declared → Monomial Symbol → ℕ → List ℕ
term_text names [] n = decimal n
term_text names (p ∷ m) n = number_text n ++ powers_text names (p ∷ m)

-- later terms, each after its sign
abbrev pub more_terms_text : Declared → Polynomial Symbol → List ℕ
more_terms_text names [] = []
more_terms_text names (t ∷ p) =
    cond (int_lt t.1 (pos 0)) (codes " - ") (codes " + ") ++ term_text names t.0 (unsigned_abs t.1) ++ more_terms_text names p

-- The terms in decreasing order of monomials, the first with - directly before it where its coefficient is negative. The
-- zero polynomial is 0.
unfoldable pub polynomial_text : Declared → Polynomial Symbol → List ℕ
polynomial_text names [] = codes "0"
polynomial_text names (t ∷ p) =
    cond (int_lt t.1 (pos 0)) (codes "-") [] ++ term_text names t.0 (unsigned_abs t.1) ++ more_terms_text names p

-- a power may be read: its symbol is one of the names, of total order at most 60, and the exponent is one that may be read
pub record IsReadablePower (names : Declared) (p : Symbol × ℕ) : Type 0 where
  pub symbol : BelongsTo (signature_of names) p.0
  pub order : total_order p.0 ≤ 60
  pub exponent : p.1 ≤ most_exponent

-- a term may be read: its powers, and the absolute value of its coefficient
pub record IsReadableTerm (names : Declared) (t : Monomial Symbol × ℤ) : Type 0 where
  pub powers : All (λ p. IsReadablePower names p) t.0
  pub coefficient : unsigned_abs t.1 ≤ most_literal

-- a polynomial has a canonical text that may be read
abbrev pub IsWritable : Declared → Polynomial Symbol → Type 0
IsWritable names p = All (λ t. IsReadableTerm names t) p
