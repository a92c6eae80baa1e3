-- The texts of jets: their values, and one power series for each dependent (this project's form).
use Rattle.std.specs.Prelude.{ℕ, zero, suc, ◌+◌, ◌==◌, Bool, not, ◌&&◌, cond, List, [], ◌∷◌, ◌++◌, codes, pos, Option, Some, None, Result, Ok, Err, int_lt, unsigned_abs}
use Rattle.std.specs.Fmt.{decimal}
use Rattle.std.specs.List.{filter, find, flat_map, range_with_len}
use Rattle.std.specs.Option.{is_none, option_and_then}
use Rattle.dz_int.specs.Fractions.{Fraction}
use Rattle.dz_rank.specs.declared.rankings.Signature.{Signature}
use Rattle.dz_rank.specs.declared.symbols.Symbol.{Symbol}
use Rattle.dz_rank.specs.declared.symbols.Symbol.TheVariants.{Independent, Derivative}
use Rattle.dz_rank.specs.Symbols.{is_derivative}
use Rattle.dz_syntax.specs.Names.{Declared}
use Rattle.dz_form.specs.Texts.{joined, name_numbered, symbol_text}
use Rattle.dz_jet.specs.Fractions.{whole, is_zero_fraction, quotient_answer}
use Rattle.dz_jet.specs.Jets.{Values}

-- ---- numbers
-- an absolute value: the numerator, and the denominator where that is not 1
abbrev pub size_text : Fraction → List ℕ
size_text f = decimal (unsigned_abs f.numerator) ++ cond (f.denominator == 1) [] (codes "/" ++ decimal f.denominator)

abbrev pub is_below_zero : Fraction → Bool
is_below_zero f = int_lt f.numerator (pos 0)

abbrev pub fraction_text : Fraction → List ℕ
fraction_text f = cond (is_below_zero f) (codes "-") [] ++ size_text f

-- x divided by 1, 2 and so on up to k, in turn, where each quotient fits
abbrev pub by_factorial : ℕ → Fraction → Option Fraction
by_factorial zero x = Some x
by_factorial (suc k) x = option_and_then (λ y. quotient_answer y (whole (pos (suc k)))) (by_factorial k x)

-- and so by the factorials of exponents, the first first
abbrev pub by_factorials : List ℕ → Fraction → Option Fraction
by_factorials [] x = Some x
by_factorials (k ∷ ks) x = option_and_then (by_factorials ks) (by_factorial k x)

-- the coefficient of a derivative in its series
abbrev pub coefficient_answer : Symbol × Fraction → Option Fraction
coefficient_answer (Independent i, v) = Some v
coefficient_answer (Derivative u t, v) = by_factorials t.counts v

-- ---- terms
-- the displacement from a point: x at 0, (x - c) at a positive c, and (x + c) at the negative of c
abbrev pub displacement_text : List ℕ → Fraction → List ℕ
displacement_text name c =
    cond (is_zero_fraction c) name (codes "(" ++ name ++ cond (is_below_zero c) (codes " + ") (codes " - ") ++ size_text c ++ codes ")")

-- the powers of displacements with their exponents, in declared order, those with exponent 0 left out
abbrev pub displacements : Declared → ℕ → Values → List ℕ → List (List ℕ)
displacements names i [] ks = []
displacements names i (p ∷ points) [] = []
displacements names i (p ∷ points) (k ∷ ks) =
    cond (k == 0) [] ((displacement_text (name_numbered names i) p.1 ++ cond (k == 1) [] (codes "^" ++ decimal k)) ∷ []) ++ displacements names (suc i) points ks

-- the absolute value of a coefficient and the powers; the coefficient 1 is left out where a power follows
abbrev pub summand_text : Fraction → List (List ℕ) → List ℕ
summand_text c [] = size_text c
summand_text c (power ∷ powers) =
    cond ((unsigned_abs c.numerator == 1) && (c.denominator == 1)) [] (size_text c ++ codes "*") ++ joined (codes "*") (power ∷ powers)

-- later terms, each after its sign
abbrev pub more_summands_text : List (Fraction × List (List ℕ)) → List ℕ
more_summands_text [] = []
more_summands_text (t ∷ ts) = cond (is_below_zero t.0) (codes " - ") (codes " + ") ++ summand_text t.0 t.1 ++ more_summands_text ts

-- the first with - directly before it where its coefficient is negative; an empty sum is 0
abbrev pub sum_text : List (Fraction × List (List ℕ)) → List ℕ
sum_text [] = codes "0"
sum_text (t ∷ ts) = cond (is_below_zero t.0) (codes "-") [] ++ summand_text t.0 t.1 ++ more_summands_text ts

-- ---- series
-- the term of a dependent, where its derivative has a value that is not zero
abbrev pub summand : Declared → Values → ℕ → Symbol × Fraction → List (Fraction × List (List ℕ))
summand names points u (Independent i, v) = []
summand names points u (Derivative w t, v) =
    cond ((u == w) && not (is_zero_fraction v)) (elim (by_factorials t.counts v) [ None ↦ [] | Some c ↦ (c, displacements names 0 points t.counts) ∷ [] ]) []

-- the lines of values, in the order of the jet
abbrev pub value_line : Declared → Symbol × Fraction → List ℕ
value_line names (Independent i, v) = []
value_line names (Derivative u t, v) = codes "value " ++ symbol_text names (Derivative u t) ++ codes " = " ++ fraction_text v ++ codes "\n"

-- the independents with their values
abbrev pub points_of : Values → Values
points_of jet = filter (λ p. not (is_derivative p.0)) jet

-- the line of the series of a dependent
abbrev pub series_line : Declared → Values → ℕ → List ℕ
series_line names jet u =
    codes "series " ++ name_numbered names (names.independents + u) ++ codes " = " ++ sum_text (flat_map (summand names (points_of jet) u) jet) ++ codes "\n"

-- why there is no text: the first symbol whose coefficient does not fit
pub data SeriesStop : Type 0 where
  wide_at : Symbol → SeriesStop

-- the lines of a jet of so many dependents: the values, and the series in the order of the dependents
unfoldable pub series_answer : Declared → Signature → Values → Result (List ℕ) SeriesStop
series_answer names g jet =
    elim (find (λ p. is_none (coefficient_answer p)) jet) as (λ _. Result (List ℕ) SeriesStop) [
      | Some p ↦ Err (wide_at p.0)
      | None ↦ Ok (flat_map (value_line names) jet ++ flat_map (series_line names jet) (range_with_len 0 g.dependents))
    ]
