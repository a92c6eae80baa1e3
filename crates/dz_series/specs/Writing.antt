-- How the texts of series are written, piece by piece. No public clause cites this file.
use Rattle.std.specs.Prelude.{ℕ, ◌==◌, Bool, ◌&&◌, cond, List, [], ◌∷◌, ◌++◌, codes}
use Rattle.std.specs.Fmt.{decimal}
use Rattle.std.specs.Prelude.{unsigned_abs}
use Rattle.std.specs.List.{flat_map, range_with_len}
use Rattle.dz_int.specs.Fractions.{Fraction}
use Rattle.dz_rank.specs.declared.rankings.Signature.{Signature}
use Rattle.dz_syntax.specs.Names.{Declared}
use Rattle.dz_jet.specs.Jets.{Values}
use Rattle.dz_series.specs.Series.{displacement_text, more_summands_text, series_line, sum_text, value_line}

-- the absolute value is 1
abbrev pub is_unit : Fraction → Bool
is_unit c = (unsigned_abs c.numerator == 1) && (c.denominator == 1)

-- a power of a displacement
abbrev pub power_text : List ℕ → Fraction → ℕ → List ℕ
power_text name c k = displacement_text name c ++ cond (k == 1) [] (codes "^" ++ decimal k)

-- the power with an exponent, none where that is 0
abbrev pub powers : List ℕ → Fraction → ℕ → List (List ℕ)
powers name c k = cond (k == 0) [] (power_text name c k ∷ [])

-- terms of a sum, of which the first is the first of the sum or is not
abbrev pub terms_text : Bool → List (Fraction × List (List ℕ)) → List ℕ
terms_text first ts = cond first (sum_text ts) (more_summands_text ts)

-- the lines of a jet
abbrev pub lines_text : Declared → Signature → Values → List ℕ
lines_text names g jet = flat_map (value_line names) jet ++ flat_map (series_line names jet) (range_with_len 0 g.dependents)
