-- How the program finds the equation that fixes a derivative. No public clause cites this file.
use Rattle.std.specs.Prelude.{◌≡◌, ◌≢◌, ◌<◌, ℕ, suc, cond, List, [], length, slice_index_or, pos, Option, Some, None, Result}
use Rattle.dz_algebra.specs.Parts.{coefficient_of, leader, separant}
use Rattle.dz_algebra.specs.Polynomial.{Polynomial}
use Rattle.dz_algebra.specs.Symbols.{Symbols}
use Rattle.dz_rank.specs.declared.symbols.Operator.{Operator}
use Rattle.dz_rank.specs.declared.symbols.Symbol.{Symbol}
use Rattle.dz_int.specs.Fractions.{Fraction}
use Rattle.dz_diff.specs.Operators.{is_proper, quotient}
use Rattle.dz_algebra.specs.Outcome.{◌>>=◌, given}
use Rattle.dz_diff.specs.Tests.{Polynomials}
use Rattle.dz_jet.specs.declared.leading.Fixing.{Fixing}
use Rattle.dz_jet.specs.declared.faults.At.TheVariants as ats
use Rattle.dz_jet.specs.declared.faults.JetFault.{JetFault}
use Rattle.dz_jet.specs.declared.faults.JetFault.TheVariants as faults
use Rattle.dz_jet.specs.Fractions.{whole, fraction_negative, quotient_answer}
use Rattle.dz_jet.specs.Jets.{Values, leading_to, value_answer, value_from, value_in}

-- the proper operator that takes a leader to w
abbrev pub proper_operator : Option Symbol → Symbol → Option Operator
proper_operator None w = None
proper_operator (Some l) w = elim (quotient w l) [ None ↦ None | Some t ↦ cond (is_proper t) (Some t) None ]

-- the first equation that leads to w stands at this index, and has this operator
pub record IsLeading (g : Symbols Symbol) (w : Symbol) (es : Polynomials) (x : Fixing) : Type 0 where
  pub top : Symbol
  pub inside : x.index < length es
  pub leads : leader g (slice_index_or es x.index []) ≡ Some top
  pub leading : leading_to g w 1 es ≡ Some (record { place = suc x.index; divisor = slice_index_or es x.index []; top = top; operator = x.operator })

-- the values of the separants of equations, none of which is zero
pub record AreSeparants (g : Symbols Symbol) (at : Symbol → Fraction) (es : Polynomials) (ss : List Fraction) : Type 0 where
  pub size : length ss ≡ length es
  pub values : (i : ℕ) (l : Symbol) (d : Fraction) → i < length es → leader g (slice_index_or es i []) ≡ Some l → value_from at (separant g.cmp l (slice_index_or es i [])) (whole (pos 0)) ≡ Some (slice_index_or ss i d)
  pub nonzero : (i : ℕ) (l : Symbol) (d : Fraction) → i < length es → leader g (slice_index_or es i []) ≡ Some l → (slice_index_or ss i d).numerator ≢ pos 0

-- the value -r/s of w: s is the separant's, r that of a derivative's terms without w
abbrev pub solution : Symbols Symbol → Values → Symbol → Fraction → Polynomial Symbol → Result Fraction JetFault
solution g jet w s p = do
  r ← value_answer (faults.Wide (ats.Derivative w)) (value_in g jet) (coefficient_of g.cmp w 0 p)
  given (quotient_answer (fraction_negative r) s) (faults.Wide (ats.Derivative w))
