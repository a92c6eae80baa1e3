-- Jets of chains: values of the derivatives up to a total order, as a chain fixes them (this project's form).
use Rattle.std.specs.Prelude.{⊤, ℕ, zero, suc, max, Bool, true, false, not, ◌||◌, cond, List, [], ◌∷◌, ◌++◌, map, pos, Option, Some, None, Result, Ok, Err}
use Rattle.std.specs.List.{filter, find, range_with_len}
use Rattle.std.specs.Option.{is_none, option_and_then}
use Rattle.dz_algebra.specs.Monomial.{Monomial}
use Rattle.dz_algebra.specs.Parts.{coefficient_of, initial, leader, separant}
use Rattle.dz_algebra.specs.Polynomial.{Polynomial}
use Rattle.dz_algebra.specs.Size.{Refusal, wide as refused_wide, large as refused_large, separant_answer}
use Rattle.dz_algebra.specs.Symbols.{Symbols}
use Rattle.dz_int.specs.Fractions.{Fraction}
use Rattle.dz_rank.specs.declared.rankings.Signature.{Signature}
use Rattle.dz_rank.specs.declared.symbols.Operator.{Operator}
use Rattle.dz_rank.specs.declared.symbols.Symbol.{Symbol}
use Rattle.dz_rank.specs.declared.symbols.Symbol.TheVariants.{Independent}
use Rattle.dz_rank.specs.Rankings.{RankingValue}
use Rattle.dz_algebra.specs.Outcome.{◌>>=◌, needs, given, told_as}
use Rattle.dz_diff.specs.Operations.{Setting, operator_answer, setting_of}
use Rattle.dz_diff.specs.Operators.{is_proper, quotient}
use Rattle.dz_diff.specs.State.{State}
use Rattle.dz_diff.specs.Tests.{Polynomials, same_symbol}
use Rattle.dz_jet.specs.declared.faults.At.TheVariants as ats
use Rattle.dz_jet.specs.declared.faults.JetFault.{JetFault}
use Rattle.dz_jet.specs.declared.faults.JetFault.TheVariants as faults
use Rattle.dz_jet.specs.declared.faults.Part.{Part}
use Rattle.dz_jet.specs.declared.faults.Part.TheVariants as parts
use Rattle.dz_parametric.specs.Orders.{derivatives_to}
use Rattle.dz_jet.specs.Fractions.{whole, fraction_negative, is_zero_fraction, sum_answer, product_answer, quotient_answer}

-- ---- faults
-- a refused operation at a derivative
abbrev pub refused_at : Symbol → Refusal → JetFault
refused_at w refused_wide = faults.Wide (ats.Derivative w)
refused_at w (refused_large limit) = faults.Large w limit

-- a refused separant by l at place j; it is never large, since no exponent of it is greater than before
abbrev pub separant_refused : ℕ → Symbol → Refusal → JetFault
separant_refused j l refused_wide = faults.Wide (ats.Part (parts.Separant j))
separant_refused j l (refused_large limit) = faults.Large l limit

-- ---- values
-- symbols with their values
abbrev pub Values : Type 0
Values = List (Symbol × Fraction)

-- the value that a list gives a symbol
abbrev pub given_to : Symbols Symbol → Values → Symbol → Option Fraction
given_to g [] s = None
given_to g (p ∷ known) s = cond (same_symbol g p.0 s) (Some p.1) (given_to g known s)

-- zero where it gives none
abbrev pub value_in : Symbols Symbol → Values → Symbol → Fraction
value_in g known s = elim (given_to g known s) [ None ↦ whole (pos 0) | Some v ↦ v ]

-- x multiplied by v so many times, where each product fits
abbrev pub multiplied : ℕ → Fraction → Fraction → Option Fraction
multiplied zero v x = Some x
multiplied (suc k) v x = option_and_then (multiplied k v) (product_answer x v)

-- x multiplied for each symbol in decreasing order by the symbol's value, as often as its exponent says
abbrev pub term_value : (Symbol → Fraction) → Monomial Symbol → Fraction → Option Fraction
term_value at [] x = Some x
term_value at (p ∷ m) x = option_and_then (term_value at m) (multiplied p.1 (at p.0) x)

-- x and the values of the terms in decreasing order, where each sum fits
abbrev pub value_from : (Symbol → Fraction) → Polynomial Symbol → Fraction → Option Fraction
value_from at [] x = Some x
value_from at (t ∷ p) x = option_and_then (λ v. option_and_then (value_from at p) (sum_answer x v)) (term_value at t.0 (whole t.1))

-- the value of a polynomial; e is told where the fold does not fit
unfoldable pub value_answer : JetFault → (Symbol → Fraction) → Polynomial Symbol → Result Fraction JetFault
value_answer e at p = given (value_from at p (whole (pos 0))) e

-- ---- the symbols of a jet
-- the independents in declared order
abbrev pub independents_of : Signature → List Symbol
independents_of g = map (λ i. Independent i) (range_with_len 0 g.independents)

-- the greatest total order of a derivative in polynomials, and m
abbrev pub order_of_monomial : Symbols Symbol → Monomial Symbol → ℕ → ℕ
order_of_monomial g [] m = m
order_of_monomial g (p ∷ n) m = order_of_monomial g n (max m (g.total_order p.0))

abbrev pub order_of : Symbols Symbol → Polynomial Symbol → ℕ → ℕ
order_of g [] m = m
order_of g (t ∷ p) m = order_of g p (order_of_monomial g t.0 m)

abbrev pub order_of_all : Symbols Symbol → Polynomials → ℕ → ℕ
order_of_all g [] m = m
order_of_all g (p ∷ ps) m = order_of_all g ps (order_of g p m)

-- the order of a jet that is asked for up to order n
unfoldable pub jet_order : Symbols Symbol → State → ℕ → ℕ
jet_order g s n = order_of_all g s.inequations (order_of_all g s.equations n)

-- ---- the equation that leads to a derivative
-- an equation with its place and leader, and a proper operator
pub record Leading : Type 0 where
  pub place : ℕ
  pub divisor : Polynomial Symbol
  pub top : Symbol
  pub operator : Operator

-- an equation whose leader a proper operator takes to w, and else another
abbrev pub led_by : ℕ → Polynomial Symbol → Option Symbol → Symbol → Option Leading → Option Leading
led_by j p None w other = other
led_by j p (Some l) w other = elim (quotient w l) [ None ↦ other | Some t ↦ cond (is_proper t) (Some (record { place = j; divisor = p; top = l; operator = t })) other ]

-- the first of those from place j on
abbrev pub leading_to : Symbols Symbol → Symbol → ℕ → Polynomials → Option Leading
leading_to g w j [] = None
leading_to g w j (p ∷ ps) = led_by j p (leader g p) w (leading_to g w (suc j) ps)

-- a value is needed: the symbol is no proper derivative of a leader
abbrev pub is_needed : Symbols Symbol → State → Symbol → Bool
is_needed g s w = is_none (leading_to g w 1 s.equations)

-- ---- the tests of what is given
-- nothing is found, or it is told
abbrev pub unless : (Symbol → JetFault) → Option Symbol → Result ⊤ JetFault
unless tell None = Ok tt
unless tell (Some s) = Err (tell s)

-- a value is given
abbrev pub is_given : Symbols Symbol → Values → Symbol → Bool
is_given g known s = elim (given_to g known s) [ None ↦ false | Some v ↦ true ]

-- a symbol is one of a list
abbrev pub is_among : Symbols Symbol → List Symbol → Symbol → Bool
is_among g [] s = false
is_among g (t ∷ ts) s = same_symbol g t s || is_among g ts s

-- each needed value is given, and no other
abbrev pub test_given : Symbols Symbol → Values → List Symbol → Result ⊤ JetFault
test_given g known needed = do
  _ ← unless faults.Missing (find (λ s. not (is_given g known s)) needed)
  unless faults.NotFree (find (λ s. not (is_among g needed s)) (map (λ p. p.0) known))

-- the equations from place j on have value zero
abbrev pub test_equations : (Symbol → Fraction) → ℕ → Polynomials → Result ⊤ JetFault
test_equations at j [] = Ok tt
test_equations at j (p ∷ ps) = do
  v ← value_answer (faults.Wide (ats.Part (parts.Equation j))) at p
  _ ← needs (is_zero_fraction v) (faults.OffChain j v)
  test_equations at (suc j) ps

-- the value of a part, which is not zero
abbrev pub test_part : (Symbol → Fraction) → Part → Polynomial Symbol → Result Fraction JetFault
test_part at w p = do
  v ← value_answer (faults.Wide (ats.Part w)) at p
  _ ← needs (not (is_zero_fraction v)) (faults.Vanishes w)
  Ok v

-- that of the initial of an equation with its leader, and that of the separant, which is answered
abbrev pub test_multipliers : Symbols Symbol → (Symbol → Fraction) → ℕ → Polynomial Symbol → Option Symbol → Result Fraction JetFault
test_multipliers g at j p None = Ok (whole (pos 1))
test_multipliers g at j p (Some l) = do
  _ ← test_part at (parts.Initial j) (initial g.cmp l p)
  q ← told_as (separant_refused j l) (separant_answer g l p)
  test_part at (parts.Separant j) q

-- of the equations from place j on
abbrev pub test_all_multipliers : Symbols Symbol → (Symbol → Fraction) → ℕ → Polynomials → Result (List Fraction) JetFault
test_all_multipliers g at j [] = Ok []
test_all_multipliers g at j (p ∷ ps) = do
  v ← test_multipliers g at j p (leader g p)
  vs ← test_all_multipliers g at (suc j) ps
  Ok (v ∷ vs)

-- of the inequations from place j on
abbrev pub test_inequations : (Symbol → Fraction) → ℕ → Polynomials → Result ⊤ JetFault
test_inequations at j [] = Ok tt
test_inequations at j (h ∷ hs) = do
  _ ← test_part at (parts.Inequation j) h
  test_inequations at (suc j) hs

-- ---- the values of derivatives
-- the value -r/s of w: s is the separant's value at those given, r that of the derivative's terms without w
abbrev pub fixed_value : Setting → (Symbol → Fraction) → Values → Symbol → Leading → Result Fraction JetFault
fixed_value g at jet w x = do
  p ← told_as (refused_at w) (operator_answer g x.operator x.divisor)
  s ← value_answer (faults.Wide (ats.Derivative w)) at (separant g.symbols.cmp x.top x.divisor)
  r ← value_answer (faults.Wide (ats.Derivative w)) (value_in g.symbols jet) (coefficient_of g.symbols.cmp w 0 p)
  given (quotient_answer (fraction_negative r) s) (faults.Wide (ats.Derivative w))

-- a jet with the value of w, which is given or fixed by the first equation that leads to w
abbrev pub with_value : Setting → (Symbol → Fraction) → Values → Symbol → Option Leading → Result Values JetFault
with_value g at jet w None = Ok (jet ++ (w, at w) ∷ [])
with_value g at jet w (Some x) = do
  v ← fixed_value g at jet w x
  Ok (jet ++ (w, v) ∷ [])

-- and with those of symbols in turn
abbrev pub with_values : Setting → State → (Symbol → Fraction) → Values → List Symbol → Result Values JetFault
with_values g s at jet [] = Ok jet
with_values g s at jet (w ∷ ws) = do
  more ← with_value g at jet w (leading_to g.symbols w 1 s.equations)
  with_values g s at more ws

-- the jet up to the order n, under an orderly ranking: first the independents in declared order, then the derivatives in
-- increasing order
unfoldable pub jet_answer : RankingValue → State → Values → ℕ → Result Values JetFault
jet_answer r s known n =
    let g = setting_of r in
    let at = value_in g.symbols known in
    let symbols = independents_of r.signature ++ derivatives_to r (jet_order g.symbols s n) in do
      _ ← test_given g.symbols known (filter (is_needed g.symbols s) symbols)
      _ ← test_equations at 1 s.equations
      _ ← test_all_multipliers g.symbols at 1 s.equations
      _ ← test_inequations at 1 s.inequations
      with_values g s at [] symbols

-- the order of a jet, and its values
pub record JetValue : Type 0 where
  pub order : ℕ
  pub values : Values
