-- Points: a value for each independent and each dependent, and with them for each symbol and
-- polynomial (Kolchin).
use Rattle.std.specs.Prelude.{◌≡◌, ℕ, zero, suc, ◌<◌, ◌≤◌, ◌==◌, IsTrue, cond, List, [], ◌∷◌, length, get_or, take, All}
use Rattle.dz_algebra.specs.Domain.{Operations}
use Rattle.dz_algebra.specs.Polynomial.{Contributions}
use Rattle.dz_algebra.specs.Value.{value}
use Rattle.dz_rank.specs.declared.rankings.Signature.{Signature}
use Rattle.dz_rank.specs.declared.symbols.Symbol.{Symbol}
use Rattle.dz_rank.specs.declared.symbols.Symbol.TheVariants.{Independent, Derivative}

-- the values of the independents and of the dependents, in the order of their numbers
pub record Coordinates (E : Type 0) : Type 0 where
  pub independents : List E
  pub dependents : List E

-- each coordinate is a value; and each derivation of the domain takes the independent of its number
-- to one and the others to zero (Kolchin)
pub record IsPoint {E : Type 0} (o : Operations E) (p : Coordinates E) : Type 0 where
  pub independent_values : All (λ x. IsTrue (o.is_value x)) p.independents
  pub dependent_values : All (λ x. IsTrue (o.is_value x)) p.dependents
  pub enough : length p.independents ≤ o.derivations
  pub rates : (i j : ℕ) → i < o.derivations → j < length p.independents
      → o.derivative i (get_or p.independents j o.zero) ≡ cond (i == j) o.one o.zero

-- a point fits a signature if it has as many independents and dependents
pub record FitsSignature {E : Type 0} (g : Signature) (p : Coordinates E) : Type 0 where
  pub independents : length p.independents ≡ g.independents
  pub dependents : length p.dependents ≡ g.dependents

-- the i-th derivation taken k times
abbrev pub iterated_derivative : {E : Type 0} → Operations E → ℕ → ℕ → E → E
iterated_derivative o i zero a = a
iterated_derivative o i (suc k) a = o.derivative i (iterated_derivative o i k a)

-- the derivative by an operator: the derivations from the i-th on, each as often as its exponent
-- says, the first first
abbrev pub operator_derivative : {E : Type 0} → Operations E → ℕ → List ℕ → E → E
operator_derivative o i [] a = a
operator_derivative o i (k ∷ ks) a = operator_derivative o (suc i) ks (iterated_derivative o i k a)

-- the value of an independent; the value of a derivative is its operator applied to the value of
-- its dependent
abbrev pub symbol_value : {E : Type 0} → Operations E → Coordinates E → Symbol → E
symbol_value o p (Independent j) = get_or p.independents j o.zero
symbol_value o p (Derivative u t) =
    operator_derivative o 0 (take (length p.independents) t.counts) (get_or p.dependents u o.zero)

-- the value of a polynomial at a point: the sum over its terms of the coefficient times the powers
-- of its symbols' values
abbrev pub value_at : {E : Type 0} → Operations E → Coordinates E → Contributions Symbol → E
value_at o p ts = value o.arithmetic (symbol_value o p) ts
