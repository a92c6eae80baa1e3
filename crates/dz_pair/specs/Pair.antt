-- Critical pairs, and their Delta-polynomials (after Rosenfeld and Boulier; the canonical form is this project's).
use Rattle.std.specs.Prelude.{ℕ, suc, ◌==◌, Bool, false, not, ◌&&◌, cond, List, [], ◌∷◌, ◌++◌, Result, Ok, Option, Some, None}
use Rattle.dz_algebra.specs.Polynomial.{Polynomial}
use Rattle.dz_algebra.specs.Norm.{norm}
use Rattle.dz_algebra.specs.Parts.{leader}
use Rattle.dz_algebra.specs.Size.{Refusal, difference_answer, product_answer, separant_answer}
use Rattle.dz_algebra.specs.Symbols.{Symbols}
use Rattle.dz_rank.specs.declared.symbols.Operator.{Operator}
use Rattle.dz_rank.specs.declared.symbols.Symbol.{Symbol}
use Rattle.dz_rank.specs.declared.symbols.Symbol.TheVariants.{Independent, Derivative}
use Rattle.dz_rank.specs.Symbols.{least_common_derivative}
use Rattle.dz_algebra.specs.Outcome.{◌>>=◌}
use Rattle.dz_diff.specs.Tests.{Polynomials}
use Rattle.dz_diff.specs.Operators.{divides, quotient}
use Rattle.dz_diff.specs.Operations.{Setting, operator_answer}
use Rattle.dz_diff.specs.State.{State}

-- derivatives of one dependent, neither of which is a derivative of the other or equal to it
abbrev pub are_crossing : Symbol → Symbol → Bool
are_crossing (Independent i) w = false
are_crossing (Derivative u t) (Independent j) = false
are_crossing (Derivative u t) (Derivative v s) = (u == v) && not (divides s.counts t.counts) && not (divides t.counts s.counts)

-- two leaders make a critical pair
abbrev pub leaders_cross : Option Symbol → Option Symbol → Bool
leaders_cross None m = false
leaders_cross (Some l) None = false
leaders_cross (Some l) (Some m) = are_crossing l m

-- two polynomials are a critical pair
abbrev pub is_pair : Symbols Symbol → Polynomial Symbol → Polynomial Symbol → Bool
is_pair g p q = leaders_cross (leader g p) (leader g q)

-- the least common derivative of two leaders
abbrev pub common_of_leaders : Option Symbol → Option Symbol → Option Symbol
common_of_leaders None m = None
common_of_leaders (Some l) None = None
common_of_leaders (Some l) (Some m) = Some (least_common_derivative l m)

-- the least common derivative of the leaders of two polynomials
abbrev pub common : Symbols Symbol → Polynomial Symbol → Polynomial Symbol → Option Symbol
common g p q = common_of_leaders (leader g p) (leader g q)

-- ---- the Delta-polynomial
-- With l and m the leaders of p and q, phi and psi the operators that take them to their least common derivative, and s the
-- separant, the norm of s_q * phi p - s_p * psi q. The operations come in this order: both separants, the derivations of phi,
-- those of psi, the two products, the difference.
abbrev pub delta_by : Setting → Symbol → Symbol → Operator → Operator → Polynomial Symbol → Polynomial Symbol → Result (Polynomial Symbol) Refusal
delta_by g l m phi psi p q = do
  separant_of_p ← separant_answer g.symbols l p
  separant_of_q ← separant_answer g.symbols m q
  a ← operator_answer g phi p
  b ← operator_answer g psi q
  left ← product_answer g.symbols separant_of_q a
  right ← product_answer g.symbols separant_of_p b
  rest ← difference_answer g.symbols left right
  Ok (norm rest)

-- the same with operators that there may be
abbrev pub delta_with : Setting → Symbol → Symbol → Option Operator → Option Operator → Polynomial Symbol → Polynomial Symbol → Result (Polynomial Symbol) Refusal
delta_with g l m None psi p q = Ok []
delta_with g l m (Some phi) None p q = Ok []
delta_with g l m (Some phi) (Some psi) p q = delta_by g l m phi psi p q

-- the same with leaders that there may be
abbrev pub delta_of_leaders : Setting → Option Symbol → Option Symbol → Polynomial Symbol → Polynomial Symbol → Result (Polynomial Symbol) Refusal
delta_of_leaders g None m p q = Ok []
delta_of_leaders g (Some l) None p q = Ok []
delta_of_leaders g (Some l) (Some m) p q = delta_with g l m (quotient (least_common_derivative l m) l) (quotient (least_common_derivative l m) m) p q

-- the Delta-polynomial of a critical pair; of two polynomials that are none it is zero
abbrev pub delta_answer : Setting → Polynomial Symbol → Polynomial Symbol → Result (Polynomial Symbol) Refusal
delta_answer g p q = delta_of_leaders g (leader g.symbols p) (leader g.symbols q) p q

-- ---- the critical pairs of a state, by their places
-- those of an equation p at place i with the equations from place j on
abbrev pub pairs_with : Symbols Symbol → ℕ → ℕ → Polynomial Symbol → Polynomials → List (ℕ × ℕ)
pairs_with g i j p [] = []
pairs_with g i j p (q ∷ qs) = cond (is_pair g p q) ((i, j) ∷ pairs_with g i (suc j) p qs) (pairs_with g i (suc j) p qs)

-- those of equations that stand from place i on
abbrev pub pairs_from : Symbols Symbol → ℕ → Polynomials → List (ℕ × ℕ)
pairs_from g i [] = []
pairs_from g i (p ∷ ps) = pairs_with g i (suc i) p ps ++ pairs_from g (suc i) ps

-- all of them, in lexicographic order
abbrev pub critical_pairs : Symbols Symbol → State → List (ℕ × ℕ)
critical_pairs g s = pairs_from g 1 s.equations
