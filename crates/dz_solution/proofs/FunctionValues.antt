-- At a point whose dependents are the values of functions, a polynomial has the value of its substitution.
use Rattle.std.proofs.Common.{◌≡◌, ◌∙◌, ◌↔◌, ℕ, zero, suc, ◌+◌, ◌≤◌, ◌<◌, ◌==◌, Bool, true, false, cond, not, ◌&&◌, ◌||◌, IsTrue, List, [], ◌∷◌, length, map, take, get_or, ℤ, pos, negsuc, refl, sym, ap, ap₂, subst, arith}
use Rattle.std.proofs.lemmas.List.{length-take}
use Rattle.dz_algebra.specs.Domain.{Operations, DomainLaws, copies}
use Rattle.dz_algebra.specs.Ring.{Value, values_arithmetic, ring_of_values}
use Rattle.dz_algebra.specs.Monomial.{Monomial, MonomialIn}
use Rattle.dz_algebra.specs.Polynomial.{Polynomial, Contributions, IsPolynomial, PolynomialIn, polynomial_one, symbol_polynomial}
use Rattle.dz_algebra.specs.Derivation.{RateIn, constant, unit}
use Rattle.dz_algebra.specs.Parts.{has_derivative, is_ground}
use Rattle.dz_algebra.specs.Value.{whole_in, power, monomial_value, value}
use Rattle.dz_algebra.proofs.DomainValues.{value_element}
use Rattle.dz_algebra.proofs.Inside.{in_sum, in_polynomial_product, in_negated, in_polynomial_derivative}
use Rattle.dz_algebra.proofs.PolynomialRing.{Canonical, polynomial_ring}
use Rattle.dz_rank.specs.declared.symbols.Symbol.{Symbol}
use Rattle.dz_rank.specs.declared.symbols.Symbol.TheVariants.{Independent, Derivative}
use Rattle.dz_rank.specs.Symbols.{BelongsTo, is_derivative}
use Rattle.dz_rank.specs.Rankings.{RankingValue, ranking_cmp}
use Rattle.dz_monomials.specs.Ranked.{symbol_rate, symbols_under}
use Rattle.dz_monomials.proofs.SymbolLaws.{ranking_order}
use Rattle.dz_monomials.specs.Lists.{AllOf}
use Rattle.dz_diff.specs.Tests.{Polynomials}
use Rattle.dz_domain.specs.Point.{Coordinates, IsPoint, FitsSignature, iterated_derivative, operator_derivative, symbol_value, value_at}
use Rattle.dz_domain.proofs.Points.{symbol_is_value}
use Rattle.dz_domain.proofs.PointValues.{value_of_derivative, ground_value}
use Rattle.dz_solution.specs.Substitution.{polynomial_arithmetic, iterated_polynomial, operator_polynomial, put_for, substitution}
use Rattle.dz_solution.specs.FunctionPoints.{point_of}
use Rattle.dz_solution.proofs.CanonicalValues.{value_of_symbol, value_of_value}
use Rattle.dz_solution.proofs.Substitutions.{put, substitution_there}

-- ---- values where symbols have the same values
module _ {E : Type 0} (o : Operations E) (f h : Symbol → E) (same : (s : Symbol) → f s ≡ h s) where
  power_same : (s : Symbol) (e : ℕ) → power o.arithmetic (f s) e ≡ power o.arithmetic (h s) e
  power_same s e = ap (λ x. power o.arithmetic x e) (same s)

  monomial_same : (m : Monomial Symbol) → monomial_value o.arithmetic f m ≡ monomial_value o.arithmetic h m
  monomial_same [] = refl
  monomial_same (q ∷ m) = ap₂ o.product (power_same q.0 q.1) (monomial_same m)

  value_same : (ts : Contributions Symbol) → value o.arithmetic f ts ≡ value o.arithmetic h ts
  value_same [] = refl
  value_same (t ∷ ts) = ap₂ o.sum (ap (o.product (whole_in o.arithmetic t.1)) (monomial_same t.0)) (value_same ts)

-- the value of a symbol as a polynomial is the symbol's value
module _ (r : RankingValue) {E : Type 0} {o : Operations E} (laws : DomainLaws o) (at : Symbol → E) (are_values : (s : Symbol) → IsTrue (o.is_value (at s))) where
  symbol_there : (s : Symbol) → value o.arithmetic at (symbol_polynomial s) ≡ at s
  symbol_there s =
      sym (value_element laws (λ t. (at t, are_values t)) (symbol_polynomial s))
      ∙ ap (λ x. x.0) (value_of_symbol (ranking_order r) (ring_of_values laws) (λ t. (at t, are_values t)) s)

-- the value of a ground polynomial does not depend on the dependents
module _ {E : Type 0} (o : Operations E) (r : RankingValue) (xs us vs : List E) where
  abbrev one_point : Coordinates E
  one_point = record { independents = xs; dependents = us }

  abbrev other_point : Coordinates E
  other_point = record { independents = xs; dependents = vs }

  ground_monomial : (m : Monomial Symbol) → has_derivative (symbols_under r) m ≡ false
      → monomial_value o.arithmetic (symbol_value o one_point) m ≡ monomial_value o.arithmetic (symbol_value o other_point) m
  ground_monomial [] e = refl
  ground_monomial ((Independent j, k) ∷ m) e = ap (o.product (power o.arithmetic (get_or xs j o.zero) k)) (ground_monomial m e)
  ground_monomial ((Derivative u t, k) ∷ m) e = absurd cc

  pub ground_there : (a : Polynomial Symbol) → IsTrue (is_ground (symbols_under r) a) → value_at o one_point a ≡ value_at o other_point a
  ground_there [] h = refl
  ground_there (t ∷ a) h = by_test (has_derivative (symbols_under r) t.0) refl h (λ g. ground_there a g)
    where
      by_test : (d : Bool) → has_derivative (symbols_under r) t.0 ≡ d → (not d && is_ground (symbols_under r) a) ≡ true
          → (IsTrue (is_ground (symbols_under r) a) → value_at o one_point a ≡ value_at o other_point a)
          → value_at o one_point (t ∷ a) ≡ value_at o other_point (t ∷ a)
      by_test true e g rest = absurd cc
      by_test false e g rest = ap₂ o.sum (ap (o.product (whole_in o.arithmetic t.1)) (ground_monomial t.0 e)) (rest g)

-- ---- ground polynomials in the symbols of the signature
module _ (r : RankingValue) where
  -- a symbol of the signature that is no derivative
  abbrev pub IsPlain : Symbol → Type 0
  IsPlain s = BelongsTo r.signature s × (is_derivative s ≡ false)

  plain_monomial : (m : Monomial Symbol) → MonomialIn (BelongsTo r.signature) m → has_derivative (symbols_under r) m ≡ false → MonomialIn IsPlain m
  plain_monomial [] b e = tt
  plain_monomial ((Independent j, k) ∷ m) b e = ((b.0, refl), plain_monomial m b.1 e)
  plain_monomial ((Derivative u t, k) ∷ m) b e = absurd cc

  -- a ground polynomial has only such symbols
  pub plain : (a : Polynomial Symbol) → PolynomialIn (BelongsTo r.signature) a → IsTrue (is_ground (symbols_under r) a) → PolynomialIn IsPlain a
  plain [] b h = tt
  plain (t ∷ a) b h = by_test (has_derivative (symbols_under r) t.0) refl h (λ g. plain a b.1 g)
    where
      by_test : (d : Bool) → has_derivative (symbols_under r) t.0 ≡ d → (not d && is_ground (symbols_under r) a) ≡ true
          → (IsTrue (is_ground (symbols_under r) a) → PolynomialIn IsPlain a) → PolynomialIn IsPlain (t ∷ a)
      by_test true e g rest = absurd cc
      by_test false e g rest = (plain_monomial t.0 b.0 e, rest g)

  monomial_belongs : (m : Monomial Symbol) → MonomialIn IsPlain m → MonomialIn (BelongsTo r.signature) m
  monomial_belongs [] h = tt
  monomial_belongs (q ∷ m) h = ((h.0).0, monomial_belongs m h.1)

  pub plain_belongs : (a : Polynomial Symbol) → PolynomialIn IsPlain a → PolynomialIn (BelongsTo r.signature) a
  plain_belongs [] h = tt
  plain_belongs (t ∷ a) h = (monomial_belongs t.0 h.0, plain_belongs a h.1)

  monomial_without : (m : Monomial Symbol) → MonomialIn IsPlain m → has_derivative (symbols_under r) m ≡ false
  monomial_without [] h = refl
  monomial_without (q ∷ m) h = ap (λ b. b || has_derivative (symbols_under r) m) (h.0).1 ∙ monomial_without m h.1

  -- and is one where it has
  pub plain_ground : (a : Polynomial Symbol) → PolynomialIn IsPlain a → IsTrue (is_ground (symbols_under r) a)
  plain_ground [] h = refl
  plain_ground (t ∷ a) h = ap (λ b. not b && is_ground (symbols_under r) a) (monomial_without t.0 h.0) ∙ plain_ground a h.1

  -- ---- the substitution has only such symbols
  rate_plain : (i : ℕ) (s : Symbol) → IsPlain s → RateIn IsPlain (symbol_rate i s)
  unfolding symbol_rate
  rate_plain i (Independent j) h = elim (i == j) as (λ b. RateIn IsPlain (cond b unit constant)) [ true ↦ tt | false ↦ tt ]
  rate_plain i (Derivative u t) h = absurd cc

  iterated_plain : (i k : ℕ) (a : Polynomial Symbol) → PolynomialIn IsPlain a → PolynomialIn IsPlain (iterated_polynomial r i k a)
  iterated_plain i zero a h = h
  iterated_plain i (suc k) a h = in_polynomial_derivative (ranking_cmp r) IsPlain (symbol_rate i) (rate_plain i) _ (iterated_plain i k a h)

  operator_plain : (i : ℕ) (ks : List ℕ) (a : Polynomial Symbol) → PolynomialIn IsPlain a → PolynomialIn IsPlain (operator_polynomial r i ks a)
  operator_plain i [] a h = h
  operator_plain i (k ∷ ks) a h = operator_plain (suc i) ks _ (iterated_plain i k a h)

  at_or_zero : (fs : Polynomials) (u : ℕ) → AllOf (PolynomialIn IsPlain) fs → PolynomialIn IsPlain (get_or fs u [])
  at_or_zero [] u h = tt
  at_or_zero (f ∷ fs) zero h = h.0
  at_or_zero (f ∷ fs) (suc u) h = at_or_zero fs u h.1

  module _ (fs : Polynomials) (plains : AllOf (PolynomialIn (λ s. BelongsTo r.signature s × (is_derivative s ≡ false))) fs) where
    put_plain : (s : Symbol) → BelongsTo r.signature s → PolynomialIn IsPlain (put_for r fs s)
    put_plain (Independent j) h = (((h, refl), tt), tt)
    put_plain (Derivative u t) h = operator_plain 0 (take r.signature.independents t.counts) _ (at_or_zero fs u plains)

    one_plain : PolynomialIn IsPlain polynomial_one
    unfolding polynomial_one
    one_plain = (tt, tt)

    copies_plain : (n : ℕ) → PolynomialIn IsPlain (copies (polynomial_arithmetic (ranking_cmp r)) n polynomial_one)
    copies_plain zero = tt
    copies_plain (suc n) = in_sum (ranking_cmp r) IsPlain polynomial_one _ one_plain (copies_plain n)

    whole_plain : (c : ℤ) → PolynomialIn IsPlain (whole_in (polynomial_arithmetic (ranking_cmp r)) c)
    whole_plain (pos n) = copies_plain n
    whole_plain (negsuc n) = in_negated (ranking_cmp r) IsPlain _ (copies_plain (suc n))

    power_plain : (a : Polynomial Symbol) (e : ℕ) → PolynomialIn IsPlain a → PolynomialIn IsPlain (power (polynomial_arithmetic (ranking_cmp r)) a e)
    power_plain a zero h = one_plain
    power_plain a (suc e) h = in_polynomial_product (ranking_cmp r) IsPlain a _ h (power_plain a e h)

    monomial_plain : (m : Monomial Symbol) → MonomialIn (BelongsTo r.signature) m → PolynomialIn IsPlain (monomial_value (polynomial_arithmetic (ranking_cmp r)) (put_for r fs) m)
    monomial_plain [] h = one_plain
    monomial_plain (q ∷ m) h = in_polynomial_product (ranking_cmp r) IsPlain _ _ (power_plain _ q.1 (put_plain q.0 h.0)) (monomial_plain m h.1)

    value_plain : (p : Polynomial Symbol) → PolynomialIn (BelongsTo r.signature) p → PolynomialIn IsPlain (value (polynomial_arithmetic (ranking_cmp r)) (put_for r fs) p)
    value_plain [] h = tt
    value_plain (t ∷ p) h =
        in_sum (ranking_cmp r) IsPlain _ _ (in_polynomial_product (ranking_cmp r) IsPlain _ _ (whole_plain t.1) (monomial_plain t.0 h.0)) (value_plain p h.1)

    pub substitution_plain : (p : Polynomial Symbol) → PolynomialIn (BelongsTo r.signature) p → PolynomialIn IsPlain (substitution r fs p)
    unfolding substitution
    substitution_plain p h = value_plain p h

-- a list that begins is not empty
no_terms : (t : Monomial Symbol × ℤ) (a : Polynomial Symbol) → t ∷ a ≡ [] → ⊥
no_terms t a e = cc

-- functions: ground polynomials over the ranking
pub record AreGround (r : RankingValue) (fs : Polynomials) : Type 0 where
  pub canonical : AllOf (IsPolynomial (ranking_cmp r)) fs
  pub belong : AllOf (PolynomialIn (BelongsTo r.signature)) fs
  pub no_derivatives : AllOf (λ f. IsTrue (is_ground (symbols_under r) f)) fs

all_plain : (r : RankingValue) (fs : Polynomials) → AllOf (PolynomialIn (BelongsTo r.signature)) fs → AllOf (λ f. IsTrue (is_ground (symbols_under r) f)) fs → AllOf (PolynomialIn (λ s. BelongsTo r.signature s × (is_derivative s ≡ false))) fs
all_plain r [] b h = tt
all_plain r (f ∷ fs) b h = (plain r f b.0 h.0, all_plain r fs b.1 h.1)

module _ (r : RankingValue) {E : Type 0} {o : Operations E} (laws : DomainLaws o) (xs : List E) (fs : Polynomials) (grounds : AreGround r fs)
    (point : IsPoint o (point_of o xs fs)) (fits : FitsSignature r.signature (point_of o xs fs)) where
  abbrev here : Coordinates E
  here = point_of o xs fs

  -- ---- derivations
  iterated_there : (i k : ℕ) (a : Polynomial Symbol) → i < r.signature.independents → value_at o here (iterated_polynomial r i k a) ≡ iterated_derivative o i k (value_at o here a)
  iterated_there i zero a h = refl
  iterated_there i (suc k) a h = value_of_derivative r laws point fits i h (iterated_polynomial r i k a) ∙ ap (o.derivative i) (iterated_there i k a h)

  operator_there : (i : ℕ) (ks : List ℕ) (a : Polynomial Symbol) → i + length ks ≤ r.signature.independents → value_at o here (operator_polynomial r i ks a) ≡ operator_derivative o i ks (value_at o here a)
  operator_there i [] a h = refl
  operator_there i (k ∷ ks) a h =
      operator_there (suc i) ks (iterated_polynomial r i k a) (omega (arith, h)) ∙ ap (operator_derivative o (suc i) ks) (iterated_there i k a (omega (arith, h)))

  -- ---- functions
  function_there : (us : List E) (gs : Polynomials) (u : ℕ) → AllOf (λ f. IsTrue (is_ground (symbols_under r) f)) gs
      → value_at o (record { independents = xs; dependents = us }) (get_or gs u []) ≡ get_or (map (value_at o (record { independents = xs; dependents = [] })) gs) u o.zero
  function_there us [] u h = refl
  function_there us (g ∷ gs) zero h = ground_there o r xs us [] g h.0
  function_there us (g ∷ gs) (suc u) h = function_there us gs u h.1

  -- what is put for a symbol has the symbol's value
  put_there : (s : Symbol) → value_at o here (put_for r fs s) ≡ symbol_value o here s
  put_there (Independent j) = symbol_there r laws (symbol_value o here) (symbol_is_value laws point) (Independent j)
  put_there (Derivative u t) =
      operator_there 0 (take r.signature.independents t.counts) (get_or fs u []) (omega (arith, length-take r.signature.independents t.counts))
      ∙ ap₂ (λ n x. operator_derivative o 0 (take n t.counts) x) (sym fits.independents) (function_there here.dependents fs u grounds.no_derivatives)

  -- ---- the polynomial has the value of its substitution
  abbrev at : Symbol → Value o
  at s = (symbol_value o here s, symbol_is_value laws point s)

  abbrev to : Symbol → Canonical (ranking_order r)
  to s = put r fs grounds.canonical s

  pub substitution_value : (p : Polynomial Symbol) → value_at o here (substitution r fs p) ≡ value_at o here p
  unfolding substitution
  substitution_value p =
      sym (value_element laws at (substitution r fs p))
      ∙ ap (λ x. x.0) (value_of_value (ranking_order r) (ring_of_values laws) at to p)
      ∙ value_element laws (λ s. value (values_arithmetic laws) at (to s).0) p
      ∙ value_same o (λ s. (value (values_arithmetic laws) at (to s).0).0) (symbol_value o here) (λ s. value_element laws at (put_for r fs s) ∙ put_there s) p

  -- it vanishes exactly where the substitution is zero
  pub vanishes_there : (p : Polynomial Symbol) → PolynomialIn (BelongsTo r.signature) p → (value_at o here p ≡ o.zero) ↔ (substitution r fs p ≡ [])
  vanishes_there p belongs = (
    λ e. by_terms (substitution r fs p) refl (substitution_value p ∙ e),
    λ e. sym (substitution_value p) ∙ ap (value_at o here) e,
  )
    where
      plain_there : PolynomialIn (λ s. BelongsTo r.signature s × (is_derivative s ≡ false)) (substitution r fs p)
      plain_there = substitution_plain r fs (all_plain r fs grounds.belong grounds.no_derivatives) p belongs

      canonical_there : IsPolynomial (ranking_cmp r) (substitution r fs p)
      canonical_there = subst (IsPolynomial (ranking_cmp r)) (sym (substitution_there r fs grounds.canonical p)) (value (polynomial_ring (ranking_order r)).arithmetic (put r fs grounds.canonical) p).1

      by_terms : (a : Polynomial Symbol) → substitution r fs p ≡ a → value_at o here (substitution r fs p) ≡ o.zero → substitution r fs p ≡ []
      by_terms [] e z = e
      by_terms (t ∷ a) e z =
          absurd (ground_value r laws point fits (substitution r fs p) canonical_there (plain_belongs r _ plain_there) (plain_ground r _ plain_there) (λ f. no_terms t a (sym e ∙ f)) z)
