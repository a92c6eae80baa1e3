-- The laws of the values that polynomials have at a point.
use Rattle.std.proofs.Common.{◌≡◌, ◌≢◌, ℕ, ◌<◌, ◌==◌, Bool, true, false, cond, not, ◌&&◌, IsTrue, [], ◌∷◌, length, refl, sym, ap, ◌∙◌, arith, ltb, ltb-true, lt-ltb, eq-eqb, ne_eqb}
use Rattle.std.proofs.lemmas.List.Elements.{All-get_or}
use Rattle.std.specs.declared.cmp.Ordering.{Ordering}
use Rattle.std.specs.declared.cmp.Ordering.TheVariants.{Less, Equal, Greater}
use Rattle.std.specs.Ordering.{match_ordering}
use Rattle.std.specs.Cmp.{tied_itself}
use Rattle.dz_algebra.specs.Domain.{Operations, DomainLaws}
use Rattle.dz_algebra.specs.Monomial.{Monomial, MonomialIn}
use Rattle.dz_algebra.specs.Polynomial.{Polynomial, IsPolynomial, PolynomialIn, polynomial_one, symbol_polynomial, polynomial_sum, polynomial_product}
use Rattle.dz_algebra.specs.Derivation.{Rate, constant, unit, rate_polynomial, polynomial_derivative}
use Rattle.dz_algebra.specs.Parts.{has_derivative, is_ground}
use Rattle.dz_algebra.specs.Laws.{ValueLaws, HaveDualDerivations}
use Rattle.dz_algebra.proofs.LawProofs.{derivation_laws, value_laws, nonzero_laws}
use Rattle.dz_algebra.proofs.PolynomialRing.{one_is}
use Rattle.dz_rank.specs.declared.symbols.Symbol.{Symbol}
use Rattle.dz_rank.specs.declared.symbols.Symbol.TheVariants.{Independent, Derivative}
use Rattle.dz_rank.specs.Symbols.{BelongsTo}
use Rattle.dz_rank.specs.Rankings.{RankingValue, ranking_cmp}
use Rattle.dz_poly.specs.Books.{BookValue, IsBook, Lives, polynomial}
use Rattle.dz_monomials.specs.Keeping.{IsKeepable}
use Rattle.dz_monomials.specs.Ranked.{symbol_rate, symbols_under}
use Rattle.dz_monomials.proofs.SymbolLaws.{ranking_order}
use Rattle.dz_domain.specs.Point.{Coordinates, IsPoint, FitsSignature, symbol_value, value_at}
use Rattle.dz_domain.proofs.Points.{symbol_is_value, rate_of_symbol}

-- a polynomial of a book is keepable
pub keepable : (book : BookValue) (a : ℕ) → IsBook book → Lives book a
    → IsKeepable book.ranking (polynomial book a)
keepable book a b h = All-get_or (IsKeepable book.ranking) book.polynomials a [] h b.each

-- a symbol is one of the first n independents
abbrev pub is_independent : ℕ → Symbol → Bool
is_independent n (Independent j) = ltb j n
is_independent n (Derivative u t) = false

-- the number of an independent
abbrev pub independent_place : Symbol → ℕ
independent_place (Independent j) = j
independent_place (Derivative u t) = 0

module _ (r : RankingValue) where
  -- the symbols of a monomial without derivatives are independents of the signature
  monomial_in_independents : (m : Monomial Symbol) → MonomialIn (BelongsTo r.signature) m
      → has_derivative (symbols_under r) m ≡ false
      → MonomialIn (λ s. IsTrue (is_independent r.signature.independents s)) m
  monomial_in_independents [] b h = tt
  monomial_in_independents ((Independent j, e) ∷ m) b h =
      (lt-ltb j r.signature.independents b.0, monomial_in_independents m b.1 h)
  monomial_in_independents ((Derivative u t, e) ∷ m) b h = absurd cc

  -- and so are those of a ground polynomial
  ground_in_independents : (a : Polynomial Symbol) → PolynomialIn (BelongsTo r.signature) a
      → IsTrue (is_ground (symbols_under r) a)
      → PolynomialIn (λ s. IsTrue (is_independent r.signature.independents s)) a
  ground_in_independents [] b h = tt
  ground_in_independents (t ∷ a) b h =
      by_test (has_derivative (symbols_under r) t.0) refl h (λ f. ground_in_independents a b.1 f)
    where
      by_test : (d : Bool) → has_derivative (symbols_under r) t.0 ≡ d
          → (not d && is_ground (symbols_under r) a) ≡ true
          → (IsTrue (is_ground (symbols_under r) a)
          → PolynomialIn (λ s. IsTrue (is_independent r.signature.independents s)) a)
          → PolynomialIn (λ s. IsTrue (is_independent r.signature.independents s)) (t ∷ a)
      by_test true e f rest = absurd cc
      by_test false e f rest = (monomial_in_independents t.0 b.0 e, rest f)

  module _ {E : Type 0} {o : Operations E} (laws : DomainLaws o) {p : Coordinates E}
      (point : IsPoint o p) where
    -- the laws of values, at the point
    point_laws : ValueLaws (ranking_cmp r) o (symbol_value o p)
    point_laws =
        value_laws (ranking_cmp r) (ranking_order r) o laws (symbol_value o p)
        (symbol_is_value laws point)

    -- the value of a sum
    pub value_of_sum : (a b : Polynomial Symbol)
        → value_at o p (polynomial_sum (ranking_cmp r) a b)
        ≡ o.sum (value_at o p a) (value_at o p b)
    value_of_sum a b = point_laws.of_sum a b

    -- the value of a product
    pub value_of_product : (a b : Polynomial Symbol)
        → value_at o p (polynomial_product (ranking_cmp r) a b)
        ≡ o.product (value_at o p a) (value_at o p b)
    value_of_product a b = point_laws.of_product a b

    module _ (fits : FitsSignature r.signature p) where
      -- the value of a derivative
      pub value_of_derivative : (i : ℕ) → i < r.signature.independents → (a : Polynomial Symbol)
          → value_at o p (polynomial_derivative (ranking_cmp r) (symbol_rate i) a)
          ≡ o.derivative i (value_at o p a)
      value_of_derivative i h a =
          let below : i < length p.independents = omega (arith, fits.independents) in
          point_laws.of_derivative i (symbol_rate i) (omega (arith, point.enough))
          (rate_of_symbol laws point i below) a

      -- each independent has a derivation that takes it to one and the others to zero
      dual_derivations : HaveDualDerivations (ranking_cmp r) o (symbol_value o p)
          (is_independent r.signature.independents) independent_place
      dual_derivations = record { below = below_derivations; rates = dual_rates }
        where
          below_derivations : (s : Symbol) → IsTrue (is_independent r.signature.independents s)
              → independent_place s < o.derivations
          below_derivations (Independent j) h =
              omega (arith, ltb-true j r.signature.independents h, fits.independents, point.enough)
          below_derivations (Derivative u t) h = absurd cc

          dual_rates : (s t : Symbol) → IsTrue (is_independent r.signature.independents s)
              → IsTrue (is_independent r.signature.independents t)
              → o.derivative (independent_place s) (symbol_value o p t)
              ≡ match_ordering (ranking_cmp r s t) o.zero o.one o.zero
          dual_rates (Derivative u t) s h g = absurd cc
          dual_rates (Independent i) (Derivative u t) h g = absurd cc
          dual_rates (Independent i) (Independent j) h g =
              point.rates i j (below_derivations (Independent i) h)
              (omega (arith, ltb-true j r.signature.independents g, fits.independents))
              ∙ by_order (ranking_cmp r (Independent i) (Independent j)) refl
            where
              apart : (q : Ordering) → ranking_cmp r (Independent i) (Independent j) ≡ q
                  → (q ≡ Equal → ⊥) → (i == j) ≡ false
              apart q f e =
                  ne_eqb i j (λ k. e (sym f
                  ∙ ap (λ m. ranking_cmp r (Independent i) (Independent m)) (sym k)
                  ∙ tied_itself (ranking_order r).total (Independent i)))

              by_order : (q : Ordering) → ranking_cmp r (Independent i) (Independent j) ≡ q
                  → cond (i == j) o.one o.zero ≡ match_ordering q o.zero o.one o.zero
              by_order Less f = ap (λ b. cond b o.one o.zero) (apart Less f (λ e. cc))
              by_order Greater f = ap (λ b. cond b o.one o.zero) (apart Greater f (λ e. cc))
              by_order Equal f =
                  ap (λ b. cond b o.one o.zero)
                  (eq-eqb i j (ap independent_place
                  ((ranking_order r).same (Independent i) (Independent j) f)))

      -- a ground polynomial that is not zero has a nonzero value
      pub ground_value : (a : Polynomial Symbol) → IsPolynomial (ranking_cmp r) a
          → PolynomialIn (BelongsTo r.signature) a → IsTrue (is_ground (symbols_under r) a) → a ≢ []
          → value_at o p a ≢ o.zero
      ground_value a canonical belongs no_derivative n =
          nonzero_laws (ranking_cmp r) (ranking_order r) o laws (symbol_value o p)
          (symbol_is_value laws point) (is_independent r.signature.independents)
          independent_place dual_derivations a canonical
          (ground_in_independents a belongs no_derivative) n

      -- of polynomial one, with what the i-th derivation makes of the i-th independent
      derivative_of_independent : (i : ℕ)
          → polynomial_derivative (ranking_cmp r) (symbol_rate i)
          (symbol_polynomial (Independent i)) ≡ polynomial_one
      unfolding symbol_rate
      derivative_of_independent i =
          (derivation_laws (ranking_cmp r) (symbol_rate i) (ranking_order r)).of_symbol
          (Independent i)
          ∙ ap (λ b. rate_polynomial (cond b unit constant)) (eq-eqb i i refl)

      -- one has no value zero
      one_value : value_at o p polynomial_one ≢ o.zero
      unfolding polynomial_one
      one_value = ground_value polynomial_one (one_is (ranking_order r)) (tt, tt) refl (λ e. cc)

      -- a derivation of polynomials whose values are derivatives of values takes no independent to
      -- zero
      pub independent_not_constant : (rate : Symbol → Rate Symbol) (i : ℕ)
          → i < r.signature.independents
          → ((a : Polynomial Symbol) → value_at o p (polynomial_derivative (ranking_cmp r) rate a)
          ≡ o.derivative i (value_at o p a))
          → rate (Independent i) ≢ constant
      independent_not_constant rate i h law e =
          let x : Polynomial Symbol = symbol_polynomial (Independent i) in
          one_value (ap (value_at o p) (sym (derivative_of_independent i))
          ∙ value_of_derivative i h x ∙ sym (law x)
          ∙ ap (value_at o p) ((derivation_laws (ranking_cmp r) rate (ranking_order r)).of_symbol
          (Independent i))
          ∙ ap (λ q. value_at o p (rate_polynomial q)) e)
