-- The polynomials with value zero in a domain are a prime ideal.
use Rattle.std.proofs.Common.{◌∙◌, inl, inr, IsTrue, refl, sym, ap, ap₂}
use Rattle.dz_algebra.specs.Domain.{Operations, DomainLaws}
use Rattle.dz_algebra.specs.Ring.{ring_of_values, product_zero}
use Rattle.dz_algebra.specs.Value.{value}
use Rattle.dz_algebra.proofs.DomainValues.{value_is_value, value_of_sum, value_of_product}
use Rattle.dz_algebra.proofs.PolynomialRing.{polynomial_ring}
use Rattle.dz_rank.specs.Rankings.{RankingValue, ranking_cmp}
use Rattle.dz_rank.specs.declared.symbols.Symbol.{Symbol}
use Rattle.dz_monomials.proofs.SymbolLaws.{ranking_order}
use Rattle.dz_jet.specs.Clashes.{HasZero}
use Rattle.dz_jet.proofs.Ideals.{IsPrimeIdeal}
use Rattle.dz_jet.proofs.Operators.{Poly}

module _ (r : RankingValue) {E : Type 0} {o : Operations E} (laws : DomainLaws o) (at : Symbol → E) (values : (v : Symbol) → IsTrue (o.is_value (at v))) where
  -- the polynomials with value zero
  abbrev pub Zeros : Poly r → Type 0
  Zeros p = HasZero o at p.0

  pub zeros_ideal : IsPrimeIdeal (polynomial_ring (ranking_order r)) Zeros
  zeros_ideal = record {
    zero = refl;
    sum = λ x y h k. value_of_sum laws at values (ranking_cmp r) (ranking_order r) x.0 y.0 ∙ ap₂ o.sum h k ∙ laws.zero_is_neutral o.zero laws.zero_is_value;
    multiple = λ x y h.
        value_of_product laws at values (ranking_cmp r) (ranking_order r) x.0 y.0 ∙ ap (o.product (value o.arithmetic at x.0)) h
        ∙ ap (λ z. z.0) (product_zero (ring_of_values laws) (value o.arithmetic at x.0, value_is_value laws at values x.0));
    prime = λ x y e n.
        elim (laws.no_zero_divisors (value o.arithmetic at x.0) (value o.arithmetic at y.0) (value_is_value laws at values x.0) (value_is_value laws at values y.0)
        (sym (value_of_product laws at values (ranking_cmp r) (ranking_order r) x.0 y.0) ∙ e)) [ inl h ↦ absurd (n h) | inr h ↦ h ];
  }
