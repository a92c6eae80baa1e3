-- The quotient by the greatest power of a symbol is canonical, in the signature.
use Rattle.std.proofs.Common.{◌≢◌, ℕ, zero, suc, ◌-◌, [], ◌∷◌, arith}
use Rattle.dz_algebra.specs.Monomial.{MonomialIn, IsMonomial, exponent, without}
use Rattle.dz_algebra.specs.Polynomial.{Polynomial}
use Rattle.dz_algebra.proofs.Coefficients.{without_is}
use Rattle.dz_algebra.proofs.Inside.{in_with_power, in_without, occurs}
use Rattle.dz_algebra.proofs.Monomials.{with_power_is}
use Rattle.dz_rank.specs.Rankings.{RankingValue, ranking_cmp}
use Rattle.dz_rank.specs.declared.symbols.Symbol.{Symbol}
use Rattle.dz_monomials.proofs.SymbolLaws.{ranking_order}
use Rattle.dz_diff.proofs.Goodness.{Good, Goods, InRange, good_terms, good_collected}
use Rattle.dz_monomials.specs.PowerDivision.{with_exponent, divided_by, quotient_by}

module _ (r : RankingValue) where
  goods_divided_by : (v : Symbol) (k : ℕ) (p : Polynomial Symbol) → Goods r p → Goods r (divided_by (ranking_cmp r) v k p)
  goods_divided_by v k [] h = h
  goods_divided_by v k (t ∷ p) h =
      let more = goods_divided_by v k p (h.0.1, h.1.1) in
      let first = by_exponent (exponent (ranking_cmp r) v t.0 - k) (λ z. omega arith) in
      ((first.0, more.0), (first.1, more.1))
    where
      by_exponent : (e : ℕ) → (e ≢ 0 → exponent (ranking_cmp r) v t.0 ≢ 0)
          → IsMonomial (ranking_cmp r) (with_exponent (ranking_cmp r) v e (without (ranking_cmp r) v t.0)) × MonomialIn (InRange r) (with_exponent (ranking_cmp r) v e (without (ranking_cmp r) v t.0))
      by_exponent zero n = (without_is (ranking_order r) v t.0 h.0.0, in_without (ranking_cmp r) (InRange r) v t.0 h.1.0)
      by_exponent (suc e) n = (
        with_power_is (ranking_order r) v (suc e) (without (ranking_cmp r) v t.0) (omega arith) (without_is (ranking_order r) v t.0 h.0.0),
        in_with_power (ranking_cmp r) (InRange r) v (suc e) (without (ranking_cmp r) v t.0) (occurs (ranking_order r) (InRange r) v t.0 (n (λ z. cc)) h.1.0) (in_without (ranking_cmp r) (InRange r) v t.0 h.1.0),
      )

  -- the quotient
  pub good_quotient : (v : Symbol) (p : Polynomial Symbol) → Good r p → Good r (quotient_by (ranking_cmp r) v p)
  good_quotient v p h = good_collected r _ (goods_divided_by v _ p (good_terms r p h))
