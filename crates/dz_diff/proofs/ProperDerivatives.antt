-- The leader, the degree and the initial of the derivative by a proper operator.
use Rattle.std.proofs.Common.{◌≡◌, ◌⊎◌, inl, inr, ◌≢◌, ℕ, zero, suc, ◌+◌, ◌==◌, ◌≤◌, ◌<◌, true, cond, [], ◌∷◌, length, Option, Some, None, refl, sym, ap, ◌∙◌, arith, subst}
use Rattle.std.specs.declared.cmp.Ordering.{Ordering}
use Rattle.std.specs.declared.cmp.Ordering.TheVariants.{Less, Equal, Greater}
use Rattle.std.specs.Ordering.{match_ordering}
use Rattle.std.specs.Cmp.{tied_itself}
use Rattle.dz_algebra.specs.Order.{IsOrder}
use Rattle.dz_algebra.specs.Symbols.{Symbols}
use Rattle.dz_algebra.specs.Monomial.{Monomial, MonomialIn, monomial_cmp, exponent, without}
use Rattle.dz_algebra.specs.Polynomial.{Polynomial, PolynomialIn, collect}
use Rattle.dz_algebra.specs.Derivation.{derivative_contributions, polynomial_derivative, rate_by}
use Rattle.dz_algebra.specs.Parts.{coefficient_of, degree, leader, separant}
use Rattle.dz_algebra.proofs.Canonical.{collected}
use Rattle.dz_algebra.proofs.Coefficients.{coefficient_of_is}
use Rattle.dz_algebra.proofs.Leaders.{leader_occurs}
use Rattle.dz_rank.specs.Rankings.{RankingValue, ranking_cmp}
use Rattle.dz_rank.specs.Symbols.{derivative_by, is_derivative}
use Rattle.dz_rank.specs.declared.symbols.Operator.{Operator}
use Rattle.dz_rank.specs.declared.symbols.Symbol.{Symbol}
use Rattle.dz_rank.specs.declared.symbols.Symbol.TheVariants.{Independent, Derivative}
use Rattle.dz_monomials.specs.Ranked.{symbols_under}
use Rattle.dz_monomials.proofs.SymbolLaws.{ranking_order}
use Rattle.dz_diff.specs.Laws.{IsLinearIn, IsProperDerivative}
use Rattle.dz_diff.proofs.LeaderBounds.{IsTop, leader_all, leader_in, leader_is_one, leader_regular, most_degree, under_leader}
use Rattle.dz_diff.proofs.LeaderDerivations.{IsRegular, IsUnder}
use Rattle.dz_diff.proofs.OperatorLeaders.{operator_leads}
use Rattle.dz_diff.proofs.Overs.{polynomial_in, regular_over}
use Rattle.dz_diff.proofs.Separants.{IsNotAbove, separant_nonzero}

module _ {cmp : Symbol → Symbol → Ordering} (order : IsOrder cmp) (v : Symbol) where
  occurs_monomial : (P : Symbol → Type 0) (m : Monomial Symbol) → MonomialIn P m → 0 < exponent cmp v m → P v
  occurs_monomial P [] h k = absurd (omega (arith, k))
  occurs_monomial P (p ∷ m) h k = by_order (cmp v p.0) refl k (occurs_monomial P m h.1)
    where
      by_order : (o : Ordering) → cmp v p.0 ≡ o → 0 < match_ordering o (exponent cmp v m) (p.1 + exponent cmp v m) (exponent cmp v m) → (0 < exponent cmp v m → P v) → P v
      by_order Less e k rest = rest k
      by_order Equal e k rest = subst P (sym (order.same v p.0 e)) h.0
      by_order Greater e k rest = rest k

  -- what holds at every symbol holds at one that occurs
  occurs_polynomial : (P : Symbol → Type 0) (p : Polynomial Symbol) → PolynomialIn P p → 0 < degree cmp v p → P v
  occurs_polynomial P [] h k = absurd (omega (arith, k))
  occurs_polynomial P (t ∷ p) h k = by_exponent (exponent cmp v t.0) refl (occurs_polynomial P p h.1)
    where
      by_exponent : (e : ℕ) → exponent cmp v t.0 ≡ e → (0 < degree cmp v p → P v) → P v
      by_exponent zero e rest = rest (omega (arith, k, e))
      by_exponent (suc n) e rest = occurs_monomial P t.0 h.0 (omega (arith, e))

  -- a symbol that does not occur has no first power
  no_power : (p : Polynomial Symbol) → degree cmp v p ≡ 0 → coefficient_of cmp v 1 p ≡ []
  no_power [] e = refl
  no_power (t ∷ p) e =
      let none : exponent cmp v t.0 ≡ 0 = omega (arith, e) in
      ap (λ x. cond (x == 1) ((without cmp v t.0, t.1) ∷ coefficient_of cmp v 1 p) (coefficient_of cmp v 1 p)) none ∙ no_power p (omega (arith, e))

module _ (r : RankingValue) where
  abbrev g : Symbols Symbol
  g = symbols_under r

  abbrev order : IsOrder (ranking_cmp r)
  order = ranking_order r

  -- a derivative that occurs, and that no symbol is above, is the leader
  greatest_leads : (v : Symbol) (p : Polynomial Symbol) → is_derivative v ≡ true → PolynomialIn (IsNotAbove order v) p → 0 < degree g.cmp v p → leader g p ≡ Some v
  greatest_leads v p d below some = by_leader (leader g p) refl
    where
      top : IsTop r (leader g p) v
      top = occurs_polynomial order v (λ s. is_derivative s ≡ true → IsTop r (leader g p) s) p (leader_all r p None) some d

      by_leader : (o : Option Symbol) → leader g p ≡ o → o ≡ Some v
      by_leader None e = absurd (subst (λ o. IsTop r o v) e top)
      by_leader (Some x) e = by_order (subst (λ o. IsTop r o v) e top) (leader_in r (IsNotAbove order v) p x e (polynomial_in (IsNotAbove order v) (λ s. is_derivative s ≡ true → IsNotAbove order v s) (λ s k _. k) p below))
        where
          by_order : (g.cmp v x ≡ Less) ⊎ (v ≡ x) → (g.cmp x v ≡ Less) ⊎ (x ≡ v) → Some x ≡ Some v
          by_order (inr k) j = ap (λ s. Some s) (sym k)
          by_order (inl k) (inr j) = ap (λ s. Some s) j
          by_order (inl k) (inl j) = let less : g.cmp v v ≡ Less = order.total.trans v x v k j in let same = tied_itself order.total v in absurd cc

  module _ (few : r.signature.independents ≤ 4) (t : Operator) (q p : Polynomial Symbol) where
    linear_at : (u : ℕ) (s : Operator) → IsProperDerivative r t q (Derivative u s) p → IsLinearIn r (derivative_by t (Derivative u s)) (separant (ranking_cmp r) (Derivative u s) q) p
    unfolding polynomial_derivative
    linear_at u s h =
        let l : Symbol = Derivative u s in
        let v : Symbol = derivative_by t l in
        let m : Polynomial Symbol = collect (monomial_cmp g.cmp) (derivative_contributions g.cmp (rate_by g.cmp l) q) in
        let regular : PolynomialIn (IsRegular 4) q = regular_over r q h.over in
        let size : length s.counts ≡ 4 = leader_regular r q l h.leads regular in
        let under : PolynomialIn (IsUnder g.cmp 4 l) q = under_leader r 4 q u s h.leads regular in
        let top = operator_leads r u m few t s.counts q p size h.operator h.over.canonical under refl h.proper h.answer in
        let there : 0 < degree g.cmp l q = (leader_occurs g order q l h.over.canonical h.leads).1 in
        let nonzero : m ≢ [] = separant_nonzero order l q h.over.canonical (polynomial_in (IsUnder g.cmp 4 l) (IsNotAbove order l) (λ x k. k.1) q under) there in
        let below : PolynomialIn (IsNotAbove order v) p = polynomial_in (IsUnder g.cmp 4 v) (IsNotAbove order v) (λ x k. k.1) p top.1 in
        let one : degree g.cmp v p ≡ 1 = by_degree (derivative_by t (Derivative u s)) m (degree g.cmp (derivative_by t (Derivative u s)) p) refl (most_degree g.cmp v 1 p top.2) top.3 nonzero in
        record {
          leads = greatest_leads v p refl below (omega (arith, one));
          linear = one;
          initial_is = ap (λ k. coefficient_of g.cmp v k p) one ∙ sym (collected order (coefficient_of g.cmp v 1 p) (coefficient_of_is order v 1 p top.0)) ∙ top.3;
          below = below;
        }
      where
        by_degree : (v : Symbol) (m : Polynomial Symbol) (d : ℕ) → degree g.cmp v p ≡ d → degree g.cmp v p ≤ 1 → collect (monomial_cmp g.cmp) (coefficient_of g.cmp v 1 p) ≡ m → m ≢ [] → degree g.cmp v p ≡ 1
        by_degree v m zero e most made nonzero = absurd (nonzero (sym made ∙ ap (collect (monomial_cmp g.cmp)) (no_power order v p e)))
        by_degree v m (suc d) e most made nonzero = omega (arith, e, most)

-- the derivative by a proper operator is linear in that derivative of the leader, with the separant as initial
pub proper_derivative_linear : (r : RankingValue) (t : Operator) (q p : Polynomial Symbol) (l : Symbol) → r.signature.independents ≤ 4 → IsProperDerivative r t q l p → IsLinearIn r (derivative_by t l) (separant (ranking_cmp r) l q) p
proper_derivative_linear r t q p (Derivative u s) few h = linear_at r few t q p u s h
proper_derivative_linear r t q p (Independent i) few h = let d : is_derivative (Independent i) ≡ true = leader_is_one r q (Independent i) h.leads in absurd cc
