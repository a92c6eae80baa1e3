-- Operations on canonical polynomials in the symbols of a signature give such.
use Rattle.std.proofs.Common.{◌≡◌, ℕ, zero, suc, ◌<◌, ◌==◌, true, false, cond, List, [], ◌∷◌, take, ℤ, arith, subst, Ok}
use Rattle.std.specs.Prelude.{⊤}
use Rattle.std.specs.declared.cmp.Ordering.TheVariants.{Less, Equal, Greater}
use Rattle.std.specs.Ordering.{match_ordering}
use Rattle.dz_algebra.specs.Monomial.{monomial_cmp}
use Rattle.dz_algebra.specs.Polynomial.{Polynomial, Contributions, IsPolynomial, PolynomialIn, AreMonomials, collect, negated}
use Rattle.dz_algebra.specs.Derivation.{RateIn, constant, unit, rate_by}
use Rattle.dz_algebra.specs.Parts.{coefficient_of}
use Rattle.dz_algebra.specs.Norm.{divided, norm}
use Rattle.dz_algebra.specs.Size.{operation, difference_answer, product_answer, derivation_answer, separant_answer}
use Rattle.dz_algebra.proofs.Canonical.{collect_is, are_monomials, monomials-append}
use Rattle.dz_algebra.proofs.Coefficients.{coefficient_of_is}
use Rattle.dz_algebra.proofs.Derivations.{monomials_derivative}
use Rattle.dz_algebra.proofs.Inside.{in-append, in_pairs, in_collect, in_derivative, in_coefficient, in_norm, in_with_power}
use Rattle.dz_algebra.proofs.Monomials.{with_power_is}
use Rattle.dz_algebra.proofs.NormLaws.{norm_is}
use Rattle.dz_algebra.proofs.Operations.{operation_is}
use Rattle.dz_algebra.proofs.Products.{monomials_pairs}
use Rattle.dz_rank.specs.Rankings.{RankingValue, ranking_cmp}
use Rattle.dz_rank.specs.declared.symbols.Operator.{Operator}
use Rattle.dz_rank.specs.declared.symbols.Symbol.{Symbol}
use Rattle.dz_rank.specs.declared.symbols.Symbol.TheVariants.{Independent, Derivative}
use Rattle.dz_monomials.specs.Ranked.{symbol_rate, symbols_under}
use Rattle.dz_monomials.proofs.SymbolLaws.{ranking_order}
use Rattle.dz_diff.specs.Operations.{iterated_answer, derivations_answer, operator_answer, setting_of}
use Rattle.dz_monomials.specs.Terms.{times_power}
use Rattle.dz_algebra.proofs.Outcomes.{bind_ok}

-- an independent below n, or any derivative
abbrev pub IsInRange : ℕ → Symbol → Type 0
IsInRange n (Independent j) = j < n
IsInRange n (Derivative u t) = ⊤

module _ (r : RankingValue) where
  -- a symbol whose number, if it is an independent, is one of the signature
  abbrev pub InRange : Symbol → Type 0
  InRange = IsInRange r.signature.independents

  -- canonical, with independents of the signature alone
  abbrev pub Good : Polynomial Symbol → Type 0
  Good p = IsPolynomial (ranking_cmp r) p × PolynomialIn InRange p

  -- contributions at monomials, with independents of the signature alone
  abbrev pub Goods : Contributions Symbol → Type 0
  Goods ts = AreMonomials (ranking_cmp r) ts × PolynomialIn InRange ts

  -- the terms of a polynomial are contributions
  pub good_terms : (p : Polynomial Symbol) → Good p → Goods p
  good_terms p h = (are_monomials (ranking_order r) p h.0, h.1)

  -- what contributions make
  pub good_collected : (ts : Contributions Symbol) → Goods ts → Good (collect (monomial_cmp (ranking_cmp r)) ts)
  good_collected ts h = (collect_is (ranking_order r) ts h.0, in_collect (ranking_cmp r) InRange ts h.1)

  -- what an operation answers
  pub good_operation : (ts : Contributions Symbol) (a : Polynomial Symbol) → operation (symbols_under r) ts ≡ Ok a → Goods ts → Good a
  good_operation ts a e h = subst Good (operation_is (symbols_under r) ts a e) (good_collected ts h)

  rate_keeps : (i : ℕ) (s : Symbol) → InRange s → RateIn InRange (symbol_rate i s)
  unfolding symbol_rate
  rate_keeps i (Independent j) h = elim (i == j) as (λ b. RateIn InRange (cond b unit constant)) [ true ↦ tt | false ↦ tt ]
  rate_keeps i (Derivative u t) h = tt

  rate_by_keeps : (v s : Symbol) → InRange s → RateIn InRange (rate_by (ranking_cmp r) v s)
  rate_by_keeps v s h = elim (ranking_cmp r s v) as (λ o. RateIn InRange (match_ordering o constant unit constant)) [ Less ↦ tt | Equal ↦ tt | Greater ↦ tt ]

  -- a derivation
  pub good_derivation : (i : ℕ) (a b : Polynomial Symbol) → derivation_answer (symbols_under r) i a ≡ Ok b → Good a → Good b
  good_derivation i a b e h =
      good_operation _ b e (monomials_derivative (ranking_order r) (symbol_rate i) a (good_terms a h).0, in_derivative (ranking_cmp r) InRange (symbol_rate i) (rate_keeps i) a h.1)

  -- a separant
  pub good_separant : (v : Symbol) (a b : Polynomial Symbol) → separant_answer (symbols_under r) v a ≡ Ok b → Good a → Good b
  good_separant v a b e h =
      good_operation _ b e (monomials_derivative (ranking_order r) (rate_by (ranking_cmp r) v) a (good_terms a h).0, in_derivative (ranking_cmp r) InRange (rate_by (ranking_cmp r) v) (rate_by_keeps v) a h.1)

  -- a product
  pub good_product : (a b c : Polynomial Symbol) → product_answer (symbols_under r) a b ≡ Ok c → Goods a → Goods b → Good c
  good_product a b c e h k = good_operation _ c e (monomials_pairs (ranking_order r) a b h.0 k.0, in_pairs (ranking_cmp r) InRange a b h.1 k.1)

  goods_negated : (ts : Contributions Symbol) → Goods ts → Goods (negated ts)
  goods_negated [] h = h
  goods_negated (t ∷ ts) h = let more = goods_negated ts (h.0.1, h.1.1) in ((h.0.0, more.0), (h.1.0, more.1))

  -- a difference
  pub good_difference : (a b c : Polynomial Symbol) → difference_answer (symbols_under r) a b ≡ Ok c → Good a → Good b → Good c
  good_difference a b c e h k =
      let left = good_terms a h in
      let right = goods_negated b (good_terms b k) in
      good_operation _ c e (monomials-append (ranking_order r) a (negated b) left.0 right.0, in-append (ranking_cmp r) InRange a (negated b) left.1 right.1)

  -- a derivation taken several times
  pub good_iterated : (i k : ℕ) (a b : Polynomial Symbol) → iterated_answer (symbols_under r) i k a ≡ Ok b → Good a → Good b
  good_iterated i zero a b e h = let f : a ≡ b = cc in subst Good f h
  good_iterated i (suc k) a b e h =
      let parts = bind_ok (iterated_answer (symbols_under r) i k a) (derivation_answer (symbols_under r) i) b e in
      good_derivation i parts.0 b parts.2 (good_iterated i k a parts.0 parts.1 h)

  good_derivations : (i : ℕ) (ks : List ℕ) (a b : Polynomial Symbol) → derivations_answer (symbols_under r) i ks a ≡ Ok b → Good a → Good b
  good_derivations i [] a b e h = let f : a ≡ b = cc in subst Good f h
  good_derivations i (k ∷ ks) a b e h =
      let parts = bind_ok (iterated_answer (symbols_under r) i k a) (derivations_answer (symbols_under r) (suc i) ks) b e in
      good_derivations (suc i) ks parts.0 b parts.2 (good_iterated i k a parts.0 parts.1 h)

  -- an operator
  pub good_operator : (t : Operator) (a b : Polynomial Symbol) → operator_answer (setting_of r) t a ≡ Ok b → Good a → Good b
  good_operator t a b e h = good_derivations 0 (take r.signature.independents t.counts) a b e h

  -- the norm
  pub good_norm : (p : Polynomial Symbol) → Good p → Good (norm p)
  good_norm p h = (norm_is (ranking_cmp r) p h.0, in_norm (ranking_cmp r) InRange p h.1)

  -- the coefficient of a power
  pub good_coefficient : (v : Symbol) (k : ℕ) (p : Polynomial Symbol) → Good p → Good (coefficient_of (ranking_cmp r) v k p)
  good_coefficient v k p h = (coefficient_of_is (ranking_order r) v k p h.0, in_coefficient (ranking_cmp r) InRange v k p h.1)

  -- a quotient by a whole number
  pub goods_divided : (k : ℤ) (p : Polynomial Symbol) → Goods p → Goods (divided k p)
  goods_divided k [] h = (tt, tt)
  goods_divided k (t ∷ p) h = let more = goods_divided k p (h.0.1, h.1.1) in ((h.0.0, more.0), (h.1.0, more.1))

  -- a polynomial times a power
  pub goods_times_power : (v : Symbol) (k : ℕ) (p : Polynomial Symbol) → InRange v → Goods p → Goods (times_power (ranking_cmp r) v k p)
  goods_times_power v zero p i h = h
  goods_times_power v (suc k) [] i h = h
  goods_times_power v (suc k) (t ∷ p) i h =
      let more = goods_times_power v (suc k) p i (h.0.1, h.1.1) in
      ((with_power_is (ranking_order r) v (suc k) t.0 (omega arith) h.0.0, more.0), (in_with_power (ranking_cmp r) InRange v (suc k) t.0 i h.1.0, more.1))
