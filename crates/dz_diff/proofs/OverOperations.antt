-- Operations keep polynomials over a ranking.
use Rattle.std.proofs.Common.{◌≡◌, ℕ, zero, suc, ◌+◌, ◌≤◌, ◌<◌, ◌==◌, max, true, false, cond, List, [], ◌∷◌, length, take, refl, subst, Ok, Some, arith}
use Rattle.std.proofs.lemmas.List.{length-take}
use Rattle.std.specs.declared.cmp.Ordering.TheVariants.{Less, Equal, Greater}
use Rattle.std.specs.Ordering.{match_ordering}
use Rattle.dz_algebra.specs.Monomial.{exponent}
use Rattle.dz_algebra.specs.Polynomial.{Polynomial, Contributions, PolynomialIn, negated}
use Rattle.dz_algebra.specs.Derivation.{RateIn, constant, unit, rate_by}
use Rattle.dz_algebra.specs.Norm.{norm}
use Rattle.dz_algebra.specs.Parts.{degree, leader}
use Rattle.dz_algebra.specs.Size.{operation, difference_answer, product_answer, derivation_answer, separant_answer, sum_answer}
use Rattle.dz_algebra.proofs.Inside.{in-append, in_pairs, in_collect, in_derivative, in_negated, in_norm, in_with_power, occurs}
use Rattle.dz_algebra.proofs.Operations.{operation_is}
use Rattle.dz_rank.specs.Rankings.{RankingValue, ranking_cmp}
use Rattle.dz_rank.specs.Symbols.{BelongsTo, is_derivative}
use Rattle.dz_rank.specs.declared.symbols.Operator.{Operator}
use Rattle.dz_rank.specs.declared.symbols.Symbol.{Symbol}
use Rattle.dz_rank.specs.declared.symbols.Symbol.TheVariants.{Independent, Derivative}
use Rattle.dz_rank.proofs.Belonging.{raised_belongs}
use Rattle.dz_monomials.specs.Ranked.{symbol_rate, symbols_under}
use Rattle.dz_monomials.proofs.SymbolLaws.{ranking_order}
use Rattle.dz_diff.specs.Operations.{iterated_answer, derivations_answer, operator_answer, setting_of}
use Rattle.dz_monomials.specs.Terms.{times_power}
use Rattle.dz_diff.specs.Over.{IsOver}
use Rattle.dz_algebra.proofs.Outcomes.{bind_ok}
use Rattle.dz_diff.proofs.Goodness.{good_norm}
use Rattle.dz_diff.proofs.Overs.{good_over}
use Rattle.dz_diff.proofs.LeaderBounds.{all_map, leader_in}

module _ (r : RankingValue) (P : Symbol → Type 0) where
  -- all symbols of a polynomial have P
  abbrev AllHave : Polynomial Symbol → Type 0
  AllHave = PolynomialIn P

  -- ---- operations without new symbols
  -- what an operation answers
  pub operation_in : (ts : Contributions Symbol) (a : Polynomial Symbol) → operation (symbols_under r) ts ≡ Ok a → AllHave ts → AllHave a
  operation_in ts a e h = subst AllHave (operation_is (symbols_under r) ts a e) (in_collect (ranking_cmp r) P ts h)

  -- what a partial derivative makes of a symbol
  pub rate_by_in : (v s : Symbol) → P s → RateIn P (rate_by (ranking_cmp r) v s)
  rate_by_in v s h = elim (ranking_cmp r s v) as (λ o. RateIn P (match_ordering o constant unit constant)) [ Less ↦ tt | Equal ↦ tt | Greater ↦ tt ]

  -- a separant
  pub separant_in : (v : Symbol) (a b : Polynomial Symbol) → separant_answer (symbols_under r) v a ≡ Ok b → AllHave a → AllHave b
  separant_in v a b e h = operation_in _ b e (in_derivative (ranking_cmp r) P (rate_by (ranking_cmp r) v) (rate_by_in v) a h)

  -- a sum
  pub sum_in : (a b c : Polynomial Symbol) → sum_answer (symbols_under r) a b ≡ Ok c → AllHave a → AllHave b → AllHave c
  sum_in a b c e h k = operation_in _ c e (in-append (ranking_cmp r) P a b h k)

  -- a product
  pub product_in : (a b c : Polynomial Symbol) → product_answer (symbols_under r) a b ≡ Ok c → AllHave a → AllHave b → AllHave c
  product_in a b c e h k = operation_in _ c e (in_pairs (ranking_cmp r) P a b h k)

  -- a difference
  pub difference_in : (a b c : Polynomial Symbol) → difference_answer (symbols_under r) a b ≡ Ok c → AllHave a → AllHave b → AllHave c
  difference_in a b c e h k = operation_in _ c e (in-append (ranking_cmp r) P a (negated b) h (in_negated (ranking_cmp r) P b k))

  -- a polynomial times a power
  pub times_power_in : (v : Symbol) (k : ℕ) (p : Polynomial Symbol) → P v → AllHave p → AllHave (times_power (ranking_cmp r) v k p)
  times_power_in v zero p i h = h
  times_power_in v (suc k) [] i h = h
  times_power_in v (suc k) (t ∷ p) i h = (in_with_power (ranking_cmp r) P v (suc k) t.0 i h.0, times_power_in v (suc k) p i h.1)

  -- a symbol that occurs
  pub degree_in : (v : Symbol) (p : Polynomial Symbol) → 1 ≤ degree (ranking_cmp r) v p → AllHave p → P v
  degree_in v [] l h = absurd (omega (arith, l))
  degree_in v (t ∷ p) l h = by_exponent (exponent (ranking_cmp r) v t.0) refl (λ k. degree_in v p k h.1) l
    where
      by_exponent : (e : ℕ) → exponent (ranking_cmp r) v t.0 ≡ e → (1 ≤ degree (ranking_cmp r) v p → P v) → 1 ≤ max (exponent (ranking_cmp r) v t.0) (degree (ranking_cmp r) v p) → P v
      by_exponent zero f ih l = ih (omega (arith, f, l))
      by_exponent (suc e) f ih l = occurs (ranking_order r) P v t.0 (λ z. omega (arith, f, z)) h.0

module _ (r : RankingValue) (few : r.signature.independents ≤ 4) where
  -- the symbol belongs to the signature
  abbrev Belongs : Symbol → Type 0
  Belongs = BelongsTo r.signature

  -- and so do all symbols of a polynomial
  abbrev AllBelong : Polynomial Symbol → Type 0
  AllBelong = PolynomialIn (BelongsTo r.signature)

  -- what a derivation makes of a symbol
  rate_belongs : (i : ℕ) (s : Symbol) → i < r.signature.independents → Belongs s → RateIn Belongs (symbol_rate i s)
  unfolding symbol_rate
  rate_belongs i (Independent j) l h = elim (i == j) as (λ b. RateIn Belongs (cond b unit constant)) [ true ↦ tt | false ↦ tt ]
  rate_belongs i (Derivative u t) l h = raised_belongs r.signature i (Derivative u t) l (omega (arith, l, few)) h

  -- a derivation
  derivation_belongs : (i : ℕ) (a b : Polynomial Symbol) → i < r.signature.independents → derivation_answer (symbols_under r) i a ≡ Ok b → AllBelong a → AllBelong b
  derivation_belongs i a b l e h = operation_in r Belongs _ b e (in_derivative (ranking_cmp r) Belongs (symbol_rate i) (λ s k. rate_belongs i s l k) a h)

  -- a derivation taken several times
  iterated_belongs : (i k : ℕ) (a b : Polynomial Symbol) → i < r.signature.independents → iterated_answer (symbols_under r) i k a ≡ Ok b → AllBelong a → AllBelong b
  iterated_belongs i zero a b l e h = let f : a ≡ b = cc in subst AllBelong f h
  iterated_belongs i (suc k) a b l e h =
      let parts = bind_ok (iterated_answer (symbols_under r) i k a) (derivation_answer (symbols_under r) i) b e in
      derivation_belongs i parts.0 b l parts.2 (iterated_belongs i k a parts.0 l parts.1 h)

  -- the derivations from one on
  derivations_belong : (i : ℕ) (ks : List ℕ) (a b : Polynomial Symbol) → i + length ks ≤ r.signature.independents → derivations_answer (symbols_under r) i ks a ≡ Ok b → AllBelong a → AllBelong b
  derivations_belong i [] a b l e h = let f : a ≡ b = cc in subst AllBelong f h
  derivations_belong i (k ∷ ks) a b l e h =
      let parts = bind_ok (iterated_answer (symbols_under r) i k a) (derivations_answer (symbols_under r) (suc i) ks) b e in
      derivations_belong (suc i) ks parts.0 b (omega (arith, l)) parts.2 (iterated_belongs i k a parts.0 (omega (arith, l)) parts.1 h)

  -- an operator
  pub operator_belongs : (t : Operator) (a b : Polynomial Symbol) → operator_answer (setting_of r) t a ≡ Ok b → AllBelong a → AllBelong b
  operator_belongs t a b e h = derivations_belong 0 (take r.signature.independents t.counts) a b (omega (arith, length-take r.signature.independents t.counts)) e h

  -- a norm is over the ranking
  pub norm_over : (p : Polynomial Symbol) → IsOver r p → IsOver r (norm p)
  norm_over p h = record { canonical = (good_norm r p (good_over r p h)).0; belongs = in_norm (ranking_cmp r) Belongs p h.belongs }

  -- a leader belongs to the signature
  pub leader_belongs : (q : Polynomial Symbol) (l : Symbol) → leader (symbols_under r) q ≡ Some l → AllBelong q → Belongs l
  leader_belongs q l e h = leader_in r Belongs q l e (all_map r Belongs (λ s. is_derivative s ≡ true → Belongs s) (λ s k z. k) q h)
