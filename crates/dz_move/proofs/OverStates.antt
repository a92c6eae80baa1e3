-- The states of a tree are over the ranking that its system is over.
use Rattle.std.proofs.Common.{◌≡◌, ◌≢◌, ℕ, ℤ, zero, suc, ◌-◌, ◌<◌, ◌≤◌, ◌==◌, min, true, not, [], ◌∷◌, Ok, arith}
use Rattle.dz_algebra.specs.Monomial.{Monomial, MonomialIn, exponent, without}
use Rattle.dz_algebra.specs.Norm.{norm}
use Rattle.dz_algebra.specs.Polynomial.{Polynomial, PolynomialIn, symbol_polynomial}
use Rattle.dz_algebra.proofs.Generic.{symbol_is}
use Rattle.dz_algebra.proofs.Inside.{in_collect, in_with_power, in_without, occurs}
use Rattle.dz_rank.specs.Rankings.{RankingValue, ranking_cmp}
use Rattle.dz_rank.specs.Symbols.{BelongsTo}
use Rattle.dz_rank.specs.declared.symbols.Symbol.{Symbol}
use Rattle.dz_monomials.specs.Ranked.{symbols_under}
use Rattle.dz_monomials.proofs.SymbolLaws.{ranking_order}
use Rattle.dz_monomials.specs.Lists.{AllOf}
use Rattle.dz_diff.specs.Operations.{setting_of}
use Rattle.dz_diff.specs.Over.{IsOver, AreOver}
use Rattle.dz_move.specs.Root.{System, root_of}
use Rattle.dz_diff.specs.State.{State}
use Rattle.dz_diff.proofs.Overs.{good_over}
use Rattle.dz_step.specs.declared.Which.{Which}
use Rattle.dz_step.specs.Step.{multiplier_answer}
use Rattle.dz_step.proofs.TakenSteps.{good_multiplier}
use Rattle.dz_monomials.specs.PowerDivision.{divided_by, divisor_power, is_divided, least_exponent, quotient_by, with_exponent}
use Rattle.dz_move.specs.Moves.{Action, Done, perform}
use Rattle.dz_move.proofs.Quotients.{good_quotient}
use Rattle.dz_move.proofs.KeptMembers.{AreKept, HaveAll, all_give, perform_kept, root_kept}
use Rattle.dz_diff.proofs.OverOperations.{norm_over}
use Rattle.dz_step.proofs.OverSteps.{multiplier_in, step_over}
use Rattle.dz_pair.proofs.OverDeltas.{delta_over}

module _ (r : RankingValue) (few : r.signature.independents ≤ 4) where
  -- all polynomials of a state are over the ranking
  abbrev pub StateOver : State → Type 0
  StateOver s = AreOver r s.equations s.inequations

  -- the least exponent is none above
  pub least_most : (v : Symbol) (k : ℕ) (p : Polynomial Symbol) → least_exponent (ranking_cmp r) v k p ≤ k
  least_most v k [] = omega arith
  least_most v k (t ∷ p) = omega (arith, least_most v (min k (exponent (ranking_cmp r) v t.0)) p)

  -- a symbol that divides a polynomial occurs in its first term
  pub divisor_occurs : (v : Symbol) (t : Monomial Symbol × ℤ) (p : Polynomial Symbol) → is_divided (ranking_cmp r) v (t ∷ p) ≡ true → 0 < exponent (ranking_cmp r) v t.0
  divisor_occurs v t p e = by_exponent (exponent (ranking_cmp r) v t.0) (least_most v (exponent (ranking_cmp r) v t.0) p) e
    where
      no_divisor : (k : ℕ) → k ≡ 0 → not (k == 0) ≡ true → ⊥
      no_divisor zero z e = cc
      no_divisor (suc k) z e = cc

      by_exponent : (k : ℕ) → least_exponent (ranking_cmp r) v k p ≤ k → not (least_exponent (ranking_cmp r) v k p == 0) ≡ true → 0 < k
      by_exponent zero l e = absurd (no_divisor (least_exponent (ranking_cmp r) v zero p) (omega (arith, l)) e)
      by_exponent (suc k) l e = omega arith

  -- so it belongs to the signature
  pub divisor_belongs : (v : Symbol) (p : Polynomial Symbol) → is_divided (ranking_cmp r) v p ≡ true → PolynomialIn (BelongsTo r.signature) p → BelongsTo r.signature v
  divisor_belongs v [] e h = cc
  divisor_belongs v (t ∷ p) e h = let k = divisor_occurs v t p e in occurs (ranking_order r) (BelongsTo r.signature) v t.0 (λ z. omega (arith, k, z)) h.0

  -- the symbol itself
  symbol_over : (v : Symbol) → BelongsTo r.signature v → IsOver r (symbol_polynomial v)
  symbol_over v h = record { canonical = symbol_is (ranking_order r) v; belongs = ((h, tt), tt) }

  -- the terms divided by a power
  divided_belongs : (v : Symbol) (k : ℕ) (p : Polynomial Symbol) → PolynomialIn (BelongsTo r.signature) p → PolynomialIn (BelongsTo r.signature) (divided_by (ranking_cmp r) v k p)
  divided_belongs v k [] h = h
  divided_belongs v k (t ∷ p) h = (by_exponent (exponent (ranking_cmp r) v t.0 - k) (λ z. omega arith), divided_belongs v k p h.1)
    where
      by_exponent : (e : ℕ) → (e ≢ 0 → exponent (ranking_cmp r) v t.0 ≢ 0) → MonomialIn (BelongsTo r.signature) (with_exponent (ranking_cmp r) v e (without (ranking_cmp r) v t.0))
      by_exponent zero n = in_without (ranking_cmp r) (BelongsTo r.signature) v t.0 h.0
      by_exponent (suc e) n =
          in_with_power (ranking_cmp r) (BelongsTo r.signature) v (suc e) (without (ranking_cmp r) v t.0) (occurs (ranking_order r) (BelongsTo r.signature) v t.0 (n (λ z. cc)) h.0) (in_without (ranking_cmp r) (BelongsTo r.signature) v t.0 h.0)

  -- the quotient by its greatest power
  quotient_over : (v : Symbol) (p : Polynomial Symbol) → IsOver r p → IsOver r (quotient_by (ranking_cmp r) v p)
  quotient_over v p h = record {
    canonical = (good_quotient r v p (good_over r p h)).0;
    belongs = in_collect (ranking_cmp r) (BelongsTo r.signature) _ (divided_belongs v (divisor_power (ranking_cmp r) v p) p h.belongs);
  }

  -- the norm of a multiplier
  multiplier_over : (which : Which) (l : Symbol) (p m : Polynomial Symbol) → multiplier_answer (symbols_under r) which l p ≡ Ok m → IsOver r p → IsOver r (norm m)
  multiplier_over which l p m e h = norm_over r few m (record { canonical = (good_multiplier r which l p m e (good_over r p h)).0; belongs = multiplier_in r (BelongsTo r.signature) which l p m e h.belongs })

  -- ---- states
  -- the operations keep polynomials over the ranking
  over_kept : AreKept r (IsOver r)
  over_kept = record {
    norms = norm_over r few;
    steps = step_over r few;
    deltas = delta_over r few;
    quotients = quotient_over;
    multipliers = multiplier_over;
    symbols = λ v p e h. symbol_over v (divisor_belongs v p e h.belongs);
  }

  as_over : (s : State) → HaveAll (IsOver r) s → StateOver s
  as_over s h = record { equations_over = h.equations; inequations_over = h.inequations }

  -- so do moves and forks
  pub perform_over : (s : State) (action : Action) (d : Done) → StateOver s → perform (setting_of r) s action ≡ Ok d → AllOf StateOver d.after
  perform_over s action d h e = all_give (HaveAll (IsOver r)) StateOver as_over d.after (perform_kept r (IsOver r) over_kept s action d (record { equations = h.equations_over; inequations = h.inequations_over }) e)

  -- and the root
  pub root_over : (system : System) → AreOver r system.equations system.inequations → StateOver (root_of (symbols_under r) system)
  root_over system h = as_over (root_of (symbols_under r) system) (root_kept r (IsOver r) over_kept system h.equations_over h.inequations_over)
