-- The members of all states that are reached may stand in a book, where those of the system may.
use Rattle.std.specs.Prelude.{unsigned_abs}
use Rattle.std.proofs.Common.{◌≡◌, ◌≤◌, nat_lt, Bool, true, false, cond, List, [], ◌∷◌, ◌++◌, length, map, ℤ, pos, refl, sym, ◌∙◌, subst, Ok, Some, None, inl, inr, arith}
use Rattle.std.proofs.lemmas.Bool.{ltb-false}
use Rattle.dz_algebra.specs.declared.Limit.TheVariants as limits
use Rattle.std.proofs.lemmas.List.Elements.{All-nil}
use Rattle.dz_algebra.specs.Amount.{greatest}
use Rattle.dz_algebra.specs.Derivation.{derivative_contributions, rate_by}
use Rattle.dz_algebra.specs.Monomial.{Monomial, monomial_cmp}
use Rattle.dz_algebra.specs.Norm.{divided, norm, signed_content}
use Rattle.dz_algebra.specs.Parts.{coefficient_of, degree}
use Rattle.dz_algebra.specs.Polynomial.{Polynomial, AreMonomials, collect, negated, symbol_polynomial}
use Rattle.dz_algebra.specs.Size.{difference_answer, has_high_exponent, has_high_order, limit_of, symbols}
use Rattle.dz_algebra.proofs.Canonical.{are_monomials, collected, monomials-append}
use Rattle.dz_algebra.proofs.Coefficients.{coefficient_of_is}
use Rattle.dz_algebra.proofs.Derivations.{monomials_derivative}
use Rattle.dz_algebra.proofs.Inside.{in-append, in_derivative, in_negated}
use Rattle.dz_rank.specs.Rankings.{RankingValue, ranking_cmp}
use Rattle.dz_rank.specs.Symbols.{BelongsTo, total_order}
use Rattle.dz_rank.specs.declared.symbols.Symbol.{Symbol}
use Rattle.dz_monomials.specs.Degrees.{degrees}
use Rattle.dz_monomials.specs.Keeping.{IsTabled, IsKeepable}
use Rattle.dz_monomials.specs.Ranked.{symbols_under}
use Rattle.dz_monomials.proofs.Below.{occurs}
use Rattle.dz_monomials.proofs.Divisibility.{norm_entry}
use Rattle.dz_monomials.proofs.OneTerm.{power_entry}
use Rattle.dz_monomials.proofs.Operations.{operation_keepable}
use Rattle.dz_monomials.proofs.PowerCoefficients.{part_is_entry}
use Rattle.dz_monomials.proofs.SymbolLaws.{ranking_order}
use Rattle.dz_monomials.specs.Lists.{AllOf}
use Rattle.dz_diff.specs.Operations.{setting_of}
use Rattle.dz_diff.specs.Over.{IsOver}
use Rattle.dz_move.specs.Root.{System, root_of}
use Rattle.dz_diff.specs.State.{State}
use Rattle.dz_diff.specs.Tests.{Polynomials}
use Rattle.dz_move.proofs.RootStates.{or_none}
use Rattle.dz_monomials.specs.PowerDivision.{divided_by, divisor_power, is_divided, quotient_by}
use Rattle.dz_step.specs.declared.Role.{Role}
use Rattle.dz_step.specs.declared.Step.{Step}
use Rattle.dz_step.specs.declared.Which.{Which}
use Rattle.dz_step.specs.declared.Which.TheVariants.{Initial, Separant}
use Rattle.dz_step.specs.Step.{multiplier_answer, step_in}
use Rattle.dz_monomials.proofs.QuotientsByPowers.{quotient_is_entry, quotient_terms}
use Rattle.dz_step.proofs.TakenSteps.{taken_step}
use Rattle.dz_pair.specs.Pair.{delta_answer}
use Rattle.dz_pair.proofs.DeltaParts.{delta_parts}
use Rattle.dz_move.specs.Moves.{Action, Done, perform}
use Rattle.dz_move.specs.Standing.{MayStand}
use Rattle.dz_move.proofs.KeptMembers.{AreKept, HaveAll, all_give, perform_kept, root_kept}
use Rattle.dz_diff.proofs.OverOperations.{rate_by_in}
use Rattle.dz_step.proofs.OverSteps.{step_products}
use Rattle.dz_pair.proofs.OverDeltas.{delta_products}
use Rattle.dz_move.proofs.OverStates.{divisor_belongs, divisor_occurs}

module _ (r : RankingValue) (few : r.signature.independents ≤ 4) where
  -- what may stand in a book is over the ranking
  pub keepable_over : (p : Polynomial Symbol) → IsKeepable r p → IsOver r p
  keepable_over p h = record { canonical = h.canonical; belongs = h.belongs }

  pub keepables_over : (ps : Polynomials) → AllOf (IsKeepable r) ps → AllOf (IsOver r) ps
  keepables_over [] h = tt
  keepables_over (p ∷ ps) h = (keepable_over p h.0, keepables_over ps h.1)

  -- with the table of its degrees
  as_entry : (p : Polynomial Symbol) → IsKeepable r p → IsTabled r p (degrees (ranking_cmp r) p)
  as_entry p h = record { keepable = h; degrees_are = refl }

  -- a norm
  pub norm_keepable : (p : Polynomial Symbol) → IsKeepable r p → IsKeepable r (norm p)
  unfolding norm
  norm_keepable p h = (norm_entry r p (degrees (ranking_cmp r) p) (signed_content p) (divided (signed_content p) p) (degrees (ranking_cmp r) p) (as_entry p h) refl refl refl).keepable

  -- ---- what operations answer
  -- a difference
  difference_keepable : (a b c : Polynomial Symbol) → IsOver r a → IsOver r b → difference_answer (symbols_under r) a b ≡ Ok c → IsKeepable r c
  difference_keepable a b c h k e =
      operation_keepable r (a ++ negated b) (monomials-append (ranking_order r) a (negated b) (are_monomials (ranking_order r) a h.canonical) (negatives b (are_monomials (ranking_order r) b k.canonical)))
      (in-append (ranking_cmp r) (BelongsTo r.signature) a (negated b) h.belongs (in_negated (ranking_cmp r) (BelongsTo r.signature) b k.belongs)) c e
    where
      negatives : (p : Polynomial Symbol) → AreMonomials (ranking_cmp r) p → AreMonomials (ranking_cmp r) (negated p)
      negatives [] i = tt
      negatives (t ∷ p) i = (i.0, negatives p i.1)

  -- a step
  pub step_keepable : (s : State) (role : Role) (f x : Polynomial Symbol) (st : Step) → AllOf (IsKeepable r) s.equations → IsKeepable r f → step_in (setting_of r) s role f st ≡ Ok x → IsKeepable r x
  step_keepable s role f x st all of_f e =
      let k = taken_step r s role f st x e in
      let both = step_products r few s role f x st k (keepables_over s.equations all) (keepable_over f of_f) in
      subst (IsKeepable r) k.parts.end_is (norm_keepable k.parts.rest (difference_keepable k.parts.left k.parts.right k.parts.rest both.0 both.1 k.parts.rest_is))

  -- zero
  zero_keepable : IsKeepable r []
  zero_keepable = record { canonical = tt; belongs = tt; small = refl; in_range = All-nil {X = Monomial Symbol × ℤ} (λ t. unsigned_abs t.1 ≤ greatest) }

  -- a Delta-polynomial
  pub delta_keepable : (p q d : Polynomial Symbol) → delta_answer (setting_of r) p q ≡ Ok d → IsKeepable r p → IsKeepable r q → IsKeepable r d
  delta_keepable p q d e of_p of_q = elim (delta_parts r p q d e) [
    | inl h ↦ subst (IsKeepable r) h zero_keepable
    | inr k ↦
        let both = delta_products r few p q d k (keepable_over p of_p) (keepable_over q of_q) in
        subst (IsKeepable r) k.end_is (norm_keepable k.rest (difference_keepable k.left k.right k.rest both.0 both.1 k.rest_is))
  ]

  -- a quotient by the greatest power of a symbol
  quotient_keepable : (v : Symbol) (p : Polynomial Symbol) → IsKeepable r p → IsKeepable r (quotient_by (ranking_cmp r) v p)
  quotient_keepable v p h =
      let k = divisor_power (ranking_cmp r) v p in
      let q = divided_by (ranking_cmp r) v k p in
      subst (IsKeepable r) (quotient_terms r v k p q (degrees (ranking_cmp r) p) (as_entry p h) refl refl) (quotient_is_entry r v k p q (degrees (ranking_cmp r) p) (degrees (ranking_cmp r) q) (as_entry p h) refl refl refl).keepable

  -- an initial or a separant
  multiplier_keepable : (which : Which) (l : Symbol) (p m : Polynomial Symbol) → multiplier_answer (symbols_under r) which l p ≡ Ok m → IsKeepable r p → IsKeepable r m
  multiplier_keepable Initial l p m e h =
      let d = degree (ranking_cmp r) l p in
      let c = coefficient_of (ranking_cmp r) l d p in
      let f : collect (monomial_cmp (ranking_cmp r)) c ≡ m = cc in
      subst (IsKeepable r) (sym (collected (ranking_order r) c (coefficient_of_is (ranking_order r) l d p h.canonical)) ∙ f)
      (part_is_entry r p (degrees (ranking_cmp r) p) l d 0 c (degrees (ranking_cmp r) c) (as_entry p h) (omega arith) refl refl).keepable
  multiplier_keepable Separant l p m e h =
      operation_keepable r (derivative_contributions (ranking_cmp r) (rate_by (ranking_cmp r) l) p) (monomials_derivative (ranking_order r) (rate_by (ranking_cmp r) l) p (are_monomials (ranking_order r) p h.canonical))
      (in_derivative (ranking_cmp r) (BelongsTo r.signature) (rate_by (ranking_cmp r) l) (rate_by_in r (BelongsTo r.signature) l) p h.belongs) m e

  -- ---- a symbol that divides
  -- no order passes the limit
  low_orders : (ms : List (Monomial Symbol)) → limit_of (symbols_under r) ms ≡ None → has_high_order (symbols_under r) ms ≡ false
  low_orders ms e = by_test (has_high_order (symbols_under r) ms) e
    where
      by_test : (b : Bool) → cond b (Some limits.Order) (cond (has_high_exponent ms) (Some limits.Exponent) (cond (nat_lt 64 (length (symbols (ranking_cmp r) ms))) (Some limits.Symbols) (cond (nat_lt 4096 (length ms)) (Some limits.Terms) None))) ≡ None → b ≡ false
      by_test true e = cc
      by_test false e = refl

  divisor_keepable : (v : Symbol) (p : Polynomial Symbol) → is_divided (ranking_cmp r) v p ≡ true → IsKeepable r p → IsKeepable r (symbol_polynomial v)
  divisor_keepable v [] e h = cc
  divisor_keepable v (t ∷ p) e h =
      let low = occurs (ranking_order r) (λ s. nat_lt 60 (total_order s)) t.0 v (or_none _ _ (low_orders (map (λ t. t.0) (t ∷ p)) h.small)).0 (divisor_occurs r few v t p e) in
      (power_entry r (pos 1) v 1 (symbol_polynomial v) ((v, 1) ∷ []) (λ z. cc) (omega arith) (omega arith) (omega arith) (divisor_belongs r few v (t ∷ p) e h.belongs) (ltb-false 60 (total_order v) low) refl refl).keepable

  -- ---- so moves and forks keep what may stand in a book
  keepable_kept : AreKept r (IsKeepable r)
  keepable_kept = record {
    norms = norm_keepable;
    steps = step_keepable;
    deltas = delta_keepable;
    quotients = quotient_keepable;
    multipliers = λ which l p m e h. norm_keepable m (multiplier_keepable which l p m e h);
    symbols = divisor_keepable;
  }

  -- of a state
  as_stand : (s : State) → HaveAll (IsKeepable r) s → MayStand r s.equations s.inequations
  as_stand s h = record { equations_keepable = h.equations; inequations_keepable = h.inequations }

  pub perform_stands : (s : State) (action : Action) (d : Done) → MayStand r s.equations s.inequations → perform (setting_of r) s action ≡ Ok d → AllOf (λ t. MayStand r t.equations t.inequations) d.after
  perform_stands s action d h e =
      all_give (HaveAll (IsKeepable r)) (λ t. MayStand r t.equations t.inequations) as_stand d.after (perform_kept r (IsKeepable r) keepable_kept s action d (record { equations = h.equations_keepable; inequations = h.inequations_keepable }) e)

  -- and of the root
  pub root_stands : (system : System) → MayStand r system.equations system.inequations → MayStand r (root_of (symbols_under r) system).equations (root_of (symbols_under r) system).inequations
  root_stands system h = as_stand (root_of (symbols_under r) system) (root_kept r (IsKeepable r) keepable_kept system h.equations_keepable h.inequations_keepable)
