-- What a step answers, from its parts.
use Rattle.std.specs.Prelude.{sum, not, take, nat_le}
use Rattle.std.proofs.Common.{◌≡◌, ◌<◌, ◌≤◌, ◌==◌, ◌∙◌, inl, inr, ℕ, zero, suc, Bool, true, false, cond, List, [], ◌∷◌, refl, sym, ap, subst, arith, Result, Ok, Err, Option, Some, None}
use Rattle.std.proofs.lemmas.Bool.{le-leb, eqb-true}
use Rattle.std.proofs.lemmas.Bool.Decides.{nat_tests}
use Rattle.std.proofs.lemmas.List.Sums.{sum_by-cons}
use Rattle.dz_algebra.specs.Parts.{degree, initial, leader}
use Rattle.dz_algebra.specs.Polynomial.{Polynomial, IsPolynomial}
use Rattle.dz_algebra.specs.Monomial.{Monomial}
use Rattle.dz_algebra.specs.Size.{Refusal, wide, large, separant_answer}
use Rattle.dz_algebra.proofs.Canonical.{collected}
use Rattle.dz_algebra.proofs.Coefficients.{coefficient_of_is}
use Rattle.dz_rank.specs.declared.symbols.Operator.{Operator}
use Rattle.dz_rank.specs.declared.symbols.Symbol.{Symbol}
use Rattle.dz_rank.specs.Rankings.{RankingValue, ranking_cmp}
use Rattle.dz_rank.specs.Symbols.{derivative_by, total_order}
use Rattle.dz_monomials.specs.Keeping.{IsTabled}
use Rattle.dz_monomials.specs.Ranked.{symbols_under}
use Rattle.dz_monomials.specs.Stops.{IsStop}
use Rattle.dz_monomials.specs.declared.PolyStop.{PolyStop}
use Rattle.dz_monomials.specs.declared.PolyStop.TheVariants as stops
use Rattle.dz_monomials.proofs.EntryFacts.{too_high}
use Rattle.dz_monomials.proofs.SymbolLaws.{ranking_order}
use Rattle.dz_algebra.specs.Outcome.{◌>>=◌, given, needs, told_as}
use Rattle.dz_diff.specs.Operators.{is_proper}
use Rattle.dz_diff.specs.Operations.{iterated_answer, derivations_answer, operator_answer, setting_of}
use Rattle.dz_diff.proofs.LeaderBounds.{leader_degree}
use Rattle.dz_step.specs.declared.Which.TheVariants.{Initial, Separant}
use Rattle.dz_step.specs.declared.stepping.StepStop.{StepStop}
use Rattle.dz_step.specs.Step.{Reduction, Stop, refused, no_step, multiplier_answer, multiplier_of, step_degree, reduction_by, reduction_answer}
use Rattle.dz_step.specs.StepStops.{IsStepStop, step_stop}

-- ---- stops
-- a refusal of an operation is one of its step
pub told_stop : {A : Type 0} (stop : PolyStop) (x : Result A Refusal) → IsStop stop x → IsStepStop (step_stop stop) (told_as refused x)
told_stop stop x (inl e) = inl (ap step_stop e)
told_stop stop (Ok a) (inr e) = absurd (nothing e)
  where
    nothing : ◌≡◌ {A = Option PolyStop} None (Some stop) → ⊥
    nothing e = cc
told_stop stop (Err wide) (inr e) = inr (ap Some (ap step_stop (same e)))
  where
    same : ◌≡◌ {A = Option PolyStop} (Some stops.Wide) (Some stop) → stops.Wide ≡ stop
    same e = cc
told_stop stop (Err (large l)) (inr e) = inr (ap Some (ap step_stop (same e)))
  where
    same : ◌≡◌ {A = Option PolyStop} (Some (stops.Large l)) (Some stop) → stops.Large l ≡ stop
    same e = cc

-- and ends what would follow
pub stop_first : {A B : Type 0} (stop : StepStop) (x : Result A Stop) (next : A → Result B Stop) → IsStepStop stop x → IsStepStop stop (x >>= next)
stop_first stop (Ok a) next (inl h) = inl h
stop_first stop (Ok a) next (inr h) = absurd (nothing h)
  where
    nothing : ◌≡◌ {A = Option StepStop} None (Some stop) → ⊥
    nothing h = cc
stop_first stop (Err (refused wide)) next h = h
stop_first stop (Err (refused (large l))) next h = h
stop_first stop (Err no_step) next h = h

-- ---- the steps of a computation
module _ (r : RankingValue) (f q : Polynomial Symbol) (t : Operator) where
  -- without a leader there is no step
  pub unled : None ≡ leader (symbols_under r) q → reduction_answer (setting_of r) f q t ≡ Err no_step
  unled e = ap (λ (o : Option Symbol). given o no_step >>= (λ l. needs (nat_le (step_degree (symbols_under r) t l q) (degree (ranking_cmp r) (derivative_by t l) f)) no_step >>= (λ _. told_as refused (operator_answer (setting_of r) t q) >>= (λ p. told_as refused (multiplier_answer (symbols_under r) (multiplier_of t) l q) >>= (λ m. told_as refused (reduction_by (symbols_under r) f p m (derivative_by t l) (degree (ranking_cmp r) (derivative_by t l) f) (step_degree (symbols_under r) t l q))))))) (sym e)

  module _ (l v : Symbol) (e : leader (symbols_under r) q ≡ Some l) (i : v ≡ derivative_by t l) where
    abbrev d : ℕ
    d = degree (ranking_cmp r) v f

    abbrev rest : Symbol → Symbol → Result Reduction Stop
    rest l v = needs (nat_le (step_degree (symbols_under r) t l q) (degree (ranking_cmp r) v f)) no_step >>= (λ _. told_as refused (operator_answer (setting_of r) t q) >>= (λ p. told_as refused (multiplier_answer (symbols_under r) (multiplier_of t) l q) >>= (λ m. told_as refused (reduction_by (symbols_under r) f p m v (degree (ranking_cmp r) v f) (step_degree (symbols_under r) t l q)))))

    -- with a leader the degrees are compared
    led : reduction_answer (setting_of r) f q t ≡ rest l v
    led = ap (λ (o : Option Symbol). given o no_step >>= (λ l. rest l (derivative_by t l))) e ∙ ap (rest l) (sym i)

    -- a degree that is too low makes no step
    pub too_low : d < step_degree (symbols_under r) t l q → reduction_answer (setting_of r) f q t ≡ Err no_step
    too_low h = led ∙ ap (λ (b : Bool). needs b no_step >>= (λ _. told_as refused (operator_answer (setting_of r) t q) >>= (λ p. told_as refused (multiplier_answer (symbols_under r) (multiplier_of t) l q) >>= (λ m. told_as refused (reduction_by (symbols_under r) f p m v d (step_degree (symbols_under r) t l q)))))) low
      where
        low : nat_le (step_degree (symbols_under r) t l q) d ≡ false
        low = grind (arith, nat_tests)

    -- where it is enough, the rest is that of the derivative and the multiplier
    parts : (n : ℕ) (p m : Polynomial Symbol) → step_degree (symbols_under r) t l q ≡ n → n ≤ d → operator_answer (setting_of r) t q ≡ Ok p → multiplier_answer (symbols_under r) (multiplier_of t) l q ≡ Ok m
        → reduction_answer (setting_of r) f q t ≡ told_as refused (reduction_by (symbols_under r) f p m v d n)
    parts n p m s h j k =
        led
        ∙ ap (λ (x : ℕ). needs (nat_le x d) no_step >>= (λ _. told_as refused (operator_answer (setting_of r) t q) >>= (λ p. told_as refused (multiplier_answer (symbols_under r) (multiplier_of t) l q) >>= (λ m. told_as refused (reduction_by (symbols_under r) f p m v d x))))) s
        ∙ ap (λ (b : Bool). needs b no_step >>= (λ _. told_as refused (operator_answer (setting_of r) t q) >>= (λ p. told_as refused (multiplier_answer (symbols_under r) (multiplier_of t) l q) >>= (λ m. told_as refused (reduction_by (symbols_under r) f p m v d n))))) (le-leb n d h)
        ∙ ap (λ (x : Result (Polynomial Symbol) Refusal). told_as refused x >>= (λ p. told_as refused (multiplier_answer (symbols_under r) (multiplier_of t) l q) >>= (λ m. told_as refused (reduction_by (symbols_under r) f p m v d n)))) j
        ∙ ap (λ (x : Result (Polynomial Symbol) Refusal). told_as refused x >>= (λ m. told_as refused (reduction_by (symbols_under r) f p m v d n))) k

    -- ---- a proper operator
    module _ (proper : is_proper t ≡ true) where
      one : step_degree (symbols_under r) t l q ≡ 1
      one = ap (λ b. cond b 1 (degree (ranking_cmp r) l q)) proper

      pub derivative_refused : (n : ℕ) (p m : Polynomial Symbol) (stop : PolyStop) → n ≡ d → (n ≡ 0 → ⊥) → operator_answer (setting_of r) t q ≡ Ok p → separant_answer (symbols_under r) l q ≡ Ok m → IsStop stop (reduction_by (symbols_under r) f p m v d 1) → IsStepStop (step_stop stop) (reduction_answer (setting_of r) f q t)
      derivative_refused n p m stop s z j k h =
          let enough : 1 ≤ d = omega (arith, s, z) in
          let which : multiplier_answer (symbols_under r) (multiplier_of t) l q ≡ Ok m = ap (λ b. multiplier_answer (symbols_under r) (cond b Separant Initial) l q) proper ∙ k in
          subst (IsStepStop (step_stop stop)) (sym (parts 1 p m one enough j which)) (told_stop stop (reduction_by (symbols_under r) f p m v d 1) h)

    -- ---- the operator of no derivation
    module _ (improper : is_proper t ≡ false) (i-q : IsPolynomial (ranking_cmp r) q) where
      no_derivations : (ks : List ℕ) (i : ℕ) (a : Polynomial Symbol) → sum ks ≡ 0 → derivations_answer (symbols_under r) i ks a ≡ Ok a
      no_derivations [] i a z = refl
      no_derivations (k ∷ ks) i a z =
          let s = sum_by-cons (λ n. n) k ks in
          let first : k ≡ 0 = omega (arith, z, s) in
          ap (λ n. iterated_answer (symbols_under r) i n a >>= derivations_answer (symbols_under r) (suc i) ks) first ∙ no_derivations ks (suc i) a (omega (arith, z, s))

      fewer_sum : (n : ℕ) (ks : List ℕ) → sum ks ≡ 0 → sum (take n ks) ≡ 0
      fewer_sum zero ks z = refl
      fewer_sum (suc n) [] z = refl
      fewer_sum (suc n) (k ∷ ks) z =
          let s = sum_by-cons (λ n. n) k ks in
          let more = sum_by-cons (λ n. n) k (take n ks) in
          omega (arith, s, more, z, fewer_sum n ks (omega (arith, s, z)))

      itself : operator_answer (setting_of r) t q ≡ Ok q
      itself = no_derivations (take r.signature.independents t.counts) 0 q (fewer_sum r.signature.independents t.counts (nothing (sum t.counts == 0) refl))
        where
          nothing : (b : Bool) → (sum t.counts == 0) ≡ b → sum t.counts ≡ 0
          nothing true e = eqb-true (sum t.counts) 0 e
          nothing false e = let z : not (sum t.counts == 0) ≡ true = ap not e in absurd (cc)

      whole : step_degree (symbols_under r) t l q ≡ degree (ranking_cmp r) l q
      whole = ap (λ b. cond b 1 (degree (ranking_cmp r) l q)) improper

      which : (m : Polynomial Symbol) → m ≡ initial (ranking_cmp r) l q → multiplier_answer (symbols_under r) (multiplier_of t) l q ≡ Ok m
      which m s =
          ap (λ b. multiplier_answer (symbols_under r) (cond b Separant Initial) l q) improper
          ∙ ap Ok (collected (ranking_order r) (initial (ranking_cmp r) l q) (coefficient_of_is (ranking_order r) l (degree (ranking_cmp r) l q) q i-q) ∙ sym s)

      pub occurs : (n k : ℕ) → k ≡ degree (ranking_cmp r) l q → n ≡ d → k ≤ n → 0 < d
      occurs n k s z h = let one = leader_degree r l q i-q e in omega (arith, s, z, h, one)

      at_least : (n k : ℕ) → k ≡ degree (ranking_cmp r) l q → n ≡ d → k ≤ n → degree (ranking_cmp r) l q ≤ d
      at_least n k s z h = omega (arith, s, z, h)

      pub itself_ok : (n k : ℕ) (m : Polynomial Symbol) (x : Reduction) → k ≡ degree (ranking_cmp r) l q → n ≡ d → k ≤ n → m ≡ initial (ranking_cmp r) l q → reduction_by (symbols_under r) f q m v d k ≡ Ok x → reduction_answer (setting_of r) f q t ≡ Ok x
      itself_ok n k m x s z h j a =
          parts (degree (ranking_cmp r) l q) q m whole (at_least n k s z h) itself (which m j)
          ∙ ap (λ j. told_as refused (reduction_by (symbols_under r) f q m v d j)) (sym s)
          ∙ ap (told_as refused) a

      pub itself_refused : (n k : ℕ) (m : Polynomial Symbol) (stop : PolyStop) → k ≡ degree (ranking_cmp r) l q → n ≡ d → k ≤ n → m ≡ initial (ranking_cmp r) l q → IsStop stop (reduction_by (symbols_under r) f q m v d k) → IsStepStop (step_stop stop) (reduction_answer (setting_of r) f q t)
      itself_refused n k m stop s z h j a =
          subst (IsStepStop (step_stop stop)) (sym (parts (degree (ranking_cmp r) l q) q m whole (at_least n k s z h) itself (which m j) ∙ ap (λ j. told_as refused (reduction_by (symbols_under r) f q m v d j)) (sym s)))
          (told_stop stop (reduction_by (symbols_under r) f q m v d k) a)

-- a derivative of too high an order makes no step
pub too_high_no_step : (r : RankingValue) (f q : Polynomial Symbol) (table : Monomial Symbol) (t : Operator) (l : Symbol) → IsTabled r f table → IsPolynomial (ranking_cmp r) q → leader (symbols_under r) q ≡ Some l → 60 < total_order (derivative_by t l) → reduction_answer (setting_of r) f q t ≡ Err no_step
too_high_no_step r f q table t l h i e o =
    let z = too_high r f table (derivative_by t l) h o in
    let one = leader_degree r l q i e in
    too_low r f q t l (derivative_by t l) e refl (by_test (is_proper t) z one)
  where
    by_test : (b : Bool) → degree (ranking_cmp r) (derivative_by t l) f ≡ 0 → 1 ≤ degree (ranking_cmp r) l q → degree (ranking_cmp r) (derivative_by t l) f < cond b 1 (degree (ranking_cmp r) l q)
    by_test true z one = omega (arith, z)
    by_test false z one = omega (arith, z, one)
