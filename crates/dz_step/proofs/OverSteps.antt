-- Steps and runs keep polynomials over a ranking, and their operators are of its signature.
use Rattle.std.proofs.Common.{◌≡◌, ℕ, suc, ◌-◌, ◌≤◌, ◌==◌, Bool, true, false, ◌&&◌, cond, List, [], ◌∷◌, length, pos, refl, sym, ap, ◌∙◌, subst, Ok, Some, None, arith}
use Rattle.std.proofs.lemmas.Bool.{leb-true}
use Rattle.dz_algebra.specs.Polynomial.{Polynomial, PolynomialIn, collect}
use Rattle.dz_algebra.specs.Norm.{content, divided, gcd}
use Rattle.dz_algebra.specs.Parts.{coefficient_of, degree}
use Rattle.dz_algebra.proofs.Inside.{in_collect, in_coefficient, in_divided, in_norm}
use Rattle.dz_rank.specs.Rankings.{RankingValue, ranking_cmp}
use Rattle.dz_rank.specs.Symbols.{BelongsTo, IsOperatorOf, derivative_by, is_derivative}
use Rattle.dz_rank.specs.declared.symbols.Operator.{Operator}
use Rattle.dz_rank.specs.declared.symbols.Symbol.{Symbol}
use Rattle.dz_rank.specs.declared.symbols.Symbol.TheVariants.{Independent, Derivative}
use Rattle.dz_rank.proofs.Belonging.{quotient_is_operator}
use Rattle.dz_monomials.specs.Ranked.{symbols_under}
use Rattle.dz_monomials.specs.Lists.{AllOf}
use Rattle.dz_diff.specs.Operators.{is_proper, divides, exponent_differences, quotient}
use Rattle.dz_diff.specs.Operations.{setting_of}
use Rattle.dz_monomials.specs.Terms.{times_power}
use Rattle.dz_diff.specs.Over.{IsOver}
use Rattle.dz_diff.specs.State.{State}
use Rattle.dz_diff.proofs.LeaderDerivations.{IsRegular}
use Rattle.dz_diff.proofs.Overs.{good_over}
use Rattle.dz_diff.proofs.Places.{taken}
use Rattle.dz_step.specs.declared.Role.{Role}
use Rattle.dz_step.specs.declared.Step.{Step}
use Rattle.dz_step.specs.declared.Which.{Which}
use Rattle.dz_step.specs.declared.Which.TheVariants.{Initial, Separant}
use Rattle.dz_step.specs.Step.{Reduction, multiplier_answer, multiplier_of, step_degree, step_in}
use Rattle.dz_step.specs.FullRun.{derivatives_of, next_step}
use Rattle.dz_step.proofs.TakenSteps.{ReductionParts, StepParts, TakenStep, taken_step, good_products_of, good_step}
use Rattle.dz_diff.proofs.LeaderBounds.{leader_degree, leader_is_one}
use Rattle.dz_step.proofs.NextSteps.{derivative_quotient, found_first, in_derivatives}
use Rattle.dz_diff.proofs.OverOperations.{degree_in, difference_in, leader_belongs, operator_belongs, product_in, separant_in, times_power_in}

-- the degree that an operator's derivative of a polynomial has in its leader is positive
pub degree_one : (r : RankingValue) (t : Operator) (l : Symbol) (q : Polynomial Symbol) → 1 ≤ degree (ranking_cmp r) l q → 1 ≤ step_degree (symbols_under r) t l q
degree_one r t l q h = by_test (is_proper t)
  where
    by_test : (b : Bool) → 1 ≤ cond b 1 (degree (ranking_cmp r) l q)
    by_test true = omega arith
    by_test false = h

module _ (r : RankingValue) (P : Symbol → Type 0) where
  -- all symbols of a polynomial have P
  abbrev AllHave : Polynomial Symbol → Type 0
  AllHave = PolynomialIn P

  -- the initial or the separant
  pub multiplier_in : (which : Which) (v : Symbol) (a b : Polynomial Symbol) → multiplier_answer (symbols_under r) which v a ≡ Ok b → AllHave a → AllHave b
  multiplier_in Initial v a b e h =
      let f : collect _ (coefficient_of (ranking_cmp r) v (degree (ranking_cmp r) v a) a) ≡ b = cc in
      subst AllHave f (in_collect (ranking_cmp r) P _ (in_coefficient (ranking_cmp r) P v (degree (ranking_cmp r) v a) a h))
  multiplier_in Separant v a b e h = separant_in r P v a b e h

  -- the products of a step
  pub products_in : (f q a : Polynomial Symbol) (v : Symbol) (d e : ℕ) (x : Polynomial Symbol) (s : StepParts r f q a v d e x) → P v → AllHave f → AllHave q → AllHave a → AllHave s.left × AllHave s.right
  products_in f q a v d e x s i of_f of_q of_a =
      let c = coefficient_of (ranking_cmp r) v d f in
      let k = pos (gcd (content a) (content c)) in (
        product_in r P (divided k a) f s.left s.left_is (in_divided (ranking_cmp r) P k a of_a) of_f,
        product_in r P (times_power (ranking_cmp r) v (d - e) (divided k c)) q s.right s.right_is (times_power_in r P v (d - e) (divided k c) i (in_divided (ranking_cmp r) P k c (in_coefficient (ranking_cmp r) P v d f of_f))) of_q,
      )

  -- and its result
  pub parts_in : (f q a : Polynomial Symbol) (v : Symbol) (d e : ℕ) (x : Polynomial Symbol) (s : StepParts r f q a v d e x) → P v → AllHave f → AllHave q → AllHave a → AllHave x
  parts_in f q a v d e x s i of_f of_q of_a =
      let both = products_in f q a v d e x s i of_f of_q of_a in
      subst AllHave s.end_is (in_norm (ranking_cmp r) P s.rest (difference_in r P s.left s.right s.rest s.rest_is both.0 both.1))

  -- the parts of a reduction
  pub reduction_in : (f q a : Polynomial Symbol) (v : Symbol) (d e : ℕ) (y : Reduction) (k : ReductionParts r f q a v d e y) → P v → AllHave f → AllHave q → AllHave a → AllHave y.factor × AllHave y.shift × AllHave y.rest
  reduction_in f q a v d e y k i of_f of_q of_a =
      let c = coefficient_of (ranking_cmp r) v d f in
      let n = pos (gcd (content a) (content c)) in
      let factor : AllHave y.factor = subst AllHave k.factor_is (in_divided (ranking_cmp r) P n a of_a) in
      let shift : AllHave y.shift = subst AllHave k.shift_is (times_power_in r P v (d - e) (divided n c) i (in_divided (ranking_cmp r) P n c (in_coefficient (ranking_cmp r) P v d f of_f))) in (
        factor,
        shift,
        difference_in r P k.left k.right y.rest k.rest_is (product_in r P y.factor f k.left k.left_is factor of_f) (product_in r P y.shift q k.right k.right_is shift of_q),
      )

module _ (r : RankingValue) (few : r.signature.independents ≤ 4) where
  -- the symbol belongs to the signature
  abbrev Belongs : Symbol → Type 0
  Belongs = BelongsTo r.signature

  -- and so do all symbols of a polynomial
  abbrev AllBelong : Polynomial Symbol → Type 0
  AllBelong = PolynomialIn (BelongsTo r.signature)

  -- ---- steps
  -- the products of a step are over the ranking
  pub step_products : (s : State) (role : Role) (f x : Polynomial Symbol) (st : Step) (k : TakenStep r s role f st x) → AllOf (IsOver r) s.equations → IsOver r f → IsOver r k.parts.left × IsOver r k.parts.right
  step_products s role f x st k over of_f =
      let of_q : IsOver r k.divisor = (taken (IsOver r) st.place k.divisor s.equations k.stands over).0 in
      let top = leader_degree r k.top k.divisor of_q.canonical k.top_is in
      let v = derivative_by st.operator k.top in
      let occurs_in_f : 1 ≤ degree (ranking_cmp r) v f = omega (arith, leb-true _ _ k.reaches, degree_one r st.operator k.top k.divisor top) in
      let good = good_products_of r s role f st x k (λ j q h. good_over r q (taken (IsOver r) j q s.equations h over).0) (good_over r f of_f) in
      let belong = products_in r Belongs f k.derivative k.times v (degree (ranking_cmp r) v f) (step_degree (symbols_under r) st.operator k.top k.divisor) x k.parts (degree_in r Belongs v f occurs_in_f of_f.belongs) of_f.belongs
      (operator_belongs r few st.operator k.divisor k.derivative k.derivative_is of_q.belongs) (multiplier_in r Belongs (multiplier_of st.operator) k.top k.divisor k.times k.times_is of_q.belongs) in
      (record { canonical = good.0.0; belongs = belong.0 }, record { canonical = good.1.0; belongs = belong.1 })

  -- and its result
  pub step_over : (s : State) (role : Role) (f x : Polynomial Symbol) (st : Step) → AllOf (IsOver r) s.equations → IsOver r f → step_in (setting_of r) s role f st ≡ Ok x → IsOver r x
  step_over s role f x st over of_f e =
      let k = taken_step r s role f st x e in
      let both = step_products s role f x st k over of_f in
      record {
        canonical = (good_step r s role f st x e (λ j q h. good_over r q (taken (IsOver r) j q s.equations h over).0) (good_over r f of_f)).0;
        belongs = subst AllBelong k.parts.end_is (in_norm (ranking_cmp r) Belongs k.parts.rest (difference_in r Belongs k.parts.left k.parts.right k.parts.rest k.parts.rest_is both.0.belongs both.1.belongs));
      }

  -- ---- the operators of full runs
  -- differences of exponents are as many
  differences_length : (ts ks : List ℕ) → length (exponent_differences ts ks) ≡ length ts
  differences_length [] ks = refl
  differences_length (t ∷ ts) [] = refl
  differences_length (t ∷ ts) (k ∷ ks) = ap suc (differences_length ts ks)

  -- a quotient has four exponents
  quotient_length : (v l : Symbol) (t : Operator) → quotient v l ≡ Some t → IsRegular 4 v → length t.counts ≡ 4
  quotient_length (Independent i) l t e h = cc
  quotient_length (Derivative u a) (Independent j) t e h = cc
  quotient_length (Derivative u a) (Derivative w b) t e h = by_test ((u == w) && divides b.counts a.counts) e
    where
      by_test : (c : Bool) → cond c (Some (record { counts = exponent_differences a.counts b.counts })) None ≡ Some t → length t.counts ≡ 4
      by_test true e = let o : record { counts = exponent_differences a.counts b.counts } ≡ t = cc in subst (λ (x : Operator). length x.counts ≡ 4) o (differences_length a.counts b.counts ∙ h)
      by_test false e = cc

  -- a symbol of the signature has four exponents
  pub regular_of : (s : Symbol) → Belongs s → IsRegular 4 s
  regular_of (Independent j) h = tt
  regular_of (Derivative u t) h = (h.1).size

  -- a quotient of symbols of the signature is an operator of it
  pub quotient_fits : (v l : Symbol) (t : Operator) → quotient v l ≡ Some t → is_derivative l ≡ true → Belongs v → Belongs l → IsOperatorOf r.signature.independents t
  quotient_fits v l t e d of_v of_l = quotient_is_operator r.signature v l t of_v of_l (quotient_length v l t e (regular_of v of_v)) (d, sym (derivative_quotient 4 v l t e (regular_of v of_v) (regular_of l of_l)))

  -- the step that a full run takes next has an operator of the signature
  pub next_fits : (s : State) (role : Role) (f : Polynomial Symbol) (st : Step) → AllOf (IsOver r) s.equations → AllBelong f → next_step (setting_of r) s role f ≡ Some st → IsOperatorOf r.signature.independents st.operator
  next_fits s role f st over of_f e =
      let k = found_first r s role f Belongs st (derivatives_of (symbols_under r) f) e (in_derivatives (symbols_under r) Belongs Belongs (λ s h _. h) f of_f) in
      let q = k.2 in
      quotient_fits k.0 q.top st.operator q.quotient_is (leader_is_one r q.equation q.top q.leader_is) k.1
      (leader_belongs r few q.equation q.top q.leader_is (taken (IsOver r) q.index q.equation s.equations q.is_there over).0.belongs)
