-- A step and a run keep whether a polynomial's value is zero.
use Rattle.std.proofs.Common.{◌≡◌, inl, inr, ℕ, suc, ◌+◌, true, List, [], ◌∷◌, length, pos, refl, sym, ap, ◌∙◌, subst, Ok, Some}
use Rattle.dz_algebra.specs.Polynomial.{Polynomial}
use Rattle.dz_algebra.specs.Norm.{gcd, content, divided, norm}
use Rattle.dz_algebra.specs.Parts.{degree, coefficient_of}
use Rattle.dz_algebra.specs.Ring.{product_zero, right_neutral, negative_zero}
use Rattle.dz_algebra.proofs.Divisors.{gcd_is}
use Rattle.dz_algebra.proofs.Norms.{value_divided, Divides, divides_more, content_divides}
use Rattle.dz_rank.specs.Rankings.{RankingValue, ranking_cmp}
use Rattle.dz_rank.specs.Symbols.{derivative_by}
use Rattle.dz_rank.specs.declared.symbols.Symbol.{Symbol}
use Rattle.dz_monomials.specs.Ranked.{symbols_under}
use Rattle.dz_monomials.proofs.SymbolLaws.{ranking_order}
use Rattle.dz_algebra.specs.Outcome.{numbered}
use Rattle.dz_monomials.specs.Lists.{AllOf}
use Rattle.dz_diff.specs.Tests.{Polynomials, is_unit, is_member}
use Rattle.dz_diff.specs.Operations.{setting_of}
use Rattle.dz_diff.specs.State.{State, at_place}
use Rattle.dz_algebra.proofs.Outcomes.{bind_ok, told_ok, either}
use Rattle.dz_diff.proofs.Goodness.{Good, good_norm}
use Rattle.dz_diff.proofs.SameTests.{member_is}
use Rattle.dz_step.specs.declared.Role.{Role}
use Rattle.dz_step.specs.declared.Step.{Step}
use Rattle.dz_step.specs.Step.{is_allowed, usable, is_divisor, step_degree, step_in}
use Rattle.dz_step.specs.Run.{Ran, run_from, run}
use Rattle.dz_step.proofs.TakenSteps.{StepParts, GoodEquations, taken_step, good_times, good_difference_of, good_step}
use Rattle.dz_zeros.proofs.Meaning.{Meaning, Vanishes, Differs, val, value_product, value_difference, vanishes_product, vanishes_operator, norm_vanishes, vanishes_norm, unit_nonzero}

module _ {r : RankingValue} {R : Type 0} (m : Meaning r R) where
  multiple_nonzero : (k : ℕ) (a : Polynomial Symbol) → Divides k a → Differs m a → Differs m (divided (pos k) a)
  multiple_nonzero k a d h z = h (value_divided m.ring m.at (pos k) k refl a d ∙ ap (m.ring.product _) z ∙ product_zero m.ring _)

  -- what is subtracted is zero
  pub less_nothing : (a b : R) → b ≡ m.ring.zero → m.ring.sum a (m.ring.negative b) ≡ a
  less_nothing a b e = ap (λ x. m.ring.sum a (m.ring.negative x)) e ∙ ap (m.ring.sum a) (negative_zero m.ring) ∙ right_neutral m.ring a

  -- one of two polynomials vanishes where the other does
  abbrev pub Alike : Polynomial Symbol → Polynomial Symbol → Type 0
  Alike p q = (Vanishes m p → Vanishes m q) × (Vanishes m q → Vanishes m p)

  -- a step by a polynomial that vanishes, with a multiplier that does not
  step_alike : (f q a : Polynomial Symbol) (v : Symbol) (d e : ℕ) (x : Polynomial Symbol) (s : StepParts r f q a v d e x)
      → Good r s.rest → Vanishes m q → Differs m a → Alike x f
  step_alike f q a v d e x s good zq na =
      let c = coefficient_of (ranking_cmp r) v d f in
      let k = gcd (content a) (content c) in
      let div : Divides k a = divides_more k (content a) a (gcd_is (content a) (content c)).0 (content_divides a) in
      let no_right : Vanishes m s.right = vanishes_product m _ q s.right s.right_is zq in
      let rest_left : val m s.rest ≡ val m s.left = value_difference m s.left s.right s.rest s.rest_is ∙ less_nothing (val m s.left) (val m s.right) no_right in
      let left_value : val m s.left ≡ m.ring.product (val m (divided (pos k) a)) (val m f) = value_product m (divided (pos k) a) f s.left s.left_is in (
        (λ zx. elim (m.no_divisors (val m (divided (pos k) a)) (val m f) (sym left_value ∙ sym rest_left ∙ vanishes_norm m s.rest (subst (Vanishes m) (sym s.end_is) zx))) [
          | inl z ↦ absurd (multiple_nonzero k a div na z)
          | inr z ↦ z
        ]),
        (λ zf. subst (Vanishes m) s.end_is (norm_vanishes m s.rest good (rest_left ∙ left_value ∙ ap (m.ring.product _) zf ∙ product_zero m.ring _))),
      )

  -- a multiplier that is allowed does not vanish
  pub allowed_nonzero : (hs : Polynomials) (a : Polynomial Symbol) → Good r a → is_allowed (symbols_under r) hs a ≡ true → AllOf (Differs m) hs → Differs m a
  allowed_nonzero hs a good e h z =
      elim (either (is_unit (symbols_under r) a) (is_member (symbols_under r) (norm a) hs) e) [
        | inl u ↦ unit_nonzero m a good u z
        | inr n ↦ member_is (symbols_under r) (ranking_order r) (Differs m) (norm a) hs n h (norm_vanishes m a good z)
      ]

  -- the equations that are divisors in a role vanish, and the inequations that it may use do not
  pub record Serves (s : State) (role : Role) : Type 0 where
    pub divisors : (j : ℕ) (q : Polynomial Symbol) → is_divisor role j ≡ true → at_place j s.equations ≡ Some q → Vanishes m q
    pub multipliers : AllOf (Differs m) (usable role s.inequations)

  step_in_alike : (s : State) (role : Role) (f : Polynomial Symbol) (st : Step) (x : Polynomial Symbol) → step_in (setting_of r) s role f st ≡ Ok x → GoodEquations r s → Good r f → Serves s role → Alike x f
  step_in_alike s role f st x e good gf serves =
      let k = taken_step r s role f st x e in
      step_alike f k.derivative k.times (derivative_by st.operator k.top) (degree (ranking_cmp r) (derivative_by st.operator k.top) f) (step_degree (symbols_under r) st.operator k.top k.divisor) x k.parts
      (good_difference_of r s role f st x k good gf)
      (vanishes_operator m st.operator k.divisor k.derivative k.derivative_is (serves.divisors st.place k.divisor k.is_one k.stands))
      (allowed_nonzero (usable role s.inequations) k.times (good_times r s role f st x k good) k.allowed serves.multipliers)

  run_from_alike : (s : State) (role : Role) (n : ℕ) (f : Polynomial Symbol) (count : ℕ) (steps : List Step) (x : Ran) → run_from (setting_of r) s role n f count steps ≡ Ok x → GoodEquations r s → Good r f
      → (Serves s role → Alike x.end f) × Good r x.end
  run_from_alike s role n f count [] x e good gf = let h : f ≡ x.end = cc in subst (λ y. (Serves s role → Alike y f) × Good r y) h ((λ serves. (λ z. z, λ z. z)), gf)
  run_from_alike s role n f count (st ∷ steps) x e good gf =
      let a = bind_ok (numbered n (step_in (setting_of r) s role f st)) (λ y. run_from (setting_of r) s role (suc n) y (count + 1 + length y) steps) x e in
      let step_is = told_ok _ (step_in (setting_of r) s role f st) a.0 a.1 in
      let c = run_from_alike s role (suc n) a.0 (count + 1 + length a.0) steps x a.2 good (good_step r s role f st a.0 step_is good gf) in
      ((λ serves. let b = step_in_alike s role f st a.0 step_is good gf serves in (λ z. b.0 ((c.0 serves).0 z), λ z. (c.0 serves).1 (b.1 z))), c.1)

  -- a run keeps whether the value is zero
  pub run_alike : (s : State) (role : Role) (f : Polynomial Symbol) (steps : List Step) (x : Ran) → run (setting_of r) s role f steps ≡ Ok x → GoodEquations r s → Good r f → (Serves s role → Alike x.end f) × Good r x.end
  run_alike s role f steps x e good gf =
      let c = run_from_alike s role 1 (norm f) 0 steps x e good (good_norm r f gf) in
      ((λ serves. (λ z. vanishes_norm m f ((c.0 serves).0 z), λ z. (c.0 serves).1 (norm_vanishes m f gf z))), c.1)
