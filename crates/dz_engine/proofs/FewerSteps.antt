-- What admits no step without a role admits none as an inequation, since fewer inequations permit then.
use Rattle.std.proofs.Common.{◌≡◌, ℕ, zero, suc, Bool, true, false, ◌&&◌, ◌||◌, nat_le, cond, List, [], ◌∷◌, refl, ap, Option, Some, None, Result, Ok, Err}
use Rattle.dz_algebra.specs.Norm.{norm}
use Rattle.dz_algebra.specs.Parts.{degree, leader}
use Rattle.dz_algebra.specs.Polynomial.{Polynomial}
use Rattle.dz_algebra.specs.Size.{Refusal}
use Rattle.dz_algebra.specs.Symbols.{Symbols}
use Rattle.dz_rank.specs.declared.symbols.Operator.{Operator}
use Rattle.dz_rank.specs.declared.symbols.Symbol.{Symbol}
use Rattle.dz_diff.specs.Operations.{Setting}
use Rattle.dz_diff.specs.Operators.{quotient}
use Rattle.dz_diff.specs.State.{State, without_place}
use Rattle.dz_diff.specs.Tests.{Polynomials, is_member, is_unit, same}
use Rattle.dz_step.specs.declared.Role.{Role}
use Rattle.dz_step.specs.declared.Role.TheVariants.{Free, Inequation}
use Rattle.dz_step.specs.declared.Step.{Step}
use Rattle.dz_step.specs.FullRun.{derivatives_of, first_step, next_step, or_else, step_at, step_with}
use Rattle.dz_step.specs.Step.{is_divisor, is_permitted, multiplier_answer, multiplier_of, permitted_if, step_degree}

-- ---- fewer inequations
module _ (g : Symbols Symbol) where
  -- a member of some of them is a member
  less_member : (p : Polynomial Symbol) (j : ℕ) (hs : Polynomials) → is_member g p hs ≡ false → is_member g p (without_place j hs) ≡ false
  less_member p j [] e = refl
  less_member p zero (h ∷ hs) e = e
  less_member p (suc zero) (h ∷ hs) e = by_test (same g p h) (is_member g p hs) e
    where
      by_test : (a b : Bool) → (a || b) ≡ false → b ≡ false
      by_test true b e = cc
      by_test false b e = e
  less_member p (suc (suc j)) (h ∷ hs) e = by_test (same g p h) (is_member g p hs) e (less_member p (suc j) hs)
    where
      by_test : (a b : Bool) → (a || b) ≡ false → (b ≡ false → is_member g p (without_place (suc j) hs) ≡ false) → (a || is_member g p (without_place (suc j) hs)) ≡ false
      by_test true b e f = cc
      by_test false b e f = f e

  -- and a multiplier that all of them do not permit is not permitted
  less_permitted : (j : ℕ) (hs : Polynomials) (a : Result (Polynomial Symbol) Refusal) → permitted_if g hs a ≡ false → permitted_if g (without_place j hs) a ≡ false
  less_permitted j hs (Err refusal) e = refl
  less_permitted j hs (Ok m) e = by_test (is_unit g m) (is_member g (norm m) hs) e (less_member (norm m) j hs)
    where
      by_test : (a b : Bool) → (a || b) ≡ false → (b ≡ false → is_member g (norm m) (without_place j hs) ≡ false) → (a || is_member g (norm m) (without_place j hs)) ≡ false
      by_test true b e f = cc
      by_test false b e f = f e

-- ---- the search
both_none : {A : Type 0} (o p : Option A) → or_else o p ≡ None → (o ≡ None) × (p ≡ None)
both_none None p e = (refl, e)
both_none (Some x) p e = cc

none_again : {A : Type 0} (o p : Option A) → o ≡ None → p ≡ None → or_else o p ≡ None
none_again None p e f = f
none_again (Some x) p e f = cc

by_bools : (n a b : Bool) (step : Step) → (b ≡ false → a ≡ false) → cond (true && n && b) (Some step) None ≡ None → cond (true && n && a) (Some step) None ≡ None
by_bools false a b step h e = refl
by_bools true a true step h e = cc
by_bools true a false step h e = ap (λ b. cond b (Some step) None) (h refl)

module _ (g : Setting) (s : State) (j : ℕ) (f : Polynomial Symbol) where
  -- the step by one equation, where an operator takes its leader to a symbol
  abbrev steps : Symbol → ℕ → Polynomial Symbol → Symbol → Role → Option Operator → Option Step
  steps v i q l role o = elim o as (λ _. Option Step) [ None ↦ None | Some t ↦ cond (is_divisor role i && nat_le (step_degree g.symbols t l q) (degree g.symbols.cmp v f) && is_permitted g s role q l t) (Some (record { place = i; operator = t })) None ]

  -- the step by one equation
  less_with : (v : Symbol) (i : ℕ) (q : Polynomial Symbol) (o : Option Symbol) → step_with g s Free f v i q o ≡ None → step_with g s (Inequation j) f v i q o ≡ None
  less_with v i q None e = refl
  less_with v i q (Some l) e = by_quotient (quotient v l) e
    where
      by_quotient : (o : Option Operator) → steps v i q l Free o ≡ None → steps v i q l (Inequation j) o ≡ None
      by_quotient None e = refl
      by_quotient (Some t) e = by_bools (nat_le (step_degree g.symbols t l q) (degree g.symbols.cmp v f)) (is_permitted g s (Inequation j) q l t) (is_permitted g s Free q l t) (record { place = i; operator = t })
          (less_permitted g.symbols j s.inequations (multiplier_answer g.symbols (multiplier_of t) l q)) e

  -- by all from a place on
  less_at : (v : Symbol) (i : ℕ) (qs : Polynomials) → step_at g s Free f v i qs ≡ None → step_at g s (Inequation j) f v i qs ≡ None
  less_at v i [] e = refl
  less_at v i (q ∷ qs) e =
      let a = both_none _ _ e in
      none_again _ _ (less_with v i q (leader g.symbols q) a.0) (less_at v (suc i) qs a.1)

  -- at some symbols
  less_first : (vs : List Symbol) → first_step g s Free f vs ≡ None → first_step g s (Inequation j) f vs ≡ None
  less_first [] e = refl
  less_first (v ∷ vs) e =
      let a = both_none _ _ e in
      none_again _ _ (less_at v 1 s.equations a.0) (less_first vs a.1)

  -- at all derivatives
  pub no_less : next_step g s Free f ≡ None → next_step g s (Inequation j) f ≡ None
  no_less e = less_first (derivatives_of g.symbols f) e
