-- Whether members pass, one after the other, and what that means.
use Rattle.std.proofs.Common.{◌≡◌, ◌≢◌, ◌↔◌, ◌<◌, ◌≤◌, ◌+◌, ◌∙◌, ◌⊎◌, inl, inr, ℕ, zero, suc, Bool, true, false, not, cond, IsTrue, List, [], ◌∷◌, drop, length, slice_index_or, Option, Some, None, nat_lt, Result, Ok, Err, refl, sym, ap, arith}
use Rattle.std.proofs.lemmas.Bool.{ltb-false}
use Rattle.std.proofs.lemmas.List.{drop_all}
use Rattle.dz_algebra.specs.Polynomial.{Polynomial, IsPolynomial}
use Rattle.dz_algebra.specs.declared.Limit.{Limit}
use Rattle.dz_algebra.specs.declared.Limit.TheVariants as limits
use Rattle.dz_move.specs.Systems.{SystemValue, system_in, system_limit}
use Rattle.dz_rank.specs.declared.symbols.Symbol.{Symbol}
use Rattle.dz_rank.specs.Rankings.{RankingValue, ranking_cmp}
use Rattle.dz_monomials.specs.Lists.{AllOf}
use Rattle.dz_diff.specs.Operations.{Setting, setting_of}
use Rattle.dz_algebra.specs.Outcome.{◌>>=◌, told_as}
use Rattle.dz_diff.specs.States.{polynomials}
use Rattle.dz_diff.specs.Tests.{Polynomials, is_zero}
use Rattle.dz_poly.specs.Books.{BookValue, polynomial}
use Rattle.dz_algebra.proofs.Outcomes.{bind_ok, told_ok}
use Rattle.dz_solution.specs.Evaluation.{substitution_answer}
use Rattle.dz_solution.specs.Solutions.{AreSolvedBy, member_answer, members_answer, passes, place_of, refused_at, solution_answer}
use Rattle.dz_solution.specs.Substitution.{substitution}
use Rattle.dz_solution.specs.declared.stops.SolveStop.{SolveStop}
use Rattle.dz_solution.specs.declared.stops.SolveStop.TheVariants.{Memory}
use Rattle.dz_solution.proofs.Steps.{goes_on}
use Rattle.dz_solution.proofs.Substitutions.{substitution_answered}

-- ---- what follows an answer
-- what follows a stop is the stop
stops : {A B E : Type 0} (x : Result A E) (f : A → Result B E) (e : E) → x ≡ Err e → (x >>= f) ≡ Err e
stops x f e h = ap (λ y. y >>= f) h

-- what is told
abbrev pub told : Bool → Result Bool SolveStop
told b = Ok b

-- ---- lists of names
-- the polynomial of the name at a place, before the rest
pub member_here : (book : BookValue) (ps : List ℕ) (k p : ℕ) → k < length ps → p ≡ slice_index_or ps k p → drop k (polynomials book ps) ≡ polynomial book p ∷ drop (k + 1) (polynomials book ps)
member_here book [] k p h e = absurd (omega arith)
member_here book (q ∷ ps) zero p h e = ap (λ x. polynomial book x ∷ polynomials book ps) (sym e)
member_here book (q ∷ ps) (suc k) p h e =
    member_here book ps k p (omega arith) e
    ∙ ap (λ n. polynomial book p ∷ drop n (polynomials book (q ∷ ps))) (let f : suc (k + 1) ≡ suc k + 1 = omega arith in f)

-- as many
pub member_count : (book : BookValue) (ps : List ℕ) → length (polynomials book ps) ≡ length ps
member_count book [] = refl
member_count book (p ∷ ps) = ap suc (member_count book ps)

-- a system within its limits has few members
pub few_members : (book : BookValue) (s : SystemValue) → system_limit (system_in book s) ≡ None → length s.equations + length s.inequations ≤ 256
few_members book s e = by_test _ _ refl e
  where
    by_test : (b : Bool) (o : Option Limit) → nat_lt 256 (length (polynomials book s.equations) + length (polynomials book s.inequations)) ≡ b → cond b (Some limits.Polynomials) o ≡ None → length s.equations + length s.inequations ≤ 256
    by_test true o f h = cc
    by_test false o f h = omega (arith, ltb-false 256 (length (polynomials book s.equations) + length (polynomials book s.inequations)) f, member_count book s.equations, member_count book s.inequations)

-- ---- the members of a list, of which k stand before the rest
module _ (g : Setting) (fs : Polynomials) (equations : Bool) where
  module _ (ps : Polynomials) (k : ℕ) where
    -- where none is left
    pub members_end : length ps ≤ k → members_answer g fs equations k (drop k ps) ≡ Ok true
    members_end h = ap (members_answer g fs equations k) (drop_all k ps h)

    module _ (p : Polynomial Symbol) (rest : drop k ps ≡ p ∷ drop (k + 1) ps) where
      member_more : members_answer g fs equations k (drop k ps) ≡ (member_answer g fs equations (k + 1) p >>= (λ passed. cond passed (members_answer g fs equations (k + 1) (drop (k + 1) ps)) (Ok false)))
      member_more = ap (members_answer g fs equations k) rest

      -- where a member passes or not
      pub member_told : (b : Bool) → member_answer g fs equations (k + 1) p ≡ Ok b → members_answer g fs equations k (drop k ps) ≡ cond b (members_answer g fs equations (k + 1) (drop (k + 1) ps)) (Ok false)
      member_told b e = member_more ∙ goes_on (member_answer g fs equations (k + 1) p) (λ passed. cond passed (members_answer g fs equations (k + 1) (drop (k + 1) ps)) (Ok false)) b e

      -- where it is not told
      member_stops : (e : SolveStop) → member_answer g fs equations (k + 1) p ≡ Err e → members_answer g fs equations k (drop k ps) ≡ Err e
      member_stops e h = member_more ∙ stops (member_answer g fs equations (k + 1) p) (λ passed. cond passed (members_answer g fs equations (k + 1) (drop (k + 1) ps)) (Ok false)) e h

      -- want of memory aside
      pub member_refused : (e : SolveStop) (whole : Result Bool SolveStop) → members_answer g fs equations k (drop k ps) ≡ whole → (e ≡ Memory) ⊎ (member_answer g fs equations (k + 1) p ≡ Err e) → (e ≡ Memory) ⊎ (whole ≡ Err e)
      member_refused e whole is (inl m) = inl m
      member_refused e whole is (inr h) = inr (sym is ∙ member_stops e h)

-- ---- equations, and then inequations
module _ (g : Setting) (fs equations inequations : Polynomials) where
  -- where the equations do not all pass
  pub equations_fail : members_answer g fs true 0 equations ≡ Ok false → solution_answer g fs equations inequations ≡ Ok false
  unfolding solution_answer
  equations_fail e = goes_on (members_answer g fs true 0 equations) (λ passed. cond passed (members_answer g fs false 0 inequations) (Ok false)) false e

  -- where it is not told of one
  pub equations_stop : (e : SolveStop) → members_answer g fs true 0 equations ≡ Err e → solution_answer g fs equations inequations ≡ Err e
  unfolding solution_answer
  equations_stop e h = stops (members_answer g fs true 0 equations) (λ passed. cond passed (members_answer g fs false 0 inequations) (Ok false)) e h

  -- where they pass
  pub equations_pass : members_answer g fs true 0 equations ≡ Ok true → solution_answer g fs equations inequations ≡ members_answer g fs false 0 inequations
  unfolding solution_answer
  equations_pass e = goes_on (members_answer g fs true 0 equations) (λ passed. cond passed (members_answer g fs false 0 inequations) (Ok false)) true e

-- ---- what it means
-- a polynomial that passes the test is zero
zero_is : (q : Polynomial Symbol) → is_zero q ≡ true → q ≡ []
zero_is [] e = refl
zero_is (t ∷ q) e = absurd cc

zero_passes : (q : Polynomial Symbol) → q ≡ [] → is_zero q ≡ true
zero_passes [] e = refl
zero_passes (t ∷ q) e = absurd cc

-- what it means that a member passes
abbrev Passes : RankingValue → Polynomials → Bool → Polynomial Symbol → Type 0
Passes r fs true p = substitution r fs p ≡ []
Passes r fs false p = substitution r fs p ≢ []

passing : (r : RankingValue) (fs : Polynomials) (equation : Bool) (p : Polynomial Symbol) → passes equation (substitution r fs p) ≡ true → Passes r fs equation p
passing r fs true p e = zero_is (substitution r fs p) e
passing r fs false p e = λ z. by_test (is_zero (substitution r fs p)) (zero_passes (substitution r fs p) z) e
  where
    by_test : (b : Bool) → b ≡ true → not b ≡ true → ⊥
    by_test true f e = cc
    by_test false f e = cc

passed : (r : RankingValue) (fs : Polynomials) (equation : Bool) (p : Polynomial Symbol) → Passes r fs equation p → passes equation (substitution r fs p) ≡ true
passed r fs true p h = zero_passes (substitution r fs p) h
passed r fs false p h = by_test (is_zero (substitution r fs p)) refl
  where
    by_test : (b : Bool) → is_zero (substitution r fs p) ≡ b → not b ≡ true
    by_test true f = absurd (h (zero_is (substitution r fs p) f))
    by_test false f = refl

module _ (r : RankingValue) (fs : Polynomials) (canonical : AllOf (IsPolynomial (ranking_cmp r)) fs) (equations : Bool) where
  member_means : (k : ℕ) (p : Polynomial Symbol) (b : Bool) → member_answer (setting_of r) fs equations k p ≡ Ok b → passes equations (substitution r fs p) ≡ b
  member_means k p b e =
      let parts = bind_ok (told_as (refused_at (place_of equations k)) (substitution_answer (setting_of r) fs p)) (λ q. Ok (passes equations q)) b e in
      let is = substitution_answered r fs canonical p parts.0 (told_ok (refused_at (place_of equations k)) (substitution_answer (setting_of r) fs p) parts.0 parts.1) in
      ap (passes equations) (sym is) ∙ ok_is parts.2
    where
      ok_is : {x y : Bool} → ◌≡◌ {A = Result Bool SolveStop} (Ok x) (Ok y) → x ≡ y
      ok_is e = cc

  abbrev Each : Polynomials → Type 0
  Each = AllOf (Passes r fs equations)

  -- all members pass exactly where it is told that they do
  members_mean : (k : ℕ) (ps : Polynomials) (b : Bool) → members_answer (setting_of r) fs equations k ps ≡ Ok b → IsTrue b ↔ AllOf (Passes r fs equations) ps
  members_mean k [] b e = let t : b ≡ true = cc in (λ h. tt, λ h. t)
  members_mean k (p ∷ ps) b e =
      let parts = bind_ok (member_answer (setting_of r) fs equations (k + 1) p) (λ x. cond x (members_answer (setting_of r) fs equations (k + 1) ps) (Ok false)) b e in
      by_test parts.0 (member_means (k + 1) p parts.0 parts.1) parts.2 (λ f. members_mean (k + 1) ps b f)
    where
      by_test : (x : Bool) → passes equations (substitution r fs p) ≡ x → cond x (members_answer (setting_of r) fs equations (k + 1) ps) (Ok false) ≡ Ok b
          → (members_answer (setting_of r) fs equations (k + 1) ps ≡ Ok b → IsTrue b ↔ AllOf (Passes r fs equations) ps) → IsTrue b ↔ AllOf (Passes r fs equations) (p ∷ ps)
      by_test true is f rest = let more = rest f in (λ h. (passing r fs equations p is, more.0 h), λ h. more.1 h.1)
      by_test false is f rest = let n : b ≡ false = cc in (λ h. absurd cc, λ h. let t : passes equations (substitution r fs p) ≡ true = passed r fs equations p h.0 in absurd cc)

-- the functions solve the members exactly where it is told that they do
pub solution_means : (r : RankingValue) (fs equations inequations : Polynomials) → AllOf (IsPolynomial (ranking_cmp r)) fs → (b : Bool) → solution_answer (setting_of r) fs equations inequations ≡ Ok b
    → IsTrue b ↔ AreSolvedBy r fs equations inequations
unfolding solution_answer
solution_means r fs equations inequations canonical b e =
    let parts = bind_ok (members_answer (setting_of r) fs true 0 equations) (λ x. cond x (members_answer (setting_of r) fs false 0 inequations) (Ok false)) b e in
    by_test parts.0 (members_mean r fs canonical true 0 equations parts.0 parts.1) parts.2
  where
    by_test : (x : Bool) → IsTrue x ↔ AllOf (λ p. substitution r fs p ≡ []) equations → cond x (members_answer (setting_of r) fs false 0 inequations) (Ok false) ≡ Ok b → IsTrue b ↔ AreSolvedBy r fs equations inequations
    by_test true first f =
        let second = members_mean r fs canonical false 0 inequations b f in
        (λ h. record { equations_vanish = first.0 refl; inequations_do_not = second.0 h }, λ h. second.1 h.inequations_do_not)
    by_test false first f = let n : b ≡ false = cc in (λ h. absurd cc, λ h. let t = first.1 h.equations_vanish in absurd cc)
