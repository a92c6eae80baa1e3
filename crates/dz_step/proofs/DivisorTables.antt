-- What is kept of the divisors, and the step that it makes at a place.
use Rattle.std.specs.Prelude.{nat_le, slice_set, slice_index_or}
use Rattle.std.proofs.Common.{◌≡◌, ◌<◌, ◌≤◌, ◌+◌, ◌∙◌, ◌++◌, inl, inr, ℕ, zero, suc, Bool, true, false, ◌&&◌, cond, List, [], ◌∷◌, length, take, refl, sym, ap, subst, arith, Option, Some, None, add-one}
use Rattle.std.proofs.lemmas.Bool.{le-leb}
use Rattle.std.proofs.lemmas.Bool.Decides.{nat_tests}
use Rattle.dz_algebra.specs.Parts.{degree, leader}
use Rattle.dz_algebra.specs.Polynomial.{Polynomial}
use Rattle.dz_rank.specs.Rankings.{RankingValue, ranking_cmp}
use Rattle.dz_rank.specs.Symbols.{HasFourExponents, IsDerivativeBy}
use Rattle.dz_rank.specs.declared.symbols.Operator.{Operator}
use Rattle.dz_rank.specs.declared.symbols.Symbol.{Symbol}
use Rattle.dz_rank.specs.declared.symbols.Symbol.TheVariants.{Independent, Derivative}
use Rattle.dz_monomials.specs.Ranked.{symbols_under}
use Rattle.dz_diff.specs.Operators.{quotient}
use Rattle.dz_diff.specs.Operations.{setting_of}
use Rattle.dz_diff.specs.State.{State}
use Rattle.dz_diff.specs.States.{LiveAll, polynomials}
use Rattle.dz_poly.specs.Books.{BookValue, Lives, polynomial}
use Rattle.std.proofs.lemmas.List.Elements.{All-head, All-tail}
use Rattle.dz_diff.specs.Tests.{Polynomials}
use Rattle.dz_step.specs.declared.Role.{Role}
use Rattle.dz_step.specs.declared.Step.{Step}
use Rattle.dz_step.specs.declared.divisors.Divisor.{Divisor}
use Rattle.dz_step.specs.Divisors.{AreDivisors, AreKeptOf, IsDivisorOf, IsKeptOf, is_multiplier}
use Rattle.dz_step.specs.Step.{is_divisor, is_permitted, multiplier_of, step_degree, usable}
use Rattle.dz_step.specs.FullRun.{step_with}
use Rattle.dz_step.proofs.NextSteps.{derivative_quotient}
use Rattle.dz_step.proofs.NoSteps.{quotient_derivative}

-- ---- lists of what is kept
module _ (r : RankingValue) (hs : Polynomials) (role : Role) where
  -- one equation more
  pub kept_more : (i j k : ℕ) (qs : Polynomials) (ds : List (Option Divisor)) (d : Option Divisor) → i < length qs → k ≡ i + j
      → IsKeptOf r hs role k (slice_index_or qs i []) d → AreKeptOf r hs role j (take i qs) ds → AreKeptOf r hs role j (take (i + 1) qs) (ds ++ d ∷ [])
  kept_more i j k qs ds d l e h a = rw add-one (at i j qs ds l e a h)
    where
      at : (i j : ℕ) (qs : Polynomials) (ds : List (Option Divisor)) → i < length qs → k ≡ i + j → AreKeptOf r hs role j (take i qs) ds → IsKeptOf r hs role k (slice_index_or qs i []) d → AreKeptOf r hs role j (take (suc i) qs) (ds ++ d ∷ [])
      at i j [] ds l e a h = absurd (omega arith)
      at zero j (q ∷ qs) [] l e a h = (subst (λ n. IsKeptOf r hs role n q d) (let f : k ≡ j = omega (arith, e) in f) h, tt)
      at zero j (q ∷ qs) (x ∷ ds) l e a h = absurd a
      at (suc i) j (q ∷ qs) [] l e a h = absurd a
      at (suc i) j (q ∷ qs) (x ∷ ds) l e a h = (a.0, at i (suc j) qs ds (omega arith) (omega arith) a.1 h)

  -- there are as many as equations
  pub kept_length : (j : ℕ) (qs : Polynomials) (ds : List (Option Divisor)) → AreKeptOf r hs role j qs ds → length ds ≡ length qs
  kept_length j [] [] a = refl
  kept_length j [] (d ∷ ds) a = absurd a
  kept_length j (q ∷ qs) [] a = absurd a
  kept_length j (q ∷ qs) (d ∷ ds) a = ap suc (kept_length (suc j) qs ds a.1)

  module _ (k : ℕ) where
    -- what is kept at a place
    pub kept_at : (i j : ℕ) (qs : Polynomials) (ds : List (Option Divisor)) (x : Option Divisor) → i < length ds → k ≡ i + j → AreKeptOf r hs role j qs ds → IsKeptOf r hs role k (slice_index_or qs i []) (slice_index_or ds i x)
    kept_at i j [] [] x l e a = absurd (omega arith)
    kept_at i j [] (d ∷ ds) x l e a = absurd a
    kept_at i j (q ∷ qs) [] x l e a = absurd a
    kept_at zero j (q ∷ qs) (d ∷ ds) x l e a = subst (λ n. IsKeptOf r hs role n q d) (let f : j ≡ k = omega (arith, e) in f) a.0
    kept_at (suc i) j (q ∷ qs) (d ∷ ds) x l e a = kept_at i (suc j) qs ds x (omega arith) (omega (arith, e)) a.1

    -- something else put at a place
    pub kept_set : (i j : ℕ) (qs : Polynomials) (ds : List (Option Divisor)) (d : Option Divisor) → k ≡ i + j → IsKeptOf r hs role k (slice_index_or qs i []) d → AreKeptOf r hs role j qs ds → AreKeptOf r hs role j qs (slice_set ds i d)
    kept_set i j [] [] d e h a = tt
    kept_set i j [] (x ∷ ds) d e h a = absurd a
    kept_set i j (q ∷ qs) [] d e h a = absurd a
    kept_set zero j (q ∷ qs) (x ∷ ds) d e h a = (subst (λ n. IsKeptOf r hs role n q d) (let f : k ≡ j = omega (arith, e) in f) h, a.1)
    kept_set (suc i) j (q ∷ qs) (x ∷ ds) d e h a = (a.0, kept_set i (suc j) qs ds d (omega (arith, e)) h a.1)

module _ (r : RankingValue) (s : State) (role : Role) (ds : List (Option Divisor)) (a : AreDivisors r s role ds) where
  -- there are as many as equations
  pub divisors_length : length ds ≡ length s.equations
  divisors_length = kept_length r (usable role s.inequations) role 1 s.equations ds a.each

  module _ (i : ℕ) (x : Option Divisor) (l : i < length ds) (is : x ≡ slice_index_or ds i x) where
    -- what is kept at a place of the equations
    kept_here : IsKeptOf r (usable role s.inequations) role (suc i) (slice_index_or s.equations i []) x
    kept_here = subst (IsKeptOf r (usable role s.inequations) role (suc i) (slice_index_or s.equations i [])) (sym is) (kept_at r (usable role s.inequations) role (suc i) i 1 s.equations ds x l (omega arith) a.each)

    -- there is no divisor
    pub nothing_here : ((d : Divisor) → x ≡ Some d → ⊥) → IsKeptOf r (usable role s.inequations) role (suc i) (slice_index_or s.equations i []) None
    nothing_here n = by_option x n kept_here
      where
        by_option : (x : Option Divisor) → ((d : Divisor) → x ≡ Some d → ⊥) → IsKeptOf r (usable role s.inequations) role (suc i) (slice_index_or s.equations i []) x → IsKeptOf r (usable role s.inequations) role (suc i) (slice_index_or s.equations i []) None
        by_option None n h = h
        by_option (Some d) n h = absurd (n d refl)

    module _ (d : Divisor) (e : x ≡ Some d) where
      -- there is a divisor
      pub divisor_here : (is_divisor role (suc i) ≡ true) × IsDivisorOf r (usable role s.inequations) (slice_index_or s.equations i []) d
      divisor_here = subst (IsKeptOf r (usable role s.inequations) role (suc i) (slice_index_or s.equations i [])) e kept_here

      -- another divisor put there
      pub divisor_put : (d' : Divisor) → IsDivisorOf r (usable role s.inequations) (slice_index_or s.equations i []) d' → AreDivisors r s role (slice_set ds i (Some d'))
      divisor_put d' h = record {
        each = kept_set r (usable role s.inequations) role (suc i) i 1 s.equations ds (Some d') (omega arith) (divisor_here.0, h) a.each;
      }

-- ---- quotients
-- the operator that is found is the quotient
pub quotient_found : (v l : Symbol) (t : Operator) → length t.counts ≡ 4 → HasFourExponents l → IsDerivativeBy t l v → quotient v l ≡ Some t
quotient_found v (Independent j) t k g h = absurd (cc)
quotient_found v (Derivative u b) t k g h = ap (λ x. quotient x (Derivative u b)) h.1 ∙ quotient_derivative 4 t (Derivative u b) h.0 k g

-- where none is found there is none
pub quotient_missing : (v l : Symbol) → HasFourExponents v → HasFourExponents l → ((t : Operator) → IsDerivativeBy t l v → ⊥) → quotient v l ≡ None
quotient_missing (Independent i) l k g h = refl
quotient_missing (Derivative u a) (Independent j) k g h = refl
quotient_missing (Derivative u a) (Derivative w b) k g h = by_quotient (quotient (Derivative u a) (Derivative w b)) refl
  where
    by_quotient : (o : Option Operator) → quotient (Derivative u a) (Derivative w b) ≡ o → quotient (Derivative u a) (Derivative w b) ≡ None
    by_quotient None e = e
    by_quotient (Some t) e = absurd (h t (refl, sym (derivative_quotient 4 (Derivative u a) (Derivative w b) t e k g)))

-- ---- the step by the equation at a place
module _ (r : RankingValue) (s : State) (role : Role) (f : Polynomial Symbol) (v : Symbol) (j : ℕ) (q : Polynomial Symbol) where
  -- the step that the definition answers
  abbrev answer : Option Symbol → Option Step
  answer o = step_with (setting_of r) s role f v j q o

  -- what is tested of an operator
  abbrev tests : Symbol → Operator → Bool
  tests l t = is_divisor role j && nat_le (step_degree (symbols_under r) t l q) (degree (ranking_cmp r) v f) && is_permitted (setting_of r) s role q l t

  -- what is answered with an operator
  abbrev answer_by : Symbol → Option Operator → Option Step
  answer_by l o = elim o as (λ _. Option Step) [ None ↦ None | Some t ↦ cond (tests l t) (Some (record { place = j; operator = t })) None ]

  -- what is no divisor makes none
  pub no_divisor : IsKeptOf r (usable role s.inequations) role j q None → None ≡ answer (leader (symbols_under r) q)
  no_divisor (inr e) = ap answer (sym e)
  no_divisor (inl e) = by_leader (leader (symbols_under r) q)
    where
      by_quotient : (l : Symbol) (o : Option Operator) → None ≡ answer_by l o
      by_quotient l None = refl
      by_quotient l (Some t) = ap (λ b. cond (b && nat_le (step_degree (symbols_under r) t l q) (degree (ranking_cmp r) v f) && is_permitted (setting_of r) s role q l t) (Some (record { place = j; operator = t })) None) (sym e)

      by_leader : (o : Option Symbol) → None ≡ answer o
      by_leader None = refl
      by_leader (Some l) = by_quotient l (quotient v l)

  module _ (d : Divisor) (h : IsDivisorOf r (usable role s.inequations) q d) where
    -- a divisor has its leader
    led : answer (leader (symbols_under r) q) ≡ answer_by d.lead (quotient v d.lead)
    led = ap answer h.leads

    -- without an operator there is none
    pub no_operator : HasFourExponents v → ((t : Operator) → IsDerivativeBy t d.lead v → ⊥) → None ≡ answer (leader (symbols_under r) q)
    no_operator k n = sym (led ∙ ap (answer_by d.lead) (quotient_missing v d.lead k h.regular n))

    module _ (t : Operator) (four : length t.counts ≡ 4) (e : IsDerivativeBy t d.lead v) where
      -- with an operator the tests decide
      with_operator : answer (leader (symbols_under r) q) ≡ cond (tests d.lead t) (Some (record { place = j; operator = t })) None
      with_operator = led ∙ ap (answer_by d.lead) (quotient_found v d.lead t four h.regular e)

      -- where they fail there is none
      failed : tests d.lead t ≡ false → None ≡ answer (leader (symbols_under r) q)
      failed k = sym (with_operator ∙ ap (λ b. cond b (Some (record { place = j; operator = t })) None) k)

      -- a conjunction fails with its second part
      second_false : (a b c : Bool) → b ≡ false → (a && b && c) ≡ false
      second_false true b c k = ap (λ b. b && c) k
      second_false false b c k = refl

      -- and with its third
      third_false : (a b c : Bool) → c ≡ false → (a && b && c) ≡ false
      third_false true true c k = k
      third_false true false c k = refl
      third_false false b c k = refl

      -- a degree that is too low makes none
      pub degree_low : (m n : ℕ) → m ≡ degree (ranking_cmp r) v f → n ≡ step_degree (symbols_under r) t d.lead q → m < n → None ≡ answer (leader (symbols_under r) q)
      degree_low m n x y l = failed (second_false (is_divisor role j) _ (is_permitted (setting_of r) s role q d.lead t) low)
        where
          low : nat_le (step_degree (symbols_under r) t d.lead q) (degree (ranking_cmp r) v f) ≡ false
          low = grind (arith, nat_tests)

      -- a multiplier that is not permitted makes none
      pub not_granted : (b : Bool) → b ≡ is_multiplier r (usable role s.inequations) (multiplier_of t) d.lead q → b ≡ false → None ≡ answer (leader (symbols_under r) q)
      not_granted b x y = failed (third_false (is_divisor role j) (nat_le (step_degree (symbols_under r) t d.lead q) (degree (ranking_cmp r) v f)) _ (sym x ∙ y))

      -- else this is the step
      pub step_found : (m n : ℕ) (b : Bool) → is_divisor role j ≡ true → m ≡ degree (ranking_cmp r) v f → n ≡ step_degree (symbols_under r) t d.lead q → n ≤ m
          → b ≡ is_multiplier r (usable role s.inequations) (multiplier_of t) d.lead q → b ≡ true → Some (record { place = j; operator = t }) ≡ answer (leader (symbols_under r) q)
      step_found m n b a x y l z w =
          let enough : nat_le (step_degree (symbols_under r) t d.lead q) (degree (ranking_cmp r) v f) ≡ true = le-leb _ _ (omega (arith, x, y, l)) in
          sym (with_operator
          ∙ ap (λ c. cond (c && nat_le (step_degree (symbols_under r) t d.lead q) (degree (ranking_cmp r) v f) && is_permitted (setting_of r) s role q d.lead t) (Some (record { place = j; operator = t })) None) a
          ∙ ap (λ c. cond (c && is_permitted (setting_of r) s role q d.lead t) (Some (record { place = j; operator = t })) None) enough
          ∙ ap (λ c. cond c (Some (record { place = j; operator = t })) None) (sym z ∙ w))

-- ---- equations in a book
module _ (book : BookValue) where
  -- the polynomial of the number at a place
  pub polynomial_here : (ps : List ℕ) (i d : ℕ) → i < length ps → slice_index_or (polynomials book ps) i [] ≡ polynomial book (slice_index_or ps i d)
  polynomial_here [] i d l = absurd (omega arith)
  polynomial_here (p ∷ ps) zero d l = refl
  polynomial_here (p ∷ ps) (suc i) d l = polynomial_here ps i d (omega arith)

  -- there are as many polynomials as numbers
  pub polynomials_length : (ps : List ℕ) → length (polynomials book ps) ≡ length ps
  polynomials_length [] = refl
  polynomials_length (p ∷ ps) = ap suc (polynomials_length ps)

  -- each of the numbers lives
  pub lives_here : (ps : List ℕ) (i d : ℕ) → i < length ps → LiveAll book ps → Lives book (slice_index_or ps i d)
  lives_here [] i d l h = absurd (omega arith)
  lives_here (p ∷ ps) zero d l h = All-head (λ p. Lives book p) p ps h
  lives_here (p ∷ ps) (suc i) d l h = lives_here ps i d (omega arith) (All-tail (λ p. Lives book p) p ps h)
