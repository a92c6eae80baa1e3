-- The conditions on a chain, member by member.
use Rattle.std.specs.Prelude.{is_ok, nat_le}
use Rattle.std.specs.List.{list_all, list_any}
use Rattle.std.proofs.Common.{◌≡◌, ◌<◌, ◌+◌, ◌∙◌, ◌==◌, ◌||◌, ◌&&◌, ℕ, suc, Bool, true, false, not, cond, List, [], ◌∷◌, drop, get_or, length, arith, refl, sym, ap, ap₂, Result, Ok, Err, Option, Some, None}
use Rattle.std.proofs.Math.Seq.{drop-cons}
use Rattle.dz_algebra.specs.Parts.{degree, leader}
use Rattle.dz_algebra.specs.Polynomial.{Polynomial}
use Rattle.dz_algebra.specs.Size.{Refusal, separant_answer}
use Rattle.dz_algebra.specs.Symbols.{Symbols}
use Rattle.dz_poly.specs.Books.{BookValue, polynomial}
use Rattle.dz_rank.specs.declared.symbols.Operator.{Operator}
use Rattle.dz_rank.specs.declared.symbols.Symbol.{Symbol}
use Rattle.dz_diff.specs.Operators.{is_proper, quotient}
use Rattle.dz_diff.specs.State.{State}
use Rattle.dz_diff.specs.States.{polynomials}
use Rattle.dz_diff.specs.Tests.{Polynomials}
use Rattle.dz_diff.proofs.MemberTests.{zero_by_length}
use Rattle.dz_step.specs.Multiples.{has_proper_derivative, is_enough_by, is_proper_one, is_reducible_at, is_reducible_by}
use Rattle.dz_step.specs.FullRun.{derivatives_of}
use Rattle.dz_step.specs.declared.Which.TheVariants.{Initial, Separant}
use Rattle.dz_step.specs.Step.{is_allowed, multiplier_answer, permitted_if, step_degree}
use Rattle.dz_move.specs.declared.Rule.{Rule}
use Rattle.dz_move.specs.declared.Rule.TheVariants as rules
use Rattle.dz_tree.specs.Chain.{has_permitted, is_free_of, is_reduced, is_reducible, passes, separant_fits}
use Rattle.dz_tree.specs.ChainParts.{allowed_if, multiplier_rule, multipliers}

-- tests that agree find the same
any_same : {A : Type 0} (f h : A → Bool) → ((x : A) → f x ≡ h x) → (xs : List A) → list_any f xs ≡ list_any h xs
any_same f h same [] = refl
any_same f h same (x ∷ xs) = ap₂ (λ a b. a || b) (same x) (any_same f h same xs)

-- ---- autoreduced
-- one derivative
enough_is : (g : Symbols Symbol) (q : Polynomial Symbol) (l : Symbol) (d : ℕ) (o : Option Operator) → is_enough_by g l q d o ≡ passes (λ t. nat_le (step_degree g t l q) d) o
enough_is g q l d None = refl
enough_is g q l d (Some t) = refl

-- an equation is reducible by another
pub reducible_is : (g : Symbols Symbol) (f q : Polynomial Symbol) → is_reducible_by g f q (leader g q) ≡ is_reducible g f q
reducible_is g f q = by_leader (leader g q)
  where
    by_leader : (o : Option Symbol) → is_reducible_by g f q o ≡ passes (λ l. list_any (λ v. passes (λ t. nat_le (step_degree g t l q) (degree g.cmp v f)) (quotient v l)) (derivatives_of g f)) o
    by_leader None = refl
    by_leader (Some l) = any_same (is_reducible_at g f q l) (λ v. passes (λ t. nat_le (step_degree g t l q) (degree g.cmp v f)) (quotient v l)) (λ v. enough_is g q l (degree g.cmp v f) (quotient v l)) (derivatives_of g f)

-- ---- inequations
-- one derivative
proper_is : (o : Option Operator) → is_proper_one o ≡ passes is_proper o
proper_is None = refl
proper_is (Some t) = refl

-- an inequation has no proper derivative of a leader
pub free_is : (g : Symbols Symbol) (h p : Polynomial Symbol) (l : Symbol) → leader g p ≡ Some l → not (has_proper_derivative g l h) ≡ is_free_of g h p
free_is g h p l e =
    ap not (any_same (λ v. is_proper_one (quotient v l)) (λ v. passes is_proper (quotient v l)) (λ v. proper_is (quotient v l)) (derivatives_of g h))
    ∙ sym (ap (passes (λ l. not (list_any (λ v. passes is_proper (quotient v l)) (derivatives_of g h)))) e)

-- what has no leader is no equation of a chain
pub unled_not_free : (g : Symbols Symbol) (h p : Polynomial Symbol) → leader g p ≡ None → false ≡ is_free_of g h p
unled_not_free g h p e = sym (ap (passes (λ l. not (list_any (λ v. passes is_proper (quotient v l)) (derivatives_of g h)))) e)

-- zero is no inequation of a chain
pub zero_not_reduced : (g : Symbols Symbol) (s : State) (h : Polynomial Symbol) → (length h == 0) ≡ true → false ≡ is_reduced g s h
zero_not_reduced g s h e = ap (λ b. not b && list_all (is_free_of g h) s.equations) (sym e ∙ zero_by_length h)

-- what is not zero is one, where it is free of the equations
pub reduced_is : (g : Symbols Symbol) (s : State) (h : Polynomial Symbol) → (length h == 0) ≡ false → list_all (is_free_of g h) s.equations ≡ is_reduced g s h
reduced_is g s h e = ap (λ b. not b && list_all (is_free_of g h) s.equations) (sym e ∙ zero_by_length h)

-- ---- multipliers
-- without a leader there are none
pub unled_none : (g : Symbols Symbol) (s : State) (p : Polynomial Symbol) → leader g p ≡ None → None ≡ multipliers g s p
unled_none g s p e = ap (λ b. cond b (Some (has_permitted g s p)) None) (sym (ap (passes (λ l. is_ok (separant_answer g l p))) e))

module _ (g : Symbols Symbol) (s : State) (p : Polynomial Symbol) (l : Symbol) (led : leader g p ≡ Some l) where
  -- the separant does not fit
  pub separant_none : None ≡ allowed_if g s (separant_answer g l p) → None ≡ multipliers g s p
  separant_none e = ap (λ b. cond b (Some (has_permitted g s p)) None) (sym (ap (passes (λ l. is_ok (separant_answer g l p))) led ∙ by_answer (separant_answer g l p) e))
    where
      by_answer : (x : Result (Polynomial Symbol) Refusal) → None ≡ allowed_if g s x → is_ok x ≡ false
      by_answer (Ok m) e = cc
      by_answer (Err k) e = refl

  -- both are known
  pub both_known : (a b : Bool) → Some b ≡ allowed_if g s (separant_answer g l p) → a ≡ permitted_if g s.inequations (multiplier_answer g Initial l p) → Some (a && b) ≡ multipliers g s p
  both_known a b e h = by_answer (separant_answer g l p) refl e
    where
      by_answer : (x : Result (Polynomial Symbol) Refusal) → separant_answer g l p ≡ x → Some b ≡ allowed_if g s x → Some (a && b) ≡ multipliers g s p
      by_answer (Err k) f e = cc
      by_answer (Ok m) f e =
          let k : b ≡ is_allowed g s.inequations m = cc in
          sym (ap (λ c. cond c (Some (has_permitted g s p)) None) (ap (passes (λ l. is_ok (separant_answer g l p))) led ∙ ap is_ok f)
          ∙ ap Some (ap (passes (λ l. permitted_if g s.inequations (multiplier_answer g Initial l p) && permitted_if g s.inequations (multiplier_answer g Separant l p))) led
          ∙ ap₂ (λ a b. a && b) (sym h) (ap (permitted_if g s.inequations) f ∙ sym k)))

-- one equation more
module _ (g : Symbols Symbol) (s : State) (before : Bool) (p : Polynomial Symbol) (ps : Polynomials) where
  -- its separant does not fit
  pub rule_wide : None ≡ multipliers g s p → Some rules.Wide ≡ multiplier_rule g s before (p ∷ ps)
  rule_wide e = by_test (separant_fits g p) refl e
    where
      by_test : (b : Bool) → separant_fits g p ≡ b → None ≡ cond b (Some (has_permitted g s p)) None → Some rules.Wide ≡ multiplier_rule g s before (p ∷ ps)
      by_test true f e = cc
      by_test false f e = sym (ap (λ b. cond (b && list_all (separant_fits g) ps) (cond (before && list_all (has_permitted g s) (p ∷ ps)) None (Some rules.Multiplier)) (Some rules.Wide)) f)

  -- it fits
  pub rule_goes : (b : Bool) → Some b ≡ multipliers g s p → multiplier_rule g s before (p ∷ ps) ≡ multiplier_rule g s (before && b) ps
  rule_goes b e = by_test (separant_fits g p) refl e
    where
      assoc : (x y z : Bool) → (x && (y && z)) ≡ (x && y && z)
      assoc true y z = refl
      assoc false y z = refl

      by_test : (c : Bool) → separant_fits g p ≡ c → Some b ≡ cond c (Some (has_permitted g s p)) None → multiplier_rule g s before (p ∷ ps) ≡ multiplier_rule g s (before && b) ps
      by_test false f e = cc
      by_test true f e =
          let k : has_permitted g s p ≡ b = cc in
          ap (λ c. cond (c && list_all (separant_fits g) ps) (cond (before && (has_permitted g s p && list_all (has_permitted g s) ps)) None (Some rules.Multiplier)) (Some rules.Wide)) f
          ∙ ap (λ c. cond (list_all (separant_fits g) ps) (cond c None (Some rules.Multiplier)) (Some rules.Wide)) (ap (λ c. before && (c && list_all (has_permitted g s) ps)) k ∙ assoc before b (list_all (has_permitted g s) ps))

-- one equation more of a list in a book
pub rule_in_book : (g : Symbols Symbol) (s : State) (book : BookValue) (items : List ℕ) (i d : ℕ) → i < length items → d ≡ get_or items i d → (before b c : Bool) → Some b ≡ multipliers g s (polynomial book d) → c ≡ (before && b)
    → (whole : Option Rule) → multiplier_rule g s before (polynomials book (drop i items)) ≡ whole → multiplier_rule g s c (polynomials book (drop (i + 1) items)) ≡ whole
rule_in_book g s book items i d inside is before b c known e whole so_far =
    let k : suc i ≡ i + 1 = omega arith in
    ap (λ c. multiplier_rule g s c (polynomials book (drop (i + 1) items))) e
    ∙ sym (ap (λ (ps : List ℕ). multiplier_rule g s before (polynomials book ps)) (drop-cons items i d inside ∙ ap₂ (λ (z j : ℕ). z ∷ drop j items) (sym is) k)
    ∙ rule_goes g s before (polynomial book d) (polynomials book (drop (i + 1) items)) b known) ∙ so_far
