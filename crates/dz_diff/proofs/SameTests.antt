-- Polynomials are the same by the test exactly where they are equal.
use Rattle.std.proofs.Common.{◌≡◌, ◌==◌, ◌&&◌, ℕ, true, false, [], ◌∷◌, ℤ, pos, negsuc, refl, sym, ap, ap₂, ◌∙◌, subst, inl, inr, arith, eqb-true}
use Rattle.std.proofs.lemmas.Bool.Decides.{nat_tests}
use Rattle.std.specs.declared.cmp.Ordering.{Ordering}
use Rattle.std.specs.declared.cmp.Ordering.TheVariants.{Less, Equal, Greater}
use Rattle.dz_algebra.specs.Order.{IsOrder}
use Rattle.dz_algebra.specs.Monomial.{Monomial, monomial_cmp}
use Rattle.dz_algebra.specs.Polynomial.{Polynomial}
use Rattle.dz_algebra.specs.Symbols.{Symbols}
use Rattle.dz_algebra.proofs.Orders.{same_monomial}
use Rattle.dz_rank.specs.declared.symbols.Symbol.{Symbol}
use Rattle.dz_rank.specs.Rankings.{RankingValue}
use Rattle.dz_monomials.specs.Ranked.{symbols_under}
use Rattle.dz_monomials.proofs.SameTerms.{other_pair}
use Rattle.dz_monomials.proofs.SymbolLaws.{ranking_order}
use Rattle.dz_monomials.specs.Lists.{AllOf}
use Rattle.dz_diff.specs.Tests.{Polynomials, is_equal, same_whole, same, is_member}
use Rattle.dz_algebra.proofs.Outcomes.{both, either}

-- what is equal by the test is Equal
pub equal_is : (o : Ordering) → is_equal o ≡ true → o ≡ Equal
equal_is Less e = cc
equal_is Equal e = refl
equal_is Greater e = cc

-- whole numbers that are the same by the test are equal
same_wholes : (a b : ℤ) → same_whole a b ≡ true → a ≡ b
same_wholes (pos a) (pos b) e = ap pos (eqb-true a b e)
same_wholes (pos a) (negsuc b) e = cc
same_wholes (negsuc a) (pos b) e = cc
same_wholes (negsuc a) (negsuc b) e = ap negsuc (eqb-true a b e)

module _ (g : Symbols Symbol) (order : IsOrder g.cmp) where
  -- and so are polynomials
  pub same_is : (p q : Polynomial Symbol) → same g p q ≡ true → p ≡ q
  same_is [] [] e = refl
  same_is [] (u ∷ q) e = cc
  same_is (t ∷ p) [] e = cc
  same_is (t ∷ p) (u ∷ q) e =
      let b = both (is_equal (monomial_cmp g.cmp t.0 u.0) && same_whole t.1 u.1) (same g p q) e in
      let c = both (is_equal (monomial_cmp g.cmp t.0 u.0)) (same_whole t.1 u.1) b.0 in
      ap₂ (λ (n : Monomial Symbol) (d : ℤ). (n, d) ∷ p) (same_monomial order t.0 u.0 (equal_is (monomial_cmp g.cmp t.0 u.0) c.0)) (same_wholes t.1 u.1 c.1)
      ∙ ap (λ l. u ∷ l) (same_is p q b.1)

  -- a member of a list has what all members have
  pub member_is : (P : Polynomial Symbol → Type 0) (p : Polynomial Symbol) (qs : Polynomials) → is_member g p qs ≡ true → AllOf P qs → P p
  member_is P p [] e h = cc
  member_is P p (q ∷ qs) e h = elim (either (same g p q) (is_member g p qs) e) [ inl f ↦ subst P (sym (same_is p q f)) h.0 | inr f ↦ member_is P p qs f h.1 ]

-- a number is equal to itself
number_itself : (n : ℕ) → (n == n) ≡ true
number_itself n = grind (arith, nat_tests)

-- so is a whole number
whole_itself : (c : ℤ) → same_whole c c ≡ true
whole_itself (pos n) = number_itself n
whole_itself (negsuc n) = number_itself n

module _ (r : RankingValue) where
  -- a polynomial is the same as itself by the test
  pub same_itself : (p : Polynomial Symbol) → same (symbols_under r) p p ≡ true
  same_itself [] = refl
  same_itself (t ∷ p) =
      ap (λ o. (is_equal o && same_whole t.1 t.1) && same (symbols_under r) p p) (other_pair r t t refl)
      ∙ ap (λ b. b && same (symbols_under r) p p) (whole_itself t.1) ∙ same_itself p

  -- polynomials that differ are not the same by the test
  pub other_not_same : (p q : Polynomial Symbol) → (p ≡ q → ⊥) → same (symbols_under r) p q ≡ false
  other_not_same p q n = elim (same (symbols_under r) p q) as (λ b. same (symbols_under r) p q ≡ b → b ≡ false) [ true ↦ λ e. absurd (n (same_is (symbols_under r) (ranking_order r) p q e)) | false ↦ λ e. refl ] refl
