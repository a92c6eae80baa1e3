-- What the tests of members find.
use Rattle.std.proofs.Common.{◌≡◌, ◌≢◌, ◌==◌, ◌||◌, ◌&&◌, ◌<◌, ◌+◌, ◌-◌, ◌∙◌, ℕ, zero, suc, Bool, true, false, not, List, [], ◌∷◌, drop, length, refl, sym, ap, arith, Some, None}
use Rattle.std.specs.Prelude.{IsTrue, slice_index_or}
use Rattle.std.proofs.lemmas.Bool.Decides.{nat_tests}
use Rattle.std.proofs.lemmas.List.{drop_more}
use Rattle.dz_algebra.specs.Parts.{leader}
use Rattle.dz_algebra.specs.Polynomial.{Polynomial}
use Rattle.dz_algebra.specs.Symbols.{Symbols}
use Rattle.dz_algebra.proofs.Leaders.{no_leader_ground}
use Rattle.dz_rank.specs.declared.symbols.Symbol.{Symbol}
use Rattle.dz_rank.specs.Rankings.{RankingValue}
use Rattle.dz_poly.specs.Books.{BookValue, polynomial}
use Rattle.dz_monomials.specs.Ranked.{symbols_under}
use Rattle.dz_diff.specs.State.{without_place}
use Rattle.dz_diff.specs.States.{polynomials}
use Rattle.dz_diff.specs.Tests.{Polynomials, is_member, is_unit, is_zero, same}
use Rattle.dz_diff.proofs.Leading.{led_not_ground}
use Rattle.dz_diff.proofs.SameTests.{same_itself, other_not_same}

-- ---- ground and not zero
-- with a leader it is not ground
pub led_no_unit : (r : RankingValue) (p : Polynomial Symbol) (l : Symbol) → leader (symbols_under r) p ≡ Some l → false ≡ is_unit (symbols_under r) p
led_no_unit r p l e = sym (ap (λ b. b && not (is_zero p)) (led_not_ground r p l e))

-- the zero polynomial has no term
pub zero_by_length : (p : Polynomial Symbol) → (length p == 0) ≡ is_zero p
zero_by_length [] = refl
zero_by_length (t ∷ p) = grind (arith, nat_tests)

-- without one it is
pub unled_unit : (r : RankingValue) (p : Polynomial Symbol) → leader (symbols_under r) p ≡ None → not (length p == 0) ≡ is_unit (symbols_under r) p
unled_unit r p e = ap not (zero_by_length p) ∙ sym (ap (λ b. b && not (is_zero p)) (no_leader_ground (symbols_under r) p e))

-- ---- a list without a place
-- all stays where the place is none
pub none_left_out : (hs : Polynomials) → hs ≡ without_place 0 hs
none_left_out [] = refl
none_left_out (h ∷ hs) = refl

-- another place stays
other_stays : (m n : ℕ) (h : Polynomial Symbol) (hs : Polynomials) → m ≢ 1 → n ≡ m - 1 → without_place m (h ∷ hs) ≡ h ∷ without_place n hs
other_stays zero n h hs k e = ap (λ (gs : Polynomials). h ∷ gs) (none_left_out hs) ∙ ap (λ i. h ∷ without_place i hs) (sym e)
other_stays (suc zero) n h hs k e = absurd (k refl)
other_stays (suc (suc m)) n h hs k e = let f : n ≡ suc m = omega (arith, e) in ap (λ i. h ∷ without_place i hs) (sym f)

-- and the place goes
place_goes : (m n : ℕ) (h : Polynomial Symbol) (hs : Polynomials) → m ≡ 1 → n ≡ 0 → without_place m (h ∷ hs) ≡ without_place n hs
place_goes m n h hs e f = ap (λ i. without_place i (h ∷ hs)) e ∙ none_left_out hs ∙ ap (λ i. without_place i hs) (sym f)

-- ---- the loop over the places: what is found from one on
module _ (book : BookValue) (p : Polynomial Symbol) (ps : List ℕ) (n i d : ℕ) (total : Bool) (inside : i < length ps) (whole : is_member (symbols_under book.ranking) p (without_place (n - i) (polynomials book (drop i ps))) ≡ total) where
  -- the symbols of the book
  abbrev g : Symbols Symbol
  g = symbols_under book.ranking

  -- the polynomial at this place
  abbrev here : Polynomial Symbol
  here = polynomial book (slice_index_or ps i d)

  -- what is found behind it
  abbrev rest : Bool
  rest = is_member g p (without_place (n - (i + 1)) (polynomials book (drop (i + 1) ps)))

  -- the place counts
  counted : i + 1 ≢ n → (same g p here || rest) ≡ total
  counted k = sym (ap (λ qs. is_member g p (without_place (n - i) (polynomials book qs))) (drop_more ps i d inside) ∙ ap (is_member g p) (other_stays (n - i) (n - (i + 1)) here (polynomials book (drop (i + 1) ps)) (λ e. k (omega (arith, e))) (omega arith))) ∙ whole

  -- the terms are found
  pub place_found : i + 1 ≢ n → p ≡ here → true ≡ total
  place_found k e = sym (ap (λ (q : Polynomial Symbol). same g p q || rest) (sym e) ∙ ap (λ b. b || rest) (same_itself book.ranking p)) ∙ counted k

  -- the place is the one that is left out
  pub place_left_out : i + 1 ≡ n → rest ≡ total
  place_left_out e = sym (ap (λ qs. is_member g p (without_place (n - i) (polynomials book qs))) (drop_more ps i d inside) ∙ ap (is_member g p) (place_goes (n - i) (n - (i + 1)) here (polynomials book (drop (i + 1) ps)) (omega (arith, e)) (omega (arith, e)))) ∙ whole

  -- other terms stand there
  pub place_differs : i + 1 ≢ n → (p ≡ here → ⊥) → rest ≡ total
  place_differs k e = sym (ap (λ b. b || rest) (other_not_same book.ranking p here e)) ∙ counted k

-- what is false is not true
pub untrue : IsTrue false → ⊥
untrue e = absurd cc
