-- What stands at a place, and the equation of a book that it is.
use Rattle.std.proofs.Common.{◌≡◌, ◌≢◌, ◌<◌, ◌≤◌, ◌-◌, ◌∙◌, ℕ, zero, suc, false, List, [], ◌∷◌, length, refl, sym, ap, subst, arith, Some, None}
use Rattle.std.specs.Prelude.{slice_get, slice_index_or}
use Rattle.std.proofs.lemmas.Option.{slice_get_read}
use Rattle.std.proofs.lemmas.List.Elements.{All-head, All-tail}
use Rattle.dz_algebra.specs.Parts.{leader}
use Rattle.dz_algebra.specs.Polynomial.{Polynomial}
use Rattle.dz_rank.specs.declared.symbols.Operator.{Operator}
use Rattle.dz_rank.specs.declared.symbols.Symbol.{Symbol}
use Rattle.dz_poly.specs.Books.{BookValue, Lives, polynomial}
use Rattle.dz_monomials.specs.Ranked.{symbols_under}
use Rattle.dz_diff.specs.Operations.{setting_of}
use Rattle.dz_diff.specs.State.{at_place}
use Rattle.dz_diff.specs.States.{LiveAll, StateValue, polynomials, state_in}
use Rattle.dz_step.specs.declared.Role.{Role}
use Rattle.dz_step.specs.Permission.{is_permitted_at, is_permitted_by, is_permitted_with}
use Rattle.dz_step.specs.Step.{is_permitted}

-- ---- places
-- nothing stands at place 0
pub no_place : {A : Type 0} (xs : List A) (i : ℕ) → i ≡ 0 → None ≡ at_place i xs
no_place {A} [] i e = refl
no_place {A} (x ∷ xs) i e = ap (λ i. at_place i (x ∷ xs)) (sym e)

-- nor behind the last
pub past_all : {A : Type 0} (xs : List A) (i : ℕ) → length xs < i → None ≡ at_place i xs
past_all [] i h = refl
past_all (x ∷ xs) zero h = refl
past_all (x ∷ xs) (suc zero) h = absurd (omega (arith, h))
past_all (x ∷ xs) (suc (suc i)) h = past_all xs (suc i) (omega (arith, h))

-- else what has that number, counted from 0
counted_from : {A : Type 0} (xs : List A) (i : ℕ) → at_place (suc i) xs ≡ slice_get xs i
counted_from [] i = refl
counted_from (x ∷ xs) zero = refl
counted_from (x ∷ xs) (suc i) = counted_from xs i

-- and so it is for a place that is not 0
pub place_is : {A : Type 0} (xs : List A) (i : ℕ) (x : A) → i ≢ 0 → i ≤ length xs → x ≡ slice_index_or xs (i - 1) x → Some x ≡ at_place i xs
place_is xs zero x n h e = absurd (n refl)
place_is xs (suc i) x n h e =
    let k : suc i - 1 ≡ i = omega arith in
    sym (counted_from xs i ∙ slice_get_read xs (length xs) i x refl (omega (arith, h)) (e ∙ ap (λ i. slice_index_or xs i x) k))

-- ---- places of a book's polynomials
module _ (book : BookValue) where
  -- no number, no polynomial
  pub none_at : (ps : List ℕ) (i : ℕ) → at_place i ps ≡ None → at_place i (polynomials book ps) ≡ None
  none_at [] i e = refl
  none_at (p ∷ ps) zero e = refl
  none_at (p ∷ ps) (suc zero) e = absurd cc
  none_at (p ∷ ps) (suc (suc i)) e = none_at ps (suc i) e

  -- the polynomial of the number
  pub some_at : (ps : List ℕ) (i p : ℕ) → at_place i ps ≡ Some p → at_place i (polynomials book ps) ≡ Some (polynomial book p)
  some_at [] i p e = absurd cc
  some_at (x ∷ ps) zero p e = absurd cc
  some_at (x ∷ ps) (suc zero) p e = let f : x ≡ p = cc in ap (λ x. Some (polynomial book x)) f
  some_at (x ∷ ps) (suc (suc i)) p e = some_at ps (suc i) p e

  -- which lives where all of them live
  pub lives_at : (ps : List ℕ) (i p : ℕ) → LiveAll book ps → at_place i ps ≡ Some p → Lives book p
  lives_at [] i p h e = absurd cc
  lives_at (x ∷ ps) zero p h e = absurd cc
  lives_at (x ∷ ps) (suc zero) p h e = let f : x ≡ p = cc in subst (Lives book) f (All-head (λ p. Lives book p) x ps h)
  lives_at (x ∷ ps) (suc (suc i)) p h e = lives_at ps (suc i) p (All-tail (λ p. Lives book p) x ps h) e

  -- ---- permission by places
  module _ (s : StateValue) (role : Role) (i : ℕ) (t : Operator) where
    -- there is no such place
    pub permitted_nowhere : at_place i s.equations ≡ None → false ≡ is_permitted_at (setting_of book.ranking) (state_in book s) role i t
    permitted_nowhere e = sym (ap (is_permitted_with (setting_of book.ranking) (state_in book s) role t) (none_at s.equations i e))

    module _ (p : ℕ) (q : Polynomial Symbol) (there : at_place i s.equations ≡ Some p) (is : q ≡ polynomial book p) where
      -- the equation stands there
      found : is_permitted_at (setting_of book.ranking) (state_in book s) role i t ≡ is_permitted_by (setting_of book.ranking) (state_in book s) role t q (leader (symbols_under book.ranking) q)
      found = ap (is_permitted_with (setting_of book.ranking) (state_in book s) role t) (some_at s.equations i p there) ∙ ap (λ q. is_permitted_by (setting_of book.ranking) (state_in book s) role t q (leader (symbols_under book.ranking) q)) (sym is)

      -- it is ground
      pub permitted_unled : leader (symbols_under book.ranking) q ≡ None → false ≡ is_permitted_at (setting_of book.ranking) (state_in book s) role i t
      permitted_unled e = sym (found ∙ ap (is_permitted_by (setting_of book.ranking) (state_in book s) role t q) e)

      -- it has a leader
      pub permitted_led : (l : Symbol) → leader (symbols_under book.ranking) q ≡ Some l → is_permitted (setting_of book.ranking) (state_in book s) role q l t ≡ is_permitted_at (setting_of book.ranking) (state_in book s) role i t
      permitted_led l e = sym (found ∙ ap (is_permitted_by (setting_of book.ranking) (state_in book s) role t q) e)
