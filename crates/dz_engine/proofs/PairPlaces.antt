-- The equation at the first place of a critical pair, by its index.
use Rattle.std.proofs.Common.{◌≡◌, ◌<◌, ◌∙◌, ◌-◌, ℕ, zero, suc, List, [], ◌∷◌, length, ap, ap₂, refl, true, arith, Some}
use Rattle.std.specs.Prelude.{slice_index_or}
use Rattle.dz_algebra.specs.Polynomial.{Polynomial}
use Rattle.dz_poly.specs.Books.{BookValue, polynomial}
use Rattle.dz_rank.specs.declared.symbols.Symbol.{Symbol}
use Rattle.dz_monomials.specs.Ranked.{symbols_under}
use Rattle.dz_diff.specs.Operations.{setting_of}
use Rattle.dz_diff.specs.State.{at_place}
use Rattle.dz_diff.specs.States.{StateValue, polynomials, state_in}
use Rattle.dz_pair.specs.Pair.{delta_answer, is_pair}
use Rattle.dz_engine.specs.Naming.{IsPairAt}
use Rattle.dz_engine.proofs.NamedLines.{member_is}

-- the polynomial at a place, by the index that is one less
place_is : (book : BookValue) (ps : List ℕ) (i : ℕ) (p : Polynomial Symbol) → at_place i (polynomials book ps) ≡ Some p → polynomial book (slice_index_or ps (i - 1) 0) ≡ p
place_is book [] i p e = absurd cc
place_is book (x ∷ ps) zero p e = absurd cc
place_is book (x ∷ ps) (suc zero) p e = cc
place_is book (x ∷ ps) (suc (suc i)) p e =
    let less : suc (suc i) - 1 ≡ suc (suc i - 1) = omega arith in
    ap (λ k. polynomial book (slice_index_or (x ∷ ps) k 0)) less ∙ place_is book ps (suc i) p e

-- this index is one of the list
pub place_inside : (book : BookValue) (ps : List ℕ) (i : ℕ) (p : Polynomial Symbol) → at_place i (polynomials book ps) ≡ Some p → i - 1 < length ps
place_inside book [] i p e = absurd cc
place_inside book (x ∷ ps) zero p e = absurd cc
place_inside book (x ∷ ps) (suc zero) p e = omega arith
place_inside book (x ∷ ps) (suc (suc i)) p e = let h = place_inside book ps (suc i) p e in omega (arith, h)

module _ (book : BookValue) (s : StateValue) (i j : ℕ) (pair : IsPairAt (symbols_under book.ranking) (state_in book s) i j) (names : List ℕ) (same : names ≡ s.equations) (q : ℕ) (second : at_place j s.equations ≡ Some q) where
  -- both polynomials of the pair
  first_is : polynomial book (slice_index_or names (i - 1) 0) ≡ pair.first
  first_is = ap (λ ps. polynomial book (slice_index_or ps (i - 1) 0)) same ∙ place_is book s.equations i pair.first pair.first_is

  second_is : polynomial book q ≡ pair.second
  second_is = member_is book s.equations (state_in book s).equations j q pair.second refl second pair.second_is

  -- they are a critical pair, with this Delta-polynomial
  pub pair_here : is_pair (symbols_under book.ranking) (polynomial book (slice_index_or names (i - 1) 0)) (polynomial book q) ≡ true
  pair_here = ap₂ (is_pair (symbols_under book.ranking)) first_is second_is ∙ pair.is_one

  pub delta_here : delta_answer (setting_of book.ranking) (polynomial book (slice_index_or names (i - 1) 0)) (polynomial book q) ≡ delta_answer (setting_of book.ranking) pair.first pair.second
  delta_here = ap₂ (delta_answer (setting_of book.ranking)) first_is second_is
