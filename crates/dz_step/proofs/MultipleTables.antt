-- A test of the derivatives of a polynomial, by its table.
use Rattle.std.specs.Prelude.{drop, nat_le, slice_index_or}
use Rattle.std.specs.List.{list_any}
use Rattle.std.proofs.Common.{◌≡◌, ◌<◌, ◌≤◌, ◌+◌, ◌∙◌, ◌||◌, ℕ, Bool, true, false, cond, List, ◌∷◌, length, map, refl, sym, ap}
use Rattle.dz_rank.specs.declared.symbols.Symbol.{Symbol}
use Rattle.dz_rank.specs.declared.symbols.Symbol.TheVariants.{Independent, Derivative}
use Rattle.dz_algebra.specs.Parts.{degree}
use Rattle.dz_algebra.specs.Polynomial.{Polynomial}
use Rattle.dz_algebra.specs.Symbols.{Symbols}
use Rattle.dz_rank.specs.Symbols.{HasFourExponents, IsDerivativeBy}
use Rattle.dz_rank.specs.declared.symbols.Operator.{Operator}
use Rattle.dz_diff.specs.Operators.{is_proper, quotient}
use Rattle.dz_step.specs.Multiples.{is_enough_by}
use Rattle.dz_step.proofs.DivisorTables.{quotient_found}
use Rattle.dz_step.proofs.Searches.{derivatives_in, drop_end, drop_here, front}

-- a derivative stands in front
front_is : (v : Symbol) (vs : List Symbol) → ((j : ℕ) → v ≡ Independent j → ⊥) → front (v ∷ vs) ≡ v ∷ front vs
front_is (Independent j) vs n = absurd (n j refl)
front_is (Derivative u t) vs n = refl

module _ (test : Symbol → Bool) (table : List (Symbol × ℕ)) (k : ℕ) (whole : Bool) (is : list_any test (derivatives_in (drop k table)) ≡ whole) where
  -- none is left
  pub none_passes : length table ≤ k → false ≡ whole
  none_passes l = sym (ap (λ (m : List (Symbol × ℕ)). list_any test (derivatives_in m)) (drop_end k table l)) ∙ is

  module _ (d : Symbol × ℕ) (l : k < length table) where
    -- no derivative is left
    pub no_more : (j : ℕ) → (slice_index_or table k d).0 ≡ Independent j → false ≡ whole
    no_more j e = sym (ap (λ (m : List (Symbol × ℕ)). list_any test (derivatives_in m)) (drop_here k table d l) ∙ ap (λ v. list_any test (front (v ∷ map (λ p. p.0) (drop (k + 1) table)))) e) ∙ is

    module _ (n : (j : ℕ) → (slice_index_or table k d).0 ≡ Independent j → ⊥) where
      -- this one is tested, and those behind it
      one_tested : (test (slice_index_or table k d).0 || list_any test (derivatives_in (drop (k + 1) table))) ≡ whole
      one_tested = sym (ap (λ (m : List (Symbol × ℕ)). list_any test (derivatives_in m)) (drop_here k table d l) ∙ ap (list_any test) (front_is (slice_index_or table k d).0 (map (λ p. p.0) (drop (k + 1) table)) n)) ∙ is

      -- this one passes
      pub one_passes : test (slice_index_or table k d).0 ≡ true → true ≡ whole
      one_passes e = sym (ap (λ b. b || list_any test (derivatives_in (drop (k + 1) table))) e) ∙ one_tested

      -- this one does not
      pub one_fails : test (slice_index_or table k d).0 ≡ false → list_any test (derivatives_in (drop (k + 1) table)) ≡ whole
      one_fails e = sym (ap (λ b. b || list_any test (derivatives_in (drop (k + 1) table))) e) ∙ one_tested

-- ---- operators
-- what is enough by the operator that is found
pub enough_found : (g : Symbols Symbol) (v l : Symbol) (q : Polynomial Symbol) (d : ℕ) (t : Operator) → length t.counts ≡ 4 → HasFourExponents l → IsDerivativeBy t l v → (b : Bool) → b ≡ is_proper t
    → is_enough_by g l q d (quotient v l) ≡ nat_le (cond b 1 (degree g.cmp l q)) d
enough_found g v l q d t four h is b e = ap (is_enough_by g l q d) (quotient_found v l t four h is) ∙ ap (λ b. nat_le (cond b 1 (degree g.cmp l q)) d) (sym e)
