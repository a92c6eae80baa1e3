-- A state in a book stays the same while polynomials are only added to the book.
use Rattle.std.proofs.Common.{◌≡◌, ap₂, refl, ℕ, List, [], ◌∷◌}
use Rattle.std.proofs.lemmas.List.Elements.{All-head, All-tail, All-weaker}
use Rattle.dz_algebra.specs.Polynomial.{Polynomial}
use Rattle.dz_rank.specs.declared.symbols.Symbol.{Symbol}
use Rattle.dz_poly.specs.Books.{BookValue, IsKept, Lives}
use Rattle.dz_poly.proofs.Books.{kept_polynomial, lives_on}
use Rattle.std.specs.List.{IsDistinct}
use Rattle.dz_monomials.specs.Ranked.{symbols_under}
use Rattle.dz_diff.specs.States.{IsStateOf, LiveAll, StandsIn, StateValue, polynomials, state_in}
use Rattle.dz_diff.specs.Tests.{Polynomials}

module _ (old new : BookValue) (kept : IsKept old new) where
  -- polynomials that were there before are the same
  pub kept_polynomials : (ps : List ℕ) → LiveAll old ps → polynomials new ps ≡ polynomials old ps
  kept_polynomials [] live = refl
  kept_polynomials (p ∷ ps) live = ap₂ (λ (q : Polynomial Symbol) (qs : Polynomials). q ∷ qs) (kept_polynomial old new p kept (All-head (λ p. Lives old p) p ps live)) (kept_polynomials ps (All-tail (λ p. Lives old p) p ps live))

  -- numbers that live go on living
  pub live_on : (ps : List ℕ) → LiveAll old ps → LiveAll new ps
  live_on ps live = All-weaker (λ p. Lives old p) (λ p. Lives new p) (λ p l. lives_on old new p kept l) ps live

  module _ (s : StateValue) (there : StandsIn old s) where
    -- the state is the same
    pub kept_state : state_in new s ≡ state_in old s
    kept_state = ap₂ (λ (es : Polynomials) (hs : Polynomials). record { equations = es; inequations = hs; splits = s.splits }) (kept_polynomials s.equations there.equations_live) (kept_polynomials s.inequations there.inequations_live)

    -- and goes on standing in the book
    pub stands_on : StandsIn new s
    stands_on = record { equations_live = live_on s.equations there.equations_live; inequations_live = live_on s.inequations there.inequations_live }

-- a state without members and forks has the facts of a state
pub no_members : (book : BookValue) (es hs : List ℕ) → es ≡ [] → hs ≡ [] → IsStateOf (symbols_under book.ranking) (state_in book (record { equations = es; inequations = hs; splits = 0 }))
unfolding IsDistinct
no_members book [] [] e f = record { equations_normalised = tt; inequations_normalised = tt; equations_distinct = tt; inequations_distinct = tt; no_zero = refl; no_unit = refl; within_limits = refl }
no_members book [] (h ∷ hs) e f = absurd cc
no_members book (p ∷ es) hs e f = absurd cc
