-- A solution of the state of a chain is a regular zero of the chain: no initial and no separant vanishes.
use Rattle.std.specs.List.{list_all}
use Rattle.std.proofs.Common.{◌≡◌, ◌&&◌, inl, inr, ◌∙◌, Bool, true, false, cond, List, [], ◌∷◌, map, refl, sym, subst, Result, Ok, Err, Some}
use Rattle.std.specs.Prelude.{filter}
use Rattle.dz_algebra.specs.Derivation.{derivative_contributions, polynomial_derivative, rate_by}
use Rattle.dz_algebra.specs.Parts.{initial, leader, separant}
use Rattle.dz_algebra.specs.Polynomial.{Polynomial}
use Rattle.dz_algebra.specs.Size.{Refusal, separant_answer}
use Rattle.dz_algebra.proofs.Operations.{operation_is}
use Rattle.dz_rank.specs.Rankings.{RankingValue, ranking_cmp}
use Rattle.dz_rank.specs.declared.symbols.Symbol.{Symbol}
use Rattle.dz_monomials.specs.Ranked.{symbols_under}
use Rattle.dz_monomials.specs.Lists.{AllOf, SomeOf}
use Rattle.dz_diff.specs.Operations.{setting_of}
use Rattle.dz_diff.specs.State.{State}
use Rattle.dz_diff.specs.Tests.{Polynomials}
use Rattle.dz_algebra.proofs.Outcomes.{both}
use Rattle.dz_diff.proofs.Goodness.{Good}
use Rattle.dz_step.specs.declared.Which.TheVariants.{Initial, Separant}
use Rattle.dz_step.specs.Step.{multiplier_answer, permitted_if}
use Rattle.dz_step.proofs.TakenSteps.{good_multiplier}
use Rattle.dz_tree.specs.Chain.{has_permitted, passes}
use Rattle.dz_tree.specs.Chains.{IsChain}
use Rattle.dz_check.specs.Walk.{End, all_chains, chains_of, is_chain_end}
use Rattle.dz_zeros.proofs.Meaning.{Meaning, Differs, collected}
use Rattle.dz_zeros.proofs.Actions.{GoodState, Solution}
use Rattle.dz_zeros.proofs.Steps.{allowed_nonzero}
use Rattle.dz_zeros.proofs.Walks.{GoodEnd, SolvedEnd}

module _ {r : RankingValue} {R : Type 0} (m : Meaning r R) where
  -- ---- multipliers
  -- the initial and the separant of an equation do not vanish
  pub record Regular (p : Polynomial Symbol) : Type 0 where
    pub initial_differs : (l : Symbol) → leader (symbols_under r) p ≡ Some l → Differs m (initial (ranking_cmp r) l p)
    pub separant_differs : (l : Symbol) → leader (symbols_under r) p ≡ Some l → Differs m (separant (ranking_cmp r) l p)

  -- a separant that fits is the separant
  separant_is : (l : Symbol) (p a : Polynomial Symbol) → separant_answer (symbols_under r) l p ≡ Ok a → a ≡ separant (ranking_cmp r) l p
  unfolding polynomial_derivative
  separant_is l p a e = sym (operation_is (symbols_under r) (derivative_contributions (ranking_cmp r) (rate_by (ranking_cmp r) l) p) a e)

  -- a permitted initial does not vanish
  initial_nonzero : (s : State) (p : Polynomial Symbol) (l : Symbol) → Good r p → AllOf (Differs m) s.inequations
      → permitted_if (symbols_under r) s.inequations (multiplier_answer (symbols_under r) Initial l p) ≡ true → Differs m (initial (ranking_cmp r) l p)
  initial_nonzero s p l good h e z = allowed_nonzero m s.inequations _ (good_multiplier r Initial l p _ refl good) e h (collected m (initial (ranking_cmp r) l p) ∙ z)

  -- nor does a permitted separant
  separant_nonzero : (s : State) (p : Polynomial Symbol) (l : Symbol) → Good r p → AllOf (Differs m) s.inequations
      → (q : Result (Polynomial Symbol) Refusal) → multiplier_answer (symbols_under r) Separant l p ≡ q → permitted_if (symbols_under r) s.inequations q ≡ true → Differs m (separant (ranking_cmp r) l p)
  separant_nonzero s p l good h (Ok a) f e = subst (Differs m) (separant_is l p a f) (allowed_nonzero m s.inequations a (good_multiplier r Separant l p a f good) e h)
  separant_nonzero s p l good h (Err x) f e = cc

  -- what an equation with permitted multipliers is
  regular : (s : State) (p : Polynomial Symbol) → Good r p → AllOf (Differs m) s.inequations → has_permitted (symbols_under r) s p ≡ true → Regular p
  regular s p good h e = record {
    initial_differs = λ l k. initial_nonzero s p l good h (parts l k).0;
    separant_differs = λ l k. separant_nonzero s p l good h (multiplier_answer (symbols_under r) Separant l p) refl (parts l k).1;
  }
    where
      parts : (l : Symbol) → leader (symbols_under r) p ≡ Some l
          → (permitted_if (symbols_under r) s.inequations (multiplier_answer (symbols_under r) Initial l p) ≡ true) × (permitted_if (symbols_under r) s.inequations (multiplier_answer (symbols_under r) Separant l p) ≡ true)
      parts l k = both _ _ (subst (λ o. passes (λ l. permitted_if (symbols_under r) s.inequations (multiplier_answer (symbols_under r) Initial l p) && permitted_if (symbols_under r) s.inequations (multiplier_answer (symbols_under r) Separant l p)) o ≡ true) k e)

  -- all equations
  all_regular : (s : State) (ps : Polynomials) → AllOf (Good r) ps → AllOf (Differs m) s.inequations → list_all (has_permitted (symbols_under r) s) ps ≡ true → AllOf Regular ps
  all_regular s [] good h e = tt
  all_regular s (p ∷ ps) good h e = let k = both (has_permitted (symbols_under r) s p) (list_all (has_permitted (symbols_under r) s) ps) e in (regular s p good.0 h k.0, all_regular s ps good.1 h k.1)

  -- a solution of a chain's state is a regular zero
  pub chain_regular : (s : State) → GoodState m s → IsChain (setting_of r) s → Solution m s → AllOf Regular s.equations
  chain_regular s good c h = all_regular s s.equations good.0 h.1 c.multipliers

  -- ---- the ends of a complete tree
  -- a solution of a chain, and a regular zero of it
  pub record RegularZero (s : State) : Type 0 where
    pub solution : Solution m s
    pub equations : AllOf Regular s.equations

  -- where all ends are chains, their states are those of the chains
  pub ends_regular : (ends : List End) → all_chains ends ≡ true → AllOf (GoodEnd m) ends → AllOf (IsChain (setting_of r)) (chains_of ends)
      → (SomeOf (SolvedEnd m) ends → SomeOf RegularZero (chains_of ends)) × (SomeOf RegularZero (chains_of ends) → SomeOf (SolvedEnd m) ends)
  ends_regular [] all good c = ((λ h. h), (λ h. h))
  ends_regular (e ∷ ends) all good c = by_test (is_chain_end e) (both (is_chain_end e) (all_chains ends) all).0 c (λ c. ends_regular ends (both (is_chain_end e) (all_chains ends) all).1 good.1 c)
    where
      states : Bool → List State
      states b = map (λ (x : End). x.state) (cond b (e ∷ filter is_chain_end ends) (filter is_chain_end ends))

      by_test : (b : Bool) → b ≡ true → AllOf (IsChain (setting_of r)) (states b)
          → (AllOf (IsChain (setting_of r)) (chains_of ends) → (SomeOf (SolvedEnd m) ends → SomeOf RegularZero (chains_of ends)) × (SomeOf RegularZero (chains_of ends) → SomeOf (SolvedEnd m) ends))
          → (SomeOf (SolvedEnd m) (e ∷ ends) → SomeOf RegularZero (states b)) × (SomeOf RegularZero (states b) → SomeOf (SolvedEnd m) (e ∷ ends))
      by_test true k c ih = (down, up)
        where
          down : SomeOf (SolvedEnd m) (e ∷ ends) → SomeOf RegularZero (e.state ∷ chains_of ends)
          down (inl h) = inl (record { solution = h; equations = chain_regular e.state good.0 c.0 h })
          down (inr h) = inr ((ih c.1).0 h)

          up : SomeOf RegularZero (e.state ∷ chains_of ends) → SomeOf (SolvedEnd m) (e ∷ ends)
          up (inl h) = inl h.solution
          up (inr h) = inr ((ih c.1).1 h)
      by_test false k c ih = cc
