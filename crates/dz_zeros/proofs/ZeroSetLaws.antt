-- The theorem of zero sets, over every domain and at every point that fits.
use Rattle.std.proofs.Common.{◌≡◌, ◌≢◌, ◌⊎◌, inl, inr, ◌↔◌, ℕ, zero, suc, ◌<◌, Bool, true, false, not, cond, map, List, [], ◌∷◌, ℤ, pos, negsuc, refl, sym, ap, ◌∙◌, arith, Result, Ok, Err, IsOk}
use Rattle.std.specs.Prelude.{filter}
use Rattle.dz_algebra.specs.Derivation.{derivative_contributions, polynomial_derivative}
use Rattle.dz_algebra.specs.Domain.{Operations, DomainLaws}
use Rattle.dz_algebra.specs.Monomial.{Monomial, MonomialIn}
use Rattle.dz_algebra.specs.Parts.{has_derivative, initial, is_ground, separant}
use Rattle.dz_algebra.specs.Polynomial.{Contributions, Polynomial, PolynomialIn}
use Rattle.dz_algebra.specs.Ring.{Value, same_value, values_arithmetic, ring_of_values, negative_zero, negative_negative}
use Rattle.dz_algebra.specs.Value.{value, whole_in}
use Rattle.dz_algebra.proofs.DomainValues.{derivative_of_zero, symbol_at, value_there, value_characteristic, value_divisors, value_of_collected}
use Rattle.dz_rank.specs.Rankings.{RankingValue, ranking_cmp}
use Rattle.dz_rank.specs.Symbols.{BelongsTo}
use Rattle.dz_rank.specs.declared.symbols.Symbol.{Symbol}
use Rattle.dz_rank.specs.declared.symbols.Symbol.TheVariants.{Independent, Derivative}
use Rattle.dz_monomials.specs.Ranked.{symbol_rate, symbols_under}
use Rattle.dz_monomials.proofs.SymbolLaws.{ranking_order}
use Rattle.dz_domain.specs.Point.{Coordinates, IsPoint, FitsSignature, symbol_value}
use Rattle.dz_domain.proofs.Points.{symbol_is_value}
use Rattle.dz_domain.proofs.PointValues.{ground_value, value_of_derivative}
use Rattle.dz_monomials.specs.Lists.{AllOf, SomeOf}
use Rattle.dz_diff.specs.Tests.{Polynomials}
use Rattle.dz_diff.specs.Operations.{setting_of}
use Rattle.dz_diff.specs.State.{State}
use Rattle.dz_move.specs.Root.{System, is_closed}
use Rattle.dz_algebra.proofs.Outcomes.{both, is_false}
use Rattle.dz_diff.specs.Over.{AreOver, IsOver}
use Rattle.dz_diff.proofs.Overs.{all_good, good_over}
use Rattle.dz_diff.proofs.Goodness.{InRange}
use Rattle.dz_step.specs.declared.Role.TheVariants.{Free}
use Rattle.dz_step.specs.declared.Step.{Step}
use Rattle.dz_step.specs.Run.{run}
use Rattle.dz_move.specs.declared.Rule.{Rule}
use Rattle.dz_check.specs.Certified.{IsCertified}
use Rattle.dz_tree.specs.Chains.{IsChain}
use Rattle.dz_tree.specs.Trees.{Tree}
use Rattle.dz_check.specs.Walk.{End, all_chains, chains_of, ends_of, ends_in, is_chain_end}
use Rattle.dz_check.proofs.CertifiedChains.{chains_are}
use Rattle.dz_check.proofs.Certifying.{answer_certified}
use Rattle.dz_zeros.specs.Laws.{ZeroSets}
use Rattle.dz_zeros.specs.Runs.{RunsToZero}
use Rattle.dz_zeros.specs.Solves.{HasValueZero, IsRegularAt, Solves, SolvesChain, SolvesState}
use Rattle.dz_zeros.proofs.Meaning.{Meaning, Vanishes, Differs}
use Rattle.dz_zeros.proofs.Steps.{run_alike}
use Rattle.dz_zeros.proofs.Actions.{GoodState, Solution, closed_has_none, good_equations, serves_free}
use Rattle.dz_zeros.proofs.Roots.{tree_same}
use Rattle.dz_zeros.proofs.RegularZeros.{Regular, RegularZero, chain_regular, ends_regular}
use Rattle.dz_zeros.proofs.Walks.{GoodEnd, SolvedEnd}

-- ---- symbols of a signature
module _ (r : RankingValue) where
  independents_belong : (n : Monomial Symbol) → has_derivative (symbols_under r) n ≡ false → MonomialIn (InRange r) n → MonomialIn (BelongsTo r.signature) n
  independents_belong [] e h = tt
  independents_belong ((Independent j, k) ∷ n) e h = (h.0, independents_belong n e h.1)
  independents_belong ((Derivative u t, k) ∷ n) e h = cc

  ground_belongs : (p : Polynomial Symbol) → is_ground (symbols_under r) p ≡ true → PolynomialIn (InRange r) p → PolynomialIn (BelongsTo r.signature) p
  ground_belongs [] e h = tt
  ground_belongs (t ∷ p) e h =
      let b = both (not (has_derivative (symbols_under r) t.0)) (is_ground (symbols_under r) p) e in
      (independents_belong t.0 (is_false (has_derivative (symbols_under r) t.0) b.0) h.0, ground_belongs p b.1 h.1)

-- ---- points
module _ (r : RankingValue) {E : Type 0} {o : Operations E} (laws : DomainLaws o) {c : Coordinates E} (point : IsPoint o c) (fits : FitsSignature r.signature c) where
  -- the value of a symbol, as a value of the domain
  abbrev at : Symbol → Value o
  at = symbol_at laws (symbol_value o c) (symbol_is_value laws point)

  decide_zero : (x : Value o) → (x ≡ (ring_of_values laws).zero) ⊎ (x ≢ (ring_of_values laws).zero)
  decide_zero x =
      elim (o.is_zero x.0) as (λ b. o.is_zero x.0 ≡ b → (x ≡ (ring_of_values laws).zero) ⊎ (x ≢ (ring_of_values laws).zero)) [
        | true ↦ λ h. inl (same_value o x (ring_of_values laws).zero ((laws.is_zero_at_zero x.0 x.1).0 h))
        | false ↦ λ h. inr (λ e. different (o.is_zero x.0) ((laws.is_zero_at_zero x.0 x.1).1 (ap (λ y. y.0) e)) h)
      ] refl
    where
      different : (b : Bool) → b ≡ true → b ≡ false → ⊥
      different b e f = cc

  whole_not_zero : (k : ℤ) → k ≢ pos 0 → whole_in (values_arithmetic laws) k ≢ (ring_of_values laws).zero
  whole_not_zero (pos zero) h e = h refl
  whole_not_zero (pos (suc n)) h e = value_characteristic laws n e
  whole_not_zero (negsuc n) h e = value_characteristic laws n (sym (negative_negative (ring_of_values laws) _) ∙ ap (values_arithmetic laws).negative e ∙ negative_zero (ring_of_values laws))

  to_point : (a : Contributions Symbol) → value (values_arithmetic laws) at a ≡ (ring_of_values laws).zero → HasValueZero o c a
  to_point a z = sym (value_there laws (symbol_value o c) (symbol_is_value laws point) a) ∙ ap (λ x. x.0) z

  from_point : (a : Contributions Symbol) → HasValueZero o c a → value (values_arithmetic laws) at a ≡ (ring_of_values laws).zero
  from_point a z = same_value o _ _ (value_there laws (symbol_value o c) (symbol_is_value laws point) a ∙ z)

  derivatives_vanish : (i : ℕ) (a : Polynomial Symbol) → i < r.signature.independents → value (values_arithmetic laws) at a ≡ (ring_of_values laws).zero
      → value (values_arithmetic laws) at (derivative_contributions (ranking_cmp r) (symbol_rate i) a) ≡ (ring_of_values laws).zero
  unfolding polynomial_derivative
  derivatives_vanish i a h z =
      from_point (derivative_contributions (ranking_cmp r) (symbol_rate i) a)
      (sym (value_of_collected laws (symbol_value o c) (symbol_is_value laws point) (ranking_cmp r) (ranking_order r) (derivative_contributions (ranking_cmp r) (symbol_rate i) a))
      ∙ value_of_derivative r laws point fits i h a
      ∙ ap (o.derivative i) (to_point a z) ∙ derivative_of_zero laws i (omega (arith, point.enough, fits.independents, h)))

  -- a point gives a meaning
  meaning_of : Meaning r (Value o)
  meaning_of = record {
    ring = ring_of_values laws;
    at = at;
    decide = decide_zero;
    no_divisors = value_divisors laws;
    whole_nonzero = whole_not_zero;
    derivative_vanishes = derivatives_vanish;
    ground_nonzero = λ a canonical inside ground n z. ground_value r laws point fits a canonical (ground_belongs r a ground inside) ground n (to_point a z);
  }

  all_to : (ps : Polynomials) → AllOf (Vanishes meaning_of) ps → AllOf (HasValueZero o c) ps
  unfolding meaning_of
  all_to [] h = tt
  all_to (a ∷ ps) h = (to_point a h.0, all_to ps h.1)

  all_from : (ps : Polynomials) → AllOf (HasValueZero o c) ps → AllOf (Vanishes meaning_of) ps
  unfolding meaning_of
  all_from [] h = tt
  all_from (a ∷ ps) h = (from_point a h.0, all_from ps h.1)

  none_to : (ps : Polynomials) → AllOf (Differs meaning_of) ps → AllOf (λ a. HasValueZero o c a → ⊥) ps
  unfolding meaning_of
  none_to [] h = tt
  none_to (a ∷ ps) h = ((λ z. h.0 (from_point a z)), none_to ps h.1)

  none_from : (ps : Polynomials) → AllOf (λ a. HasValueZero o c a → ⊥) ps → AllOf (Differs meaning_of) ps
  unfolding meaning_of
  none_from [] h = tt
  none_from (a ∷ ps) h = ((λ z. h.0 (to_point a z)), none_from ps h.1)

  solves_to : (es hs : Polynomials) → AllOf (Vanishes meaning_of) es × AllOf (Differs meaning_of) hs → Solves o c es hs
  solves_to es hs h = record { equations_vanish = all_to es h.0; inequations_do_not = none_to hs h.1 }

  solves_from : (es hs : Polynomials) → Solves o c es hs → AllOf (Vanishes meaning_of) es × AllOf (Differs meaning_of) hs
  solves_from es hs h = (all_from es h.equations_vanish, none_from hs h.inequations_do_not)

  some_to : (ends : List End) → SomeOf (SolvedEnd meaning_of) ends → SomeOf (λ e. SolvesState o c e.state) ends
  some_to [] h = h
  some_to (e ∷ ends) (inl h) = inl (solves_to e.state.equations e.state.inequations h)
  some_to (e ∷ ends) (inr h) = inr (some_to ends h)

  some_from : (ends : List End) → SomeOf (λ e. SolvesState o c e.state) ends → SomeOf (SolvedEnd meaning_of) ends
  some_from [] h = h
  some_from (e ∷ ends) (inl h) = inl (solves_from e.state.equations e.state.inequations h)
  some_from (e ∷ ends) (inr h) = inr (some_from ends h)

  tree_solutions : (system : System) (tree : Tree) → AreOver r system.equations system.inequations → IsOk (ends_of (setting_of r) system tree)
      → Solves o c system.equations system.inequations ↔ SomeOf (λ e. SolvesState o c e.state) (ends_in (ends_of (setting_of r) system tree))
  tree_solutions system tree over ok = by_answer (ends_of (setting_of r) system tree) refl ok
    where
      by_answer : (q : Result (List End) (ℕ × Rule)) → ends_of (setting_of r) system tree ≡ q → IsOk q → Solves o c system.equations system.inequations ↔ SomeOf (λ e. SolvesState o c e.state) (ends_in q)
      by_answer (Ok ends) e ok =
          let k = tree_same meaning_of system tree ends e (all_good r system.equations over.equations_over, all_good r system.inequations over.inequations_over) in
          ((λ h. some_to ends (k.0 (solves_from system.equations system.inequations h))), (λ h. solves_to system.equations system.inequations (k.1 (some_from ends h))))
      by_answer (Err e) f ok = cc

  regular_to : (p : Polynomial Symbol) → Regular meaning_of p → IsRegularAt (symbols_under r) o c p
  unfolding meaning_of
  regular_to p h = record {
    initial = λ l k z. h.initial_differs l k (from_point (initial (ranking_cmp r) l p) z);
    separant = λ l k z. h.separant_differs l k (from_point (separant (ranking_cmp r) l p) z);
  }

  all_regular_to : (ps : Polynomials) → AllOf (Regular meaning_of) ps → AllOf (λ p. IsRegularAt (symbols_under r) o c p) ps
  all_regular_to [] h = tt
  all_regular_to (p ∷ ps) h = (regular_to p h.0, all_regular_to ps h.1)

  chain_solutions : (s : State) → AreOver r s.equations s.inequations → IsChain (setting_of r) s → SolvesState o c s → SolvesChain (symbols_under r) o c s
  chain_solutions s over k h = record {
    members = h;
    multipliers = all_regular_to s.equations (chain_regular meaning_of s (all_good r s.equations over.equations_over, all_good r s.inequations over.inequations_over) k (solves_from s.equations s.inequations h));
  }

  chain_to : (ss : List State) → SomeOf (RegularZero meaning_of) ss → SomeOf (SolvesChain (symbols_under r) o c) ss
  chain_to [] h = h
  chain_to (s ∷ ss) (inl h) = inl (record { members = solves_to s.equations s.inequations h.solution; multipliers = all_regular_to s.equations h.equations })
  chain_to (s ∷ ss) (inr h) = inr (chain_to ss h)

  regular_from : (p : Polynomial Symbol) → IsRegularAt (symbols_under r) o c p → Regular meaning_of p
  unfolding meaning_of
  regular_from p h = record {
    initial_differs = λ l k z. h.initial l k (to_point (initial (ranking_cmp r) l p) z);
    separant_differs = λ l k z. h.separant l k (to_point (separant (ranking_cmp r) l p) z);
  }

  all_regular_from : (ps : Polynomials) → AllOf (λ p. IsRegularAt (symbols_under r) o c p) ps → AllOf (Regular meaning_of) ps
  all_regular_from [] h = tt
  all_regular_from (p ∷ ps) h = (regular_from p h.0, all_regular_from ps h.1)

  chain_from : (ss : List State) → SomeOf (SolvesChain (symbols_under r) o c) ss → SomeOf (RegularZero meaning_of) ss
  chain_from [] h = h
  chain_from (s ∷ ss) (inl h) = inl (record { solution = solves_from s.equations s.inequations h.members; equations = all_regular_from s.equations h.multipliers })
  chain_from (s ∷ ss) (inr h) = inr (chain_from ss h)

  complete_solutions : (system : System) (tree : Tree) → AreOver r system.equations system.inequations → IsCertified (setting_of r) system tree
      → all_chains (ends_in (ends_of (setting_of r) system tree)) ≡ true
      → Solves o c system.equations system.inequations ↔ SomeOf (SolvesChain (symbols_under r) o c) (chains_of (ends_in (ends_of (setting_of r) system tree)))
  complete_solutions system tree over certified all = by_answer (ends_of (setting_of r) system tree) refl (answer_certified (setting_of r) system tree certified) (chains_are (setting_of r) system tree certified) all
    where
      by_answer : (q : Result (List End) (ℕ × Rule)) → ends_of (setting_of r) system tree ≡ q → IsOk q → AllOf (IsChain (setting_of r)) (chains_of (ends_in q)) → all_chains (ends_in q) ≡ true
          → Solves o c system.equations system.inequations ↔ SomeOf (SolvesChain (symbols_under r) o c) (chains_of (ends_in q))
      by_answer (Ok ends) e ok chains all =
          let k = tree_same meaning_of system tree ends e (all_good r system.equations over.equations_over, all_good r system.inequations over.inequations_over) in
          let z = ends_regular meaning_of ends all k.2 chains in
          ((λ h. chain_to (chains_of ends) (z.0 (k.0 (solves_from system.equations system.inequations h)))), (λ h. solves_to system.equations system.inequations (k.1 (z.1 (chain_from (chains_of ends) h)))))
      by_answer (Err x) e ok chains all = cc

  closed_solutions : (s : State) → AreOver r s.equations s.inequations → is_closed (symbols_under r) s ≡ true → SolvesState o c s → ⊥
  closed_solutions s over e h =
      closed_has_none meaning_of s e (all_good r s.equations over.equations_over, all_good r s.inequations over.inequations_over) (solves_from s.equations s.inequations h)

  -- a run to zero by a state tells of its solutions
  run_vanishes : (s : State) (f : Polynomial Symbol) → GoodState meaning_of s → IsOver r f → RunsToZero (setting_of r) s f → Solution meaning_of s → HasValueZero o c f
  unfolding meaning_of
  run_vanishes s f good over runs h =
      let k = run_alike meaning_of s Free f runs.steps (record { end = []; count = runs.count }) runs.is (good_equations meaning_of s good) (good_over r f over) in
      to_point f ((k.0 (serves_free meaning_of s h)).0 refl)

  run_solutions : (s : State) (f : Polynomial Symbol) (steps : List Step) (count : ℕ) → AreOver r s.equations s.inequations → IsOver r f
      → run (setting_of r) s Free f steps ≡ Ok (record { end = []; count = count }) → SolvesState o c s → HasValueZero o c f
  run_solutions s f steps count over of_f e h =
      run_vanishes s f (all_good r s.equations over.equations_over, all_good r s.inequations over.inequations_over) of_f (record { steps = steps; count = count; is = e })
      (solves_from s.equations s.inequations h)

  -- where all ends are chains, runs to zero by all of these tell of the solutions at the ends
  ends_vanish : (f : Polynomial Symbol) → IsOver r f → (ends : List End) → all_chains ends ≡ true → AllOf (GoodEnd meaning_of) ends
      → AllOf (λ s. RunsToZero (setting_of r) s f) (chains_of ends) → SomeOf (SolvedEnd meaning_of) ends → HasValueZero o c f
  ends_vanish f over [] all good runs h = absurd h
  ends_vanish f over (e ∷ ends) all good runs h =
      by_test (is_chain_end e) (both (is_chain_end e) (all_chains ends) all).0 runs (ends_vanish f over ends (both (is_chain_end e) (all_chains ends) all).1 good.1)
    where
      by_test : (b : Bool) → b ≡ true → AllOf (λ s. RunsToZero (setting_of r) s f) (map (λ (x : End). x.state) (cond b (e ∷ filter is_chain_end ends) (filter is_chain_end ends)))
          → (AllOf (λ s. RunsToZero (setting_of r) s f) (chains_of ends) → SomeOf (SolvedEnd meaning_of) ends → HasValueZero o c f) → HasValueZero o c f
      by_test true k runs ih = elim h [ inl at ↦ run_vanishes e.state f good.0 over runs.0 at | inr at ↦ ih runs.1 at ]
      by_test false k runs ih = cc

  vanishing_solutions : (system : System) (tree : Tree) (f : Polynomial Symbol) → AreOver r system.equations system.inequations → IsOver r f → IsCertified (setting_of r) system tree
      → all_chains (ends_in (ends_of (setting_of r) system tree)) ≡ true → AllOf (λ s. RunsToZero (setting_of r) s f) (chains_of (ends_in (ends_of (setting_of r) system tree)))
      → Solves o c system.equations system.inequations → HasValueZero o c f
  vanishing_solutions system tree f over of_f certified = by_answer (ends_of (setting_of r) system tree) refl (answer_certified (setting_of r) system tree certified)
    where
      by_answer : (q : Result (List End) (ℕ × Rule)) → ends_of (setting_of r) system tree ≡ q → IsOk q → all_chains (ends_in q) ≡ true
          → AllOf (λ s. RunsToZero (setting_of r) s f) (chains_of (ends_in q)) → Solves o c system.equations system.inequations → HasValueZero o c f
      by_answer (Ok ends) e ok all runs h =
          let k = tree_same meaning_of system tree ends e (all_good r system.equations over.equations_over, all_good r system.inequations over.inequations_over) in
          ends_vanish f of_f ends all k.2 runs (k.0 (solves_from system.equations system.inequations h))
      by_answer (Err x) e ok all runs h = cc

-- the laws
pub zero_sets : {E : Type 0} (r : RankingValue) (o : Operations E) → DomainLaws o → (c : Coordinates E) → IsPoint o c → FitsSignature r.signature c → ZeroSets r o c
zero_sets r o laws c point fits = record {
  of_tree = λ system tree over h. tree_solutions r laws point fits system tree over (answer_certified (setting_of r) system tree h);
  of_chain = chain_solutions r laws point fits;
  of_complete = complete_solutions r laws point fits;
  of_vanishing = vanishing_solutions r laws point fits;
  of_closed = closed_solutions r laws point fits;
  of_run = run_solutions r laws point fits;
}
