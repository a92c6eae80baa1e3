-- Moves and forks by the tests that they come to.
use Rattle.std.proofs.Common.{◌≡◌, ◌≤◌, ◌+◌, ◌∙◌, ◌==◌, inl, inr, ℕ, zero, suc, nat_lt, Bool, true, false, not, ◌&&◌, List, [], ◌∷◌, ◌++◌, length, refl, sym, ap, ap₂, subst, arith, Result, Ok, Err, Option, Some, None}
use Rattle.std.proofs.lemmas.Bool.Decides.{nat_tests}
use Rattle.std.proofs.lemmas.List.{map-append}
use Rattle.std.proofs.lemmas.List.Elements.{All-push}
use Rattle.dz_algebra.specs.Norm.{norm}
use Rattle.dz_algebra.specs.Parts.{is_ground, leader}
use Rattle.dz_algebra.specs.Polynomial.{Polynomial, symbol_polynomial}
use Rattle.dz_algebra.specs.Size.{Refusal, wide, large}
use Rattle.dz_rank.specs.declared.symbols.Symbol.{Symbol}
use Rattle.dz_poly.specs.Books.{BookValue, IsKept, Lives, Means, polynomial}
use Rattle.dz_poly.proofs.Books.{means_lives, means_polynomial}
use Rattle.dz_monomials.specs.Stops.{IsStop}
use Rattle.dz_monomials.specs.declared.PolyStop.{PolyStop}
use Rattle.dz_monomials.specs.declared.PolyStop.TheVariants as stops
use Rattle.dz_diff.specs.Operations.{Setting}
use Rattle.dz_algebra.specs.Outcome.{◌>>=◌, given, needs, numbered, told_as}
use Rattle.dz_diff.specs.State.{State, at_place, put_equation}
use Rattle.dz_diff.specs.States.{LiveAll, MeanAll, polynomials, state_in}
use Rattle.dz_diff.specs.Tests.{Polynomials, is_member, is_zero, same}
use Rattle.dz_diff.proofs.KeptStates.{kept_polynomials, live_on}
use Rattle.dz_step.specs.declared.Role.TheVariants.{Free}
use Rattle.dz_step.specs.declared.Step.{Step}
use Rattle.dz_step.specs.declared.Which.{Which}
use Rattle.dz_monomials.specs.PowerDivision.{is_divided, quotient_by}
use Rattle.dz_step.specs.FullRun.{admits}
use Rattle.dz_step.specs.Run.{Ran, run}
use Rattle.dz_step.specs.Step.{multiplier_answer}
use Rattle.dz_pair.specs.Pair.{delta_answer, is_pair}
use Rattle.dz_move.specs.declared.Rule.{Rule}
use Rattle.dz_move.specs.declared.Rule.TheVariants as rules
use Rattle.dz_move.specs.declared.fault.ActionStop.{ActionStop}
use Rattle.dz_move.specs.declared.fault.MoveFault.TheVariants.{NotPermitted}
use Rattle.dz_move.specs.Actions.{IsActionStop, operation_stop, stop_in}
use Rattle.dz_move.specs.Fault.{Fault, refusal, rule, run_fault}
use Rattle.dz_move.specs.Moves.{Done, divided_at, factored, forked, grown, settled, split_at, with_equations}
use Rattle.dz_move.specs.Parts.{DeltaRun, delta_run, is_new, may_be_added, may_be_factor, placed_pair_run}
use Rattle.dz_step.proofs.BookPlaces.{lives_at, none_at, some_at}
use Rattle.dz_algebra.specs.Monomial.{Monomial, exponent}
use Rattle.dz_algebra.specs.Parts.{degree}
use Rattle.dz_algebra.specs.Symbols.{Symbols}
use Rattle.dz_rank.specs.Rankings.{RankingValue, ranking_cmp}
use Rattle.dz_rank.specs.Symbols.{BelongsTo, total_order}
use Rattle.dz_monomials.specs.Keeping.{IsTabled}
use Rattle.dz_monomials.proofs.EntryFacts.{too_high}
use Rattle.dz_monomials.specs.PowerDivision.{least_exponent}
use Rattle.std.proofs.lemmas.Bool.{ltb-true}
use Rattle.dz_move.proofs.OverStates.{divisor_belongs, least_most}
use Rattle.dz_move.proofs.Acting.{bind_stopped, place_inside}

-- a rule that fails after so many steps
pub broken_stop : {A : Type 0} (stop : ActionStop) (n : ℕ) (r : Rule) (q : Result A (ℕ × Fault)) → stop ≡ record { steps = n; fault = NotPermitted r } → q ≡ Err (n, rule r) → IsActionStop stop q
broken_stop stop n r q e f = inr (ap stop_in f ∙ ap Some (sym e))

-- an operation that is refused before any step
pub operation_stopped : (stop : PolyStop) (x : Result (Polynomial Symbol) Refusal) → IsStop stop x → IsActionStop (operation_stop stop) (numbered 0 (told_as refusal x))
operation_stopped stop x (inl e) = inl (ap (λ s. (operation_stop s).fault) e)
operation_stopped stop (Ok a) (inr e) = absurd (nothing e)
  where
    nothing : ◌≡◌ {A = Option PolyStop} None (Some stop) → ⊥
    nothing e = cc
operation_stopped stop (Err wide) (inr e) = inr (ap Some (ap operation_stop (same e)))
  where
    same : ◌≡◌ {A = Option PolyStop} (Some stops.Wide) (Some stop) → stops.Wide ≡ stop
    same e = cc
operation_stopped stop (Err (large l)) (inr e) = inr (ap Some (ap operation_stop (same e)))
  where
    same : ◌≡◌ {A = Option PolyStop} (Some (stops.Large l)) (Some stop) → stops.Large l ≡ stop
    same e = cc

-- a number that is not less
pub not_less : (i j : ℕ) → j ≤ i → nat_lt i j ≡ false
not_less i j h = grind (arith, nat_tests)

-- ---- places
module _ (book : BookValue) (ps qs : List ℕ) (i : ℕ) (o : Option ℕ) (same_list : qs ≡ ps) (asked : o ≡ at_place i qs) where
  -- nothing stands there
  pub nothing_at : o ≡ None → at_place i (polynomials book ps) ≡ None
  nothing_at e = none_at book ps i (ap (at_place i) (sym same_list) ∙ sym asked ∙ e)

  number_at : (p : ℕ) → o ≡ Some p → at_place i ps ≡ Some p
  number_at p e = ap (at_place i) (sym same_list) ∙ sym asked ∙ e

  -- a polynomial stands there
  pub polynomial_at : (p : ℕ) → o ≡ Some p → at_place i (polynomials book ps) ≡ Some (polynomial book p)
  polynomial_at p e = some_at book ps i p (number_at p e)

  -- which lives
  pub living_at : (p : ℕ) → LiveAll book ps → o ≡ Some p → Lives book p
  living_at p live e = lives_at book ps i p live (number_at p e)

  -- the place counts from 1 to the length
  pub counts_at : (p : ℕ) → o ≡ Some p → (1 ≤ i) × (i ≤ length ps)
  counts_at p e = place_inside ps i p (number_at p e)

-- ---- drafts
module _ (old new : BookValue) (keeps : IsKept old new) where
  -- names behind others
  pub appended_are : (ps all : List ℕ) (p : ℕ) (q : Polynomial Symbol) → LiveAll old ps → Means new p q → all ≡ ps ++ p ∷ [] → polynomials new all ≡ polynomials old ps ++ q ∷ []
  appended_are ps all p q live means e =
      ap (polynomials new) e ∙ map-append (λ p. polynomial new p) ps (p ∷ [])
      ∙ ap₂ (λ (a : Polynomials) (b : Polynomial Symbol). a ++ b ∷ []) (kept_polynomials old new keeps ps live) (means_polynomial new p q means)

  pub appended_live : (ps all : List ℕ) (p : ℕ) (q : Polynomial Symbol) → LiveAll old ps → Means new p q → all ≡ ps ++ p ∷ [] → LiveAll new all
  appended_live ps all p q live means e = subst (LiveAll new) (sym e) (All-push (λ p. Lives new p) ps p (live_on old new keeps ps live) (means_lives new p q means))

  -- the same names
  pub names_are : (ps all : List ℕ) → LiveAll old ps → all ≡ ps → polynomials new all ≡ polynomials old ps
  names_are ps all live e = ap (polynomials new) e ∙ kept_polynomials old new keeps ps live

  pub names_live : (ps all : List ℕ) → LiveAll old ps → all ≡ ps → LiveAll new all
  names_live ps all live e = subst (LiveAll new) (sym e) (live_on old new keeps ps live)

-- lists that mean something go on meaning it
pub mean_on : (old new : BookValue) → IsKept old new → (ps : List ℕ) (qs : Polynomials) → MeanAll old ps qs → MeanAll new ps qs
mean_on old new keeps ps qs h = record { live = live_on old new keeps ps h.live; are = kept_polynomials old new keeps ps h.live ∙ h.are }

-- a state of lists
pub state_is : (book : BookValue) (es hs : List ℕ) (a b : Polynomials) (m n : ℕ) → polynomials book es ≡ a → polynomials book hs ≡ b → m ≡ n → state_in book (record { equations = es; inequations = hs; splits = m }) ≡ record { equations = a; inequations = b; splits = n }
state_is book es hs a b m n e f h = ap₂ (λ (a b : Polynomials). record { equations = a; inequations = b; splits = m }) e f ∙ ap (λ n. record { equations = a; inequations = b; splits = n }) h

-- ---- the run of a pair
module _ (g : Setting) (s : State) (i j : ℕ) (steps : List Step) where
  -- once there are two equations
  abbrev ran_both : Polynomial Symbol → Polynomial Symbol → Result DeltaRun (ℕ × Fault)
  ran_both p q = needs (is_pair g.symbols p q) (0, rule rules.Pair) >>= (λ _. delta_run g s p q steps)

  -- once there is the first of them
  abbrev ran_first : Polynomial Symbol → Result DeltaRun (ℕ × Fault)
  ran_first p = given (at_place j s.equations) (0, rule rules.Place) >>= ran_both p

  -- once the places grow
  abbrev ran_places : Result DeltaRun (ℕ × Fault)
  ran_places = given (at_place i s.equations) (0, rule rules.Place) >>= ran_first

  pub pair_not_less : nat_lt i j ≡ false → placed_pair_run g s i j steps ≡ Err (0, rule rules.Place)
  pair_not_less e = ap (λ b. needs b (0, rule rules.Place) >>= (λ _. ran_places)) e

  module _ (less : nat_lt i j ≡ true) where
    less_is : placed_pair_run g s i j steps ≡ ran_places
    less_is = ap (λ b. needs b (0, rule rules.Place) >>= (λ _. ran_places)) less

    pub pair_no_first : at_place i s.equations ≡ None → placed_pair_run g s i j steps ≡ Err (0, rule rules.Place)
    pair_no_first e = less_is ∙ ap (λ o. given o (0, rule rules.Place) >>= ran_first) e

    module _ (p : Polynomial Symbol) (first : at_place i s.equations ≡ Some p) where
      first_is : placed_pair_run g s i j steps ≡ ran_first p
      first_is = less_is ∙ ap (λ o. given o (0, rule rules.Place) >>= ran_first) first

      pub pair_no_second : at_place j s.equations ≡ None → placed_pair_run g s i j steps ≡ Err (0, rule rules.Place)
      pair_no_second e = first_is ∙ ap (λ o. given o (0, rule rules.Place) >>= ran_both p) e

      module _ (q : Polynomial Symbol) (second : at_place j s.equations ≡ Some q) where
        second_is : placed_pair_run g s i j steps ≡ ran_both p q
        second_is = first_is ∙ ap (λ o. given o (0, rule rules.Place) >>= ran_both p) second

        pub pair_no_pair : is_pair g.symbols p q ≡ false → placed_pair_run g s i j steps ≡ Err (0, rule rules.Pair)
        pair_no_pair e = second_is ∙ ap (λ b. needs b (0, rule rules.Pair) >>= (λ _. delta_run g s p q steps)) e

        -- it is that of the two equations
        pub pair_ran : is_pair g.symbols p q ≡ true → placed_pair_run g s i j steps ≡ delta_run g s p q steps
        pair_ran e = second_is ∙ ap (λ b. needs b (0, rule rules.Pair) >>= (λ _. delta_run g s p q steps)) e

-- ---- adding the end of a run
module _ (g : Setting) (s : State) (i j : ℕ) (steps : List Step) where
  -- once there is a run
  abbrev with_run : Polynomial Symbol → Ran → Result Done (ℕ × Fault)
  with_run d r = needs (may_be_added g s r.end) (length steps, rule rules.End) >>= (λ _. settled (length steps) (with_equations s (s.equations ++ r.end ∷ []) ∷ []) (1 + length d + r.count))

  -- once there is a critical pair
  abbrev with_pair : Polynomial Symbol → Polynomial Symbol → Result Done (ℕ × Fault)
  with_pair p q = numbered 0 (told_as refusal (delta_answer g p q)) >>= (λ d. told_as run_fault (run g s Free d steps) >>= with_run d)

  abbrev with_both : Polynomial Symbol → Polynomial Symbol → Result Done (ℕ × Fault)
  with_both p q = needs (is_pair g.symbols p q) (0, rule rules.Pair) >>= (λ _. with_pair p q)

  abbrev with_first : Polynomial Symbol → Result Done (ℕ × Fault)
  with_first p = given (at_place j s.equations) (0, rule rules.Place) >>= with_both p

  abbrev with_places : Result Done (ℕ × Fault)
  with_places = given (at_place i s.equations) (0, rule rules.Place) >>= with_first

  -- what is made of a run from the Delta-polynomial
  abbrev after : DeltaRun → Result Done (ℕ × Fault)
  after x = needs (may_be_added g s (x.ran).end) (length steps, rule rules.End) >>= (λ _. settled (length steps) (with_equations s (s.equations ++ (x.ran).end ∷ []) ∷ []) (1 + x.terms + (x.ran).count))

  -- an add is a run, and what is made of its end
  grown_is : grown g s i j steps ≡ (placed_pair_run g s i j steps >>= after)
  unfolding grown
  grown_is = by_less (nat_lt i j)
    where
      by_run : (d : Polynomial Symbol) (y : Result Ran (ℕ × Fault)) → (y >>= with_run d) ≡ ((y >>= (λ r. Ok (record { terms = length d; ran = r }))) >>= after)
      by_run d (Ok r) = refl
      by_run d (Err e) = refl

      by_delta : (x : Result (Polynomial Symbol) (ℕ × Fault)) → (x >>= (λ d. told_as run_fault (run g s Free d steps) >>= with_run d)) ≡ ((x >>= (λ d. told_as run_fault (run g s Free d steps) >>= (λ r. Ok (record { terms = length d; ran = r })))) >>= after)
      by_delta (Ok d) = by_run d (told_as run_fault (run g s Free d steps))
      by_delta (Err e) = refl

      by_pair : (p q : Polynomial Symbol) (b : Bool) → (needs b (0, rule rules.Pair) >>= (λ _. with_pair p q)) ≡ ((needs b (0, rule rules.Pair) >>= (λ _. delta_run g s p q steps)) >>= after)
      by_pair p q true = by_delta (numbered 0 (told_as refusal (delta_answer g p q)))
      by_pair p q false = refl

      by_second : (p : Polynomial Symbol) (o : Option (Polynomial Symbol)) → (given o (0, rule rules.Place) >>= with_both p) ≡ ((given o (0, rule rules.Place) >>= ran_both g s i j steps p) >>= after)
      by_second p (Some q) = by_pair p q (is_pair g.symbols p q)
      by_second p None = refl

      by_first : (o : Option (Polynomial Symbol)) → (given o (0, rule rules.Place) >>= with_first) ≡ ((given o (0, rule rules.Place) >>= ran_first g s i j steps) >>= after)
      by_first (Some p) = by_second p (at_place j s.equations)
      by_first None = refl

      by_less : (b : Bool) → (needs b (0, rule rules.Place) >>= (λ _. with_places)) ≡ ((needs b (0, rule rules.Place) >>= (λ _. ran_places g s i j steps)) >>= after)
      by_less true = by_first (at_place i s.equations)
      by_less false = refl

  pub grown_stopped : (stop : ActionStop) → IsActionStop stop (placed_pair_run g s i j steps) → IsActionStop stop (grown g s i j steps)
  grown_stopped stop h = subst (IsActionStop stop) (sym grown_is) (bind_stopped stop (placed_pair_run g s i j steps) after h)

  module _ (x : DeltaRun) (is : placed_pair_run g s i j steps ≡ Ok x) where
    pub grown_not_added : may_be_added g s (x.ran).end ≡ false → grown g s i j steps ≡ Err (length steps, rule rules.End)
    grown_not_added e = grown_is ∙ ap (λ y. y >>= after) is ∙ ap (λ b. needs b (length steps, rule rules.End) >>= (λ _. settled (length steps) (with_equations s (s.equations ++ (x.ran).end ∷ []) ∷ []) (1 + x.terms + (x.ran).count))) e

    pub grown_added : may_be_added g s (x.ran).end ≡ true → grown g s i j steps ≡ settled (length steps) (with_equations s (s.equations ++ (x.ran).end ∷ []) ∷ []) (1 + x.terms + (x.ran).count)
    grown_added e = grown_is ∙ ap (λ y. y >>= after) is ∙ ap (λ b. needs b (length steps, rule rules.End) >>= (λ _. settled (length steps) (with_equations s (s.equations ++ (x.ran).end ∷ []) ∷ []) (1 + x.terms + (x.ran).count))) e

  -- an end that admits a step is not added
  pub step_not_added : (f : Polynomial Symbol) → admits g s Free f ≡ true → may_be_added g s f ≡ false
  step_not_added f e = ap (λ b. not (is_zero f) && not (is_member g.symbols f s.equations) && not b) e ∙ never (not (is_zero f) && not (is_member g.symbols f s.equations))
    where
      never : (a : Bool) → (a && false) ≡ false
      never true = refl
      never false = refl

-- ---- dividing
module _ (g : Setting) (s : State) (i : ℕ) (v : Symbol) where
  -- the symbol divides and is an inequation
  abbrev may_divide : Polynomial Symbol → Bool
  may_divide p = is_divided g.symbols.cmp v p && is_member g.symbols (symbol_polynomial v) s.inequations

  abbrev quotient_put : Polynomial Symbol → Result Done (ℕ × Fault)
  quotient_put p = settled 0 (with_equations s (put_equation g.symbols i (quotient_by g.symbols.cmp v p) s.equations) ∷ []) (1 + length (quotient_by g.symbols.cmp v p))

  divided_is : divided_at g s i v ≡ (given (at_place i s.equations) (0, rule rules.Place) >>= (λ p. needs (may_divide p) (0, rule rules.Symbol) >>= (λ _. quotient_put p)))
  unfolding divided_at
  divided_is = refl

  pub divided_nowhere : at_place i s.equations ≡ None → divided_at g s i v ≡ Err (0, rule rules.Place)
  divided_nowhere e = divided_is ∙ ap (λ o. given o (0, rule rules.Place) >>= (λ p. needs (may_divide p) (0, rule rules.Symbol) >>= (λ _. quotient_put p))) e

  module _ (p : Polynomial Symbol) (there : at_place i s.equations ≡ Some p) where
    place_is : divided_at g s i v ≡ (needs (may_divide p) (0, rule rules.Symbol) >>= (λ _. quotient_put p))
    place_is = divided_is ∙ ap (λ o. given o (0, rule rules.Place) >>= (λ p. needs (may_divide p) (0, rule rules.Symbol) >>= (λ _. quotient_put p))) there

    and_false : (a b : Bool) → b ≡ false → (a && b) ≡ false
    and_false true b e = e
    and_false false b e = refl

    pub divided_no_member : is_member g.symbols (symbol_polynomial v) s.inequations ≡ false → divided_at g s i v ≡ Err (0, rule rules.Symbol)
    divided_no_member e = place_is ∙ ap (λ b. needs b (0, rule rules.Symbol) >>= (λ _. quotient_put p)) (and_false (is_divided g.symbols.cmp v p) _ e)

    pub divided_no_divisor : is_divided g.symbols.cmp v p ≡ false → divided_at g s i v ≡ Err (0, rule rules.Symbol)
    divided_no_divisor e = place_is ∙ ap (λ b. needs (b && is_member g.symbols (symbol_polynomial v) s.inequations) (0, rule rules.Symbol) >>= (λ _. quotient_put p)) e

    pub divided_by_symbol : is_divided g.symbols.cmp v p ≡ true → is_member g.symbols (symbol_polynomial v) s.inequations ≡ true → divided_at g s i v ≡ quotient_put p
    divided_by_symbol e f = place_is ∙ ap₂ (λ a b. needs (a && b) (0, rule rules.Symbol) >>= (λ _. quotient_put p)) e f

-- ---- splitting
module _ (g : Setting) (s : State) (i : ℕ) (which : Which) where
  abbrev two_states : Polynomial Symbol → Result Done (ℕ × Fault)
  two_states h = settled 0 (forked s s.equations (s.inequations ++ h ∷ []) ∷ forked s (s.equations ++ h ∷ []) s.inequations ∷ []) (1 + length h)

  abbrev with_multiplier : Polynomial Symbol → Result Done (ℕ × Fault)
  with_multiplier m = needs (not (is_ground g.symbols m) && not (is_member g.symbols (norm m) s.equations) && not (is_member g.symbols (norm m) s.inequations)) (0, rule rules.Fork) >>= (λ _. two_states (norm m))

  abbrev with_leader : Polynomial Symbol → Symbol → Result Done (ℕ × Fault)
  with_leader p l = numbered 0 (told_as refusal (multiplier_answer g.symbols which l p)) >>= with_multiplier

  abbrev with_equation : Polynomial Symbol → Result Done (ℕ × Fault)
  with_equation p = given (leader g.symbols p) (0, rule rules.Fork) >>= with_leader p

  split_is : split_at g s i which ≡ (given (at_place i s.equations) (0, rule rules.Place) >>= with_equation)
  unfolding split_at
  split_is = refl

  pub split_nowhere : at_place i s.equations ≡ None → split_at g s i which ≡ Err (0, rule rules.Place)
  split_nowhere e = split_is ∙ ap (λ o. given o (0, rule rules.Place) >>= with_equation) e

  module _ (p : Polynomial Symbol) (there : at_place i s.equations ≡ Some p) where
    equation_is : split_at g s i which ≡ with_equation p
    equation_is = split_is ∙ ap (λ o. given o (0, rule rules.Place) >>= with_equation) there

    pub split_ground : leader g.symbols p ≡ None → split_at g s i which ≡ Err (0, rule rules.Fork)
    split_ground e = equation_is ∙ ap (λ o. given o (0, rule rules.Fork) >>= with_leader p) e

    module _ (l : Symbol) (leads : leader g.symbols p ≡ Some l) where
      leader_is : split_at g s i which ≡ with_leader p l
      leader_is = equation_is ∙ ap (λ o. given o (0, rule rules.Fork) >>= with_leader p) leads

      pub split_refused : (stop : PolyStop) → IsStop stop (multiplier_answer g.symbols which l p) → IsActionStop (operation_stop stop) (split_at g s i which)
      split_refused stop h = subst (IsActionStop (operation_stop stop)) (sym leader_is) (bind_stopped (operation_stop stop) (numbered 0 (told_as refusal (multiplier_answer g.symbols which l p))) with_multiplier (operation_stopped stop (multiplier_answer g.symbols which l p) h))

      module _ (m : Polynomial Symbol) (is : multiplier_answer g.symbols which l p ≡ Ok m) (same_ground : is_ground g.symbols (norm m) ≡ is_ground g.symbols m) where
        multiplier_is : split_at g s i which ≡ (needs (is_new g.symbols s (norm m)) (0, rule rules.Fork) >>= (λ _. two_states (norm m)))
        multiplier_is = leader_is ∙ ap (λ x. numbered 0 (told_as refusal x) >>= with_multiplier) is
            ∙ ap (λ b. needs (not b && not (is_member g.symbols (norm m) s.equations) && not (is_member g.symbols (norm m) s.inequations)) (0, rule rules.Fork) >>= (λ _. two_states (norm m))) (sym same_ground)

        pub split_not_new : is_new g.symbols s (norm m) ≡ false → split_at g s i which ≡ Err (0, rule rules.Fork)
        split_not_new e = multiplier_is ∙ ap (λ b. needs b (0, rule rules.Fork) >>= (λ _. two_states (norm m))) e

        pub split_on_new : is_new g.symbols s (norm m) ≡ true → split_at g s i which ≡ two_states (norm m)
        split_on_new e = multiplier_is ∙ ap (λ b. needs b (0, rule rules.Fork) >>= (λ _. two_states (norm m))) e

-- ---- factoring
-- a symbol that divides a polynomial of a book may stand in the book
module _ (r : RankingValue) (few : r.signature.independents ≤ 4) (p : Polynomial Symbol) (table : Monomial Symbol) (entry : IsTabled r p table) (v : Symbol) (divides : is_divided (ranking_cmp r) v p ≡ true) where
  pub divisor_belongs_to : BelongsTo r.signature v
  divisor_belongs_to = divisor_belongs r few v p divides (entry.keepable).belongs

  divisor_occurs : (p : Polynomial Symbol) → is_divided (ranking_cmp r) v p ≡ true → 1 ≤ degree (ranking_cmp r) v p
  divisor_occurs [] e = cc
  divisor_occurs (t ∷ p) e =
      let least = least_most r few v (exponent (ranking_cmp r) v t.0) p in
      let k : 1 ≤ least_exponent (ranking_cmp r) v (exponent (ranking_cmp r) v t.0) p = positive (least_exponent (ranking_cmp r) v (exponent (ranking_cmp r) v t.0) p) e in
      omega (arith, least, k)
    where
      positive : (k : ℕ) → not (k == 0) ≡ true → 1 ≤ k
      positive zero e = cc
      positive (suc k) e = omega arith

  pub divisor_low : total_order v ≤ 60
  divisor_low = by_test (nat_lt 60 (total_order v)) refl
    where
      by_test : (b : Bool) → nat_lt 60 (total_order v) ≡ b → total_order v ≤ 60
      by_test true e =
          let z = too_high r p table v entry (ltb-true 60 (total_order v) e) in
          let one = divisor_occurs p divides in
          absurd (omega (arith, z, one))
      by_test false e = grind (arith, nat_tests)

module _ (g : Setting) (s : State) (i : ℕ) (v : Symbol) where
  -- the symbol may be taken out
  abbrev may_factor : Polynomial Symbol → Bool
  may_factor p = g.symbols.is_derivative v && is_divided g.symbols.cmp v p && not (same g.symbols p (symbol_polynomial v)) && not (is_member g.symbols (symbol_polynomial v) s.inequations)

  abbrev two_factors : Polynomial Symbol → Result Done (ℕ × Fault)
  two_factors q =
      settled 0 (forked s (put_equation g.symbols i q s.equations) (s.inequations ++ symbol_polynomial v ∷ []) ∷ forked s (put_equation g.symbols i (symbol_polynomial v) s.equations) s.inequations ∷ []) (1 + length q)

  factored_is : factored g s i v ≡ (given (at_place i s.equations) (0, rule rules.Place) >>= (λ p. needs (may_factor p) (0, rule rules.Symbol) >>= (λ _. two_factors (quotient_by g.symbols.cmp v p))))
  unfolding factored
  factored_is = refl

  pub factored_nowhere : at_place i s.equations ≡ None → factored g s i v ≡ Err (0, rule rules.Place)
  factored_nowhere e = factored_is ∙ ap (λ o. given o (0, rule rules.Place) >>= (λ p. needs (may_factor p) (0, rule rules.Symbol) >>= (λ _. two_factors (quotient_by g.symbols.cmp v p)))) e

  module _ (p : Polynomial Symbol) (there : at_place i s.equations ≡ Some p) where
    factor_is : factored g s i v ≡ (needs (may_factor p) (0, rule rules.Symbol) >>= (λ _. two_factors (quotient_by g.symbols.cmp v p)))
    factor_is = factored_is ∙ ap (λ o. given o (0, rule rules.Place) >>= (λ p. needs (may_factor p) (0, rule rules.Symbol) >>= (λ _. two_factors (quotient_by g.symbols.cmp v p)))) there

    -- four tests, or the two
    regrouped : (a b c d : Bool) → (a && b && c && d) ≡ ((a && c && d) && b)
    regrouped true true true true = refl
    regrouped true true true false = refl
    regrouped true true false d = refl
    regrouped true false true true = refl
    regrouped true false true false = refl
    regrouped true false false d = refl
    regrouped false b c d = refl

    tests : (x y : Bool) → may_be_factor g.symbols s p v ≡ x → is_divided g.symbols.cmp v p ≡ y → factored g s i v ≡ (needs (x && y) (0, rule rules.Symbol) >>= (λ _. two_factors (quotient_by g.symbols.cmp v p)))
    tests x y e f = factor_is ∙ ap (λ b. needs b (0, rule rules.Symbol) >>= (λ _. two_factors (quotient_by g.symbols.cmp v p)))
        (regrouped (g.symbols.is_derivative v) (is_divided g.symbols.cmp v p) (not (same g.symbols p (symbol_polynomial v))) (not (is_member g.symbols (symbol_polynomial v) s.inequations)) ∙ ap₂ (λ a b. a && b) e f)

    pub factored_no_factor : may_be_factor g.symbols s p v ≡ false → factored g s i v ≡ Err (0, rule rules.Symbol)
    factored_no_factor e = tests false _ e refl

    pub factored_no_divisor : is_divided g.symbols.cmp v p ≡ false → factored g s i v ≡ Err (0, rule rules.Symbol)
    factored_no_divisor e = tests _ false refl e ∙ ap (λ b. needs b (0, rule rules.Symbol) >>= (λ _. two_factors (quotient_by g.symbols.cmp v p))) (never (may_be_factor g.symbols s p v))
      where
        never : (b : Bool) → (b && false) ≡ false
        never true = refl
        never false = refl

    pub factored_by_symbol : may_be_factor g.symbols s p v ≡ true → is_divided g.symbols.cmp v p ≡ true → factored g s i v ≡ two_factors (quotient_by g.symbols.cmp v p)
    factored_by_symbol e f = tests true true e f

module _ (g : Symbols Symbol) (s : State) (p : Polynomial Symbol) (v : Symbol) where
  -- the equation itself is no factor of it
  pub itself_no_factor : same g p (symbol_polynomial v) ≡ true → false ≡ may_be_factor g s p v
  itself_no_factor e = sym (ap (λ b. g.is_derivative v && not b && not (is_member g (symbol_polynomial v) s.inequations)) e ∙ never (g.is_derivative v) (not (is_member g (symbol_polynomial v) s.inequations)))
    where
      never : (a b : Bool) → (a && false && b) ≡ false
      never true b = refl
      never false b = refl

  -- another derivative may be one, unless it is an inequation
  pub factor_unless : g.is_derivative v ≡ true → same g p (symbol_polynomial v) ≡ false → not (is_member g (symbol_polynomial v) s.inequations) ≡ may_be_factor g s p v
  factor_unless e f = sym (ap₂ (λ a b. a && not b && not (is_member g (symbol_polynomial v) s.inequations)) e f)
