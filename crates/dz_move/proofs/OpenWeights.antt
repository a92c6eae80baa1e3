-- The weight of a run that may stop anywhere, by the tests that it comes to.
use Rattle.std.proofs.Common.{◌≡◌, ◌+◌, ◌∙◌, inl, inr, ℕ, nat_lt, Bool, true, false, ◌&&◌, List, length, refl, ap, Result, Ok, Err, Option, Some, None}
use Rattle.std.specs.Prelude.{is_ok}
use Rattle.dz_algebra.specs.Polynomial.{Polynomial}
use Rattle.dz_rank.specs.declared.symbols.Symbol.{Symbol}
use Rattle.dz_diff.specs.Operations.{Setting}
use Rattle.dz_algebra.specs.Outcome.{◌>>=◌, given, needs, numbered, told_as}
use Rattle.dz_diff.specs.State.{State, at_place}
use Rattle.dz_step.specs.declared.Role.TheVariants.{Free}
use Rattle.dz_step.specs.declared.Step.{Step}
use Rattle.dz_step.specs.Run.{Ran, run}
use Rattle.dz_pair.specs.Pair.{delta_answer, is_pair}
use Rattle.dz_move.specs.declared.Rule.TheVariants as rules
use Rattle.dz_move.specs.declared.fault.ActionStop.{ActionStop}
use Rattle.dz_move.specs.declared.fault.MoveFault.TheVariants.{Memory}
use Rattle.dz_move.specs.Actions.{IsActionStop}
use Rattle.dz_move.specs.Fault.{Fault, refusal, rule, run_fault}
use Rattle.dz_move.specs.Parts.{DeltaRun, delta_run}
use Rattle.dz_move.specs.PairRuns.{open_weight}

-- a stop that is not want of memory is of an answer that is Err
pub stopped_not_ok : {A : Type 0} (stop : ActionStop) (q : Result A (ℕ × Fault)) → IsActionStop stop q → (stop.fault ≡ Memory → ⊥) → is_ok q ≡ false
stopped_not_ok stop q (inl e) n = absurd (n e)
stopped_not_ok stop (Ok a) (inr e) n = absurd (nothing e)
  where
    nothing : ◌≡◌ {A = Option ActionStop} None (Some stop) → ⊥
    nothing e = cc
stopped_not_ok stop (Err k) (inr e) n = refl

-- the weight of a run, with its Delta-polynomial
abbrev total : Polynomial Symbol → Ran → Result ℕ (ℕ × Fault)
total d r = Ok (1 + length d + r.count)

abbrev with_terms : Polynomial Symbol → Ran → Result DeltaRun (ℕ × Fault)
with_terms d r = Ok (record { terms = length d; ran = r })

abbrev weighed : DeltaRun → Result ℕ (ℕ × Fault)
weighed x = Ok (1 + x.terms + (x.ran).count)

module _ (g : Setting) (s : State) (i j : ℕ) (steps : List Step) where
  -- the weight
  abbrev weight : Result ℕ (ℕ × Fault)
  weight = open_weight g s (record { first = i; second = j; steps = steps })

  abbrev with_pair : Polynomial Symbol → Polynomial Symbol → Result ℕ (ℕ × Fault)
  with_pair p q = numbered 0 (told_as refusal (delta_answer g p q)) >>= (λ d. told_as run_fault (run g s Free d steps) >>= (λ r. Ok (1 + length d + r.count)))

  abbrev with_both : Polynomial Symbol → Polynomial Symbol → Result ℕ (ℕ × Fault)
  with_both p q = needs (nat_lt i j && is_pair g.symbols p q) (0, rule rules.Pair) >>= (λ _. with_pair p q)

  abbrev with_first : Polynomial Symbol → Result ℕ (ℕ × Fault)
  with_first p = given (at_place j s.equations) (0, rule rules.Place) >>= with_both p

  pub no_first_weight : at_place i s.equations ≡ None → is_ok weight ≡ false
  no_first_weight e = ap (λ o. is_ok (given o (0, rule rules.Place) >>= with_first)) e

  -- places that do not grow
  pub not_less_weight : nat_lt i j ≡ false → is_ok weight ≡ false
  not_less_weight e = by_first (at_place i s.equations)
    where
      by_second : (p : Polynomial Symbol) (o : Option (Polynomial Symbol)) → is_ok (given o (0, rule rules.Place) >>= with_both p) ≡ false
      by_second p (Some q) = ap (λ b. is_ok (needs (b && is_pair g.symbols p q) (0, rule rules.Pair) >>= (λ _. with_pair p q))) e
      by_second p None = refl

      by_first : (o : Option (Polynomial Symbol)) → is_ok (given o (0, rule rules.Place) >>= with_first) ≡ false
      by_first (Some p) = by_second p (at_place j s.equations)
      by_first None = refl

  module _ (p : Polynomial Symbol) (first : at_place i s.equations ≡ Some p) where
    pub no_second_weight : at_place j s.equations ≡ None → is_ok weight ≡ false
    no_second_weight e = ap (λ o. is_ok (given o (0, rule rules.Place) >>= with_first)) first ∙ ap (λ o. is_ok (given o (0, rule rules.Place) >>= with_both p)) e

    module _ (q : Polynomial Symbol) (second : at_place j s.equations ≡ Some q) where
      both_is : weight ≡ with_both p q
      both_is = ap (λ o. given o (0, rule rules.Place) >>= with_first) first ∙ ap (λ o. given o (0, rule rules.Place) >>= with_both p) second

      pub no_pair_weight : is_pair g.symbols p q ≡ false → is_ok weight ≡ false
      no_pair_weight e = ap is_ok both_is ∙ ap (λ b. is_ok (needs b (0, rule rules.Pair) >>= (λ _. with_pair p q))) (never (nat_lt i j) (is_pair g.symbols p q) e)
        where
          never : (a b : Bool) → b ≡ false → (a && b) ≡ false
          never true b e = e
          never false b e = refl

      module _ (less : nat_lt i j ≡ true) (pair : is_pair g.symbols p q ≡ true) where
        -- it is that of the run from the Delta-polynomial
        pair_is : weight ≡ (delta_run g s p q steps >>= weighed)
        pair_is = both_is ∙ ap (λ b. needs b (0, rule rules.Pair) >>= (λ _. with_pair p q)) (two (nat_lt i j) (is_pair g.symbols p q) less pair) ∙ by_delta (numbered 0 (told_as refusal (delta_answer g p q)))
          where
            two : (a b : Bool) → a ≡ true → b ≡ true → (a && b) ≡ true
            two true b e f = f
            two false b e f = e

            by_run : (d : Polynomial Symbol) (y : Result Ran (ℕ × Fault)) → (y >>= total d) ≡ ((y >>= with_terms d) >>= weighed)
            by_run d (Ok r) = refl
            by_run d (Err e) = refl

            by_delta : (x : Result (Polynomial Symbol) (ℕ × Fault)) → (x >>= (λ d. told_as run_fault (run g s Free d steps) >>= total d)) ≡ ((x >>= (λ d. told_as run_fault (run g s Free d steps) >>= with_terms d)) >>= weighed)
            by_delta (Ok d) = by_run d (told_as run_fault (run g s Free d steps))
            by_delta (Err e) = refl

        -- an operation is refused
        pub refused_weight : is_ok (delta_run g s p q steps) ≡ false → is_ok weight ≡ false
        refused_weight e = ap is_ok pair_is ∙ by_answer (delta_run g s p q steps) e
          where
            by_answer : (x : Result DeltaRun (ℕ × Fault)) → is_ok x ≡ false → is_ok (x >>= weighed) ≡ false
            by_answer (Ok x) e = cc
            by_answer (Err k) e = refl

        -- the run has an end
        pub run_weight : (x : DeltaRun) → delta_run g s p q steps ≡ Ok x → weight ≡ Ok (1 + x.terms + (x.ran).count)
        run_weight x e = pair_is ∙ ap (λ y. y >>= weighed) e
