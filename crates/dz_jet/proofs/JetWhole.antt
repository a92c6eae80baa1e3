-- The answer of a jet, from those of its parts.
use Rattle.std.specs.Prelude.{⊤, Result}
use Rattle.std.specs.List.{filter, range_with_len}
use Rattle.std.proofs.Common.{◌≡◌, inl, inr, ◌<◌, ◌+◌, ◌-◌, ◌∙◌, ℕ, zero, suc, true, List, [], ◌∷◌, ◌++◌, length, take, drop, map, slice_index_or, pos, Option, Some, None, Ok, Err, refl, sym, ap, ap₂, arith, append-nil}
use Rattle.std.proofs.lemmas.List.{append_assoc}
use Rattle.dz_int.specs.Fractions.{Fraction}
use Rattle.dz_rank.specs.Rankings.{RankingValue, ranking_cmp}
use Rattle.dz_rank.specs.Symbols.{is_derivative}
use Rattle.dz_rank.specs.declared.symbols.Symbol.{Symbol}
use Rattle.dz_rank.specs.declared.symbols.Symbol.TheVariants.{Independent}
use Rattle.dz_monomials.specs.Ranked.{symbols_under}
use Rattle.dz_monomials.specs.Lists.{AllOf}
use Rattle.dz_diff.specs.Operations.{setting_of}
use Rattle.dz_algebra.specs.Outcome.{◌>>=◌}
use Rattle.dz_diff.specs.State.{State}
use Rattle.dz_jet.specs.declared.faults.JetFault.{JetFault}
use Rattle.dz_jet.specs.Fractions.{whole}
use Rattle.dz_jet.specs.Jets.{Values, independents_of, is_needed, jet_answer, jet_order, test_all_multipliers, test_equations, test_given, test_inequations, value_in, with_value, with_values}
use Rattle.dz_parametric.specs.Orders.{derivatives_to}
use Rattle.dz_jet.specs.Stops.{IsFault}
use Rattle.dz_jet.specs.Tables.{IsBegun, IsTable, keys}
use Rattle.dz_parametric.specs.Orders.{IsRising}
use Rattle.dz_jet.proofs.GivenTables.{independent_not_led}
use Rattle.dz_jet.proofs.TableLists.{independent_given, independents_length, slice_rest, drop_front}

module _ (r : RankingValue) (st : State) (known : Values) (n : ℕ) where
  abbrev m : ℕ
  m = jet_order (symbols_under r) st n

  abbrev at : Symbol → Fraction
  at = value_in (symbols_under r) known

  abbrev symbols : List Symbol
  symbols = independents_of r.signature ++ derivatives_to r (jet_order (symbols_under r) st n)

  abbrev given_test : Result ⊤ JetFault
  given_test = test_given (symbols_under r) known (filter (is_needed (symbols_under r) st) symbols)

  abbrev equation_test : Result ⊤ JetFault
  equation_test = test_equations at 1 st.equations

  abbrev multiplier_test : Result (List Fraction) JetFault
  multiplier_test = test_all_multipliers (symbols_under r) at 1 st.equations

  abbrev inequation_test : Result ⊤ JetFault
  inequation_test = test_inequations at 1 st.inequations

  abbrev values : Result Values JetFault
  values = with_values (setting_of r) st at [] symbols

  in_turn : jet_answer r st known n ≡ given_test >>= (λ _. equation_test >>= (λ _. multiplier_test >>= (λ _. inequation_test >>= (λ _. values))))
  unfolding jet_answer
  in_turn = refl

  fails : {A : Type 0} (e : JetFault) (x : Result A JetFault) (f : A → Result Values JetFault) → jet_answer r st known n ≡ x >>= f → IsFault e x → IsFault e (jet_answer r st known n)
  fails e x f i (inl h) = inl h
  fails e x f i (inr h) = inr (i ∙ ap (λ y. y >>= f) h)

  pub given_fails : (e : JetFault) → IsFault e given_test → IsFault e (jet_answer r st known n)
  given_fails e h = fails e given_test _ in_turn h

  module _ (given : given_test ≡ Ok tt) where
    past_given : jet_answer r st known n ≡ equation_test >>= (λ _. multiplier_test >>= (λ _. inequation_test >>= (λ _. values)))
    past_given = in_turn ∙ ap (λ y. y >>= (λ _. equation_test >>= (λ _. multiplier_test >>= (λ _. inequation_test >>= (λ _. values))))) given

    pub equations_fail : (e : JetFault) → Err e ≡ equation_test → IsFault e (jet_answer r st known n)
    equations_fail e h = fails e equation_test _ past_given (inr (sym h))

    module _ (vanish : Ok tt ≡ equation_test) where
      past_equations : jet_answer r st known n ≡ multiplier_test >>= (λ _. inequation_test >>= (λ _. values))
      past_equations = past_given ∙ ap (λ y. y >>= (λ _. multiplier_test >>= (λ _. inequation_test >>= (λ _. values)))) (sym vanish)

      pub multipliers_fail : (e : JetFault) → IsFault e multiplier_test → IsFault e (jet_answer r st known n)
      multipliers_fail e h = fails e multiplier_test _ past_equations h

      module _ (ss : List Fraction) (differ : multiplier_test ≡ Ok ss) where
        past_multipliers : jet_answer r st known n ≡ inequation_test >>= (λ _. values)
        past_multipliers = past_equations ∙ ap (λ y. y >>= (λ _. inequation_test >>= (λ _. values))) differ

        pub inequations_fail : (e : JetFault) → Err e ≡ inequation_test → IsFault e (jet_answer r st known n)
        inequations_fail e h = fails e inequation_test _ past_multipliers (inr (sym h))

        module _ (stay : Ok tt ≡ inequation_test) where
          past_inequations : jet_answer r st known n ≡ values
          past_inequations = past_multipliers ∙ ap (λ y. y >>= (λ _. values)) (sym stay)

          pub values_fail : (e : JetFault) → IsFault e values → IsFault e (jet_answer r st known n)
          values_fail e (inl h) = inl h
          values_fail e (inr h) = inr (past_inequations ∙ h)

          pub values_pass : (jet : Values) → values ≡ Ok jet → jet_answer r st known n ≡ Ok jet
          values_pass jet h = past_inequations ∙ h

-- ---- the independents come first
module _ (r : RankingValue) (st : State) (at : Symbol → Fraction) where
  first_values : (ms : List ℕ) (jet : Values) (ds : List Symbol) → with_values (setting_of r) st at jet (map (λ i. Independent i) ms ++ ds) ≡ with_values (setting_of r) st at (jet ++ map (λ i. (Independent i, at (Independent i))) ms) ds
  first_values [] jet ds = ap (λ j. with_values (setting_of r) st at j ds) (sym (append-nil jet))
  first_values (i ∷ ms) jet ds =
      ap (λ o. with_value (setting_of r) at jet (Independent i) o >>= (λ more. with_values (setting_of r) st at more (map (λ i. Independent i) ms ++ ds))) (independent_not_led (symbols_under r) i 1 st.equations)
      ∙ first_values ms (jet ++ (Independent i, at (Independent i)) ∷ []) ds
      ∙ ap (λ j. with_values (setting_of r) st at j ds) (append_assoc jet ((Independent i, at (Independent i)) ∷ []) (map (λ i. (Independent i, at (Independent i))) ms))

  module _ (xs : Values) (table : IsTable r xs) (same : (s : Symbol) → value_in (symbols_under r) xs s ≡ at s) where
    front_from : (k q : ℕ) (ys : Values) (ds : List Symbol) → keys ys ≡ map (λ i. Independent i) (range_with_len k q) ++ ds → ((i : ℕ) (d : Symbol × Fraction) → i < q → (slice_index_or ys i d).1 ≡ at (Independent (k + i)))
        → take q ys ≡ map (λ i. (Independent i, at (Independent i))) (range_with_len k q)
    front_from k zero ys ds e f = refl
    front_from k (suc q) [] ds e f = cc
    front_from k (suc q) (y ∷ ys) ds e f =
        let head : y.0 ≡ Independent k = cc in
        let rest : keys ys ≡ map (λ i. Independent i) (range_with_len (k + 1) q) ++ ds = cc in
        let value : y.1 ≡ at (Independent k) = f 0 y (omega arith) ∙ ap (λ j. at (Independent j)) (let g : k + 0 ≡ k = omega arith in g) in
        ap₂ (λ z zs. z ∷ zs) (ap (λ s. (s, y.1)) head ∙ ap (λ v. (Independent k, v)) value)
        (front_from (k + 1) q ys ds rest (λ i d l. f (suc i) d (omega arith) ∙ ap (λ j. at (Independent j)) (let g : k + suc i ≡ (k + 1) + i = omega arith in g)))

    -- the front of a table has the values of the independents
    pub front_is : take r.signature.independents xs ≡ map (λ i. (Independent i, at (Independent i))) (range_with_len 0 r.signature.independents)
    front_is = front_from 0 r.signature.independents xs table.derivatives table.keys_are
        (λ i d l. ap (λ (o : Option Fraction). elim o as (λ _. Fraction) [ None ↦ whole (pos 0) | Some v ↦ v ]) (independent_given r xs table i d l) ∙ same (Independent i) ∙ ap (λ j. at (Independent j)) (let g : i ≡ 0 + i = omega arith in g))

    pub values_behind : (ds : List Symbol) → with_values (setting_of r) st at [] (independents_of r.signature ++ ds) ≡ with_values (setting_of r) st at (take r.signature.independents xs) ds
    values_behind ds = first_values (range_with_len 0 r.signature.independents) [] ds ∙ ap (λ j. with_values (setting_of r) st at j ds) (sym front_is)

    keys_front : (ms : List ℕ) → keys (map (λ i. (Independent i, at (Independent i))) ms) ≡ map (λ i. Independent i) ms
    keys_front [] = refl
    keys_front (i ∷ ms) = ap (λ ss. Independent i ∷ ss) (keys_front ms)

    pub front_begun : (ds : List Symbol) → IsRising (ranking_cmp r) ds → AllOf (λ s. is_derivative s ≡ true) ds → IsBegun r (take r.signature.independents xs) ds
    front_begun ds rises proper = record {
      derivatives = [];
      keys_are = ap keys front_is ∙ keys_front (range_with_len 0 r.signature.independents) ∙ sym (append-nil (independents_of r.signature));
      rising = rises;
      proper = proper;
    }

-- the derivatives behind the independents
pub derivatives_behind : (r : RankingValue) (all ds : List Symbol) → all ≡ independents_of r.signature ++ ds → take (length all - r.signature.independents) (drop r.signature.independents all) ≡ ds
derivatives_behind r all ds e =
    sym (slice_rest r.signature.independents all) ∙ ap (drop r.signature.independents) e
    ∙ ap (λ k. drop k (independents_of r.signature ++ ds)) (sym (independents_length r.signature.independents)) ∙ drop_front (independents_of r.signature) ds
