-- The laws of jets.
use Rattle.std.specs.Prelude.{IfOk, Result}
use Rattle.std.specs.List.{filter}
use Rattle.std.proofs.Common.{◌≡◌, ◌⊎◌, inl, inr, ◌≤◌, ◌∙◌, ℕ, List, [], ◌++◌, pos, Option, Some, None, Ok, Err, arith, refl, sym, ap, subst}
use Rattle.dz_int.specs.Fractions.{Fraction}
use Rattle.dz_rank.specs.Rankings.{RankingValue, IsOrderly}
use Rattle.dz_rank.specs.Symbols.{total_order}
use Rattle.dz_rank.specs.declared.symbols.Symbol.{Symbol}
use Rattle.dz_monomials.specs.Ranked.{symbols_under}
use Rattle.dz_diff.specs.State.{State}
use Rattle.dz_algebra.proofs.Outcomes.{bind_ok}
use Rattle.dz_move.specs.Lines.{Evidence}
use Rattle.dz_jet.specs.Clashes.{IsChain, AgreesAt, IsDerivativeIn}
use Rattle.dz_jet.specs.Fractions.{whole, fraction_operations}
use Rattle.dz_jet.specs.declared.faults.JetFault.{JetFault}
use Rattle.dz_jet.specs.Jets.{JetValue, Values, given_to, value_in, jet_order, is_needed, test_given, test_equations, test_all_multipliers, test_inequations, jet_answer}
use Rattle.dz_jet.specs.Laws.{AreReduced, JetLaws}
use Rattle.dz_jet.proofs.JetLists.{keys, value_kept, value_behind, key_or_none, key_given}
use Rattle.dz_jet.proofs.JetRuns.{all_sound, nothing_done, end_agrees}
use Rattle.dz_jet.proofs.JetSymbols.{jet_symbols, in_jet}
use Rattle.dz_parametric.proofs.Members.{In}
use Rattle.dz_jet.proofs.FilteredLists.{among_in, in_filter}
use Rattle.dz_jet.proofs.JetTests.{equations_pass, all_multipliers_pass, all_needed}
use Rattle.dz_jet.proofs.Reachings.{reached_belongs, reached_derivative}

module _ (r : RankingValue) (s : State) (evidence : List Evidence) (chain : IsChain r s evidence) (orderly : IsOrderly r) (known : Values) (reduced : AreReduced known) (n : ℕ) where
  abbrev m : ℕ
  m = jet_order (symbols_under r) s n

  abbrev needed : List Symbol
  needed = filter (is_needed (symbols_under r) s) (jet_symbols r chain.few (jet_order (symbols_under r) s n))

  -- the values of the jet are those of it and of what is given
  same_values : (jet : Values) → keys r jet ≡ jet_symbols r chain.few m → ((v : Symbol) → In v (keys r known) → In v (jet_symbols r chain.few m)) → (v : Symbol) → value_in (symbols_under r) (jet ++ known) v ≡ value_in (symbols_under r) jet v
  same_values jet e inside v = elim (key_or_none r jet v) [
    | inr k ↦ value_kept r jet known v k
    | inl k ↦ value_behind r jet known v k ∙ none_known k (key_or_none r known v)
  ]
    where
      no_two : {A : Type 0} (o : Option A) (x : A) → o ≡ None → o ≡ Some x → ⊥
      no_two o x h k = cc

      none_known : given_to (symbols_under r) jet v ≡ None → (given_to (symbols_under r) known v ≡ None) ⊎ In v (keys r known) → value_in (symbols_under r) known v ≡ value_in (symbols_under r) jet v
      none_known k (inl h) = ap (λ (o : Option Fraction). elim o as (λ _. Fraction) [ None ↦ whole (pos 0) | Some x ↦ x ]) (h ∙ sym k)
      none_known k (inr h) = let g = key_given r jet v (subst (In v) (sym e) (inside v h)) in absurd (no_two (given_to (symbols_under r) jet v) g.0 k g.1)

  pub agrees_with_jet : (jet : Values) → jet_answer r s known n ≡ Ok jet → (w : Symbol) → total_order w ≤ m → AgreesAt r s fraction_operations (value_in (symbols_under r) jet) w
  unfolding jet_answer
  agrees_with_jet jet e w h x =
      let a = bind_ok (test_given (symbols_under r) known needed) _ jet e in
      let b = bind_ok (test_equations (value_in (symbols_under r) known) 1 s.equations) _ jet a.2 in
      let c = bind_ok (test_all_multipliers (symbols_under r) (value_in (symbols_under r) known) 1 s.equations) _ jet b.2 in
      let d = bind_ok (test_inequations (value_in (symbols_under r) known) 1 s.inequations) _ jet c.2 in
      let vanish = equations_pass r known reduced 1 s.equations b.0 b.1 in
      let differ = all_multipliers_pass r known reduced 1 s.equations c.0 c.1 in
      let sound = all_sound r s evidence chain orderly m known reduced vanish differ [] jet [] (jet_symbols r chain.few m) (nothing_done r s evidence chain orderly m known reduced vanish differ) refl d.2 in
      let is_one : IsDerivativeIn r w = (reached_derivative r chain.few s chain.over x, reached_belongs r chain.few s chain.over x) in
      let same = same_values jet sound.keys_are (λ v k. in_filter (is_needed (symbols_under r) s) (jet_symbols r chain.few m) v (among_in r needed v (all_needed r known reduced needed a.0 a.1 v k))) in
      subst (λ (at : Symbol → Fraction). AgreesAt r s fraction_operations at w) (λ i v. same v i)
      (end_agrees r s evidence chain orderly m known reduced vanish differ jet sound w is_one h (in_jet r chain.few m w is_one.1 h)) x

pub jet_laws : (r : RankingValue) (s : State) (evidence : List Evidence) → IsChain r s evidence → IsOrderly r → JetLaws r s
jet_laws r s evidence chain orderly = record {
  agrees = λ known jet n reduced e w h. agrees_with_jet r s evidence chain orderly known reduced n jet e w h;
}

-- the jet that a call answers agrees with all equations
pub jet_agrees : (r : RankingValue) (s : State) (evidence : List Evidence) → IsChain r s evidence → IsOrderly r → (known : Values) → AreReduced known → (n : ℕ) (x : Result JetValue JetFault)
    → IfOk x (λ jet. jet_answer r s known n ≡ Ok jet.values) → IfOk x (λ jet. jet.order ≡ jet_order (symbols_under r) s n)
    → IfOk x (λ jet. (w : Symbol) → total_order w ≤ jet.order → AgreesAt r s fraction_operations (value_in (symbols_under r) jet.values) w)
jet_agrees r s evidence chain orderly known reduced n (Err e) h o = tt
jet_agrees r s evidence chain orderly known reduced n (Ok jet) h o = λ w l. agrees_with_jet r s evidence chain orderly known reduced n jet.values h w (omega (arith, l, o))
