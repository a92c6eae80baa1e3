-- A jet is built value by value, and all equations agree with the values so far.
use Rattle.std.specs.Option.{is_none}
use Rattle.std.proofs.Common.{◌≡◌, inl, inr, ◌≤◌, ◌∙◌, ℕ, zero, suc, Bool, true, false, IsTrue, List, [], ◌∷◌, ◌++◌, pos, Option, Some, None, Ok, refl, sym, ap, subst, append-nil}
use Rattle.dz_algebra.specs.Parts.{initial, leader, separant}
use Rattle.dz_algebra.specs.Polynomial.{Polynomial, PolynomialIn}
use Rattle.dz_algebra.specs.Value.{value}
use Rattle.dz_int.specs.Fractions.{Fraction}
use Rattle.dz_rank.specs.Rankings.{RankingValue, ranking_cmp, IsOrderly}
use Rattle.dz_rank.specs.Symbols.{BelongsTo, total_order}
use Rattle.dz_rank.specs.declared.symbols.Symbol.{Symbol}
use Rattle.dz_monomials.specs.Ranked.{symbols_under}
use Rattle.dz_monomials.specs.Lists.{AllOf}
use Rattle.dz_diff.specs.Operations.{setting_of}
use Rattle.dz_diff.specs.State.{State, at_place}
use Rattle.dz_diff.specs.Tests.{Polynomials}
use Rattle.dz_algebra.proofs.Outcomes.{bind_ok, ok_same, both}
use Rattle.dz_diff.proofs.Places.{all-append, some_right}
use Rattle.dz_move.specs.Lines.{Evidence}
use Rattle.dz_tree.specs.Chain.{passes, has_leaders}
use Rattle.dz_jet.specs.Chains.{Reaching, derivative_in}
use Rattle.dz_jet.specs.Clashes.{IsChain, HasZero, AreAdmissible, IsFixed, AgreesAt, IsDerivativeIn, IsInitialSegment}
use Rattle.dz_jet.specs.Fractions.{whole, fraction_arithmetic, fraction_operations, is_reduced}
use Rattle.dz_jet.specs.Jets.{Values, Leading, value_in, is_given, is_needed, leading_to, fixed_value, with_value, with_values}
use Rattle.dz_jet.proofs.ChainFacts.{ChainFacts, chain_facts}
use Rattle.dz_jet.proofs.ClashLaws.{agree_on_segment}
use Rattle.dz_jet.proofs.FractionLaws.{fraction_laws}
use Rattle.dz_jet.proofs.JetLeads.{found_leads, needed_not_reached}
use Rattle.dz_jet.proofs.JetLists.{AreReduced, value_kept, value_behind, key_or_none, given_is_key, key_is_given, value_reduced}
use Rattle.dz_jet.proofs.JetParts.{in_more, initial_in, separant_in, equation_needed}
use Rattle.dz_jet.proofs.JetSteps.{Sound, lesser_done, up_to_done, stays_fixed, grows, fixes}
use Rattle.dz_jet.proofs.JetSymbols.{jet_symbols, all_listed}
use Rattle.dz_parametric.proofs.Members.{In, of_member}
use Rattle.dz_parametric.proofs.OrderLists.{IsListed}
use Rattle.dz_jet.proofs.JetTests.{AreNonzero}
use Rattle.dz_jet.proofs.Linear.{value_agrees}
use Rattle.dz_jet.proofs.Operators.{operator_is}
use Rattle.dz_jet.proofs.Reachings.{reached_derivative}
use Rattle.dz_diff.proofs.LeaderBounds.{leader_is_one}

all_by_place : {A : Type 0} (P : A → Type 0) (xs : List A) → ((a : ℕ) (x : A) → at_place (suc a) xs ≡ Some x → P x) → AllOf P xs
all_by_place P [] f = tt
all_by_place P (x ∷ xs) f = (f 0 x refl, all_by_place P xs (λ a y e. f (suc a) y e))

module _ (r : RankingValue) (s : State) (evidence : List Evidence) (chain : IsChain r s evidence) (orderly : IsOrderly r) (m : ℕ) (known : Values) (known_reduced : AreReduced r known)
    (vanish : (a : ℕ) (p : Polynomial Symbol) → at_place (suc a) s.equations ≡ Some p → value fraction_arithmetic (value_in (symbols_under r) known) p ≡ whole (pos 0))
    (differ : (a : ℕ) (p : Polynomial Symbol) (l : Symbol) → at_place (suc a) s.equations ≡ Some p → leader (symbols_under r) p ≡ Some l → AreNonzero r known known_reduced p l) where
  abbrev facts : ChainFacts (setting_of r) s evidence
  facts = chain_facts (setting_of r) s chain.affordable evidence chain.weight chain.holds

  -- every equation has a leader
  leads_all : (es : Polynomials) (a : ℕ) (p : Polynomial Symbol) → has_leaders (symbols_under r) es ≡ true → at_place (suc a) es ≡ Some p → (l : Symbol) × (leader (symbols_under r) p ≡ Some l)
  leads_all [] a p h e = cc
  leads_all (q ∷ es) (suc a) p h e = leads_all es a p (both _ (has_leaders (symbols_under r) es) h).1 e
  leads_all (q ∷ es) zero p h e =
      let same : p ≡ q = cc in
      subst (λ x. (l : Symbol) × (leader (symbols_under r) x ≡ Some l)) (sym same) (there _ (leader (symbols_under r) q) (both _ (has_leaders (symbols_under r) es) h).0)
    where
      there : (test : Symbol → Bool) (o : Option Symbol) → passes test o ≡ true → (l : Symbol) × (o ≡ Some l)
      there test None e = cc
      there test (Some l) e = (l, refl)

  module _ (jet : Values) (done rest : List Symbol) (sound : Sound r chain.few s chain.over evidence facts orderly m known known_reduced jet done) (whole_is : jet_symbols r chain.few m ≡ done ++ rest) where
    -- the values so far, and those that are given
    abbrev now : Symbol → Fraction
    now = value_in (symbols_under r) (jet ++ known)

    now_done : (v : Symbol) → In v done → now v ≡ value_in (symbols_under r) jet v
    now_done v h = value_kept r jet known v (subst (In v) (sym sound.keys_are) h)

    now_needed : (v : Symbol) → is_needed (symbols_under r) s v ≡ true → now v ≡ value_in (symbols_under r) known v
    now_needed v n = elim (key_or_none r jet v) [
      | inl k ↦ value_behind r jet known v k
      | inr k ↦ let h = subst (In v) sound.keys_are k in now_done v h ∙ sound.needed v h n
    ]

    needed_symbols : (a : ℕ) (p : Polynomial Symbol) → at_place (suc a) s.equations ≡ Some p → PolynomialIn (λ v. now v ≡ value_in (symbols_under r) known v) p
    needed_symbols a p e =
        let l = leads_all s.equations a p facts.leaders e in
        in_more (λ v. BelongsTo r.signature v × (is_needed (symbols_under r) s v ≡ true)) (λ v. now v ≡ value_in (symbols_under r) known v) (λ v h. now_needed v h.1) p
        (equation_needed r chain.few s chain.over evidence facts a p l.0 e l.1 (leader_is_one r p l.0 l.1))

    admissible : AreAdmissible r s fraction_operations now
    admissible = record {
      values = λ v. value_reduced r (jet ++ known) v (all-append (λ p. IsTrue (is_reduced p.1)) jet known sound.reduced known_reduced);
      equations = all_by_place (HasZero fraction_operations now) s.equations (λ a p e. value_agrees fraction_arithmetic now (value_in (symbols_under r) known) p (needed_symbols a p e) ∙ vanish a p e);
      initials = all_by_place (λ p. (v : Symbol) → leader (symbols_under r) p ≡ Some v → HasZero fraction_operations now (initial (ranking_cmp r) v p) → ⊥) s.equations
          (λ a p e v f z. (differ a p v e f).0 (sym (value_agrees fraction_arithmetic now (value_in (symbols_under r) known) (initial (ranking_cmp r) v p) (initial_in r (λ y. now y ≡ value_in (symbols_under r) known y) v p (needed_symbols a p e))) ∙ z));
      separants = all_by_place (λ p. (v : Symbol) → leader (symbols_under r) p ≡ Some v → HasZero fraction_operations now (separant (ranking_cmp r) v p) → ⊥) s.equations
          (λ a p e v f z. (differ a p v e f).1 (sym (value_agrees fraction_arithmetic now (value_in (symbols_under r) known) (separant (ranking_cmp r) v p) (separant_in r (λ y. now y ≡ value_in (symbols_under r) known y) v p (needed_symbols a p e))) ∙ z));
    }

    is_done : (v : Symbol) → IsTrue (is_given (symbols_under r) jet v) → In v done
    is_done v h = subst (In v) sound.keys_are (given_is_key r jet v h)

    segment : IsInitialSegment r (is_given (symbols_under r) jet)
    segment = record {
      lower = λ v w d c e h. key_is_given r jet v (subst (In v) (sym sound.keys_are) (lesser_done r chain.few s chain.over evidence facts orderly m done rest whole_is w v (is_done w h) c.0 d.1 e));
      members = done;
      all = λ v d h. is_done v h;
    }

    fixed_here : (w : Symbol) → IsTrue (is_given (symbols_under r) jet w) → IsFixed r s fraction_operations now w
    fixed_here w h x proper = by_need (is_needed (symbols_under r) s w) refl
      where
        by_need : (b : Bool) → is_needed (symbols_under r) s w ≡ b → (y : Reaching r s w) × HasZero fraction_operations now (derivative_in y)
        by_need true n = absurd (needed_not_reached r chain.few s chain.over w n x proper)
        by_need false n =
            let f = stays_fixed r chain.few s chain.over evidence facts orderly m (value_in (symbols_under r) jet) now w
            (λ v b u. sym (now_done v (up_to_done r chain.few s chain.over evidence facts orderly m done rest whole_is w v (is_done w h) (reached_derivative r chain.few s chain.over x) b u))) (sound.fixed w (is_done w h) n) in
            (f.by, ap (value fraction_arithmetic now) (operator_is r f.by.operator f.by.equation f.polynomial f.by.in_signature f.answer) ∙ f.vanishes)

    -- what is done agrees
    pub done_agrees : (w : Symbol) → In w done → AgreesAt r s fraction_operations now w
    done_agrees w h = agree_on_segment r s evidence chain fraction_operations fraction_laws now admissible (is_given (symbols_under r) jet) segment fixed_here w (key_is_given r jet w (subst (In w) (sym sound.keys_are) h))

  -- ---- one value after the other
  abbrev Good : Values → List Symbol → Type 0
  Good jet done = Sound r chain.few s chain.over evidence facts orderly m known known_reduced jet done

  regroup : (done ws : List Symbol) (w : Symbol) → done ++ w ∷ ws ≡ (done ++ w ∷ []) ++ ws
  regroup [] ws w = refl
  regroup (z ∷ done) ws w = ap (λ (ys : List Symbol). z ∷ ys) (regroup done ws w)

  last_in : (done : List Symbol) (w : Symbol) → In w (done ++ w ∷ [])
  last_in done w = some_right (λ u. u ≡ w) done (w ∷ []) (inl refl)

  separants_differ : (a : ℕ) (q : Polynomial Symbol) (l : Symbol) → at_place (suc a) s.equations ≡ Some q → leader (symbols_under r) q ≡ Some l → value fraction_arithmetic (value_in (symbols_under r) known) (separant (ranking_cmp r) l q) ≡ whole (pos 0) → ⊥
  separants_differ a q l e f = (differ a q l e f).1

  inside_of : (done ws : List Symbol) (w : Symbol) → jet_symbols r chain.few m ≡ done ++ w ∷ ws → BelongsTo r.signature w
  inside_of done ws w e = (of_member (IsListed r chain.few m) w (jet_symbols r chain.few m) (all_listed r chain.few m) (subst (In w) (sym e) (some_right (λ u. u ≡ w) done (w ∷ ws) (inl refl)))).belongs

  -- the value of a derivative that is fixed
  more_fixed : (jet : Values) (done ws : List Symbol) (w : Symbol) (x : Leading) (v : Fraction) → Good jet done → jet_symbols r chain.few m ≡ done ++ w ∷ ws → leading_to (symbols_under r) w 1 s.equations ≡ Some x
      → fixed_value (setting_of r) (value_in (symbols_under r) known) jet w x ≡ Ok v → Good (jet ++ (w, v) ∷ []) (done ++ w ∷ [])
  more_fixed jet done ws w x v sound e l h =
      let inside = inside_of done ws w e in
      let leads = found_leads r w 1 s.equations x l in
      let k = fixes r chain.few s chain.over evidence facts orderly m known known_reduced separants_differ jet done ws w sound e inside x leads v h in
      let not_needed : is_needed (symbols_under r) s w ≡ false = ap is_none l in
      grows r chain.few s chain.over evidence facts orderly m known known_reduced jet done ws w v sound e k.0 (λ n. absurd (apart (is_needed (symbols_under r) s w) n not_needed)) (λ n. k.1)
    where
      apart : (b : Bool) → b ≡ true → b ≡ false → ⊥
      apart b f g = cc

  more_given : (jet : Values) (done ws : List Symbol) (w : Symbol) → Good jet done → jet_symbols r chain.few m ≡ done ++ w ∷ ws → leading_to (symbols_under r) w 1 s.equations ≡ None → Good (jet ++ (w, value_in (symbols_under r) known w) ∷ []) (done ++ w ∷ [])
  more_given jet done ws w sound e l =
      let is : is_needed (symbols_under r) s w ≡ true = ap is_none l in
      grows r chain.few s chain.over evidence facts orderly m known known_reduced jet done ws w (value_in (symbols_under r) known w) sound e (value_reduced r known w known_reduced) (λ n. refl) (λ n. absurd (apart (is_needed (symbols_under r) s w) is n))
    where
      apart : (b : Bool) → b ≡ true → b ≡ false → ⊥
      apart b f g = cc

  one_more : (jet more : Values) (done ws : List Symbol) (w : Symbol) (o : Option Leading) → Good jet done → jet_symbols r chain.few m ≡ done ++ w ∷ ws → leading_to (symbols_under r) w 1 s.equations ≡ o → with_value (setting_of r) (value_in (symbols_under r) known) jet w o ≡ Ok more → Good more (done ++ w ∷ [])
  one_more jet more done ws w None sound e l h = subst (λ y. Good y (done ++ w ∷ [])) (ok_same (jet ++ (w, value_in (symbols_under r) known w) ∷ []) more h) (more_given jet done ws w sound e l)
  one_more jet more done ws w (Some x) sound e l h =
      let a = bind_ok (fixed_value (setting_of r) (value_in (symbols_under r) known) jet w x) _ more h in
      subst (λ y. Good y (done ++ w ∷ [])) (ok_same (jet ++ (w, a.0) ∷ []) more a.2) (more_fixed jet done ws w x a.0 sound e l a.1)

  -- a jet that comes to its end has all values
  pub all_sound : (jet end : Values) (done ws : List Symbol) → Good jet done → jet_symbols r chain.few m ≡ done ++ ws → with_values (setting_of r) s (value_in (symbols_under r) known) jet ws ≡ Ok end → Good end (jet_symbols r chain.few m)
  all_sound jet end done [] sound e h = subst (λ y. Good y (jet_symbols r chain.few m)) (ok_same jet end h) (subst (Good jet) (sym (e ∙ append-nil done)) sound)
  all_sound jet end done (w ∷ ws) sound e h =
      let a = bind_ok (with_value (setting_of r) (value_in (symbols_under r) known) jet w (leading_to (symbols_under r) w 1 s.equations)) _ end h in
      all_sound a.0 end (done ++ w ∷ []) ws (one_more jet a.0 done ws w (leading_to (symbols_under r) w 1 s.equations) sound e refl a.1) (e ∙ regroup done ws w) a.2

  pub nothing_done : Good [] []
  nothing_done = record { keys_are = refl; reduced = tt; needed = λ v h. absurd h; fixed = λ v h. absurd h }

  -- a whole jet agrees with all equations
  pub end_agrees : (jet : Values) → Good jet (jet_symbols r chain.few m) → (w : Symbol) → IsDerivativeIn r w → total_order w ≤ m → In w (jet_symbols r chain.few m) → AgreesAt r s fraction_operations (value_in (symbols_under r) (jet ++ known)) w
  end_agrees jet sound w d h k = done_agrees jet (jet_symbols r chain.few m) [] sound (sym (append-nil (jet_symbols r chain.few m))) w k
