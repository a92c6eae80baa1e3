-- The tests of a chain at given values, member by member.
use Rattle.std.specs.Prelude.{⊤, Result}
use Rattle.std.proofs.Common.{◌≡◌, inl, inr, ◌<◌, ◌≤◌, ◌+◌, ◌∙◌, ℕ, suc, Bool, true, false, not, List, [], ◌∷◌, ◌++◌, drop, length, slice_index_or, pos, Option, Some, None, Ok, Err, refl, sym, ap, arith, append-nil}
use Rattle.std.proofs.lemmas.List.{append_assoc}
use Rattle.dz_algebra.specs.Parts.{initial, leader}
use Rattle.dz_algebra.specs.Polynomial.{Polynomial}
use Rattle.dz_algebra.specs.Size.{Refusal, separant_answer}
use Rattle.dz_algebra.specs.Symbols.{Symbols}
use Rattle.dz_int.specs.Fractions.{Fraction}
use Rattle.dz_rank.specs.declared.symbols.Symbol.{Symbol}
use Rattle.dz_algebra.specs.Outcome.{◌>>=◌, given, needs, told_as}
use Rattle.dz_diff.specs.Tests.{Polynomials}
use Rattle.dz_step.proofs.Searches.{drop_here, drop_end}
use Rattle.dz_jet.specs.declared.faults.At.TheVariants as ats
use Rattle.dz_jet.specs.declared.faults.JetFault.{JetFault}
use Rattle.dz_jet.specs.declared.faults.JetFault.TheVariants as faults
use Rattle.dz_jet.specs.declared.faults.Part.{Part}
use Rattle.dz_jet.specs.declared.faults.Part.TheVariants as parts
use Rattle.dz_jet.specs.Fractions.{whole, is_zero_fraction}
use Rattle.dz_jet.specs.Jets.{separant_refused, test_all_multipliers, test_equations, test_multipliers, test_part, value_answer, value_from}
use Rattle.dz_jet.specs.Stops.{IsFault}
use Rattle.dz_jet.proofs.FractionLaws.{zero_tested}

-- ---- one value
pub value_some : (e : JetFault) (at : Symbol → Fraction) (p : Polynomial Symbol) (o : Option Fraction) (v : Fraction) → o ≡ value_from at p (whole (pos 0)) → o ≡ Some v → Ok v ≡ value_answer e at p
unfolding value_answer
value_some e at p o v is some = sym (ap (λ (x : Option Fraction). given x e) (sym is ∙ some))

pub value_none : (e : JetFault) (at : Symbol → Fraction) (p : Polynomial Symbol) (o : Option Fraction) → o ≡ value_from at p (whole (pos 0)) → o ≡ None → Err e ≡ value_answer e at p
unfolding value_answer
value_none e at p o is none = sym (ap (λ (x : Option Fraction). given x e) (sym is ∙ none))

zero_true : (v : Fraction) → v.numerator ≡ pos 0 → is_zero_fraction v ≡ true
zero_true v e = (zero_tested v.numerator).1 e

zero_false : (v : Fraction) → (v.numerator ≡ pos 0 → ⊥) → is_zero_fraction v ≡ false
zero_false v n = by_test (is_zero_fraction v) refl
  where
    by_test : (b : Bool) → is_zero_fraction v ≡ b → is_zero_fraction v ≡ false
    by_test false e = e
    by_test true e = absurd (n ((zero_tested v.numerator).0 e))

-- ---- lists of members
module _ {A : Type 0} (T : ℕ → Polynomials → Result ⊤ JetFault) (step : ℕ → Polynomial Symbol → Result A JetFault) (more : (j : ℕ) (p : Polynomial Symbol) (ps : Polynomials) → T j (p ∷ ps) ≡ step j p >>= (λ _. T (suc j) ps)) (none : (j : ℕ) → T j [] ≡ Ok tt)
    (es : Polynomials) (i : ℕ) (rest : T (i + 1) (drop i es) ≡ T 1 es) where
  module _ (inside : i < length es) where
    member_more : T (i + 1) (drop i es) ≡ step (i + 1) (slice_index_or es i []) >>= (λ _. T ((i + 1) + 1) (drop (i + 1) es))
    member_more =
        ap (T (i + 1)) (drop_here i es [] inside) ∙ more (i + 1) (slice_index_or es i []) (drop (i + 1) es)
        ∙ ap (λ k. step (i + 1) (slice_index_or es i []) >>= (λ _. T k (drop (i + 1) es))) (let e : suc (i + 1) ≡ (i + 1) + 1 = omega arith in e)

    pub member_stops : (e : JetFault) → step (i + 1) (slice_index_or es i []) ≡ Err e → Err e ≡ T 1 es
    member_stops e h = sym (sym rest ∙ member_more ∙ ap (λ x. x >>= (λ _. T ((i + 1) + 1) (drop (i + 1) es))) h)

    pub member_passes : (y : A) → step (i + 1) (slice_index_or es i []) ≡ Ok y → T ((i + 1) + 1) (drop (i + 1) es) ≡ T 1 es
    member_passes y h = sym (member_more ∙ ap (λ x. x >>= (λ _. T ((i + 1) + 1) (drop (i + 1) es))) h) ∙ rest

  pub members_end : length es ≤ i → Ok tt ≡ T 1 es
  members_end h = sym (sym rest ∙ ap (T (i + 1)) (drop_end i es h) ∙ none (i + 1))

-- ---- equations and inequations
module _ (at : Symbol → Fraction) where
  pub equation_step : ℕ → Polynomial Symbol → Result ⊤ JetFault
  equation_step j p = value_answer (faults.Wide (ats.Part (parts.Equation j))) at p >>= (λ v. needs (is_zero_fraction v) (faults.OffChain j v))

  pub equation_more : (j : ℕ) (p : Polynomial Symbol) (ps : Polynomials) → test_equations at j (p ∷ ps) ≡ equation_step j p >>= (λ _. test_equations at (suc j) ps)
  unfolding equation_step
  equation_more j p ps = by_value (value_answer (faults.Wide (ats.Part (parts.Equation j))) at p)
    where
      by_value : (x : Result Fraction JetFault) → x >>= (λ v. needs (is_zero_fraction v) (faults.OffChain j v) >>= (λ _. test_equations at (suc j) ps))
          ≡ (x >>= (λ v. needs (is_zero_fraction v) (faults.OffChain j v))) >>= (λ _. test_equations at (suc j) ps)
      by_value (Ok v) = refl
      by_value (Err e) = refl

  module _ (j : ℕ) (p : Polynomial Symbol) where
    pub equation_wide : (e : JetFault) → Err e ≡ value_answer (faults.Wide (ats.Part (parts.Equation j))) at p → equation_step j p ≡ Err e
    unfolding equation_step
    equation_wide e h = ap (λ x. x >>= (λ v. needs (is_zero_fraction v) (faults.OffChain j v))) (sym h)

    module _ (v : Fraction) (value : Ok v ≡ value_answer (faults.Wide (ats.Part (parts.Equation j))) at p) where
      pub equation_off : (v.numerator ≡ pos 0 → ⊥) → equation_step j p ≡ Err (faults.OffChain j v)
      unfolding equation_step
      equation_off n = ap (λ x. x >>= (λ v. needs (is_zero_fraction v) (faults.OffChain j v))) (sym value) ∙ ap (λ b. needs b (faults.OffChain j v)) (zero_false v n)

      pub equation_on : v.numerator ≡ pos 0 → equation_step j p ≡ Ok tt
      unfolding equation_step
      equation_on z = ap (λ x. x >>= (λ v. needs (is_zero_fraction v) (faults.OffChain j v))) (sym value) ∙ ap (λ b. needs b (faults.OffChain j v)) (zero_true v z)

  -- a part
  module _ (w : Part) (p : Polynomial Symbol) where
    pub part_wide : (e : JetFault) → Err e ≡ value_answer (faults.Wide (ats.Part w)) at p → Err e ≡ test_part at w p
    part_wide e h = ap (λ x. x >>= (λ v. needs (not (is_zero_fraction v)) (faults.Vanishes w) >>= (λ _. Ok v))) h

    module _ (v : Fraction) (value : Ok v ≡ value_answer (faults.Wide (ats.Part w)) at p) where
      pub part_vanishes : v.numerator ≡ pos 0 → Err (faults.Vanishes w) ≡ test_part at w p
      part_vanishes z = sym (ap (λ b. needs (not b) (faults.Vanishes w) >>= (λ _. Ok v)) (zero_true v z)) ∙ ap (λ x. x >>= (λ v. needs (not (is_zero_fraction v)) (faults.Vanishes w) >>= (λ _. Ok v))) value

      pub part_stays : (v.numerator ≡ pos 0 → ⊥) → Ok v ≡ test_part at w p
      part_stays n = sym (ap (λ b. needs (not b) (faults.Vanishes w) >>= (λ _. Ok v)) (zero_false v n)) ∙ ap (λ x. x >>= (λ v. needs (not (is_zero_fraction v)) (faults.Vanishes w) >>= (λ _. Ok v))) value

  -- ---- multipliers
  module _ (g : Symbols Symbol) (j : ℕ) (p : Polynomial Symbol) where
    pub no_leader : (v : Fraction) → leader g p ≡ None → v ≡ whole (pos 1) → test_multipliers g at j p (leader g p) ≡ Ok v
    no_leader v e is = ap (test_multipliers g at j p) e ∙ ap (λ x. Ok x) (sym is)

    module _ (l : Symbol) (led : leader g p ≡ Some l) where
      abbrev behind : Result (Polynomial Symbol) Refusal → Result Fraction JetFault
      behind x = told_as (separant_refused j l) x >>= (λ q. test_part at (parts.Separant j) q)

      by_leader : test_multipliers g at j p (leader g p) ≡ test_part at (parts.Initial j) (initial g.cmp l p) >>= (λ _. behind (separant_answer g l p))
      by_leader = ap (test_multipliers g at j p) led

      pub initial_stops : (e : JetFault) → Err e ≡ test_part at (parts.Initial j) (initial g.cmp l p) → test_multipliers g at j p (leader g p) ≡ Err e
      initial_stops e h = by_leader ∙ ap (λ x. x >>= (λ _. behind (separant_answer g l p))) (sym h)

      module _ (y : Fraction) (passes : Ok y ≡ test_part at (parts.Initial j) (initial g.cmp l p)) where
        passed : test_multipliers g at j p (leader g p) ≡ behind (separant_answer g l p)
        passed = by_leader ∙ ap (λ x. x >>= (λ _. behind (separant_answer g l p))) (sym passes)

        pub separant_tested : (q : Polynomial Symbol) (x : Result Fraction JetFault) → separant_answer g l p ≡ Ok q → x ≡ test_part at (parts.Separant j) q → test_multipliers g at j p (leader g p) ≡ x
        separant_tested q x e h = passed ∙ ap behind e ∙ sym h

        pub separant_stops : (e : JetFault) → IsFault e (told_as (separant_refused j l) (separant_answer g l p)) → IsFault e (test_multipliers g at j p (leader g p))
        separant_stops e (inl h) = inl h
        separant_stops e (inr h) = inr (passed ∙ ap (λ x. x >>= (λ q. test_part at (parts.Separant j) q)) h)

  -- all of them: done are the values so far
  module _ (g : Symbols Symbol) (es : Polynomials) (i : ℕ) (done : List Fraction) (rest : test_all_multipliers g at (i + 1) (drop i es) >>= (λ vs. Ok (done ++ vs)) ≡ test_all_multipliers g at 1 es) where
    module _ (inside : i < length es) where
      abbrev one : Result Fraction JetFault
      one = test_multipliers g at (i + 1) (slice_index_or es i []) (leader g (slice_index_or es i []))

      abbrev others : Result (List Fraction) JetFault
      others = test_all_multipliers g at ((i + 1) + 1) (drop (i + 1) es)

      multipliers_more : test_all_multipliers g at (i + 1) (drop i es) ≡ one >>= (λ v. others >>= (λ vs. Ok (v ∷ vs)))
      multipliers_more =
          ap (test_all_multipliers g at (i + 1)) (drop_here i es [] inside)
          ∙ ap (λ k. one >>= (λ v. test_all_multipliers g at k (drop (i + 1) es) >>= (λ vs. Ok (v ∷ vs)))) (let e : suc (i + 1) ≡ (i + 1) + 1 = omega arith in e)

      pub multipliers_stop : (e : JetFault) → IsFault e one → IsFault e (test_all_multipliers g at 1 es)
      multipliers_stop e (inl h) = inl h
      multipliers_stop e (inr h) = inr (sym rest ∙ ap (λ x. x >>= (λ vs. Ok (done ++ vs))) (multipliers_more ∙ ap (λ x. x >>= (λ v. others >>= (λ vs. Ok (v ∷ vs)))) h))

      pub multipliers_pass : (v : Fraction) → one ≡ Ok v → others >>= (λ vs. Ok ((done ++ v ∷ []) ++ vs)) ≡ test_all_multipliers g at 1 es
      multipliers_pass v h = by_others others ∙ sym (ap (λ x. x >>= (λ vs. Ok (done ++ vs))) (multipliers_more ∙ ap (λ x. x >>= (λ v. others >>= (λ vs. Ok (v ∷ vs)))) h)) ∙ rest
        where
          by_others : (x : Result (List Fraction) JetFault) → x >>= (λ vs. Ok ((done ++ v ∷ []) ++ vs)) ≡ (x >>= (λ vs. Ok (v ∷ vs))) >>= (λ vs. Ok (done ++ vs))
          by_others (Ok vs) = ap (λ ys. Ok ys) (append_assoc done (v ∷ []) vs)
          by_others (Err e) = refl

    pub multipliers_end : length es ≤ i → test_all_multipliers g at 1 es ≡ Ok done
    multipliers_end h = sym rest ∙ ap (λ ps. test_all_multipliers g at (i + 1) ps >>= (λ vs. Ok (done ++ vs))) (drop_end i es h) ∙ ap (λ ys. Ok ys) (append-nil done)
