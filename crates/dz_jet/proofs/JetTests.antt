-- Where the tests of a jet pass, the given values are as they should be.
use Rattle.std.specs.Prelude.{⊤}
use Rattle.std.specs.List.{find}
use Rattle.std.proofs.Common.{◌≡◌, ◌∙◌, ℕ, zero, suc, true, not, List, [], ◌∷◌, pos, Option, Some, None, Ok, refl, sym, ap, subst}
use Rattle.dz_algebra.specs.Parts.{initial, leader, separant}
use Rattle.dz_algebra.specs.Derivation.{derivative_contributions, polynomial_derivative, rate_by}
use Rattle.dz_algebra.specs.Monomial.{monomial_cmp}
use Rattle.dz_algebra.specs.Polynomial.{Polynomial, collect}
use Rattle.dz_algebra.specs.Size.{separant_answer}
use Rattle.dz_algebra.specs.Value.{value}
use Rattle.dz_algebra.proofs.DomainValues.{value_there}
use Rattle.dz_algebra.proofs.Operations.{operation_is}
use Rattle.dz_int.specs.Fractions.{Fraction}
use Rattle.dz_rank.specs.Rankings.{RankingValue, ranking_cmp}
use Rattle.dz_rank.specs.declared.symbols.Symbol.{Symbol}
use Rattle.dz_monomials.specs.Ranked.{symbols_under}
use Rattle.dz_algebra.specs.Outcome.{told_as}
use Rattle.dz_diff.specs.State.{at_place}
use Rattle.dz_diff.specs.Tests.{Polynomials}
use Rattle.dz_algebra.proofs.Outcomes.{bind_ok, then_ok, told_ok}
use Rattle.dz_jet.specs.Fractions.{whole, fraction_arithmetic, is_zero_fraction}
use Rattle.dz_jet.specs.declared.faults.At.TheVariants as ats
use Rattle.dz_jet.specs.declared.faults.JetFault.{JetFault}
use Rattle.dz_jet.specs.declared.faults.JetFault.TheVariants as faults
use Rattle.dz_jet.specs.declared.faults.Part.{Part}
use Rattle.dz_jet.specs.declared.faults.Part.TheVariants as parts
use Rattle.dz_jet.specs.Jets.{Values, value_in, value_answer, unless, is_given, is_among, separant_refused, test_given, test_equations, test_part, test_multipliers, test_all_multipliers}
use Rattle.dz_jet.proofs.FilteredLists.{none_fails}
use Rattle.dz_jet.proofs.FoldValues.{Reduced, fractions, value_is}
use Rattle.dz_jet.proofs.FractionLaws.{fraction_laws, is_lowest, zero_is, zero_tested}
use Rattle.dz_jet.proofs.JetLists.{AreReduced, value_reduced, keys}
use Rattle.dz_parametric.proofs.Members.{In}

module _ (r : RankingValue) where
  -- ---- where they pass
  module _ (known : Values) (reduced : AreReduced r known) where
    abbrev at : Symbol → Fraction
    at = value_in (symbols_under r) known

    abbrev there : Symbol → Reduced
    there y = (value_in (symbols_under r) known y, value_reduced r known y reduced)

    value_of : (e : JetFault) (p : Polynomial Symbol) (v : Fraction) → value_answer e (value_in (symbols_under r) known) p ≡ Ok v → (v ≡ (value fractions.arithmetic there p).0) × (v ≡ value fraction_arithmetic (value_in (symbols_under r) known) p)
    value_of e p v h = let k = value_is there e p v h in (k, k ∙ value_there fraction_laws (value_in (symbols_under r) known) (λ y. value_reduced r known y reduced) p)

    zero_value : (e : JetFault) (p : Polynomial Symbol) (v : Fraction) → value_answer e (value_in (symbols_under r) known) p ≡ Ok v → is_zero_fraction v ≡ true → value fraction_arithmetic (value_in (symbols_under r) known) p ≡ whole (pos 0)
    zero_value e p v h z =
        let k = value_of e p v h in
        let x = value fractions.arithmetic there p in
        sym k.1 ∙ k.0 ∙ zero_is x.0 (is_lowest x.0 x.1) ((zero_tested x.0.numerator).0 (ap is_zero_fraction (sym k.0) ∙ z))

    other_value : (e : JetFault) (p : Polynomial Symbol) (v : Fraction) → value_answer e (value_in (symbols_under r) known) p ≡ Ok v → not (is_zero_fraction v) ≡ true → value fraction_arithmetic (value_in (symbols_under r) known) p ≡ whole (pos 0) → ⊥
    other_value e p v h n z =
        let k = value_of e p v h in
        let a : is_zero_fraction v ≡ true = ap is_zero_fraction (k.1 ∙ z) in
        let b : not true ≡ true = ap not (sym a) ∙ n in cc

    pub equations_pass : (j : ℕ) (ps : Polynomials) (y : ⊤) → test_equations (value_in (symbols_under r) known) j ps ≡ Ok y → (a : ℕ) (p : Polynomial Symbol) → at_place (suc a) ps ≡ Some p → value fraction_arithmetic (value_in (symbols_under r) known) p ≡ whole (pos 0)
    equations_pass j [] y h a p e = cc
    equations_pass j (q ∷ ps) y h a p e =
        let b = bind_ok (value_answer (faults.Wide (ats.Part (parts.Equation j))) (value_in (symbols_under r) known) q) _ y h in
        let c = then_ok (is_zero_fraction b.0) (faults.OffChain j b.0) _ y b.2 in
        by_place a e (zero_value (faults.Wide (ats.Part (parts.Equation j))) q b.0 b.1 c.0) (λ a e. equations_pass (suc j) ps y c.1 a p e)
      where
        by_place : (a : ℕ) → at_place (suc a) (q ∷ ps) ≡ Some p → value fraction_arithmetic (value_in (symbols_under r) known) q ≡ whole (pos 0) → ((a : ℕ) → at_place (suc a) ps ≡ Some p → value fraction_arithmetic (value_in (symbols_under r) known) p ≡ whole (pos 0)) → value fraction_arithmetic (value_in (symbols_under r) known) p ≡ whole (pos 0)
        by_place zero e z f = let same : p ≡ q = cc in subst (λ x. value fraction_arithmetic (value_in (symbols_under r) known) x ≡ whole (pos 0)) (sym same) z
        by_place (suc a) e z f = f a e

    part_passes : (w : Part) (p : Polynomial Symbol) (y : Fraction) → test_part (value_in (symbols_under r) known) w p ≡ Ok y → value fraction_arithmetic (value_in (symbols_under r) known) p ≡ whole (pos 0) → ⊥
    part_passes w p y h =
        let b = bind_ok (value_answer (faults.Wide (ats.Part w)) (value_in (symbols_under r) known) p) _ y h in
        let c = then_ok (not (is_zero_fraction b.0)) (faults.Vanishes w) _ y b.2 in
        other_value (faults.Wide (ats.Part w)) p b.0 b.1 c.0

    -- neither multiplier has value zero
    abbrev pub AreNonzero : Polynomial Symbol → Symbol → Type 0
    AreNonzero p l = (value fraction_arithmetic (value_in (symbols_under r) known) (initial (ranking_cmp r) l p) ≡ whole (pos 0) → ⊥) × (value fraction_arithmetic (value_in (symbols_under r) known) (separant (ranking_cmp r) l p) ≡ whole (pos 0) → ⊥)

    separant_there : (p : Polynomial Symbol) (m : Symbol) (q : Polynomial Symbol) → collect (monomial_cmp (ranking_cmp r)) (derivative_contributions (ranking_cmp r) (rate_by (ranking_cmp r) m) p) ≡ q
        → (value fraction_arithmetic (value_in (symbols_under r) known) q ≡ whole (pos 0) → ⊥) → value fraction_arithmetic (value_in (symbols_under r) known) (separant (ranking_cmp r) m p) ≡ whole (pos 0) → ⊥
    unfolding polynomial_derivative
    separant_there p m q is n z = n (ap (value fraction_arithmetic (value_in (symbols_under r) known)) (sym is) ∙ z)

    multipliers_pass : (j : ℕ) (p : Polynomial Symbol) (o : Option Symbol) (l : Symbol) (y : Fraction) → o ≡ Some l → test_multipliers (symbols_under r) (value_in (symbols_under r) known) j p o ≡ Ok y → AreNonzero p l
    multipliers_pass j p None l y e h = cc
    multipliers_pass j p (Some m) l y e h =
        let same : m ≡ l = cc in
        let b = bind_ok (test_part (value_in (symbols_under r) known) (parts.Initial j) (initial (ranking_cmp r) m p)) _ y h in
        let d = bind_ok (told_as (separant_refused j m) (separant_answer (symbols_under r) m p)) _ y b.2 in
        let is = operation_is (symbols_under r) (derivative_contributions (ranking_cmp r) (rate_by (ranking_cmp r) m) p) d.0 (told_ok (separant_refused j m) (separant_answer (symbols_under r) m p) d.0 d.1) in
        subst (AreNonzero p) same (part_passes (parts.Initial j) (initial (ranking_cmp r) m p) b.0 b.1, separant_there p m d.0 is (part_passes (parts.Separant j) d.0 y d.2))

    pub all_multipliers_pass : (j : ℕ) (ps : Polynomials) (y : List Fraction) → test_all_multipliers (symbols_under r) (value_in (symbols_under r) known) j ps ≡ Ok y → (a : ℕ) (p : Polynomial Symbol) (l : Symbol) → at_place (suc a) ps ≡ Some p → leader (symbols_under r) p ≡ Some l → AreNonzero p l
    all_multipliers_pass j [] y h a p l e f = cc
    all_multipliers_pass j (q ∷ ps) y h a p l e f =
        let b = bind_ok (test_multipliers (symbols_under r) (value_in (symbols_under r) known) j q (leader (symbols_under r) q)) _ y h in
        let d = bind_ok (test_all_multipliers (symbols_under r) (value_in (symbols_under r) known) (suc j) ps) _ y b.2 in
        by_place a e b.0 b.1 (λ a e. all_multipliers_pass (suc j) ps d.0 d.1 a p l e f)
      where
        by_place : (a : ℕ) → at_place (suc a) (q ∷ ps) ≡ Some p → (y : Fraction) → test_multipliers (symbols_under r) (value_in (symbols_under r) known) j q (leader (symbols_under r) q) ≡ Ok y → ((a : ℕ) → at_place (suc a) ps ≡ Some p → AreNonzero p l) → AreNonzero p l
        by_place zero e y h k = let same : p ≡ q = cc in subst (λ x. AreNonzero x l) (sym same) (multipliers_pass j q (leader (symbols_under r) q) l y (ap (leader (symbols_under r)) (sym same) ∙ f) h)
        by_place (suc a) e y h k = k a e

    -- every symbol that is given is needed
    unless_ok : (tell : Symbol → JetFault) (o : Option Symbol) (y : ⊤) → unless tell o ≡ Ok y → o ≡ None
    unless_ok tell None y h = refl
    unless_ok tell (Some s) y h = cc

    pub all_needed : (needed : List Symbol) (y : ⊤) → test_given (symbols_under r) known needed ≡ Ok y → (s : Symbol) → In s (keys r known) → is_among (symbols_under r) needed s ≡ true
    all_needed needed y h =
        let b = bind_ok (unless faults.Missing (find (λ s. not (is_given (symbols_under r) known s)) needed)) _ y h in
        none_fails (is_among (symbols_under r) needed) (keys r known) (unless_ok faults.NotFree (find (λ s. not (is_among (symbols_under r) needed s)) (keys r known)) y b.2)
