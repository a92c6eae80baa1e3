-- The values of the separants, where the tests pass.
use Rattle.std.specs.Prelude.{◌≢◌}
use Rattle.std.proofs.Common.{◌≡◌, ◌<◌, ◌∙◌, ℕ, zero, suc, true, not, List, [], ◌∷◌, length, slice_index_or, pos, Option, Some, None, Ok, sym, ap, subst, arith}
use Rattle.dz_algebra.specs.Derivation.{derivative_contributions, polynomial_derivative, rate_by}
use Rattle.dz_algebra.specs.Parts.{initial, leader, separant}
use Rattle.dz_algebra.specs.Polynomial.{Polynomial}
use Rattle.dz_algebra.specs.Size.{separant_answer}
use Rattle.dz_algebra.specs.Symbols.{Symbols}
use Rattle.dz_algebra.proofs.Operations.{operation_is}
use Rattle.dz_int.specs.Fractions.{Fraction}
use Rattle.dz_rank.specs.declared.symbols.Symbol.{Symbol}
use Rattle.dz_algebra.specs.Outcome.{told_as}
use Rattle.dz_diff.specs.Tests.{Polynomials}
use Rattle.dz_algebra.proofs.Outcomes.{bind_ok, ok_same, then_ok, told_ok}
use Rattle.dz_jet.specs.declared.faults.At.TheVariants as ats
use Rattle.dz_jet.specs.declared.faults.JetFault.{JetFault}
use Rattle.dz_jet.specs.declared.faults.JetFault.TheVariants as faults
use Rattle.dz_jet.specs.declared.faults.Part.TheVariants as parts
use Rattle.dz_jet.specs.Fixing.{AreSeparants}
use Rattle.dz_jet.specs.Fractions.{whole, is_zero_fraction}
use Rattle.dz_jet.specs.Jets.{separant_refused, test_all_multipliers, test_multipliers, test_part, value_answer, value_from}
use Rattle.dz_jet.proofs.FoldValues.{given_is}
use Rattle.dz_jet.proofs.FractionLaws.{zero_tested}

module _ (g : Symbols Symbol) (at : Symbol → Fraction) where
  -- a value that is tested
  tested_value : (e : JetFault) (p : Polynomial Symbol) (v : Fraction) → value_answer e at p ≡ Ok v → value_from at p (whole (pos 0)) ≡ Some v
  unfolding value_answer
  tested_value e p v h = given_is (value_from at p (whole (pos 0))) e v h

  is_separant : (l : Symbol) (p q : Polynomial Symbol) → separant_answer g l p ≡ Ok q → separant g.cmp l p ≡ q
  unfolding polynomial_derivative
  is_separant l p q h = operation_is g (derivative_contributions g.cmp (rate_by g.cmp l) p) q h

  record SeparantValue (p : Polynomial Symbol) (l : Symbol) (v : Fraction) : Type 0 where
    is : value_from at (separant g.cmp l p) (whole (pos 0)) ≡ Some v
    nonzero : v.numerator ≢ pos 0

  not_zero : (v : Fraction) → not (is_zero_fraction v) ≡ true → v.numerator ≢ pos 0
  not_zero v h z = let a : is_zero_fraction v ≡ true = (zero_tested v.numerator).1 z in let b : not true ≡ true = ap not (sym a) ∙ h in cc

  one_value : (j : ℕ) (p : Polynomial Symbol) (l : Symbol) (v : Fraction) (o : Option Symbol) → o ≡ Some l → test_multipliers g at j p o ≡ Ok v → SeparantValue p l v
  one_value j p l v None e h = cc
  one_value j p l v (Some m) e h =
      let same : m ≡ l = cc in
      let a = bind_ok (test_part at (parts.Initial j) (initial g.cmp m p)) _ v h in
      let b = bind_ok (told_as (separant_refused j m) (separant_answer g m p)) _ v a.2 in
      let c = bind_ok (value_answer (faults.Wide (ats.Part (parts.Separant j))) at b.0) _ v b.2 in
      let d = then_ok (not (is_zero_fraction c.0)) (faults.Vanishes (parts.Separant j)) _ v c.2 in
      let is_v : c.0 ≡ v = ok_same c.0 v d.1 in
      subst (λ x. SeparantValue p x v) same (record {
        is = ap (λ q. value_from at q (whole (pos 0))) (is_separant m p b.0 (told_ok (separant_refused j m) (separant_answer g m p) b.0 b.1)) ∙ tested_value (faults.Wide (ats.Part (parts.Separant j))) b.0 c.0 c.1 ∙ ap (λ x. Some x) is_v;
        nonzero = subst (λ x. x.numerator ≢ pos 0) is_v (not_zero c.0 d.0);
      })

  -- all of them, by their places
  values_found : (j : ℕ) (es : Polynomials) (ss : List Fraction) → test_all_multipliers g at j es ≡ Ok ss → (length ss ≡ length es) × ((i : ℕ) (l : Symbol) (d : Fraction) → i < length es → leader g (slice_index_or es i []) ≡ Some l → SeparantValue (slice_index_or es i []) l (slice_index_or ss i d))
  values_found j [] ss h = let e : [] ≡ ss = ok_same [] ss h in (ap length (sym e), λ i l d k. absurd (omega arith))
  values_found j (p ∷ es) ss h =
      let a = bind_ok (test_multipliers g at j p (leader g p)) _ ss h in
      let b = bind_ok (test_all_multipliers g at (suc j) es) _ ss a.2 in
      let e : a.0 ∷ b.0 ≡ ss = ok_same (a.0 ∷ b.0) ss b.2 in
      let more = values_found (suc j) es b.0 b.1 in
      subst (λ xs. (length xs ≡ suc (length es)) × ((i : ℕ) (l : Symbol) (d : Fraction) → i < suc (length es) → leader g (slice_index_or (p ∷ es) i []) ≡ Some l → SeparantValue (slice_index_or (p ∷ es) i []) l (slice_index_or xs i d))) e
      (ap suc more.0, by_place a.0 b.0 (λ l d f. one_value j p l a.0 (leader g p) f a.1) more.1)
    where
      by_place : (v : Fraction) (vs : List Fraction) → ((l : Symbol) (d : Fraction) → leader g p ≡ Some l → SeparantValue p l v)
          → ((i : ℕ) (l : Symbol) (d : Fraction) → i < length es → leader g (slice_index_or es i []) ≡ Some l → SeparantValue (slice_index_or es i []) l (slice_index_or vs i d))
          → (i : ℕ) (l : Symbol) (d : Fraction) → i < suc (length es) → leader g (slice_index_or (p ∷ es) i []) ≡ Some l → SeparantValue (slice_index_or (p ∷ es) i []) l (slice_index_or (v ∷ vs) i d)
      by_place v vs f h zero l d k e = f l d e
      by_place v vs f h (suc i) l d k e = h i l d (omega arith) e

  pub separants_found : (es : Polynomials) (ss : List Fraction) → test_all_multipliers g at 1 es ≡ Ok ss → AreSeparants g at es ss
  separants_found es ss h =
      let all = values_found 1 es ss h in
      record {
        size = all.0;
        values = λ i l d k e. (all.1 i l d k e).is;
        nonzero = λ i l d k e. (all.1 i l d k e).nonzero;
      }
