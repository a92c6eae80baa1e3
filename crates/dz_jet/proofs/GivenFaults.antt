-- Behind the tests of what is given, no value is missing, and none is not free.
use Rattle.std.proofs.Common.{◌≡◌, ◌++◌, ℕ, suc, Bool, true, false, not, List, [], ◌∷◌, Option, Some, None, Result, Ok, Err, refl, subst}
use Rattle.dz_algebra.specs.Parts.{coefficient_of, initial, leader, separant}
use Rattle.dz_algebra.specs.Polynomial.{Polynomial}
use Rattle.dz_algebra.specs.Size.{Refusal, wide, large, separant_answer}
use Rattle.dz_algebra.specs.Symbols.{Symbols}
use Rattle.dz_int.specs.Fractions.{Fraction}
use Rattle.dz_rank.specs.declared.symbols.Symbol.{Symbol}
use Rattle.dz_diff.specs.Operations.{Setting, operator_answer}
use Rattle.dz_algebra.specs.Outcome.{◌>>=◌, needs, given, told_as}
use Rattle.dz_diff.specs.State.{State}
use Rattle.dz_diff.specs.Tests.{Polynomials}
use Rattle.dz_jet.specs.declared.faults.At.TheVariants as ats
use Rattle.dz_jet.specs.declared.faults.JetFault.{JetFault}
use Rattle.dz_jet.specs.declared.faults.JetFault.TheVariants as faults
use Rattle.dz_jet.specs.declared.faults.Part.{Part}
use Rattle.dz_jet.specs.declared.faults.Part.TheVariants as parts
use Rattle.dz_jet.specs.Fractions.{fraction_negative, is_zero_fraction, quotient_answer}
use Rattle.dz_jet.specs.Jets.{Leading, Values, fixed_value, leading_to, refused_at, separant_refused, test_all_multipliers, test_equations, test_inequations, test_multipliers, test_part, value_answer, value_from, value_in, with_value, with_values}
use Rattle.dz_jet.specs.Fractions.{whole}
use Rattle.std.specs.Prelude.{pos}

-- a fault is one of the values that are given
abbrev pub is_of_given : JetFault → Bool
is_of_given (faults.Missing v) = true
is_of_given (faults.NotFree v) = true
is_of_given e = false

-- no fault of an answer is one
abbrev pub HasOther : {A : Type 0} → Result A JetFault → Type 0
HasOther x = (e : JetFault) → x ≡ Err e → is_of_given e ≡ false

other_ok : {A : Type 0} (a : A) → HasOther (Ok a)
other_ok a e h = cc

other_err : {A : Type 0} (d : JetFault) → is_of_given d ≡ false → (x : Result A JetFault) → x ≡ Err d → HasOther x
other_err d o x h e k = let same : d ≡ e = cc in subst (λ z. is_of_given z ≡ false) same o

pub other_bind : {A B : Type 0} (x : Result A JetFault) (f : A → Result B JetFault) → HasOther x → ((a : A) → HasOther (f a)) → HasOther (x >>= f)
other_bind (Ok a) f h k = k a
other_bind (Err d) f h k = other_err d (h d refl) (Err d >>= f) refl

other_needs : (b : Bool) (d : JetFault) → is_of_given d ≡ false → HasOther (needs b d)
other_needs true d o = other_ok tt
other_needs false d o = other_err d o (needs false d) refl

other_given : {A : Type 0} (x : Option A) (d : JetFault) → is_of_given d ≡ false → HasOther (given x d)
other_given (Some a) d o = other_ok a
other_given {A} None d o = other_err d o (given {A = A} None d) refl

other_told : {A : Type 0} (tell : Refusal → JetFault) → ((d : Refusal) → is_of_given (tell d) ≡ false) → (x : Result A Refusal) → HasOther (told_as tell x)
other_told tell o (Ok a) = other_ok a
other_told {A} tell o (Err d) = other_err (tell d) (o d) (told_as {A = A} tell (Err d)) refl

other_value : (d : JetFault) → is_of_given d ≡ false → (at : Symbol → Fraction) (p : Polynomial Symbol) → HasOther (value_answer d at p)
unfolding value_answer
other_value d o at p = other_given (value_from at p (whole (pos 0))) d o

-- ---- the tests
pub other_equations : (at : Symbol → Fraction) (j : ℕ) (ps : Polynomials) → HasOther (test_equations at j ps)
other_equations at j [] = other_ok tt
other_equations at j (p ∷ ps) =
    other_bind (value_answer (faults.Wide (ats.Part (parts.Equation j))) at p) _ (other_value (faults.Wide (ats.Part (parts.Equation j))) refl at p)
    (λ v. other_bind (needs (is_zero_fraction v) (faults.OffChain j v)) _ (other_needs (is_zero_fraction v) (faults.OffChain j v) refl) (λ z. other_equations at (suc j) ps))

other_part : (at : Symbol → Fraction) (w : Part) (p : Polynomial Symbol) → HasOther (test_part at w p)
other_part at w p =
    other_bind (value_answer (faults.Wide (ats.Part w)) at p) _ (other_value (faults.Wide (ats.Part w)) refl at p)
    (λ v. other_bind (needs (not (is_zero_fraction v)) (faults.Vanishes w)) _ (other_needs (not (is_zero_fraction v)) (faults.Vanishes w) refl) (λ z. other_ok v))

other_separant : (j : ℕ) (l : Symbol) (d : Refusal) → is_of_given (separant_refused j l d) ≡ false
other_separant j l wide = refl
other_separant j l (large limit) = refl

other_multipliers : (g : Symbols Symbol) (at : Symbol → Fraction) (j : ℕ) (p : Polynomial Symbol) (o : Option Symbol) → HasOther (test_multipliers g at j p o)
other_multipliers g at j p None = other_ok (whole (pos 1))
other_multipliers g at j p (Some l) =
    other_bind (test_part at (parts.Initial j) (initial g.cmp l p)) _ (other_part at (parts.Initial j) (initial g.cmp l p))
    (λ v. other_bind (told_as (separant_refused j l) (separant_answer g l p)) _ (other_told (separant_refused j l) (other_separant j l) (separant_answer g l p)) (λ q. other_part at (parts.Separant j) q))

pub other_all_multipliers : (g : Symbols Symbol) (at : Symbol → Fraction) (j : ℕ) (ps : Polynomials) → HasOther (test_all_multipliers g at j ps)
other_all_multipliers g at j [] = other_ok []
other_all_multipliers g at j (p ∷ ps) =
    other_bind (test_multipliers g at j p (leader g p)) _ (other_multipliers g at j p (leader g p))
    (λ v. other_bind (test_all_multipliers g at (suc j) ps) _ (other_all_multipliers g at (suc j) ps) (λ vs. other_ok (v ∷ vs)))

pub other_inequations : (at : Symbol → Fraction) (j : ℕ) (hs : Polynomials) → HasOther (test_inequations at j hs)
other_inequations at j [] = other_ok tt
other_inequations at j (h ∷ hs) = other_bind (test_part at (parts.Inequation j) h) _ (other_part at (parts.Inequation j) h) (λ v. other_inequations at (suc j) hs)

-- ---- the values
other_refused : (w : Symbol) (d : Refusal) → is_of_given (refused_at w d) ≡ false
other_refused w wide = refl
other_refused w (large limit) = refl

other_fixed : (g : Setting) (at : Symbol → Fraction) (jet : Values) (w : Symbol) (x : Leading) → HasOther (fixed_value g at jet w x)
other_fixed g at jet w x =
    let d = faults.Wide (ats.Derivative w) in
    other_bind (told_as (refused_at w) (operator_answer g x.operator x.divisor)) _ (other_told (refused_at w) (other_refused w) (operator_answer g x.operator x.divisor))
    (λ p. other_bind (value_answer d at (separant g.symbols.cmp x.top x.divisor)) _ (other_value d refl at (separant g.symbols.cmp x.top x.divisor))
    (λ s. other_bind (value_answer d (value_in g.symbols jet) (coefficient_of g.symbols.cmp w 0 p)) _ (other_value d refl (value_in g.symbols jet) (coefficient_of g.symbols.cmp w 0 p))
    (λ q. other_given (quotient_answer (fraction_negative q) s) d refl)))

other_with : (g : Setting) (at : Symbol → Fraction) (jet : Values) (w : Symbol) (o : Option Leading) → HasOther (with_value g at jet w o)
other_with g at jet w None = other_ok (jet ++ (w, at w) ∷ [])
other_with g at jet w (Some x) = other_bind (fixed_value g at jet w x) _ (other_fixed g at jet w x) (λ v. other_ok (jet ++ (w, v) ∷ []))

pub other_values : (g : Setting) (s : State) (at : Symbol → Fraction) (jet : Values) (ws : List Symbol) → HasOther (with_values g s at jet ws)
other_values g s at jet [] = other_ok jet
other_values g s at jet (w ∷ ws) =
    other_bind (with_value g at jet w (leading_to g.symbols w 1 s.equations)) _ (other_with g at jet w (leading_to g.symbols w 1 s.equations)) (λ more. other_values g s at more ws)
