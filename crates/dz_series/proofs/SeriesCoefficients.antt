-- The coefficients of series, made one after the other.
use Rattle.std.specs.List.{find}
use Rattle.std.specs.Option.{is_none, option_and_then}
use Rattle.std.proofs.Common.{◌≡◌, ◌≢◌, ◌⊎◌, inl, inr, ◌<◌, ◌≤◌, ◌+◌, ◌∙◌, ℕ, zero, suc, cond, All, List, [], ◌∷◌, length, take, map, ℤ, pos, unsigned_abs, Option, Some, None, Result, Ok, Err, slice_index_or, refl, sym, ap, subst, arith}
use mir.Syntax.{w128}
use mir.Val.{of_z, to_z}
use Rattle.dz_algebra.specs.Amount.{greatest}
use Rattle.dz_int.specs.Fractions.{Fraction, HasValue, IsFraction, IsProduct, IsReduced, inverse_of}
use Rattle.dz_rank.specs.declared.rankings.Signature.{Signature}
use Rattle.dz_rank.specs.declared.symbols.Symbol.{Symbol}
use Rattle.dz_rank.specs.Symbols.{BelongsTo}
use Rattle.dz_syntax.specs.Names.{Declared}
use Rattle.dz_jet.specs.Fractions.{whole, quotient_answer}
use Rattle.dz_jet.specs.Jets.{Values}
use Rattle.dz_series.specs.Series.{SeriesStop, by_factorial, coefficient_answer, series_answer, wide_at}
use Rattle.dz_series.specs.Writing.{lines_text}
use Rattle.dz_jet.proofs.FilteredLists.{found_is}
use Rattle.dz_jet.proofs.FoldSteps.{read_whole}
use Rattle.dz_jet.proofs.FoldValues.{inverse_is}
use Rattle.dz_jet.proofs.FractionAnswers.{product_answered}

-- ---- factorials
-- a divisor that a call makes
pub divisor_is : (f : Fraction) (z : ℤ) (i : ℕ) → i < 256 → IsFraction f → z ≡ pos (i + 1) → HasValue f (to_z w128 (of_z w128 z)) 1 → f ≡ whole (pos (suc i))
divisor_is f z i small is e value =
    let next : i + 1 ≡ suc i = omega arith in
    let same : z ≡ pos (suc i) = e ∙ ap (λ n. pos n) next in
    let low : unsigned_abs z ≤ greatest = subst (λ y. unsigned_abs y ≤ greatest) (sym same) (omega arith) in
    read_whole f z is low value ∙ ap whole same

-- one divisor more
pub factor_more : (i : ℕ) (x y d : Fraction) (r : Option Fraction) → by_factorial i x ≡ Some y → IsReduced y → IsReduced d → d ≡ whole (pos (suc i)) → IsProduct y (inverse_of d) r → by_factorial (i + 1) x ≡ r
factor_more i x y d r before lowest divisor is quotient =
    let next : i + 1 ≡ suc i = omega arith in
    let nonzero : d.numerator ≢ pos 0 = λ z. (let e : pos (suc i) ≡ pos 0 = sym (ap (λ (f : Fraction). f.numerator) is) ∙ z in cc) in
    ap (λ k. by_factorial k x) next ∙ ap (option_and_then (λ z. quotient_answer z (whole (pos (suc i))))) before ∙ ap (quotient_answer y) (sym is)
    ∙ product_answered y (inverse_of d) lowest (inverse_is d divisor nonzero) r quotient

-- where a quotient does not fit, no later one does
pub factors_stop : (i k : ℕ) (x : Fraction) → i ≤ k → by_factorial i x ≡ None → by_factorial k x ≡ None
factors_stop i zero x h e = ap (λ j. by_factorial j x) (let z : 0 ≡ i = omega arith in z) ∙ e
factors_stop i (suc k) x h e = by_split (split i k h) (λ g. factors_stop i k x g e)
  where
    split : (a b : ℕ) → a ≤ suc b → (a ≤ b) ⊎ (a ≡ suc b)
    split zero b l = inl (omega arith)
    split (suc a) zero l = inr (omega arith)
    split (suc a) (suc b) l = elim (split a b (omega arith)) [ inl g ↦ inl (omega arith) | inr g ↦ inr (ap suc g) ]

    by_split : (i ≤ k) ⊎ (i ≡ suc k) → (i ≤ k → by_factorial k x ≡ None) → by_factorial (suc k) x ≡ None
    by_split (inl g) before = ap (option_and_then (λ y. quotient_answer y (whole (pos (suc k))))) (before g)
    by_split (inr g) before = ap (λ j. by_factorial j x) (sym g) ∙ e

-- ---- all coefficients
-- no symbol is found where all fit
all_fit : (jet : Values) (cs : List Fraction) → map coefficient_answer jet ≡ map Some cs → find (λ p. is_none (coefficient_answer p)) jet ≡ None
all_fit [] cs e = refl
all_fit (p ∷ jet) [] e = absurd cc
all_fit (p ∷ jet) (c ∷ cs) e =
    let head : coefficient_answer p ≡ Some c = cc in
    let rest : map coefficient_answer jet ≡ map Some cs = cc in
    ap (λ o. cond (is_none o) (Some p) (find (λ q. is_none (coefficient_answer q)) jet)) head ∙ all_fit jet cs rest

-- and else the first that does not
wide_found : (jet : Values) (k : ℕ) (cs : List Fraction) (d : Symbol × Fraction) → k < length jet → map coefficient_answer (take k jet) ≡ map Some cs → coefficient_answer (slice_index_or jet k d) ≡ None
    → find (λ p. is_none (coefficient_answer p)) jet ≡ Some (slice_index_or jet k d)
wide_found [] k cs d inside before is = absurd (omega arith)
wide_found (p ∷ jet) zero cs d inside before is = ap (λ o. cond (is_none o) (Some p) (find (λ q. is_none (coefficient_answer q)) jet)) is
wide_found (p ∷ jet) (suc k) [] d inside before is = absurd cc
wide_found (p ∷ jet) (suc k) (c ∷ cs) d inside before is =
    let head : coefficient_answer p ≡ Some c = cc in
    let rest : map coefficient_answer (take k jet) ≡ map Some cs = cc in
    ap (λ o. cond (is_none o) (Some p) (find (λ q. is_none (coefficient_answer q)) jet)) head ∙ wide_found jet k cs d (omega arith) rest is

-- there is a text
pub series_fits : (names : Declared) (g : Signature) (jet : Values) (cs : List Fraction) → map coefficient_answer jet ≡ map Some cs → series_answer names g jet ≡ Ok (lines_text names g jet)
unfolding series_answer
series_fits names g jet cs e = ap (λ o. elim o as (λ _. Result (List ℕ) SeriesStop) [ Some p ↦ Err (wide_at p.0) | None ↦ Ok (lines_text names g jet) ]) (all_fit jet cs e)

-- or a first symbol whose coefficient does not fit
pub series_stops : (names : Declared) (g : Signature) (jet : Values) (k : ℕ) (cs : List Fraction) (d : Symbol × Fraction) → k < length jet → map coefficient_answer (take k jet) ≡ map Some cs → coefficient_answer (slice_index_or jet k d) ≡ None
    → series_answer names g jet ≡ Err (wide_at (slice_index_or jet k d).0)
unfolding series_answer
series_stops names g jet k cs d inside before is = ap (λ o. elim o as (λ _. Result (List ℕ) SeriesStop) [ Some p ↦ Err (wide_at p.0) | None ↦ Ok (lines_text names g jet) ]) (wide_found jet k cs d inside before is)

-- that symbol belongs to the signature, as all do
pub wide_belongs : (names : Declared) (g : Signature) (jet : Values) (s : Symbol) → All (λ p. BelongsTo g p.0) jet → series_answer names g jet ≡ Err (wide_at s) → BelongsTo g s
unfolding series_answer
wide_belongs names g jet s belong e = by_found (find (λ p. is_none (coefficient_answer p)) jet) refl e
  where
    by_found : (o : Option (Symbol × Fraction)) → find (λ p. is_none (coefficient_answer p)) jet ≡ o → (elim o as (λ _. Result (List ℕ) SeriesStop) [ Some p ↦ Err (wide_at p.0) | None ↦ Ok (lines_text names g jet) ]) ≡ Err (wide_at s) → BelongsTo g s
    by_found None f e = absurd cc
    by_found (Some p) f e = let same : p.0 ≡ s = cc in subst (BelongsTo g) same (found_is (λ p. BelongsTo g p.0) (λ p. is_none (coefficient_answer p)) jet p belong f)

-- ---- the coefficients beside a jet
pub coefficient_at : (jet : Values) (cs : List Fraction) (k : ℕ) (d : Symbol × Fraction) (c : Fraction) → map coefficient_answer jet ≡ map Some cs → k < length jet → coefficient_answer (slice_index_or jet k d) ≡ Some (slice_index_or cs k c)
coefficient_at [] cs k d c e inside = absurd (omega arith)
coefficient_at (p ∷ jet) [] k d c e inside = absurd cc
coefficient_at (p ∷ jet) (b ∷ cs) zero d c e inside = cc
coefficient_at (p ∷ jet) (b ∷ cs) (suc k) d c e inside = coefficient_at jet cs k d c (let rest : map coefficient_answer jet ≡ map Some cs = cc in rest) (omega arith)
