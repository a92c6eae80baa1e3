-- One step of a fold of fractions.
use Rattle.std.proofs.Common.{◌≡◌, ◌<◌, ◌≤◌, ◌+◌, ◌-◌, ◌∙◌, ℕ, zero, suc, ◌==◌, Bool, true, false, cond, List, [], ◌∷◌, length, drop, slice_get, slice_index_or, ℤ, pos, Option, Some, None, unsigned_abs, refl, sym, ap, subst, arith}
use Rattle.std.proofs.lemmas.List.{drop_all, drop_more}
use Rattle.std.proofs.lemmas.Int.{to_z-of_z, fits_signed_from_abs}
use mir.Syntax.{w128}
use mir.Val.{of_z, to_z}
use Rattle.dz_algebra.specs.Amount.{greatest}
use Rattle.std.specs.Option.{option_and_then}
use Rattle.std.specs.Ordering.{match_ordering}
use Rattle.std.proofs.lemmas.Bool.{eqb-true}
use Rattle.std.specs.declared.cmp.Ordering.{Ordering}
use Rattle.std.specs.declared.cmp.Ordering.TheVariants.{Less, Equal, Greater}
use Rattle.dz_algebra.specs.Monomial.{Monomial, exponent, without}
use Rattle.dz_algebra.specs.Parts.{coefficient_of}
use Rattle.dz_algebra.specs.Polynomial.{Polynomial}
use Rattle.dz_poly.specs.Books.{term_at}
use Rattle.dz_int.specs.Fractions.{Fraction, IsFraction, IsReduced, IsProduct, IsSum, HasValue}
use Rattle.dz_rank.specs.declared.symbols.Symbol.{Symbol}
use Rattle.dz_jet.specs.Fractions.{whole, sum_answer}
use Rattle.dz_jet.specs.Jets.{multiplied, term_value, value_from}
use Rattle.dz_jet.specs.Tables.{with_term}
use Rattle.dz_jet.proofs.FractionAnswers.{product_answered, sum_answered}
use Rattle.dz_jet.proofs.FractionLaws.{same, whole_is}

-- one factor more
pub multiplied_more : (k : ℕ) (v x : Fraction) (r : Option Fraction) → 0 < k → IsReduced x → IsReduced v → IsProduct x v r → multiplied k v x ≡ option_and_then (multiplied (k - 1) v) r
multiplied_more zero v x r h a b p = absurd (omega arith)
multiplied_more (suc k) v x r h a b p =
    let e : k ≡ suc k - 1 = omega arith in
    ap (option_and_then (multiplied k v)) (product_answered x v a b r p) ∙ ap (λ j. option_and_then (multiplied j v) r) e

-- where a factor does not fit
pub multiplied_stops : (k : ℕ) (v x : Fraction) (r : Option Fraction) → 0 < k → IsReduced x → IsReduced v → IsProduct x v r → r ≡ None → multiplied k v x ≡ None
multiplied_stops k v x r h a b p e = multiplied_more k v x r h a b p ∙ ap (option_and_then (multiplied (k - 1) v)) e

-- where it does
pub multiplied_goes_on : (k : ℕ) (v x y : Fraction) (r : Option Fraction) → 0 < k → IsReduced x → IsReduced v → IsProduct x v r → r ≡ Some y → multiplied k v x ≡ multiplied (k - 1) v y
multiplied_goes_on k v x y r h a b p e = multiplied_more k v x r h a b p ∙ ap (option_and_then (multiplied (k - 1) v)) e

-- where none is left
pub multiplied_ends : (k : ℕ) (v x : Fraction) → k ≡ 0 → multiplied k v x ≡ Some x
multiplied_ends k v x e = ap (λ j. multiplied j v x) e

-- ---- lists
pub any_default : {A : Type 0} (xs : List A) (i : ℕ) (a b : A) → i < length xs → slice_index_or xs i a ≡ slice_index_or xs i b
any_default [] i a b h = absurd (omega arith)
any_default (x ∷ xs) zero a b h = refl
any_default (x ∷ xs) (suc i) a b h = any_default xs i a b (omega arith)

-- the fraction that a call makes of a whole number
pub made_whole : (f : Fraction) (c : ℤ) → IsFraction f → HasValue f c 1 → f ≡ whole c
made_whole f c h v = same f (whole c) c c 1 1 (record { lowest = h.reduced; value = v; positive = omega arith }) (whole_is c) refl

-- ---- the powers of a term
pub drop_got : {A : Type 0} (m : List A) (j : ℕ) (p : A) → slice_get m j ≡ Some p → drop j m ≡ p ∷ drop (j + 1) m
drop_got [] j p e = cc
drop_got (x ∷ m) zero p e = let f : x ≡ p = cc in ap (λ y. y ∷ m) f
drop_got (x ∷ m) (suc j) p e = drop_got m j p e ∙ ap (λ k. p ∷ drop k (x ∷ m)) (let f : suc (j + 1) ≡ suc j + 1 = omega arith in f)

module _ (at : Symbol → Fraction) (m : Monomial Symbol) (j : ℕ) where
  module _ (p : Symbol × ℕ) (x : Fraction) (o : Option Fraction) (got : slice_get m j ≡ Some p) (is : o ≡ multiplied p.1 (at p.0) x) where
    power_more : term_value at (drop j m) x ≡ option_and_then (term_value at (drop (j + 1) m)) o
    power_more = ap (λ n. term_value at n x) (drop_got m j p got) ∙ ap (option_and_then (term_value at (drop (j + 1) m))) (sym is)

    -- where a power does not fit
    pub power_stops : o ≡ None → term_value at (drop j m) x ≡ None
    power_stops e = power_more ∙ ap (option_and_then (term_value at (drop (j + 1) m))) e

    -- where it does
    pub power_goes_on : (y : Fraction) → o ≡ Some y → term_value at (drop j m) x ≡ term_value at (drop (j + 1) m) y
    power_goes_on y e = power_more ∙ ap (option_and_then (term_value at (drop (j + 1) m))) e

  -- where none is left
  pub powers_end : (x : Fraction) → length m ≤ j → term_value at (drop j m) x ≡ Some x
  powers_end x h = ap (λ n. term_value at n x) (drop_all j m h)

-- ---- the terms of a polynomial
-- one term more
term_first : (at : Symbol → Fraction) (t : Monomial Symbol × ℤ) (p : Polynomial Symbol) (x : Fraction) → value_from at (t ∷ p) x ≡ option_and_then (value_from at p) (with_term at t x)
term_first at t p x = by_term (term_value at t.0 (whole t.1))
  where
    by_term : (o : Option Fraction) → option_and_then (λ v. option_and_then (value_from at p) (sum_answer x v)) o ≡ option_and_then (value_from at p) (option_and_then (sum_answer x) o)
    by_term None = refl
    by_term (Some v) = refl

-- a term whose value fits is added
pub term_added : (at : Symbol → Fraction) (t : Monomial Symbol × ℤ) (x v : Fraction) (o r : Option Fraction) → o ≡ term_value at t.0 (whole t.1) → o ≡ Some v → IsReduced x → IsReduced v → IsSum x v r → r ≡ with_term at t x
term_added at t x v o r is some first second sums = sym (ap (option_and_then (sum_answer x)) (sym is ∙ some) ∙ sum_answered x v first second r sums)

-- and one whose value does not fit is not
pub term_passed : (at : Symbol → Fraction) (t : Monomial Symbol × ℤ) (x : Fraction) (o : Option Fraction) → o ≡ term_value at t.0 (whole t.1) → o ≡ None → None ≡ with_term at t x
term_passed at t x o is none = sym (ap (option_and_then (sum_answer x)) (sym is ∙ none))

module _ (at : Symbol → Fraction) (p : Polynomial Symbol) (k : ℕ) (x : Fraction) where
  module _ (inside : k < length p) (o : Option Fraction) (is : o ≡ with_term at (term_at p k) x) where
    term_more : value_from at (drop k p) x ≡ option_and_then (value_from at (drop (k + 1) p)) o
    term_more =
        ap (λ q. value_from at q x) (drop_more p k ([], pos 0) inside) ∙ term_first at (term_at p k) (drop (k + 1) p) x
        ∙ ap (option_and_then (value_from at (drop (k + 1) p))) (sym is)

    -- where the term does not fit
    pub term_stops : o ≡ None → value_from at (drop k p) x ≡ None
    term_stops e = term_more ∙ ap (option_and_then (value_from at (drop (k + 1) p))) e

    -- where it does
    pub term_goes_on : (y : Fraction) → o ≡ Some y → value_from at (drop k p) x ≡ value_from at (drop (k + 1) p) y
    term_goes_on y e = term_more ∙ ap (option_and_then (value_from at (drop (k + 1) p))) e

  -- where none is left
  pub terms_end : length p ≤ k → value_from at (drop k p) x ≡ Some x
  terms_end h = ap (λ q. value_from at q x) (drop_all k p h)

-- ---- the terms without a symbol
module _ (cmp : Symbol → Symbol → Ordering) (w : Symbol) (at : Symbol → Fraction) where
  -- the value of a monomial without the symbol
  without_value : (m : Monomial Symbol) (x : Fraction) → exponent cmp w m ≡ 0 → term_value at (without cmp w m) x ≡ term_value at m x
  without_value [] x e = refl
  without_value (p ∷ m) x e = by_order (cmp w p.0) e (λ y h. without_value m y h)
    where
      kept : ((y : Fraction) → term_value at (without cmp w m) y ≡ term_value at m y) → term_value at (p ∷ without cmp w m) x ≡ term_value at (p ∷ m) x
      kept f = by_power (multiplied p.1 (at p.0) x)
        where
          by_power : (o : Option Fraction) → option_and_then (term_value at (without cmp w m)) o ≡ option_and_then (term_value at m) o
          by_power None = refl
          by_power (Some y) = f y

      by_order : (o : Ordering) → match_ordering o (exponent cmp w m) (p.1 + exponent cmp w m) (exponent cmp w m) ≡ 0
          → ((y : Fraction) → exponent cmp w m ≡ 0 → term_value at (without cmp w m) y ≡ term_value at m y)
          → term_value at (match_ordering o (p ∷ without cmp w m) (without cmp w m) (p ∷ without cmp w m)) x ≡ term_value at (p ∷ m) x
      by_order Less h f = kept (λ y. f y h)
      by_order Greater h f = kept (λ y. f y h)
      by_order Equal h f =
          let none : p.1 ≡ 0 = omega arith in
          f x (omega arith) ∙ ap (λ n. option_and_then (term_value at m) (multiplied n (at p.0) x)) (sym none)

  abbrev rest : Polynomial Symbol → Polynomial Symbol
  rest p = coefficient_of cmp w 0 p

  module _ (p : Polynomial Symbol) (k : ℕ) (x : Fraction) (inside : k < length p) (n : ℕ) (is_exponent : n ≡ exponent cmp w (term_at p k).0) where
    rest_more : (b : Bool) → (n == 0) ≡ b → rest (drop k p) ≡ cond b ((without cmp w (term_at p k).0, (term_at p k).1) ∷ rest (drop (k + 1) p)) (rest (drop (k + 1) p))
    rest_more b e =
        ap (coefficient_of cmp w 0) (drop_more p k ([], pos 0) inside)
        ∙ ap (λ c. cond c ((without cmp w (term_at p k).0, (term_at p k).1) ∷ rest (drop (k + 1) p)) (rest (drop (k + 1) p))) (ap (λ m. m == 0) (sym is_exponent) ∙ e)

    -- a term with the symbol is left out
    pub rest_passed : (n ≡ 0 → ⊥) → value_from at (coefficient_of cmp w 0 (drop k p)) x ≡ value_from at (coefficient_of cmp w 0 (drop (k + 1) p)) x
    rest_passed e = ap (λ q. value_from at q x) (rest_more false (by_test (n == 0) refl))
      where
        by_test : (b : Bool) → (n == 0) ≡ b → (n == 0) ≡ false
        by_test false f = f
        by_test true f = absurd (e (eqb-true n 0 f))

    module _ (e : n ≡ 0) (o : Option Fraction) (is : o ≡ with_term at (term_at p k) x) where
      same_term : with_term at (without cmp w (term_at p k).0, (term_at p k).1) x ≡ with_term at (term_at p k) x
      same_term = ap (option_and_then (sum_answer x)) (without_value (term_at p k).0 (whole (term_at p k).1) (sym is_exponent ∙ e))

      rest_added : value_from at (coefficient_of cmp w 0 (drop k p)) x ≡ option_and_then (value_from at (coefficient_of cmp w 0 (drop (k + 1) p))) o
      rest_added =
          ap (λ q. value_from at q x) (rest_more true (ap (λ m. m == 0) e)) ∙ term_first at (without cmp w (term_at p k).0, (term_at p k).1) (rest (drop (k + 1) p)) x
          ∙ ap (option_and_then (value_from at (coefficient_of cmp w 0 (drop (k + 1) p)))) (same_term ∙ sym is)

      -- one without it is added, where it fits
      pub rest_stops : o ≡ None → value_from at (coefficient_of cmp w 0 (drop k p)) x ≡ None
      rest_stops f = rest_added ∙ ap (option_and_then (value_from at (coefficient_of cmp w 0 (drop (k + 1) p)))) f

      pub rest_goes_on : (y : Fraction) → o ≡ Some y → value_from at (coefficient_of cmp w 0 (drop k p)) x ≡ value_from at (coefficient_of cmp w 0 (drop (k + 1) p)) y
      rest_goes_on y f = rest_added ∙ ap (option_and_then (value_from at (coefficient_of cmp w 0 (drop (k + 1) p)))) f

  -- where none is left
  pub rest_ends : (p : Polynomial Symbol) (k : ℕ) (x : Fraction) → length p ≤ k → value_from at (coefficient_of cmp w 0 (drop k p)) x ≡ Some x
  rest_ends p k x h = ap (λ q. value_from at (coefficient_of cmp w 0 q) x) (drop_all k p h)

-- the same where the call reads the whole number from a machine word
pub read_whole : (f : Fraction) (c : ℤ) → IsFraction f → unsigned_abs c ≤ greatest → HasValue f (to_z w128 (of_z w128 c)) 1 → f ≡ whole c
read_whole f c h r v = made_whole f c h (subst (λ z. HasValue f z 1) (to_z-of_z w128 c (fits_signed_from_abs w128 c (omega (arith, r)))) v)

-- a machine word that is zero was a zero
pub read_zero : (c : ℤ) → unsigned_abs c ≤ greatest → of_z w128 c ≡ 0 → c ≡ pos 0
read_zero c r e = sym (to_z-of_z w128 c (fits_signed_from_abs w128 c (omega (arith, r)))) ∙ ap (to_z w128) e
