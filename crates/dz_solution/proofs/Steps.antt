-- One step of the operations by which a substitution is made.
use Rattle.std.proofs.Common.{◌≡◌, ◌<◌, ◌≤◌, ◌-◌, ◌+◌, ◌∙◌, ℕ, zero, suc, List, [], ◌∷◌, ◌++◌, drop, get_or, length, slice_get, slice_index_or, ℤ, pos, Some, Result, Ok, refl, sym, ap, subst, arith, unsigned_abs}
use Rattle.std.proofs.lemmas.Int.{to_z-of_z, fits_signed_from_abs}
use mir.Syntax.{w128}
use mir.Val.{of_z, to_z}
use Rattle.dz_algebra.specs.Amount.{greatest}
use Rattle.std.proofs.lemmas.List.{drop_all, drop_more}
use Rattle.dz_algebra.specs.Monomial.{Monomial, MonomialIn}
use Rattle.dz_algebra.specs.Polynomial.{Polynomial, PolynomialIn}
use Rattle.dz_algebra.specs.Size.{Refusal, operation, product_answer, sum_answer}
use Rattle.dz_algebra.specs.Symbols.{Symbols}
use Rattle.dz_rank.specs.declared.symbols.Symbol.{Symbol}
use Rattle.dz_rank.specs.Symbols.{BelongsTo}
use Rattle.dz_poly.specs.Books.{BookValue, IsBook, Lives, polynomial, term_at}
use Rattle.dz_domain.proofs.PointValues.{keepable}
use Rattle.dz_monomials.proofs.Summing.{plus_same}
use Rattle.dz_monomials.specs.Signs.{with_sign}
use Rattle.dz_monomials.specs.declared.sign.Sign.TheVariants.{Plus}
use Rattle.dz_monomials.specs.Stops.{IsStop}
use Rattle.dz_monomials.specs.declared.PolyStop.{PolyStop}
use Rattle.dz_diff.specs.Operations.{Setting}
use Rattle.dz_algebra.specs.Outcome.{◌>>=◌}
use Rattle.dz_diff.specs.States.{polynomials}
use Rattle.dz_diff.specs.Tests.{Polynomials}
use Rattle.dz_monomials.specs.Terms.{constant_polynomial}
use Rattle.dz_step.proofs.StepParts.{stop_first}
use Rattle.dz_solution.specs.Evaluation.{multiplied, power_answer, powers_answer, with_term, terms_answer, substitution_answer}

-- ---- what follows an answer
-- what follows an answer that is Ok
pub goes_on : {A B E : Type 0} (x : Result A E) (f : A → Result B E) (a : A) → x ≡ Ok a → (x >>= f) ≡ f a
goes_on x f a e = ap (λ y. y >>= f) e

-- a refusal of what follows
pub stops_later : {A B : Type 0} (x : Result A Refusal) (f : A → Result B Refusal) (a : A) (stop : PolyStop) → x ≡ Ok a → IsStop stop (f a) → IsStop stop (x >>= f)
stops_later x f a stop e h = subst (IsStop stop) (sym (goes_on x f a e)) h

-- ---- many factors
module _ (g : Symbols Symbol) (v x : Polynomial Symbol) where
  -- where none is left
  pub factors_end : (k : ℕ) → k ≡ 0 → multiplied g v k x ≡ Ok x
  factors_end k e = ap (λ n. multiplied g v n x) e

  factor_more : (k : ℕ) → 0 < k → multiplied g v k x ≡ (product_answer g x v >>= multiplied g v (k - 1))
  factor_more zero h = absurd (omega arith)
  factor_more (suc k) h = let e : k ≡ suc k - 1 = omega arith in ap (λ n. product_answer g x v >>= multiplied g v n) e

  -- where a product is made
  pub factor_goes_on : (k : ℕ) (y : Polynomial Symbol) → 0 < k → product_answer g x v ≡ Ok y → multiplied g v k x ≡ multiplied g v (k - 1) y
  factor_goes_on k y h e = factor_more k h ∙ goes_on (product_answer g x v) (multiplied g v (k - 1)) y e

  -- where a product is refused
  pub factor_stops : (k : ℕ) (stop : PolyStop) (whole : Result (Polynomial Symbol) Refusal) → 0 < k → multiplied g v k x ≡ whole → IsStop stop (product_answer g x v) → IsStop stop whole
  factor_stops k stop whole h e s =
      subst (IsStop stop) (sym (factor_more k h) ∙ e) (stop_first stop (product_answer g x v) (multiplied g v (k - 1)) s)

-- ---- lists
-- what stands at a place, before the rest
drop_got : {A : Type 0} (m : List A) (j : ℕ) (p : A) → slice_get m j ≡ Some p → drop j m ≡ p ∷ drop (j + 1) m
drop_got [] j p e = cc
drop_got (x ∷ m) zero p e = let f : x ≡ p = cc in ap (λ y. y ∷ m) f
drop_got (x ∷ m) (suc j) p e = drop_got m j p e ∙ ap (λ k. p ∷ drop k (x ∷ m)) (let f : suc (j + 1) ≡ suc j + 1 = omega arith in f)

-- the polynomial of the name at a place
pub polynomial_there : (book : BookValue) (ps : List ℕ) (u d : ℕ) → u < length ps → polynomial book (slice_index_or ps u d) ≡ get_or (polynomials book ps) u []
polynomial_there book [] u d h = absurd (omega arith)
polynomial_there book (p ∷ ps) zero d h = refl
polynomial_there book (p ∷ ps) (suc u) d h = polynomial_there book ps u d (omega arith)

-- ---- the symbols of a term
module _ (g : Setting) (fs : Polynomials) (m : Monomial Symbol) (j : ℕ) where
  -- where none is left
  pub powers_end : (x : Polynomial Symbol) → length m ≤ j → powers_answer g fs (drop j m) x ≡ Ok x
  powers_end x h = ap (λ n. powers_answer g fs n x) (drop_all j m h)

  module _ (p : Symbol × ℕ) (x : Polynomial Symbol) (got : slice_get m j ≡ Some p) where
    power_more : powers_answer g fs (drop j m) x ≡ (power_answer g fs p x >>= powers_answer g fs (drop (j + 1) m))
    power_more = ap (λ n. powers_answer g fs n x) (drop_got m j p got)

    -- where a power is made
    pub power_goes_on : (y : Polynomial Symbol) → power_answer g fs p x ≡ Ok y → powers_answer g fs (drop j m) x ≡ powers_answer g fs (drop (j + 1) m) y
    power_goes_on y e = power_more ∙ goes_on (power_answer g fs p x) (powers_answer g fs (drop (j + 1) m)) y e

    -- where a power is refused
    pub power_stops : (stop : PolyStop) (whole : Result (Polynomial Symbol) Refusal) → powers_answer g fs (drop j m) x ≡ whole → IsStop stop (power_answer g fs p x) → IsStop stop whole
    power_stops stop whole e s =
        subst (IsStop stop) (sym power_more ∙ e) (stop_first stop (power_answer g fs p x) (powers_answer g fs (drop (j + 1) m)) s)

-- ---- the terms of a polynomial
module _ (g : Setting) (fs : Polynomials) (p : Polynomial Symbol) (k : ℕ) (x : Polynomial Symbol) where
  -- where none is left
  pub terms_end : length p ≤ k → terms_answer g fs (drop k p) x ≡ Ok x
  terms_end h = ap (λ q. terms_answer g fs q x) (drop_all k p h)

  module _ (inside : k < length p) where
    term_more : terms_answer g fs (drop k p) x ≡ (with_term g fs (term_at p k) x >>= terms_answer g fs (drop (k + 1) p))
    term_more = ap (λ q. terms_answer g fs q x) (drop_more p k ([], pos 0) inside)

    -- where a term is added
    pub term_goes_on : (y : Polynomial Symbol) → with_term g fs (term_at p k) x ≡ Ok y → terms_answer g fs (drop k p) x ≡ terms_answer g fs (drop (k + 1) p) y
    term_goes_on y e = term_more ∙ goes_on (with_term g fs (term_at p k) x) (terms_answer g fs (drop (k + 1) p)) y e

    -- where a term is refused
    pub term_stops : (stop : PolyStop) (whole : Result (Polynomial Symbol) Refusal) → terms_answer g fs (drop k p) x ≡ whole → IsStop stop (with_term g fs (term_at p k) x) → IsStop stop whole
    term_stops stop whole e s =
        subst (IsStop stop) (sym term_more ∙ e) (stop_first stop (with_term g fs (term_at p k) x) (terms_answer g fs (drop (k + 1) p)) s)

-- where nothing is added yet
pub terms_begin : (g : Setting) (fs : Polynomials) (p x : Polynomial Symbol) → x ≡ constant_polynomial (pos 0) → terms_answer g fs p x ≡ substitution_answer g fs p
unfolding substitution_answer
terms_begin g fs p x e = ap (terms_answer g fs p) e

-- ---- signs, and symbols of the signature
-- a sum whose second side has the sign plus
pub plus_ok : (g : Symbols Symbol) (a b c : Polynomial Symbol) → operation g (a ++ with_sign Plus b) ≡ Ok c → sum_answer g a b ≡ Ok c
plus_ok g a b c e = ap (λ us. operation g (a ++ us)) (sym (plus_same b)) ∙ e

pub plus_stops : (g : Symbols Symbol) (a b : Polynomial Symbol) (stop : PolyStop) → IsStop stop (operation g (a ++ with_sign Plus b)) → IsStop stop (sum_answer g a b)
plus_stops g a b stop h = subst (λ us. IsStop stop (operation g (a ++ us))) (plus_same b) h

-- ---- a term
module _ (g : Setting) (fs : Polynomials) (t : Monomial Symbol × ℤ) (a k : Polynomial Symbol) (c : ℤ) (is : k ≡ constant_polynomial (to_z w128 (of_z w128 c))) (in_range : unsigned_abs c ≤ greatest) (coefficient : c ≡ t.1) where
  same_start : constant_polynomial t.1 ≡ k
  same_start = sym (is ∙ ap constant_polynomial (to_z-of_z w128 c (fits_signed_from_abs w128 c (omega (arith, in_range))) ∙ coefficient))

  -- the products of a term are refused
  pub products_stop : (stop : PolyStop) → IsStop stop (powers_answer g fs t.0 k) → IsStop stop (with_term g fs t a)
  products_stop stop s = stop_first stop (powers_answer g fs t.0 (constant_polynomial t.1)) (λ v. sum_answer g.symbols a v) (subst (λ x. IsStop stop (powers_answer g fs t.0 x)) (sym same_start) s)

  module _ (v : Polynomial Symbol) (made : powers_answer g fs t.0 k ≡ Ok v) where
    term_sum : with_term g fs t a ≡ sum_answer g.symbols a v
    term_sum = goes_on (powers_answer g fs t.0 (constant_polynomial t.1)) (λ y. sum_answer g.symbols a y) v (ap (powers_answer g fs t.0) same_start ∙ made)

    -- the sum with a term is made
    pub term_made : (b : Polynomial Symbol) → operation g.symbols (a ++ with_sign Plus v) ≡ Ok b → with_term g fs t a ≡ Ok b
    term_made b e = term_sum ∙ plus_ok g.symbols a v b e

    -- the sum with a term is refused
    pub sum_stops : (stop : PolyStop) → IsStop stop (operation g.symbols (a ++ with_sign Plus v)) → IsStop stop (with_term g fs t a)
    sum_stops stop s = subst (IsStop stop) (sym term_sum) (plus_stops g.symbols a v stop s)

-- a symbol of a monomial has what all symbols of it have
in_monomial : (P : Symbol → Type 0) (m : Monomial Symbol) (j : ℕ) (q : Symbol × ℕ) → MonomialIn P m → slice_get m j ≡ Some q → P q.0
in_monomial P [] j q h e = cc
in_monomial P (p ∷ m) zero q h e = let f : p ≡ q = cc in subst (λ s. P s.0) f h.0
in_monomial P (p ∷ m) (suc j) q h e = in_monomial P m j q h.1 e

-- and so has a symbol of a polynomial
in_polynomial : (P : Symbol → Type 0) (p : Polynomial Symbol) (k j : ℕ) (q : Symbol × ℕ) → PolynomialIn P p → k < length p → slice_get (term_at p k).0 j ≡ Some q → P q.0
in_polynomial P [] k j q h l e = absurd (omega arith)
in_polynomial P (t ∷ p) zero j q h l e = in_monomial P t.0 j q h.0 e
in_polynomial P (t ∷ p) (suc k) j q h l e = in_polynomial P p k j q h.1 (omega arith) e

-- the symbols of a polynomial of a book belong to the signature
pub symbol_belongs : (book : BookValue) (a k j : ℕ) (q : Symbol × ℕ) → IsBook book → Lives book a → k < length (polynomial book a) → slice_get (term_at (polynomial book a) k).0 j ≡ Some q → BelongsTo book.ranking.signature q.0
symbol_belongs book a k j q b h l e = in_polynomial (BelongsTo book.ranking.signature) (polynomial book a) k j q (keepable book a b h).belongs l e
