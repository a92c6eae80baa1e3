-- One derivation of a polynomial is linear in the derivative of its leader, with the separant as coefficient.
use Rattle.std.specs.Prelude.{⊤}
use Rattle.std.proofs.Common.{◌≡◌, ◌⊎◌, inl, inr, ℕ, zero, suc, ◌+◌, ◌==◌, ◌≤◌, ◌<◌, Bool, true, false, cond, List, [], ◌∷◌, length, ℤ, pos, ◌+ℤ◌, ◌*ℤ◌, refl, sym, ap, ap₂, ◌∙◌, arith, subst, eqb}
use Rattle.std.specs.declared.cmp.Ordering.{Ordering}
use Rattle.std.specs.declared.cmp.Ordering.TheVariants.{Less}
use Rattle.std.specs.Ordering.{match_ordering}
use Rattle.std.specs.Cmp.{tied_itself}
use Rattle.dz_algebra.specs.Whole.{whole_ring}
use Rattle.dz_algebra.specs.Ring.{product_zero}
use Rattle.dz_algebra.specs.Order.{IsOrder}
use Rattle.dz_algebra.specs.Monomial.{Monomial, MonomialIn, monomial_cmp, exponent, with_power, without}
use Rattle.dz_algebra.specs.Polynomial.{Polynomial, Contributions, AreMonomials, IsPolynomial, PolynomialIn, collect}
use Rattle.dz_algebra.specs.Derivation.{constant, unit, rate_by, once_less, times_rate, each_with_power, term_derivative, derivative_contributions}
use Rattle.dz_algebra.specs.Parts.{coefficient_of}
use Rattle.dz_algebra.proofs.Canonical.{are_monomials, collect_is}
use Rattle.dz_algebra.proofs.Coefficients.{without_is}
use Rattle.dz_algebra.proofs.Derivations.{monomials_derivative}
use Rattle.dz_algebra.proofs.Inside.{in_once_less, in_with_power}
use Rattle.dz_algebra.proofs.Totals.{total, total-append, total_collect, same_by_totals}
use Rattle.dz_rank.specs.Rankings.{RankingValue, ranking_cmp}
use Rattle.dz_rank.specs.Symbols.{raised, raised_symbol}
use Rattle.dz_rank.specs.declared.symbols.Operator.{Operator}
use Rattle.dz_rank.specs.declared.symbols.Symbol.{Symbol}
use Rattle.dz_rank.specs.declared.symbols.Symbol.TheVariants.{Independent, Derivative}
use Rattle.dz_rank.proofs.Raising.{grows_by_one, keeps_order_by_one}
use Rattle.dz_monomials.specs.Ranked.{symbol_rate}
use Rattle.dz_monomials.proofs.SymbolLaws.{ranking_order}
use Rattle.dz_diff.proofs.MarkedSums.{EachMonomial, each-append, each_collect, marked, total_coefficient, total_each, total_same, Free, exponent_free, exponent_below, exponent_put, marked_below, marked_free, marked_put}

-- an order of symbols in which derivatives are above independents, and derivation raises and keeps the order
pub record IsRaising (cmp : Symbol → Symbol → Ordering) : Type 0 where
  pub order : IsOrder cmp
  pub derivative_above : (j u : ℕ) (t : Operator) → cmp (Independent j) (Derivative u t) ≡ Less
  pub raising_grows : (i u : ℕ) (t : Operator) → cmp (Derivative u t) (raised_symbol i (Derivative u t)) ≡ Less
  pub raising_keeps : (i u v : ℕ) (s t : Operator) → length s.counts ≡ length t.counts → cmp (raised_symbol i (Derivative u s)) (raised_symbol i (Derivative v t)) ≡ cmp (Derivative u s) (Derivative v t)

-- a ranking is one
pub ranking_raises : (r : RankingValue) → IsRaising (ranking_cmp r)
unfolding ranking_cmp
ranking_raises r = record {
  order = ranking_order r;
  derivative_above = λ j u t. refl;
  raising_grows = λ i u t. grows_by_one r i (Derivative u t) refl;
  raising_keeps = λ i u v s t e. keeps_order_by_one r i u v s t e;
}

-- operators of n exponents
abbrev pub IsRegular : ℕ → Symbol → Type 0
IsRegular n (Independent j) = ⊤
IsRegular n (Derivative u t) = length t.counts ≡ n

-- a regular symbol that is not above l
abbrev pub IsUnder : (Symbol → Symbol → Ordering) → ℕ → Symbol → Symbol → Type 0
IsUnder cmp n l s = IsRegular n s × ((cmp s l ≡ Less) ⊎ (s ≡ l))

pub length_raised : (i : ℕ) (ks : List ℕ) (n : ℕ) → length ks ≡ n → i < n → length (raised i ks) ≡ n
length_raised i [] n e h = absurd (omega arith)
length_raised zero (k ∷ ks) n e h = e
length_raised (suc i) (k ∷ ks) zero e h = absurd (omega arith)
length_raised (suc i) (k ∷ ks) (suc n) e h = ap suc (length_raised i ks n (omega arith) (omega arith))

pub coefficients_are : {S : Type 0} {cmp : S → S → Ordering} (order : IsOrder cmp) (v : S) (k : ℕ) (p : Polynomial S) → AreMonomials cmp p → AreMonomials cmp (coefficient_of cmp v k p)
coefficients_are order v k [] h = tt
coefficients_are {S} {cmp} order v k (t ∷ p) h = by_test (eqb (exponent cmp v t.0) k) (coefficients_are order v k p h.1)
  where
    by_test : (b : Bool) → AreMonomials cmp (coefficient_of cmp v k p) → AreMonomials cmp (cond b ((without cmp v t.0, t.1) ∷ coefficient_of cmp v k p) (coefficient_of cmp v k p))
    by_test true r = (without_is order v t.0 h.0, r)
    by_test false r = r

pub total_empty : (f : Monomial Symbol → ℤ) → total f [] ≡ pos 0
unfolding total
total_empty f = refl

pub total_one : (f h : Monomial Symbol → ℤ) (m k : Monomial Symbol) (c : ℤ) → f m ≡ h k → total f ((m, c) ∷ []) ≡ total h ((k, c) ∷ [])
unfolding total
total_one f h m k c e = ap (λ x. c *ℤ x +ℤ pos 0) e

pub total_none : (f : Monomial Symbol → ℤ) (m : Monomial Symbol) (c : ℤ) → f m ≡ pos 0 → total f ((m, c) ∷ []) ≡ pos 0
unfolding total
total_none f m c e = ap (λ x. c *ℤ x +ℤ pos 0) e ∙ ap (λ x. x +ℤ pos 0) (product_zero whole_ring c)

-- one derivation of a polynomial that has no derivative above the u-th's by t
module _ {cmp : Symbol → Symbol → Ordering} (ranking : IsRaising cmp) (n i u : ℕ) (t : Operator) (regular : length t.counts ≡ n) where
  abbrev pub l : Symbol
  l = Derivative u t

  abbrev pub w : Symbol
  w = raised_symbol i (Derivative u t)

  abbrev pub IsLow : Symbol → Type 0
  IsLow s = cmp s w ≡ Less

  abbrev pub IsFree : Monomial Symbol → Type 0
  IsFree = Free ranking.order w

  under_low : (s : Symbol) → IsUnder cmp n l s → cmp s w ≡ Less
  under_low s (h, inl e) = ranking.order.total.trans s l w e (ranking.raising_grows i u t)
  under_low s (h, inr e) = ap (λ s. cmp s w) e ∙ ranking.raising_grows i u t

  under_free : (m : Monomial Symbol) → MonomialIn (IsUnder cmp n l) m → IsFree m
  under_free [] h = tt
  under_free (p ∷ m) h = (under_low p.0 h.0, under_free m h.1)

  less_free : (s : Symbol) (e : ℕ) (m : Monomial Symbol) → IsLow s → IsFree m → IsFree (once_less s e m)
  less_free s zero m h k = k
  less_free s (suc zero) m h k = k
  less_free s (suc (suc e)) m h k = (h, k)

  -- the contributions of one symbol
  one_symbol : (f : Monomial Symbol → ℤ) (s : Symbol) (m : Monomial Symbol) (c : ℤ) → IsUnder cmp n l s → IsFree m → total (marked cmp w 1 f) (times_rate cmp (symbol_rate i s) m c) ≡ total f (times_rate cmp (rate_by cmp l s) m c)
  unfolding symbol_rate
  one_symbol f s m c (h, inr e) k =
      subst (λ s. total (marked cmp w 1 f) (times_rate cmp (symbol_rate i s) m c) ≡ total f (times_rate cmp (rate_by cmp l s) m c)) (sym e)
      (total_one (marked cmp w 1 f) f (with_power cmp w 1 m) m c (marked_put ranking.order w f m k)
      ∙ ap (λ o. total f (times_rate cmp (match_ordering o constant unit constant) m c)) (sym (tied_itself ranking.order.total l)))
  one_symbol f (Independent j) m c (h, inl e) k =
      elim (i == j) as (λ b. total (marked cmp w 1 f) (times_rate cmp (cond b unit constant) m c) ≡ pos 0) [ true ↦ total_none (marked cmp w 1 f) m c (marked_free ranking.order w f m k) | false ↦ total_empty (marked cmp w 1 f) ]
      ∙ sym (ap (λ o. total f (times_rate cmp (match_ordering o constant unit constant) m c)) e ∙ total_empty f)
  one_symbol f (Derivative v s) m c (h, inl e) k =
      let low : cmp (raised_symbol i (Derivative v s)) w ≡ Less = ranking.raising_keeps i v u s t (h ∙ sym regular) ∙ e in
      total_none (marked cmp w 1 f) (with_power cmp (raised_symbol i (Derivative v s)) 1 m) c
      (marked_below ranking.order w 1 f (raised_symbol i (Derivative v s)) 1 m low ∙ marked_free ranking.order w (λ n. f (with_power cmp (raised_symbol i (Derivative v s)) 1 n)) m k)
      ∙ sym (ap (λ o. total f (times_rate cmp (match_ordering o constant unit constant) m c)) e ∙ total_empty f)

  one_term : (f : Monomial Symbol → ℤ) (m : Monomial Symbol) (c : ℤ) → MonomialIn (IsUnder cmp n l) m → total (marked cmp w 1 f) (term_derivative cmp (symbol_rate i) m c) ≡ total f (term_derivative cmp (rate_by cmp l) m c)
  one_term f [] c h = total_empty (marked cmp w 1 f) ∙ sym (total_empty f)
  one_term f (p ∷ m) c h =
      let low : cmp p.0 w ≡ Less = under_low p.0 h.0 in
      let rest : Monomial Symbol = once_less p.0 p.1 m in
      let d : Contributions Symbol = term_derivative cmp (symbol_rate i) m c in
      let d' : Contributions Symbol = term_derivative cmp (rate_by cmp l) m c in
      total-append (marked cmp w 1 f) (times_rate cmp (symbol_rate i p.0) rest (c *ℤ pos p.1)) (each_with_power cmp p.0 p.1 d)
      ∙ ap₂ (λ x y. x +ℤ y) (one_symbol f p.0 rest (c *ℤ pos p.1) h.0 (less_free p.0 p.1 m low (under_free m h.1)))
      (total_each cmp p.0 p.1 (marked cmp w 1 f) d
      ∙ total_same cmp (λ k. marked cmp w 1 f (with_power cmp p.0 p.1 k)) (marked cmp w 1 (λ k. f (with_power cmp p.0 p.1 k))) (λ k. marked_below ranking.order w 1 f p.0 p.1 k low) d
      ∙ one_term (λ k. f (with_power cmp p.0 p.1 k)) m c h.1
      ∙ sym (total_each cmp p.0 p.1 f d'))
      ∙ sym (total-append f (times_rate cmp (rate_by cmp l p.0) rest (c *ℤ pos p.1)) (each_with_power cmp p.0 p.1 d'))

  each_term : (f : Monomial Symbol → ℤ) (q : Polynomial Symbol) → PolynomialIn (IsUnder cmp n l) q → total (marked cmp w 1 f) (derivative_contributions cmp (symbol_rate i) q) ≡ total f (derivative_contributions cmp (rate_by cmp l) q)
  each_term f [] h = total_empty (marked cmp w 1 f) ∙ sym (total_empty f)
  each_term f (p ∷ q) h =
      total-append (marked cmp w 1 f) (term_derivative cmp (symbol_rate i) p.0 p.1) (derivative_contributions cmp (symbol_rate i) q)
      ∙ ap₂ (λ x y. x +ℤ y) (one_term f p.0 p.1 h.0) (each_term f q h.1)
      ∙ sym (total-append f (term_derivative cmp (rate_by cmp l) p.0 p.1) (derivative_contributions cmp (rate_by cmp l) q))

  -- the coefficient of the derivative of l is the separant
  pub coefficient_of-derivation : (q : Polynomial Symbol) → IsPolynomial cmp q → PolynomialIn (IsUnder cmp n l) q
      → collect (monomial_cmp cmp) (coefficient_of cmp w 1 (collect (monomial_cmp cmp) (derivative_contributions cmp (symbol_rate i) q))) ≡ collect (monomial_cmp cmp) (derivative_contributions cmp (rate_by cmp l) q)
  coefficient_of-derivation q i-is h =
      let ts : Contributions Symbol = derivative_contributions cmp (symbol_rate i) q in
      let are : AreMonomials cmp ts = monomials_derivative ranking.order (symbol_rate i) q (are_monomials ranking.order q i-is) in
      same_by_totals ranking.order (coefficient_of cmp w 1 (collect (monomial_cmp cmp) ts)) (derivative_contributions cmp (rate_by cmp l) q)
      (coefficients_are ranking.order w 1 (collect (monomial_cmp cmp) ts) (are_monomials ranking.order (collect (monomial_cmp cmp) ts) (collect_is ranking.order ts are)))
      (monomials_derivative ranking.order (rate_by cmp l) q (are_monomials ranking.order q i-is))
      (λ f. total_coefficient cmp w 1 f (collect (monomial_cmp cmp) ts) ∙ total_collect ranking.order (marked cmp w 1 f) ts ∙ each_term f q h)

  -- ---- no symbol of the result is above the derivative of l, and that is in it once at most
  abbrev pub IsLinear : Monomial Symbol → Type 0
  IsLinear m = MonomialIn (IsUnder cmp n w) m × (exponent cmp w m ≤ 1)

  module _ (within : i < n) where
    raised_under : (s : Symbol) → IsUnder cmp n l s → IsUnder cmp n w s
    raised_under s h = (h.0, inl (under_low s h))

    all_under : (m : Monomial Symbol) → MonomialIn (IsUnder cmp n l) m → MonomialIn (IsUnder cmp n w) m
    all_under [] h = tt
    all_under (p ∷ m) h = (raised_under p.0 h.0, all_under m h.1)

    less_under : (s : Symbol) (e : ℕ) (m : Monomial Symbol) → IsUnder cmp n l s → MonomialIn (IsUnder cmp n l) m → MonomialIn (IsUnder cmp n l) (once_less s e m)
    less_under s e m h k = in_once_less cmp (IsUnder cmp n l) s e m h k

    derivative_under : (v : ℕ) (s : Operator) → IsUnder cmp n l (Derivative v s) → IsUnder cmp n w (raised_symbol i (Derivative v s))
    derivative_under v s (h, inl e) = (length_raised i s.counts n h within, inl (ranking.raising_keeps i v u s t (h ∙ sym regular) ∙ e))
    derivative_under v s (h, inr e) = (length_raised i s.counts n h within, inr (ap (raised_symbol i) e))

    free_linear : (m : Monomial Symbol) → MonomialIn (IsUnder cmp n l) m → IsLinear m
    free_linear m h = let z : exponent cmp w m ≡ 0 = exponent_free ranking.order w m (under_free m h) in (all_under m h, omega arith)

    linear_symbol : (s : Symbol) (m : Monomial Symbol) (c : ℤ) → IsUnder cmp n l s → MonomialIn (IsUnder cmp n l) m → EachMonomial IsLinear (times_rate cmp (symbol_rate i s) m c)
    unfolding symbol_rate
    linear_symbol (Independent j) m c h k = elim (i == j) as (λ b. EachMonomial IsLinear (times_rate cmp (cond b unit constant) m c)) [ true ↦ (free_linear m k, tt) | false ↦ tt ]
    linear_symbol (Derivative v s) m c h k =
        let z : exponent cmp w m ≡ 0 = exponent_free ranking.order w m (under_free m k) in
        let x : Symbol = raised_symbol i (Derivative v s) in
        let y : exponent cmp w (with_power cmp x 1 m) ≤ 1 + exponent cmp w m = exponent_put ranking.order w x 1 m in
        ((in_with_power cmp (IsUnder cmp n w) x 1 m (derivative_under v s h) (all_under m k), omega arith), tt)

    linear_each : (s : Symbol) (e : ℕ) (ts : Contributions Symbol) → IsUnder cmp n l s → EachMonomial IsLinear ts → EachMonomial IsLinear (each_with_power cmp s e ts)
    linear_each s e [] h k = tt
    linear_each s e (t ∷ ts) h k = ((in_with_power cmp (IsUnder cmp n w) s e t.0 (raised_under s h) k.0.0, subst (λ x. x ≤ 1) (sym (exponent_below ranking.order w s e t.0 (under_low s h))) k.0.1), linear_each s e ts h k.1)

    linear_term : (m : Monomial Symbol) (c : ℤ) → MonomialIn (IsUnder cmp n l) m → EachMonomial IsLinear (term_derivative cmp (symbol_rate i) m c)
    linear_term [] c h = tt
    linear_term (p ∷ m) c h =
        each-append cmp IsLinear (times_rate cmp (symbol_rate i p.0) (once_less p.0 p.1 m) (c *ℤ pos p.1)) (each_with_power cmp p.0 p.1 (term_derivative cmp (symbol_rate i) m c))
        (linear_symbol p.0 (once_less p.0 p.1 m) (c *ℤ pos p.1) h.0 (less_under p.0 p.1 m h.0 h.1)) (linear_each p.0 p.1 (term_derivative cmp (symbol_rate i) m c) h.0 (linear_term m c h.1))

    linear_terms : (q : Polynomial Symbol) → PolynomialIn (IsUnder cmp n l) q → EachMonomial IsLinear (derivative_contributions cmp (symbol_rate i) q)
    linear_terms [] h = tt
    linear_terms (p ∷ q) h = each-append cmp IsLinear (term_derivative cmp (symbol_rate i) p.0 p.1) (derivative_contributions cmp (symbol_rate i) q) (linear_term p.0 p.1 h.0) (linear_terms q h.1)

    pub derivation_linear : (q : Polynomial Symbol) → PolynomialIn (IsUnder cmp n l) q → EachMonomial IsLinear (collect (monomial_cmp cmp) (derivative_contributions cmp (symbol_rate i) q))
    derivation_linear q h = each_collect cmp IsLinear (derivative_contributions cmp (symbol_rate i) q) (linear_terms q h)
