-- What the operation with given contributions answers: the polynomial that they make, canonical, or a refusal.
use Rattle.std.specs.Prelude.{Ok, Err, ◌↔◌, IsTrue}
use Rattle.std.proofs.Common.{◌≡◌, Bool, true, false, cond, List, [], ◌∷◌, ◌++◌, ℤ, zero, suc, pos, negsuc, ◌+ℤ◌, subst, Option, Some, None, refl, sym, ap, ◌∙◌, arith}
use Rattle.std.proofs.lemmas.Int.{ints}
use Rattle.std.specs.declared.cmp.Ordering.{Ordering}
use Rattle.std.specs.declared.cmp.Ordering.TheVariants.{Less, Equal, Greater}
use Rattle.std.specs.Ordering.{match_ordering}
use Rattle.dz_algebra.specs.Whole.{whole_is_zero}
use Rattle.dz_algebra.specs.Order.{IsOrder, IsAbove, IsFalling}
use Rattle.dz_algebra.specs.Monomial.{Monomial, monomial_cmp}
use Rattle.dz_algebra.specs.Polynomial.{Polynomial, Contributions, IsPolynomial, AreMonomials, keep, add_term, collect, pairs}
use Rattle.dz_algebra.specs.Gather.{put, onto}
use Rattle.dz_algebra.specs.Amount.{Amount, amount, amounts, add_amounts, gathered, nonzero}
use Rattle.dz_algebra.specs.Symbols.{Symbols}
use Rattle.dz_algebra.specs.Size.{IsSmall, wide, large, limit_of, refused, refusal, unless, operation, support, fits}
use Rattle.dz_algebra.specs.declared.Limit.{Limit}
use Rattle.dz_algebra.proofs.Gathers.{falling_onto, merge_puts}
use Rattle.dz_algebra.proofs.Orders.{same_monomial, monomial_cmp_total, greater_trans}
use Rattle.dz_algebra.proofs.Canonical.{collect_is}

module _ {S : Type 0} {cmp : S → S → Ordering} (order : IsOrder cmp) where
  abbrev by : Monomial S → Monomial S → Ordering
  by = monomial_cmp cmp

  -- the order of monomials, as an order of keys
  pub monomial_order : IsOrder (monomial_cmp cmp)
  monomial_order = record { total = monomial_cmp_total order; same = same_monomial order }

  is_zero : (c : ℤ) → whole_is_zero c ≡ true → c ≡ pos 0
  is_zero (pos zero) e = refl
  is_zero (pos (suc k)) e = cc
  is_zero (negsuc k) e = cc

  added : (a b : ℤ) → b ≡ pos 0 → a +ℤ b ≡ a
  added a b e = omega (arith, ints)

  above_more' : (m n : Monomial S) (p : Polynomial S) → by m n ≡ Greater → IsAbove by n p → IsAbove by m p
  above_more' m n [] h a = tt
  above_more' m n (t ∷ p) h a = (greater_trans (monomial_cmp_total order) m n t.0 h a.0, above_more' m n p h a.1)

  add_above : (m : Monomial S) (c : ℤ) (p : Polynomial S) → IsAbove by m p → add_term by m c p ≡ keep m c p
  add_above m c [] a = refl
  add_above m c (t ∷ p) a = ap (λ o. match_ordering o (t ∷ add_term by m c p) (keep m (c +ℤ t.1) p) (keep m c (t ∷ p))) a.0

  above_nonzero : (m : Monomial S) (g : List (Monomial S × Amount)) → IsAbove by m g → IsAbove by m (nonzero g)
  above_nonzero m [] a = tt
  above_nonzero m (t ∷ g) a = elim (whole_is_zero t.1.total) as (λ b. IsAbove by m (cond b (nonzero g) ((t.0, t.1.total) ∷ nonzero g))) [ true ↦ above_nonzero m g a.1 | false ↦ (a.0, above_nonzero m g a.1) ]

  nonzero_put : (m : Monomial S) (a : Amount) (g : List (Monomial S × Amount)) → IsFalling by g → nonzero (put by add_amounts m a g) ≡ add_term by m a.total (nonzero g)
  nonzero_put m a [] f = refl
  nonzero_put m a (t ∷ g) f =
      elim (by m t.0) as (λ o. by m t.0 ≡ o → nonzero (match_ordering o (t ∷ put by add_amounts m a g) ((t.0, add_amounts a t.1) ∷ g) ((m, a) ∷ t ∷ g)) ≡ add_term by m a.total (keep t.0 t.1.total (nonzero g))) [
        | Less ↦ λ e. ap (keep t.0 t.1.total) (nonzero_put m a g f.1) ∙ less e (whole_is_zero t.1.total)
        | Equal ↦ λ e. let k = same_monomial order m t.0 e in ap (λ n. keep n (a.total +ℤ t.1.total) (nonzero g)) (sym k) ∙ equal e (subst (λ n. IsAbove by n (nonzero g)) (sym k) (above_nonzero t.0 g f.0)) (whole_is_zero t.1.total) (λ z. z)
        | Greater ↦ λ e. greater e (above_more' m t.0 (nonzero g) e (above_nonzero t.0 g f.0)) (whole_is_zero t.1.total)
      ] refl
    where
      p : Polynomial S
      p = nonzero g

      less : by m t.0 ≡ Less → (b : Bool) → cond b (add_term by m a.total p) ((t.0, t.1.total) ∷ add_term by m a.total p) ≡ add_term by m a.total (cond b p ((t.0, t.1.total) ∷ p))
      less e true = refl
      less e false = sym (ap (λ o. match_ordering o ((t.0, t.1.total) ∷ add_term by m a.total p) (keep m (a.total +ℤ t.1.total) p) (keep m a.total ((t.0, t.1.total) ∷ p))) e)

      equal : by m t.0 ≡ Equal → IsAbove by m p → (b : Bool) → (b ≡ true → whole_is_zero t.1.total ≡ true) → keep m (a.total +ℤ t.1.total) p ≡ add_term by m a.total (cond b p ((t.0, t.1.total) ∷ p))
      equal e h true z = ap (λ x. keep m x p) (added a.total t.1.total (is_zero t.1.total (z refl))) ∙ sym (add_above m a.total p h)
      equal e h false z = sym (ap (λ o. match_ordering o ((t.0, t.1.total) ∷ add_term by m a.total p) (keep m (a.total +ℤ t.1.total) p) (keep m a.total ((t.0, t.1.total) ∷ p))) e)

      greater : by m t.0 ≡ Greater → IsAbove by m p → (b : Bool) → keep m a.total (cond b p ((t.0, t.1.total) ∷ p)) ≡ add_term by m a.total (cond b p ((t.0, t.1.total) ∷ p))
      greater e h true = sym (add_above m a.total p h)
      greater e h false = sym (ap (λ o. match_ordering o ((t.0, t.1.total) ∷ add_term by m a.total p) (keep m (a.total +ℤ t.1.total) p) (keep m a.total ((t.0, t.1.total) ∷ p))) e)

  -- the amounts of contributions make the polynomial of the contributions
  pub nonzero_gathered : (ts : Contributions S) → nonzero (gathered cmp ts) ≡ collect by ts
  nonzero_gathered [] = refl
  nonzero_gathered (t ∷ ts) = nonzero_put t.0 (amount t.1) (gathered cmp ts) (falling_onto monomial_order add_amounts (amounts ts) [] tt) ∙ ap (add_term by t.0 t.1) (nonzero_gathered ts)

  above_amounts : (m : Monomial S) (p : Polynomial S) → IsAbove by m p → IsAbove by m (amounts p)
  above_amounts m [] a = tt
  above_amounts m (t ∷ p) a = (a.0, above_amounts m p a.1)

  -- the amounts of a polynomial fall
  pub falling_amounts : (p : Polynomial S) → IsPolynomial cmp p → IsFalling by (amounts p)
  falling_amounts [] h = tt
  falling_amounts (t ∷ p) h = (above_amounts t.0 p h.2, falling_amounts p h.3)

  -- of a polynomial, each term is one amount
  pub gathered_polynomial : (p : Polynomial S) → IsPolynomial cmp p → gathered cmp p ≡ amounts p
  gathered_polynomial p h = sym (merge_puts monomial_order add_amounts [] (amounts p) tt (falling_amounts p h))

  -- the amounts of contributions fall
  pub falling_gathered : (ts : Contributions S) → IsFalling by (gathered cmp ts)
  falling_gathered ts = falling_onto monomial_order add_amounts (amounts ts) [] tt

  -- contributions are put one after the other
  pub onto-append : (rs ss ts : List (Monomial S × Amount)) → onto by add_amounts (rs ++ ss) ts ≡ onto by add_amounts rs (onto by add_amounts ss ts)
  onto-append [] ss ts = refl
  onto-append (r ∷ rs) ss ts = ap (put by add_amounts r.0 r.1) (onto-append rs ss ts)

  -- the amounts of two lists of contributions
  pub amounts-append : (p q : Contributions S) → amounts (p ++ q) ≡ amounts p ++ amounts q
  amounts-append [] q = refl
  amounts-append (t ∷ p) q = ap (λ l. (t.0, amount t.1) ∷ l) (amounts-append p q)

-- an answer that is a value is the value
pub unless_is : {A E : Type 0} (e : Option E) (a b : A) → unless e a ≡ Ok b → a ≡ b
unless_is None a b h = cc
unless_is (Some e) a b h = cc

-- the answer of an operation is what its contributions make
pub operation_is : {S : Type 0} (g : Symbols S) (ts : Contributions S) (p : Polynomial S) → operation g ts ≡ Ok p → collect (monomial_cmp g.cmp) ts ≡ p
unfolding operation
operation_is g ts p e = unless_is (refusal g ts) (collect (monomial_cmp g.cmp) ts) p e

-- and is canonical
pub operation_canonical : {S : Type 0} (g : Symbols S) → IsOrder g.cmp → (ts : Contributions S) → AreMonomials g.cmp ts → (p : Polynomial S) → operation g ts ≡ Ok p → IsPolynomial g.cmp p
operation_canonical g order ts h p e = subst (IsPolynomial g.cmp) (operation_is g ts p e) (collect_is order ts h)

-- without contributions nothing is refused
pub operation_nothing : {S : Type 0} (g : Symbols S) → operation g [] ≡ Ok []
unfolding operation refusal support fits
operation_nothing g = refl

pairs_zero : {S : Type 0} (cmp : S → S → Ordering) (p : Polynomial S) → pairs cmp p [] ≡ []
pairs_zero cmp [] = refl
pairs_zero cmp (t ∷ p) = pairs_zero cmp p

-- a product with zero is never refused
pub product_left_zero : {S : Type 0} (g : Symbols S) (p : Polynomial S) → operation g (pairs g.cmp [] p) ≡ Ok []
product_left_zero g p = operation_nothing g

-- from either side
pub product_right_zero : {S : Type 0} (g : Symbols S) (p : Polynomial S) → operation g (pairs g.cmp p []) ≡ Ok []
product_right_zero g p = ap (operation g) (pairs_zero g.cmp p) ∙ operation_nothing g

-- ---- when an operation is refused
small_fits : {S : Type 0} (l : Option Limit) (b : Bool) (p : Polynomial S) → l ≡ None → b ≡ true → unless (refused l b) p ≡ Ok p
small_fits None true p e f = refl
small_fits None false p e f = cc
small_fits (Some l) b p e f = cc

-- what is small and fits is not refused
pub operation_ok : {S : Type 0} (g : Symbols S) (ts : Contributions S) → IsSmall g ts → IsTrue (fits g.cmp ts) → operation g ts ≡ Ok (collect (monomial_cmp g.cmp) ts)
unfolding operation refusal
operation_ok g ts e f = small_fits (limit_of g (support g.cmp ts)) (fits g.cmp ts) (collect (monomial_cmp g.cmp) ts) e f

large_there : {S : Type 0} (l : Option Limit) (b : Bool) (p : Polynomial S) (k : Limit) → (unless (refused l b) p ≡ Err (large k)) ↔ (l ≡ Some k)
large_there None true p k = (λ e. cc, λ e. cc)
large_there None false p k = (λ e. cc, λ e. cc)
large_there (Some l) b p k = (λ e. cc, λ e. cc)

-- an operation is large exactly where a limit is passed, and names the first
pub operation_large : {S : Type 0} (g : Symbols S) (ts : Contributions S) (k : Limit) → (operation g ts ≡ Err (large k)) ↔ (limit_of g (support g.cmp ts) ≡ Some k)
unfolding operation refusal
operation_large g ts k = large_there (limit_of g (support g.cmp ts)) (fits g.cmp ts) (collect (monomial_cmp g.cmp) ts) k

wide_there : {S : Type 0} (l : Option Limit) (b : Bool) (p : Polynomial S) → (unless (refused l b) p ≡ Err wide) ↔ ((l ≡ None) × (b ≡ false))
wide_there None true p = (λ e. cc, λ e. let f = e.1 in cc)
wide_there None false p = (λ e. (refl, refl), λ e. refl)
wide_there (Some l) b p = (λ e. cc, λ e. let f = e.0 in cc)

-- an operation is wide exactly where it is small and does not fit
pub operation_wide : {S : Type 0} (g : Symbols S) (ts : Contributions S) → (operation g ts ≡ Err wide) ↔ (IsSmall g ts × (fits g.cmp ts ≡ false))
unfolding operation refusal
operation_wide g ts = wide_there (limit_of g (support g.cmp ts)) (fits g.cmp ts) (collect (monomial_cmp g.cmp) ts)
