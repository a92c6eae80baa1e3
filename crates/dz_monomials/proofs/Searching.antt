-- The place of a monomial among the terms of a polynomial.
use Rattle.std.proofs.Common.{◌≡◌, ◌<◌, ◌∙◌, sym, ap, subst, ℕ, zero, suc, ◌+◌, ◌-◌, ◌/◌, [], ◌∷◌, length, take, drop, get_or, ℤ, arith}
use Rattle.std.specs.declared.cmp.Ordering.{Ordering}
use Rattle.std.specs.declared.cmp.Ordering.TheVariants.{Less, Equal, Greater}
use Rattle.dz_algebra.specs.Order.{IsOrder, IsAbove}
use Rattle.dz_algebra.specs.Monomial.{Monomial, monomial_cmp}
use Rattle.dz_algebra.specs.Polynomial.{Polynomial, IsPolynomial}
use Rattle.dz_algebra.proofs.Orders.{greater_reversed, greater_trans, less_reversed, monomial_cmp_total, same_monomial}
use Rattle.dz_rank.specs.Rankings.{RankingValue, ranking_cmp}
use Rattle.dz_rank.specs.declared.symbols.Symbol.{Symbol}
use Rattle.dz_monomials.proofs.SymbolLaws.{ranking_order}
use Rattle.dz_monomials.specs.InPlace.{IsAt, IsBelow}

-- the middle lies before the end
pub middle_inside : (low high : ℕ) → low < high → low + (high - low) / 2 < high
middle_inside low high l = omega arith

module _ {S : Type 0} {cmp : S → S → Ordering} (order : IsOrder cmp) where
  abbrev by : Monomial S → Monomial S → Ordering
  by = monomial_cmp cmp

  -- greater passes on to all terms of a list
  above_more : (m n : Monomial S) (p : Polynomial S) → by m n ≡ Greater → IsAbove by n p → IsAbove by m p
  above_more m n [] h a = tt
  above_more m n (t ∷ p) h a = (greater_trans (monomial_cmp_total order) m n t.0 h a.0, above_more m n p h a.1)

  -- and to the one at a place
  above_get : (m : Monomial S) (d : Monomial S × ℤ) (i : ℕ) (p : Polynomial S) → i < length p → IsAbove by m p → by m (get_or p i d).0 ≡ Greater
  above_get m d i [] l a = absurd (omega arith)
  above_get m d zero (t ∷ p) l a = a.0
  above_get m d (suc i) (t ∷ p) l a = above_get m d i p (omega arith) a.1

  -- what is less than a term is less than every term up to it
  below_to : (m : Monomial S) (d : Monomial S × ℤ) (i : ℕ) (p : Polynomial S) → IsPolynomial cmp p → i < length p → by m (get_or p i d).0 ≡ Less → IsBelow by m (take (suc i) p)
  below_to m d i [] h l e = absurd (omega arith)
  below_to m d zero (t ∷ p) h l e = (e, tt)
  below_to m d (suc i) (t ∷ p) h l e =
      let total = monomial_cmp_total order in
      let n = (get_or p i d).0 in
      (less_reversed total t.0 m (greater_trans total t.0 n m (above_get t.0 d i p (omega arith) h.2) (greater_reversed total m n e)), below_to m d i p h.3 (omega arith) e)

  -- what is greater than a term is greater than every term from it on
  above_from : (m : Monomial S) (d : Monomial S × ℤ) (i : ℕ) (p : Polynomial S) → IsPolynomial cmp p → i < length p → by m (get_or p i d).0 ≡ Greater → IsAbove by m (drop i p)
  above_from m d i [] h l e = absurd (omega arith)
  above_from m d zero (t ∷ p) h l e = (e, above_more m t.0 p e h.2)
  above_from m d (suc i) (t ∷ p) h l e = above_from m d i p h.3 (omega arith) e

  -- what ties with a term is its monomial
  at_place : (m : Monomial S) (d : Monomial S × ℤ) (i : ℕ) (p : Polynomial S) → i < length p → by m (get_or p i d).0 ≡ Equal → IsAt m i p
  at_place m d i [] l e = absurd (omega arith)
  at_place m d zero (t ∷ p) l e = same_monomial order m t.0 e
  at_place m d (suc i) (t ∷ p) l e = at_place m d i p (omega arith) e

-- the search goes on behind a term that is greater
pub turn_less : (r : RankingValue) (m : Monomial Symbol) (t : Monomial Symbol × ℤ) (i : ℕ) (p : Polynomial Symbol) → IsPolynomial (ranking_cmp r) p → i < length p → t ≡ get_or p i t → monomial_cmp (ranking_cmp r) m t.0 ≡ Less → IsBelow (monomial_cmp (ranking_cmp r)) m (take (i + 1) p)
turn_less r m t i p h l e f =
    let next : suc i ≡ i + 1 = omega arith in
    subst (λ n. IsBelow (monomial_cmp (ranking_cmp r)) m (take n p)) next (below_to (ranking_order r) m t i p h l (ap (λ u. monomial_cmp (ranking_cmp r) m u.0) (sym e) ∙ f))

-- and before one that is less
pub turn_greater : (r : RankingValue) (m : Monomial Symbol) (t : Monomial Symbol × ℤ) (i : ℕ) (p : Polynomial Symbol) → IsPolynomial (ranking_cmp r) p → i < length p → t ≡ get_or p i t → monomial_cmp (ranking_cmp r) m t.0 ≡ Greater → IsAbove (monomial_cmp (ranking_cmp r)) m (drop i p)
turn_greater r m t i p h l e f = above_from (ranking_order r) m t i p h l (ap (λ u. monomial_cmp (ranking_cmp r) m u.0) (sym e) ∙ f)

-- it ends at a term that ties
pub turn_equal : (r : RankingValue) (m : Monomial Symbol) (t : Monomial Symbol × ℤ) (i : ℕ) (p : Polynomial Symbol) → i < length p → t ≡ get_or p i t → monomial_cmp (ranking_cmp r) m t.0 ≡ Equal → IsAt m i p
turn_equal r m t i p l e f = at_place (ranking_order r) m t i p l (ap (λ u. monomial_cmp (ranking_cmp r) m u.0) (sym e) ∙ f)
