-- An operation depends only on what lands at each monomial: not on the order of its contributions, nor of its factors.
use Rattle.std.proofs.Common.{◌≡◌, ◌+◌, [], ◌∷◌, ◌++◌, map, ℤ, ◌*ℤ◌, Option, Some, None, refl, sym, ap, ap₂, ◌∙◌, arith}
use Rattle.std.specs.Ordering.{match_ordering}
use Rattle.dz_algebra.specs.Whole.{whole_ring}
use Rattle.dz_algebra.specs.Order.{IsOrder}
use Rattle.dz_algebra.specs.Monomial.{Monomial, IsMonomial, monomial_cmp, monomial_product}
use Rattle.dz_algebra.specs.Polynomial.{Polynomial, Contributions, IsPolynomial, AreMonomials, term_times, pairs}
use Rattle.dz_algebra.specs.Gather.{joined, landed}
use Rattle.dz_algebra.specs.Amount.{Amount, amount, amounts, add_amounts, gathered, nonzero, amounts_fit}
use Rattle.dz_algebra.specs.Symbols.{Symbols}
use Rattle.dz_algebra.specs.Size.{refusal, refused, unless, operation, support, fits, limit_of}
use Rattle.dz_algebra.proofs.Monomials.{product_commutes}
use Rattle.dz_algebra.proofs.Canonical.{are_monomials}
use Rattle.dz_algebra.proofs.Operations.{monomial_order, nonzero_gathered, amounts-append}
use Rattle.dz_algebra.proofs.SameAmounts.{joined_associates, landed-append, same_gathered}

-- sums of amounts associate
pub amounts_associate : (a b c : Amount) → add_amounts (add_amounts a b) c ≡ add_amounts a (add_amounts b c)
amounts_associate a b c =
    let e : (a.majorant + b.majorant) + c.majorant ≡ a.majorant + (b.majorant + c.majorant) = omega arith in
    ap₂ (λ t m. record { total = t; majorant = m }) (whole_ring.sum_associates a.total b.total c.total) e

amounts_commute : (a b : Amount) → add_amounts a b ≡ add_amounts b a
amounts_commute a b =
    let e : a.majorant + b.majorant ≡ b.majorant + a.majorant = omega arith in
    ap₂ (λ t m. record { total = t; majorant = m }) (whole_ring.sum_commutes a.total b.total) e

joined_commutes : (x y : Option Amount) → joined add_amounts x y ≡ joined add_amounts y x
joined_commutes None None = refl
joined_commutes None (Some b) = refl
joined_commutes (Some a) None = refl
joined_commutes (Some a) (Some b) = ap Some (amounts_commute a b)

-- what is joined may change places
pub joined_swaps : (x y z : Option Amount) → joined add_amounts x (joined add_amounts y z) ≡ joined add_amounts y (joined add_amounts x z)
joined_swaps x y z =
    sym (joined_associates add_amounts amounts_associate x y z)
    ∙ ap (λ w. joined add_amounts w z) (joined_commutes x y)
    ∙ joined_associates add_amounts amounts_associate y x z

-- the same amounts make the same answer
same_answer : {S : Type 0} (g : Symbols S) → IsOrder g.cmp → (ts us : Contributions S) → gathered g.cmp ts ≡ gathered g.cmp us → operation g ts ≡ operation g us
unfolding operation refusal support fits
same_answer g order ts us e =
    ap₂ (λ G p. unless (refused (limit_of g (map (λ t. t.0) G)) (amounts_fit G)) p) e
    (sym (nonzero_gathered order ts) ∙ ap nonzero e ∙ nonzero_gathered order us)

-- what lands at each monomial decides the answer
pub same_operation : {S : Type 0} (g : Symbols S) → IsOrder g.cmp → (ts us : Contributions S) → ((n : Monomial S) → landed (monomial_cmp g.cmp) add_amounts n (amounts ts) ≡ landed (monomial_cmp g.cmp) add_amounts n (amounts us)) → operation g ts ≡ operation g us
same_operation g order ts us e = same_answer g order ts us (same_gathered add_amounts amounts_associate (monomial_order order) (amounts ts) (amounts us) e)

module _ {S : Type 0} (g : Symbols S) (order : IsOrder g.cmp) where
  abbrev at : Monomial S → Contributions S → Option Amount
  at n ts = landed (monomial_cmp g.cmp) add_amounts n (amounts ts)

  at-append : (n : Monomial S) (ts us : Contributions S) → at n (ts ++ us) ≡ joined add_amounts (at n ts) (at n us)
  at-append n ts us = ap (landed (monomial_cmp g.cmp) add_amounts n) (amounts-append order ts us) ∙ landed-append add_amounts amounts_associate (monomial_cmp g.cmp) n (amounts ts) (amounts us)

  -- contributions may change places
  pub parts_swap : (ts us : Contributions S) → operation g (ts ++ us) ≡ operation g (us ++ ts)
  parts_swap ts us = same_operation g order (ts ++ us) (us ++ ts) (λ n. at-append n ts us ∙ joined_commutes (at n ts) (at n us) ∙ sym (at-append n us ts))

  abbrev one_at : Monomial S → Monomial S → ℤ → Option Amount
  one_at n m c = match_ordering (monomial_cmp g.cmp n m) None (Some (amount c)) None

  -- the pairs with one more term in the second factor
  column : (n : Monomial S) (t : Monomial S × ℤ) (p q : Polynomial S) → IsMonomial g.cmp t.0 → AreMonomials g.cmp p → at n (pairs g.cmp p (t ∷ q)) ≡ joined add_amounts (at n (term_times g.cmp t.0 t.1 p)) (at n (pairs g.cmp p q))
  column n t [] q h k = refl
  column n t (u ∷ p) q h k =
      let first = one_at n (monomial_product g.cmp u.0 t.0) (u.1 *ℤ t.1) in
      let turned : first ≡ one_at n (monomial_product g.cmp t.0 u.0) (t.1 *ℤ u.1) = ap₂ (one_at n) (product_commutes order u.0 t.0 k.0 h) (whole_ring.product_commutes u.1 t.1) in
      at-append n (term_times g.cmp u.0 u.1 (t ∷ q)) (pairs g.cmp p (t ∷ q))
      ∙ joined_associates add_amounts amounts_associate first (at n (term_times g.cmp u.0 u.1 q)) (at n (pairs g.cmp p (t ∷ q)))
      ∙ ap₂ (λ x y. joined add_amounts x (joined add_amounts (at n (term_times g.cmp u.0 u.1 q)) y)) turned (column n t p q h k.1)
      ∙ ap (joined add_amounts (one_at n (monomial_product g.cmp t.0 u.0) (t.1 *ℤ u.1))) (joined_swaps (at n (term_times g.cmp u.0 u.1 q)) (at n (term_times g.cmp t.0 t.1 p)) (at n (pairs g.cmp p q)) ∙ ap (joined add_amounts (at n (term_times g.cmp t.0 t.1 p))) (sym (at-append n (term_times g.cmp u.0 u.1 q) (pairs g.cmp p q))))
      ∙ sym (joined_associates add_amounts amounts_associate (one_at n (monomial_product g.cmp t.0 u.0) (t.1 *ℤ u.1)) (at n (term_times g.cmp t.0 t.1 p)) (at n (pairs g.cmp (u ∷ p) q)))

  no_pairs : (n : Monomial S) (p : Polynomial S) → at n (pairs g.cmp p []) ≡ None
  no_pairs n [] = refl
  no_pairs n (u ∷ p) = no_pairs n p

  pairs_swap : (n : Monomial S) (p q : Polynomial S) → AreMonomials g.cmp p → AreMonomials g.cmp q → at n (pairs g.cmp p q) ≡ at n (pairs g.cmp q p)
  pairs_swap n p [] h k = no_pairs n p
  pairs_swap n p (t ∷ q) h k =
      column n t p q k.0 h ∙ ap (joined add_amounts (at n (term_times g.cmp t.0 t.1 p))) (pairs_swap n p q h k.1)
      ∙ sym (at-append n (term_times g.cmp t.0 t.1 p) (pairs g.cmp q p))

  -- a product answers the same with its factors in the other order
  pub factors_swap : (p q : Polynomial S) → IsPolynomial g.cmp p → IsPolynomial g.cmp q → operation g (pairs g.cmp p q) ≡ operation g (pairs g.cmp q p)
  factors_swap p q h k = same_operation g order (pairs g.cmp p q) (pairs g.cmp q p) (λ n. pairs_swap n p q (are_monomials order p h) (are_monomials order q k))
