-- The contributions of a derivation whose rates come from two lists.
use Rattle.std.proofs.Common.{◌≡◌, ◌⊎◌, inl, inr, ◌∙◌, ℕ, [], ◌∷◌, ◌++◌, ℤ, pos, ◌*ℤ◌, Option, Some, None, refl, sym, ap, ap₂}
use Rattle.std.specs.declared.cmp.Ordering.{Ordering}
use Rattle.std.specs.Ordering.{match_ordering}
use Rattle.dz_algebra.specs.Amount.{Amount, amount, amounts, add_amounts, gathered}
use Rattle.dz_algebra.specs.Derivation.{Rate, constant, once_less, times_rate, each_with_power, term_derivative, derivative_contributions}
use Rattle.dz_algebra.specs.Gather.{joined, landed}
use Rattle.dz_algebra.specs.Monomial.{Monomial, monomial_cmp, with_power}
use Rattle.dz_algebra.specs.Order.{IsOrder}
use Rattle.dz_algebra.specs.Polynomial.{Polynomial, Contributions}
use Rattle.dz_algebra.proofs.OperationOrder.{amounts_associate, joined_swaps}
use Rattle.dz_algebra.proofs.Operations.{monomial_order}
use Rattle.dz_algebra.proofs.SameAmounts.{joined_associates, same_gathered}

-- what is joined in pairs may be joined in other pairs
pairs_joined : (a b c d : Option Amount) → joined add_amounts (joined add_amounts a b) (joined add_amounts c d) ≡ joined add_amounts (joined add_amounts a c) (joined add_amounts b d)
pairs_joined a b c d =
    joined_associates add_amounts amounts_associate a b (joined add_amounts c d)
    ∙ ap (joined add_amounts a) (joined_swaps b c d)
    ∙ sym (joined_associates add_amounts amounts_associate a c (joined add_amounts b d))

-- nothing joins nothing
joined_none : (x : Option Amount) → joined add_amounts x None ≡ x
joined_none None = refl
joined_none (Some a) = refl

-- each symbol has its rate from one of two derivations, and the other makes zero of it
abbrev pub Splits : {S : Type 0} → (S → Rate S) → (S → Rate S) → (S → Rate S) → Type 0
Splits {S} f g h = (s : S) → ((f s ≡ constant) × (g s ≡ h s)) ⊎ ((g s ≡ constant) × (f s ≡ h s))

-- what lands where a test of monomials finds them equal
abbrev landing : {S : Type 0} → (Monomial S → Ordering) → Contributions S → Option Amount
landing test [] = None
landing test (t ∷ ts) = joined add_amounts (match_ordering (test t.0) None (Some (amount t.1)) None) (landing test ts)

module _ {S : Type 0} (cmp : S → S → Ordering) where
  -- what two lists land joins
  landing-append : (test : Monomial S → Ordering) (ts us : Contributions S) → landing test (ts ++ us) ≡ joined add_amounts (landing test ts) (landing test us)
  landing-append test [] us = refl
  landing-append test (t ∷ ts) us =
      ap (joined add_amounts (match_ordering (test t.0) None (Some (amount t.1)) None)) (landing-append test ts us)
      ∙ sym (joined_associates add_amounts amounts_associate (match_ordering (test t.0) None (Some (amount t.1)) None) (landing test ts) (landing test us))

  -- contributions times a power land where the test of products with it finds them equal
  landing_each : (test : Monomial S → Ordering) (s : S) (e : ℕ) (ts : Contributions S) → landing test (each_with_power cmp s e ts) ≡ landing (λ m. test (with_power cmp s e m)) ts
  landing_each test s e [] = refl
  landing_each test s e (t ∷ ts) = ap (joined add_amounts (match_ordering (test (with_power cmp s e t.0)) None (Some (amount t.1)) None)) (landing_each test s e ts)

  -- what lands at a monomial
  landed_is : (k : Monomial S) (ts : Contributions S) → landed (monomial_cmp cmp) add_amounts k (amounts ts) ≡ landing (monomial_cmp cmp k) ts
  landed_is k [] = refl
  landed_is k (t ∷ ts) = ap (joined add_amounts (match_ordering (monomial_cmp cmp k t.0) None (Some (amount t.1)) None)) (landed_is k ts)

  module _ (f g h : S → Rate S) (splits : Splits f g h) where
    -- one symbol
    at_symbol : (test : Monomial S → Ordering) (s : S) (m : Monomial S) (c : ℤ) → joined add_amounts (landing test (times_rate cmp (f s) m c)) (landing test (times_rate cmp (g s) m c)) ≡ landing test (times_rate cmp (h s) m c)
    at_symbol test s m c = by_side (splits s)
      where
        by_side : ((f s ≡ constant) × (g s ≡ h s)) ⊎ ((g s ≡ constant) × (f s ≡ h s)) → joined add_amounts (landing test (times_rate cmp (f s) m c)) (landing test (times_rate cmp (g s) m c)) ≡ landing test (times_rate cmp (h s) m c)
        by_side (inl e) = ap₂ (λ x y. joined add_amounts (landing test (times_rate cmp x m c)) (landing test (times_rate cmp y m c))) e.0 e.1
        by_side (inr e) = ap₂ (λ x y. joined add_amounts (landing test (times_rate cmp x m c)) (landing test (times_rate cmp y m c))) e.1 e.0 ∙ joined_none (landing test (times_rate cmp (h s) m c))

    -- one term
    at_term : (test : Monomial S → Ordering) (m : Monomial S) (c : ℤ) → joined add_amounts (landing test (term_derivative cmp f m c)) (landing test (term_derivative cmp g m c)) ≡ landing test (term_derivative cmp h m c)
    at_term test [] c = refl
    at_term test (p ∷ m) c =
        let k : Monomial S = once_less p.0 p.1 m in
        let d : ℤ = c *ℤ pos p.1 in
        ap₂ (joined add_amounts) (parts f) (parts g)
        ∙ pairs_joined (landing test (times_rate cmp (f p.0) k d)) (landing (λ n. test (with_power cmp p.0 p.1 n)) (term_derivative cmp f m c)) (landing test (times_rate cmp (g p.0) k d)) (landing (λ n. test (with_power cmp p.0 p.1 n)) (term_derivative cmp g m c))
        ∙ ap₂ (joined add_amounts) (at_symbol test p.0 k d) (at_term (λ n. test (with_power cmp p.0 p.1 n)) m c)
        ∙ sym (parts h)
      where
        parts : (x : S → Rate S) → landing test (term_derivative cmp x (p ∷ m) c) ≡ joined add_amounts (landing test (times_rate cmp (x p.0) (once_less p.0 p.1 m) (c *ℤ pos p.1))) (landing (λ n. test (with_power cmp p.0 p.1 n)) (term_derivative cmp x m c))
        parts x =
            landing-append test (times_rate cmp (x p.0) (once_less p.0 p.1 m) (c *ℤ pos p.1)) (each_with_power cmp p.0 p.1 (term_derivative cmp x m c))
            ∙ ap (joined add_amounts (landing test (times_rate cmp (x p.0) (once_less p.0 p.1 m) (c *ℤ pos p.1)))) (landing_each test p.0 p.1 (term_derivative cmp x m c))

    -- all terms
    at_terms : (test : Monomial S → Ordering) (p : Polynomial S) → joined add_amounts (landing test (derivative_contributions cmp f p)) (landing test (derivative_contributions cmp g p)) ≡ landing test (derivative_contributions cmp h p)
    at_terms test [] = refl
    at_terms test (t ∷ p) =
        ap₂ (joined add_amounts) (landing-append test (term_derivative cmp f t.0 t.1) (derivative_contributions cmp f p)) (landing-append test (term_derivative cmp g t.0 t.1) (derivative_contributions cmp g p))
        ∙ pairs_joined (landing test (term_derivative cmp f t.0 t.1)) (landing test (derivative_contributions cmp f p)) (landing test (term_derivative cmp g t.0 t.1)) (landing test (derivative_contributions cmp g p))
        ∙ ap₂ (joined add_amounts) (at_term test t.0 t.1) (at_terms test p)
        ∙ sym (landing-append test (term_derivative cmp h t.0 t.1) (derivative_contributions cmp h p))

-- the contributions of both derivations make what those of the whole one do
pub gathered_splits : {S : Type 0} {cmp : S → S → Ordering} → IsOrder cmp → (f g h : S → Rate S) → Splits f g h → (p : Polynomial S) → gathered cmp (derivative_contributions cmp f p ++ derivative_contributions cmp g p) ≡ gathered cmp (derivative_contributions cmp h p)
gathered_splits {S} {cmp} order f g h splits p =
    same_gathered add_amounts amounts_associate (monomial_order order) (amounts (derivative_contributions cmp f p ++ derivative_contributions cmp g p)) (amounts (derivative_contributions cmp h p))
    (λ k.
    landed_is cmp k (derivative_contributions cmp f p ++ derivative_contributions cmp g p)
    ∙ landing-append cmp (monomial_cmp cmp k) (derivative_contributions cmp f p) (derivative_contributions cmp g p)
    ∙ at_terms cmp f g h splits (monomial_cmp cmp k) p
    ∙ sym (landed_is cmp k (derivative_contributions cmp h p)))
