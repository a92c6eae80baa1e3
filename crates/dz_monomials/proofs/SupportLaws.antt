-- The degrees of what is added up, and of what cancels.
use Rattle.std.proofs.Common.{◌≡◌, ◌≢◌, ◌+◌, ◌∙◌, ℕ, max, List, [], ◌∷◌, ◌++◌, length, ℤ, refl, sym, ap, ap₂, arith}
use Rattle.std.specs.declared.cmp.Ordering.{Ordering}
use Rattle.std.specs.declared.cmp.Ordering.TheVariants.{Less, Equal, Greater}
use Rattle.std.specs.Ordering.{match_ordering}
use Rattle.dz_algebra.specs.Gather.{put, onto, merge}
use Rattle.dz_algebra.specs.Order.{IsOrder, IsFalling}
use Rattle.dz_algebra.specs.Monomial.{Monomial, IsMonomial, monomial_cmp, monomial_product, exponent}
use Rattle.dz_algebra.specs.Polynomial.{Polynomial, Contributions, AreMonomials, term_times, pairs}
use Rattle.dz_algebra.specs.Parts.{degree}
use Rattle.dz_algebra.specs.Amount.{Amount, amount, add_amounts, gathered}
use Rattle.dz_algebra.specs.Symbols.{Symbols}
use Rattle.dz_algebra.specs.Size.{support, limit_of}
use Rattle.dz_algebra.proofs.Gathers.{merge_puts}
use Rattle.dz_algebra.proofs.Monomials.{same_exponents, product_is, exponent_product}
use Rattle.dz_algebra.proofs.Canonical.{monomials-append}
use Rattle.dz_algebra.proofs.Products.{monomials_pairs}
use Rattle.dz_algebra.proofs.Orders.{same_monomial}
use Rattle.dz_monomials.specs.Degrees.{degrees, limit_by}
use Rattle.dz_monomials.proofs.Multiples.{multiple_is, exponent_multiple, limit_of_degrees}

-- the monomials that stand at entries of a list
abbrev pub KeysAreMonomials : {S V : Type 0} → (S → S → Ordering) → List (Monomial S × V) → Type 0
KeysAreMonomials cmp [] = Unit {0}
KeysAreMonomials cmp (t ∷ ts) = IsMonomial cmp t.0 × KeysAreMonomials cmp ts

-- the greatest exponent of s
abbrev pub greatest_exponent : {S V : Type 0} → (S → S → Ordering) → S → List (Monomial S × V) → ℕ
greatest_exponent cmp s [] = 0
greatest_exponent cmp s (t ∷ ts) = max (exponent cmp s t.0) (greatest_exponent cmp s ts)

module _ {S : Type 0} {cmp : S → S → Ordering} (order : IsOrder cmp) where
  abbrev by : Monomial S → Monomial S → Ordering
  by = monomial_cmp cmp

  module _ {V : Type 0} where
    pub degrees_is : (ts : List (Monomial S × V)) → KeysAreMonomials cmp ts → IsMonomial cmp (degrees cmp ts)
    degrees_is [] h = tt
    degrees_is (t ∷ ts) h = multiple_is order t.0 (degrees cmp ts) h.0 (degrees_is ts h.1)

    pub exponent_degrees : (s : S) (ts : List (Monomial S × V)) → KeysAreMonomials cmp ts → exponent cmp s (degrees cmp ts) ≡ greatest_exponent cmp s ts
    exponent_degrees s [] h = refl
    exponent_degrees s (t ∷ ts) h = exponent_multiple order s t.0 (degrees cmp ts) h.0 (degrees_is ts h.1) ∙ ap (max (exponent cmp s t.0)) (exponent_degrees s ts h.1)

  -- a list with the same greatest exponents has the same degrees
  pub same_degrees : {V : Type 0} (ts : List (Monomial S × V)) (m : Monomial S) → KeysAreMonomials cmp ts → IsMonomial cmp m → ((s : S) → exponent cmp s m ≡ greatest_exponent cmp s ts) → m ≡ degrees cmp ts
  same_degrees ts m h i e = same_exponents order m (degrees cmp ts) i (degrees_is ts h) (λ s. e s ∙ sym (exponent_degrees s ts h))

  pub keys_monomials : (ts : Contributions S) → AreMonomials cmp ts → KeysAreMonomials cmp ts
  keys_monomials [] h = tt
  keys_monomials (t ∷ ts) h = (h.0, keys_monomials ts h.1)

  greatest_degree : (s : S) (ts : Contributions S) → greatest_exponent cmp s ts ≡ degree cmp s ts
  greatest_degree s [] = refl
  greatest_degree s (t ∷ ts) = ap (max (exponent cmp s t.0)) (greatest_degree s ts)

  -- the degree in s stands at s
  pub exponent_of_degrees : (s : S) (p : Contributions S) → AreMonomials cmp p → exponent cmp s (degrees cmp p) ≡ degree cmp s p
  exponent_of_degrees s p h = exponent_degrees s p (keys_monomials p h) ∙ greatest_degree s p

  pub degrees_monomial : (p : Contributions S) → AreMonomials cmp p → IsMonomial cmp (degrees cmp p)
  degrees_monomial p h = degrees_is p (keys_monomials p h)

  -- ---- what is gathered has the degrees of what is added up
  put_keys : (m : Monomial S) (a : Amount) (g : List (Monomial S × Amount)) → IsMonomial cmp m → KeysAreMonomials cmp g → KeysAreMonomials cmp (put by add_amounts m a g)
  put_keys m a [] i h = (i, tt)
  put_keys m a (t ∷ g) i h =
      elim (by m t.0) as (λ o. KeysAreMonomials cmp (match_ordering o (t ∷ put by add_amounts m a g) ((t.0, add_amounts a t.1) ∷ g) ((m, a) ∷ t ∷ g))) [
        | Less ↦ (h.0, put_keys m a g i h.1)
        | Equal ↦ h
        | Greater ↦ (i, h)
      ]

  put_greatest : (s : S) (m : Monomial S) (a : Amount) (g : List (Monomial S × Amount)) → greatest_exponent cmp s (put by add_amounts m a g) ≡ max (exponent cmp s m) (greatest_exponent cmp s g)
  put_greatest s m a [] = refl
  put_greatest s m a (t ∷ g) =
      elim (by m t.0) as (λ o. by m t.0 ≡ o → greatest_exponent cmp s (match_ordering o (t ∷ put by add_amounts m a g) ((t.0, add_amounts a t.1) ∷ g) ((m, a) ∷ t ∷ g)) ≡ max (exponent cmp s m) (max (exponent cmp s t.0) (greatest_exponent cmp s g))) [
        | Less ↦ λ e. ap (max (exponent cmp s t.0)) (put_greatest s m a g) ∙ swapped (exponent cmp s t.0) (exponent cmp s m) (greatest_exponent cmp s g)
        | Equal ↦ λ e. twice (exponent cmp s t.0) (greatest_exponent cmp s g) ∙ ap (λ n. max (exponent cmp s n) (max (exponent cmp s t.0) (greatest_exponent cmp s g))) (sym (same_monomial order m t.0 e))
        | Greater ↦ λ e. refl
      ] refl
    where
      swapped : (a b c : ℕ) → max a (max b c) ≡ max b (max a c)
      swapped a b c = omega arith

      twice : (a c : ℕ) → max a c ≡ max a (max a c)
      twice a c = omega arith

  pub gathered_keys : (ts : Contributions S) → AreMonomials cmp ts → KeysAreMonomials cmp (gathered cmp ts)
  gathered_keys [] h = tt
  gathered_keys (t ∷ ts) h = put_keys t.0 (amount t.1) (gathered cmp ts) h.0 (gathered_keys ts h.1)

  pub gathered_greatest : (s : S) (ts : Contributions S) → greatest_exponent cmp s (gathered cmp ts) ≡ greatest_exponent cmp s ts
  gathered_greatest s [] = refl
  gathered_greatest s (t ∷ ts) = put_greatest s t.0 (amount t.1) (gathered cmp ts) ∙ ap (max (exponent cmp s t.0)) (gathered_greatest s ts)

  pub degrees_gathered : (ts : Contributions S) → AreMonomials cmp ts → degrees cmp (gathered cmp ts) ≡ degrees cmp ts
  degrees_gathered ts h =
      same_degrees ts (degrees cmp (gathered cmp ts)) (keys_monomials ts h) (degrees_is (gathered cmp ts) (gathered_keys ts h))
      (λ s. exponent_degrees s (gathered cmp ts) (gathered_keys ts h) ∙ gathered_greatest s ts)

  -- ---- sums
  greatest-append : (s : S) (ts us : Contributions S) → greatest_exponent cmp s (ts ++ us) ≡ max (greatest_exponent cmp s ts) (greatest_exponent cmp s us)
  greatest-append s [] us = omega arith
  greatest-append s (t ∷ ts) us = ap (max (exponent cmp s t.0)) (greatest-append s ts us) ∙ grouped (exponent cmp s t.0) (greatest_exponent cmp s ts) (greatest_exponent cmp s us)
    where
      grouped : (a b c : ℕ) → max a (max b c) ≡ max (max a b) c
      grouped a b c = omega arith

  falling_monomial : (m : Monomial S) → IsMonomial cmp m → IsFalling cmp m
  falling_monomial [] h = tt
  falling_monomial (p ∷ m) h = (h.1, falling_monomial m h.2)

  -- one pass finds the least common multiple of both sides' degrees
  pub one_pass : (ts us : Contributions S) → AreMonomials cmp ts → AreMonomials cmp us → merge cmp max (degrees cmp us) (degrees cmp ts) ≡ onto cmp max (degrees cmp ts) (degrees cmp us)
  one_pass ts us h g = merge_puts order max (degrees cmp us) (degrees cmp ts) (falling_monomial (degrees cmp us) (degrees_monomial us g)) (falling_monomial (degrees cmp ts) (degrees_monomial ts h))

  -- the degrees of contributions from two sides are the least common multiple of both sides' degrees
  pub degrees_sum : (ts us : Contributions S) → AreMonomials cmp ts → AreMonomials cmp us → merge cmp max (degrees cmp us) (degrees cmp ts) ≡ degrees cmp (ts ++ us)
  degrees_sum ts us h g =
      let i = degrees_monomial ts h in
      let j = degrees_monomial us g in
      one_pass ts us h g
      ∙ same_degrees (ts ++ us) (onto cmp max (degrees cmp ts) (degrees cmp us)) (keys_monomials (ts ++ us) (monomials-append order ts us h g)) (multiple_is order (degrees cmp ts) (degrees cmp us) i j)
      (λ s.
      exponent_multiple order s (degrees cmp ts) (degrees cmp us) i j
      ∙ ap₂ max (exponent_degrees s ts (keys_monomials ts h)) (exponent_degrees s us (keys_monomials us g))
      ∙ sym (greatest-append s ts us))

  -- ---- products
  greatest_times : (s : S) (m : Monomial S) (c : ℤ) (t : Monomial S × ℤ) (q : Polynomial S) → greatest_exponent cmp s (term_times cmp m c (t ∷ q)) ≡ exponent cmp s m + greatest_exponent cmp s (t ∷ q)
  greatest_times s m c t [] = ap (λ x. max x 0) (exponent_product order s m t.0) ∙ omega arith
  greatest_times s m c t (u ∷ q) =
      ap₂ max (exponent_product order s m t.0) (greatest_times s m c u q)
      ∙ apart (exponent cmp s m) (exponent cmp s t.0) (greatest_exponent cmp s (u ∷ q))
    where
      apart : (a b x : ℕ) → max (a + b) (a + x) ≡ a + max b x
      apart a b x = omega arith

  greatest_pairs : (s : S) (t u : Monomial S × ℤ) (p q : Polynomial S) → greatest_exponent cmp s (pairs cmp (t ∷ p) (u ∷ q)) ≡ greatest_exponent cmp s (t ∷ p) + greatest_exponent cmp s (u ∷ q)
  greatest_pairs s t u [] q = greatest-append s (term_times cmp t.0 t.1 (u ∷ q)) [] ∙ ap (λ x. max x 0) (greatest_times s t.0 t.1 u q) ∙ omega arith
  greatest_pairs s t u (v ∷ p) q =
      greatest-append s (term_times cmp t.0 t.1 (u ∷ q)) (pairs cmp (v ∷ p) (u ∷ q))
      ∙ ap₂ max (greatest_times s t.0 t.1 u q) (greatest_pairs s v u p q)
      ∙ apart (exponent cmp s t.0) (greatest_exponent cmp s (v ∷ p)) (greatest_exponent cmp s (u ∷ q))
    where
      apart : (a b x : ℕ) → max (a + x) (b + x) ≡ max a b + x
      apart a b x = omega arith

  -- the degrees of a product that is not empty add
  pub degrees_product : (p q : Polynomial S) → p ≢ [] → q ≢ [] → AreMonomials cmp p → AreMonomials cmp q → monomial_product cmp (degrees cmp p) (degrees cmp q) ≡ degrees cmp (pairs cmp p q)
  degrees_product [] q n k h g = absurd (n refl)
  degrees_product (t ∷ p) [] n k h g = absurd (k refl)
  degrees_product (t ∷ p) (u ∷ q) n k h g =
      let i = degrees_monomial (t ∷ p) h in
      let j = degrees_monomial (u ∷ q) g in
      same_degrees (pairs cmp (t ∷ p) (u ∷ q)) (monomial_product cmp (degrees cmp (t ∷ p)) (degrees cmp (u ∷ q))) (keys_monomials (pairs cmp (t ∷ p) (u ∷ q)) (monomials_pairs order (t ∷ p) (u ∷ q) h g)) (product_is order (degrees cmp (t ∷ p)) (degrees cmp (u ∷ q)) i j)
      (λ s.
      exponent_product order s (degrees cmp (t ∷ p)) (degrees cmp (u ∷ q))
      ∙ ap₂ (λ a b. a + b) (exponent_degrees s (t ∷ p) (keys_monomials (t ∷ p) h)) (exponent_degrees s (u ∷ q) (keys_monomials (u ∷ q) g))
      ∙ sym (greatest_pairs s t u p q))

-- the limit that the support of contributions passes
pub limit_of_support : {S : Type 0} (g : Symbols S) → IsOrder g.cmp → (ts : Contributions S) → AreMonomials g.cmp ts → limit_of g (support g.cmp ts) ≡ limit_by g.total_order (degrees g.cmp ts) (length (gathered g.cmp ts))
unfolding support
limit_of_support g order ts h =
    limit_of_degrees g order (gathered g.cmp ts)
    ∙ ap (λ m. limit_by g.total_order m (length (gathered g.cmp ts))) (degrees_gathered order ts h)
