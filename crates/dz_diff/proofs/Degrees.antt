-- Degrees of products, and the part of a product of the greatest degree.
use Rattle.std.proofs.Common.{◌≡◌, ◌≢◌, ℕ, suc, ◌+◌, ◌≤◌, Bool, true, false, cond, List, [], ◌∷◌, ℤ, pos, ◌+ℤ◌, ◌*ℤ◌, refl, sym, ap, ap₂, ◌∙◌, arith, subst, eqb}
use Rattle.std.proofs.lemmas.Bool.{eqb-true, eq-eqb}
use Rattle.std.specs.declared.cmp.Ordering.{Ordering}
use Rattle.std.specs.declared.cmp.Ordering.TheVariants.{Less, Equal, Greater}
use Rattle.std.specs.Ordering.{match_ordering}
use Rattle.std.specs.Cmp.{tied_itself}
use Rattle.dz_algebra.specs.Whole.{whole_ring}
use Rattle.dz_algebra.specs.Ring.{product_zero}
use Rattle.dz_algebra.specs.Order.{IsOrder, IsAbove}
use Rattle.dz_algebra.specs.Monomial.{Monomial, IsMonomial, monomial_cmp, exponent, with_power, without, monomial_product}
use Rattle.dz_algebra.specs.Polynomial.{Polynomial, AreMonomials, IsPolynomial, pairs}
use Rattle.dz_algebra.specs.Parts.{coefficient_of}
use Rattle.dz_algebra.proofs.Canonical.{are_monomials, collected}
use Rattle.dz_algebra.proofs.Coefficients.{without_is}
use Rattle.dz_algebra.proofs.Monomials.{same_exponents, exponent_product, product_is, with_power_is}
use Rattle.dz_algebra.proofs.Totals.{total, total_pairs, same_by_totals}
use Rattle.dz_diff.proofs.MarkedSums.{EachMonomial, skipped, marked, total_coefficient}

-- ---- the terms that hold v to the power d, whole
abbrev pub only : {S : Type 0} → (S → S → Ordering) → S → ℕ → Polynomial S → Polynomial S
only cmp v d [] = []
only cmp v d (t ∷ p) = cond (eqb (exponent cmp v t.0) d) (t ∷ only cmp v d p) (only cmp v d p)

-- f of a monomial that holds v to the power d, else zero
abbrev pub kept : {S : Type 0} → (S → S → Ordering) → S → ℕ → (Monomial S → ℤ) → Monomial S → ℤ
kept cmp v d f m = cond (eqb (exponent cmp v m) d) (f m) (pos 0)

abbrev pub AtMost : {S : Type 0} → (S → S → Ordering) → S → ℕ → List (Monomial S × ℤ) → Type 0
AtMost cmp v d = EachMonomial (λ m. exponent cmp v m ≤ d)

eqb_is : (a b : ℕ) → eqb a b ≡ true → a ≡ b
eqb_is = eqb-true

eqb_other : (a b : ℕ) → eqb a b ≡ false → a ≢ b
eqb_other a b e h = let k : eqb a b ≡ true = eq-eqb a b h in cc

module _ {S : Type 0} {cmp : S → S → Ordering} (order : IsOrder cmp) (v : S) where
  only_above : (d : ℕ) (m : Monomial S) (p : Polynomial S) → IsAbove (monomial_cmp cmp) m p → IsAbove (monomial_cmp cmp) m (only cmp v d p)
  only_above d m [] a = tt
  only_above d m (t ∷ p) a = elim (eqb (exponent cmp v t.0) d) as (λ b. IsAbove (monomial_cmp cmp) m (cond b (t ∷ only cmp v d p) (only cmp v d p))) [ true ↦ (a.0, only_above d m p a.1) | false ↦ only_above d m p a.1 ]

  only_is : (d : ℕ) (p : Polynomial S) → IsPolynomial cmp p → IsPolynomial cmp (only cmp v d p)
  only_is d [] h = tt
  only_is d (t ∷ p) h = elim (eqb (exponent cmp v t.0) d) as (λ b. IsPolynomial cmp (cond b (t ∷ only cmp v d p) (only cmp v d p))) [ true ↦ (h.0, h.1, only_above d t.0 p h.2, only_is d p h.3) | false ↦ only_is d p h.3 ]

  total_only : (d : ℕ) (f : Monomial S → ℤ) (p : Polynomial S) → total f (only cmp v d p) ≡ total (kept cmp v d f) p
  unfolding total
  total_only d f [] = refl
  total_only d f (t ∷ p) = by_test (eqb (exponent cmp v t.0) d) (total_only d f p)
    where
      by_test : (b : Bool) → total f (only cmp v d p) ≡ total (kept cmp v d f) p → total f (cond b (t ∷ only cmp v d p) (only cmp v d p)) ≡ t.1 *ℤ cond b (f t.0) (pos 0) +ℤ total (kept cmp v d f) p
      by_test true ih = ap (λ x. t.1 *ℤ f t.0 +ℤ x) ih
      by_test false ih = ih ∙ sym (ap (λ x. x +ℤ total (kept cmp v d f) p) (product_zero whole_ring t.1) ∙ whole_ring.zero_is_neutral (total (kept cmp v d f) p))

  pub none_only : (d : ℕ) (p : Polynomial S) → IsPolynomial cmp p → ((f : Monomial S → ℤ) → total (kept cmp v d f) p ≡ pos 0) → only cmp v d p ≡ []
  unfolding total
  none_only d p h e =
      let i : IsPolynomial cmp (only cmp v d p) = only_is d p h in
      sym (collected order (only cmp v d p) i) ∙ same_by_totals order (only cmp v d p) [] (are_monomials order (only cmp v d p) i) tt (λ f. total_only d f p ∙ e f)

  pub fewer : (d : ℕ) (p : Polynomial S) → AtMost cmp v (suc d) p → only cmp v (suc d) p ≡ [] → AtMost cmp v d p
  fewer d [] h e = tt
  fewer d (t ∷ p) h e = by_test (eqb (exponent cmp v t.0) (suc d)) refl e (fewer d p h.1)
    where
      by_test : (b : Bool) → eqb (exponent cmp v t.0) (suc d) ≡ b → ◌≡◌ {A = Polynomial S} (cond b (t ∷ only cmp v (suc d) p) (only cmp v (suc d) p)) [] → (only cmp v (suc d) p ≡ [] → AtMost cmp v d p) → (exponent cmp v t.0 ≤ d) × AtMost cmp v d p
      by_test true k e ih = cc
      by_test false k e ih = let n : exponent cmp v t.0 ≢ suc d = eqb_other (exponent cmp v t.0) (suc d) k in let x : exponent cmp v t.0 ≤ suc d = h.0 in (below (exponent cmp v t.0) n x, ih e)
        where
          below : (x : ℕ) → x ≢ suc d → x ≤ suc d → x ≤ d
          below x n h = omega arith

  -- ---- exponents without v
  pub exponent_without : (m : Monomial S) → exponent cmp v (without cmp v m) ≡ 0
  exponent_without [] = refl
  exponent_without (p ∷ m) = by_order (cmp v p.0) refl (exponent_without m)
    where
      by_order : (o : Ordering) → cmp v p.0 ≡ o → exponent cmp v (without cmp v m) ≡ 0 → exponent cmp v (match_ordering o (p ∷ without cmp v m) (without cmp v m) (p ∷ without cmp v m)) ≡ 0
      by_order Less k ih = ap (λ o. match_ordering o (exponent cmp v (without cmp v m)) (p.1 + exponent cmp v (without cmp v m)) (exponent cmp v (without cmp v m))) k ∙ ih
      by_order Equal k ih = ih
      by_order Greater k ih = ap (λ o. match_ordering o (exponent cmp v (without cmp v m)) (p.1 + exponent cmp v (without cmp v m)) (exponent cmp v (without cmp v m))) k ∙ ih

  exponent_other : (s : S) (m : Monomial S) → (cmp s v ≡ Equal → ⊥) → exponent cmp s (without cmp v m) ≡ exponent cmp s m
  exponent_other s [] n = refl
  exponent_other s (p ∷ m) n = by_order (cmp v p.0) refl (exponent_other s m n)
    where
      by_order : (o : Ordering) → cmp v p.0 ≡ o → exponent cmp s (without cmp v m) ≡ exponent cmp s m → exponent cmp s (match_ordering o (p ∷ without cmp v m) (without cmp v m) (p ∷ without cmp v m)) ≡ exponent cmp s (p ∷ m)
      by_order Less k ih = ap (λ x. match_ordering (cmp s p.0) x (p.1 + x) x) ih
      by_order Greater k ih = ap (λ x. match_ordering (cmp s p.0) x (p.1 + x) x) ih
      by_order Equal k ih = ih ∙ sym (skipped (cmp s p.0) (exponent cmp s m) (p.1 + exponent cmp s m) (λ z. n (ap (cmp s) (order.same v p.0 k) ∙ z)))

  pub exponent_fewer : (s : S) (m : Monomial S) → exponent cmp s (without cmp v m) ≤ exponent cmp s m
  exponent_fewer s m = by_order (cmp s v) refl
    where
      by_order : (o : Ordering) → cmp s v ≡ o → exponent cmp s (without cmp v m) ≤ exponent cmp s m
      by_order Less k = omega (arith, exponent_other s m (λ z. cc))
      by_order Equal k = let e : exponent cmp s (without cmp v m) ≡ 0 = ap (λ s. exponent cmp s (without cmp v m)) (order.same s v k) ∙ exponent_without m in omega arith
      by_order Greater k = omega (arith, exponent_other s m (λ z. cc))

  without_product : (m n : Monomial S) → IsMonomial cmp m → IsMonomial cmp n → without cmp v (monomial_product cmp m n) ≡ monomial_product cmp (without cmp v m) (without cmp v n)
  without_product m n h k =
      same_exponents order (without cmp v (monomial_product cmp m n)) (monomial_product cmp (without cmp v m) (without cmp v n))
      (without_is order v (monomial_product cmp m n) (product_is order m n h k)) (product_is order (without cmp v m) (without cmp v n) (without_is order v m h) (without_is order v n k))
      (λ s. by_order s (cmp s v) refl)
    where
      other : (s : S) → (cmp s v ≡ Equal → ⊥) → exponent cmp s (without cmp v (monomial_product cmp m n)) ≡ exponent cmp s (monomial_product cmp (without cmp v m) (without cmp v n))
      other s z = omega (arith, exponent_other s (monomial_product cmp m n) z, exponent_product order s m n, exponent_product order s (without cmp v m) (without cmp v n), exponent_other s m z, exponent_other s n z)

      at_v : exponent cmp v (without cmp v (monomial_product cmp m n)) ≡ exponent cmp v (monomial_product cmp (without cmp v m) (without cmp v n))
      at_v = omega (arith, exponent_without (monomial_product cmp m n), exponent_product order v (without cmp v m) (without cmp v n), exponent_without m, exponent_without n)

      by_order : (s : S) (o : Ordering) → cmp s v ≡ o → exponent cmp s (without cmp v (monomial_product cmp m n)) ≡ exponent cmp s (monomial_product cmp (without cmp v m) (without cmp v n))
      by_order s Less k = other s (λ z. cc)
      by_order s Equal k = subst (λ s. exponent cmp s (without cmp v (monomial_product cmp m n)) ≡ exponent cmp s (monomial_product cmp (without cmp v m) (without cmp v n))) (sym (order.same s v k)) at_v
      by_order s Greater k = other s (λ z. cc)

  -- v to its power again
  restored : (d : ℕ) (m : Monomial S) → IsMonomial cmp m → exponent cmp v m ≡ suc d → with_power cmp v (suc d) (without cmp v m) ≡ m
  restored d m h e =
      same_exponents order (with_power cmp v (suc d) (without cmp v m)) m (with_power_is order v (suc d) (without cmp v m) (omega arith) (without_is order v m h)) h
      (λ s. by_order s (cmp s v) refl (exponent_product order s ((v, suc d) ∷ []) (without cmp v m)))
    where
      by_order : (s : S) (o : Ordering) → cmp s v ≡ o → exponent cmp s (with_power cmp v (suc d) (without cmp v m)) ≡ match_ordering o 0 (suc d + 0) 0 + exponent cmp s (without cmp v m) → exponent cmp s (with_power cmp v (suc d) (without cmp v m)) ≡ exponent cmp s m
      by_order s Less k x = omega (arith, x, exponent_other s m (λ z. cc))
      by_order s Greater k x = omega (arith, x, exponent_other s m (λ z. cc))
      by_order s Equal k x =
          let i : s ≡ v = order.same s v k in
          let y : exponent cmp s (without cmp v m) ≡ 0 = ap (λ s. exponent cmp s (without cmp v m)) i ∙ exponent_without m in
          let z : exponent cmp s m ≡ suc d = ap (λ s. exponent cmp s m) i ∙ e in
          omega (arith, x, y, z)

  kept_is : (d : ℕ) (f : Monomial S → ℤ) (m : Monomial S) → IsMonomial cmp m → kept cmp v (suc d) f m ≡ marked cmp v (suc d) (λ n. f (with_power cmp v (suc d) n)) m
  kept_is d f m h = by_test (eqb (exponent cmp v m) (suc d)) refl
    where
      by_test : (b : Bool) → eqb (exponent cmp v m) (suc d) ≡ b → cond b (f m) (pos 0) ≡ cond b (f (with_power cmp v (suc d) (without cmp v m))) (pos 0)
      by_test true e = ap f (sym (restored d m h (eqb_is (exponent cmp v m) (suc d) e)))
      by_test false e = refl

  -- so sums over the whole terms are sums over their rests
  pub kept_marked : (d : ℕ) (f : Monomial S → ℤ) (p : Polynomial S) → AreMonomials cmp p → total (kept cmp v (suc d) f) p ≡ total (marked cmp v (suc d) (λ n. f (with_power cmp v (suc d) n))) p
  unfolding total
  kept_marked d f [] h = refl
  kept_marked d f (t ∷ p) h = ap₂ (λ x y. t.1 *ℤ x +ℤ y) (kept_is d f t.0 h.0) (kept_marked d f p h.1)

  -- ---- the part of a product of the greatest degree
  at_top : (x y a b : ℕ) (z : ℤ) → x ≤ a → y ≤ b → cond (eqb (x + y) (a + b)) z (pos 0) ≡ cond (eqb x a) (cond (eqb y b) z (pos 0)) (pos 0)
  at_top x y a b z h k = by_test (eqb (x + y) (a + b)) (eqb x a) (eqb y b) refl refl refl
    where
      by_test : (c d e : Bool) → eqb (x + y) (a + b) ≡ c → eqb x a ≡ d → eqb y b ≡ e → cond c z (pos 0) ≡ cond d (cond e z (pos 0)) (pos 0)
      by_test true true true i j l = refl
      by_test false false e i j l = refl
      by_test false true false i j l = refl
      by_test true false e i j l = absurd (eqb_other x a j (let n : x + y ≡ a + b = eqb_is (x + y) (a + b) i in omega arith))
      by_test true true false i j l = absurd (eqb_other y b l (let n : x + y ≡ a + b = eqb_is (x + y) (a + b) i in omega arith))
      by_test false true true i j l = absurd (eqb_other (x + y) (a + b) i (let n : x ≡ a = eqb_is x a j in let m : y ≡ b = eqb_is y b l in omega arith))

  marked_product : (a b : ℕ) (h : Monomial S → ℤ) (m n : Monomial S) → IsMonomial cmp m → IsMonomial cmp n → exponent cmp v m ≤ a → exponent cmp v n ≤ b
      → marked cmp v (a + b) h (monomial_product cmp m n) ≡ cond (eqb (exponent cmp v m) a) (marked cmp v b (λ y. h (monomial_product cmp (without cmp v m) y)) n) (pos 0)
  marked_product a b h m n i j k l =
      ap₂ (λ x y. cond (eqb x (a + b)) (h y) (pos 0)) (exponent_product order v m n) (without_product m n i j)
      ∙ at_top (exponent cmp v m) (exponent cmp v n) a b (h (monomial_product cmp (without cmp v m) (without cmp v n))) k l

  inner : (a b : ℕ) (h : Monomial S → ℤ) (m : Monomial S) (q : Polynomial S) → IsMonomial cmp m → exponent cmp v m ≤ a → AreMonomials cmp q → AtMost cmp v b q
      → total (λ n. marked cmp v (a + b) h (monomial_product cmp m n)) q ≡ total (λ n. cond (eqb (exponent cmp v m) a) (marked cmp v b (λ y. h (monomial_product cmp (without cmp v m) y)) n) (pos 0)) q
  unfolding total
  inner a b h m [] i k j l = refl
  inner a b h m (t ∷ q) i k j l = ap₂ (λ x y. t.1 *ℤ x +ℤ y) (marked_product a b h m t.0 i j.0 k l.0) (inner a b h m q i k j.1 l.1)

  total_nothing : (q : Polynomial S) → total (λ _. pos 0) q ≡ pos 0
  unfolding total
  total_nothing [] = refl
  total_nothing (t ∷ q) = ap₂ (λ x y. x +ℤ y) (product_zero whole_ring t.1) (total_nothing q)

  total_if : (b : Bool) (f : Monomial S → ℤ) (q : Polynomial S) → total (λ n. cond b (f n) (pos 0)) q ≡ cond b (total f q) (pos 0)
  total_if true f q = refl
  total_if false f q = total_nothing q

  outer : (a b : ℕ) (h : Monomial S → ℤ) (p q : Polynomial S) → AreMonomials cmp p → AreMonomials cmp q → AtMost cmp v a p → AtMost cmp v b q
      → total (λ m. total (λ n. marked cmp v (a + b) h (monomial_product cmp m n)) q) p ≡ total (marked cmp v a (λ m. total (λ n. h (monomial_product cmp m n)) (coefficient_of cmp v b q))) p
  unfolding total
  outer a b h [] q i j k l = refl
  outer a b h (t ∷ p) q i j k l =
      ap₂ (λ x y. t.1 *ℤ x +ℤ y)
      (inner a b h t.0 q i.0 k.0 j l
      ∙ total_if (eqb (exponent cmp v t.0) a) (marked cmp v b (λ y. h (monomial_product cmp (without cmp v t.0) y))) q
      ∙ ap (λ x. cond (eqb (exponent cmp v t.0) a) x (pos 0)) (sym (total_coefficient cmp v b (λ y. h (monomial_product cmp (without cmp v t.0) y)) q)))
      (outer a b h p q i.1 j k.1 l)

  pub top_of_product : (a b : ℕ) (h : Monomial S → ℤ) (p q : Polynomial S) → AreMonomials cmp p → AreMonomials cmp q → AtMost cmp v a p → AtMost cmp v b q
      → total (marked cmp v (a + b) h) (pairs cmp p q) ≡ total (λ m. total (λ n. h (monomial_product cmp m n)) (coefficient_of cmp v b q)) (coefficient_of cmp v a p)
  top_of_product a b h p q i j k l =
      total_pairs order (marked cmp v (a + b) h) p q ∙ outer a b h p q i j k l
      ∙ sym (total_coefficient cmp v a (λ m. total (λ n. h (monomial_product cmp m n)) (coefficient_of cmp v b q)) p)

  -- ---- monomials without v
  abbrev pub IsWithout : Monomial S → Type 0
  IsWithout m = IsMonomial cmp m × (exponent cmp v m ≡ 0)

  pub without_none : (m : Monomial S) → IsWithout m → without cmp v m ≡ m
  without_none m h =
      same_exponents order (without cmp v m) m (without_is order v m h.0) h.0 (λ s. by_order s (cmp s v) refl)
    where
      by_order : (s : S) (o : Ordering) → cmp s v ≡ o → exponent cmp s (without cmp v m) ≡ exponent cmp s m
      by_order s Less k = exponent_other s m (λ z. cc)
      by_order s Greater k = exponent_other s m (λ z. cc)
      by_order s Equal k = let i : s ≡ v = order.same s v k in ap (λ s. exponent cmp s (without cmp v m)) i ∙ exponent_without m ∙ sym h.1 ∙ ap (λ s. exponent cmp s m) (sym i)

  pub marked_none : (h : Monomial S → ℤ) (m : Monomial S) → IsWithout m → marked cmp v 0 h m ≡ h m
  marked_none h m i = ap₂ (λ x n. cond (eqb x 0) (h n) (pos 0)) i.1 (without_none m i)

  -- with v to a power
  pub marked_power : (j : ℕ) (h : Monomial S → ℤ) (m : Monomial S) → IsWithout m → marked cmp v (suc j) h (with_power cmp v (suc j) m) ≡ h m
  marked_power j h m i =
      let e : exponent cmp v (with_power cmp v (suc j) m) ≡ suc j = exponent_product order v ((v, suc j) ∷ []) m ∙ ap (λ o. match_ordering o 0 (suc j + 0) 0 + exponent cmp v m) (tied_itself order.total v) ∙ omega (arith, i.1) in
      let w : without cmp v (with_power cmp v (suc j) m) ≡ m =
      without_product ((v, suc j) ∷ []) m (omega arith, tt, tt) i.0 ∙ ap (λ o. monomial_product cmp (match_ordering o ((v, suc j) ∷ []) [] ((v, suc j) ∷ [])) (without cmp v m)) (tied_itself order.total v) ∙ without_none m i in
      ap₂ (λ x n. cond (eqb x (suc j)) (h n) (pos 0)) e w ∙ same (suc j) (h m)
    where
      same : (k : ℕ) (x : ℤ) → cond (eqb k k) x (pos 0) ≡ x
      same k x = by_test (eqb k k) refl
        where
          by_test : (b : Bool) → eqb k k ≡ b → cond b x (pos 0) ≡ x
          by_test true e = refl
          by_test false e = absurd (eqb_other k k e refl)

  pub total_marked_none : (h : Monomial S → ℤ) (p : Polynomial S) → EachMonomial IsWithout p → total (marked cmp v 0 h) p ≡ total h p
  unfolding total
  total_marked_none h [] i = refl
  total_marked_none h (t ∷ p) i = ap₂ (λ x y. t.1 *ℤ x +ℤ y) (marked_none h t.0 i.0) (total_marked_none h p i.1)

  pub total_without : (h : Monomial S → ℤ) (p : Polynomial S) → EachMonomial IsWithout p → total h (coefficient_of cmp v 0 p) ≡ total h p
  total_without h p i = total_coefficient cmp v 0 h p ∙ total_marked_none h p i
