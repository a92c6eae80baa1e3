-- Multiplying keeps the order of monomials, and so does leaving out a power that is the same.
use Rattle.std.proofs.Common.{◌≡◌, ◌<◌, ◌+◌, ◌∙◌, ℕ, [], ◌∷◌, refl, sym, ap, ap₂, subst, arith}
use Rattle.std.specs.declared.cmp.Ordering.{Ordering}
use Rattle.std.specs.declared.cmp.Ordering.TheVariants.{Less, Equal, Greater}
use Rattle.std.specs.Ordering.{match_ordering, ordering_then, nat_cmp}
use Rattle.std.specs.Cmp.{tied_itself}
use Rattle.std.proofs.lemmas.Bool.Decides.{nat_tests}
use Rattle.dz_algebra.specs.Order.{IsOrder, IsAbove}
use Rattle.dz_algebra.specs.Monomial.{Monomial, IsMonomial, IsLarger, with_power, monomial_product, monomial_cmp, exponent}
use Rattle.dz_algebra.proofs.Orders.{less_reversed, greater_reversed, greater_trans}
use Rattle.dz_algebra.proofs.Monomials.{product_is, exponent_below, above_more}

module _ {S : Type 0} {cmp : S → S → Ordering} (order : IsOrder cmp) where
  abbrev by : Monomial S → Monomial S → Ordering
  by = monomial_cmp cmp

  abbrev pair_cmp : S × ℕ → S × ℕ → Ordering
  pair_cmp p q = ordering_then (cmp p.0 q.0) (nat_cmp p.1 q.1)

  less_more : (e x : ℕ) → 0 < x → nat_cmp e (e + x) ≡ Less
  less_more e x h = grind (arith, nat_tests)

  greater_more : (e x : ℕ) → 0 < x → nat_cmp (e + x) e ≡ Greater
  greater_more e x h = grind (arith, nat_tests)

  both_more : (e x y : ℕ) → nat_cmp (e + x) (e + y) ≡ nat_cmp x y
  both_more e x y = grind (arith, nat_tests)

  self_equal : (e : ℕ) → nat_cmp e e ≡ Equal
  self_equal e = grind (arith, nat_tests)

  same_head : (s : S) (e : ℕ) (m n : Monomial S) → by ((s, e) ∷ m) ((s, e) ∷ n) ≡ by m n
  same_head s e m n = ap₂ (λ o u. ordering_then (ordering_then o u) (by m n)) (tied_itself order.total s) (self_equal e)

  greater_head : (p q : S × ℕ) (m n : Monomial S) → cmp p.0 q.0 ≡ Greater → by (p ∷ m) (q ∷ n) ≡ Greater
  greater_head p q m n h = ap (λ o. ordering_then (ordering_then o (nat_cmp p.1 q.1)) (by m n)) h

  less_head : (p q : S × ℕ) (m n : Monomial S) → cmp p.0 q.0 ≡ Less → by (p ∷ m) (q ∷ n) ≡ Less
  less_head p q m n h = ap (λ o. ordering_then (ordering_then o (nat_cmp p.1 q.1)) (by m n)) h

  equal_head : (p q : S × ℕ) (m n : Monomial S) (o : Ordering) → cmp p.0 q.0 ≡ Equal → nat_cmp p.1 q.1 ≡ o → by (p ∷ m) (q ∷ n) ≡ ordering_then o (by m n)
  equal_head p q m n o h g = ap₂ (λ a b. ordering_then (ordering_then a b) (by m n)) h g

  greater_back : (s t : S) → cmp s t ≡ Less → cmp t s ≡ Greater
  greater_back s t h = greater_reversed order.total s t h

  less_back : (s t : S) → cmp s t ≡ Greater → cmp t s ≡ Less
  less_back s t h = less_reversed order.total s t h

  -- multiplying by a power keeps the order of monomials
  pub power_keeps_order : (s : S) (e : ℕ) → 0 < e → (m n : Monomial S) → IsMonomial cmp m → IsMonomial cmp n → by (with_power cmp s e m) (with_power cmp s e n) ≡ by m n
  power_keeps_order s e f [] [] i j = same_head s e [] []
  power_keeps_order s e f [] (q ∷ n) i j = cases (cmp s q.0) refl
    where
      cases : (o : Ordering) → cmp s q.0 ≡ o → by ((s, e) ∷ []) (match_ordering o (q ∷ with_power cmp s e n) ((q.0, e + q.1) ∷ n) ((s, e) ∷ q ∷ n)) ≡ Less
      cases Less h = less_head (s, e) q [] (with_power cmp s e n) h
      cases Equal h = equal_head (s, e) (q.0, e + q.1) [] n Less h (less_more e q.1 j.0)
      cases Greater h = same_head s e [] (q ∷ n)
  power_keeps_order s e f (p ∷ m) [] i j = cases (cmp s p.0) refl
    where
      cases : (o : Ordering) → cmp s p.0 ≡ o → by (match_ordering o (p ∷ with_power cmp s e m) ((p.0, e + p.1) ∷ m) ((s, e) ∷ p ∷ m)) ((s, e) ∷ []) ≡ Greater
      cases Less h = greater_head p (s, e) (with_power cmp s e m) [] (greater_back s p.0 h)
      cases Equal h = equal_head (p.0, e + p.1) (s, e) m [] Greater (ap (λ x. cmp x s) (sym (order.same s p.0 h)) ∙ tied_itself order.total s) (greater_more e p.1 i.0)
      cases Greater h = same_head s e (p ∷ m) []
  power_keeps_order s e f (p ∷ m) (q ∷ n) i j = cases (cmp s p.0) (cmp s q.0) refl refl (power_keeps_order s e f m n i.2 j.2)
    where
      cases : (o u : Ordering) → cmp s p.0 ≡ o → cmp s q.0 ≡ u → by (with_power cmp s e m) (with_power cmp s e n) ≡ by m n → by (match_ordering o (p ∷ with_power cmp s e m) ((p.0, e + p.1) ∷ m) ((s, e) ∷ p ∷ m)) (match_ordering u (q ∷ with_power cmp s e n) ((q.0, e + q.1) ∷ n) ((s, e) ∷ q ∷ n)) ≡ by (p ∷ m) (q ∷ n)
      cases Less Less h g ih = ap (ordering_then (pair_cmp p q)) ih
      cases Less Equal h g ih =
          let k : cmp p.0 q.0 ≡ Greater = ap (cmp p.0) (sym (order.same s q.0 g)) ∙ greater_back s p.0 h in
          greater_head p (q.0, e + q.1) (with_power cmp s e m) n k ∙ sym (greater_head p q m n k)
      cases Less Greater h g ih =
          let k : cmp p.0 q.0 ≡ Greater = greater_trans order.total p.0 s q.0 (greater_back s p.0 h) g in
          greater_head p (s, e) (with_power cmp s e m) (q ∷ n) (greater_back s p.0 h) ∙ sym (greater_head p q m n k)
      cases Equal Less h g ih =
          let k : cmp p.0 q.0 ≡ Less = ap (λ x. cmp x q.0) (sym (order.same s p.0 h)) ∙ g in
          less_head (p.0, e + p.1) q m (with_power cmp s e n) k ∙ sym (less_head p q m n k)
      cases Equal Equal h g ih = ap (λ o. ordering_then (ordering_then (cmp p.0 q.0) o) (by m n)) (both_more e p.1 q.1)
      cases Equal Greater h g ih =
          let a : p.0 ≡ s = sym (order.same s p.0 h) in
          let k : cmp p.0 q.0 ≡ Greater = ap (λ x. cmp x q.0) a ∙ g in
          equal_head (p.0, e + p.1) (s, e) m (q ∷ n) Greater (ap (λ x. cmp x s) a ∙ tied_itself order.total s) (greater_more e p.1 i.0) ∙ sym (greater_head p q m n k)
      cases Greater Less h g ih =
          let k : cmp p.0 q.0 ≡ Less = less_back q.0 p.0 (greater_trans order.total q.0 s p.0 (greater_back s q.0 g) h) in
          less_head (s, e) q (p ∷ m) (with_power cmp s e n) g ∙ sym (less_head p q m n k)
      cases Greater Equal h g ih =
          let k : cmp p.0 q.0 ≡ Less = ap (cmp p.0) (sym (order.same s q.0 g)) ∙ less_back s p.0 h in
          equal_head (s, e) (q.0, e + q.1) (p ∷ m) n Less g (less_more e q.1 j.0) ∙ sym (less_head p q m n k)
      cases Greater Greater h g ih = same_head s e (p ∷ m) (q ∷ n)

  -- and so does multiplying by a monomial
  pub product_keeps_order : (k m n : Monomial S) → IsMonomial cmp k → IsMonomial cmp m → IsMonomial cmp n → monomial_cmp cmp (monomial_product cmp k m) (monomial_product cmp k n) ≡ monomial_cmp cmp m n
  product_keeps_order [] m n i j l = refl
  product_keeps_order (p ∷ k) m n i j l =
      power_keeps_order p.0 p.1 i.0 (monomial_product cmp k m) (monomial_product cmp k n) (product_is order k m i.2 j) (product_is order k n i.2 l)
      ∙ product_keeps_order k m n i.2 j l

  -- ---- the greater of two monomials has the larger exponent at the greatest symbol at which they differ
  head_exponent : (p : S × ℕ) (m : Monomial S) → IsAbove cmp p.0 m → exponent cmp p.0 (p ∷ m) ≡ p.1
  head_exponent p m a = ap₂ (λ o x. match_ordering o x (p.1 + x) x) (tied_itself order.total p.0) (exponent_below order p.0 m a) ∙ omega arith

  past_exponent : (t : S) (p : S × ℕ) (m : Monomial S) → IsAbove cmp p.0 m → cmp t p.0 ≡ Greater → exponent cmp t (p ∷ m) ≡ 0
  past_exponent t p m a h = exponent_below order t (p ∷ m) (h, above_more order t p.0 m h a)

  abbrev IsLargerAt : Monomial S → Monomial S → S → Type 0
  IsLargerAt m n s = IsLarger cmp m n s

  -- by induction over both: the first pair that differs decides
  pub greater_is_larger : (m n : Monomial S) → IsMonomial cmp m → IsMonomial cmp n → by m n ≡ Greater → (s : S) × IsLarger cmp m n s
  greater_is_larger [] [] i j e = absurd cc
  greater_is_larger [] (q ∷ n) i j e = absurd cc
  greater_is_larger (p ∷ m) [] i j e = (p.0, (omega (arith, i.0, head_exponent p m i.1), (λ t h. past_exponent t p m i.1 h)))
  greater_is_larger (p ∷ m) (q ∷ n) i j e = by_symbol (cmp p.0 q.0) refl (λ f. greater_is_larger m n i.2 j.2 f)
    where
      first : (x : ℕ) → exponent cmp p.0 (q ∷ n) ≡ x → x < p.1 → ((t : S) → cmp t p.0 ≡ Greater → exponent cmp t (q ∷ n) ≡ 0) → (s : S) × IsLargerAt (p ∷ m) (q ∷ n) s
      first x f l z = (p.0, (omega (arith, f, l, head_exponent p m i.1), (λ t h. past_exponent t p m i.1 h ∙ sym (z t h))))

      by_exponent : p.0 ≡ q.0 → (o : Ordering) → nat_cmp p.1 q.1 ≡ o → ordering_then o (by m n) ≡ Greater → (by m n ≡ Greater → (s : S) × IsLargerAt m n s) → (s : S) × IsLargerAt (p ∷ m) (q ∷ n) s
      by_exponent k Less g f rest = absurd cc
      by_exponent k Greater g f rest =
          let l : q.1 < p.1 = more_is p.1 q.1 g in
          first q.1 (ap (λ s. exponent cmp s (q ∷ n)) k ∙ head_exponent q n j.1) l (λ t h. past_exponent t q n j.1 (ap (cmp t) (sym k) ∙ h))
        where
          more_is : (a b : ℕ) → nat_cmp a b ≡ Greater → b < a
          more_is a b g = grind (arith, nat_tests)
      by_exponent k Equal g f rest =
          let r = rest f in
          (r.0, (kept r.0 r.1.0, (λ t h. ap₂ (λ x y. match_ordering (cmp t p.0) x (p.1 + x) x) (r.1.1 t h) (r.1.1 t h) ∙ ap₂ (λ (s : S) (c : ℕ). match_ordering (cmp t s) (exponent cmp t n) (c + exponent cmp t n) (exponent cmp t n)) k (same_number p.1 q.1 g))))
        where
          same_number : (a b : ℕ) → nat_cmp a b ≡ Equal → a ≡ b
          same_number a b g = grind (arith, nat_tests)

          larger : (o : Ordering) (c x y : ℕ) → x < y → match_ordering o x (c + x) x < match_ordering o y (c + y) y
          larger Less c x y l = l
          larger Equal c x y l = omega arith
          larger Greater c x y l = l

          kept : (s : S) → exponent cmp s n < exponent cmp s m → exponent cmp s (q ∷ n) < exponent cmp s (p ∷ m)
          kept s l =
              subst (λ x. x < exponent cmp s (p ∷ m))
              (ap₂ (λ (t : S) (c : ℕ). match_ordering (cmp s t) (exponent cmp s n) (c + exponent cmp s n) (exponent cmp s n)) k (same_number p.1 q.1 g))
              (larger (cmp s p.0) p.1 (exponent cmp s n) (exponent cmp s m) l)

      by_symbol : (o : Ordering) → cmp p.0 q.0 ≡ o → (by m n ≡ Greater → (s : S) × IsLargerAt m n s) → (s : S) × IsLargerAt (p ∷ m) (q ∷ n) s
      by_symbol Less h rest = let f = sym (less_head p q m n h) ∙ e in absurd cc
      by_symbol Greater h rest = first 0 (past_exponent p.0 q n j.1 h) i.0 (λ t k. past_exponent t q n j.1 (greater_trans order.total t p.0 q.0 k h))
      by_symbol Equal h rest = by_exponent (order.same p.0 q.0 h) (nat_cmp p.1 q.1) refl (sym (equal_head p q m n (nat_cmp p.1 q.1) h refl) ∙ e) rest
