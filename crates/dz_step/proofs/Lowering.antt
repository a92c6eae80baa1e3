-- A step lowers the degree in its symbol, and raises none above.
use Rattle.std.specs.Prelude.{int_div, unsigned_abs}
use Rattle.std.proofs.Common.{◌≡◌, ℕ, zero, suc, ◌+◌, ◌-◌, ◌≤◌, ◌<◌, Bool, true, false, cond, List, [], ◌∷◌, ◌++◌, ℤ, pos, ◌+ℤ◌, ◌*ℤ◌, neg_ℤ, refl, sym, ap, ap₂, ◌∙◌, arith, subst, eqb, Ok}
use Rattle.std.proofs.lemmas.Int.{ints}
use Rattle.std.specs.declared.cmp.Ordering.TheVariants.{Less}
use Rattle.dz_algebra.specs.Whole.{whole_ring}
use Rattle.dz_algebra.specs.Ring.{product_zero, zero_product, sum_times, sum_of_sums}
use Rattle.dz_algebra.specs.Order.{IsOrder}
use Rattle.dz_algebra.specs.Symbols.{Symbols}
use Rattle.dz_algebra.specs.Monomial.{Monomial, IsMonomial, monomial_cmp, exponent, with_power, without, monomial_product}
use Rattle.dz_algebra.specs.Polynomial.{Polynomial, Contributions, AreMonomials, IsPolynomial, collect, negated, term_times, pairs, polynomial_product}
use Rattle.dz_algebra.specs.Parts.{coefficient_of}
use Rattle.dz_algebra.specs.Norm.{divided, gcd, content, norm, signed_content}
use Rattle.dz_algebra.specs.Size.{difference_answer, product_answer}
use Rattle.dz_algebra.proofs.Canonical.{are_monomials, collect_is, monomials-append}
use Rattle.dz_algebra.proofs.Coefficients.{without_is}
use Rattle.dz_algebra.proofs.Divisors.{gcd_is}
use Rattle.dz_algebra.proofs.Monomials.{exponent_product, with_power_is}
use Rattle.dz_algebra.proofs.Norms.{exact, Divides, divides_more, content_divides}
use Rattle.dz_algebra.proofs.Operations.{operation_is}
use Rattle.dz_algebra.proofs.Products.{monomials_pairs, polynomial_product_commutes}
use Rattle.dz_algebra.proofs.Totals.{total, total-append, total_pairs, total_collect, total_multiple}
use Rattle.dz_rank.specs.declared.symbols.Symbol.{Symbol}
use Rattle.dz_monomials.specs.Terms.{times_power}
use Rattle.dz_algebra.proofs.Outcomes.{bind_ok, ok_same}
use Rattle.dz_diff.proofs.MarkedSums.{EachMonomial, each-append, each_collect, exponent_below, exponent_put, marked, total_coefficient, total_same}
use Rattle.dz_diff.proofs.Degrees.{AtMost, only, none_only, fewer, kept_marked, top_of_product, IsWithout, marked_power, total_without, total_marked_none, exponent_without, exponent_fewer}
use Rattle.dz_step.specs.Step.{Reduction, reduction_by, step_by}

total_divided : {M : Type 0} (f : M → ℤ) (k : ℤ) (n : ℕ) → unsigned_abs k ≡ n → (p : List (M × ℤ)) → Divides n p → total f p ≡ k *ℤ total f (divided k p)
unfolding total
total_divided f k n e [] d = sym (product_zero whole_ring k)
total_divided f k n e (t ∷ p) d =
    ap₂ (λ x y. x +ℤ y) (ap (λ x. x *ℤ f t.0) (exact t.1 k n e d.0) ∙ whole_ring.product_associates k (int_div t.1 k) (f t.0)) (total_divided f k n e p d.1)
    ∙ sym (whole_ring.product_distributes k (int_div t.1 k *ℤ f t.0) (total f (divided k p)))

inverse : (a : ℤ) → a +ℤ neg_ℤ a ≡ pos 0
inverse a = omega (arith, ints)

total_negated : (f : Monomial Symbol → ℤ) (ts : Contributions Symbol) → total f ts +ℤ total f (negated ts) ≡ pos 0
unfolding total
total_negated f [] = refl
total_negated f (t ∷ ts) =
    sum_of_sums whole_ring (t.1 *ℤ f t.0) (total f ts) (neg_ℤ t.1 *ℤ f t.0) (total f (negated ts))
    ∙ ap₂ (λ x y. x +ℤ y) (sym (sum_times whole_ring t.1 (neg_ℤ t.1) (f t.0)) ∙ ap (λ x. x *ℤ f t.0) (inverse t.1) ∙ zero_product whole_ring (f t.0)) (total_negated f ts)

module _ (g : Symbols Symbol) (order : IsOrder g.cmp) where
  -- ---- the sum over a product
  abbrev cross : (Monomial Symbol → ℤ) → Contributions Symbol → Contributions Symbol → ℤ
  cross h a b = total (λ x. total (λ y. h (monomial_product g.cmp x y)) b) a

  abbrev made : Contributions Symbol → Polynomial Symbol
  made = collect (monomial_cmp g.cmp)

  cross_product : (h : Monomial Symbol → ℤ) (a b : Contributions Symbol) → cross h a b ≡ total h (polynomial_product g.cmp (made a) (made b))
  unfolding polynomial_product
  cross_product h a b =
      sym (total_collect order h (pairs g.cmp (made a) (made b)) ∙ total_pairs order h (made a) (made b)
      ∙ total_collect order (λ x. total (λ y. h (monomial_product g.cmp x y)) (made b)) a
      ∙ total_same g.cmp (λ x. total (λ y. h (monomial_product g.cmp x y)) (made b)) (λ x. total (λ y. h (monomial_product g.cmp x y)) b) (λ x. total_collect order (λ y. h (monomial_product g.cmp x y)) b) a)

  cross_commutes : (h : Monomial Symbol → ℤ) (a b : Contributions Symbol) → AreMonomials g.cmp a → AreMonomials g.cmp b → cross h a b ≡ cross h b a
  cross_commutes h a b i j =
      cross_product h a b ∙ ap (total h) (polynomial_product_commutes order (made a) (made b) (collect_is order a i) (collect_is order b j)) ∙ sym (cross_product h b a)

  cross_divided : (h : Monomial Symbol → ℤ) (k : ℤ) (n : ℕ) → unsigned_abs k ≡ n → (a b : Contributions Symbol) → Divides n b → cross h a b ≡ k *ℤ cross h a (divided k b)
  cross_divided h k n e a b d =
      total_same g.cmp (λ x. total (λ y. h (monomial_product g.cmp x y)) b) (λ x. k *ℤ total (λ y. h (monomial_product g.cmp x y)) (divided k b)) (λ x. total_divided (λ y. h (monomial_product g.cmp x y)) k n e b d) a
      ∙ total_multiple k (λ x. total (λ y. h (monomial_product g.cmp x y)) (divided k b)) a

  pub are_divided : (k : ℤ) (p : Contributions Symbol) → AreMonomials g.cmp p → AreMonomials g.cmp (divided k p)
  are_divided k [] h = tt
  are_divided k (t ∷ p) h = (h.0, are_divided k p h.1)

  each_divided : (Q : Monomial Symbol → Type 0) (k : ℤ) (p : Contributions Symbol) → EachMonomial Q p → EachMonomial Q (divided k p)
  each_divided Q k [] h = tt
  each_divided Q k (t ∷ p) h = (h.0, each_divided Q k p h.1)

  pub each_negated : (Q : Monomial Symbol → Type 0) (p : Contributions Symbol) → EachMonomial Q p → EachMonomial Q (negated p)
  each_negated Q [] h = tt
  each_negated Q (t ∷ p) h = (h.0, each_negated Q p h.1)

  module _ (v : Symbol) where
    total_power : (j : ℕ) (h : Monomial Symbol → ℤ) (p : Contributions Symbol) → EachMonomial (IsWithout order v) p → total (marked g.cmp v j h) (times_power g.cmp v j p) ≡ total h p
    unfolding total
    total_power zero h p i = total_marked_none order v h p i
    total_power (suc j) h [] i = refl
    total_power (suc j) h (t ∷ p) i = ap₂ (λ x y. t.1 *ℤ x +ℤ y) (marked_power order v j h t.0 i.0) (total_power (suc j) h p i.1)

    are_without : (p : Contributions Symbol) → EachMonomial (IsWithout order v) p → AreMonomials g.cmp p
    are_without [] h = tt
    are_without (t ∷ p) h = (h.0.0, are_without p h.1)

    none_without : (p : Contributions Symbol) → EachMonomial (IsWithout order v) p → AtMost g.cmp v 0 p
    none_without [] h = tt
    none_without (t ∷ p) h = let e : exponent g.cmp v t.0 ≡ 0 = h.0.1 in (zero_most (exponent g.cmp v t.0) e, none_without p h.1)
      where
        zero_most : (x : ℕ) → x ≡ 0 → x ≤ 0
        zero_most x e = omega arith

    -- the leading parts of the two products of a step are equal
    parts_cancel : (h : Monomial Symbol → ℤ) (f p m : Polynomial Symbol) (d e k : ℕ)
        → AreMonomials g.cmp f → AreMonomials g.cmp p → AtMost g.cmp v d f → AtMost g.cmp v e p → e ≤ d → EachMonomial (IsWithout order v) m → EachMonomial (IsWithout order v) (coefficient_of g.cmp v d f)
        → AreMonomials g.cmp (times_power g.cmp v (d - e) (divided (pos k) (coefficient_of g.cmp v d f))) → AtMost g.cmp v (d - e) (times_power g.cmp v (d - e) (divided (pos k) (coefficient_of g.cmp v d f)))
        → made (coefficient_of g.cmp v e p) ≡ m → Divides k m → Divides k (coefficient_of g.cmp v d f)
        → total (marked g.cmp v d h) (pairs g.cmp (divided (pos k) m) f) ≡ total (marked g.cmp v d h) (pairs g.cmp (times_power g.cmp v (d - e) (divided (pos k) (coefficient_of g.cmp v d f))) p)
    parts_cancel h f p m d e k i-f i-p a-f a-p le w-m w-c i-t a-t made-is div-m div-c =
        let c : Contributions Symbol = coefficient_of g.cmp v d f in
        let mk : Contributions Symbol = divided (pos k) m in
        let ck : Contributions Symbol = divided (pos k) c in
        let zero_is : d ≡ 0 + d = omega arith in
        let whole_is : d ≡ (d - e) + e = omega arith in
        let w-mk : EachMonomial (IsWithout order v) mk = each_divided (IsWithout order v) (pos k) m w-m in
        let w-ck : EachMonomial (IsWithout order v) ck = each_divided (IsWithout order v) (pos k) c w-c in
        let left : total (marked g.cmp v d h) (pairs g.cmp mk f) ≡ cross h mk c =
        ap (λ x. total (marked g.cmp v x h) (pairs g.cmp mk f)) zero_is ∙ top_of_product order v 0 d h mk f (are_without mk w-mk) i-f (none_without mk w-mk) a-f
        ∙ total_without order v (λ x. total (λ y. h (monomial_product g.cmp x y)) c) mk w-mk in
        let right : total (marked g.cmp v d h) (pairs g.cmp (times_power g.cmp v (d - e) ck) p) ≡ cross h ck m =
        ap (λ x. total (marked g.cmp v x h) (pairs g.cmp (times_power g.cmp v (d - e) ck) p)) whole_is ∙ top_of_product order v (d - e) e h (times_power g.cmp v (d - e) ck) p i-t i-p a-t a-p
        ∙ total_coefficient g.cmp v (d - e) (λ x. total (λ y. h (monomial_product g.cmp x y)) (coefficient_of g.cmp v e p)) (times_power g.cmp v (d - e) ck)
        ∙ total_power (d - e) (λ x. total (λ y. h (monomial_product g.cmp x y)) (coefficient_of g.cmp v e p)) ck w-ck
        ∙ total_same g.cmp (λ x. total (λ y. h (monomial_product g.cmp x y)) (coefficient_of g.cmp v e p)) (λ x. total (λ y. h (monomial_product g.cmp x y)) m)
        (λ x. sym (total_collect order (λ y. h (monomial_product g.cmp x y)) (coefficient_of g.cmp v e p)) ∙ ap (total (λ y. h (monomial_product g.cmp x y))) made-is) ck in
        left ∙ cross_divided h (pos k) k refl mk c div-c ∙ ap (λ x. pos k *ℤ x) (cross_commutes h mk ck (are_without mk w-mk) (are_without ck w-ck))
        ∙ sym (right ∙ cross_divided h (pos k) k refl ck m div-m)

  -- ---- exponents of the operations
  most_weaken : (u : Symbol) (a b : ℕ) (p : Contributions Symbol) → a ≤ b → AtMost g.cmp u a p → AtMost g.cmp u b p
  most_weaken u a b [] h k = tt
  most_weaken u a b (t ∷ p) h k = let x : exponent g.cmp u t.0 ≤ a = k.0 in (up (exponent g.cmp u t.0) x, most_weaken u a b p h k.1)
    where
      up : (x : ℕ) → x ≤ a → x ≤ b
      up x k = omega arith

  most_times : (u : Symbol) (a b : ℕ) (m : Monomial Symbol) (c : ℤ) (q : Contributions Symbol) → exponent g.cmp u m ≤ a → AtMost g.cmp u b q → AtMost g.cmp u (a + b) (term_times g.cmp m c q)
  most_times u a b m c [] h k = tt
  most_times u a b m c (t ∷ q) h k =
      let x : exponent g.cmp u t.0 ≤ b = k.0 in
      (added_up (exponent g.cmp u (monomial_product g.cmp m t.0)) (exponent g.cmp u m) (exponent g.cmp u t.0) (exponent_product order u m t.0) h x, most_times u a b m c q h k.1)
    where
      added_up : (z x y : ℕ) → z ≡ x + y → x ≤ a → y ≤ b → z ≤ a + b
      added_up z x y e h k = omega arith

  most_pairs : (u : Symbol) (a b : ℕ) (p q : Contributions Symbol) → AtMost g.cmp u a p → AtMost g.cmp u b q → AtMost g.cmp u (a + b) (pairs g.cmp p q)
  most_pairs u a b [] q h k = tt
  most_pairs u a b (t ∷ p) q h k =
      each-append g.cmp (λ m. exponent g.cmp u m ≤ a + b) (term_times g.cmp t.0 t.1 q) (pairs g.cmp p q) (most_times u a b t.0 t.1 q h.0 k) (most_pairs u a b p q h.1 k)

  most_made : (u : Symbol) (a : ℕ) (p : Contributions Symbol) → AtMost g.cmp u a p → AtMost g.cmp u a (made p)
  most_made u a p h = each_collect g.cmp (λ m. exponent g.cmp u m ≤ a) p h

  pub each_coefficient : (P Q : Monomial Symbol → Type 0) (v : Symbol) (k : ℕ) → ((m : Monomial Symbol) → P m → Q (without g.cmp v m)) → (p : Contributions Symbol) → EachMonomial P p → EachMonomial Q (coefficient_of g.cmp v k p)
  each_coefficient P Q v k f [] h = tt
  each_coefficient P Q v k f (t ∷ p) h = by_test (eqb (exponent g.cmp v t.0) k) (each_coefficient P Q v k f p h.1)
    where
      by_test : (b : Bool) → EachMonomial Q (coefficient_of g.cmp v k p) → EachMonomial Q (cond b ((without g.cmp v t.0, t.1) ∷ coefficient_of g.cmp v k p) (coefficient_of g.cmp v k p))
      by_test true r = (f t.0 h.0, r)
      by_test false r = r

  pub each_monomial : (p : Contributions Symbol) → AreMonomials g.cmp p → EachMonomial (IsMonomial g.cmp) p
  each_monomial [] h = tt
  each_monomial (t ∷ p) h = (h.0, each_monomial p h.1)

  pub each_times : (P Q : Monomial Symbol → Type 0) (v : Symbol) (j : ℕ) → ((m : Monomial Symbol) → P m → Q m) → ((i : ℕ) (m : Monomial Symbol) → i < j → P m → Q (with_power g.cmp v (suc i) m)) → (p : Contributions Symbol) → EachMonomial P p → EachMonomial Q (times_power g.cmp v j p)
  each_times P Q v zero f h [] k = tt
  each_times P Q v zero f h (t ∷ p) k = (f t.0 k.0, each_times P Q v zero f h p k.1)
  each_times P Q v (suc j) f h [] k = tt
  each_times P Q v (suc j) f h (t ∷ p) k = (h j t.0 (omega arith) k.0, each_times P Q v (suc j) f h p k.1)

  power_most : (v : Symbol) (j : ℕ) (p : Contributions Symbol) → EachMonomial (IsWithout order v) p → AtMost g.cmp v j (times_power g.cmp v j p)
  power_most v j p h =
      each_times (IsWithout order v) (λ m. exponent g.cmp v m ≤ j) v j (λ m k. none (exponent g.cmp v m) k.1)
      (λ i m l k. some i (exponent g.cmp v (with_power g.cmp v (suc i) m)) (exponent g.cmp v m) l k.1 (exponent_put order v v (suc i) m)) p h
    where
      none : (x : ℕ) → x ≡ 0 → x ≤ j
      none x e = omega arith

      some : (i x y : ℕ) → i < j → y ≡ 0 → x ≤ suc i + y → x ≤ j
      some i x y l e h = omega arith

  pub monomials_each : (p : Contributions Symbol) → EachMonomial (IsMonomial g.cmp) p → AreMonomials g.cmp p
  monomials_each [] h = tt
  monomials_each (t ∷ p) h = (h.0, monomials_each p h.1)

  -- no symbol above v gets a greater degree by a step at v
  pub above_kept : (u v : Symbol) (a : ℕ) (f p m r : Polynomial Symbol) (d e : ℕ) → g.cmp v u ≡ Less → AtMost g.cmp u a f → AtMost g.cmp u 0 p → AtMost g.cmp u 0 m → step_by g f p m v d e ≡ Ok r → AtMost g.cmp u a r
  unfolding norm
  above_kept u v a f p m r d e low a-f a-p a-m s =
      let c : Contributions Symbol = coefficient_of g.cmp v d f in
      let k : ℕ = gcd (content m) (content c) in
      let mk : Contributions Symbol = divided (pos k) m in
      let vck : Contributions Symbol = times_power g.cmp v (d - e) (divided (pos k) c) in
      let s0 = bind_ok (reduction_by g f p m v d e) _ r s in
      let s1 = bind_ok (product_answer g mk f) _ s0.0 s0.1 in
      let s2 = bind_ok (product_answer g vck p) _ s0.0 s1.2 in
      let s3 = bind_ok (difference_answer g s1.0 s2.0) _ s0.0 s2.2 in
      let result_is : norm s3.0 ≡ r = ap (λ (z : Reduction). norm z.rest) (ok_same (record { factor = mk; shift = vck; rest = s3.0 }) s0.0 s3.2) ∙ ok_same (norm s0.0.rest) r s0.2 in
      let q : Monomial Symbol → Type 0 = λ m. exponent g.cmp u m ≤ a in
      let a-c : AtMost g.cmp u a c = each_coefficient q q v d (λ m h. let x : exponent g.cmp u (without g.cmp v m) ≤ exponent g.cmp u m = exponent_fewer order v u m in omega arith) f a-f in
      let a-vck : AtMost g.cmp u a vck = each_times q q v (d - e) (λ m h. h) (λ i m l h. subst (λ x. x ≤ a) (sym (exponent_below order u v (suc i) m low)) h) (divided (pos k) c) (each_divided q (pos k) c a-c) in
      let a-left : AtMost g.cmp u a s1.0 = subst (AtMost g.cmp u a) (operation_is g (pairs g.cmp mk f) s1.0 s1.1) (most_made u a (pairs g.cmp mk f) (most_weaken u (0 + a) a (pairs g.cmp mk f) (omega arith) (most_pairs u 0 a mk f (each_divided (λ m. exponent g.cmp u m ≤ 0) (pos k) m a-m) a-f))) in
      let a-right : AtMost g.cmp u a s2.0 = subst (AtMost g.cmp u a) (operation_is g (pairs g.cmp vck p) s2.0 s2.1) (most_made u a (pairs g.cmp vck p) (most_weaken u (a + 0) a (pairs g.cmp vck p) (omega arith) (most_pairs u a 0 vck p a-vck a-p))) in
      let a-rest : AtMost g.cmp u a s3.0 = subst (AtMost g.cmp u a) (operation_is g (s1.0 ++ negated s2.0) s3.0 s3.1) (most_made u a (s1.0 ++ negated s2.0) (each-append g.cmp q s1.0 (negated s2.0) a-left (each_negated q s2.0 a-right))) in
      subst (AtMost g.cmp u a) result_is (each_divided q (signed_content s3.0) s3.0 a-rest)

  -- where the parts with v^(d + 1) of two products are the same, their difference has a lower degree in v
  difference_lowered : (v : Symbol) (d : ℕ) (ms ns : Contributions Symbol) (left right rest : Polynomial Symbol) → AreMonomials g.cmp ms → AreMonomials g.cmp ns → AtMost g.cmp v (suc d) ms → AtMost g.cmp v (suc d) ns
      → ((h : Monomial Symbol → ℤ) → total (marked g.cmp v (suc d) h) ms ≡ total (marked g.cmp v (suc d) h) ns) → made ms ≡ left → made ns ≡ right → made (left ++ negated right) ≡ rest → AtMost g.cmp v d rest
  difference_lowered v d ms ns left right rest m-ms m-ns a-ms a-ns same left-is right-is rest-is =
      let q : Monomial Symbol → Type 0 = λ m. exponent g.cmp v m ≤ suc d in
      let m-left : AreMonomials g.cmp left = subst (AreMonomials g.cmp) left-is (are_monomials order (made ms) (collect_is order ms m-ms)) in
      let m-right : AreMonomials g.cmp right = subst (AreMonomials g.cmp) right-is (are_monomials order (made ns) (collect_is order ns m-ns)) in
      let i-rest : IsPolynomial g.cmp rest = subst (IsPolynomial g.cmp) rest-is (collect_is order (left ++ negated right) (monomials-append order left (negated right) m-left (monomials_each (negated right) (each_negated (IsMonomial g.cmp) right (each_monomial right m-right))))) in
      let a-left : AtMost g.cmp v (suc d) left = subst (AtMost g.cmp v (suc d)) left-is (most_made v (suc d) ms a-ms) in
      let a-right : AtMost g.cmp v (suc d) right = subst (AtMost g.cmp v (suc d)) right-is (most_made v (suc d) ns a-ns) in
      let a-rest : AtMost g.cmp v (suc d) rest = subst (AtMost g.cmp v (suc d)) rest-is (most_made v (suc d) (left ++ negated right) (each-append g.cmp q left (negated right) a-left (each_negated q right a-right))) in
      let zero : (h : Monomial Symbol → ℤ) → total (marked g.cmp v (suc d) h) rest ≡ pos 0 = λ h.
      ap (total (marked g.cmp v (suc d) h)) (sym rest-is) ∙ total_collect order (marked g.cmp v (suc d) h) (left ++ negated right) ∙ total-append (marked g.cmp v (suc d) h) left (negated right)
      ∙ ap (λ x. x +ℤ total (marked g.cmp v (suc d) h) (negated right))
      (ap (total (marked g.cmp v (suc d) h)) (sym left-is) ∙ total_collect order (marked g.cmp v (suc d) h) ms ∙ same h ∙ sym (ap (total (marked g.cmp v (suc d) h)) (sym right-is) ∙ total_collect order (marked g.cmp v (suc d) h) ns))
      ∙ total_negated (marked g.cmp v (suc d) h) right in
      let none : only g.cmp v (suc d) rest ≡ [] = none_only order v (suc d) rest i-rest (λ h. kept_marked order v d h rest (are_monomials order rest i-rest) ∙ zero (λ n. h (with_power g.cmp v (suc d) n))) in
      fewer order v d rest a-rest none

  -- where s and t are the coefficients of v in a and b, of degree at most one in v, v does not occur in t * a - s * b
  pub cross_lowered : (v : Symbol) (a b s t left right rest : Polynomial Symbol) → IsPolynomial g.cmp a → IsPolynomial g.cmp b → EachMonomial (IsWithout order v) s → EachMonomial (IsWithout order v) t → AtMost g.cmp v 1 a → AtMost g.cmp v 1 b
      → made (coefficient_of g.cmp v 1 a) ≡ s → made (coefficient_of g.cmp v 1 b) ≡ t → product_answer g t a ≡ Ok left → product_answer g s b ≡ Ok right → difference_answer g left right ≡ Ok rest → AtMost g.cmp v 0 rest
  cross_lowered v a b s t left right rest i-a i-b w-s w-t a-a a-b of-a of-b e-left e-right e-rest =
      let m-a : AreMonomials g.cmp a = are_monomials order a i-a in
      let m-b : AreMonomials g.cmp b = are_monomials order b i-b in
      let m-s : AreMonomials g.cmp s = are_without v s w-s in
      let m-t : AreMonomials g.cmp t = are_without v t w-t in
      difference_lowered v 0 (pairs g.cmp t a) (pairs g.cmp s b) left right rest (monomials_pairs order t a m-t m-a) (monomials_pairs order s b m-s m-b)
      (most_pairs v 0 1 t a (none_without v t w-t) a-a) (most_pairs v 0 1 s b (none_without v s w-s) a-b)
      (λ h. top h t a s m-t m-a w-t a-a of-a ∙ cross_commutes h t s m-t m-s ∙ sym (top h s b t m-s m-b w-s a-b of-b))
      (operation_is g (pairs g.cmp t a) left e-left) (operation_is g (pairs g.cmp s b) right e-right) (operation_is g (left ++ negated right) rest e-rest)
    where
      top : (h : Monomial Symbol → ℤ) (x p y : Polynomial Symbol) → AreMonomials g.cmp x → AreMonomials g.cmp p → EachMonomial (IsWithout order v) x → AtMost g.cmp v 1 p → made (coefficient_of g.cmp v 1 p) ≡ y
          → total (marked g.cmp v 1 h) (pairs g.cmp x p) ≡ cross h x y
      top h x p y m-x m-p w-x a-p of-p =
          top_of_product order v 0 1 h x p m-x m-p (none_without v x w-x) a-p
          ∙ total_without order v (λ x. total (λ y. h (monomial_product g.cmp x y)) (coefficient_of g.cmp v 1 p)) x w-x
          ∙ total_same g.cmp (λ x. total (λ y. h (monomial_product g.cmp x y)) (coefficient_of g.cmp v 1 p)) (λ x. total (λ z. h (monomial_product g.cmp x z)) y)
          (λ x. sym (total_collect order (λ y. h (monomial_product g.cmp x y)) (coefficient_of g.cmp v 1 p)) ∙ ap (total (λ y. h (monomial_product g.cmp x y))) of-p) x

  -- a step at v lowers the degree there
  pub degree_lowered : (v : Symbol) (f p m r : Polynomial Symbol) (d e : ℕ) → IsPolynomial g.cmp f → IsPolynomial g.cmp p → EachMonomial (IsWithout order v) m → AtMost g.cmp v (suc d) f → AtMost g.cmp v e p → e ≤ suc d
      → made (coefficient_of g.cmp v e p) ≡ m → step_by g f p m v (suc d) e ≡ Ok r → AtMost g.cmp v d r
  unfolding norm
  degree_lowered v f p m r d e i-f i-p w-m a-f a-p le made-is s =
      let c : Contributions Symbol = coefficient_of g.cmp v (suc d) f in
      let k : ℕ = gcd (content m) (content c) in
      let both = gcd_is (content m) (content c) in
      let mk : Contributions Symbol = divided (pos k) m in
      let ck : Contributions Symbol = divided (pos k) c in
      let vck : Contributions Symbol = times_power g.cmp v (suc d - e) ck in
      let s0 = bind_ok (reduction_by g f p m v (suc d) e) _ r s in
      let s1 = bind_ok (product_answer g mk f) _ s0.0 s0.1 in
      let s2 = bind_ok (product_answer g vck p) _ s0.0 s1.2 in
      let s3 = bind_ok (difference_answer g s1.0 s2.0) _ s0.0 s2.2 in
      let result_is : norm s3.0 ≡ r = ap (λ (z : Reduction). norm z.rest) (ok_same (record { factor = mk; shift = vck; rest = s3.0 }) s0.0 s3.2) ∙ ok_same (norm s0.0.rest) r s0.2 in
      let m-f : AreMonomials g.cmp f = are_monomials order f i-f in
      let m-p : AreMonomials g.cmp p = are_monomials order p i-p in
      let w-c : EachMonomial (IsWithout order v) c = each_coefficient (IsMonomial g.cmp) (IsWithout order v) v (suc d) (λ m h. (without_is order v m h, exponent_without order v m)) f (each_monomial f m-f) in
      let w-ck : EachMonomial (IsWithout order v) ck = each_divided (IsWithout order v) (pos k) c w-c in
      let w-mk : EachMonomial (IsWithout order v) mk = each_divided (IsWithout order v) (pos k) m w-m in
      let m-vck : AreMonomials g.cmp vck = monomials_each vck (each_times (IsWithout order v) (IsMonomial g.cmp) v (suc d - e) (λ m h. h.0) (λ i m l h. with_power_is order v (suc i) m (omega arith) h.0) ck w-ck) in
      let a-vck : AtMost g.cmp v (suc d - e) vck = power_most v (suc d - e) ck w-ck in
      let lowered : AtMost g.cmp v d s3.0 = difference_lowered v d (pairs g.cmp mk f) (pairs g.cmp vck p) s1.0 s2.0 s3.0 (monomials_pairs order mk f (are_without v mk w-mk) m-f) (monomials_pairs order vck p m-vck m-p)
      (most_weaken v (0 + suc d) (suc d) (pairs g.cmp mk f) (omega arith) (most_pairs v 0 (suc d) mk f (none_without v mk w-mk) a-f))
      (most_weaken v ((suc d - e) + e) (suc d) (pairs g.cmp vck p) (omega arith) (most_pairs v (suc d - e) e vck p a-vck a-p))
      (λ h. parts_cancel v h f p m (suc d) e k m-f m-p a-f a-p le w-m w-c m-vck a-vck made-is (divides_more k (content m) m both.0 (content_divides m)) (divides_more k (content c) c both.1 (content_divides c)))
      (operation_is g (pairs g.cmp mk f) s1.0 s1.1) (operation_is g (pairs g.cmp vck p) s2.0 s2.1) (operation_is g (s1.0 ++ negated s2.0) s3.0 s3.1) in
      subst (AtMost g.cmp v d) result_is (each_divided (λ m. exponent g.cmp v m ≤ d) (signed_content s3.0) s3.0 lowered)
