-- Sums of the components of rows times weights, in a ring: that of a combination is the combination of both sums.
use Rattle.std.proofs.Common.{◌≡◌, ◌∙◌, ℕ, zero, suc, List, [], ◌∷◌, length, map, ℤ, pos, refl, sym, ap, ap₂, arith, subst, Ok}
use Rattle.std.specs.Prelude.{max}
use Rattle.std.proofs.Math.Nat.{one-dvd}
use Rattle.std.proofs.lemmas.Nat.Gcd.{dvd_refl, dvd_trans}
use Prim.Native.Nat.{◌∣◌}
use Rattle.dz_algebra.specs.Norm.{content}
use Rattle.dz_algebra.specs.Polynomial.{Polynomial, scaled}
use Rattle.dz_algebra.specs.Ring.{Ring, product_zero, negative_zero, sum_times, negative_product, negative_sum, sum_of_sums}
use Rattle.dz_algebra.specs.Size.{product_answer}
use Rattle.dz_algebra.specs.Value.{monomial_value, whole_in}
use Rattle.dz_algebra.proofs.Divisors.{gcd_is}
use Rattle.dz_algebra.proofs.Norms.{Divides, content_divides, divides_more, value_divided}
use Rattle.dz_algebra.proofs.Values.{whole_in-*ℤ}
use Rattle.dz_rank.specs.Rankings.{RankingValue}
use Rattle.dz_rank.specs.declared.symbols.Symbol.{Symbol}
use Rattle.dz_monomials.specs.Ranked.{symbols_under}
use Rattle.dz_monomials.specs.Lists.{AllOf}
use Rattle.dz_diff.specs.Tests.{Polynomials}
use Rattle.dz_algebra.proofs.Outcomes.{bind_ok, ok_same}
use Rattle.dz_ask.proofs.RingValues.{val, value_difference, value_product}
use Rattle.dz_regular.specs.Combining.{Multipliers, crossed, crossed_all, common_content, divided_all, row_divisor}

-- ---- in a ring
module _ {R : Type 0} (ring : Ring R) where
  -- the sum of the products of elements and weights
  abbrev pub dot : List R → List R → R
  dot [] ws = ring.zero
  dot (x ∷ xs) [] = ring.zero
  dot (x ∷ xs) (w ∷ ws) = ring.sum (ring.product x w) (dot xs ws)

  -- a combination of two elements
  abbrev pub cross : R → R → R → R → R
  cross a b x y = ring.sum (ring.product a x) (ring.negative (ring.product b y))

  -- times a weight
  cross_times : (a b x y w : R) → ring.product (cross a b x y) w ≡ cross a b (ring.product x w) (ring.product y w)
  cross_times a b x y w =
      sum_times ring (ring.product a x) (ring.negative (ring.product b y)) w
      ∙ ap₂ ring.sum (ring.product_associates a x w) (negative_product ring (ring.product b y) w ∙ ap ring.negative (ring.product_associates b y w))

  -- the sum of two
  cross_sum : (a b x y u v : R) → ring.sum (cross a b x y) (cross a b u v) ≡ cross a b (ring.sum x u) (ring.sum y v)
  cross_sum a b x y u v =
      sum_of_sums ring (ring.product a x) (ring.negative (ring.product b y)) (ring.product a u) (ring.negative (ring.product b v))
      ∙ ap₂ ring.sum (sym (ring.product_distributes a x u)) (sym (negative_sum ring (ring.product b y) (ring.product b v)) ∙ ap ring.negative (sym (ring.product_distributes b y v)))

  -- that of two zeros
  pub cross_zero : (a b : R) → cross a b ring.zero ring.zero ≡ ring.zero
  cross_zero a b = ap₂ (λ p q. ring.sum p (ring.negative q)) (product_zero ring a) (product_zero ring b) ∙ ap (ring.sum ring.zero) (negative_zero ring) ∙ ring.zero_is_neutral ring.zero

-- ---- of polynomials
module _ {R : Type 0} (ring : Ring R) (r : RankingValue) (at : Symbol → R) where
  -- the value of a polynomial
  abbrev v : Polynomial Symbol → R
  v p = val ring r at p

  -- of a component of a combination
  value_crossed : (m : Multipliers) (x y z : Polynomial Symbol) → crossed (symbols_under r) m x y ≡ Ok z → v z ≡ cross ring (v m.first) (v m.second) (v x) (v y)
  value_crossed m x y z e =
      let a = bind_ok (product_answer (symbols_under r) m.first x) _ z e in
      let b = bind_ok (product_answer (symbols_under r) m.second y) _ z a.2 in
      value_difference ring r at a.0 b.0 z b.2 ∙ ap₂ (λ p q. ring.sum p (ring.negative q)) (value_product ring r at m.first x a.0 a.1) (value_product ring r at m.second y b.0 b.1)

  -- the sum of a combination
  pub dot_crossed : (m : Multipliers) (xs ys zs : Polynomials) (ws : List R) → length xs ≡ length ys → crossed_all (symbols_under r) m xs ys ≡ Ok zs
      → dot ring (map v zs) ws ≡ cross ring (v m.first) (v m.second) (dot ring (map v xs) ws) (dot ring (map v ys) ws)
  dot_crossed m [] [] zs ws l e = ap (λ zs. dot ring (map v zs) ws) (sym (ok_same [] zs e)) ∙ sym (cross_zero ring (v m.first) (v m.second))
  dot_crossed m [] (y ∷ ys) zs ws l e = absurd (omega (arith, l))
  dot_crossed m (x ∷ xs) [] zs ws l e = absurd (omega (arith, l))
  dot_crossed m (x ∷ xs) (y ∷ ys) zs ws l e =
      let a = bind_ok (crossed (symbols_under r) m x y) _ zs e in
      let b = bind_ok (crossed_all (symbols_under r) m xs ys) _ zs a.2 in
      ap (λ zs. dot ring (map v zs) ws) (sym (ok_same (a.0 ∷ b.0) zs b.2)) ∙ by_weight a.0 b.0 a.1 (λ us. dot_crossed m xs ys b.0 us (omega (arith, l)) b.1) ws
    where
      by_weight : (z : Polynomial Symbol) (others : Polynomials) → crossed (symbols_under r) m x y ≡ Ok z
          → ((us : List R) → dot ring (map v others) us ≡ cross ring (v m.first) (v m.second) (dot ring (map v xs) us) (dot ring (map v ys) us))
          → (us : List R) → dot ring (map v (z ∷ others)) us ≡ cross ring (v m.first) (v m.second) (dot ring (map v (x ∷ xs)) us) (dot ring (map v (y ∷ ys)) us)
      by_weight z others f more [] = sym (cross_zero ring (v m.first) (v m.second))
      by_weight z others f more (u ∷ us) =
          ap₂ ring.sum (ap (λ t. ring.product t u) (value_crossed m x y z f) ∙ cross_times ring (v m.first) (v m.second) (v x) (v y) u) (more us)
          ∙ cross_sum ring (v m.first) (v m.second) (ring.product (v x) u) (ring.product (v y) u) (dot ring (map v xs) us) (dot ring (map v ys) us)

  -- the sum of components that are divided, times the divisor
  pub dot_divided : (k : ℕ) (xs : Polynomials) (ws : List R) → AllOf (λ (p : Polynomial Symbol). Divides k p) xs → dot ring (map v xs) ws ≡ ring.product (whole_in ring.arithmetic (pos k)) (dot ring (map v (divided_all k xs)) ws)
  dot_divided k [] ws h = sym (product_zero ring _)
  dot_divided k (x ∷ xs) [] h = sym (product_zero ring _)
  dot_divided k (x ∷ xs) (w ∷ ws) h =
      ap₂ ring.sum (ap (λ t. ring.product t w) (value_divided ring at (pos k) k refl x h.0) ∙ ring.product_associates _ _ _) (dot_divided k xs ws h.1)
      ∙ sym (ring.product_distributes _ _ _)

  -- the value of a multiple
  pub value_scaled : (k : ℤ) (p : Polynomial Symbol) → v (scaled k p) ≡ ring.product (whole_in ring.arithmetic k) (v p)
  value_scaled k [] = sym (product_zero ring _)
  value_scaled k (t ∷ p) =
      ap₂ ring.sum (ap (λ x. ring.product x (monomial_value ring.arithmetic at t.0)) (whole_in-*ℤ ring k t.1) ∙ ring.product_associates _ _ _) (value_scaled k p)
      ∙ sym (ring.product_distributes _ _ _)

-- ---- the divisor of a row
-- a divisor of the common divisor divides each component
all_divide : (k : ℕ) (ps : Polynomials) → k ∣ common_content ps → AllOf (λ (p : Polynomial Symbol). Divides k p) ps
all_divide k [] h = tt
all_divide k (p ∷ ps) h =
    let g = gcd_is (content p) (common_content ps) in
    (divides_more k (content p) p (dvd_trans k h g.0) (content_divides p), all_divide k ps (dvd_trans k h g.1))

-- the divisor of a row divides each component
pub row_divides : (ps : Polynomials) → AllOf (λ (p : Polynomial Symbol). Divides (row_divisor ps) p) ps
row_divides ps = by_content (common_content ps) refl
  where
    by_content : (n : ℕ) → common_content ps ≡ n → AllOf (λ (p : Polynomial Symbol). Divides (max 1 n) p) ps
    by_content zero e = all_divide (max 1 zero) ps (subst (λ k. k ∣ common_content ps) (omega arith) (one-dvd (common_content ps)))
    by_content (suc n) e = all_divide (max 1 (suc n)) ps (subst (λ k. k ∣ common_content ps) (e ∙ omega arith) (dvd_refl (common_content ps)))
