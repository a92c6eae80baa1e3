-- Every row of a run is a row for the inequation.
use Rattle.std.specs.Prelude.{set, slice_index_or, cond}
use Rattle.std.proofs.Common.{◌≡◌, ◌≢◌, ◌∙◌, ◌≤◌, ◌+◌, ◌-◌, ◌==◌, ℕ, zero, suc, Bool, true, false, List, [], ◌∷◌, length, map, ℤ, pos, negsuc, refl, sym, ap, ap₂, arith, subst, Ok}
use Rattle.std.proofs.lemmas.Int.{ints}
use Rattle.dz_algebra.specs.Monomial.{without}
use Rattle.dz_algebra.specs.Norm.{divided}
use Rattle.dz_algebra.specs.Parts.{coefficient_of, degree}
use Rattle.dz_algebra.specs.Polynomial.{Polynomial, Contributions, AreMonomials, IsPolynomial, negated, polynomial_product, polynomial_sum, scaled}
use Rattle.dz_algebra.specs.Ring.{negative_negative, negative_product, opposite, right_neutral, sum_swaps, zero_product}
use Rattle.dz_algebra.specs.Size.{operation, product_answer}
use Rattle.dz_algebra.specs.Value.{whole_in}
use Rattle.dz_algebra.proofs.Canonical.{are_monomials, collect_is, monomials-append}
use Rattle.dz_algebra.proofs.Coefficients.{without_is}
use Rattle.dz_algebra.proofs.Derivations.{own_value}
use Rattle.dz_algebra.proofs.Generic.{itself}
use Rattle.dz_algebra.proofs.Monomials.{with_power_is}
use Rattle.dz_algebra.proofs.NormLaws.{scaled_is}
use Rattle.dz_algebra.proofs.Operations.{operation_canonical}
use Rattle.dz_algebra.proofs.PolynomialRing.{Canonical, same_canonical}
use Rattle.dz_algebra.proofs.Products.{monomials_pairs, polynomial_sum_is}
use Rattle.dz_rank.specs.Rankings.{RankingValue, ranking_cmp}
use Rattle.dz_rank.specs.declared.symbols.Symbol.{Symbol}
use Rattle.dz_monomials.specs.Ranked.{symbols_under}
use Rattle.dz_monomials.specs.Terms.{constant_polynomial, times_power}
use Rattle.dz_monomials.proofs.SymbolLaws.{ranking_order}
use Rattle.dz_monomials.specs.Lists.{AllOf}
use Rattle.dz_diff.specs.Tests.{Polynomials}
use Rattle.dz_algebra.proofs.Outcomes.{bind_ok, ok_same}
use Rattle.dz_ask.proofs.IdentitySides.{ring, same_by_value}
use Rattle.dz_ask.proofs.RingValues.{val, of_number_one, of_product, of_sum}
use Rattle.dz_regular.specs.Combining.{Multipliers, combined, crossed, crossed_all, divided_all, multipliers_of, primitive_row, row_divisor}
use Rattle.dz_regular.specs.Identities.{IsRowFor, sum_of_products}
use Rattle.dz_regular.specs.Rows.{equation_row, inequation_row, rest_of, zeros}
use Rattle.dz_regular.proofs.RowSums.{cross, cross_zero, dot, dot_crossed, dot_divided, row_divides, value_scaled}

-- ---- terms at monomials
module _ (r : RankingValue) where
  -- the terms stand at monomials
  abbrev pub Terms : Polynomial Symbol → Type 0
  Terms = AreMonomials (ranking_cmp r)

  terms_divided : (k : ℤ) (p : Polynomial Symbol) → Terms p → Terms (divided k p)
  terms_divided k [] h = tt
  terms_divided k (t ∷ p) h = (h.0, terms_divided k p h.1)

  terms_power : (s : Symbol) (k : ℕ) (p : Polynomial Symbol) → Terms p → Terms (times_power (ranking_cmp r) s k p)
  terms_power s zero p h = h
  terms_power s (suc k) [] h = tt
  terms_power s (suc k) (t ∷ p) h = (with_power_is (ranking_order r) s (suc k) t.0 (omega arith) h.0, terms_power s (suc k) p h.1)

  terms_negated : (p : Polynomial Symbol) → Terms p → Terms (negated p)
  terms_negated [] h = tt
  terms_negated (t ∷ p) h = (h.0, terms_negated p h.1)

  terms_made : (ts : Contributions Symbol) (p : Polynomial Symbol) → operation (symbols_under r) ts ≡ Ok p → Terms ts → Terms p
  terms_made ts p e h = are_monomials (ranking_order r) p (operation_canonical (symbols_under r) (ranking_order r) ts h p e)

  terms_crossed : (m : Multipliers) (x y z : Polynomial Symbol) → crossed (symbols_under r) m x y ≡ Ok z → Terms m.first → Terms m.second → Terms x → Terms y → Terms z
  terms_crossed m x y z e f s h k =
      let a = bind_ok (product_answer (symbols_under r) m.first x) _ z e in
      let b = bind_ok (product_answer (symbols_under r) m.second y) _ z a.2 in
      terms_made _ z b.2
      (monomials-append (ranking_order r) a.0 (negated b.0) (terms_made _ a.0 a.1 (monomials_pairs (ranking_order r) m.first x f h)) (terms_negated b.0 (terms_made _ b.0 b.1 (monomials_pairs (ranking_order r) m.second y s k))))

  -- of a combination, which has as many components
  made_crossed : (m : Multipliers) (xs ys zs : Polynomials) → length xs ≡ length ys → crossed_all (symbols_under r) m xs ys ≡ Ok zs → Terms m.first → Terms m.second → AllOf Terms xs → AllOf Terms ys
      → AllOf Terms zs × (length zs ≡ length xs)
  made_crossed m [] [] zs l e f s h k = subst (λ (zs : Polynomials). AllOf Terms zs × (length zs ≡ 0)) (ok_same [] zs e) (tt, refl)
  made_crossed m [] (y ∷ ys) zs l e f s h k = absurd (omega (arith, l))
  made_crossed m (x ∷ xs) [] zs l e f s h k = absurd (omega (arith, l))
  made_crossed m (x ∷ xs) (y ∷ ys) zs l e f s h k =
      let a = bind_ok (crossed (symbols_under r) m x y) _ zs e in
      let b = bind_ok (crossed_all (symbols_under r) m xs ys) _ zs a.2 in
      let more = made_crossed m xs ys b.0 (omega (arith, l)) b.1 f s h.1 k.1 in
      let width : suc (length b.0) ≡ suc (length xs) = ap suc more.1 in
      subst (λ (zs : Polynomials). AllOf Terms zs × (length zs ≡ suc (length xs))) (ok_same (a.0 ∷ b.0) zs b.2) ((terms_crossed m x y a.0 a.1 f s h.0 k.0, more.0), width)

  -- of components that are divided
  made_divided : (k : ℕ) (xs : Polynomials) → AllOf Terms xs → AllOf Terms (divided_all k xs) × (length (divided_all k xs) ≡ length xs)
  made_divided k [] h = (tt, refl)
  made_divided k (x ∷ xs) h = let more = made_divided k xs h.1 in ((terms_divided (pos k) x h.0, more.0), ap suc more.1)

  terms_coefficient : (s : Symbol) (k : ℕ) (p : Polynomial Symbol) → Terms p → Terms (coefficient_of (ranking_cmp r) s k p)
  terms_coefficient s k [] h = tt
  terms_coefficient s k (t ∷ p) h = by_test (_ == k) (terms_coefficient s k p h.1)
    where
      by_test : (b : Bool) → Terms (coefficient_of (ranking_cmp r) s k p) → Terms (cond b ((without (ranking_cmp r) s t.0, t.1) ∷ coefficient_of (ranking_cmp r) s k p) (coefficient_of (ranking_cmp r) s k p))
      by_test true m = (without_is (ranking_order r) s t.0 h.0, m)
      by_test false m = m

  terms_rest : (xs : Polynomials) → AllOf Terms xs → Terms (rest_of xs)
  terms_rest [] h = tt
  terms_rest (x ∷ xs) h = h.0

-- ---- multiples of polynomials
module _ (r : RankingValue) where
  -- a polynomial as an element of the ring of polynomials
  abbrev pub v : Polynomial Symbol → Canonical (ranking_order r)
  v p = val (ring r) r (itself (ranking_order r)) p

  no_multiple : (k : ℤ) (p : Polynomial Symbol) → scaled k p ≡ [] → p ≡ []
  no_multiple k [] e = refl
  no_multiple k (t ∷ p) e = cc

  positive_nonzero : (k : ℕ) → 1 ≤ k → pos k ≢ pos 0
  positive_nonzero k h e = omega (arith, ints)

  -- a whole number that is not zero goes out
  whole_cancels : (k : ℕ) → 1 ≤ k → (p : Canonical (ranking_order r)) → (ring r).product (whole_in (ring r).arithmetic (pos k)) p ≡ (ring r).zero → p ≡ (ring r).zero
  whole_cancels k h p e =
      let is = scaled_is (ranking_cmp r) (pos k) (positive_nonzero k h) p.0 p.1 in
      let none : scaled (pos k) p.0 ≡ [] = same_by_value r (scaled (pos k) p.0) [] is tt (value_scaled (ring r) r (itself (ranking_order r)) (pos k) p.0 ∙ ap ((ring r).product (whole_in (ring r).arithmetic (pos k))) (own_value (ranking_order r) p) ∙ e) in
      same_canonical (ranking_order r) p (ring r).zero (no_multiple (pos k) p.0 none)

-- ---- rows
module _ (r : RankingValue) (equations : Polynomials) (h : Polynomial Symbol) where
  -- the equations as weights
  abbrev equation_weights : List (Canonical (ranking_order r))
  equation_weights = map (v r) equations

  -- those of the rest, the cofactor and the parts
  abbrev weights : List (Canonical (ranking_order r))
  weights = (ring r).one ∷ (ring r).negative (v r h) ∷ equation_weights

  -- the components times the weights add up to zero
  pub record IsRelation (xs : Polynomials) : Type 0 where
    pub width : length xs ≡ length equations + 2
    pub terms : AllOf (Terms r) xs
    pub cancels : dot (ring r) (map (v r) xs) weights ≡ (ring r).zero

  -- a combination of two is one
  pub relation_combined : (s : Symbol) (xs ys zs : Polynomials) → IsRelation xs → IsRelation ys → combined (symbols_under r) s xs ys ≡ Ok zs → IsRelation zs
  relation_combined s xs ys zs of_x of_y e =
      let m = multipliers_of (symbols_under r) s (rest_of xs) (rest_of ys) in
      let a = bind_ok (crossed_all (symbols_under r) m xs ys) _ zs e in
      let same : length xs ≡ length ys = of_x.width ∙ sym of_y.width in
      let first = terms_divided r _ _ (terms_coefficient r s (degree (ranking_cmp r) s (rest_of ys)) (rest_of ys) (terms_rest r ys of_y.terms)) in
      let second = terms_power r s (degree (ranking_cmp r) s (rest_of xs) - degree (ranking_cmp r) s (rest_of ys)) _ (terms_divided r _ _ (terms_coefficient r s (degree (ranking_cmp r) s (rest_of xs)) (rest_of xs) (terms_rest r xs of_x.terms))) in
      let made = made_crossed r m xs ys a.0 same a.1 first second of_x.terms of_y.terms in
      let k = row_divisor a.0 in
      let divided = made_divided r k a.0 made.0 in
      let none : dot (ring r) (map (v r) a.0) weights ≡ (ring r).zero =
      dot_crossed (ring r) r (itself (ranking_order r)) m xs ys a.0 weights same a.1
      ∙ ap₂ (cross (ring r) (v r m.first) (v r m.second)) of_x.cancels of_y.cancels ∙ cross_zero (ring r) (v r m.first) (v r m.second) in
      let left = whole_cancels r k (omega arith) (dot (ring r) (map (v r) (divided_all k a.0)) weights) (sym (dot_divided (ring r) r (itself (ranking_order r)) k a.0 weights (row_divides a.0)) ∙ none) in
      subst IsRelation (ok_same (primitive_row a.0) zs a.2) (record { width = divided.1 ∙ made.1 ∙ of_x.width; terms = divided.0; cancels = left })

  -- ---- the first rows
  zeros_width : (n : ℕ) → length (zeros n) ≡ n
  zeros_width zero = refl
  zeros_width (suc n) = ap suc (zeros_width n)

  zeros_terms : (n : ℕ) → AllOf (Terms r) (zeros n)
  zeros_terms zero = tt
  zeros_terms (suc n) = (tt, zeros_terms n)

  -- zeros add up to zero
  dot_zeros : (n : ℕ) (ws : List (Canonical (ranking_order r))) → dot (ring r) (map (v r) (zeros n)) ws ≡ (ring r).zero
  dot_zeros zero ws = refl
  dot_zeros (suc n) [] = refl
  dot_zeros (suc n) (w ∷ ws) = ap₂ (ring r).sum (zero_product (ring r) w) (dot_zeros n ws) ∙ (ring r).zero_is_neutral (ring r).zero

  -- row 0
  pub relation_inequation : Terms r h → IsRelation (inequation_row equations h)
  relation_inequation t = record {
    width = ap (λ n. suc (suc n)) (zeros_width (length equations)) ∙ omega arith;
    terms = (t, ((tt, tt), zeros_terms (length equations)));
    cancels =
        ap₂ (λ a b. (ring r).sum ((ring r).product (v r h) (ring r).one) ((ring r).sum ((ring r).product a ((ring r).negative (v r h))) b)) (of_number_one (ring r) r (itself (ranking_order r))) (dot_zeros (length equations) equation_weights)
        ∙ ap₂ (ring r).sum ((ring r).product_commutes (v r h) (ring r).one ∙ (ring r).one_is_neutral (v r h)) (right_neutral (ring r) _ ∙ (ring r).one_is_neutral ((ring r).negative (v r h)))
        ∙ (ring r).sum_commutes _ _ ∙ (ring r).negative_is_inverse (v r h);
  }

  -- ---- the row of an equation
  -- minus one
  abbrev minus_one : Polynomial Symbol
  minus_one = constant_polynomial (negsuc 0)

  -- its value
  value_minus_one : v r minus_one ≡ (ring r).negative (ring r).one
  value_minus_one =
      right_neutral (ring r) _
      ∙ ap (λ x. (ring r).product x (ring r).one) (ap (ring r).negative (right_neutral (ring r) (ring r).one))
      ∙ negative_product (ring r) (ring r).one (ring r).one ∙ ap (ring r).negative ((ring r).one_is_neutral (ring r).one)

  -- the part -1 cancels the rest
  dot_unit : (es : Polynomials) (i : ℕ) → (ring r).sum (v r (slice_index_or es i [])) (dot (ring r) (map (v r) (set (zeros (length es)) i minus_one)) (map (v r) es)) ≡ (ring r).zero
  dot_unit [] i = (ring r).zero_is_neutral (ring r).zero
  dot_unit (e ∷ es) zero =
      ap₂ (λ a b. (ring r).sum (v r e) ((ring r).sum a b))
      (ap (λ x. (ring r).product x (v r e)) value_minus_one ∙ negative_product (ring r) (ring r).one (v r e) ∙ ap (ring r).negative ((ring r).one_is_neutral (v r e)))
      (dot_zeros (length es) (map (v r) es))
      ∙ ap ((ring r).sum (v r e)) (right_neutral (ring r) ((ring r).negative (v r e)))
      ∙ (ring r).sum_commutes (v r e) ((ring r).negative (v r e)) ∙ (ring r).negative_is_inverse (v r e)
  dot_unit (e ∷ es) (suc i) =
      ap ((ring r).sum (v r (slice_index_or es i []))) (ap (λ a. (ring r).sum a (dot (ring r) (map (v r) (set (zeros (length es)) i minus_one)) (map (v r) es))) (zero_product (ring r) (v r e)) ∙ (ring r).zero_is_neutral _)
      ∙ dot_unit es i

  unit_width : (n i : ℕ) → length (set (zeros n) i minus_one) ≡ n
  unit_width zero i = refl
  unit_width (suc n) zero = ap suc (zeros_width n)
  unit_width (suc n) (suc i) = ap suc (unit_width n i)

  unit_terms : (n i : ℕ) → AllOf (Terms r) (set (zeros n) i minus_one)
  unit_terms zero i = tt
  unit_terms (suc n) zero = ((tt, tt), zeros_terms n)
  unit_terms (suc n) (suc i) = (tt, unit_terms n i)

  member_terms : (es : Polynomials) (i : ℕ) → AllOf (Terms r) es → Terms r (slice_index_or es i [])
  member_terms [] i h = tt
  member_terms (e ∷ es) zero h = h.0
  member_terms (e ∷ es) (suc i) h = member_terms es i h.1

  pub relation_equation : (i : ℕ) → AllOf (Terms r) equations → IsRelation (equation_row equations i)
  relation_equation i t = record {
    width = ap (λ n. suc (suc n)) (unit_width (length equations) i) ∙ omega arith;
    terms = (member_terms equations i t, (tt, unit_terms (length equations) i));
    cancels =
        ap₂ (ring r).sum ((ring r).product_commutes (v r (slice_index_or equations i [])) (ring r).one ∙ (ring r).one_is_neutral (v r (slice_index_or equations i [])))
        (ap (λ a. (ring r).sum a (dot (ring r) (map (v r) (set (zeros (length equations)) i minus_one)) equation_weights)) (zero_product (ring r) ((ring r).negative (v r h))) ∙ (ring r).zero_is_neutral _)
        ∙ dot_unit equations i;
  }

  -- ---- what a relation means
  -- the sum of the parts times the equations, as a value
  value_sum_of_products : (cs es : Polynomials) → v r (sum_of_products (ranking_cmp r) cs es) ≡ dot (ring r) (map (v r) cs) (map (v r) es)
  value_sum_of_products [] es = refl
  value_sum_of_products (c ∷ cs) [] = refl
  value_sum_of_products (c ∷ cs) (e ∷ es) =
      of_sum (ring r) r (itself (ranking_order r)) (polynomial_product (ranking_cmp r) c e) (sum_of_products (ranking_cmp r) cs es)
      ∙ ap₂ (ring r).sum (of_product (ring r) r (itself (ranking_order r)) c e) (value_sum_of_products cs es)

  -- it is canonical, as a product and a sum are
  product_canonical : (a b : Polynomial Symbol) → Terms r a → Terms r b → IsPolynomial (ranking_cmp r) (polynomial_product (ranking_cmp r) a b)
  unfolding polynomial_product
  product_canonical a b f g = collect_is (ranking_order r) _ (monomials_pairs (ranking_order r) a b f g)

  sum_made : (a b : Polynomial Symbol) → Terms r a → Terms r b → IsPolynomial (ranking_cmp r) (polynomial_sum (ranking_cmp r) a b)
  unfolding polynomial_sum
  sum_made a b f g = collect_is (ranking_order r) _ (monomials-append (ranking_order r) a b f g)

  sum_canonical : (cs es : Polynomials) → AllOf (Terms r) cs → AllOf (Terms r) es → IsPolynomial (ranking_cmp r) (sum_of_products (ranking_cmp r) cs es)
  sum_canonical [] es a b = tt
  sum_canonical (c ∷ cs) [] a b = tt
  sum_canonical (c ∷ cs) (e ∷ es) a b = polynomial_sum_is (ranking_order r) _ _ (product_canonical c e a.0 b.0) (sum_canonical cs es a.1 b.1)

  -- what cancels a product is the negative of what is added to it
  put_over : (a b x y : Canonical (ranking_order r)) → (ring r).sum ((ring r).product a (ring r).one) ((ring r).sum ((ring r).product b ((ring r).negative x)) y) ≡ (ring r).zero → (ring r).product b x ≡ (ring r).sum a y
  put_over a b x y e =
      let p = (ring r).product b x in
      let product : (ring r).product b ((ring r).negative x) ≡ (ring r).negative p = (ring r).product_commutes b ((ring r).negative x) ∙ negative_product (ring r) x b ∙ ap (ring r).negative ((ring r).product_commutes x b) in
      let sum : (ring r).sum ((ring r).negative p) ((ring r).sum a y) ≡ (ring r).zero =
      sum_swaps (ring r) ((ring r).negative p) a y
      ∙ sym (ap₂ (ring r).sum ((ring r).product_commutes a (ring r).one ∙ (ring r).one_is_neutral a) (ap (λ z. (ring r).sum z y) product)) ∙ e in
      sym (negative_negative (ring r) p) ∙ sym (opposite (ring r) ((ring r).negative p) ((ring r).sum a y) sum)

  -- a relation is a row for the inequation
  pub relation_row : (xs : Polynomials) → Terms r h → AllOf (Terms r) equations → IsRelation xs → IsRowFor (ranking_cmp r) equations h xs
  relation_row [] t ts k = absurd (let w = k.width in omega (arith, w))
  relation_row (a ∷ []) t ts k = absurd (let w = k.width in omega (arith, w))
  relation_row (a ∷ b ∷ cs) t ts k =
      let w = k.width in
      record {
        rest = a;
        cofactor = b;
        parts = cs;
        components_are = refl;
        width = omega (arith, w);
        identity =
            same_by_value r _ _ (product_canonical b h k.terms.1.0 t) (sum_made a _ k.terms.0 (are_monomials (ranking_order r) _ (sum_canonical cs equations k.terms.1.1 ts)))
            (of_product (ring r) r (itself (ranking_order r)) b h
            ∙ put_over (v r a) (v r b) (v r h) (dot (ring r) (map (v r) cs) equation_weights) k.cancels
            ∙ sym (of_sum (ring r) r (itself (ranking_order r)) a (sum_of_products (ranking_cmp r) cs equations) ∙ ap ((ring r).sum (v r a)) (value_sum_of_products cs equations)));
      }
