-- An operator's derivative of a polynomial is linear in that of its leader, with the separant as coefficient.
use Rattle.std.specs.Prelude.{take, drop, sum, not, All, IsTrue}
use Rattle.std.proofs.Common.{◌≡◌, ℕ, zero, suc, ◌+◌, ◌==◌, ◌≤◌, ◌<◌, true, cond, List, [], ◌∷◌, length, ℤ, pos, ◌+ℤ◌, ◌*ℤ◌, refl, sym, ap, ap₂, ◌∙◌, arith, subst, eqb, Ok}
use Rattle.std.proofs.lemmas.List.Elements.{All-head, All-tail}
use Rattle.std.proofs.lemmas.List.Sums.{sum_by-cons}
use Rattle.std.specs.declared.cmp.Ordering.{Ordering}
use Rattle.std.specs.declared.cmp.Ordering.TheVariants.{Less, Equal, Greater}
use Rattle.std.specs.Ordering.{match_ordering}
use Rattle.std.specs.Cmp.{tied_itself}
use Rattle.dz_algebra.specs.Whole.{whole_ring}
use Rattle.dz_algebra.specs.Ring.{product_zero}
use Rattle.dz_algebra.specs.Order.{IsOrder, IsAbove}
use Rattle.dz_algebra.specs.Symbols.{Symbols}
use Rattle.dz_algebra.specs.Monomial.{Monomial, IsMonomial, MonomialIn, monomial_cmp, exponent, with_power, without}
use Rattle.dz_algebra.specs.Polynomial.{Polynomial, Contributions, AreMonomials, IsPolynomial, PolynomialIn, collect}
use Rattle.dz_algebra.specs.Derivation.{constant, unit, rate_by, once_less, times_rate, each_with_power, term_derivative, derivative_contributions}
use Rattle.dz_algebra.specs.Parts.{coefficient_of}
use Rattle.dz_algebra.specs.Size.{derivation_answer, separant_answer}
use Rattle.dz_algebra.proofs.Canonical.{are_monomials, collect_is}
use Rattle.dz_algebra.proofs.Derivations.{monomials_derivative}
use Rattle.dz_algebra.proofs.Operations.{operation_is}
use Rattle.dz_algebra.proofs.Orders.{less_reversed, greater_reversed}
use Rattle.dz_algebra.proofs.Totals.{total, total-append, same_by_totals}
use Rattle.dz_rank.specs.Rankings.{RankingValue, ranking_cmp}
use Rattle.dz_rank.specs.Symbols.{IsOperatorOf, derivative_by, exponent_sums, is_derivative, raised}
use Rattle.dz_rank.specs.declared.symbols.Operator.{Operator}
use Rattle.dz_rank.specs.declared.symbols.Symbol.{Symbol}
use Rattle.dz_rank.specs.declared.symbols.Symbol.TheVariants.{Derivative}
use Rattle.dz_rank.proofs.Raising.{grows}
use Rattle.dz_monomials.specs.Ranked.{symbol_rate, symbols_under}
use Rattle.dz_monomials.specs.Lists.{AllOf}
use Rattle.dz_diff.specs.Operators.{is_proper}
use Rattle.dz_diff.specs.Operations.{iterated_answer, derivations_answer, operator_answer, setting_of}
use Rattle.dz_algebra.proofs.Outcomes.{bind_ok}
use Rattle.dz_diff.proofs.MarkedSums.{EachMonomial, skipped, marked, total_coefficient, total_each, Free, marked_free, marked_top}
use Rattle.dz_diff.proofs.LeaderDerivations.{IsRaising, ranking_raises, IsUnder, length_raised, coefficients_are, total_empty, coefficient_of-derivation, derivation_linear}

first : (c : ℤ) (x : ℤ) → (c *ℤ pos 1) *ℤ x +ℤ pos 0 ≡ c *ℤ x
first c x = whole_ring.sum_commutes ((c *ℤ pos 1) *ℤ x) (pos 0) ∙ whole_ring.zero_is_neutral ((c *ℤ pos 1) *ℤ x) ∙ ap (λ y. y *ℤ x) (whole_ring.product_commutes c (pos 1) ∙ whole_ring.one_is_neutral c)

one_head : (f : Monomial Symbol → ℤ) (m : Monomial Symbol) (s : Symbol) (c : ℤ) (e : ℕ) → e ≡ 1 → total f ((once_less s e m, c *ℤ pos e) ∷ []) ≡ c *ℤ f m
unfolding total
one_head f m s c e k = ap (λ e. (c *ℤ pos e) *ℤ f (once_less s e m) +ℤ pos 0) k ∙ first c (f m)

nothing : (f : Monomial Symbol → ℤ) (x : ℤ) → total f [] +ℤ x ≡ x
unfolding total
nothing f x = whole_ring.zero_is_neutral x

module _ {cmp : Symbol → Symbol → Ordering} (order : IsOrder cmp) (w : Symbol) where
  above_free : (m : Monomial Symbol) → IsAbove cmp w m → Free order w m
  above_free [] h = tt
  above_free (p ∷ m) h = (less_reversed order.total w p.0 h.0, above_free m h.1)

  above_left : (s : Symbol) (m : Monomial Symbol) → IsAbove cmp s m → IsAbove cmp s (without cmp w m)
  above_left s [] a = tt
  above_left s (p ∷ m) a =
      elim (cmp w p.0) as (λ o. IsAbove cmp s (match_ordering o (p ∷ without cmp w m) (without cmp w m) (p ∷ without cmp w m))) [
        | Less ↦ (a.0, above_left s m a.1)
        | Equal ↦ above_left s m a.1
        | Greater ↦ (a.0, above_left s m a.1)
      ]

  with_power_above : (s : Symbol) (e : ℕ) (m : Monomial Symbol) → IsAbove cmp s m → with_power cmp s e m ≡ (s, e) ∷ m
  with_power_above s e [] h = refl
  with_power_above s e (p ∷ m) h = ap (λ o. match_ordering o (p ∷ with_power cmp s e m) ((p.0, e + p.1) ∷ m) ((s, e) ∷ p ∷ m)) h.0

  -- a symbol that is not w is passed
  marked_past : (f : Monomial Symbol → ℤ) (p : Symbol × ℕ) (m : Monomial Symbol) → IsAbove cmp p.0 m → (cmp w p.0 ≡ Equal → ⊥) → marked cmp w 1 (λ k. f (with_power cmp p.0 p.1 k)) m ≡ marked cmp w 1 f (p ∷ m)
  marked_past f p m a n =
      sym (ap₂ (λ x k. cond (eqb x 1) (f k) (pos 0)) (skipped (cmp w p.0) (exponent cmp w m) (p.1 + exponent cmp w m) n)
      (skipped (cmp w p.0) (p ∷ without cmp w m) (without cmp w m) n ∙ sym (with_power_above p.0 p.1 (without cmp w m) (above_left p.0 m a))))

  separant_of_term : (f : Monomial Symbol → ℤ) (m : Monomial Symbol) (c : ℤ) → IsMonomial cmp m → exponent cmp w m ≤ 1 → total f (term_derivative cmp (rate_by cmp w) m c) ≡ c *ℤ marked cmp w 1 f m
  separant_of_term f [] c i h = total_empty f ∙ sym (product_zero whole_ring c)
  separant_of_term f (p ∷ m) c i h =
      let d : Contributions Symbol = term_derivative cmp (rate_by cmp w) m c in
      total-append f (times_rate cmp (rate_by cmp w p.0) (once_less p.0 p.1 m) (c *ℤ pos p.1)) (each_with_power cmp p.0 p.1 d)
      ∙ ap (λ x. total f (times_rate cmp (rate_by cmp w p.0) (once_less p.0 p.1 m) (c *ℤ pos p.1)) +ℤ x) (total_each cmp p.0 p.1 f d ∙ separant_of_term (λ k. f (with_power cmp p.0 p.1 k)) m c i.2 (fewer (cmp w p.0) p.1 (exponent cmp w m) h))
      ∙ by_order (cmp p.0 w) refl
    where
      fewer : (o : Ordering) (a x : ℕ) → match_ordering o x (a + x) x ≤ 1 → x ≤ 1
      fewer Less a x h = h
      fewer Equal a x h = omega arith
      fewer Greater a x h = h

      at_once : (o : Ordering) (a x : ℕ) → o ≡ Equal → 0 < a → match_ordering o x (a + x) x ≤ 1 → a ≡ 1
      at_once Less a x e z h = cc
      at_once Equal a x e z h = omega arith
      at_once Greater a x e z h = cc

      by_order : (o : Ordering) → cmp p.0 w ≡ o → total f (times_rate cmp (match_ordering o constant unit constant) (once_less p.0 p.1 m) (c *ℤ pos p.1)) +ℤ c *ℤ marked cmp w 1 (λ k. f (with_power cmp p.0 p.1 k)) m ≡ c *ℤ marked cmp w 1 f (p ∷ m)
      by_order Less k =
          let n : cmp w p.0 ≡ Equal → ⊥ = λ z. let y : cmp w p.0 ≡ Greater = greater_reversed order.total p.0 w k in cc in
          nothing f (c *ℤ marked cmp w 1 (λ k. f (with_power cmp p.0 p.1 k)) m) ∙ ap (λ x. c *ℤ x) (marked_past f p m i.1 n)
      by_order Greater k =
          let n : cmp w p.0 ≡ Equal → ⊥ = λ z. let y : cmp w p.0 ≡ Less = less_reversed order.total p.0 w k in cc in
          nothing f (c *ℤ marked cmp w 1 (λ k. f (with_power cmp p.0 p.1 k)) m) ∙ ap (λ x. c *ℤ x) (marked_past f p m i.1 n)
      by_order Equal k =
          let e : p.0 ≡ w = order.same p.0 w k in
          let free : Free order w m = above_free m (subst (λ s. IsAbove cmp s m) e i.1) in
          let back : cmp w p.0 ≡ Equal = ap (cmp w) e ∙ tied_itself order.total w in
          let once : p.1 ≡ 1 = at_once (cmp w p.0) p.1 (exponent cmp w m) back i.0 h in
          ap₂ (λ x y. x +ℤ c *ℤ y) (one_head f m p.0 c p.1 once) (marked_free order w (λ k. f (with_power cmp p.0 p.1 k)) m free)
          ∙ ap (λ x. c *ℤ f m +ℤ x) (product_zero whole_ring c) ∙ whole_ring.sum_commutes (c *ℤ f m) (pos 0) ∙ whole_ring.zero_is_neutral (c *ℤ f m)
          ∙ ap (λ x. c *ℤ x) (sym (ap₂ (λ (s : Symbol) (e : ℕ). marked cmp w 1 f ((s, e) ∷ m)) e once ∙ marked_top order w f m free))

  separant_of_terms : (f : Monomial Symbol → ℤ) (p : Polynomial Symbol) → AreMonomials cmp p → EachMonomial (λ m. exponent cmp w m ≤ 1) p → total f (derivative_contributions cmp (rate_by cmp w) p) ≡ total (marked cmp w 1 f) p
  unfolding total
  separant_of_terms f [] i h = refl
  separant_of_terms f (t ∷ p) i h =
      total-append f (term_derivative cmp (rate_by cmp w) t.0 t.1) (derivative_contributions cmp (rate_by cmp w) p)
      ∙ ap₂ (λ x y. x +ℤ y) (separant_of_term f t.0 t.1 i.0 h.0) (separant_of_terms f p i.1 h.1)

  -- the separant of a polynomial of degree one is the coefficient
  pub separant_of_linear : (p : Polynomial Symbol) → IsPolynomial cmp p → EachMonomial (λ m. exponent cmp w m ≤ 1) p
      → collect (monomial_cmp cmp) (derivative_contributions cmp (rate_by cmp w) p) ≡ collect (monomial_cmp cmp) (coefficient_of cmp w 1 p)
  separant_of_linear p i h =
      same_by_totals order (derivative_contributions cmp (rate_by cmp w) p) (coefficient_of cmp w 1 p)
      (monomials_derivative order (rate_by cmp w) p (are_monomials order p i)) (coefficients_are order w 1 p (are_monomials order p i))
      (λ f. separant_of_terms f p (are_monomials order p i) h ∙ sym (total_coefficient cmp w 1 f p))

-- ---- operators
abbrev ups : ℕ → ℕ → List ℕ → List ℕ
ups i zero ks = ks
ups i (suc k) ks = raised i (ups i k ks)

abbrev all_ups : ℕ → List ℕ → List ℕ → List ℕ
all_ups i [] ks = ks
all_ups i (k ∷ js) ks = all_ups (suc i) js (ups i k ks)

ups-cons : (i k b : ℕ) (bs : List ℕ) → ups (suc i) k (b ∷ bs) ≡ b ∷ ups i k bs
ups-cons i zero b bs = refl
ups-cons i (suc k) b bs = ap (raised (suc i)) (ups-cons i k b bs)

ups-first : (k b : ℕ) (bs : List ℕ) → ups 0 k (b ∷ bs) ≡ (k + b) ∷ bs
ups-first zero b bs = let e : b ≡ 0 + b = omega arith in ap (λ x. x ∷ bs) e
ups-first (suc k) b bs = ap (raised 0) (ups-first k b bs) ∙ (let e : suc (k + b) ≡ suc k + b = omega arith in ap (λ x. x ∷ bs) e)

all_ups-cons : (i : ℕ) (js : List ℕ) (b : ℕ) (bs : List ℕ) → all_ups (suc i) js (b ∷ bs) ≡ b ∷ all_ups i js bs
all_ups-cons i [] b bs = refl
all_ups-cons i (k ∷ js) b bs = ap (all_ups (suc (suc i)) js) (ups-cons i k b bs) ∙ all_ups-cons (suc i) js b (ups i k bs)

all_ups_is : (js ks : List ℕ) → length js ≤ length ks → all_ups 0 js ks ≡ exponent_sums ks js
all_ups_is [] [] h = refl
all_ups_is [] (b ∷ bs) h = refl
all_ups_is (k ∷ js) [] h = absurd (omega arith)
all_ups_is (k ∷ js) (b ∷ bs) h =
    let e : k + b ≡ b + k = omega arith in
    ap (all_ups 1 js) (ups-first k b bs) ∙ all_ups-cons 0 js (k + b) bs ∙ ap₂ (λ (x : ℕ) (l : List ℕ). x ∷ l) e (all_ups_is js bs (omega arith))

-- ---- the exponents that count
-- the exponents that are left out are zero
abbrev pub Zeros : List ℕ → Type 0
Zeros = AllOf (λ k. k ≡ 0)

zeros_of : (ks : List ℕ) → All (λ k. k ≡ 0) ks → Zeros ks
zeros_of [] h = tt
zeros_of (k ∷ ks) h = (All-head (λ k. k ≡ 0) k ks h, zeros_of ks (All-tail (λ k. k ≡ 0) k ks h))

sums_zeros : (ks ts : List ℕ) → length ts ≤ length ks → Zeros ts → exponent_sums ks ts ≡ ks
sums_zeros [] [] l h = refl
sums_zeros [] (t ∷ ts) l h = absurd (omega arith)
sums_zeros (k ∷ ks) [] l h = refl
sums_zeros (k ∷ ks) (t ∷ ts) l h = let e : k + t ≡ k = omega (arith, h.0) in ap₂ (λ (x : ℕ) (l : List ℕ). x ∷ l) e (sums_zeros ks ts (omega arith) h.1)

sums_none : (ks : List ℕ) → exponent_sums ks [] ≡ ks
sums_none [] = refl
sums_none (k ∷ ks) = refl

sums_take : (n : ℕ) (ks ts : List ℕ) → length ts ≤ length ks → Zeros (drop n ts) → exponent_sums ks (take n ts) ≡ exponent_sums ks ts
sums_take zero ks ts l h = sums_none ks ∙ sym (sums_zeros ks ts l h)
sums_take (suc n) ks [] l h = refl
sums_take (suc n) [] (t ∷ ts) l h = absurd (omega arith)
sums_take (suc n) (k ∷ ks) (t ∷ ts) l h = ap (λ l. (k + t) ∷ l) (sums_take n ks ts (omega arith) h)

zeros_sum : (ts : List ℕ) → Zeros ts → sum ts ≡ 0
zeros_sum [] h = refl
zeros_sum (t ∷ ts) h = omega (arith, h.0, zeros_sum ts h.1, sum_by-cons (λ x. x) t ts)

sum_take : (n : ℕ) (ts : List ℕ) → Zeros (drop n ts) → sum (take n ts) ≡ sum ts
sum_take zero ts h = sym (zeros_sum ts h)
sum_take (suc n) [] h = refl
sum_take (suc n) (t ∷ ts) h = omega (arith, sum_take n ts h, sum_by-cons (λ x. x) t ts, sum_by-cons (λ x. x) t (take n ts))

take_within : (n : ℕ) (ts : List ℕ) → length (take n ts) ≤ length ts
take_within zero ts = omega arith
take_within (suc n) [] = omega arith
take_within (suc n) (t ∷ ts) = omega (arith, take_within n ts)

abbrev plus : ℕ → ℕ → ℕ
plus zero c = c
plus (suc k) c = suc (plus k c)

plus_is : (k c : ℕ) → plus k c ≡ k + c
plus_is zero c = omega arith
plus_is (suc k) c = omega (arith, plus_is k c)

abbrev many : List ℕ → ℕ → ℕ
many [] c = c
many (k ∷ js) c = many js (plus k c)

many_is : (js : List ℕ) (c : ℕ) → many js c ≡ sum js + c
many_is [] c = omega arith
many_is (k ∷ js) c = omega (arith, many_is js (plus k c), plus_is k c, sum_by-cons (λ x. x) k js)

module _ (R : RankingValue) (u : ℕ) (s : Polynomial Symbol) where
  abbrev ranking : IsRaising (ranking_cmp R)
  ranking = ranking_raises R

  abbrev g : Symbols Symbol
  g = symbols_under R

  abbrev lifted : List ℕ → Symbol
  lifted ks = Derivative u (record { counts = ks })

  -- after c derivations that raise the leader to ks
  abbrev Reached : ℕ → List ℕ → Polynomial Symbol → Type 0
  Reached c ks p =
      (length ks ≡ 4) × IsPolynomial g.cmp p × PolynomialIn (IsUnder g.cmp 4 (lifted ks)) p
      × (collect (monomial_cmp g.cmp) (derivative_contributions g.cmp (rate_by g.cmp (lifted ks)) p) ≡ s)
      × (0 < c → EachMonomial (λ m. exponent g.cmp (lifted ks) m ≤ 1) p × (collect (monomial_cmp g.cmp) (coefficient_of g.cmp (lifted ks) 1 p) ≡ s))

  all_in : (w : Symbol) (p : Polynomial Symbol) → EachMonomial (λ m. MonomialIn (IsUnder g.cmp 4 w) m × (exponent g.cmp w m ≤ 1)) p → PolynomialIn (IsUnder g.cmp 4 w) p × EachMonomial (λ m. exponent g.cmp w m ≤ 1) p
  all_in w [] h = (tt, tt)
  all_in w (t ∷ p) h = let r = all_in w p h.1 in ((h.0.0, r.0), (h.0.1, r.1))

  reached_next : (i c : ℕ) (ks : List ℕ) (p q : Polynomial Symbol) → i < 4 → Reached c ks p → derivation_answer g i p ≡ Ok q → Reached (suc c) (raised i ks) q
  reached_next i c ks p q within h e =
      let ts : Contributions Symbol = derivative_contributions g.cmp (symbol_rate i) p in
      let is : collect (monomial_cmp g.cmp) ts ≡ q = operation_is g ts q e in
      let canonical : IsPolynomial g.cmp q = subst (IsPolynomial g.cmp) is (collect_is ranking.order ts (monomials_derivative ranking.order (symbol_rate i) p (are_monomials ranking.order p h.1))) in
      let linear = derivation_linear ranking 4 i u (record { counts = ks }) h.0 within p h.2 in
      let parts = all_in (lifted (raised i ks)) q (subst (EachMonomial (λ m. MonomialIn (IsUnder g.cmp 4 (lifted (raised i ks))) m × (exponent g.cmp (lifted (raised i ks)) m ≤ 1))) is linear) in
      let top : collect (monomial_cmp g.cmp) (coefficient_of g.cmp (lifted (raised i ks)) 1 q) ≡ s =
      ap (λ q. collect (monomial_cmp g.cmp) (coefficient_of g.cmp (lifted (raised i ks)) 1 q)) (sym is) ∙ coefficient_of-derivation ranking 4 i u (record { counts = ks }) h.0 p h.1 h.2 ∙ h.3 in
      (length_raised i ks 4 h.0 within, canonical, parts.0, separant_of_linear ranking.order (lifted (raised i ks)) q canonical parts.1 ∙ top, λ k. (parts.1, top))

  reached_derived : (i k c : ℕ) (ks : List ℕ) (p q : Polynomial Symbol) → i < 4 → Reached c ks p → iterated_answer g i k p ≡ Ok q → Reached (plus k c) (ups i k ks) q
  reached_derived i zero c ks p q within h e = let f : p ≡ q = cc in subst (Reached c ks) f h
  reached_derived i (suc k) c ks p q within h e =
      let b = bind_ok (iterated_answer g i k p) (derivation_answer g i) q e in
      reached_next i (plus k c) (ups i k ks) b.0 q within (reached_derived i k c ks p b.0 within h b.1) b.2

  reached_from : (i : ℕ) (js : List ℕ) (c : ℕ) (ks : List ℕ) (p q : Polynomial Symbol) → i + length js ≤ 4 → Reached c ks p → derivations_answer g i js p ≡ Ok q → Reached (many js c) (all_ups i js ks) q
  reached_from i [] c ks p q within h e = let f : p ≡ q = cc in subst (Reached c ks) f h
  reached_from i (k ∷ js) c ks p q within h e =
      let b = bind_ok (iterated_answer g i k p) (derivations_answer g (suc i) js) q e in
      reached_from (suc i) js (plus k c) (ups i k ks) b.0 q (omega arith) (reached_derived i k c ks p b.0 (omega arith) h b.1) b.2

  -- a proper derivative of q is linear in the derivative of q's leader, which no symbol is above, with the separant as coefficient
  pub operator_leads : R.signature.independents ≤ 4 → (t : Operator) (ks : List ℕ) (q p : Polynomial Symbol) → length ks ≡ 4 → IsOperatorOf R.signature.independents t → IsPolynomial (ranking_cmp R) q → PolynomialIn (IsUnder (ranking_cmp R) 4 (Derivative u (record { counts = ks }))) q
      → collect (monomial_cmp (ranking_cmp R)) (derivative_contributions (ranking_cmp R) (rate_by (ranking_cmp R) (Derivative u (record { counts = ks }))) q) ≡ s → is_proper t ≡ true → operator_answer (setting_of R) t q ≡ Ok p
      → IsPolynomial (ranking_cmp R) p × PolynomialIn (IsUnder (ranking_cmp R) 4 (derivative_by t (Derivative u (record { counts = ks })))) p × EachMonomial (λ m. exponent (ranking_cmp R) (derivative_by t (Derivative u (record { counts = ks }))) m ≤ 1) p
      × (collect (monomial_cmp (ranking_cmp R)) (coefficient_of (ranking_cmp R) (derivative_by t (Derivative u (record { counts = ks }))) 1 p) ≡ s)
  operator_leads few t ks q p regular fits canonical under e proper f =
      let n : ℕ = R.signature.independents in
      let js : List ℕ = take n t.counts in
      let zeros : Zeros (drop n t.counts) = zeros_of (drop n t.counts) fits.zeros in
      let short : length js ≤ length ks = omega (arith, take_within n t.counts, fits.size) in
      let start : Reached 0 ks q = (regular, canonical, under, e, λ z. absurd (omega arith)) in
      let end : Reached (many js 0) (all_ups 0 js ks) p = reached_from 0 js 0 ks q p (omega arith) start f in
      let same : all_ups 0 js ks ≡ exponent_sums ks t.counts = all_ups_is js ks short ∙ sums_take n ks t.counts (omega (arith, fits.size)) zeros in
      let there : Reached (many js 0) (exponent_sums ks t.counts) p = subst (λ ks. Reached (many js 0) ks p) same end in
      let some : 0 < sum t.counts = positive (sum t.counts) proper in
      let linear = there.4 (omega (arith, many_is js 0, sum_take n t.counts zeros)) in
      (there.1, there.2, linear.0, linear.1)
    where
      positive : (k : ℕ) → not (k == 0) ≡ true → 0 < k
      positive zero h = cc
      positive (suc k) h = omega arith

  -- so it is where the separant is answered
  pub leader_of_operator : R.signature.independents ≤ 4 → (t : Operator) (ks : List ℕ) (q p : Polynomial Symbol) → length ks ≡ 4 → IsOperatorOf R.signature.independents t → IsPolynomial (ranking_cmp R) q → PolynomialIn (IsUnder (ranking_cmp R) 4 (Derivative u (record { counts = ks }))) q
      → separant_answer (symbols_under R) (Derivative u (record { counts = ks })) q ≡ Ok s → is_proper t ≡ true → operator_answer (setting_of R) t q ≡ Ok p
      → IsPolynomial (ranking_cmp R) p × PolynomialIn (IsUnder (ranking_cmp R) 4 (derivative_by t (Derivative u (record { counts = ks })))) p × EachMonomial (λ m. exponent (ranking_cmp R) (derivative_by t (Derivative u (record { counts = ks }))) m ≤ 1) p
      × (collect (monomial_cmp (ranking_cmp R)) (coefficient_of (ranking_cmp R) (derivative_by t (Derivative u (record { counts = ks }))) 1 p) ≡ s)
  leader_of_operator few t ks q p regular fits canonical under e = operator_leads few t ks q p regular fits canonical under (operation_is g (derivative_contributions g.cmp (rate_by g.cmp (lifted ks)) q) s e)

-- a proper operator raises a derivative
pub derivative_grows : (R : RankingValue) (t : Operator) (l : Symbol) → IsTrue (is_derivative l) → is_proper t ≡ true → ranking_cmp R l (derivative_by t l) ≡ Less
derivative_grows R t l d proper = grows R l t d (positive (sum t.counts) proper)
  where
    positive : (k : ℕ) → not (k == 0) ≡ true → 0 < k
    positive zero h = cc
    positive (suc k) h = omega arith
