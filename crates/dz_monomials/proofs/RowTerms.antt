-- A row of a derivation: one contribution for each term that has the symbol, and they fall.
use Rattle.std.proofs.Common.{◌≡◌, ◌+◌, ◌⊎◌, inl, inr, ◌∙◌, ℕ, zero, suc, [], ◌∷◌, ◌++◌, ℤ, pos, ◌*ℤ◌, refl, sym, ap, ap₂, subst, arith}
use Rattle.std.specs.Cmp.{tied_itself}
use Rattle.std.specs.declared.cmp.Ordering.{Ordering}
use Rattle.std.specs.declared.cmp.Ordering.TheVariants.{Less, Equal, Greater}
use Rattle.std.specs.Ordering.{match_ordering}
use Rattle.dz_algebra.specs.Amount.{amounts}
use Rattle.dz_algebra.specs.Derivation.{Rate, constant, unit, symbol, once_less, times_rate, each_with_power, term_derivative, derivative_contributions}
use Rattle.dz_algebra.specs.Monomial.{Monomial, IsMonomial, exponent, monomial_cmp, with_power}
use Rattle.dz_algebra.specs.Order.{IsOrder, IsAbove, IsFalling}
use Rattle.dz_algebra.specs.Polynomial.{Polynomial, Contributions, IsPolynomial}
use Rattle.dz_algebra.proofs.MonomialOrder.{power_keeps_order}
use Rattle.dz_algebra.proofs.Monomials.{exponent_below, exponent_with_power, same_exponents, with_power_is, above_more}
use Rattle.dz_algebra.proofs.Orders.{greater_reversed, less_reversed}
use Rattle.dz_monomials.specs.Rows.{only}

module _ {S : Type 0} {cmp : S → S → Ordering} (order : IsOrder cmp) where
  -- a power of a symbol above all of a monomial comes first
  put_above : (s : S) (e : ℕ) (m : Monomial S) → IsAbove cmp s m → with_power cmp s e m ≡ (s, e) ∷ m
  put_above s e [] a = refl
  put_above s e (p ∷ m) a = ap (λ o. match_ordering o (p ∷ with_power cmp s e m) ((p.0, e + p.1) ∷ m) ((s, e) ∷ p ∷ m)) a.0

  -- the exponent of a symbol in the rest of a monomial, where the first symbol is another
  exponent_rest : (s : S) (p : S × ℕ) (m : Monomial S) (o : Ordering) → cmp s p.0 ≡ o → (o ≡ Equal → ⊥) → exponent cmp s (p ∷ m) ≡ exponent cmp s m
  exponent_rest s p m o e n = ap (λ o. match_ordering o (exponent cmp s m) (p.1 + exponent cmp s m) (exponent cmp s m)) e ∙ skip o n
    where
      skip : (o : Ordering) → (o ≡ Equal → ⊥) → match_ordering o (exponent cmp s m) (p.1 + exponent cmp s m) (exponent cmp s m) ≡ exponent cmp s m
      skip Less n = refl
      skip Equal n = absurd (n refl)
      skip Greater n = refl

  -- ---- a monomial with a symbol
  -- where it stands
  pub record Parts (s : S) (m : Monomial S) : Type 0 where
    pub front : Monomial S
    pub power : ℕ
    pub back : Monomial S
    pub are : m ≡ front ++ (s, power) ∷ back

  -- a symbol occurs or it does not
  parts : (s : S) (m : Monomial S) → (exponent cmp s m ≡ 0) ⊎ Parts s m
  parts s [] = inl refl
  parts s (p ∷ m) = by_order (cmp s p.0) refl (parts s m)
    where
      further : (o : Ordering) → cmp s p.0 ≡ o → (o ≡ Equal → ⊥) → (exponent cmp s m ≡ 0) ⊎ Parts s m → (exponent cmp s (p ∷ m) ≡ 0) ⊎ Parts s (p ∷ m)
      further o e n (inl z) = inl (exponent_rest s p m o e n ∙ z)
      further o e n (inr h) = inr (record { front = p ∷ h.front; power = h.power; back = h.back; are = ap (λ l. p ∷ l) h.are })

      by_order : (o : Ordering) → cmp s p.0 ≡ o → (exponent cmp s m ≡ 0) ⊎ Parts s m → (exponent cmp s (p ∷ m) ≡ 0) ⊎ Parts s (p ∷ m)
      by_order Less e h = further Less e (λ z. cc) h
      by_order Equal e h = inr (record { front = []; power = p.1; back = m; are = ap (λ (x : S). (x, p.1) ∷ m) (sym (order.same s p.0 e)) })
      by_order Greater e h = further Greater e (λ z. cc) h

  module _ (s : S) where
    -- the rest of a monomial is below
    above_back : (k : S) (front : Monomial S) (e : ℕ) (back : Monomial S) → IsAbove cmp k (front ++ (s, e) ∷ back) → IsAbove cmp k (front ++ once_less s e back)
    above_back k [] zero back a = a.1
    above_back k [] (suc zero) back a = a.1
    above_back k [] (suc (suc e)) back a = (a.0, a.1)
    above_back k (q ∷ front) e back a = (a.0, above_back k front e back a.1)

    -- what is above a monomial is above each symbol of it
    above_middle : (k : S) (front : Monomial S) (e : ℕ) (back : Monomial S) → IsAbove cmp k (front ++ (s, e) ∷ back) → cmp k s ≡ Greater
    above_middle k [] e back a = a.0
    above_middle k (q ∷ front) e back a = above_middle k front e back a.1

    -- a monomial with the symbol once less is one
    pub less_is : (front : Monomial S) (e : ℕ) (back : Monomial S) → IsMonomial cmp (front ++ (s, e) ∷ back) → IsMonomial cmp (front ++ once_less s e back)
    less_is [] zero back h = h.2
    less_is [] (suc zero) back h = h.2
    less_is [] (suc (suc e)) back h = (omega arith, h.1, h.2)
    less_is (q ∷ front) e back h = (h.0, above_back q.0 front e back h.1, less_is front e back h.2)

    -- the symbol once more gives the monomial again
    once_more : (front : Monomial S) (e : ℕ) (back : Monomial S) → IsMonomial cmp (front ++ (s, e) ∷ back) → with_power cmp s 1 (front ++ once_less s e back) ≡ front ++ (s, e) ∷ back
    once_more [] zero back h = absurd (omega (arith, h.0))
    once_more [] (suc zero) back h = put_above s 1 back h.1
    once_more [] (suc (suc e)) back h =
        let k : 1 + suc e ≡ suc (suc e) = omega arith in
        ap (λ o. match_ordering o ((s, suc e) ∷ with_power cmp s 1 back) ((s, 1 + suc e) ∷ back) ((s, 1) ∷ (s, suc e) ∷ back)) (tied_itself order.total s)
        ∙ ap (λ (n : ℕ). (s, n) ∷ back) k
    once_more (q ∷ front) e back h =
        ap (λ o. match_ordering o (q ∷ with_power cmp s 1 (front ++ once_less s e back)) ((q.0, 1 + q.1) ∷ front ++ once_less s e back) ((s, 1) ∷ q ∷ front ++ once_less s e back)) (less_reversed order.total q.0 s (above_middle q.0 front e back h.1))
        ∙ ap (λ l. q ∷ l) (once_more front e back h.2)

    -- a power above all of the rest is put into the front
    pub put_front : (t : S) (front : Monomial S) (e : ℕ) (back : Monomial S) → cmp t s ≡ Greater → IsAbove cmp s back → with_power cmp t 1 (front ++ once_less s e back) ≡ with_power cmp t 1 front ++ once_less s e back
    put_front t [] e back h a = put_above t 1 (once_less s e back) (less_above e)
      where
        rest : IsAbove cmp t back
        rest = above_more order t s back h a

        less_above : (e : ℕ) → IsAbove cmp t (once_less s e back)
        less_above zero = rest
        less_above (suc zero) = rest
        less_above (suc (suc e)) = (h, rest)
    put_front t (q ∷ front) e back h a =
        elim (cmp t q.0) as (λ o. match_ordering o (q ∷ with_power cmp t 1 (front ++ once_less s e back)) ((q.0, 1 + q.1) ∷ front ++ once_less s e back) ((t, 1) ∷ q ∷ front ++ once_less s e back) ≡ match_ordering o (q ∷ with_power cmp t 1 front) ((q.0, 1 + q.1) ∷ front) ((t, 1) ∷ q ∷ front) ++ once_less s e back) [
          | Less ↦ ap (λ l. q ∷ l) (put_front t front e back h a)
          | Equal ↦ refl
          | Greater ↦ refl
        ]

    -- the symbols behind it are below
    pub back_below : (front : Monomial S) (e : ℕ) (back : Monomial S) → IsMonomial cmp (front ++ (s, e) ∷ back) → IsAbove cmp s back
    back_below [] e back h = h.1
    back_below (q ∷ front) e back h = back_below front e back h.2

    module _ (x : Rate S) where
      -- what a term contributes to the row
      abbrev term : Monomial S → ℤ → Contributions S
      term m c = term_derivative cmp (only cmp s x) m c

      -- a term without the symbol contributes nothing
      pub none : (m : Monomial S) (c : ℤ) → IsMonomial cmp m → exponent cmp s m ≡ 0 → term m c ≡ []
      none [] c h e = refl
      none (p ∷ m) c h e = by_order (cmp p.0 s) refl (none m c h.2)
        where
          left : (o : Ordering) → cmp s p.0 ≡ o → (o ≡ Equal → ⊥) → (exponent cmp s m ≡ 0 → term m c ≡ []) → each_with_power cmp p.0 p.1 (term m c) ≡ []
          left o f n rest = ap (each_with_power cmp p.0 p.1) (rest (sym (exponent_rest s p m o f n) ∙ e))

          by_order : (o : Ordering) → cmp p.0 s ≡ o → (exponent cmp s m ≡ 0 → term m c ≡ []) → times_rate cmp (match_ordering o constant x constant) (once_less p.0 p.1 m) (c *ℤ pos p.1) ++ each_with_power cmp p.0 p.1 (term m c) ≡ []
          by_order Less f rest = left Greater (greater_reversed order.total p.0 s f) (λ z. cc) rest
          by_order Greater f rest = left Less (less_reversed order.total p.0 s f) (λ z. cc) rest
          by_order Equal f rest =
              let k : exponent cmp s (p ∷ m) ≡ p.1 + exponent cmp s m = ap (λ o. match_ordering o (exponent cmp s m) (p.1 + exponent cmp s m) (exponent cmp s m)) (ap (cmp s) (order.same p.0 s f) ∙ tied_itself order.total s) in
              absurd (omega (arith, h.0, k, e))

      -- a power of a symbol above all others goes past the rate
      past : (q : S × ℕ) (m : Monomial S) (c : ℤ) → IsMonomial cmp (q ∷ m) → each_with_power cmp q.0 q.1 (times_rate cmp x m c) ≡ times_rate cmp x (q ∷ m) c
      past q m c h = by_rate x
        where
          first : with_power cmp q.0 q.1 m ≡ q ∷ m
          first = put_above q.0 q.1 m h.1

          swapped : (t : S) → with_power cmp q.0 q.1 (with_power cmp t 1 m) ≡ with_power cmp t 1 (q ∷ m)
          swapped t =
              same_exponents order (with_power cmp q.0 q.1 (with_power cmp t 1 m)) (with_power cmp t 1 (q ∷ m)) (with_power_is order q.0 q.1 (with_power cmp t 1 m) h.0 (with_power_is order t 1 m (omega arith) h.2)) (with_power_is order t 1 (q ∷ m) (omega arith) h)
              (λ u.
              let a = exponent_with_power order u q.0 q.1 (with_power cmp t 1 m) in
              let b = exponent_with_power order u t 1 m in
              let d = exponent_with_power order u t 1 (q ∷ m) in
              let e : exponent cmp u (q ∷ m) ≡ match_ordering (cmp u q.0) 0 q.1 0 + exponent cmp u m = ap (exponent cmp u) (sym first) ∙ exponent_with_power order u q.0 q.1 m in
              omega (arith, a, b, d, e))

          by_rate : (x : Rate S) → each_with_power cmp q.0 q.1 (times_rate cmp x m c) ≡ times_rate cmp x (q ∷ m) c
          by_rate constant = refl
          by_rate unit = ap (λ l. (l, c) ∷ []) first
          by_rate (symbol t) = ap (λ l. (l, c) ∷ []) (swapped t)

      -- a term with the symbol contributes the monomial with the symbol once less, times the rate
      pub one : (front : Monomial S) (e : ℕ) (back : Monomial S) (c : ℤ) → IsMonomial cmp (front ++ (s, e) ∷ back) → term (front ++ (s, e) ∷ back) c ≡ times_rate cmp x (front ++ once_less s e back) (c *ℤ pos e)
      one [] e back c h =
          ap₂ (λ o l. times_rate cmp (match_ordering o constant x constant) (once_less s e back) (c *ℤ pos e) ++ each_with_power cmp s e l) (tied_itself order.total s) (none back c h.2 (exponent_below order s back h.1))
          ∙ alone x
        where
          alone : (x : Rate S) → times_rate cmp x (once_less s e back) (c *ℤ pos e) ++ [] ≡ times_rate cmp x (once_less s e back) (c *ℤ pos e)
          alone constant = refl
          alone unit = refl
          alone (symbol t) = refl
      one (q ∷ front) e back c h =
          ap₂ (λ o l. times_rate cmp (match_ordering o constant x constant) (once_less q.0 q.1 (front ++ (s, e) ∷ back)) (c *ℤ pos q.1) ++ each_with_power cmp q.0 q.1 l) (above_middle q.0 front e back h.1) (one front e back c h.2)
          ∙ past q (front ++ once_less s e back) (c *ℤ pos e) (less_is (q ∷ front) e back h)

      -- ---- the contributions of falling terms fall
      -- what a term contributes: nothing, or the rate times what the symbol makes the monomial of
      record Once (m : Monomial S) (c : ℤ) : Type 0 where
        pub left : Monomial S
        pub coefficient : ℤ
        pub is : IsMonomial cmp left
        pub again : with_power cmp s 1 left ≡ m
        pub value : term m c ≡ times_rate cmp x left coefficient

      -- each term does one or the other
      once : (m : Monomial S) (c : ℤ) → IsMonomial cmp m → (term m c ≡ []) ⊎ Once m c
      once m c h = by_parts (parts s m)
        where
          by_parts : (exponent cmp s m ≡ 0) ⊎ Parts s m → (term m c ≡ []) ⊎ Once m c
          by_parts (inl e) = inl (none m c h e)
          by_parts (inr p) =
              let i : IsMonomial cmp (p.front ++ (s, p.power) ∷ p.back) = subst (IsMonomial cmp) p.are h in
              inr (record {
                left = p.front ++ once_less s p.power p.back;
                coefficient = c *ℤ pos p.power;
                is = less_is p.front p.power p.back i;
                again = once_more p.front p.power p.back i ∙ sym p.are;
                value = ap (λ n. term n c) p.are ∙ one p.front p.power p.back c i;
              })

      -- a monomial times the rate
      abbrev key : Rate S → Monomial S → Monomial S
      key constant m = m
      key unit m = m
      key (symbol t) m = with_power cmp t 1 m

      -- multiplying by the rate keeps the order
      key_keeps : (y : Rate S) (m n : Monomial S) → IsMonomial cmp m → IsMonomial cmp n → monomial_cmp cmp (key y m) (key y n) ≡ monomial_cmp cmp m n
      key_keeps constant m n h g = refl
      key_keeps unit m n h g = refl
      key_keeps (symbol t) m n h g = power_keeps_order order t 1 (omega arith) m n h g

      -- what is above a contribution and the others is above all
      above_times : (k : Monomial S) (y : Rate S) (m : Monomial S) (c : ℤ) (ts : Contributions S) → monomial_cmp cmp k (key y m) ≡ Greater → IsAbove (monomial_cmp cmp) k (amounts ts) → IsAbove (monomial_cmp cmp) k (amounts (times_rate cmp y m c ++ ts))
      above_times k constant m c ts h a = a
      above_times k unit m c ts h a = (h, a)
      above_times k (symbol t) m c ts h a = (h, a)

      -- a row is below what the rate makes of a greater monomial
      row_above : (k : Monomial S) (p : Polynomial S) → IsMonomial cmp k → IsPolynomial cmp p → IsAbove (monomial_cmp cmp) (with_power cmp s 1 k) p → IsAbove (monomial_cmp cmp) (key x k) (amounts (derivative_contributions cmp (only cmp s x) p))
      row_above k [] i h a = tt
      row_above k (t ∷ p) i h a = by_once (once t.0 t.1 h.1) (row_above k p i h.3 a.1)
        where
          by_once : (term t.0 t.1 ≡ []) ⊎ Once t.0 t.1 → IsAbove (monomial_cmp cmp) (key x k) (amounts (derivative_contributions cmp (only cmp s x) p)) → IsAbove (monomial_cmp cmp) (key x k) (amounts (term t.0 t.1 ++ derivative_contributions cmp (only cmp s x) p))
          by_once (inl e) b = subst (λ l. IsAbove (monomial_cmp cmp) (key x k) (amounts (l ++ derivative_contributions cmp (only cmp s x) p))) (sym e) b
          by_once (inr o) b =
              subst (λ l. IsAbove (monomial_cmp cmp) (key x k) (amounts (l ++ derivative_contributions cmp (only cmp s x) p))) (sym o.value)
              (above_times (key x k) x o.left o.coefficient (derivative_contributions cmp (only cmp s x) p)
              (key_keeps x k o.left i o.is ∙ sym (power_keeps_order order s 1 (omega arith) k o.left i o.is) ∙ ap (monomial_cmp cmp (with_power cmp s 1 k)) o.again ∙ a.0) b)

      -- a contribution above others that fall goes before them
      falling_times : (y : Rate S) (m : Monomial S) (c : ℤ) (ts : Contributions S) → IsAbove (monomial_cmp cmp) (key y m) (amounts ts) → IsFalling (monomial_cmp cmp) (amounts ts) → IsFalling (monomial_cmp cmp) (amounts (times_rate cmp y m c ++ ts))
      falling_times constant m c ts a f = f
      falling_times unit m c ts a f = (a, f)
      falling_times (symbol t) m c ts a f = (a, f)

      -- a row falls
      pub row_falls : (p : Polynomial S) → IsPolynomial cmp p → IsFalling (monomial_cmp cmp) (amounts (derivative_contributions cmp (only cmp s x) p))
      row_falls [] h = tt
      row_falls (t ∷ p) h = by_once (once t.0 t.1 h.1) (row_falls p h.3)
        where
          by_once : (term t.0 t.1 ≡ []) ⊎ Once t.0 t.1 → IsFalling (monomial_cmp cmp) (amounts (derivative_contributions cmp (only cmp s x) p)) → IsFalling (monomial_cmp cmp) (amounts (term t.0 t.1 ++ derivative_contributions cmp (only cmp s x) p))
          by_once (inl e) f = subst (λ l. IsFalling (monomial_cmp cmp) (amounts (l ++ derivative_contributions cmp (only cmp s x) p))) (sym e) f
          by_once (inr o) f =
              subst (λ l. IsFalling (monomial_cmp cmp) (amounts (l ++ derivative_contributions cmp (only cmp s x) p))) (sym o.value)
              (falling_times x o.left o.coefficient (derivative_contributions cmp (only cmp s x) p)
              (row_above o.left p o.is h.3 (subst (λ m. IsAbove (monomial_cmp cmp) m p) (sym o.again) h.2)) f)
