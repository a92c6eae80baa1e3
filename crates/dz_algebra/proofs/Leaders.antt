-- The leader is the greatest derivative that occurs, and there is none exactly where no derivative occurs.
use Rattle.std.proofs.Common.{◌≡◌, ◌≢◌, ◌⊎◌, inl, inr, ℕ, ◌+◌, ◌<◌, Bool, true, false, cond, not, ◌&&◌, ◌||◌, IsTrue, [], ◌∷◌, Option, Some, None, refl, sym, ap, ◌∙◌, arith, subst}
use Rattle.std.specs.Prelude.{⊤}
use Rattle.std.specs.declared.cmp.Ordering.{Ordering}
use Rattle.std.specs.declared.cmp.Ordering.TheVariants.{Less, Equal, Greater}
use Rattle.std.specs.Cmp.{tied_itself}
use Rattle.std.specs.Ordering.{match_ordering}
use Rattle.dz_algebra.specs.Order.{IsOrder}
use Rattle.dz_algebra.specs.Monomial.{Monomial, MonomialIn, IsMonomial, exponent}
use Rattle.dz_algebra.specs.Polynomial.{Polynomial, PolynomialIn, IsPolynomial}
use Rattle.dz_algebra.specs.Symbols.{Symbols}
use Rattle.dz_algebra.specs.Parts.{degree, has_derivative, is_ground, greater, greatest_derivative, leader_from, leader}
use Rattle.dz_algebra.proofs.Orders.{less_reversed, greater_reversed, greater_trans}

module _ {S : Type 0} (g : Symbols S) (order : IsOrder g.cmp) where
  -- ---- no derivative of the polynomial is greater
  abbrev AtMost : Option S → S → Type 0
  AtMost None v = ⊤
  AtMost (Some b) v = g.cmp b v ≢ Greater

  abbrev IsBelow : S → S → Type 0
  IsBelow v s = IsTrue (g.is_derivative s) → g.cmp s v ≢ Greater

  -- what is less than something at most v is at most v
  lower : (s t v : S) → g.cmp s t ≡ Less → g.cmp t v ≢ Greater → g.cmp s v ≢ Greater
  lower s t v h a e = a (greater_trans order.total t s v (greater_reversed order.total s t h) e)

  greater_bounds : (s v : S) (best : Option S) → AtMost (greater g.cmp s best) v → (g.cmp s v ≢ Greater) × AtMost best v
  greater_bounds s v None a = (a, tt)
  greater_bounds s v (Some t) a = by_order (g.cmp s t) refl a
    where
      by_order : (o : Ordering) → g.cmp s t ≡ o → AtMost (match_ordering o (Some t) (Some t) (Some s)) v → (g.cmp s v ≢ Greater) × (g.cmp t v ≢ Greater)
      by_order Less h a = (lower s t v h a, a)
      by_order Equal h a = (subst (λ x. g.cmp x v ≢ Greater) (sym (order.same s t h)) a, a)
      by_order Greater h a = (a, lower t s v (less_reversed order.total s t h) a)

  tied : (v : S) → g.cmp v v ≢ Greater
  tied v e = let f = tied_itself order.total v in cc

  itself_at_most : (best : Option S) (v : S) → best ≡ Some v → AtMost best v
  itself_at_most best v e = subst (λ b. AtMost b v) (sym e) (tied v)

  bound_monomial : (m : Monomial S) (best : Option S) (v : S) → AtMost (greatest_derivative g m best) v → AtMost best v × MonomialIn (IsBelow v) m
  bound_monomial [] best v a = (a, tt)
  bound_monomial (p ∷ m) best v a = by_test (g.is_derivative p.0) refl (bound_monomial m (cond (g.is_derivative p.0) (greater g.cmp p.0 best) best) v a)
    where
      by_test : (b : Bool) → g.is_derivative p.0 ≡ b → AtMost (cond b (greater g.cmp p.0 best) best) v × MonomialIn (IsBelow v) m → AtMost best v × MonomialIn (IsBelow v) (p ∷ m)
      by_test true h r = let k = greater_bounds p.0 v best r.0 in (k.1, ((λ _. k.0), r.1))
      by_test false h r = (r.0, ((λ i. absurd (no i h)), r.1))
        where
          no : IsTrue (g.is_derivative p.0) → g.is_derivative p.0 ≡ false → ⊥
          no i h = cc

  bound_polynomial : (p : Polynomial S) (best : Option S) (v : S) → AtMost (leader_from g p best) v → AtMost best v × PolynomialIn (IsBelow v) p
  bound_polynomial [] best v a = (a, tt)
  bound_polynomial (t ∷ p) best v a =
      let r = bound_polynomial p (greatest_derivative g t.0 best) v a in
      let k = bound_monomial t.0 best v r.0 in
      (k.0, (k.1, r.1))

  -- no derivative that occurs is greater than the leader
  pub leader_greatest : (p : Polynomial S) (v : S) → leader g p ≡ Some v → PolynomialIn (λ s. IsTrue (g.is_derivative s) → g.cmp s v ≢ Greater) p
  leader_greatest p v e = (bound_polynomial p None v (itself_at_most (leader_from g p None) v e)).1

  -- ---- it occurs, and is a derivative
  abbrev Occurs : S → ℕ → Type 0
  Occurs v e = IsTrue (g.is_derivative v) × (0 < e)

  greater_is : (s v : S) (best : Option S) → greater g.cmp s best ≡ Some v → (s ≡ v) ⊎ (best ≡ Some v)
  greater_is s v None e = inl cc
  greater_is s v (Some t) e = by_order (g.cmp s t) e
    where
      by_order : (o : Ordering) → match_ordering o (Some t) (Some t) (Some s) ≡ Some v → (s ≡ v) ⊎ (Some t ≡ Some v)
      by_order Less e = inr e
      by_order Equal e = inr e
      by_order Greater e = inl cc

  exponent_more : (v : S) (p : S × ℕ) (m : Monomial S) → 0 < exponent g.cmp v m → 0 < exponent g.cmp v (p ∷ m)
  exponent_more v p m h = elim (g.cmp v p.0) as (λ o. 0 < match_ordering o (exponent g.cmp v m) (p.1 + exponent g.cmp v m) (exponent g.cmp v m)) [ Less ↦ h | Equal ↦ omega arith | Greater ↦ h ]

  exponent_first : (p : S × ℕ) (m : Monomial S) → 0 < p.1 → 0 < exponent g.cmp p.0 (p ∷ m)
  exponent_first p m h = subst (λ o. 0 < match_ordering o (exponent g.cmp p.0 m) (p.1 + exponent g.cmp p.0 m) (exponent g.cmp p.0 m)) (sym (tied_itself order.total p.0)) (omega arith)

  occurs_monomial : (m : Monomial S) (best : Option S) (v : S) → IsMonomial g.cmp m → greatest_derivative g m best ≡ Some v → (best ≡ Some v) ⊎ Occurs v (exponent g.cmp v m)
  occurs_monomial [] best v h e = inl e
  occurs_monomial (p ∷ m) best v h e = by_test (g.is_derivative p.0) refl (occurs_monomial m (cond (g.is_derivative p.0) (greater g.cmp p.0 best) best) v h.2 e)
    where
      first : p.0 ≡ v → IsTrue (g.is_derivative p.0) → Occurs v (exponent g.cmp v (p ∷ m))
      first e i = subst (λ x. Occurs x (exponent g.cmp x (p ∷ m))) e (i, exponent_first p m h.0)

      by_test : (b : Bool) → g.is_derivative p.0 ≡ b → (cond b (greater g.cmp p.0 best) best ≡ Some v) ⊎ Occurs v (exponent g.cmp v m) → (best ≡ Some v) ⊎ Occurs v (exponent g.cmp v (p ∷ m))
      by_test b i (inr o) = inr (o.0, exponent_more v p m o.1)
      by_test true i (inl f) = elim (greater_is p.0 v best f) [ inl k ↦ inr (first k (i)) | inr k ↦ inl k ]
      by_test false i (inl f) = inl f

  occurs_polynomial : (p : Polynomial S) (best : Option S) (v : S) → IsPolynomial g.cmp p → leader_from g p best ≡ Some v → (best ≡ Some v) ⊎ Occurs v (degree g.cmp v p)
  occurs_polynomial [] best v h e = inl e
  occurs_polynomial (t ∷ p) best v h e = elim (occurs_polynomial p (greatest_derivative g t.0 best) v h.3 e) [
    | inr o ↦ inr (o.0, omega (arith, o.1))
    | inl f ↦ elim (occurs_monomial t.0 best v h.1 f) [ inl k ↦ inl k | inr o ↦ inr (o.0, omega (arith, o.1)) ]
  ]

  -- the leader is a derivative that occurs
  pub leader_occurs : (p : Polynomial S) (v : S) → IsPolynomial g.cmp p → leader g p ≡ Some v → IsTrue (g.is_derivative v) × (0 < degree g.cmp v p)
  leader_occurs p v h e = elim (occurs_polynomial p None v h e) [ inl f ↦ absurd cc | inr o ↦ o ]

-- ---- where there is none
module _ {S : Type 0} (g : Symbols S) where
  abbrev is_none : Option S → Bool
  is_none None = true
  is_none (Some s) = false

  some_stays : (m : Monomial S) (b : S) → is_none (greatest_derivative g m (Some b)) ≡ false
  some_stays [] b = refl
  some_stays (p ∷ m) b = by_test (g.is_derivative p.0) (g.cmp p.0 b) (λ c. some_stays m c)
    where
      by_test : (d : Bool) (o : Ordering) → ((c : S) → is_none (greatest_derivative g m (Some c)) ≡ false) → is_none (greatest_derivative g m (cond d (match_ordering o (Some b) (Some b) (Some p.0)) (Some b))) ≡ false
      by_test true Less stays = stays b
      by_test true Equal stays = stays b
      by_test true Greater stays = stays p.0
      by_test false o stays = stays b

  none_monomial : (m : Monomial S) → is_none (greatest_derivative g m None) ≡ not (has_derivative g m)
  none_monomial [] = refl
  none_monomial (p ∷ m) = elim (g.is_derivative p.0) as (λ d. is_none (greatest_derivative g m (cond d (Some p.0) None)) ≡ not (d || has_derivative g m)) [ true ↦ some_stays m p.0 | false ↦ none_monomial m ]

  some_kept : (p : Polynomial S) (b : Option S) → is_none b ≡ false → is_none (leader_from g p b) ≡ false
  some_kept [] b e = e
  some_kept (t ∷ p) None e = cc
  some_kept (t ∷ p) (Some s) e = some_kept p (greatest_derivative g t.0 (Some s)) (some_stays t.0 s)

  none_polynomial : (p : Polynomial S) → is_none (leader_from g p None) ≡ is_ground g p
  none_polynomial [] = refl
  none_polynomial (t ∷ p) = by_option (greatest_derivative g t.0 None) refl (none_monomial t.0) (none_polynomial p)
    where
      by_option : (b : Option S) → greatest_derivative g t.0 None ≡ b → is_none (greatest_derivative g t.0 None) ≡ not (has_derivative g t.0) → is_none (leader_from g p None) ≡ is_ground g p → is_none (leader_from g p (greatest_derivative g t.0 None)) ≡ (not (has_derivative g t.0) && is_ground g p)
      by_option None e f rest = ap (λ b. is_none (leader_from g p b)) e ∙ rest ∙ ap (λ b. b && is_ground g p) (sym (ap is_none e) ∙ f)
      by_option (Some s) e f rest = ap (λ b. is_none (leader_from g p b)) e ∙ some_kept p (Some s) refl ∙ ap (λ b. b && is_ground g p) (sym (ap is_none e) ∙ f)

  none_is : (b : Option S) → is_none b ≡ true → b ≡ None
  none_is None e = refl
  none_is (Some s) e = cc

  -- a ground polynomial has no leader
  pub ground_no_leader : (p : Polynomial S) → is_ground g p ≡ true → leader g p ≡ None
  ground_no_leader p e = none_is (leader g p) (none_polynomial p ∙ e)

  -- a polynomial without leader is ground
  pub no_leader_ground : (p : Polynomial S) → leader g p ≡ None → is_ground g p ≡ true
  no_leader_ground p e = sym (none_polynomial p) ∙ ap is_none e
