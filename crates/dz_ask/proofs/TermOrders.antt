-- Multiplying, adding and leaving out keep the order of terms, and what holds of products and of coefficients.
use Rattle.std.proofs.Common.{◌≡◌, ◌≢◌, ◌∙◌, ◌++◌, true, false, cond, List, [], ◌∷◌, map, refl, sym, ap, subst, Ok, Result}
use Rattle.std.specs.declared.cmp.Ordering.{Ordering}
use Rattle.std.specs.declared.cmp.Ordering.TheVariants.{Less, Equal, Greater}
use Rattle.std.specs.Ordering.{match_ordering}
use Rattle.dz_algebra.specs.Order.{IsAbove, IsFalling}
use Rattle.dz_algebra.specs.Polynomial.{Polynomial}
use Rattle.dz_algebra.specs.Size.{Refusal, product_answer, sum_answer}
use Rattle.dz_algebra.proofs.Orders.{greater_reversed, greater_trans}
use Rattle.dz_rank.specs.Rankings.{RankingValue}
use Rattle.dz_rank.specs.declared.symbols.Symbol.{Symbol}
use Rattle.dz_monomials.specs.Ranked.{symbols_under}
use Rattle.dz_monomials.specs.Lists.{AllOf}
use Rattle.dz_algebra.specs.Outcome.{◌>>=◌}
use Rattle.dz_diff.specs.Tests.{is_zero}
use Rattle.dz_algebra.proofs.Outcomes.{bind_ok, ok_same}
use Rattle.dz_ask.specs.Preparation.{Term}
use Rattle.dz_ask.specs.Products.{Product, product_cmp, turned_round}
use Rattle.dz_ask.specs.Turns.{multiplied, added, nonzero_terms}
use Rattle.dz_ask.proofs.StepOrder.{product_order, turned_order}

-- the order of products, turned round
abbrev later : Product → Product → Ordering
later = turned_round product_cmp

-- the products of terms
abbrev pub products_of : List Term → List Product
products_of ts = map (λ t. t.0) ts

-- what is before a product is before all that are behind it
above_later : (m n : Product) (ts : List Term) → later m n ≡ Greater → IsAbove later n ts → IsAbove later m ts
above_later m n [] g h = tt
above_later m n (t ∷ ts) g h = (greater_trans (turned_order product_order).total m n t.0 g h.0, above_later m n ts g h.1)

-- ---- what products alone decide
above_products : (m : Product) (ts us : List Term) → products_of ts ≡ products_of us → IsAbove later m ts → IsAbove later m us
above_products m [] [] e h = tt
above_products m [] (u ∷ us) e h = cc
above_products m (t ∷ ts) [] e h = cc
above_products m (t ∷ ts) (u ∷ us) e h =
    let first : t.0 ≡ u.0 = cc in
    let more : products_of ts ≡ products_of us = cc in
    (subst (λ n. later m n ≡ Greater) first h.0, above_products m ts us more h.1)

-- whether terms fall depends on their products alone
pub falling_products : (ts us : List Term) → products_of ts ≡ products_of us → IsFalling later ts → IsFalling later us
falling_products [] [] e h = tt
falling_products [] (u ∷ us) e h = cc
falling_products (t ∷ ts) [] e h = cc
falling_products (t ∷ ts) (u ∷ us) e h =
    let first : t.0 ≡ u.0 = cc in
    let more : products_of ts ≡ products_of us = cc in
    (subst (λ n. IsAbove later n us) first (above_products t.0 ts us more h.0), falling_products ts us more h.1)

-- so does what is said of products
pub all_products : (Q : Product → Type 0) (ts us : List Term) → products_of ts ≡ products_of us → AllOf (λ t. Q t.0) ts → AllOf (λ t. Q t.0) us
all_products Q [] [] e h = tt
all_products Q [] (u ∷ us) e h = cc
all_products Q (t ∷ ts) [] e h = cc
all_products Q (t ∷ ts) (u ∷ us) e h =
    let first : t.0 ≡ u.0 = cc in
    let more : products_of ts ≡ products_of us = cc in
    (subst Q first h.0, all_products Q ts us more h.1)

-- the products of joined terms
pub products-append : (ts us : List Term) → products_of (ts ++ us) ≡ products_of ts ++ products_of us
products-append [] us = refl
products-append (t ∷ ts) us = ap (λ l. t.0 ∷ l) (products-append ts us)

-- ---- leaving out
above_nonzero : (m : Product) (ts : List Term) → IsAbove later m ts → IsAbove later m (nonzero_terms ts)
above_nonzero m [] h = tt
above_nonzero m (t ∷ ts) h = elim (is_zero t.1) as (λ b. IsAbove later m (cond b (nonzero_terms ts) (t ∷ nonzero_terms ts))) [ true ↦ above_nonzero m ts h.1 | false ↦ (h.0, above_nonzero m ts h.1) ]

-- terms that are left fall
pub falling_nonzero : (ts : List Term) → IsFalling later ts → IsFalling later (nonzero_terms ts)
falling_nonzero [] h = tt
falling_nonzero (t ∷ ts) h = elim (is_zero t.1) as (λ b. IsFalling later (cond b (nonzero_terms ts) (t ∷ nonzero_terms ts))) [ true ↦ falling_nonzero ts h.1 | false ↦ (above_nonzero t.0 ts h.0, falling_nonzero ts h.1) ]

-- and have what all have
pub all_nonzero : (P : Term → Type 0) (ts : List Term) → AllOf P ts → AllOf P (nonzero_terms ts)
all_nonzero P [] h = tt
all_nonzero P (t ∷ ts) h = elim (is_zero t.1) as (λ b. AllOf P (cond b (nonzero_terms ts) (t ∷ nonzero_terms ts))) [ true ↦ all_nonzero P ts h.1 | false ↦ (h.0, all_nonzero P ts h.1) ]

-- what is left is not zero
pub none_zero : (ts : List Term) → AllOf (λ t. t.1 ≢ []) (nonzero_terms ts)
none_zero [] = tt
none_zero (t ∷ ts) = by_zero t.1 (none_zero ts)
  where
    by_zero : (c : Polynomial Symbol) → AllOf (λ t. t.1 ≢ []) (nonzero_terms ts) → AllOf (λ t. t.1 ≢ []) (cond (is_zero c) (nonzero_terms ts) ((t.0, c) ∷ nonzero_terms ts))
    by_zero [] h = h
    by_zero (u ∷ c) h = ((λ e. cc), h)

module _ (r : RankingValue) where
  -- ---- multiplying
  pub products_multiplied : (a : Polynomial Symbol) (ts us : List Term) → multiplied (symbols_under r) a ts ≡ Ok us → products_of us ≡ products_of ts
  products_multiplied a [] us e = ap products_of (sym (ok_same [] us e))
  products_multiplied a (t ∷ ts) us e =
      let c = bind_ok (product_answer (symbols_under r) a t.1) _ us e in
      let more = bind_ok (multiplied (symbols_under r) a ts) _ us c.2 in
      ap products_of (sym (ok_same ((t.0, c.0) ∷ more.0) us more.2)) ∙ ap (λ l. t.0 ∷ l) (products_multiplied a ts more.0 more.1)

  pub all_multiplied : (P : Polynomial Symbol → Type 0) (a : Polynomial Symbol) → ((c x : Polynomial Symbol) → P c → product_answer (symbols_under r) a c ≡ Ok x → P x)
      → (ts us : List Term) → multiplied (symbols_under r) a ts ≡ Ok us → AllOf (λ t. P t.1) ts → AllOf (λ t. P t.1) us
  all_multiplied P a keep [] us e h = subst (AllOf (λ t. P t.1)) (ok_same [] us e) tt
  all_multiplied P a keep (t ∷ ts) us e h =
      let c = bind_ok (product_answer (symbols_under r) a t.1) _ us e in
      let more = bind_ok (multiplied (symbols_under r) a ts) _ us c.2 in
      subst (AllOf (λ t. P t.1)) (ok_same ((t.0, c.0) ∷ more.0) us more.2) (keep t.1 c.0 h.0 c.1, all_multiplied P a keep ts more.0 more.1 h.1)

  -- ---- adding
  abbrev Choice : Product → Polynomial Symbol → Term → List Term → Ordering → Result (List Term) Refusal
  Choice m c t ts o = match_ordering o (sum_answer (symbols_under r) [] c >>= (λ x. Ok ((m, x) ∷ t ∷ ts))) (sum_answer (symbols_under r) t.1 c >>= (λ x. Ok ((t.0, x) ∷ ts))) (added (symbols_under r) m c ts >>= (λ us. Ok (t ∷ us)))

  -- a product above all terms is above those with one more
  above_added : (n m : Product) (c : Polynomial Symbol) (ts us : List Term) → later n m ≡ Greater → added (symbols_under r) m c ts ≡ Ok us → IsAbove later n ts → IsAbove later n us
  above_added n m c [] us g e h =
      let x = bind_ok (sum_answer (symbols_under r) [] c) _ us e in
      subst (IsAbove later n) (ok_same ((m, x.0) ∷ []) us x.2) (g, tt)
  above_added n m c (t ∷ ts) us g e h = by_order (λ us e. above_added n m c ts us g e h.1) (product_cmp m t.0) e
    where
      by_order : ((us : List Term) → added (symbols_under r) m c ts ≡ Ok us → IsAbove later n us) → (o : Ordering) → Choice m c t ts o ≡ Ok us → IsAbove later n us
      by_order rest Less e = let x = bind_ok (sum_answer (symbols_under r) [] c) _ us e in subst (IsAbove later n) (ok_same ((m, x.0) ∷ t ∷ ts) us x.2) (g, h)
      by_order rest Equal e = let x = bind_ok (sum_answer (symbols_under r) t.1 c) _ us e in subst (IsAbove later n) (ok_same ((t.0, x.0) ∷ ts) us x.2) h
      by_order rest Greater e =
          let more = bind_ok (added (symbols_under r) m c ts) _ us e in
          subst (IsAbove later n) (ok_same (t ∷ more.0) us more.2) (h.0, rest more.0 more.1)

  pub falling_added : (m : Product) (c : Polynomial Symbol) (ts us : List Term) → added (symbols_under r) m c ts ≡ Ok us → IsFalling later ts → IsFalling later us
  falling_added m c [] us e h =
      let x = bind_ok (sum_answer (symbols_under r) [] c) _ us e in
      subst (IsFalling later) (ok_same ((m, x.0) ∷ []) us x.2) (tt, tt)
  falling_added m c (t ∷ ts) us e h = by_order (λ us e. falling_added m c ts us e h.1) (product_cmp m t.0) refl e
    where
      by_order : ((us : List Term) → added (symbols_under r) m c ts ≡ Ok us → IsFalling later us) → (o : Ordering) → product_cmp m t.0 ≡ o → Choice m c t ts o ≡ Ok us → IsFalling later us
      by_order rest Less o e =
          let x = bind_ok (sum_answer (symbols_under r) [] c) _ us e in
          let g : later m t.0 ≡ Greater = greater_reversed product_order.total m t.0 o in
          subst (IsFalling later) (ok_same ((m, x.0) ∷ t ∷ ts) us x.2) ((g, above_later m t.0 ts g h.0), h)
      by_order rest Equal o e = let x = bind_ok (sum_answer (symbols_under r) t.1 c) _ us e in subst (IsFalling later) (ok_same ((t.0, x.0) ∷ ts) us x.2) h
      by_order rest Greater o e =
          let more = bind_ok (added (symbols_under r) m c ts) _ us e in
          subst (IsFalling later) (ok_same (t ∷ more.0) us more.2) (above_added t.0 m c ts more.0 o more.1 h.0, rest more.0 more.1)

  pub all_added : (Q : Product → Type 0) (P : Polynomial Symbol → Type 0) (m : Product) (c : Polynomial Symbol) → ((d x : Polynomial Symbol) → P d → sum_answer (symbols_under r) d c ≡ Ok x → P x) → P [] → Q m
      → (ts us : List Term) → added (symbols_under r) m c ts ≡ Ok us → AllOf (λ t. Q t.0) ts → AllOf (λ t. P t.1) ts → AllOf (λ t. Q t.0) us × AllOf (λ t. P t.1) us
  all_added Q P m c keep nothing q [] us e h k =
      let x = bind_ok (sum_answer (symbols_under r) [] c) _ us e in
      subst (λ l. AllOf (λ t. Q t.0) l × AllOf (λ t. P t.1) l) (ok_same ((m, x.0) ∷ []) us x.2) ((q, tt), (keep [] x.0 nothing x.1, tt))
  all_added Q P m c keep nothing q (t ∷ ts) us e h k = by_order (λ us e. all_added Q P m c keep nothing q ts us e h.1 k.1) (product_cmp m t.0) e
    where
      by_order : ((us : List Term) → added (symbols_under r) m c ts ≡ Ok us → AllOf (λ t. Q t.0) us × AllOf (λ t. P t.1) us) → (o : Ordering) → Choice m c t ts o ≡ Ok us → AllOf (λ t. Q t.0) us × AllOf (λ t. P t.1) us
      by_order more_of Less e =
          let x = bind_ok (sum_answer (symbols_under r) [] c) _ us e in
          subst (λ l. AllOf (λ t. Q t.0) l × AllOf (λ t. P t.1) l) (ok_same ((m, x.0) ∷ t ∷ ts) us x.2) ((q, h), (keep [] x.0 nothing x.1, k))
      by_order more_of Equal e =
          let x = bind_ok (sum_answer (symbols_under r) t.1 c) _ us e in
          subst (λ l. AllOf (λ t. Q t.0) l × AllOf (λ t. P t.1) l) (ok_same ((t.0, x.0) ∷ ts) us x.2) (h, (keep t.1 x.0 k.0 x.1, k.1))
      by_order more_of Greater e =
          let more = bind_ok (added (symbols_under r) m c ts) _ us e in
          let rest = more_of more.0 more.1 in
          subst (λ l. AllOf (λ t. Q t.0) l × AllOf (λ t. P t.1) l) (ok_same (t ∷ more.0) us more.2) ((h.0, rest.0), (k.0, rest.1))
