-- Least common multiples of monomials decide the limits that the monomials pass.
use Rattle.std.proofs.Common.{◌≡◌, ◌<◌, ◌+◌, ◌∙◌, ◌||◌, ℕ, max, Bool, true, false, cond, List, [], ◌∷◌, map, length, nat_lt, refl, sym, ap, ap₂, arith}
use Rattle.std.proofs.lemmas.Bool.Decides.{nat_tests}
use Rattle.std.proofs.lemmas.List.{length-map}
use Rattle.std.specs.Prelude.{Option, Some}
use Rattle.dz_algebra.specs.declared.Limit.{Limit}
use Rattle.dz_algebra.specs.declared.Limit.TheVariants.{Order, Exponent}
use Rattle.std.specs.declared.cmp.Ordering.{Ordering}
use Rattle.std.specs.declared.cmp.Ordering.TheVariants.{Less, Equal, Greater}
use Rattle.std.specs.Ordering.{match_ordering}
use Rattle.dz_algebra.specs.Gather.{put, onto}
use Rattle.dz_algebra.specs.Order.{IsOrder, IsAbove}
use Rattle.dz_algebra.specs.Monomial.{Monomial, IsMonomial, exponent}
use Rattle.dz_algebra.specs.Symbols.{Symbols}
use Rattle.dz_algebra.specs.Size as size
use Rattle.dz_algebra.proofs.Gathers.{any_onto}
use Rattle.dz_algebra.proofs.Monomials.{exponent_below, above_more}
use Rattle.dz_algebra.proofs.Orders.{greater_reversed}
use Rattle.dz_monomials.specs.Degrees.{degrees, has_high_order, has_high_exponent, limit_of_counts, limit_by}

-- ---- the least common multiple of two monomials
module _ {S : Type 0} {cmp : S → S → Ordering} (order : IsOrder cmp) where
  -- the exponent of a first power
  exponent_first : (s : S) (p : S × ℕ) (m : Monomial S) → IsAbove cmp p.0 m → exponent cmp s (p ∷ m) ≡ max (match_ordering (cmp s p.0) 0 p.1 0) (exponent cmp s m)
  exponent_first s p m a = by_order (cmp s p.0) refl
    where
      by_order : (o : Ordering) → cmp s p.0 ≡ o → match_ordering o (exponent cmp s m) (p.1 + exponent cmp s m) (exponent cmp s m) ≡ max (match_ordering o 0 p.1 0) (exponent cmp s m)
      by_order Less e = omega arith
      by_order Equal e = let z : exponent cmp s m ≡ 0 = ap (λ x. exponent cmp x m) (order.same s p.0 e) ∙ exponent_below order p.0 m a in omega (arith, z)
      by_order Greater e = omega arith

  above_put : (k s : S) (e : ℕ) (m : Monomial S) → cmp k s ≡ Greater → IsAbove cmp k m → IsAbove cmp k (put cmp max s e m)
  above_put k s e [] h a = (h, tt)
  above_put k s e (p ∷ m) h a =
      elim (cmp s p.0) as (λ o. IsAbove cmp k (match_ordering o (p ∷ put cmp max s e m) ((p.0, max e p.1) ∷ m) ((s, e) ∷ p ∷ m))) [
        | Less ↦ (a.0, above_put k s e m h a.1)
        | Equal ↦ (a.0, a.1)
        | Greater ↦ (h, a)
      ]

  put_is : (s : S) (e : ℕ) (m : Monomial S) → 0 < e → IsMonomial cmp m → IsMonomial cmp (put cmp max s e m)
  put_is s e [] h i = (h, tt, tt)
  put_is s e (p ∷ m) h i =
      elim (cmp s p.0) as (λ o. cmp s p.0 ≡ o → IsMonomial cmp (match_ordering o (p ∷ put cmp max s e m) ((p.0, max e p.1) ∷ m) ((s, e) ∷ p ∷ m))) [
        | Less ↦ λ f. (i.0, above_put p.0 s e m (greater_reversed order.total s p.0 f) i.1, put_is s e m h i.2)
        | Equal ↦ λ f. (omega (arith, h), i.1, i.2)
        | Greater ↦ λ f. (h, (f, above_more order s p.0 m f i.1), i)
      ] refl

  exponent_put : (s t : S) (e : ℕ) (m : Monomial S) → IsMonomial cmp m → exponent cmp s (put cmp max t e m) ≡ max (match_ordering (cmp s t) 0 e 0) (exponent cmp s m)
  exponent_put s t e [] i = exponent_first s (t, e) [] tt
  exponent_put s t e (p ∷ m) i =
      elim (cmp t p.0) as (λ o. cmp t p.0 ≡ o → exponent cmp s (match_ordering o (p ∷ put cmp max t e m) ((p.0, max e p.1) ∷ m) ((t, e) ∷ p ∷ m)) ≡ max (match_ordering (cmp s t) 0 e 0) (exponent cmp s (p ∷ m))) [
        | Less ↦ λ f.
            exponent_first s p (put cmp max t e m) (above_put p.0 t e m (greater_reversed order.total t p.0 f) i.1)
            ∙ ap (max (match_ordering (cmp s p.0) 0 p.1 0)) (exponent_put s t e m i.2)
            ∙ swapped (match_ordering (cmp s p.0) 0 p.1 0) (match_ordering (cmp s t) 0 e 0) (exponent cmp s m)
            ∙ sym (ap (max (match_ordering (cmp s t) 0 e 0)) (exponent_first s p m i.1))
        | Equal ↦ λ f.
            exponent_first s (p.0, max e p.1) m i.1
            ∙ both (cmp s p.0) e p.1 (exponent cmp s m)
            ∙ ap₂ (λ u x. max (match_ordering (cmp s u) 0 e 0) x) (sym (order.same t p.0 f)) (sym (exponent_first s p m i.1))
        | Greater ↦ λ f. exponent_first s (t, e) (p ∷ m) (f, above_more order t p.0 m f i.1)
      ] refl
    where
      swapped : (a b x : ℕ) → max a (max b x) ≡ max b (max a x)
      swapped a b x = omega arith

      both : (o : Ordering) (a b x : ℕ) → max (match_ordering o 0 (max a b) 0) x ≡ max (match_ordering o 0 a 0) (max (match_ordering o 0 b 0) x)
      both Less a b x = omega arith
      both Equal a b x = omega arith
      both Greater a b x = omega arith

  pub multiple_is : (m n : Monomial S) → IsMonomial cmp m → IsMonomial cmp n → IsMonomial cmp (onto cmp max m n)
  multiple_is [] n h g = g
  multiple_is (p ∷ m) n h g = put_is p.0 p.1 (onto cmp max m n) h.0 (multiple_is m n h.2 g)

  pub exponent_multiple : (s : S) (m n : Monomial S) → IsMonomial cmp m → IsMonomial cmp n → exponent cmp s (onto cmp max m n) ≡ max (exponent cmp s m) (exponent cmp s n)
  exponent_multiple s [] n h g = omega arith
  exponent_multiple s (p ∷ m) n h g =
      exponent_put s p.0 p.1 (onto cmp max m n) (multiple_is m n h.2 g)
      ∙ ap (max (match_ordering (cmp s p.0) 0 p.1 0)) (exponent_multiple s m n h.2 g)
      ∙ grouped (match_ordering (cmp s p.0) 0 p.1 0) (exponent cmp s m) (exponent cmp s n)
      ∙ ap (λ x. max x (exponent cmp s n)) (sym (exponent_first s p m h.1))
    where
      grouped : (a b c : ℕ) → max a (max b c) ≡ max (max a b) c
      grouped a b c = omega arith

  -- ---- what they decide
  high_put : (s : S) (e : ℕ) (m : Monomial S) → has_high_exponent (put cmp max s e m) ≡ (nat_lt 65535 e || has_high_exponent m)
  high_put s e [] = refl
  high_put s e (p ∷ m) =
      elim (cmp s p.0) as (λ o. has_high_exponent (match_ordering o (p ∷ put cmp max s e m) ((p.0, max e p.1) ∷ m) ((s, e) ∷ p ∷ m)) ≡ (nat_lt 65535 e || (nat_lt 65535 p.1 || has_high_exponent m))) [
        | Less ↦ ap (λ b. nat_lt 65535 p.1 || b) (high_put s e m) ∙ swapped (nat_lt 65535 p.1) (nat_lt 65535 e) (has_high_exponent m)
        | Equal ↦ greater (nat_lt 65535 (max e p.1)) (nat_lt 65535 e) (nat_lt 65535 p.1) (has_high_exponent m) (λ h. grind (arith, nat_tests)) (λ h. grind (arith, nat_tests)) (λ h g. grind (arith, nat_tests))
        | Greater ↦ refl
      ]
    where
      swapped : (a b c : Bool) → (a || (b || c)) ≡ (b || (a || c))
      swapped true true c = refl
      swapped true false c = refl
      swapped false b c = refl

      greater : (x a b c : Bool) → (a ≡ true → x ≡ true) → (b ≡ true → x ≡ true) → (a ≡ false → b ≡ false → x ≡ false) → (x || c) ≡ (a || (b || c))
      greater x true b c f g h = ap (λ y. y || c) (f refl)
      greater x false true c f g h = ap (λ y. y || c) (g refl)
      greater x false false c f g h = ap (λ y. y || c) (h refl refl)

  pub high_multiple : (m n : Monomial S) → has_high_exponent (onto cmp max m n) ≡ (has_high_exponent m || has_high_exponent n)
  high_multiple [] n = refl
  high_multiple (p ∷ m) n = high_put p.0 p.1 (onto cmp max m n) ∙ ap (λ b. nat_lt 65535 p.1 || b) (high_multiple m n) ∙ grouped (nat_lt 65535 p.1) _ _
    where
      grouped : (a b c : Bool) → (a || (b || c)) ≡ ((a || b) || c)
      grouped true b c = refl
      grouped false b c = refl

  keys_put : (s : S) (e : ℕ) (m : Monomial S) → map (λ p. p.0) (put cmp max s e m) ≡ size.with_symbol cmp s (map (λ p. p.0) m)
  keys_put s e [] = refl
  keys_put s e (p ∷ m) =
      elim (cmp s p.0) as (λ o. map (λ p. p.0) (match_ordering o (p ∷ put cmp max s e m) ((p.0, max e p.1) ∷ m) ((s, e) ∷ p ∷ m)) ≡ match_ordering o (p.0 ∷ size.with_symbol cmp s (map (λ p. p.0) m)) (p.0 ∷ map (λ p. p.0) m) (s ∷ p.0 ∷ map (λ p. p.0) m)) [
        | Less ↦ ap (λ l. p.0 ∷ l) (keys_put s e m)
        | Equal ↦ refl
        | Greater ↦ refl
      ]

  keys_multiple : (m n : Monomial S) → map (λ p. p.0) (onto cmp max m n) ≡ size.with_symbols cmp m (map (λ p. p.0) n)
  keys_multiple [] n = refl
  keys_multiple (p ∷ m) n = keys_put p.0 p.1 (onto cmp max m n) ∙ ap (size.with_symbol cmp p.0) (keys_multiple m n)

  module _ {V : Type 0} where
    pub keys_degrees : (ts : List (Monomial S × V)) → map (λ p. p.0) (degrees cmp ts) ≡ size.symbols cmp (map (λ t. t.0) ts)
    keys_degrees [] = refl
    keys_degrees (t ∷ ts) = keys_multiple t.0 (degrees cmp ts) ∙ ap (size.with_symbols cmp t.0) (keys_degrees ts)

    pub high_exponents : (ts : List (Monomial S × V)) → size.has_high_exponent (map (λ t. t.0) ts) ≡ has_high_exponent (degrees cmp ts)
    high_exponents [] = refl
    high_exponents (t ∷ ts) = ap (λ b. has_high_exponent t.0 || b) (high_exponents ts) ∙ sym (high_multiple t.0 (degrees cmp ts))

length-keys : {X Y : Type 0} (ts : List (X × Y)) → length (map (λ t. t.0) ts) ≡ length ts
length-keys ts = length-map ts (λ t. t.0)

abbrev limits : Bool → Bool → ℕ → ℕ → Option Limit
limits a b m n = cond a (Some Order) (cond b (Some Exponent) (limit_of_counts m n))

module _ {S : Type 0} (g : Symbols S) (order : IsOrder g.cmp) {V : Type 0} where
  pub high_orders : (ts : List (Monomial S × V)) → size.has_high_order g (map (λ t. t.0) ts) ≡ has_high_order g.total_order (degrees g.cmp ts)
  high_orders [] = refl
  high_orders (t ∷ ts) = ap (λ b. has_high_order g.total_order t.0 || b) (high_orders ts) ∙ sym (any_onto order max (λ s. nat_lt 60 (g.total_order s)) t.0 (degrees g.cmp ts))

  -- the limit that the monomials of a list pass
  pub limit_of_degrees : (ts : List (Monomial S × V)) → size.limit_of g (map (λ t. t.0) ts) ≡ limit_by g.total_order (degrees g.cmp ts) (length ts)
  limit_of_degrees ts = by_parts (high_orders ts) (high_exponents order ts) (ap length (sym (keys_degrees order ts)) ∙ length-keys (degrees g.cmp ts)) (length-keys ts)
    where
      by_parts : {a a' b b' : Bool} {m m' n n' : ℕ} → a ≡ a' → b ≡ b' → m ≡ m' → n ≡ n' → limits a b m n ≡ limits a' b' m' n'
      by_parts {a' = a'} {b' = b'} {m = m} {n = n} e f h k = ap₂ (λ x y. limits x y m n) e f ∙ ap₂ (limits a' b') h k
