-- A polynomial with fewer terms and lower degrees than another passes no limit that the other does not pass.
use Rattle.std.proofs.Common.{◌≡◌, ◌<◌, ◌≤◌, ◌+◌, ◌∙◌, ◌||◌, ℕ, Bool, true, false, cond, List, [], ◌∷◌, map, length, nat_lt, refl, sym, ap, ap₂, subst, arith}
use Rattle.std.specs.Prelude.{Some, None}
use Rattle.std.proofs.lemmas.Bool.Decides.{nat_tests}
use Rattle.std.specs.Cmp.{tied_itself}
use Rattle.std.specs.List.{list_any}
use Rattle.std.specs.Ordering.{match_ordering}
use Rattle.std.specs.declared.cmp.Ordering.{Ordering}
use Rattle.std.specs.declared.cmp.Ordering.TheVariants.{Less, Equal, Greater}
use Rattle.dz_algebra.specs.declared.Limit.TheVariants as limits
use Rattle.dz_algebra.specs.Monomial.{Monomial, IsMonomial, exponent}
use Rattle.dz_algebra.specs.Order.{IsOrder}
use Rattle.dz_algebra.specs.Size.{limit_of}
use Rattle.dz_algebra.specs.Symbols.{Symbols}
use Rattle.dz_algebra.proofs.Monomials.{exponent_below, above_more}
use Rattle.dz_algebra.proofs.Orders.{greater_reversed}
use Rattle.dz_monomials.specs.Degrees.{degrees, has_high_order, has_high_exponent, limit_of_counts, limit_by}
use Rattle.dz_monomials.proofs.Multiples.{limit_of_degrees}
use Rattle.dz_monomials.proofs.SupportLaws.{KeysAreMonomials, greatest_exponent, degrees_is, exponent_degrees}

module _ {S : Type 0} {cmp : S → S → Ordering} (order : IsOrder cmp) where
  passed : (s : S) (p : S × ℕ) (m : Monomial S) (o : Ordering) → cmp s p.0 ≡ o → (o ≡ Equal → ⊥) → exponent cmp s (p ∷ m) ≡ exponent cmp s m
  passed s p m o e n = ap (λ o. match_ordering o (exponent cmp s m) (p.1 + exponent cmp s m) (exponent cmp s m)) e ∙ skip o n
    where
      skip : (o : Ordering) → (o ≡ Equal → ⊥) → match_ordering o (exponent cmp s m) (p.1 + exponent cmp s m) (exponent cmp s m) ≡ exponent cmp s m
      skip Less n = refl
      skip Equal n = absurd (n refl)
      skip Greater n = refl

  at_first : (p : S × ℕ) (m : Monomial S) → exponent cmp p.0 (p ∷ m) ≡ p.1 + exponent cmp p.0 m
  at_first p m = ap (λ o. match_ordering o (exponent cmp p.0 m) (p.1 + exponent cmp p.0 m) (exponent cmp p.0 m)) (tied_itself order.total p.0)

  -- a monomial has no more symbols than a multiple of it
  shorter : (m n : Monomial S) → IsMonomial cmp m → IsMonomial cmp n → ((s : S) → exponent cmp s m ≤ exponent cmp s n) → length m ≤ length n
  shorter [] n h g d = omega arith
  shorter (p ∷ m) [] h g d = let a = at_first p m in let b = d p.0 in let c = h.0 in absurd (omega arith)
  shorter (p ∷ m) (q ∷ n) h g d = by_order (cmp p.0 q.0) refl (shorter m n h.2 g.2) (shorter (p ∷ m) n h g.2)
    where
      by_order : (o : Ordering) → cmp p.0 q.0 ≡ o → (((s : S) → exponent cmp s m ≤ exponent cmp s n) → length m ≤ length n) → (((s : S) → exponent cmp s (p ∷ m) ≤ exponent cmp s n) → length (p ∷ m) ≤ length n) → length (p ∷ m) ≤ length (q ∷ n)
      by_order Greater e both one =
          let a = at_first p m in
          let b = d p.0 in
          let z : exponent cmp p.0 (q ∷ n) ≡ 0 = exponent_below order p.0 (q ∷ n) (e, above_more order p.0 q.0 n e g.1) in
          absurd (omega (arith, a, b, z, h.0))
      by_order Equal e both one = let l = both (λ s. rest s (cmp s p.0) refl) in omega arith
        where
          k : p.0 ≡ q.0
          k = order.same p.0 q.0 e

          rest : (s : S) (o : Ordering) → cmp s p.0 ≡ o → exponent cmp s m ≤ exponent cmp s n
          rest s Equal f = let z : exponent cmp s m ≡ 0 = ap (λ x. exponent cmp x m) (order.same s p.0 f) ∙ exponent_below order p.0 m h.1 in omega (arith, z)
          rest s Less f = subst (λ x. x) (ap₂ (λ a b. a ≤ b) (passed s p m Less f (λ x. cc)) (passed s q n Less (ap (cmp s) (sym k) ∙ f) (λ x. cc))) (d s)
          rest s Greater f = subst (λ x. x) (ap₂ (λ a b. a ≤ b) (passed s p m Greater f (λ x. cc)) (passed s q n Greater (ap (cmp s) (sym k) ∙ f) (λ x. cc))) (d s)
      by_order Less e both one = let l = one (λ s. rest s (cmp s q.0) refl) in omega arith
        where
          above : cmp q.0 p.0 ≡ Greater
          above = greater_reversed order.total p.0 q.0 e

          rest : (s : S) (o : Ordering) → cmp s q.0 ≡ o → exponent cmp s (p ∷ m) ≤ exponent cmp s n
          rest s Equal f = let z : exponent cmp s (p ∷ m) ≡ 0 = ap (λ x. exponent cmp x (p ∷ m)) (order.same s q.0 f) ∙ exponent_below order q.0 (p ∷ m) (above, above_more order q.0 p.0 m above h.1) in omega (arith, z)
          rest s Less f = subst (λ x. exponent cmp s (p ∷ m) ≤ x) (passed s q n Less f (λ x. cc)) (d s)
          rest s Greater f = subst (λ x. exponent cmp s (p ∷ m) ≤ x) (passed s q n Greater f (λ x. cc)) (d s)

  either : (a b : Bool) → (a || b) ≡ false → (a ≡ false) × (b ≡ false)
  either true b e = cc
  either false b e = (refl, e)

  -- what holds of no symbol of a monomial fails at each that occurs
  pub occurs : (test : S → Bool) (n : Monomial S) (s : S) → list_any (λ p. test p.0) n ≡ false → 0 < exponent cmp s n → test s ≡ false
  occurs test [] s e l = absurd (omega arith)
  occurs test (q ∷ n) s e l = let b = either (test q.0) (list_any (λ p. test p.0) n) e in by_order (cmp s q.0) refl b.0 (occurs test n s b.1)
    where
      by_order : (o : Ordering) → cmp s q.0 ≡ o → test q.0 ≡ false → (0 < exponent cmp s n → test s ≡ false) → test s ≡ false
      by_order Equal f t r = ap test (order.same s q.0 f) ∙ t
      by_order Less f t r = r (subst (λ x. 0 < x) (passed s q n Less f (λ x. cc)) l)
      by_order Greater f t r = r (subst (λ x. 0 < x) (passed s q n Greater f (λ x. cc)) l)

  orders_below : (test : S → Bool) (m n : Monomial S) → IsMonomial cmp m → ((s : S) → exponent cmp s m ≤ exponent cmp s n) → list_any (λ p. test p.0) n ≡ false → list_any (λ p. test p.0) m ≡ false
  orders_below test [] n h d e = refl
  orders_below test (p ∷ m) n h d e =
      ap₂ (λ a b. a || b)
      (occurs test n p.0 e (let a = at_first p m in let b = d p.0 in omega (arith, h.0)))
      (orders_below test m n h.2 (λ s. rest s (cmp s p.0) refl) e)
    where
      rest : (s : S) (o : Ordering) → cmp s p.0 ≡ o → exponent cmp s m ≤ exponent cmp s n
      rest s Equal f = let z : exponent cmp s m ≡ 0 = ap (λ x. exponent cmp x m) (order.same s p.0 f) ∙ exponent_below order p.0 m h.1 in omega (arith, z)
      rest s Less f = subst (λ x. x ≤ exponent cmp s n) (passed s p m Less f (λ x. cc)) (d s)
      rest s Greater f = subst (λ x. x ≤ exponent cmp s n) (passed s p m Greater f (λ x. cc)) (d s)

  low_exponent : (n : Monomial S) (s : S) → IsMonomial cmp n → has_high_exponent n ≡ false → exponent cmp s n ≤ 65535
  low_exponent [] s h e = omega arith
  low_exponent (q ∷ n) s h e = let b = either (nat_lt 65535 q.1) (has_high_exponent n) e in by_order (cmp s q.0) refl b.0 (low_exponent n s h.2 b.1)
    where
      by_order : (o : Ordering) → cmp s q.0 ≡ o → nat_lt 65535 q.1 ≡ false → exponent cmp s n ≤ 65535 → exponent cmp s (q ∷ n) ≤ 65535
      by_order Equal f t r =
          let z : exponent cmp s n ≡ 0 = ap (λ x. exponent cmp x n) (order.same s q.0 f) ∙ exponent_below order q.0 n h.1 in
          let a : exponent cmp s (q ∷ n) ≡ q.1 + exponent cmp s n = ap (λ o. match_ordering o (exponent cmp s n) (q.1 + exponent cmp s n) (exponent cmp s n)) f in
          let l : q.1 ≤ 65535 = grind (arith, nat_tests) in
          omega (arith, z, a, l)
      by_order Less f t r = let a = passed s q n Less f (λ x. cc) in omega (arith, a, r)
      by_order Greater f t r = let a = passed s q n Greater f (λ x. cc) in omega (arith, a, r)

  fits : (e : ℕ) → e ≤ 65535 → nat_lt 65535 e ≡ false
  fits e l = grind (arith, nat_tests)

  exponents_below : (m n : Monomial S) → IsMonomial cmp m → IsMonomial cmp n → ((s : S) → exponent cmp s m ≤ exponent cmp s n) → has_high_exponent n ≡ false → has_high_exponent m ≡ false
  exponents_below [] n h g d e = refl
  exponents_below (p ∷ m) n h g d e =
      ap₂ (λ a b. a || b)
      (let a = at_first p m in let b = d p.0 in let c = low_exponent n p.0 g e in fits p.1 (omega arith))
      (exponents_below m n h.2 g (λ s. rest s (cmp s p.0) refl) e)
    where
      rest : (s : S) (o : Ordering) → cmp s p.0 ≡ o → exponent cmp s m ≤ exponent cmp s n
      rest s Equal f = let z : exponent cmp s m ≡ 0 = ap (λ x. exponent cmp x m) (order.same s p.0 f) ∙ exponent_below order p.0 m h.1 in omega (arith, z)
      rest s Less f = subst (λ x. x ≤ exponent cmp s n) (passed s p m Less f (λ x. cc)) (d s)
      rest s Greater f = subst (λ x. x ≤ exponent cmp s n) (passed s p m Greater f (λ x. cc)) (d s)

counts_fall : (m n j k : ℕ) → m ≤ n → j ≤ k → limit_of_counts n k ≡ None → limit_of_counts m j ≡ None
counts_fall m n j k l h e = by_tests (nat_lt 64 n) refl (nat_lt 4096 k) refl (nat_lt 64 m) refl (nat_lt 4096 j) refl e
  where
    by_tests : (a : Bool) → nat_lt 64 n ≡ a → (b : Bool) → nat_lt 4096 k ≡ b → (c : Bool) → nat_lt 64 m ≡ c → (d : Bool) → nat_lt 4096 j ≡ d → cond a (Some limits.Symbols) (cond b (Some limits.Terms) None) ≡ None → cond c (Some limits.Symbols) (cond d (Some limits.Terms) None) ≡ None
    by_tests true f b g c p d q e = cc
    by_tests false f true g c p d q e = cc
    by_tests false f false g true p d q e = absurd (grind (arith, nat_tests))
    by_tests false f false g false p true q e = absurd (grind (arith, nat_tests))
    by_tests false f false g false p false q e = refl

module _ {S : Type 0} (g : Symbols S) (order : IsOrder g.cmp) where
  limit_below : (m n : Monomial S) (j k : ℕ) → IsMonomial g.cmp m → IsMonomial g.cmp n → ((s : S) → exponent g.cmp s m ≤ exponent g.cmp s n) → j ≤ k → limit_by g.total_order n k ≡ None → limit_by g.total_order m j ≡ None
  limit_below m n j k h i d l e = by_tests (has_high_order g.total_order n) refl (has_high_exponent n) refl
    where
      by_tests : (a : Bool) → has_high_order g.total_order n ≡ a → (b : Bool) → has_high_exponent n ≡ b → limit_by g.total_order m j ≡ None
      by_tests true f b x = let z = sym (ap (λ a. cond a (Some limits.Order) (cond (has_high_exponent n) (Some limits.Exponent) (limit_of_counts (length n) k))) f) ∙ e in cc
      by_tests false f true x = let z = sym (ap₂ (λ a b. cond a (Some limits.Order) (cond b (Some limits.Exponent) (limit_of_counts (length n) k))) f x) ∙ e in cc
      by_tests false f false x =
          ap₂ (λ a b. cond a (Some limits.Order) (cond b (Some limits.Exponent) (limit_of_counts (length m) j))) (orders_below order (λ s. nat_lt 60 (g.total_order s)) m n h d f) (exponents_below order m n h i d x)
          ∙ counts_fall (length m) (length n) j k (shorter order m n h i d) l (sym (ap₂ (λ a b. cond a (Some limits.Order) (cond b (Some limits.Exponent) (limit_of_counts (length n) k))) f x) ∙ e)

  -- fewer terms with lower degrees pass no limit that the others do not pass
  pub small_below : {V W : Type 0} (ps : List (Monomial S × V)) (qs : List (Monomial S × W)) → KeysAreMonomials g.cmp ps → KeysAreMonomials g.cmp qs → ((s : S) → greatest_exponent g.cmp s ps ≤ greatest_exponent g.cmp s qs) → length ps ≤ length qs → limit_of g (map (λ t. t.0) qs) ≡ None → limit_of g (map (λ t. t.0) ps) ≡ None
  small_below ps qs h i d l e =
      limit_of_degrees g order ps
      ∙ limit_below (degrees g.cmp ps) (degrees g.cmp qs) (length ps) (length qs) (degrees_is order ps h) (degrees_is order qs i)
      (λ s. subst (λ x. x) (ap₂ (λ a b. a ≤ b) (sym (exponent_degrees order s ps h)) (sym (exponent_degrees order s qs i))) (d s))
      l (sym (limit_of_degrees g order qs) ∙ e)
