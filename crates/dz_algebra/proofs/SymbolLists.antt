-- The falling list of the symbols that occur: what stands in it, and what its first symbol is.
use Rattle.std.proofs.Common.{◌≡◌, ◌≢◌, ◌⊎◌, inl, inr, ℕ, zero, suc, ◌+◌, ◌<◌, max, Bool, true, false, cond, not, ◌&&◌, ◌||◌, IsTrue, List, [], ◌∷◌, map, ℤ, Option, Some, None, refl, sym, ap, ap₂, ◌∙◌, arith, subst}
use Rattle.std.specs.Prelude.{⊤}
use Rattle.std.specs.List.{list_any}
use Rattle.std.specs.declared.cmp.Ordering.{Ordering}
use Rattle.std.specs.declared.cmp.Ordering.TheVariants.{Less, Equal, Greater}
use Rattle.std.specs.Cmp.{tied_itself}
use Rattle.std.specs.Ordering.{match_ordering}
use Rattle.dz_algebra.specs.Order.{IsOrder}
use Rattle.dz_algebra.specs.Monomial.{Monomial, MonomialIn, exponent}
use Rattle.dz_algebra.specs.Polynomial.{Polynomial, PolynomialIn, IsPolynomial}
use Rattle.dz_algebra.specs.Symbols.{Symbols}
use Rattle.dz_algebra.specs.Parts.{degree, has_derivative, is_ground, leader}
use Rattle.dz_algebra.specs.Size.{symbols, with_symbol, with_symbols}
use Rattle.dz_algebra.proofs.Leaders.{leader_greatest, leader_occurs, no_leader_ground}
use Rattle.dz_algebra.proofs.Orders.{less_reversed, greater_reversed, greater_trans}

or_assoc : (a b c : Bool) → (a || (b || c)) ≡ ((a || b) || c)
or_assoc true b c = refl
or_assoc false b c = refl

or_swap : (a b c : Bool) → (a || (b || c)) ≡ (b || (a || c))
or_swap true true c = refl
or_swap true false c = refl
or_swap false true c = refl
or_swap false false c = refl

or_again : (a c : Bool) → (a || (a || c)) ≡ (a || c)
or_again true c = refl
or_again false c = refl

module _ {S : Type 0} (cmp : S → S → Ordering) (order : IsOrder cmp) where
  -- ---- what stands in the list
  any_with_symbol : (test : S → Bool) (s : S) (ts : List S) → list_any test (with_symbol cmp s ts) ≡ (test s || list_any test ts)
  any_with_symbol test s [] = refl
  any_with_symbol test s (t ∷ ts) = by_order (cmp s t) refl (any_with_symbol test s ts)
    where
      by_order : (o : Ordering) → cmp s t ≡ o → list_any test (with_symbol cmp s ts) ≡ (test s || list_any test ts)
          → list_any test (match_ordering o (t ∷ with_symbol cmp s ts) (t ∷ ts) (s ∷ t ∷ ts)) ≡ (test s || (test t || list_any test ts))
      by_order Less h e = ap (λ b. test t || b) e ∙ or_swap (test t) (test s) (list_any test ts)
      by_order Equal h e = let same : s ≡ t = order.same s t h in sym (rw same (or_again (test t) (list_any test ts)))
      by_order Greater h e = refl

  any_with_symbols : (test : S → Bool) (m : Monomial S) (ts : List S) → list_any test (with_symbols cmp m ts) ≡ (list_any (λ p. test p.0) m || list_any test ts)
  any_with_symbols test [] ts = refl
  any_with_symbols test (p ∷ m) ts = any_with_symbol test p.0 (with_symbols cmp m ts) ∙ ap (λ b. test p.0 || b) (any_with_symbols test m ts) ∙ or_assoc (test p.0) _ _

  -- a test holds of a symbol in the list exactly where it holds of one that occurs
  pub any_symbols : (test : S → Bool) (ms : List (Monomial S)) → list_any test (symbols cmp ms) ≡ list_any (λ m. list_any (λ p. test p.0) m) ms
  any_symbols test [] = refl
  any_symbols test (m ∷ ms) = any_with_symbols test m (symbols cmp ms) ∙ ap (λ b. list_any (λ p. test p.0) m || b) (any_symbols test ms)

  -- a property of each symbol that occurs is one of each symbol in the list
  abbrev Each : (S → Type 0) → List S → Type 0
  Each P [] = ⊤
  Each P (s ∷ ts) = P s × Each P ts

  each_with_symbol : (P : S → Type 0) (s : S) (ts : List S) → P s → Each P ts → Each P (with_symbol cmp s ts)
  each_with_symbol P s [] h a = (h, tt)
  each_with_symbol P s (t ∷ ts) h a = by_order (cmp s t) (each_with_symbol P s ts h a.1)
    where
      by_order : (o : Ordering) → Each P (with_symbol cmp s ts) → Each P (match_ordering o (t ∷ with_symbol cmp s ts) (t ∷ ts) (s ∷ t ∷ ts))
      by_order Less e = (a.0, e)
      by_order Equal e = a
      by_order Greater e = (h, a)

  each_with_symbols : (P : S → Type 0) (m : Monomial S) (ts : List S) → MonomialIn P m → Each P ts → Each P (with_symbols cmp m ts)
  each_with_symbols P [] ts h a = a
  each_with_symbols P (p ∷ m) ts h a = each_with_symbol P p.0 _ h.0 (each_with_symbols P m ts h.1 a)

  each_symbol : (P : S → Type 0) (p : Polynomial S) → PolynomialIn P p → Each P (symbols cmp (map (λ t. t.0) p))
  each_symbol P [] h = tt
  each_symbol P (t ∷ p) h = each_with_symbols P t.0 _ h.0 (each_symbol P p h.1)

  -- ---- the list falls
  abbrev Falls : List S → Type 0
  Falls [] = ⊤
  Falls (s ∷ ts) = Each (λ t. cmp s t ≡ Greater) ts × Falls ts

  each_less : (s t : S) (us : List S) → cmp s t ≡ Greater → Each (λ u. cmp t u ≡ Greater) us → Each (λ u. cmp s u ≡ Greater) us
  each_less s t [] h a = tt
  each_less s t (u ∷ us) h a = (greater_trans order.total s t u h a.0, each_less s t us h a.1)

  falls_with_symbol : (s : S) (ts : List S) → Falls ts → Falls (with_symbol cmp s ts)
  falls_with_symbol s [] f = (tt, tt)
  falls_with_symbol s (t ∷ ts) f = by_order (cmp s t) refl (falls_with_symbol s ts f.1)
    where
      by_order : (o : Ordering) → cmp s t ≡ o → Falls (with_symbol cmp s ts) → Falls (match_ordering o (t ∷ with_symbol cmp s ts) (t ∷ ts) (s ∷ t ∷ ts))
      by_order Less h e = (each_with_symbol (λ u. cmp t u ≡ Greater) s ts (greater_reversed order.total s t h) f.0, e)
      by_order Equal h e = f
      by_order Greater h e = ((h, each_less s t ts h f.0), f)

  falls_with_symbols : (m : Monomial S) (ts : List S) → Falls ts → Falls (with_symbols cmp m ts)
  falls_with_symbols [] ts f = f
  falls_with_symbols (p ∷ m) ts f = falls_with_symbol p.0 _ (falls_with_symbols m ts f)

  symbols_fall : (ms : List (Monomial S)) → Falls (symbols cmp ms)
  symbols_fall [] = tt
  symbols_fall (m ∷ ms) = falls_with_symbols m _ (symbols_fall ms)

  -- ---- a symbol that occurs is the first one of the list, or less
  abbrev is_at : S → S → Bool
  is_at w s = match_ordering (cmp s w) false true false

  first_or_less : (w h : S) (ts : List S) → Falls (h ∷ ts) → list_any (is_at w) (h ∷ ts) ≡ true → (h ≡ w) ⊎ (cmp h w ≡ Greater)
  first_or_less w h ts f a = by_order (cmp h w) refl a
    where
      among : (us : List S) → Each (λ u. cmp h u ≡ Greater) us → list_any (is_at w) us ≡ true → cmp h w ≡ Greater
      among [] e b = absurd cc
      among (u ∷ us) e b = by_next (cmp u w) refl b (λ c. among us e.1 c)
        where
          by_next : (o : Ordering) → cmp u w ≡ o → (match_ordering o false true false || list_any (is_at w) us) ≡ true → (list_any (is_at w) us ≡ true → cmp h w ≡ Greater) → cmp h w ≡ Greater
          by_next Less k c more = more c
          by_next Equal k c more = subst (λ x. cmp h x ≡ Greater) (order.same u w k) e.0
          by_next Greater k c more = more c

      by_order : (o : Ordering) → cmp h w ≡ o → (match_ordering o false true false || list_any (is_at w) ts) ≡ true → (h ≡ w) ⊎ (cmp h w ≡ Greater)
      by_order Less k b = inr (among ts f.0 b)
      by_order Equal k b = inl (order.same h w k)
      by_order Greater k b = inr k

  or_right : (a b : Bool) → b ≡ true → (a || b) ≡ true
  or_right true b e = refl
  or_right false b e = e

  -- a symbol with an exponent occurs
  occurs_in : (w : S) (m : Monomial S) → 0 < exponent cmp w m → list_any (λ p. is_at w p.0) m ≡ true
  occurs_in w [] h = absurd (omega arith)
  occurs_in w (p ∷ m) h = by_order (cmp w p.0) refl h (λ k. occurs_in w m k)
    where
      by_order : (o : Ordering) → cmp w p.0 ≡ o → 0 < match_ordering o (exponent cmp w m) (p.1 + exponent cmp w m) (exponent cmp w m)
          → (0 < exponent cmp w m → list_any (λ p. is_at w p.0) m ≡ true) → (is_at w p.0 || list_any (λ p. is_at w p.0) m) ≡ true
      by_order Less k e more = or_right _ _ (more e)
      by_order Equal k e more =
          let same : w ≡ p.0 = order.same w p.0 k in
          let tied : cmp p.0 w ≡ Equal = subst (λ x. cmp x w ≡ Equal) same (tied_itself order.total w) in
          ap (λ o. match_ordering o false true false || list_any (λ p. is_at w p.0) m) tied
      by_order Greater k e more = or_right _ _ (more e)

  occurs : (w : S) (p : Polynomial S) → 0 < degree cmp w p → list_any (λ m. list_any (λ q. is_at w q.0) m) (map (λ t. t.0) p) ≡ true
  occurs w [] h = absurd (omega arith)
  occurs w (t ∷ p) h = by_exponent (exponent cmp w t.0) refl (λ k. occurs w p k)
    where
      by_exponent : (n : ℕ) → exponent cmp w t.0 ≡ n → (0 < degree cmp w p → list_any (λ m. list_any (λ q. is_at w q.0) m) (map (λ t. t.0) p) ≡ true)
          → (list_any (λ q. is_at w q.0) t.0 || list_any (λ m. list_any (λ q. is_at w q.0) m) (map (λ t. t.0) p)) ≡ true
      by_exponent zero e more = or_right _ _ (more (omega arith))
      by_exponent (suc n) e more = ap (λ b. b || list_any (λ m. list_any (λ q. is_at w q.0) m) (map (λ t. t.0) p)) (occurs_in w t.0 (omega arith))

-- ---- the first symbol, where every derivative is greater than every independent
module _ {S : Type 0} (g : Symbols S) (order : IsOrder g.cmp) where
  has_derivative_any : (m : Monomial S) → has_derivative g m ≡ list_any (λ p. g.is_derivative p.0) m
  has_derivative_any [] = refl
  has_derivative_any (p ∷ m) = ap (λ b. g.is_derivative p.0 || b) (has_derivative_any m)

  not_or : (a b : Bool) → (not a && not b) ≡ not (a || b)
  not_or true b = refl
  not_or false b = refl

  is_ground_any : (p : Polynomial S) → is_ground g p ≡ not (list_any (λ m. list_any (λ q. g.is_derivative q.0) m) (map (λ t. t.0) p))
  is_ground_any [] = refl
  is_ground_any (t ∷ p) = ap₂ (λ a b. not a && b) (has_derivative_any t.0) (is_ground_any p) ∙ not_or _ _

  -- no derivative occurs exactly where none stands in the list
  pub is_ground_symbols : (p : Polynomial S) → is_ground g p ≡ not (list_any g.is_derivative (symbols g.cmp (map (λ t. t.0) p)))
  is_ground_symbols p = is_ground_any p ∙ ap not (sym (any_symbols g.cmp order g.is_derivative (map (λ t. t.0) p)))

  -- the leader is the first symbol, where that is a derivative
  pub leader_first : (p : Polynomial S) (h : S) (ts : List S) → IsPolynomial g.cmp p → symbols g.cmp (map (λ t. t.0) p) ≡ h ∷ ts → g.is_derivative h ≡ true → leader g p ≡ Some h
  leader_first p h ts c list first = by_leader (leader g p) refl
    where
      by_leader : (l : Option S) → leader g p ≡ l → l ≡ Some h
      by_leader None e =
          let ground : IsTrue (is_ground g p) = no_leader_ground g p e in
          let any : is_ground g p ≡ not (list_any g.is_derivative (h ∷ ts)) = is_ground_symbols p ∙ ap (λ l. not (list_any g.is_derivative l)) list in
          let false_there : not (list_any g.is_derivative (h ∷ ts)) ≡ false = ap (λ b. not (b || list_any g.is_derivative ts)) first in
          absurd cc
      by_leader (Some w) e =
          let falls : Falls g.cmp order (h ∷ ts) = subst (Falls g.cmp order) list (symbols_fall g.cmp order (map (λ t. t.0) p)) in
          let there : list_any (is_at g.cmp order w) (h ∷ ts) ≡ true = ap (list_any (is_at g.cmp order w)) (sym list) ∙ any_symbols g.cmp order (is_at g.cmp order w) (map (λ t. t.0) p) ∙ occurs g.cmp order w p (leader_occurs g order p w c e).1 in
          let each : Each g.cmp order (λ s. IsTrue (g.is_derivative s) → g.cmp s w ≢ Greater) (h ∷ ts) = subst (Each g.cmp order (λ s. IsTrue (g.is_derivative s) → g.cmp s w ≢ Greater)) list (each_symbol g.cmp order _ p (leader_greatest g order p w e)) in
          elim (first_or_less g.cmp order w h ts falls there) [ inl k ↦ ap Some (sym k) | inr k ↦ absurd (each.0 first k) ]

  -- no symbol after an independent is a derivative
  none_below : (above : (s t : S) → g.is_derivative s ≡ true → g.is_derivative t ≡ false → g.cmp s t ≡ Greater) (h : S) (ts : List S)
      → g.is_derivative h ≡ false → Each g.cmp order (λ t. g.cmp h t ≡ Greater) ts → list_any g.is_derivative ts ≡ false
  none_below above h [] first e = refl
  none_below above h (t ∷ ts) first e = by_test (g.is_derivative t) refl (none_below above h ts first e.1)
    where
      by_test : (b : Bool) → g.is_derivative t ≡ b → list_any g.is_derivative ts ≡ false → (b || list_any g.is_derivative ts) ≡ false
      by_test true k more = let less : g.cmp h t ≡ Less = less_reversed order.total t h (above t h k first) in let greater : g.cmp h t ≡ Greater = e.0 in absurd cc
      by_test false k more = more

  -- the polynomial is ground, where its first symbol is an independent
  pub ground_first : (above : (s t : S) → g.is_derivative s ≡ true → g.is_derivative t ≡ false → g.cmp s t ≡ Greater) (p : Polynomial S) (h : S) (ts : List S)
      → symbols g.cmp (map (λ t. t.0) p) ≡ h ∷ ts → g.is_derivative h ≡ false → is_ground g p ≡ true
  ground_first above p h ts list first =
      let falls : Falls g.cmp order (h ∷ ts) = subst (Falls g.cmp order) list (symbols_fall g.cmp order (map (λ t. t.0) p)) in
      is_ground_symbols p ∙ ap (λ l. not (list_any g.is_derivative l)) list ∙ ap₂ (λ a b. not (a || b)) first (none_below above h ts first falls.0)
