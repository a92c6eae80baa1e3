-- The leader is the greatest derivative, and no symbol is above it.
use Rattle.std.specs.Prelude.{⊤}
use Rattle.std.proofs.Common.{◌≡◌, ◌⊎◌, inl, inr, ℕ, zero, suc, ◌+◌, ◌<◌, ◌≤◌, Bool, true, false, cond, [], ◌∷◌, refl, ap, ◌∙◌, arith, subst, max, Option, Some, None}
use Rattle.std.specs.declared.cmp.Ordering.{Ordering}
use Rattle.std.specs.declared.cmp.Ordering.TheVariants.{Less, Equal, Greater}
use Rattle.std.specs.Ordering.{match_ordering}
use Rattle.dz_algebra.specs.Order.{IsOrder}
use Rattle.dz_algebra.specs.Monomial.{Monomial, IsMonomial, MonomialIn, exponent}
use Rattle.dz_algebra.specs.Polynomial.{Polynomial, AreMonomials, IsPolynomial, PolynomialIn}
use Rattle.dz_algebra.proofs.Canonical.{are_monomials}
use Rattle.std.specs.Cmp.{tied_itself}
use Rattle.dz_algebra.specs.Parts.{degree, greater, greatest_derivative, leader_from, leader}
use Rattle.dz_algebra.proofs.Orders.{less_reversed}
use Rattle.dz_rank.specs.Rankings.{RankingValue, ranking_cmp}
use Rattle.dz_rank.specs.Symbols.{is_derivative}
use Rattle.dz_rank.specs.declared.symbols.Operator.{Operator}
use Rattle.dz_rank.specs.declared.symbols.Symbol.{Symbol}
use Rattle.dz_rank.specs.declared.symbols.Symbol.TheVariants.{Independent, Derivative}
use Rattle.dz_monomials.specs.Ranked.{symbols_under}
use Rattle.dz_monomials.proofs.SymbolLaws.{ranking_order}
use Rattle.dz_diff.proofs.LeaderDerivations.{ranking_raises, IsRegular, IsUnder}
use Rattle.dz_diff.proofs.Degrees.{AtMost}

-- ---- the leader
module _ (R : RankingValue) where
  abbrev cmp : Symbol → Symbol → Ordering
  cmp = ranking_cmp R

  abbrev order : IsOrder (ranking_cmp R)
  order = ranking_order R

  -- not above what there is
  abbrev pub IsTop : Option Symbol → Symbol → Type 0
  IsTop None s = ⊥
  IsTop (Some l) s = (cmp s l ≡ Less) ⊎ (s ≡ l)

  below : (s t x : Symbol) → cmp x t ≡ Greater → IsTop (Some t) s → IsTop (Some x) s
  below s t x e (inl h) = inl (order.total.trans s t x h (less_reversed order.total x t e))
  below s t x e (inr h) = inl (ap (λ s. cmp s x) h ∙ less_reversed order.total x t e)

  greater_keeps : (x s : Symbol) (o : Option Symbol) → IsTop o s → IsTop (greater cmp x o) s
  greater_keeps x s None h = absurd h
  greater_keeps x s (Some t) h = elim (cmp x t) as (λ o. cmp x t ≡ o → IsTop (match_ordering o (Some t) (Some t) (Some x)) s) [ Less ↦ λ e. h | Equal ↦ λ e. h | Greater ↦ λ e. below s t x e h ] refl

  greater_new : (x : Symbol) (o : Option Symbol) → IsTop (greater cmp x o) x
  greater_new x None = inr refl
  greater_new x (Some t) = elim (cmp x t) as (λ o. cmp x t ≡ o → IsTop (match_ordering o (Some t) (Some t) (Some x)) x) [ Less ↦ λ e. inl e | Equal ↦ λ e. inr (order.same x t e) | Greater ↦ λ e. inr refl ] refl

  next_keeps : (b : Bool) (x s : Symbol) (o : Option Symbol) → IsTop o s → IsTop (cond b (greater cmp x o) o) s
  next_keeps true x s o h = greater_keeps x s o h
  next_keeps false x s o h = h

  monomial_keeps : (m : Monomial Symbol) (o : Option Symbol) (s : Symbol) → IsTop o s → IsTop (greatest_derivative (symbols_under R) m o) s
  monomial_keeps [] o s h = h
  monomial_keeps (p ∷ m) o s h = monomial_keeps m (cond (is_derivative p.0) (greater cmp p.0 o) o) s (next_keeps (is_derivative p.0) p.0 s o h)

  polynomial_keeps : (p : Polynomial Symbol) (o : Option Symbol) (s : Symbol) → IsTop o s → IsTop (leader_from (symbols_under R) p o) s
  polynomial_keeps [] o s h = h
  polynomial_keeps (t ∷ p) o s h = polynomial_keeps p (greatest_derivative (symbols_under R) t.0 o) s (monomial_keeps t.0 o s h)

  new_of : (b : Bool) (x : Symbol) (o : Option Symbol) → b ≡ true → IsTop (cond b (greater cmp x o) o) x
  new_of true x o e = greater_new x o
  new_of false x o e = cc

  monomial_all : (p : Polynomial Symbol) (m : Monomial Symbol) (o : Option Symbol) → MonomialIn (λ s. is_derivative s ≡ true → IsTop (leader_from (symbols_under R) p (greatest_derivative (symbols_under R) m o)) s) m
  monomial_all p [] o = tt
  monomial_all p (x ∷ m) o =
      let next : Option Symbol = cond (is_derivative x.0) (greater cmp x.0 o) o in
      (λ e. polynomial_keeps p (greatest_derivative (symbols_under R) m next) x.0 (monomial_keeps m next x.0 (new_of (is_derivative x.0) x.0 o e)), monomial_all p m next)

  -- no derivative is above the leader
  pub leader_all : (p : Polynomial Symbol) (o : Option Symbol) → PolynomialIn (λ s. is_derivative s ≡ true → IsTop (leader_from (symbols_under R) p o) s) p
  leader_all [] o = tt
  leader_all (t ∷ p) o = (monomial_all p t.0 o, leader_all p (greatest_derivative (symbols_under R) t.0 o))

  -- ---- it is a derivative
  abbrev IsSome : (Symbol → Type 0) → Option Symbol → Type 0
  IsSome P None = ⊤
  IsSome P (Some l) = P l

  module _ (P : Symbol → Type 0) where
    greater_in : (x : Symbol) (o : Option Symbol) → P x → IsSome P o → IsSome P (greater cmp x o)
    greater_in x None h k = h
    greater_in x (Some t) h k = elim (cmp x t) as (λ o. IsSome P (match_ordering o (Some t) (Some t) (Some x))) [ Less ↦ k | Equal ↦ k | Greater ↦ h ]

    next_in : (b : Bool) (x : Symbol) (o : Option Symbol) → (b ≡ true → P x) → IsSome P o → IsSome P (cond b (greater cmp x o) o)
    next_in true x o h k = greater_in x o (h refl) k
    next_in false x o h k = k

    monomial_in : (m : Monomial Symbol) (o : Option Symbol) → MonomialIn (λ s. is_derivative s ≡ true → P s) m → IsSome P o → IsSome P (greatest_derivative (symbols_under R) m o)
    monomial_in [] o h k = k
    monomial_in (x ∷ m) o h k = monomial_in m (cond (is_derivative x.0) (greater cmp x.0 o) o) h.1 (next_in (is_derivative x.0) x.0 o h.0 k)

    polynomial_in : (p : Polynomial Symbol) (o : Option Symbol) → PolynomialIn (λ s. is_derivative s ≡ true → P s) p → IsSome P o → IsSome P (leader_from (symbols_under R) p o)
    polynomial_in [] o h k = k
    polynomial_in (t ∷ p) o h k = polynomial_in p (greatest_derivative (symbols_under R) t.0 o) h.1 (monomial_in t.0 o h.0 k)

    -- what holds at every derivative holds at the leader
    pub leader_in : (p : Polynomial Symbol) (l : Symbol) → leader (symbols_under R) p ≡ Some l → PolynomialIn (λ s. is_derivative s ≡ true → P s) p → P l
    leader_in p l e h = subst (IsSome P) e (polynomial_in p None h tt)

  in_map : (P Q : Symbol → Type 0) → ((s : Symbol) → P s → Q s) → (m : Monomial Symbol) → MonomialIn P m → MonomialIn Q m
  in_map P Q f [] h = tt
  in_map P Q f (x ∷ m) h = (f x.0 h.0, in_map P Q f m h.1)

  pub all_map : (P Q : Symbol → Type 0) → ((s : Symbol) → P s → Q s) → (p : Polynomial Symbol) → PolynomialIn P p → PolynomialIn Q p
  all_map P Q f [] h = tt
  all_map P Q f (t ∷ p) h = (in_map P Q f t.0 h.0, all_map P Q f p h.1)

  all_both : (P Q : Symbol → Type 0) (p : Polynomial Symbol) → PolynomialIn P p → PolynomialIn Q p → PolynomialIn (λ s. P s × Q s) p
  all_both P Q [] h k = tt
  all_both P Q (t ∷ p) h k = (two t.0 h.0 k.0, all_both P Q p h.1 k.1)
    where
      two : (m : Monomial Symbol) → MonomialIn P m → MonomialIn Q m → MonomialIn (λ s. P s × Q s) m
      two [] h k = tt
      two (x ∷ m) h k = ((h.0, k.0), two m h.1 k.1)

  all_self : (p : Polynomial Symbol) → PolynomialIn (λ s. is_derivative s ≡ true → is_derivative s ≡ true) p
  all_self [] = tt
  all_self (t ∷ p) = (self t.0, all_self p)
    where
      self : (m : Monomial Symbol) → MonomialIn (λ s. is_derivative s ≡ true → is_derivative s ≡ true) m
      self [] = tt
      self (x ∷ m) = (λ e. e, self m)

  -- the leader is a derivative
  pub leader_is_one : (p : Polynomial Symbol) (l : Symbol) → leader (symbols_under R) p ≡ Some l → is_derivative l ≡ true
  leader_is_one p l e = leader_in (λ s. is_derivative s ≡ true) p l e (all_self p)

-- so no symbol is above the leader
pub under_leader : (R : RankingValue) (n : ℕ) (p : Polynomial Symbol) (u : ℕ) (t : Operator) → leader (symbols_under R) p ≡ Some (Derivative u t) → PolynomialIn (IsRegular n) p → PolynomialIn (IsUnder (ranking_cmp R) n (Derivative u t)) p
under_leader R n p u t e h =
    all_map R (λ s. IsRegular n s × (is_derivative s ≡ true → IsTop R (leader (symbols_under R) p) s)) (IsUnder (ranking_cmp R) n (Derivative u t)) one p
    (all_both R (IsRegular n) (λ s. is_derivative s ≡ true → IsTop R (leader (symbols_under R) p) s) p h (leader_all R p None))
  where
    one : (s : Symbol) → IsRegular n s × (is_derivative s ≡ true → IsTop R (leader (symbols_under R) p) s) → IsUnder (ranking_cmp R) n (Derivative u t) s
    one (Independent j) k = (k.0, inl ((ranking_raises R).derivative_above j u t))
    one (Derivative v x) k = (k.0, subst (λ o. IsTop R o (Derivative v x)) e (k.1 refl))

-- where all operators have four exponents, that of the leader has
pub leader_regular : (R : RankingValue) (q : Polynomial Symbol) (l : Symbol) → leader (symbols_under R) q ≡ Some l → PolynomialIn (IsRegular 4) q → IsRegular 4 l
leader_regular R q l e h = leader_in R (IsRegular 4) q l e (all_map R (IsRegular 4) (λ s. is_derivative s ≡ true → IsRegular 4 s) (λ s k z. k) q h)

-- ---- degrees
module _ (cmp : Symbol → Symbol → Ordering) (u : Symbol) where
  pub most_degree : (a : ℕ) (p : Polynomial Symbol) → AtMost cmp u a p → degree cmp u p ≤ a
  most_degree a [] h = omega arith
  most_degree a (t ∷ p) h = let x : exponent cmp u t.0 ≤ a = h.0 in greatest (exponent cmp u t.0) (degree cmp u p) x (most_degree a p h.1)
    where
      greatest : (x y : ℕ) → x ≤ a → y ≤ a → max x y ≤ a
      greatest x y h k = omega arith

  most_more : (a b : ℕ) (p : Polynomial Symbol) → a ≤ b → AtMost cmp u a p → AtMost cmp u b p
  most_more a b [] h k = tt
  most_more a b (t ∷ p) h k = let x : exponent cmp u t.0 ≤ a = k.0 in (up (exponent cmp u t.0) x, most_more a b p h k.1)
    where
      up : (x : ℕ) → x ≤ a → x ≤ b
      up x k = omega arith

  pub degree_most : (p : Polynomial Symbol) → AtMost cmp u (degree cmp u p) p
  degree_most [] = tt
  degree_most (t ∷ p) = (first (exponent cmp u t.0) (degree cmp u p), most_more (degree cmp u p) (degree cmp u (t ∷ p)) p (second (exponent cmp u t.0) (degree cmp u p)) (degree_most p))
    where
      first : (x y : ℕ) → x ≤ max x y
      first x y = omega arith

      second : (x y : ℕ) → y ≤ max x y
      second x y = omega arith

module _ (R : RankingValue) where
  -- ---- the leader occurs
  no_leader : (l : Symbol) (m : Monomial Symbol) → IsMonomial (ranking_cmp R) m → exponent (ranking_cmp R) l m ≤ 0 → MonomialIn (λ s. is_derivative s ≡ true → s ≡ l → ⊥) m
  no_leader l [] i h = tt
  no_leader l (p ∷ m) i h = ((λ z e. here (ranking_cmp R l p.0) p.1 (exponent (ranking_cmp R) l m) (ap (ranking_cmp R l) e ∙ tied_itself (ranking_order R).total l) i.0 h), no_leader l m i.2 (there (ranking_cmp R l p.0) p.1 (exponent (ranking_cmp R) l m) h))
    where
      here : (o : Ordering) (a x : ℕ) → o ≡ Equal → 0 < a → match_ordering o x (a + x) x ≤ 0 → ⊥
      here Less a x e z h = cc
      here Equal a x e z h = omega arith
      here Greater a x e z h = cc

      there : (o : Ordering) (a x : ℕ) → match_ordering o x (a + x) x ≤ 0 → x ≤ 0
      there Less a x h = h
      there Equal a x h = omega arith
      there Greater a x h = h

  never_leader : (l : Symbol) (q : Polynomial Symbol) → AreMonomials (ranking_cmp R) q → AtMost (ranking_cmp R) l 0 q → PolynomialIn (λ s. is_derivative s ≡ true → s ≡ l → ⊥) q
  never_leader l [] i h = tt
  never_leader l (t ∷ q) i h = (no_leader l t.0 i.0 h.0, never_leader l q i.1 h.1)

  pub leader_degree : (l : Symbol) (q : Polynomial Symbol) → IsPolynomial (ranking_cmp R) q → leader (symbols_under R) q ≡ Some l → 1 ≤ degree (ranking_cmp R) l q
  leader_degree l q i e = by_degree (degree (ranking_cmp R) l q) (degree_most (ranking_cmp R) l q)
    where
      by_degree : (d : ℕ) → AtMost (ranking_cmp R) l d q → 1 ≤ d
      by_degree zero a = absurd (leader_in R (λ s. s ≡ l → ⊥) q l e (never_leader l q (are_monomials (ranking_order R) q i) a) refl)
      by_degree (suc d) a = omega arith
