-- Passes over one or two monomials.
use Rattle.std.proofs.Common.{◌≡◌, ◌<◌, ◌+◌, ◌∙◌, ◌||◌, ℕ, Bool, true, false, [], ◌∷◌, ◌++◌, nat_lt, refl, sym, ap, ap₂, arith, length}
use Rattle.std.proofs.lemmas.Bool.Decides.{nat_tests}
use Rattle.std.specs.declared.cmp.Ordering.{Ordering}
use Rattle.std.specs.declared.cmp.Ordering.TheVariants.{Less, Equal, Greater}
use Rattle.std.specs.Cmp.{tied_itself}
use Rattle.std.specs.Ordering.{match_ordering, nat_cmp, ordering_then}
use Rattle.dz_algebra.specs.Gather.{merge}
use Rattle.dz_algebra.specs.Monomial.{Monomial, IsMonomial, exponent}
use Rattle.dz_algebra.proofs.Monomials.{exponent_below, above_more}
use Rattle.dz_monomials.specs.Degrees.{has_high_exponent}
use Rattle.dz_monomials.proofs.SymbolLaws.{ranking_order}
use Rattle.dz_rank.specs.declared.symbols.Symbol.{Symbol}
use Rattle.dz_rank.specs.Rankings.{RankingValue, ranking_cmp}

or_false : (b : Bool) → (b || false) ≡ b
or_false true = refl
or_false false = refl

high-append : {S : Type 0} (xs ys : Monomial S) → has_high_exponent (xs ++ ys) ≡ (has_high_exponent xs || has_high_exponent ys)
high-append [] ys = refl
high-append (x ∷ xs) ys = ap (λ b. nat_lt 65535 x.1 || b) (high-append xs ys) ∙ grouped (nat_lt 65535 x.1) _ _
  where
    grouped : (a b c : Bool) → (a || (b || c)) ≡ ((a || b) || c)
    grouped true b c = refl
    grouped false b c = refl

-- an exponent in range does not count
pub high_rest : {S : Type 0} (p : S × ℕ) (m : Monomial S) → p.1 < 65536 → has_high_exponent (p ∷ m) ≡ has_high_exponent m
high_rest p m l = let e : nat_lt 65535 p.1 ≡ false = grind (arith, nat_tests) in ap (λ b. b || has_high_exponent m) e

pub high_push : {S : Type 0} (all : Monomial S) (p : S × ℕ) → p.1 < 65536 → has_high_exponent (all ++ p ∷ []) ≡ has_high_exponent all
high_push all p l = high-append all (p ∷ []) ∙ ap (λ b. has_high_exponent all || b) (high_rest p [] l) ∙ or_false (has_high_exponent all)

pub low_push : {S : Type 0} (all : Monomial S) (p : S × ℕ) → has_high_exponent all ≡ false → p.1 < 65536 → has_high_exponent (all ++ p ∷ []) ≡ false
low_push all p h l = high_push all p l ∙ h

pub low_end : {S : Type 0} (all m new : Monomial S) → has_high_exponent all ≡ false → has_high_exponent m ≡ false → new ≡ all ++ m → has_high_exponent new ≡ false
low_end all m new h g e = ap has_high_exponent e ∙ high-append all m ∙ ap₂ (λ a b. a || b) h g

-- the pass ends with the second monomial, or with the first
pub high_first : {S : Type 0} (all m n new : Monomial S) (whole : Bool) → (has_high_exponent all || (has_high_exponent m || has_high_exponent n)) ≡ whole → length n ≡ 0 → new ≡ all ++ m → has_high_exponent new ≡ whole
high_first all m [] new whole e h f = ap has_high_exponent f ∙ high-append all m ∙ ap (λ b. has_high_exponent all || b) (sym (or_false (has_high_exponent m))) ∙ e
high_first all m (q ∷ n) new whole e h f = absurd (omega arith)

pub high_second : {S : Type 0} (all m n new : Monomial S) (whole : Bool) → (has_high_exponent all || (has_high_exponent m || has_high_exponent n)) ≡ whole → length m ≡ 0 → new ≡ all ++ n → has_high_exponent new ≡ whole
high_second all [] n new whole e h f = ap has_high_exponent f ∙ high-append all n ∙ e
high_second all (p ∷ m) n new whole e h f = absurd (omega arith)

-- one pass over two monomials
module _ {S : Type 0} (cmp : S → S → Ordering) where
  merge_nothing : (add : ℕ → ℕ → ℕ) (ts : Monomial S) → merge cmp add ts [] ≡ ts
  merge_nothing add [] = refl
  merge_nothing add (t ∷ ts) = refl

  pub ended : (add : ℕ → ℕ → ℕ) (all n m new whole : Monomial S) → all ++ merge cmp add n m ≡ whole → length m ≡ 0 → new ≡ all ++ n → new ≡ whole
  ended add all n [] new whole e h f = f ∙ sym (ap (λ l. all ++ l) (merge_nothing add n)) ∙ e
  ended add all n (p ∷ m) new whole e h f = absurd (omega arith)

  pub exceeds : (add : ℕ → ℕ → ℕ) (all n m whole : Monomial S) (p q : S × ℕ) → all ++ merge cmp add (q ∷ n) (p ∷ m) ≡ whole → cmp p.0 q.0 ≡ Equal → 65535 < add p.1 q.1 → has_high_exponent whole ≡ true
  exceeds add all n m whole p q e f h =
      let g : merge cmp add (q ∷ n) (p ∷ m) ≡ (q.0, add p.1 q.1) ∷ merge cmp add n m = ap (λ o. match_ordering o (q ∷ merge cmp add n (p ∷ m)) ((q.0, add p.1 q.1) ∷ merge cmp add n m) (p ∷ merge cmp add (q ∷ n) m)) f in
      let k : nat_lt 65535 (add p.1 q.1) ≡ true = grind (arith, nat_tests) in
      ap has_high_exponent (sym e) ∙ high-append all _ ∙ ap (λ l. has_high_exponent all || has_high_exponent l) g ∙ ap (λ b. has_high_exponent all || (b || has_high_exponent (merge cmp add n m))) k ∙ last (has_high_exponent all)
    where
      last : (a : Bool) → (a || true) ≡ true
      last true = refl
      last false = refl

module _ (r : RankingValue) where
  abbrev cmp : Symbol → Symbol → Ordering
  cmp = ranking_cmp r

  -- a power ties with itself
  pub equal_powers : (p q : Symbol × ℕ) → p.0 ≡ q.0 → p.1 ≡ q.1 → Equal ≡ ordering_then (cmp p.0 q.0) (nat_cmp p.1 q.1)
  equal_powers p q e f =
      let s : cmp p.0 q.0 ≡ Equal = ap (cmp p.0) (sym e) ∙ tied_itself (ranking_order r).total p.0 in
      let n : nat_cmp p.1 q.1 ≡ Equal = grind (arith, nat_tests) in
      sym (ap₂ ordering_then s n)

  one_power : (s : Symbol) (p : Symbol × ℕ) (m : Monomial Symbol) (o : Ordering) → cmp s p.0 ≡ o → exponent cmp s (p ∷ m) ≡ match_ordering o (exponent cmp s m) (p.1 + exponent cmp s m) (exponent cmp s m)
  one_power s p m o e = ap (λ o. match_ordering o (exponent cmp s m) (p.1 + exponent cmp s m) (exponent cmp s m)) e

  pub skipped : (s : Symbol) (p : Symbol × ℕ) (m : Monomial Symbol) → cmp s p.0 ≡ Less → exponent cmp s (p ∷ m) ≡ exponent cmp s m
  skipped s p m e = one_power s p m Less e

  pub found : (s : Symbol) (p : Symbol × ℕ) (m : Monomial Symbol) → cmp s p.0 ≡ Equal → IsMonomial cmp (p ∷ m) → exponent cmp s (p ∷ m) ≡ p.1
  found s p m e h =
      let t : s ≡ p.0 = (ranking_order r).same s p.0 e in
      let z : exponent cmp s m ≡ 0 = ap (λ x. exponent cmp x m) t ∙ exponent_below (ranking_order r) p.0 m h.1 in
      one_power s p m Equal e ∙ omega (arith, z)

  pub passed : (s : Symbol) (p : Symbol × ℕ) (m : Monomial Symbol) → cmp s p.0 ≡ Greater → IsMonomial cmp (p ∷ m) → exponent cmp s (p ∷ m) ≡ 0
  passed s p m e h = exponent_below (ranking_order r) s (p ∷ m) (e, above_more (ranking_order r) s p.0 m e h.1)
