-- What a search finds up to a place is what the definition finds from there on.
use Rattle.std.specs.Prelude.{drop, is_some, slice_index_or}
use Rattle.std.proofs.Common.{◌≡◌, ◌<◌, ◌≤◌, ◌+◌, ◌∙◌, ℕ, zero, suc, true, false, cond, List, [], ◌∷◌, length, map, refl, sym, ap, ap₂, arith, Option, Some, None, add-one}
use Rattle.std.specs.Cmp.{tied_itself}
use Rattle.std.specs.declared.cmp.Ordering.{Ordering}
use Rattle.std.specs.declared.cmp.Ordering.TheVariants.{Less, Equal, Greater}
use Rattle.std.specs.Ordering.{match_ordering}
use Rattle.dz_algebra.specs.Monomial.{Monomial, IsMonomial, exponent}
use Rattle.dz_algebra.specs.Order.{IsAbove}
use Rattle.dz_algebra.specs.Parts.{degree, leader}
use Rattle.dz_algebra.specs.Polynomial.{Polynomial}
use Rattle.dz_algebra.specs.Size.{symbols, with_symbol, with_symbols}
use Rattle.dz_algebra.proofs.Monomials.{exponent_below}
use Rattle.dz_rank.specs.Rankings.{RankingValue, ranking_cmp}
use Rattle.dz_rank.specs.Symbols.{HasFourExponents, is_derivative}
use Rattle.dz_rank.specs.declared.symbols.Symbol.{Symbol}
use Rattle.dz_rank.specs.declared.symbols.Symbol.TheVariants.{Independent, Derivative}
use Rattle.dz_monomials.specs.Keeping.{IsTabled}
use Rattle.dz_monomials.specs.Ranked.{symbols_under}
use Rattle.dz_monomials.proofs.EntryFacts.{degree_stands, table_is_monomial}
use Rattle.dz_monomials.proofs.Multiples.{keys_degrees}
use Rattle.dz_monomials.proofs.SymbolLaws.{ranking_order}
use Rattle.dz_diff.specs.Operations.{setting_of}
use Rattle.dz_diff.specs.State.{State}
use Rattle.dz_diff.specs.Tests.{Polynomials}
use Rattle.dz_monomials.proofs.RateTables.{in_at, symbols_have_four}
use Rattle.dz_step.specs.declared.Role.{Role}
use Rattle.dz_step.specs.declared.Step.{Step}
use Rattle.dz_step.specs.FullRun.{with_derivatives, derivatives_of, or_else, step_with, step_at, first_step, next_step}

-- ---- the first of two
first_is : {A : Type 0} (o p : Option A) → is_some o ≡ true → or_else o p ≡ o
first_is (Some x) p e = refl
first_is None p e = cc

-- where there is none it is the second
second_is : {A : Type 0} (o p : Option A) → is_some o ≡ false → or_else o p ≡ p
second_is (Some x) p e = cc
second_is None p e = refl

-- a list from a place on
pub drop_here : {X : Type 0} (i : ℕ) (xs : List X) (d : X) → i < length xs → drop i xs ≡ slice_index_or xs i d ∷ drop (i + 1) xs
drop_here {X} i xs d l = rw add-one (at i xs l)
  where
    at : (i : ℕ) (xs : List X) → i < length xs → drop i xs ≡ slice_index_or xs i d ∷ drop (suc i) xs
    at i [] l = absurd (omega arith)
    at zero (x ∷ xs) l = refl
    at (suc i) (x ∷ xs) l = at i xs (omega arith)

-- nothing is left past the end
pub drop_end : {X : Type 0} (i : ℕ) (xs : List X) → length xs ≤ i → drop i xs ≡ []
drop_end zero [] l = refl
drop_end zero (x ∷ xs) l = absurd (omega arith)
drop_end (suc i) [] l = refl
drop_end (suc i) (x ∷ xs) l = drop_end i xs (omega arith)

-- ---- the places of one symbol
module _ (r : RankingValue) (s : State) (role : Role) (f : Polynomial Symbol) (v : Symbol) (qs : Polynomials) where
  -- the step from a place on
  abbrev pub from_place : ℕ → Option Step
  from_place i = step_at (setting_of r) s role f v (suc i) (drop i qs)

  module _ (i : ℕ) (whole : Option Step) (is : whole ≡ from_place i) where
    -- no place is left
    pub no_place : length qs ≤ i → None ≡ whole
    no_place l = sym (is ∙ ap (step_at (setting_of r) s role f v (suc i)) (drop_end i qs l))

    module _ (l : i < length qs) (o : Option Step) (found : o ≡ step_with (setting_of r) s role f v (suc i) (slice_index_or qs i []) (leader (symbols_under r) (slice_index_or qs i []))) where
      -- what is found here, and later places
      here : whole ≡ or_else o (from_place (i + 1))
      here = is ∙ ap (step_at (setting_of r) s role f v (suc i)) (drop_here i qs [] l)
          ∙ ap₂ (λ o n. or_else o (step_at (setting_of r) s role f v (suc n) (drop (i + 1) qs))) (sym found) (let e : suc i ≡ i + 1 = omega arith in e)

      -- the step at this place
      pub found_here : is_some o ≡ true → o ≡ whole
      found_here e = sym (here ∙ first_is o (from_place (i + 1)) e)

      -- the step at a later place
      pub passed_here : is_some o ≡ false → whole ≡ from_place (i + 1)
      passed_here e = here ∙ second_is o (from_place (i + 1)) e

-- ---- the derivatives of a table
-- symbols up to the first that is an independent
abbrev pub front : List Symbol → List Symbol
front [] = []
front (Independent j ∷ ss) = []
front (Derivative u t ∷ ss) = Derivative u t ∷ front ss

-- the derivatives of a monomial that stand before its first independent
abbrev pub derivatives_in : Monomial Symbol → List Symbol
derivatives_in m = front (map (λ p. p.0) m)

module _ (r : RankingValue) where
  -- an independent is below a derivative
  below_derivative : (j u : ℕ) (s : Symbol) → is_derivative s ≡ true → ranking_cmp r (Independent j) s ≡ Less
  unfolding ranking_cmp
  below_derivative j u (Independent i) e = absurd cc
  below_derivative j u (Derivative w t) e = refl

  -- a derivative is above an independent
  above_independent : (s : Symbol) (k : ℕ) → is_derivative s ≡ true → ranking_cmp r s (Independent k) ≡ Greater
  unfolding ranking_cmp
  above_independent (Independent i) k e = absurd cc
  above_independent (Derivative w t) k e = refl

  -- the order of symbols
  abbrev cmp : Symbol → Symbol → Ordering
  cmp = ranking_cmp r

  -- one symbol more
  front_with : (s : Symbol) (ss : List Symbol) → front (with_symbol (ranking_cmp r) s ss) ≡ cond (is_derivative s) (with_symbol (ranking_cmp r) s (front ss)) (front ss)
  front_with (Independent j) [] = refl
  front_with (Independent j) (Independent k ∷ ts) = elim (cmp (Independent j) (Independent k)) as (λ o. front (match_ordering o (Independent k ∷ with_symbol cmp (Independent j) ts) (Independent k ∷ ts) (Independent j ∷ Independent k ∷ ts)) ≡ []) [ Less ↦ refl | Equal ↦ refl | Greater ↦ refl ]
  front_with (Independent j) (Derivative u t ∷ ts) =
      ap (λ o. front (match_ordering o (Derivative u t ∷ with_symbol cmp (Independent j) ts) (Derivative u t ∷ ts) (Independent j ∷ Derivative u t ∷ ts))) (below_derivative j u (Derivative u t) refl)
      ∙ ap (λ l. Derivative u t ∷ l) (front_with (Independent j) ts)
  front_with (Derivative u t) [] = refl
  front_with (Derivative u t) (Independent k ∷ ts) = ap (λ o. front (match_ordering o (Independent k ∷ with_symbol cmp (Derivative u t) ts) (Independent k ∷ ts) (Derivative u t ∷ Independent k ∷ ts))) (above_independent (Derivative u t) k refl)
  front_with (Derivative u t) (Derivative w b ∷ ts) =
      elim (cmp (Derivative u t) (Derivative w b)) as (λ o. front (match_ordering o (Derivative w b ∷ with_symbol cmp (Derivative u t) ts) (Derivative w b ∷ ts) (Derivative u t ∷ Derivative w b ∷ ts)) ≡ match_ordering o (Derivative w b ∷ with_symbol cmp (Derivative u t) (front ts)) (Derivative w b ∷ front ts) (Derivative u t ∷ Derivative w b ∷ front ts)) [
        | Less ↦ ap (λ l. Derivative w b ∷ l) (front_with (Derivative u t) ts)
        | Equal ↦ refl
        | Greater ↦ refl
      ]

  -- all symbols of a monomial more
  front_monomial : (m : Monomial Symbol) (ss : List Symbol) → with_derivatives (symbols_under r) m (front ss) ≡ front (with_symbols (ranking_cmp r) m ss)
  front_monomial [] ss = refl
  front_monomial (p ∷ m) ss = ap (λ l. cond (is_derivative p.0) (with_symbol cmp p.0 l) l) (front_monomial m ss) ∙ sym (front_with p.0 (with_symbols (ranking_cmp r) m ss))

  -- all symbols of a polynomial
  front_polynomial : (p : Polynomial Symbol) → derivatives_of (symbols_under r) p ≡ front (symbols (ranking_cmp r) (map (λ t. t.0) p))
  front_polynomial [] = refl
  front_polynomial (t ∷ p) = ap (with_derivatives (symbols_under r) t.0) (front_polynomial p) ∙ front_monomial t.0 (symbols (ranking_cmp r) (map (λ t. t.0) p))

  -- the table of an entry has the derivatives of its polynomial
  pub derivatives_stand : (p : Polynomial Symbol) (table : Monomial Symbol) → IsTabled r p table → derivatives_of (symbols_under r) p ≡ derivatives_in table
  derivatives_stand p table h = front_polynomial p ∙ ap front (sym (ap (map (λ e. e.0)) h.degrees_are ∙ keys_degrees (ranking_order r) p))

  -- ---- a power of the table
  module _ (p : Polynomial Symbol) (table : Monomial Symbol) (h : IsTabled r p table) (i : ℕ) (d : Symbol × ℕ) (l : i < length table) where
    -- a symbol above a table is above each of its symbols
    apart : (s : Symbol) (m : Monomial Symbol) (i : ℕ) → i < length m → IsAbove cmp s m → cmp s (slice_index_or m i d).0 ≡ Greater
    apart s [] i l a = absurd (omega arith)
    apart s (q ∷ m) zero l a = a.0
    apart s (q ∷ m) (suc i) l a = apart s m i (omega arith) a.1

    -- the exponent of a symbol of a table stands there
    here_is : (m : Monomial Symbol) (i : ℕ) → i < length m → IsMonomial cmp m → exponent cmp (slice_index_or m i d).0 m ≡ (slice_index_or m i d).1
    here_is [] i l a = absurd (omega arith)
    here_is (q ∷ m) zero l a =
        let z = exponent_below (ranking_order r) q.0 m a.1 in
        let e : exponent cmp q.0 (q ∷ m) ≡ q.1 + exponent cmp q.0 m = ap (λ o. match_ordering o (exponent cmp q.0 m) (q.1 + exponent cmp q.0 m) (exponent cmp q.0 m)) (tied_itself (ranking_order r).total q.0) in
        omega (arith, z, e)
    here_is (q ∷ m) (suc i) l a = by_order (cmp (slice_index_or m i d).0 q.0) refl (here_is m i (omega arith) a.2)
      where
        no_two : Greater ≡ Equal → ⊥
        no_two e = cc

        by_order : (o : Ordering) → cmp (slice_index_or m i d).0 q.0 ≡ o → exponent cmp (slice_index_or m i d).0 m ≡ (slice_index_or m i d).1
            → match_ordering (cmp (slice_index_or m i d).0 q.0) (exponent cmp (slice_index_or m i d).0 m) (q.1 + exponent cmp (slice_index_or m i d).0 m) (exponent cmp (slice_index_or m i d).0 m) ≡ (slice_index_or m i d).1
        by_order Less e k = ap (λ o. match_ordering o (exponent cmp (slice_index_or m i d).0 m) (q.1 + exponent cmp (slice_index_or m i d).0 m) (exponent cmp (slice_index_or m i d).0 m)) e ∙ k
        by_order Greater e k = ap (λ o. match_ordering o (exponent cmp (slice_index_or m i d).0 m) (q.1 + exponent cmp (slice_index_or m i d).0 m) (exponent cmp (slice_index_or m i d).0 m)) e ∙ k
        by_order Equal e k =
            let same : (slice_index_or m i d).0 ≡ q.0 = (ranking_order r).same (slice_index_or m i d).0 q.0 e in
            let g : cmp q.0 (slice_index_or m i d).0 ≡ Greater = apart q.0 m i (omega arith) a.1 in
            let t : cmp q.0 (slice_index_or m i d).0 ≡ Equal = ap (cmp q.0) same ∙ tied_itself (ranking_order r).total q.0 in
            absurd (no_two (sym g ∙ t))

    -- its exponent is the degree
    pub degree_here : (slice_index_or table i d).1 ≡ degree (ranking_cmp r) (slice_index_or table i d).0 p
    degree_here = sym (here_is table i l (table_is_monomial r p table h)) ∙ degree_stands r p table (slice_index_or table i d).0 h

    -- its symbol has four exponents
    pub four_here : HasFourExponents (slice_index_or table i d).0
    four_here = in_at HasFourExponents i table d l (symbols_have_four r p table h)

-- ---- the symbols of a polynomial
module _ (r : RankingValue) (s : State) (role : Role) (f : Polynomial Symbol) (table : Monomial Symbol) where
  -- the step at the symbols from a place of the table on
  abbrev pub from_symbol : ℕ → Option Step
  from_symbol i = first_step (setting_of r) s role f (derivatives_in (drop i table))

  -- at first these are all
  pub all_symbols : IsTabled r f table → next_step (setting_of r) s role f ≡ from_symbol 0
  all_symbols h = ap (first_step (setting_of r) s role f) (derivatives_stand r f table h)

  module _ (i : ℕ) (whole : Option Step) (is : whole ≡ from_symbol i) where
    -- no symbol is left
    pub no_symbol : length table ≤ i → None ≡ whole
    no_symbol l = sym (is ∙ ap (λ m. first_step (setting_of r) s role f (derivatives_in m)) (drop_end i table l))

    module _ (l : i < length table) (d : Symbol × ℕ) where
      -- no derivative is left
      pub no_derivative : (j : ℕ) → (slice_index_or table i d).0 ≡ Independent j → None ≡ whole
      no_derivative j e = sym (is ∙ ap (λ m. first_step (setting_of r) s role f (derivatives_in m)) (drop_here i table d l) ∙ ap (λ v. first_step (setting_of r) s role f (front (v ∷ map (λ p. p.0) (drop (i + 1) table)))) e)

      module _ (n : (j : ℕ) → (slice_index_or table i d).0 ≡ Independent j → ⊥) (o : Option Step) (found : o ≡ step_at (setting_of r) s role f (slice_index_or table i d).0 1 s.equations) where
        -- a derivative stands in front
        front_is : (v : Symbol) (vs : List Symbol) → ((j : ℕ) → v ≡ Independent j → ⊥) → front (v ∷ vs) ≡ v ∷ front vs
        front_is (Independent j) vs n = absurd (n j refl)
        front_is (Derivative u t) vs n = refl

        -- what is found at this symbol, and later symbols
        at_symbol : whole ≡ or_else o (from_symbol (i + 1))
        at_symbol = is ∙ ap (λ m. first_step (setting_of r) s role f (derivatives_in m)) (drop_here i table d l)
            ∙ ap (first_step (setting_of r) s role f) (front_is (slice_index_or table i d).0 (map (λ p. p.0) (drop (i + 1) table)) n)
            ∙ ap (λ o. or_else o (from_symbol (i + 1))) (sym found)

        -- the step at this symbol
        pub found_symbol : is_some o ≡ true → o ≡ whole
        found_symbol e = sym (at_symbol ∙ first_is o (from_symbol (i + 1)) e)

        -- the step at a later symbol
        pub passed_symbol : is_some o ≡ false → whole ≡ from_symbol (i + 1)
        passed_symbol e = at_symbol ∙ second_is o (from_symbol (i + 1)) e
