-- The rows of a list of rates: what they make together, their exponents and their orders.
use Rattle.std.proofs.Common.{◌≡◌, ◌+◌, ◌⊎◌, inl, inr, ◌∙◌, ◌||◌, ℕ, zero, suc, Bool, true, false, nat_lt, List, [], ◌∷◌, ◌++◌, length, get_or, ℤ, pos, ◌*ℤ◌, Option, refl, sym, ap, ap₂, subst, arith, max}
use Rattle.std.specs.List.{list_any}
use Rattle.std.specs.declared.cmp.Ordering.{Ordering}
use Rattle.std.specs.declared.cmp.Ordering.TheVariants.{Less, Equal, Greater}
use Rattle.std.specs.Ordering.{match_ordering}
use Rattle.dz_algebra.specs.declared.Limit.TheVariants as limits
use Rattle.dz_algebra.specs.Amount.{Amount, amounts, add_amounts, gathered}
use Rattle.dz_algebra.specs.Derivation.{Rate, RateIn, constant, unit, symbol, once_less, times_rate, each_with_power, term_derivative, derivative_contributions}
use Rattle.dz_algebra.specs.Gather.{merge}
use Rattle.dz_algebra.specs.Monomial.{Monomial, monomial_cmp, with_power}
use Rattle.dz_algebra.specs.Order.{IsOrder, IsAbove, IsFalling}
use Rattle.dz_algebra.specs.Polynomial.{Polynomial, Contributions, IsPolynomial, AreMonomials}
use Rattle.dz_algebra.proofs.Canonical.{are_monomials, monomials-append}
use Rattle.dz_algebra.proofs.Derivations.{monomials_derivative}
use Rattle.dz_algebra.proofs.Gathers.{merge_puts, any_onto}
use Rattle.dz_algebra.proofs.Operations.{monomial_order}
use Rattle.dz_rank.specs.Rankings.{RankingValue, ranking_cmp}
use Rattle.dz_rank.specs.declared.symbols.Symbol.{Symbol}
use Rattle.dz_monomials.specs.Cells.{add_capped, caps}
use Rattle.dz_monomials.specs.Degrees.{degrees, has_high_order, has_high_exponent}
use Rattle.dz_monomials.specs.declared.PolyStop.{PolyStop}
use Rattle.dz_monomials.specs.declared.PolyStop.TheVariants.{Memory, Large}
use Rattle.dz_monomials.proofs.Halves.{merged_parts}
use Rattle.dz_monomials.proofs.Multiplying.{high-append}
use Rattle.dz_monomials.proofs.SupportLaws.{degrees_gathered}
use Rattle.dz_monomials.specs.Lists.{AllOf}
use Rattle.dz_monomials.specs.Rows.{meant, rate_in, row, rows, Rises, Stays, AreRates, is_high_rate}
use Rattle.dz_monomials.specs.declared.rates.Rate.{Rate as SymbolRate}
use Rattle.dz_monomials.proofs.RowTerms.{row_falls}
use Rattle.dz_monomials.proofs.SplitRates.{Splits, gathered_splits}

-- ---- parts of a list
above_front : {S X : Type 0} (cmp : S → S → Ordering) (s : S) (a b : List (S × X)) → IsAbove cmp s (a ++ b) → IsAbove cmp s a
above_front cmp s [] b h = tt
above_front cmp s (p ∷ a) b h = (h.0, above_front cmp s a b h.1)

-- what is above a list is above its second part
above_back : {S X : Type 0} (cmp : S → S → Ordering) (s : S) (a b : List (S × X)) → IsAbove cmp s (a ++ b) → IsAbove cmp s b
above_back cmp s [] b h = h
above_back cmp s (p ∷ a) b h = above_back cmp s a b h.1

-- the first part of a falling list falls
front_falls : {S X : Type 0} (cmp : S → S → Ordering) (a b : List (S × X)) → IsFalling cmp (a ++ b) → IsFalling cmp a
front_falls cmp [] b h = tt
front_falls cmp (p ∷ a) b h = (above_front cmp p.0 a b h.0, front_falls cmp a b h.1)

-- and so does the second
back_falls : {S X : Type 0} (cmp : S → S → Ordering) (a b : List (S × X)) → IsFalling cmp (a ++ b) → IsFalling cmp b
back_falls cmp [] b h = h
back_falls cmp (p ∷ a) b h = back_falls cmp a b h.1

-- what holds of a list holds of its first part
all_front : {X : Type 0} (P : X → Type 0) (a b : List X) → AllOf P (a ++ b) → AllOf P a
all_front P [] b h = tt
all_front P (x ∷ a) b h = (h.0, all_front P a b h.1)

-- and of the second
all_back : {X : Type 0} (P : X → Type 0) (a b : List X) → AllOf P (a ++ b) → AllOf P b
all_back P [] b h = h
all_back P (x ∷ a) b h = all_back P a b h.1

-- the first part of a list of rates is one
pub front_rates : (r : RankingValue) (qs a b : List (Symbol × SymbolRate)) → qs ≡ a ++ b → AreRates r qs → AreRates r a
front_rates r qs a b e h = record {
  falls = front_falls (ranking_cmp r) a b (subst (IsFalling (ranking_cmp r)) e h.falls);
  rise = all_front (λ q. Rises (ranking_cmp r) q.0 q.1) a b (subst (AllOf (λ q. Rises (ranking_cmp r) q.0 q.1)) e h.rise);
  stay = all_front (λ q. Stays r q.1) a b (subst (AllOf (λ q. Stays r q.1)) e h.stay);
}

-- and so is the second
pub back_rates : (r : RankingValue) (qs a b : List (Symbol × SymbolRate)) → qs ≡ a ++ b → AreRates r qs → AreRates r b
back_rates r qs a b e h = record {
  falls = back_falls (ranking_cmp r) a b (subst (IsFalling (ranking_cmp r)) e h.falls);
  rise = all_back (λ q. Rises (ranking_cmp r) q.0 q.1) a b (subst (AllOf (λ q. Rises (ranking_cmp r) q.0 q.1)) e h.rise);
  stay = all_back (λ q. Stays r q.1) a b (subst (AllOf (λ q. Stays r q.1)) e h.stay);
}

-- ---- the rate of a symbol
module _ {cmp : Symbol → Symbol → Ordering} (order : IsOrder cmp) where
  -- a symbol above a list has none there
  pub rate_above : (s : Symbol) (qs : List (Symbol × SymbolRate)) → IsAbove cmp s qs → rate_in cmp qs s ≡ constant
  rate_above s [] h = refl
  rate_above s (q ∷ qs) h = ap (λ o. match_ordering o (rate_in cmp qs s) (meant q.1) (rate_in cmp qs s)) h.0 ∙ rate_above s qs h.1

  -- it comes from one of two parts
  split_rates : (a b : List (Symbol × SymbolRate)) → IsFalling cmp (a ++ b) → Splits (rate_in cmp a) (rate_in cmp b) (rate_in cmp (a ++ b))
  split_rates [] b h s = inl (refl, refl)
  split_rates (q ∷ a) b h s =
      elim (cmp s q.0) as (λ o. cmp s q.0 ≡ o → ((match_ordering o (rate_in cmp a s) (meant q.1) (rate_in cmp a s) ≡ constant) × (rate_in cmp b s ≡ match_ordering o (rate_in cmp (a ++ b) s) (meant q.1) (rate_in cmp (a ++ b) s))) ⊎ ((rate_in cmp b s ≡ constant) × (match_ordering o (rate_in cmp a s) (meant q.1) (rate_in cmp a s) ≡ match_ordering o (rate_in cmp (a ++ b) s) (meant q.1) (rate_in cmp (a ++ b) s)))) [
        | Less ↦ λ e. split_rates a b h.1 s
        | Equal ↦ λ e. inr (ap (rate_in cmp b) (order.same s q.0 e) ∙ rate_above q.0 b (above_back cmp q.0 a b h.0), refl)
        | Greater ↦ λ e. split_rates a b h.1 s
      ] refl

  -- ---- the rows of two parts
  module _ (qs a b : List (Symbol × SymbolRate)) (e : qs ≡ a ++ b) (falls : IsFalling cmp qs) (p : Polynomial Symbol) (canonical : IsPolynomial cmp p) where
    -- the rows of both parts gather to those of the whole list
    both : gathered cmp (rows cmp a p ++ rows cmp b p) ≡ gathered cmp (rows cmp qs p)
    both = gathered_splits order (rate_in cmp a) (rate_in cmp b) (rate_in cmp (a ++ b)) (split_rates a b (subst (IsFalling cmp) e falls)) p ∙ ap (λ l. gathered cmp (rows cmp l p)) (sym e)

    -- rows stand at monomials
    stand : (l : List (Symbol × SymbolRate)) → AreMonomials cmp (rows cmp l p)
    stand l = monomials_derivative order (rate_in cmp l) p (are_monomials order p canonical)

    -- the cells of both parts, in one pass, are those of the whole list
    pub rows_absorbed : (rest first all : List (Monomial Symbol × Option Amount)) → all ≡ merge (monomial_cmp cmp) add_capped rest first → first ≡ caps (gathered cmp (rows cmp a p)) → rest ≡ caps (gathered cmp (rows cmp b p)) → all ≡ caps (gathered cmp (rows cmp qs p))
    rows_absorbed rest first all f g h = f ∙ ap₂ (merge (monomial_cmp cmp) add_capped) h g ∙ merged_parts order (rows cmp a p) (rows cmp b p) ∙ ap caps both

    -- an exponent is too high in the whole list where it is in a part
    pub rows_high : has_high_exponent (degrees cmp (rows cmp qs p)) ≡ (has_high_exponent (degrees cmp (rows cmp a p)) || has_high_exponent (degrees cmp (rows cmp b p)))
    rows_high =
        ap has_high_exponent (sym (degrees_gathered order (rows cmp qs p) (stand qs)))
        ∙ ap (λ g. has_high_exponent (degrees cmp g)) (sym both)
        ∙ ap has_high_exponent (degrees_gathered order (rows cmp a p ++ rows cmp b p) (monomials-append order (rows cmp a p) (rows cmp b p) (stand a) (stand b)))
        ∙ high-append order (rows cmp a p) (rows cmp b p)

    -- a test that one of two passes
    part_high : (c d : Bool) → (c ≡ true) ⊎ (d ≡ true) → (c || d) ≡ true
    part_high true d h = refl
    part_high false true h = refl
    part_high false false (inl e) = e
    part_high false false (inr e) = e

    -- a part that is refused has the whole list refused
    pub front_refused : (stop : PolyStop) → (stop ≡ Memory) ⊎ ((stop ≡ Large limits.Exponent) × (has_high_exponent (degrees cmp (rows cmp a p)) ≡ true)) → (stop ≡ Memory) ⊎ ((stop ≡ Large limits.Exponent) × (has_high_exponent (degrees cmp (rows cmp qs p)) ≡ true))
    front_refused stop (inl f) = inl f
    front_refused stop (inr f) = inr (f.0, rows_high ∙ part_high (has_high_exponent (degrees cmp (rows cmp a p))) (has_high_exponent (degrees cmp (rows cmp b p))) (inl f.1))

    -- either of them
    pub back_refused : (stop : PolyStop) → (stop ≡ Memory) ⊎ ((stop ≡ Large limits.Exponent) × (has_high_exponent (degrees cmp (rows cmp b p)) ≡ true)) → (stop ≡ Memory) ⊎ ((stop ≡ Large limits.Exponent) × (has_high_exponent (degrees cmp (rows cmp qs p)) ≡ true))
    back_refused stop (inl f) = inl f
    back_refused stop (inr f) = inr (f.0, rows_high ∙ part_high (has_high_exponent (degrees cmp (rows cmp a p))) (has_high_exponent (degrees cmp (rows cmp b p))) (inr f.1))

    -- the exponents are low where those of both parts are
    pub both_low : has_high_exponent (degrees cmp (rows cmp a p)) ≡ false → has_high_exponent (degrees cmp (rows cmp b p)) ≡ false → has_high_exponent (degrees cmp (rows cmp qs p)) ≡ false
    both_low f g = rows_high ∙ ap₂ (λ c d. c || d) f g

  -- no rates make nothing
  pub no_rows : (qs : List (Symbol × SymbolRate)) (p : Polynomial Symbol) → length qs ≡ 0 → rows cmp qs p ≡ []
  no_rows [] p e = terms p
    where
      term : (m : Monomial Symbol) (c : ℤ) → term_derivative cmp (rate_in cmp []) m c ≡ []
      term [] c = refl
      term (q ∷ m) c = ap (each_with_power cmp q.0 q.1) (term m c)

      terms : (p : Polynomial Symbol) → rows cmp [] p ≡ []
      terms [] = refl
      terms (t ∷ p) = ap₂ (λ a b. a ++ b) (term t.0 t.1) (terms p)
  no_rows (q ∷ qs) p e = absurd (omega arith)

  -- the cells of a row are what it gathers
  pub row_gathered : (s : Symbol) (x : SymbolRate) (p : Polynomial Symbol) → IsPolynomial cmp p → caps (amounts (row cmp s x p)) ≡ caps (gathered cmp (row cmp s x p))
  row_gathered s x p h = ap caps (merge_puts (monomial_order order) add_amounts [] (amounts (row cmp s x p)) tt (row_falls order s (meant x) p h))

  -- a list of one rate
  one_rate : (qs : List (Symbol × SymbolRate)) (d : Symbol × SymbolRate) → length qs ≡ 1 → qs ≡ get_or qs 0 d ∷ []
  one_rate [] d e = absurd (omega arith)
  one_rate (q ∷ []) d e = refl
  one_rate (q ∷ u ∷ qs) d e = absurd (omega arith)

  -- the cells of one rate are those of its row
  pub one_row : (qs : List (Symbol × SymbolRate)) (d : Symbol × SymbolRate) → length qs ≡ 1 → (p : Polynomial Symbol) → IsPolynomial cmp p → (cells : List (Monomial Symbol × Option Amount)) → cells ≡ caps (amounts (row cmp (get_or qs 0 d).0 (get_or qs 0 d).1 p)) → cells ≡ caps (gathered cmp (rows cmp qs p))
  one_row qs d e p h cells f = f ∙ row_gathered (get_or qs 0 d).0 (get_or qs 0 d).1 p h ∙ ap (λ l. caps (gathered cmp (rows cmp l p))) (sym (one_rate qs d e))

  -- and one rate is refused where its row is
  pub one_refused : (qs : List (Symbol × SymbolRate)) (d : Symbol × SymbolRate) → length qs ≡ 1 → (p : Polynomial Symbol) (stop : PolyStop) → (stop ≡ Memory) ⊎ ((stop ≡ Large limits.Exponent) × (has_high_exponent (degrees cmp (row cmp (get_or qs 0 d).0 (get_or qs 0 d).1 p)) ≡ true)) → (stop ≡ Memory) ⊎ ((stop ≡ Large limits.Exponent) × (has_high_exponent (degrees cmp (rows cmp qs p)) ≡ true))
  one_refused qs d e p stop f = subst (λ l. (stop ≡ Memory) ⊎ ((stop ≡ Large limits.Exponent) × (has_high_exponent (degrees cmp (rows cmp l p)) ≡ true))) (sym (one_rate qs d e)) f

-- what all rates make has a property
pub in_rates : (cmp : Symbol → Symbol → Ordering) (P : Symbol → Type 0) (qs : List (Symbol × SymbolRate)) → AllOf (λ q. RateIn P (meant q.1)) qs → (s : Symbol) → RateIn P (rate_in cmp qs s)
in_rates cmp P [] h s = tt
in_rates cmp P (q ∷ qs) h s = elim (cmp s q.0) as (λ o. RateIn P (match_ordering o (rate_in cmp qs s) (meant q.1) (rate_in cmp qs s))) [ Less ↦ in_rates cmp P qs h.1 s | Equal ↦ h.0 | Greater ↦ in_rates cmp P qs h.1 s ]

-- ---- orders
module _ {S : Type 0} {cmp : S → S → Ordering} (ordered : IsOrder cmp) (total : S → ℕ) where
  -- some symbol of a monomial has a high order
  abbrev high : Monomial S → Bool
  high m = list_any (λ q. nat_lt 60 (total q.0)) m

  -- some symbol of contributions has a high order
  abbrev some_high : Contributions S → Bool
  some_high [] = false
  some_high (t ∷ ts) = high t.0 || some_high ts

  -- a disjunction that fails has no part that holds
  no_part : (a b : Bool) → (a || b) ≡ false → (a ≡ false) × (b ≡ false)
  no_part true b e = cc
  no_part false b e = (refl, e)

  -- disjunctions associate
  grouped : (a b c : Bool) → (a || (b || c)) ≡ ((a || b) || c)
  grouped true b c = refl
  grouped false b c = refl

  -- a disjunction with what is false
  or_false : (a : Bool) → (a || false) ≡ a
  or_false true = refl
  or_false false = refl

  -- the degrees of contributions have their orders
  pub degrees_high : (ts : Contributions S) → has_high_order total (degrees cmp ts) ≡ some_high ts
  degrees_high [] = refl
  degrees_high (t ∷ ts) = any_onto ordered max (λ s. nat_lt 60 (total s)) t.0 (degrees cmp ts) ∙ ap (λ b. high t.0 || b) (degrees_high ts)

  -- a monomial times a power has its symbols and one more
  high_put : (s : S) (e : ℕ) (m : Monomial S) → high (with_power cmp s e m) ≡ (nat_lt 60 (total s) || high m)
  high_put s e [] = refl
  high_put s e (p ∷ m) =
      elim (cmp s p.0) as (λ o. cmp s p.0 ≡ o → high (match_ordering o (p ∷ with_power cmp s e m) ((p.0, e + p.1) ∷ m) ((s, e) ∷ p ∷ m)) ≡ (nat_lt 60 (total s) || (nat_lt 60 (total p.0) || high m))) [
        | Less ↦ λ f. ap (λ b. nat_lt 60 (total p.0) || b) (high_put s e m) ∙ swapped (nat_lt 60 (total p.0)) (nat_lt 60 (total s)) (high m)
        | Equal ↦ λ f. twice (nat_lt 60 (total p.0)) (high m) ∙ ap (λ u. nat_lt 60 (total u) || (nat_lt 60 (total p.0) || high m)) (sym (ordered.same s p.0 f))
        | Greater ↦ λ f. refl
      ] refl
    where
      swapped : (a b c : Bool) → (a || (b || c)) ≡ (b || (a || c))
      swapped true true c = refl
      swapped true false c = refl
      swapped false b c = refl

      twice : (a c : Bool) → (a || c) ≡ (a || (a || c))
      twice true c = refl
      twice false c = refl

  -- contributions times a power of low order are as high as they are
  high_each : (s : S) (e : ℕ) (ts : Contributions S) → nat_lt 60 (total s) ≡ false → some_high (each_with_power cmp s e ts) ≡ some_high ts
  high_each s e [] h = refl
  high_each s e (t ∷ ts) h = ap₂ (λ a b. a || b) (high_put s e t.0 ∙ ap (λ b. b || high t.0) h) (high_each s e ts h)

  -- some symbol of two lists is one of either
  some_high-append : (ts us : Contributions S) → some_high (ts ++ us) ≡ (some_high ts || some_high us)
  some_high-append [] us = refl
  some_high-append (t ∷ ts) us = ap (λ b. high t.0 || b) (some_high-append ts us) ∙ grouped (high t.0) (some_high ts) (some_high us)

  -- a low monomial times a rate is as high as what the rate makes
  high_times : (x : Rate S) (m : Monomial S) (c : ℤ) → high m ≡ false → some_high (times_rate cmp x m c) ≡ is_high_rate total x
  high_times constant m c h = refl
  high_times unit m c h = ap (λ b. b || false) h
  high_times (symbol t) m c h = or_false (high (with_power cmp t 1 m)) ∙ high_put t 1 m ∙ ap (λ b. nat_lt 60 (total t) || b) h ∙ or_false (nat_lt 60 (total t))

  -- a low monomial with a symbol once less is low
  low_less : (s : S) (e : ℕ) (m : Monomial S) → nat_lt 60 (total s) ≡ false → high m ≡ false → high (once_less s e m) ≡ false
  low_less s zero m h g = g
  low_less s (suc zero) m h g = g
  low_less s (suc (suc e)) m h g = ap₂ (λ a b. a || b) h g

  module _ (rate : S → Rate S) where
    -- some symbol of a monomial has a high rate
    abbrev made : Monomial S → Bool
    made m = list_any (λ q. is_high_rate total (rate q.0)) m

    -- some symbol of a polynomial has a high rate
    abbrev some_made : Polynomial S → Bool
    some_made [] = false
    some_made (t ∷ p) = made t.0 || some_made p

    -- a low term is as high as what the rates of its symbols make
    high_term : (m : Monomial S) (c : ℤ) → high m ≡ false → some_high (term_derivative cmp rate m c) ≡ made m
    high_term [] c h = refl
    high_term (p ∷ m) c h =
        let low = no_part (nat_lt 60 (total p.0)) (high m) h in
        some_high-append (times_rate cmp (rate p.0) (once_less p.0 p.1 m) (c *ℤ pos p.1)) (each_with_power cmp p.0 p.1 (term_derivative cmp rate m c))
        ∙ ap₂ (λ a b. a || b) (high_times (rate p.0) (once_less p.0 p.1 m) (c *ℤ pos p.1) (low_less p.0 p.1 m low.0 low.1)) (high_each p.0 p.1 (term_derivative cmp rate m c) low.0 ∙ high_term m c low.1)

    -- and so are all terms
    high_terms : (p : Polynomial S) → some_high p ≡ false → some_high (derivative_contributions cmp rate p) ≡ some_made p
    high_terms [] h = refl
    high_terms (t ∷ p) h =
        let low = no_part (high t.0) (some_high p) h in
        some_high-append (term_derivative cmp rate t.0 t.1) (derivative_contributions cmp rate p)
        ∙ ap₂ (λ a b. a || b) (high_term t.0 t.1 low.0) (high_terms p low.1)

    -- the symbols of the degrees are those of the terms
    made_degrees : (p : Polynomial S) → made (degrees cmp p) ≡ some_made p
    made_degrees [] = refl
    made_degrees (t ∷ p) = any_onto ordered max (λ s. is_high_rate total (rate s)) t.0 (degrees cmp p) ∙ ap (λ b. made t.0 || b) (made_degrees p)

    -- the contributions of a polynomial of low orders are as high as what the rates of its symbols make
    pub derivative_high : (p : Polynomial S) → has_high_order total (degrees cmp p) ≡ false → has_high_order total (degrees cmp (derivative_contributions cmp rate p)) ≡ list_any (λ q. is_high_rate total (rate q.0)) (degrees cmp p)
    derivative_high p h = degrees_high (derivative_contributions cmp rate p) ∙ high_terms p (sym (degrees_high p) ∙ h) ∙ sym (made_degrees p)
