-- Steps of the passes that make a row.
use Rattle.std.proofs.Common.{◌≡◌, ◌<◌, ◌≤◌, ◌+◌, ◌-◌, ◌⊎◌, inl, inr, ◌∙◌, ◌||◌, ◌*ℤ◌, ℕ, zero, suc, Bool, true, false, nat_lt, List, [], ◌∷◌, ◌++◌, length, take, drop, get_or, ℤ, pos, Option, refl, sym, ap, ap₂, subst, arith, add-one}
use Rattle.std.proofs.lemmas.List.{append_assoc}
use Rattle.std.specs.declared.cmp.Ordering.{Ordering}
use Rattle.std.specs.declared.cmp.Ordering.TheVariants.{Less, Equal, Greater}
use Rattle.std.specs.Ordering.{match_ordering}
use Rattle.dz_algebra.specs.declared.Limit.TheVariants as limits
use Rattle.dz_algebra.specs.Amount.{Amount, amount, amounts}
use Rattle.dz_algebra.specs.Derivation.{Rate, constant, unit, symbol, once_less, times_rate, term_derivative}
use Rattle.dz_algebra.specs.Gather.{merge}
use Rattle.dz_algebra.specs.Monomial.{Monomial, IsMonomial, exponent, with_power}
use Rattle.dz_algebra.specs.Order.{IsAbove}
use Rattle.dz_algebra.specs.Polynomial.{Polynomial, Contributions}
use Rattle.dz_algebra.proofs.Monomials.{exponent_below, above_more}
use Rattle.dz_rank.specs.Rankings.{RankingValue, ranking_cmp}
use Rattle.dz_rank.specs.declared.symbols.Symbol.{Symbol}
use Rattle.dz_monomials.specs.Cells.{capped, caps}
use Rattle.dz_monomials.specs.Degrees.{degrees, has_high_exponent}
use Rattle.dz_monomials.specs.declared.PolyStop.{PolyStop}
use Rattle.dz_monomials.specs.declared.PolyStop.TheVariants.{Memory, Large}
use Rattle.dz_monomials.proofs.Multiples.{high_multiple}
use Rattle.dz_monomials.proofs.Multiplying.{product_merges, high-append}
use Rattle.dz_monomials.proofs.SymbolLaws.{ranking_order}
use Rattle.dz_monomials.specs.Rows.{only, meant, row, Begins, Rises, times_meant}
use Rattle.dz_monomials.specs.declared.rates.Rate.{Rate as SymbolRate}
use Rattle.dz_monomials.specs.declared.rates.Rate.TheVariants.{One, Next}
use Rattle.dz_monomials.proofs.RowTerms.{none, one, put_front, back_below}

-- ---- the place of a symbol
-- the symbol stands where it ties
pub begins : (r : RankingValue) (s : Symbol) (m : Monomial Symbol) (i : ℕ) (d : Symbol × ℕ) → i < length m → ranking_cmp r s (get_or m i d).0 ≡ Equal → Begins s (drop i m)
begins r s [] i d h e = absurd (omega arith)
begins r s (p ∷ m) zero d h e = sym ((ranking_order r).same s p.0 e)
begins r s (p ∷ m) (suc i) d h e = begins r s m i d (omega arith) e

-- it stands nowhere behind a lesser symbol
pub passed : (r : RankingValue) (s : Symbol) (m : Monomial Symbol) (i : ℕ) (d : Symbol × ℕ) → i < length m → ranking_cmp r s (get_or m i d).0 ≡ Greater → IsMonomial (ranking_cmp r) (drop i m) → exponent (ranking_cmp r) s (drop i m) ≡ 0
passed r s [] i d h e k = absurd (omega arith)
passed r s (p ∷ m) zero d h e k = exponent_below (ranking_order r) s (p ∷ m) (e, above_more (ranking_order r) s p.0 m e k.1)
passed r s (p ∷ m) (suc i) d h e k = passed r s m i d (omega arith) e k

-- a greater symbol is passed
pub rest_passed : (r : RankingValue) (s : Symbol) (m : Monomial Symbol) (i : ℕ) (d : Symbol × ℕ) → i < length m → ranking_cmp r s (get_or m i d).0 ≡ Less → exponent (ranking_cmp r) s (drop (i + 1) m) ≡ exponent (ranking_cmp r) s (drop i m)
rest_passed r s m i d h e = rw add-one (at i m h e)
  where
    at : (i : ℕ) (m : Monomial Symbol) → i < length m → ranking_cmp r s (get_or m i d).0 ≡ Less → exponent (ranking_cmp r) s (drop (suc i) m) ≡ exponent (ranking_cmp r) s (drop i m)
    at i [] h e = absurd (omega arith)
    at zero (p ∷ m) h e = sym (ap (λ o. match_ordering o (exponent (ranking_cmp r) s m) (p.1 + exponent (ranking_cmp r) s m) (exponent (ranking_cmp r) s m)) e)
    at (suc i) (p ∷ m) h e = at i m (omega arith) e

-- the rest of a monomial is one
pub rest_falls : (cmp : Symbol → Symbol → Ordering) (m : Monomial Symbol) (i : ℕ) → IsMonomial cmp (drop i m) → IsMonomial cmp (drop (i + 1) m)
rest_falls cmp m i h = rw add-one (at i m h)
  where
    at : (i : ℕ) (m : Monomial Symbol) → IsMonomial cmp (drop i m) → IsMonomial cmp (drop (suc i) m)
    at zero [] h = tt
    at (suc i) [] h = tt
    at zero (p ∷ m) h = h.2
    at (suc i) (p ∷ m) h = at i m h

-- the first part of a monomial is one
pub front_is : (cmp : Symbol → Symbol → Ordering) (a b : Monomial Symbol) → IsMonomial cmp (a ++ b) → IsMonomial cmp a
front_is cmp [] b h = tt
front_is cmp (p ∷ a) b h = (h.0, above a h.1, front_is cmp a b h.2)
  where
    above : (a : Monomial Symbol) → IsAbove cmp p.0 (a ++ b) → IsAbove cmp p.0 a
    above [] h = tt
    above (q ∷ a) h = (h.0, above a h.1)

-- ---- the monomial of a cell
-- one power is low
pub one_power_is : (s : Symbol) → has_high_exponent ((s, 1) ∷ []) ≡ false
one_power_is s = refl

-- one pass multiplies by a symbol
pub merged_power : (r : RankingValue) (t : Symbol) (m : Monomial Symbol) → IsMonomial (ranking_cmp r) m → merge (ranking_cmp r) ◌+◌ m ((t, 1) ∷ []) ≡ with_power (ranking_cmp r) t 1 m
merged_power r t m h = product_merges (ranking_order r) ((t, 1) ∷ []) m (omega arith, tt, tt) h

-- a power above one is left
pub less_power : (s : Symbol) (e : ℕ) → 1 < e → once_less s e [] ≡ (s, e - 1) ∷ []
less_power s zero h = absurd (omega arith)
less_power s (suc zero) h = absurd (omega arith)
less_power s (suc (suc e)) h = let k : suc e ≡ suc (suc e) - 1 = omega arith in ap (λ (n : ℕ). (s, n) ∷ []) k

-- a first power is gone
pub no_power : (s : Symbol) (e : ℕ) → e ≤ 1 → once_less s e [] ≡ []
no_power s zero h = refl
no_power s (suc zero) h = refl
no_power s (suc (suc e)) h = absurd (omega arith)

-- the parts of the monomial, one after the other
pub joined_powers : (s : Symbol) (e : ℕ) (front back : Monomial Symbol) → (front ++ once_less s e []) ++ back ≡ front ++ once_less s e back
joined_powers s e front back = append_assoc front (once_less s e []) back ∙ ap (λ l. front ++ l) (last e)
  where
    last : (e : ℕ) → once_less s e [] ++ back ≡ once_less s e back
    last zero = refl
    last (suc zero) = refl
    last (suc (suc e)) = refl

-- a high exponent in the front is one of the whole
pub front_high : (front back : Monomial Symbol) → has_high_exponent front ≡ true → has_high_exponent (front ++ back) ≡ true
front_high [] back e = absurd cc
front_high (p ∷ front) back e = by_test (nat_lt 65535 p.1) e (front_high front back)
  where
    by_test : (b : Bool) → (b || has_high_exponent front) ≡ true → (has_high_exponent front ≡ true → has_high_exponent (front ++ back) ≡ true) → (b || has_high_exponent (front ++ back)) ≡ true
    by_test true e f = refl
    by_test false e f = f e

-- ---- one term of a row
module _ (r : RankingValue) (s : Symbol) (x : SymbolRate) where
  -- one contribution without others
  alone : (y : Rate Symbol) (m : Monomial Symbol) (c : ℤ) → times_rate (ranking_cmp r) y m c ++ [] ≡ times_rate (ranking_cmp r) y m c
  alone constant m c = refl
  alone unit m c = refl
  alone (symbol t) m c = refl

  -- a term without the symbol
  pub row_missing : (t : Monomial Symbol × ℤ) → IsMonomial (ranking_cmp r) t.0 → exponent (ranking_cmp r) s t.0 ≡ 0 → row (ranking_cmp r) s x (t ∷ []) ≡ []
  row_missing t h e = ap (λ (l : Contributions Symbol). l ++ []) (none (ranking_order r) s (meant x) t.0 t.1 h e)

  -- a monomial times the rate
  timed : (y : SymbolRate) (front : Monomial Symbol) (e : ℕ) (back : Monomial Symbol) (c : ℤ) → IsMonomial (ranking_cmp r) (front ++ (s, e) ∷ back) → Rises (ranking_cmp r) s y → times_rate (ranking_cmp r) (meant y) (front ++ once_less s e back) c ≡ (times_meant (ranking_cmp r) y front ++ once_less s e back, c) ∷ []
  timed One front e back c h g = refl
  timed (Next t) front e back c h g = ap (λ m. (m, c) ∷ []) (put_front (ranking_order r) s t front e back g (back_below (ranking_order r) s front e back h))

  -- a term with the symbol
  pub row_found : (t : Monomial Symbol × ℤ) (front : Monomial Symbol) (p : Symbol × ℕ) (back : Monomial Symbol) → t.0 ≡ front ++ p ∷ back → p.0 ≡ s → IsMonomial (ranking_cmp r) t.0 → Rises (ranking_cmp r) s x
      → row (ranking_cmp r) s x (t ∷ []) ≡ (times_meant (ranking_cmp r) x front ++ once_less p.0 p.1 back, t.1 *ℤ pos p.1) ∷ []
  row_found t front p back e f h g =
      let k : t.0 ≡ front ++ (s, p.1) ∷ back = e ∙ ap (λ (u : Symbol). front ++ (u, p.1) ∷ back) f in
      let i : IsMonomial (ranking_cmp r) (front ++ (s, p.1) ∷ back) = subst (IsMonomial (ranking_cmp r)) k h in
      ap (λ m. term_derivative (ranking_cmp r) (only (ranking_cmp r) s (meant x)) m t.1 ++ []) k
      ∙ ap (λ (l : Contributions Symbol). l ++ []) (one (ranking_order r) s (meant x) front p.1 back t.1 i)
      ∙ alone (meant x) (front ++ once_less s p.1 back) (t.1 *ℤ pos p.1)
      ∙ timed x front p.1 back (t.1 *ℤ pos p.1) i g
      ∙ ap (λ (u : Symbol). (times_meant (ranking_cmp r) x front ++ once_less u p.1 back, t.1 *ℤ pos p.1) ∷ []) (sym f)

  -- its exponents
  high_found : (t : Monomial Symbol × ℤ) (m : Monomial Symbol) (c : ℤ) → row (ranking_cmp r) s x (t ∷ []) ≡ (m, c) ∷ [] → has_high_exponent (degrees (ranking_cmp r) (row (ranking_cmp r) s x (t ∷ []))) ≡ has_high_exponent m
  high_found t m c e = ap (λ l. has_high_exponent (degrees (ranking_cmp r) l)) e ∙ high_multiple (ranking_order r) m [] ∙ last (has_high_exponent m)
    where
      last : (b : Bool) → (b || false) ≡ b
      last true = refl
      last false = refl

  -- the front of a list that is as long as the list
  whole : {X : Type 0} (xs : List X) (n : ℕ) → n ≡ length xs → take n xs ≡ xs
  whole [] zero e = refl
  whole [] (suc n) e = refl
  whole (y ∷ xs) zero e = absurd (omega arith)
  whole (y ∷ xs) (suc n) e = ap (λ l. y ∷ l) (whole xs n (omega arith))

  -- a term that has the symbol first in the rest of its monomial
  pub row_at : (t : Monomial Symbol × ℤ) (front rest : Monomial Symbol) (d : Symbol × ℕ) → t.0 ≡ front ++ rest → Begins s rest → IsMonomial (ranking_cmp r) t.0 → Rises (ranking_cmp r) s x
      → row (ranking_cmp r) s x (t ∷ []) ≡ (times_meant (ranking_cmp r) x front ++ once_less (get_or rest 0 d).0 (get_or rest 0 d).1 (take (length rest - 1) (drop 1 rest)), t.1 *ℤ pos (get_or rest 0 d).1) ∷ []
  row_at t front [] d e f h g = absurd f
  row_at t front (p ∷ back) d e f h g =
      row_found t front p back e f h g
      ∙ ap (λ (l : Monomial Symbol). (times_meant (ranking_cmp r) x front ++ once_less p.0 p.1 l, t.1 *ℤ pos p.1) ∷ []) (sym (whole back (length (p ∷ back) - 1) (omega arith)))

  -- a monomial that is refused has its term refused
  pub cell_refused : (t : Monomial Symbol × ℤ) (m : Monomial Symbol) (c : ℤ) → row (ranking_cmp r) s x (t ∷ []) ≡ (m, c) ∷ [] → (stop : PolyStop) → (stop ≡ Memory) ⊎ ((stop ≡ Large limits.Exponent) × (has_high_exponent m ≡ true)) → (stop ≡ Memory) ⊎ ((stop ≡ Large limits.Exponent) × (has_high_exponent (degrees (ranking_cmp r) (row (ranking_cmp r) s x (t ∷ []))) ≡ true))
  cell_refused t m c e stop (inl f) = inl f
  cell_refused t m c e stop (inr f) = inr (f.0, high_found t m c e ∙ f.1)

  -- the cell of a term
  pub cell_is : (t : Monomial Symbol × ℤ) (m : Monomial Symbol) (c : ℤ) → row (ranking_cmp r) s x (t ∷ []) ≡ (m, c) ∷ [] → (powers : Monomial Symbol) → powers ≡ m → (cell : Monomial Symbol × Option Amount) → cell ≡ (powers, capped (amount c)) → cell ∷ [] ≡ caps (amounts (row (ranking_cmp r) s x (t ∷ [])))
  cell_is t m c e powers f cell g = ap (λ (l : Monomial Symbol × Option Amount). l ∷ []) (g ∙ ap (λ (k : Monomial Symbol). (k, capped (amount c))) f) ∙ ap (λ l. caps (amounts l)) (sym e)

  -- its exponents
  pub cell_low : (t : Monomial Symbol × ℤ) (m : Monomial Symbol) (c : ℤ) → row (ranking_cmp r) s x (t ∷ []) ≡ (m, c) ∷ [] → (powers : Monomial Symbol) → powers ≡ m → has_high_exponent powers ≡ false → has_high_exponent (degrees (ranking_cmp r) (row (ranking_cmp r) s x (t ∷ []))) ≡ false
  cell_low t m c e powers f g = high_found t m c e ∙ ap has_high_exponent (sym f) ∙ g

  -- ---- one term more
  pub row-append : (p q : Polynomial Symbol) → row (ranking_cmp r) s x (p ++ q) ≡ row (ranking_cmp r) s x p ++ row (ranking_cmp r) s x q
  row-append [] q = refl
  row-append (t ∷ p) q =
      ap (λ l. term_derivative (ranking_cmp r) (only (ranking_cmp r) s (meant x)) t.0 t.1 ++ l) (row-append p q)
      ∙ sym (append_assoc (term_derivative (ranking_cmp r) (only (ranking_cmp r) s (meant x)) t.0 t.1) (row (ranking_cmp r) s x p) (row (ranking_cmp r) s x q))

  -- one more term
  take_here : (i : ℕ) (p : Polynomial Symbol) (t : Monomial Symbol × ℤ) → i < length p → t ≡ get_or p i t → take (i + 1) p ≡ take i p ++ t ∷ []
  take_here i p t h e = rw add-one (at i p h e)
    where
      at : (i : ℕ) (p : Polynomial Symbol) → i < length p → t ≡ get_or p i t → take (suc i) p ≡ take i p ++ t ∷ []
      at i [] h e = absurd (omega arith)
      at zero (y ∷ p) h e = ap (λ (z : Monomial Symbol × ℤ). z ∷ []) (sym e)
      at (suc i) (y ∷ p) h e = ap (λ l. y ∷ l) (at i p (omega arith) e)

  -- the row with one term more
  row_more : (i : ℕ) (p : Polynomial Symbol) (t : Monomial Symbol × ℤ) → i < length p → t ≡ get_or p i t → row (ranking_cmp r) s x (take (i + 1) p) ≡ row (ranking_cmp r) s x (take i p) ++ row (ranking_cmp r) s x (t ∷ [])
  row_more i p t h e = ap (row (ranking_cmp r) s x) (take_here i p t h e) ∙ row-append (take i p) (t ∷ [])

  -- its cells
  pub cells_more : (i : ℕ) (p : Polynomial Symbol) (t : Monomial Symbol × ℤ) → i < length p → t ≡ get_or p i t → caps (amounts (row (ranking_cmp r) s x (take i p))) ++ caps (amounts (row (ranking_cmp r) s x (t ∷ []))) ≡ caps (amounts (row (ranking_cmp r) s x (take (i + 1) p)))
  cells_more i p t h e = sym (ap (λ l. caps (amounts l)) (row_more i p t h e) ∙ both (row (ranking_cmp r) s x (take i p)) (row (ranking_cmp r) s x (t ∷ [])))
    where
      both : (a b : Contributions Symbol) → caps (amounts (a ++ b)) ≡ caps (amounts a) ++ caps (amounts b)
      both [] b = refl
      both (u ∷ a) b = ap (λ l. (u.0, capped (amount u.1)) ∷ l) (both a b)

  -- and its exponents
  pub low_more : (i : ℕ) (p : Polynomial Symbol) (t : Monomial Symbol × ℤ) → i < length p → t ≡ get_or p i t → has_high_exponent (degrees (ranking_cmp r) (row (ranking_cmp r) s x (take i p))) ≡ false → has_high_exponent (degrees (ranking_cmp r) (row (ranking_cmp r) s x (t ∷ []))) ≡ false → has_high_exponent (degrees (ranking_cmp r) (row (ranking_cmp r) s x (take (i + 1) p))) ≡ false
  low_more i p t h e f g =
      ap (λ l. has_high_exponent (degrees (ranking_cmp r) l)) (row_more i p t h e)
      ∙ high-append (ranking_order r) (row (ranking_cmp r) s x (take i p)) (row (ranking_cmp r) s x (t ∷ []))
      ∙ ap₂ (λ a b. a || b) f g

  -- a term with a high exponent makes its row high
  high_term : (i : ℕ) (p : Polynomial Symbol) (t : Monomial Symbol × ℤ) → i < length p → t ≡ get_or p i t → has_high_exponent (degrees (ranking_cmp r) (row (ranking_cmp r) s x (t ∷ []))) ≡ true → has_high_exponent (degrees (ranking_cmp r) (row (ranking_cmp r) s x p)) ≡ true
  high_term i [] t h e f = absurd (omega arith)
  high_term zero (u ∷ p) t h e f =
      ap (λ l. has_high_exponent (degrees (ranking_cmp r) l)) (row-append (u ∷ []) p)
      ∙ high-append (ranking_order r) (row (ranking_cmp r) s x (u ∷ [])) (row (ranking_cmp r) s x p)
      ∙ ap (λ b. b || has_high_exponent (degrees (ranking_cmp r) (row (ranking_cmp r) s x p))) (ap (λ v. has_high_exponent (degrees (ranking_cmp r) (row (ranking_cmp r) s x (v ∷ [])))) (sym e) ∙ f)
  high_term (suc i) (u ∷ p) t h e f =
      ap (λ l. has_high_exponent (degrees (ranking_cmp r) l)) (row-append (u ∷ []) p)
      ∙ high-append (ranking_order r) (row (ranking_cmp r) s x (u ∷ [])) (row (ranking_cmp r) s x p)
      ∙ ap (λ b. has_high_exponent (degrees (ranking_cmp r) (row (ranking_cmp r) s x (u ∷ []))) || b) (high_term i p t (omega arith) e f)
      ∙ last (has_high_exponent (degrees (ranking_cmp r) (row (ranking_cmp r) s x (u ∷ []))))
    where
      last : (b : Bool) → (b || true) ≡ true
      last true = refl
      last false = refl

  -- a term that is refused has its row refused
  pub term_refused : (i : ℕ) (p : Polynomial Symbol) (t : Monomial Symbol × ℤ) → i < length p → t ≡ get_or p i t → (stop : PolyStop) → (stop ≡ Memory) ⊎ ((stop ≡ Large limits.Exponent) × (has_high_exponent (degrees (ranking_cmp r) (row (ranking_cmp r) s x (t ∷ []))) ≡ true)) → (stop ≡ Memory) ⊎ ((stop ≡ Large limits.Exponent) × (has_high_exponent (degrees (ranking_cmp r) (row (ranking_cmp r) s x p)) ≡ true))
  term_refused i p t h e stop (inl f) = inl f
  term_refused i p t h e stop (inr f) = inr (f.0, high_term i p t h e f.1)
