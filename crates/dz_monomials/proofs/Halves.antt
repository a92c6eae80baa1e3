-- Products whose first factor is taken apart.
use Rattle.std.proofs.Common.{◌≡◌, ◌<◌, ◌≤◌, ◌+◌, ◌∙◌, ◌||◌, Bool, true, false, List, [], ◌∷◌, ◌++◌, length, get_or, Option, ℤ, refl, sym, ap, ap₂, subst, arith, ◌⊎◌, inl, inr}
use Rattle.std.proofs.lemmas.List.{append_assoc}
use Rattle.std.specs.declared.cmp.Ordering.{Ordering}
use Rattle.std.specs.declared.cmp.Ordering.TheVariants.{Less, Equal, Greater}
use Rattle.std.specs.Ordering.{match_ordering}
use Rattle.dz_algebra.specs.declared.Limit.TheVariants as limits
use Rattle.dz_algebra.specs.Whole.{whole_ring}
use Rattle.dz_algebra.specs.Gather.{onto, merge, joined, landed}
use Rattle.dz_algebra.specs.Order.{IsOrder, IsAbove}
use Rattle.dz_algebra.specs.Monomial.{Monomial, monomial_cmp}
use Rattle.dz_algebra.specs.Polynomial.{Polynomial, Contributions, IsPolynomial, term_times, pairs}
use Rattle.dz_algebra.specs.Amount.{Amount, amounts, add_amounts, gathered}
use Rattle.dz_algebra.specs.Size.{operation}
use Rattle.dz_algebra.proofs.Gathers.{merge_puts, falling_onto}
use Rattle.dz_algebra.proofs.Operations.{monomial_order, falling_gathered, amounts-append}
use Rattle.dz_algebra.proofs.SameAmounts.{landed-append, landed_onto, landed_gather, same_falling}
use Rattle.dz_algebra.proofs.OperationOrder.{factors_swap}
use Rattle.dz_rank.specs.declared.symbols.Symbol.{Symbol}
use Rattle.dz_rank.specs.Rankings.{RankingValue, ranking_cmp}
use Rattle.dz_monomials.specs.Keeping.{IsTabled}
use Rattle.dz_monomials.specs.Ranked.{symbols_under}
use Rattle.dz_monomials.specs.Cells.{add_capped, caps}
use Rattle.dz_monomials.specs.Degrees.{degrees, has_high_exponent}
use Rattle.dz_monomials.specs.declared.PolyStop.{PolyStop}
use Rattle.dz_monomials.specs.declared.PolyStop.TheVariants.{Memory, Large}
use Rattle.dz_monomials.proofs.SymbolLaws.{ranking_order}
use Rattle.dz_monomials.proofs.Amounts.{merged, falling_caps, caps_onto, length-caps}
use Rattle.dz_monomials.proofs.Multiplying.{row_falls, high-append, longer_gathered}

-- adding amounts associates
amounts_associate : (a b c : Amount) → add_amounts (add_amounts a b) c ≡ add_amounts a (add_amounts b c)
amounts_associate a b c =
    let e : (a.majorant + b.majorant) + c.majorant ≡ a.majorant + (b.majorant + c.majorant) = omega arith in
    ap₂ (λ t m. record { total = t; majorant = m }) (whole_ring.sum_associates a.total b.total c.total) e

-- a merge is no shorter than its second list
longer_merge : {K V : Type 0} (cmp : K → K → Ordering) (add : V → V → V) (ts rs : List (K × V)) → length rs ≤ length (merge cmp add ts rs)
longer_merge cmp add [] rs = omega arith
longer_merge cmp add (t ∷ ts) [] = omega arith
longer_merge cmp add (t ∷ ts) (r ∷ rs) =
    elim (cmp r.0 t.0) as (λ o. length (r ∷ rs) ≤ length (match_ordering o (t ∷ merge cmp add ts (r ∷ rs)) ((t.0, add r.1 t.1) ∷ merge cmp add ts rs) (r ∷ merge cmp add (t ∷ ts) rs))) [
      | Less ↦ let h = longer_merge cmp add ts (r ∷ rs) in omega arith
      | Equal ↦ let h = longer_merge cmp add ts rs in omega arith
      | Greater ↦ let h = longer_merge cmp add (t ∷ ts) rs in omega arith
    ]

-- what neither of two tests passes
either_false : (a b : Bool) → (a || b) ≡ false → (a ≡ false) × (b ≡ false)
either_false true b e = cc
either_false false b e = (refl, e)

module _ {S : Type 0} {cmp : S → S → Ordering} (order : IsOrder cmp) where
  -- ---- the parts of a list of terms
  -- the pairs of two parts
  pairs-append : (a b q : Polynomial S) → pairs cmp (a ++ b) q ≡ pairs cmp a q ++ pairs cmp b q
  pairs-append [] b q = refl
  pairs-append (t ∷ a) b q = ap (λ l. term_times cmp t.0 t.1 q ++ l) (pairs-append a b q) ∙ sym (append_assoc (term_times cmp t.0 t.1 q) (pairs cmp a q) (pairs cmp b q))

  -- each part of a polynomial is one
  above_front : (m : Monomial S) (a b : Polynomial S) → IsAbove (monomial_cmp cmp) m (a ++ b) → IsAbove (monomial_cmp cmp) m a
  above_front m [] b h = tt
  above_front m (t ∷ a) b h = (h.0, above_front m a b h.1)

  front_canonical : (a b : Polynomial S) → IsPolynomial cmp (a ++ b) → IsPolynomial cmp a
  front_canonical [] b h = tt
  front_canonical (t ∷ a) b h = (h.0, h.1, above_front t.0 a b h.2, front_canonical a b h.3)

  back_canonical : (a b : Polynomial S) → IsPolynomial cmp (a ++ b) → IsPolynomial cmp b
  back_canonical [] b h = h
  back_canonical (t ∷ a) b h = back_canonical a b h.3

  -- ---- one pass over the cells of two lists of contributions
  -- what lands at a monomial
  abbrev at : Monomial S → List (Monomial S × Amount) → Option Amount
  at m l = landed (monomial_cmp cmp) add_amounts m l

  -- what both lists make is what one after the other makes
  gathered_parts : (ts us : Contributions S) → onto (monomial_cmp cmp) add_amounts (gathered cmp ts) (gathered cmp us) ≡ gathered cmp (ts ++ us)
  gathered_parts ts us =
      same_falling add_amounts amounts_associate by (onto (monomial_cmp cmp) add_amounts (gathered cmp ts) (gathered cmp us)) (gathered cmp (ts ++ us)) (falling_onto by add_amounts (gathered cmp ts) (gathered cmp us) (falling_gathered order us)) (falling_gathered order (ts ++ us)) lands
    where
      by : IsOrder (monomial_cmp cmp)
      by = monomial_order order

      lands : (m : Monomial S) → at m (onto (monomial_cmp cmp) add_amounts (gathered cmp ts) (gathered cmp us)) ≡ at m (gathered cmp (ts ++ us))
      lands m =
          landed_onto add_amounts amounts_associate by m (gathered cmp ts) (gathered cmp us)
          ∙ landed-append add_amounts amounts_associate (monomial_cmp cmp) m (gathered cmp ts) (gathered cmp us)
          ∙ ap₂ (joined add_amounts) (landed_gather add_amounts amounts_associate by m (amounts ts)) (landed_gather add_amounts amounts_associate by m (amounts us))
          ∙ sym (landed-append add_amounts amounts_associate (monomial_cmp cmp) m (amounts ts) (amounts us))
          ∙ ap (at m) (sym (amounts-append order ts us))
          ∙ sym (landed_gather add_amounts amounts_associate by m (amounts (ts ++ us)))

  -- and one pass over their cells makes its cells
  pub merged_parts : (ts us : Contributions S) → merge (monomial_cmp cmp) add_capped (caps (gathered cmp us)) (caps (gathered cmp ts)) ≡ caps (gathered cmp (ts ++ us))
  merged_parts ts us =
      merge_puts (monomial_order order) add_capped (caps (gathered cmp us)) (caps (gathered cmp ts)) (falling_caps order (gathered cmp us) (falling_gathered order us)) (falling_caps order (gathered cmp ts) (falling_gathered order ts))
      ∙ sym (caps_onto (monomial_cmp cmp) (gathered cmp ts) (gathered cmp us))
      ∙ ap caps (gathered_parts ts us)

  -- further contributions behind others take no monomial away
  longer_front : (ts us : Contributions S) → length (gathered cmp ts) ≤ length (gathered cmp (ts ++ us))
  longer_front ts us =
      let h = longer_merge (monomial_cmp cmp) add_capped (caps (gathered cmp us)) (caps (gathered cmp ts)) in
      let e = ap length (merged_parts ts us) ∙ length-caps (gathered cmp (ts ++ us)) in
      let f = length-caps (gathered cmp ts) in
      omega arith

-- ---- a first factor with one term
-- its cells are its row
pub one_row : {S : Type 0} {cmp : S → S → Ordering} → IsOrder cmp → (p q : Polynomial S) (t : Monomial S × ℤ) (row : List (Monomial S × Option Amount)) → length p ≡ 1 → t ≡ get_or p 0 t → IsPolynomial cmp p → IsPolynomial cmp q → row ≡ caps (amounts (term_times cmp t.0 t.1 q)) → row ≡ caps (gathered cmp (pairs cmp p q))
one_row order [] q t row n e h g i = absurd (omega arith)
one_row {cmp = cmp} order (u ∷ []) q t row n e h g i =
    i
    ∙ ap (λ x. caps (amounts (term_times cmp x.0 x.1 q))) e
    ∙ merged order (term_times cmp u.0 u.1 q) [] (row_falls order u.0 u.1 q h.1 g)
one_row order (u ∷ v ∷ p) q t row n e h g i = absurd (omega arith)

-- ---- a first factor with two parts
module _ {S : Type 0} {cmp : S → S → Ordering} (order : IsOrder cmp) (p a b q : Polynomial S) (e : p ≡ a ++ b) where
  -- the pairs of the parts
  parts : pairs cmp p q ≡ pairs cmp a q ++ pairs cmp b q
  parts = ap (λ l. pairs cmp l q) e ∙ pairs-append order a b q

  -- the parts are polynomials
  pub front_is : IsPolynomial cmp p → IsPolynomial cmp a
  front_is h = front_canonical order a b (subst (IsPolynomial cmp) e h)

  -- both of them
  pub back_is : IsPolynomial cmp p → IsPolynomial cmp b
  back_is h = back_canonical order a b (subst (IsPolynomial cmp) e h)

  -- both parts of a low factor
  both_low : has_high_exponent (degrees cmp p) ≡ false → (has_high_exponent (degrees cmp a) ≡ false) × (has_high_exponent (degrees cmp b) ≡ false)
  both_low h = either_false _ _ (sym (high-append order a b) ∙ ap (λ l. has_high_exponent (degrees cmp l)) (sym e) ∙ h)

  -- and low where the factor is
  pub front_low : has_high_exponent (degrees cmp p) ≡ false → has_high_exponent (degrees cmp a) ≡ false
  front_low h = (both_low h).0

  -- both of them
  pub back_low : has_high_exponent (degrees cmp p) ≡ false → has_high_exponent (degrees cmp b) ≡ false
  back_low h = (both_low h).1

  -- both parts of low pairs
  pairs_low : has_high_exponent (degrees cmp (pairs cmp p q)) ≡ false → (has_high_exponent (degrees cmp (pairs cmp a q)) ≡ false) × (has_high_exponent (degrees cmp (pairs cmp b q)) ≡ false)
  pairs_low h = either_false _ _ (sym (high-append order (pairs cmp a q) (pairs cmp b q)) ∙ ap (λ l. has_high_exponent (degrees cmp l)) (sym parts) ∙ h)

  -- and so are their products
  pub front_pairs_low : has_high_exponent (degrees cmp (pairs cmp p q)) ≡ false → has_high_exponent (degrees cmp (pairs cmp a q)) ≡ false
  front_pairs_low h = (pairs_low h).0

  -- both of them
  pub back_pairs_low : has_high_exponent (degrees cmp (pairs cmp p q)) ≡ false → has_high_exponent (degrees cmp (pairs cmp b q)) ≡ false
  back_pairs_low h = (pairs_low h).1

  -- a part with too many monomials makes too many
  pub front_refused : (stop : PolyStop) → (stop ≡ Memory) ⊎ ((stop ≡ Large limits.Terms) × (4096 < length (gathered cmp (pairs cmp a q)))) → (stop ≡ Memory) ⊎ ((stop ≡ Large limits.Terms) × (4096 < length (gathered cmp (pairs cmp p q))))
  front_refused stop (inl f) = inl f
  front_refused stop (inr f) =
      let h = longer_front order (pairs cmp a q) (pairs cmp b q) in
      let g = ap (λ l. length (gathered cmp l)) parts in
      let k = f.1 in
      inr (f.0, omega arith)

  -- either of them
  pub back_refused : (stop : PolyStop) → (stop ≡ Memory) ⊎ ((stop ≡ Large limits.Terms) × (4096 < length (gathered cmp (pairs cmp b q)))) → (stop ≡ Memory) ⊎ ((stop ≡ Large limits.Terms) × (4096 < length (gathered cmp (pairs cmp p q))))
  back_refused stop (inl f) = inl f
  back_refused stop (inr f) =
      let h = longer_gathered order (pairs cmp a q) (pairs cmp b q) in
      let g = ap (λ l. length (gathered cmp l)) parts in
      let k = f.1 in
      inr (f.0, omega arith)

  -- the cells of both parts, in one pass, are those of the product
  pub parts_absorbed : (rest row all : List (Monomial S × Option Amount)) → all ≡ merge (monomial_cmp cmp) add_capped rest row → row ≡ caps (gathered cmp (pairs cmp a q)) → rest ≡ caps (gathered cmp (pairs cmp b q)) → all ≡ caps (gathered cmp (pairs cmp p q))
  parts_absorbed rest row all f g h =
      f
      ∙ ap₂ (merge (monomial_cmp cmp) add_capped) h g
      ∙ merged_parts order (pairs cmp a q) (pairs cmp b q)
      ∙ ap (λ l. caps (gathered cmp l)) (sym parts)

-- too many cells are too many monomials
pub too_many : {S : Type 0} (cmp : S → S → Ordering) (ts : Contributions S) (all : List (Monomial S × Option Amount)) → all ≡ caps (gathered cmp ts) → 4096 < length all → 4096 < length (gathered cmp ts)
too_many cmp ts all e l = let g : length all ≡ length (gathered cmp ts) = ap length e ∙ length-caps (gathered cmp ts) in omega arith

-- the factors of a product in the other order
pub factors_swapped : (r : RankingValue) (p : Polynomial Symbol) (a : Monomial Symbol) (q : Polynomial Symbol) (b : Monomial Symbol) → IsTabled r p a → IsTabled r q b → operation (symbols_under r) (pairs (ranking_cmp r) p q) ≡ operation (symbols_under r) (pairs (ranking_cmp r) q p)
factors_swapped r p a q b h g = factors_swap (symbols_under r) (ranking_order r) p q h.keepable.canonical g.keepable.canonical
