-- What the operation with a term more answers.
use Rattle.std.proofs.Common.{◌≡◌, ◌≢◌, ◌≤◌, ◌∙◌, ◌||◌, sym, ap, ap₂, refl, subst, ℕ, ◌+◌, max, Bool, true, false, cond, List, [], ◌∷◌, ◌++◌, map, length, take, drop, ℤ, pos, unsigned_abs, Option, Some, None, Ok, arith}
use Rattle.std.specs.List.{insert}
use Rattle.std.specs.Prelude.{nat_lt}
use Rattle.std.specs.declared.cmp.Ordering.{Ordering}
use Rattle.std.proofs.lemmas.Int.{ints}
use Rattle.std.proofs.lemmas.List.{length-map}
use Rattle.std.proofs.lemmas.List.Edits.{length-insert}
use Rattle.std.proofs.lemmas.List.Elements.{All-head}
use Rattle.dz_algebra.specs.declared.Limit.{Limit}
use Rattle.dz_algebra.specs.Amount.{Amount, add_amounts, amount, amounts, amounts_fit, gathered, greatest}
use Rattle.dz_algebra.specs.Gather.{put}
use Rattle.dz_algebra.specs.Monomial.{Monomial, IsMonomial, monomial_cmp}
use Rattle.dz_algebra.specs.Order.{IsAbove}
use Rattle.dz_algebra.specs.Polynomial.{Polynomial, add_term}
use Rattle.dz_algebra.specs.Size.{fits, limit_of, operation, refusal, refused, support, unless}
use Rattle.dz_algebra.proofs.Canonical.{are_monomials, collected}
use Rattle.dz_algebra.proofs.Gathers.{any_onto}
use Rattle.dz_algebra.proofs.OperationOrder.{parts_swap}
use Rattle.dz_algebra.proofs.Operations.{gathered_polynomial}
use Rattle.dz_rank.specs.Rankings.{RankingValue, ranking_cmp}
use Rattle.dz_rank.specs.Symbols.{total_order}
use Rattle.dz_rank.specs.declared.symbols.Symbol.{Symbol}
use Rattle.dz_monomials.specs.Cells.{concluded}
use Rattle.dz_monomials.specs.Degrees.{degrees, has_high_exponent, has_high_order, limit_by, limit_of_counts}
use Rattle.dz_monomials.specs.Keeping.{IsTabled}
use Rattle.dz_monomials.specs.Ranked.{symbols_under}
use Rattle.dz_monomials.specs.Signs.{signed, with_sign}
use Rattle.dz_monomials.specs.declared.sign.Sign.{Sign}
use Rattle.dz_monomials.specs.declared.sign.Sign.TheVariants.{Plus, Minus}
use Rattle.dz_monomials.proofs.Finishing.{limit_known}
use Rattle.dz_monomials.proofs.Multiples.{high_multiple, limit_of_degrees}
use Rattle.dz_monomials.proofs.Summing.{IsLow, low_entry, sum_keepable}
use Rattle.dz_monomials.proofs.SupportLaws.{degrees_gathered}
use Rattle.dz_monomials.proofs.SymbolLaws.{ranking_order}
use Rattle.dz_monomials.specs.InPlace.{IsAt, IsBelow, added_at, changed_at, fits_at, inserted_at}
use Rattle.dz_monomials.proofs.Changes.{add_missing, add_there, amounts_in_range, degrees-amounts, fit_at, fit_insert, keys_at, put_missing}

-- what is known of a term that comes from a polynomial in a book
record IsTerm (r : RankingValue) (t : Monomial Symbol × ℤ) : Type 0 where
  pub monomial : IsMonomial (ranking_cmp r) t.0
  pub nonzero : t.1 ≢ pos 0
  pub in_range : unsigned_abs t.1 ≤ greatest
  pub orders : has_high_order total_order t.0 ≡ false
  pub exponents : has_high_exponent t.0 ≡ false

-- a test beside one that fails
or_false : (b : Bool) → (b || false) ≡ false → b ≡ false
or_false true e = cc
or_false false e = refl

-- a sign makes nothing zero
signed_nonzero : (sign : Sign) (c : ℤ) → c ≢ pos 0 → signed sign c ≢ pos 0
signed_nonzero Plus c n e = n e
signed_nonzero Minus c n e = n (omega (arith, ints))

-- and keeps what is in range there
signed_in_range : (sign : Sign) (c : ℤ) → unsigned_abs c ≤ greatest → unsigned_abs (signed sign c) ≤ greatest
signed_in_range Plus c l = l
signed_in_range Minus c l = omega (arith, ints)

-- the one term of an entry, taken with a sign
term_of : (r : RankingValue) (sign : Sign) (q : Polynomial Symbol) (table : Monomial Symbol) (t : Monomial Symbol × ℤ) → IsTabled r q table → with_sign sign q ≡ t ∷ [] → IsTerm r t
term_of r sign [] table t h e = absurd cc
term_of r sign (u ∷ v ∷ q) table t h e = absurd cc
term_of r sign (u ∷ []) table t h e =
    let same : (u.0, signed sign u.1) ≡ t = cc in
    let low = low_entry r (u ∷ []) h.keepable in
    subst (IsTerm r) same (record {
      monomial = h.keepable.canonical.1;
      nonzero = signed_nonzero sign u.1 h.keepable.canonical.0;
      in_range = signed_in_range sign u.1 (All-head (λ (t : Monomial Symbol × ℤ). unsigned_abs t.1 ≤ greatest) u [] h.keepable.in_range);
      orders = or_false _ (sym (any_onto (ranking_order r) max (λ s. nat_lt 60 (total_order s)) u.0 []) ∙ low.orders);
      exponents = or_false _ (sym (high_multiple (ranking_order r) u.0 []) ∙ low.exponents);
    })

module _ (r : RankingValue) (p : Polynomial Symbol) (table : Monomial Symbol) (h : IsTabled r p table) (t : Monomial Symbol × ℤ) where
  abbrev cmp : Symbol → Symbol → Ordering
  cmp = ranking_cmp r

  -- the amounts with the term's put onto them
  abbrev more : List (Monomial Symbol × Amount)
  more = put (monomial_cmp cmp) add_amounts t.0 (amount t.1) (amounts p)

  -- they are those of the contributions
  gathered_more : gathered cmp (t ∷ p) ≡ more
  gathered_more = ap (put (monomial_cmp cmp) add_amounts t.0 (amount t.1)) (gathered_polynomial (ranking_order r) p h.keepable.canonical)

  -- and decide the answer
  by_amounts : operation (symbols_under r) (p ++ t ∷ []) ≡ unless (refused (limit_of (symbols_under r) (map (λ t. t.0) more)) (amounts_fit more)) (add_term (monomial_cmp cmp) t.0 t.1 p)
  unfolding operation refusal support fits
  by_amounts =
      parts_swap (symbols_under r) (ranking_order r) p (t ∷ [])
      ∙ ap₂ (λ g q. unless (refused (limit_of (symbols_under r) (map (λ t. t.0) g)) (amounts_fit g)) (add_term (monomial_cmp cmp) t.0 t.1 q)) gathered_more (collected (ranking_order r) p h.keepable.canonical)

  -- ---- the monomial stands at a place
  module _ (i : ℕ) (a : IsAt t.0 i p) where
    -- no limit is passed
    small : limit_of (symbols_under r) (map (λ t. t.0) more) ≡ None
    small = ap (limit_of (symbols_under r)) (keys_at (ranking_order r) t.0 t.1 i p h.keepable.canonical a) ∙ h.keepable.small

    -- where no limit is passed, the sum of absolute values decides
    at_fit : (b : Bool) (q : Polynomial Symbol) → unless (refused None b) q ≡ concluded None (cond b (Some q) None)
    at_fit true q = refl
    at_fit false q = refl

    -- a number is added there
    found_answer : operation (symbols_under r) (p ++ t ∷ []) ≡ added_at i t.1 p
    found_answer =
        by_amounts
        ∙ ap₂ (λ l b. unless (refused l b) (add_term (monomial_cmp cmp) t.0 t.1 p)) small (fit_at (ranking_order r) t.0 t.1 i p h.keepable.canonical a (amounts_in_range p h.keepable.in_range))
        ∙ ap (unless (refused None (fits_at i t.1 p))) (add_there (ranking_order r) t.0 t.1 i p h.keepable.canonical a)
        ∙ at_fit (fits_at i t.1 p) (changed_at i t.1 p)

  -- ---- the monomial is missing at a place
  module _ (k : IsTerm r t) (i : ℕ) (inside : i ≤ length p) (below : IsBelow (monomial_cmp cmp) t.0 (take i p)) (above : IsAbove (monomial_cmp cmp) t.0 (drop i p)) where
    -- the amount comes to the place
    more_is : more ≡ amounts (insert p i t)
    more_is = put_missing cmp t.0 t.1 i p below above

    -- the degrees are raised by the monomial
    degrees_inserted : degrees cmp (t ∷ p) ≡ degrees cmp (insert p i t)
    degrees_inserted =
        sym (degrees_gathered (ranking_order r) (t ∷ p) (k.monomial, are_monomials (ranking_order r) p h.keepable.canonical))
        ∙ ap (degrees cmp) (gathered_more ∙ more_is) ∙ degrees-amounts cmp (insert p i t)

    -- there is one term more
    length_more : length more ≡ length p + 1
    length_more = ap length more_is ∙ length-map (insert p i t) (λ t. (t.0, amount t.1)) ∙ length-insert p i t inside

    -- its orders and exponents are low
    low : IsLow total_order (degrees cmp (t ∷ p))
    low =
        let l = low_entry r p h.keepable in
        record {
          orders = any_onto (ranking_order r) max (λ s. nat_lt 60 (total_order s)) t.0 (degrees cmp p) ∙ ap₂ (λ a b. a || b) k.orders l.orders;
          exponents = high_multiple (ranking_order r) t.0 (degrees cmp p) ∙ ap₂ (λ a b. a || b) k.exponents l.exponents;
        }

    -- so that the counts decide the limit
    limit_more : limit_of (symbols_under r) (map (λ t. t.0) more) ≡ limit_of_counts (length (degrees cmp (t ∷ p))) (length p + 1)
    limit_more =
        limit_of_degrees (symbols_under r) (ranking_order r) more
        ∙ ap₂ (limit_by total_order) (ap (degrees cmp) (sym gathered_more) ∙ degrees_gathered (ranking_order r) (t ∷ p) (k.monomial, are_monomials (ranking_order r) p h.keepable.canonical)) length_more
        ∙ limit_known total_order (degrees cmp (t ∷ p)) (length p + 1) low.orders low.exponents

    -- where the sum of absolute values fits, the limit decides
    by_limit : (l : Option Limit) (q : Polynomial Symbol) → unless (refused l true) q ≡ concluded l (Some q)
    by_limit (Some l) q = refl
    by_limit None q = refl

    -- the term comes there
    missing_answer : operation (symbols_under r) (p ++ t ∷ []) ≡ inserted_at cmp i t p
    missing_answer =
        by_amounts
        ∙ ap₂ (λ l b. unless (refused l b) (add_term (monomial_cmp cmp) t.0 t.1 p)) limit_more (ap amounts_fit more_is ∙ fit_insert t i p k.in_range (amounts_in_range p h.keepable.in_range))
        ∙ ap (unless (refused (limit_of_counts (length (degrees cmp (t ∷ p))) (length p + 1)) true)) (add_missing cmp t.0 t.1 i p k.nonzero below above)
        ∙ by_limit (limit_of_counts (length (degrees cmp (t ∷ p))) (length p + 1)) (insert p i t)

    -- an answer that is a value is the value
    value_of : (l : Option Limit) (q a : Polynomial Symbol) → concluded l (Some q) ≡ Ok a → q ≡ a
    value_of (Some l) q a e = absurd cc
    value_of None q a e = cc

    -- its degrees are those with the term
    inserted_degrees : (a : Polynomial Symbol) (d : Monomial Symbol) → inserted_at cmp i t p ≡ Ok a → d ≡ degrees cmp (t ∷ p) → d ≡ degrees cmp a
    inserted_degrees a d e f = f ∙ degrees_inserted ∙ ap (degrees cmp) (value_of _ (insert p i t) a e)

-- an answer with its degrees may stand in a book
answer_entry : (r : RankingValue) (p : Polynomial Symbol) (table : Monomial Symbol) (sign : Sign) (q : Polynomial Symbol) (table' : Monomial Symbol) (a : Polynomial Symbol) (d : Monomial Symbol) → IsTabled r p table → IsTabled r q table'
    → operation (symbols_under r) (p ++ with_sign sign q) ≡ Ok a → d ≡ degrees (ranking_cmp r) a → IsTabled r a d
answer_entry r p table sign q table' a d h k e f = record { keepable = sum_keepable r p sign q h.keepable k.keepable a e; degrees_are = f }

module _ (r : RankingValue) (p : Polynomial Symbol) (table : Monomial Symbol) (sign : Sign) (q : Polynomial Symbol) (table' : Monomial Symbol) (t : Monomial Symbol × ℤ) (h : IsTabled r p table) (k : IsTabled r q table') (e : with_sign sign q ≡ t ∷ []) where
  -- a sum with one term whose monomial stands at a place
  pub sum_found : (i : ℕ) → IsAt t.0 i p → operation (symbols_under r) (p ++ with_sign sign q) ≡ added_at i t.1 p
  sum_found i a = ap (λ ts. operation (symbols_under r) (p ++ ts)) e ∙ found_answer r p table h t i a

  -- and with one whose monomial is missing there
  pub sum_missing : (i : ℕ) → i ≤ length p → IsBelow (monomial_cmp (ranking_cmp r)) t.0 (take i p) → IsAbove (monomial_cmp (ranking_cmp r)) t.0 (drop i p) → operation (symbols_under r) (p ++ with_sign sign q) ≡ inserted_at (ranking_cmp r) i t p
  sum_missing i inside below above = ap (λ ts. operation (symbols_under r) (p ++ ts)) e ∙ missing_answer r p table h t (term_of r sign q table' t k e) i inside below above

  -- what is answered where it is missing may stand in a book
  pub missing_entry : (i : ℕ) → i ≤ length p → IsBelow (monomial_cmp (ranking_cmp r)) t.0 (take i p) → IsAbove (monomial_cmp (ranking_cmp r)) t.0 (drop i p) → (a : Polynomial Symbol) (d : Monomial Symbol) → inserted_at (ranking_cmp r) i t p ≡ Ok a → d ≡ degrees (ranking_cmp r) (t ∷ p) → IsTabled r a d
  missing_entry i inside below above a d f g =
      answer_entry r p table sign q table' a d h k (sum_missing i inside below above ∙ f) (inserted_degrees r p table h t (term_of r sign q table' t k e) i inside below above a d f g)

  -- and so may what is answered where it stands
  pub found_entry : (i : ℕ) → IsAt t.0 i p → (a : Polynomial Symbol) (d : Monomial Symbol) → added_at i t.1 p ≡ Ok a → d ≡ degrees (ranking_cmp r) a → IsTabled r a d
  found_entry i at a d f g = answer_entry r p table sign q table' a d h k (sum_found i at ∙ f) g
