-- Rows over one falling list of symbols: their order, their sums, and rows that are spread.
use Rattle.std.proofs.Common.{◌≡◌, ◌+◌, ◌<◌, ◌∙◌, ℕ, zero, suc, Bool, true, false, List, [], ◌∷◌, length, refl, sym, ap, ap₂, arith}
use Rattle.std.specs.declared.cmp.Ordering.{Ordering}
use Rattle.std.specs.declared.cmp.Ordering.TheVariants.{Less, Equal, Greater}
use Rattle.std.specs.Ordering.{nat_cmp, match_ordering, ordering_then, then_cmp, on}
use Rattle.std.specs.Cmp.{tied_itself}
use Rattle.std.specs.Cmp.Lexicographic.{slice_cmp}
use Rattle.std.specs.Simd.Lanes.{zip2}
use Rattle.dz_algebra.specs.Order.{IsOrder, IsAbove}
use Rattle.dz_algebra.specs.Gather.{merge}
use Rattle.dz_algebra.specs.Monomial.{Monomial, IsMonomial, monomial_cmp, monomial_product}
use Rattle.dz_algebra.proofs.Orders.{less_reversed}
use Rattle.dz_monomials.proofs.Multiplying.{product_merges}
use Rattle.dz_monomials.proofs.Merging.{merge_nothing}
use Rattle.dz_cells.specs.Rows.{IsOver, Falls, over, HaveWidth, keyed, marked, spread}

-- an exponent that is not zero stands in the monomial
over_positive : {S : Type 0} (s : S) (ss : List S) (e : ℕ) (es : List ℕ) → 0 < e → over (s ∷ ss) (e ∷ es) ≡ (s, e) ∷ over ss es
over_positive s ss zero es h = absurd (omega (arith, h))
over_positive s ss (suc e) es h = refl

-- zero is less than the others
zero_less : (f : ℕ) → nat_cmp 0 (suc f) ≡ Less
zero_less f = grind arith

less_zero : (e : ℕ) → nat_cmp (suc e) 0 ≡ Greater
less_zero e = grind arith

-- two lists of symbols and exponents, by the first place at which they differ
abbrev by_powers : {S : Type 0} → (S → S → Ordering) → S × ℕ → S × ℕ → Ordering
by_powers cmp = then_cmp (on (λ p. p.0) cmp) (on (λ p. p.1) nat_cmp)

module _ {S : Type 0} {cmp : S → S → Ordering} (order : IsOrder cmp) where
  -- the monomial of a row over lesser symbols is below
  pub over_below : (s : S) (ss : List S) (es : List ℕ) → IsOver cmp s ss → IsAbove cmp s (over ss es)
  over_below s [] es h = tt
  over_below s (t ∷ ss) [] h = tt
  over_below s (t ∷ ss) (zero ∷ es) h = over_below s ss es h.1
  over_below s (t ∷ ss) (suc e ∷ es) h = (h.0, over_below s ss es h.1)

  -- a row makes a monomial
  pub over_is : (ss : List S) (es : List ℕ) → Falls cmp ss → IsMonomial cmp (over ss es)
  over_is [] es h = tt
  over_is (s ∷ ss) [] h = tt
  over_is (s ∷ ss) (zero ∷ es) h = over_is ss es h.1
  over_is (s ∷ ss) (suc e ∷ es) h = (omega arith, over_below s ss es h.0, over_is ss es h.1)

  -- a power of a greater symbol comes first
  first_greater : (s : S) (e : ℕ) (m n : Monomial S) → IsAbove cmp s n → slice_cmp (by_powers cmp) ((s, e) ∷ m) n ≡ Greater
  first_greater s e m [] h = refl
  first_greater s e m (p ∷ n) h = ap (λ o. ordering_then (ordering_then o (nat_cmp e p.1)) (slice_cmp (by_powers cmp) m n)) h.0

  first_less : (s : S) (e : ℕ) (m n : Monomial S) → IsAbove cmp s n → slice_cmp (by_powers cmp) n ((s, e) ∷ m) ≡ Less
  first_less s e m [] h = refl
  first_less s e m (p ∷ n) h = ap (λ o. ordering_then (ordering_then o (nat_cmp p.1 e)) (slice_cmp (by_powers cmp) n m)) (less_reversed order.total s p.0 h.0)

  -- the order of monomials is that of their rows
  pub over_cmp : (ss : List S) (es fs : List ℕ) → Falls cmp ss → length es ≡ length ss → length fs ≡ length ss → monomial_cmp cmp (over ss es) (over ss fs) ≡ slice_cmp nat_cmp es fs
  over_cmp [] [] [] h n m = refl
  over_cmp [] (e ∷ es) fs h n m = absurd (omega (arith, n))
  over_cmp [] [] (f ∷ fs) h n m = absurd (omega (arith, m))
  over_cmp (s ∷ ss) [] fs h n m = absurd (omega (arith, n))
  over_cmp (s ∷ ss) (e ∷ es) [] h n m = absurd (omega (arith, m))
  over_cmp (s ∷ ss) (zero ∷ es) (zero ∷ fs) h n m = over_cmp ss es fs h.1 (omega (arith, n)) (omega (arith, m))
  over_cmp (s ∷ ss) (suc e ∷ es) (zero ∷ fs) h n m = first_greater s (suc e) (over ss es) (over ss fs) (over_below s ss fs h.0) ∙ ap (λ o. ordering_then o (slice_cmp nat_cmp es fs)) (sym (less_zero e))
  over_cmp (s ∷ ss) (zero ∷ es) (suc f ∷ fs) h n m = first_less s (suc f) (over ss fs) (over ss es) (over_below s ss es h.0) ∙ ap (λ o. ordering_then o (slice_cmp nat_cmp es fs)) (sym (zero_less f))
  over_cmp (s ∷ ss) (suc e ∷ es) (suc f ∷ fs) h n m =
      ap (λ o. ordering_then (ordering_then o (nat_cmp (suc e) (suc f))) (monomial_cmp cmp (over ss es) (over ss fs))) (tied_itself order.total s)
      ∙ ap (ordering_then (nat_cmp (suc e) (suc f))) (over_cmp ss es fs h.1 (omega (arith, n)) (omega (arith, m)))

  -- one pass takes the greater power first
  merge_first : (s : S) (e : ℕ) (m n : Monomial S) → IsAbove cmp s n → merge cmp ◌+◌ ((s, e) ∷ m) n ≡ (s, e) ∷ merge cmp ◌+◌ m n
  merge_first s e m [] h = ap (λ l. (s, e) ∷ l) (sym (merge_nothing cmp ◌+◌ m))
  merge_first s e m (p ∷ n) h = ap (λ o. match_ordering o ((s, e) ∷ merge cmp ◌+◌ m (p ∷ n)) ((s, p.1 + e) ∷ merge cmp ◌+◌ m n) (p ∷ merge cmp ◌+◌ ((s, e) ∷ m) n)) (less_reversed order.total s p.0 h.0)

  merge_second : (s : S) (e : ℕ) (m n : Monomial S) → IsAbove cmp s m → merge cmp ◌+◌ m ((s, e) ∷ n) ≡ (s, e) ∷ merge cmp ◌+◌ m n
  merge_second s e [] n h = refl
  merge_second s e (p ∷ m) n h = ap (λ o. match_ordering o (p ∷ merge cmp ◌+◌ m ((s, e) ∷ n)) ((p.0, e + p.1) ∷ merge cmp ◌+◌ m n) ((s, e) ∷ merge cmp ◌+◌ (p ∷ m) n)) h.0

  over_merge : (ss : List S) (es fs : List ℕ) → Falls cmp ss → length es ≡ length ss → length fs ≡ length ss → merge cmp ◌+◌ (over ss fs) (over ss es) ≡ over ss (zip2 (λ x y. x + y) es fs)
  over_merge [] es fs h n m = refl
  over_merge (s ∷ ss) [] fs h n m = absurd (omega (arith, n))
  over_merge (s ∷ ss) (e ∷ es) [] h n m = absurd (omega (arith, m))
  over_merge (s ∷ ss) (zero ∷ es) (zero ∷ fs) h n m = over_merge ss es fs h.1 (omega (arith, n)) (omega (arith, m))
  over_merge (s ∷ ss) (suc e ∷ es) (zero ∷ fs) h n m =
      merge_second s (suc e) (over ss fs) (over ss es) (over_below s ss fs h.0)
      ∙ ap₂ (λ k l. (s, k) ∷ l) (let k : suc e ≡ suc e + 0 = omega arith in k) (over_merge ss es fs h.1 (omega (arith, n)) (omega (arith, m)))
      ∙ sym (over_positive s ss (suc e + 0) (zip2 (λ x y. x + y) es fs) (omega arith))
  over_merge (s ∷ ss) (zero ∷ es) (suc f ∷ fs) h n m =
      merge_first s (suc f) (over ss fs) (over ss es) (over_below s ss es h.0)
      ∙ ap₂ (λ k l. (s, k) ∷ l) (let k : suc f ≡ 0 + suc f = omega arith in k) (over_merge ss es fs h.1 (omega (arith, n)) (omega (arith, m)))
      ∙ sym (over_positive s ss (0 + suc f) (zip2 (λ x y. x + y) es fs) (omega arith))
  over_merge (s ∷ ss) (suc e ∷ es) (suc f ∷ fs) h n m =
      ap (λ o. match_ordering o ((s, suc f) ∷ merge cmp ◌+◌ (over ss fs) ((s, suc e) ∷ over ss es)) ((s, suc e + suc f) ∷ merge cmp ◌+◌ (over ss fs) (over ss es)) ((s, suc e) ∷ merge cmp ◌+◌ ((s, suc f) ∷ over ss fs) (over ss es))) (tied_itself order.total s)
      ∙ ap (λ l. (s, suc e + suc f) ∷ l) (over_merge ss es fs h.1 (omega (arith, n)) (omega (arith, m)))
      ∙ sym (over_positive s ss (suc e + suc f) (zip2 (λ x y. x + y) es fs) (omega arith))

  -- the product of monomials is the sum of their rows
  pub over_product : (ss : List S) (es fs : List ℕ) → Falls cmp ss → length es ≡ length ss → length fs ≡ length ss → monomial_product cmp (over ss es) (over ss fs) ≡ over ss (zip2 (λ x y. x + y) es fs)
  over_product ss es fs h n m = sym (product_merges order (over ss es) (over ss fs) (over_is ss es h) (over_is ss fs h)) ∙ over_merge ss es fs h n m

-- a spread row stands for the same monomial
pub over_spread : {S : Type 0} (bs : List Bool) (ss : List S) (es : List ℕ) → length bs ≡ length ss → over ss (spread bs es) ≡ over (marked bs ss) es
over_spread [] ss es n = nothing ss es n
  where
    nothing : {S : Type 0} (ss : List S) (es : List ℕ) → 0 ≡ length ss → over ss [] ≡ []
    nothing [] es n = refl
    nothing (s ∷ ss) es n = refl
over_spread (b ∷ bs) [] es n = absurd (omega (arith, n))
over_spread (true ∷ bs) (s ∷ ss) [] n = over_spread bs ss [] (omega (arith, n)) ∙ nothing (marked bs ss)
  where
    nothing : {S : Type 0} (ts : List S) → over ts [] ≡ []
    nothing [] = refl
    nothing (t ∷ ts) = refl
over_spread (true ∷ bs) (s ∷ ss) (zero ∷ es) n = over_spread bs ss es (omega (arith, n))
over_spread (true ∷ bs) (s ∷ ss) (suc e ∷ es) n = ap (λ l. (s, suc e) ∷ l) (over_spread bs ss es (omega (arith, n)))
over_spread (false ∷ bs) (s ∷ ss) es n = over_spread bs ss es (omega (arith, n))

pub length-spread : (bs : List Bool) (es : List ℕ) → length (spread bs es) ≡ length bs
length-spread [] es = refl
length-spread (true ∷ bs) [] = ap suc (length-spread bs [])
length-spread (true ∷ bs) (e ∷ es) = ap suc (length-spread bs es)
length-spread (false ∷ bs) es = ap suc (length-spread bs es)

-- one pass over rows is one pass over their monomials
module _ {S V : Type 0} {cmp : S → S → Ordering} (order : IsOrder cmp) (add : V → V → V) (ss : List S) (falls : Falls cmp ss) where
  abbrev step : Ordering → List ℕ × V → List (List ℕ × V) → List ℕ × V → List (List ℕ × V) → List (List ℕ × V)
  step o t ts r rs = match_ordering o (t ∷ merge (slice_cmp nat_cmp) add ts (r ∷ rs)) ((t.0, add r.1 t.1) ∷ merge (slice_cmp nat_cmp) add ts rs) (r ∷ merge (slice_cmp nat_cmp) add (t ∷ ts) rs)

  abbrev key : List ℕ × V → Monomial S × V
  key r = (over ss r.0, r.1)

  abbrev keyed_step : Ordering → List ℕ × V → List (List ℕ × V) → List ℕ × V → List (List ℕ × V) → List (Monomial S × V)
  keyed_step o t ts r rs = match_ordering o (key t ∷ merge (monomial_cmp cmp) add (keyed ss ts) (key r ∷ keyed ss rs)) ((over ss t.0, add r.1 t.1) ∷ merge (monomial_cmp cmp) add (keyed ss ts) (keyed ss rs)) (key r ∷ merge (monomial_cmp cmp) add (key t ∷ keyed ss ts) (keyed ss rs))

  pub keyed-merge : (ts rs : List (List ℕ × V)) → HaveWidth (length ss) ts → HaveWidth (length ss) rs → keyed ss (merge (slice_cmp nat_cmp) add ts rs) ≡ merge (monomial_cmp cmp) add (keyed ss ts) (keyed ss rs)
  keyed-merge [] rs h g = refl
  keyed-merge (t ∷ ts) [] h g = refl
  keyed-merge (t ∷ ts) (r ∷ rs) h g =
      by_order (slice_cmp nat_cmp r.0 t.0) (keyed-merge ts (r ∷ rs) h.1 g) (keyed-merge ts rs h.1 g.1) (keyed-merge (t ∷ ts) rs h g.1)
      ∙ ap (λ o. keyed_step o t ts r rs) (sym (over_cmp order ss r.0 t.0 falls g.0 h.0))
    where
      by_order : (o : Ordering) → keyed ss (merge (slice_cmp nat_cmp) add ts (r ∷ rs)) ≡ merge (monomial_cmp cmp) add (keyed ss ts) (keyed ss (r ∷ rs)) → keyed ss (merge (slice_cmp nat_cmp) add ts rs) ≡ merge (monomial_cmp cmp) add (keyed ss ts) (keyed ss rs) → keyed ss (merge (slice_cmp nat_cmp) add (t ∷ ts) rs) ≡ merge (monomial_cmp cmp) add (keyed ss (t ∷ ts)) (keyed ss rs) → keyed ss (step o t ts r rs) ≡ keyed_step o t ts r rs
      by_order Less e f k = ap (λ l. key t ∷ l) e
      by_order Equal e f k = ap (λ l. (over ss t.0, add r.1 t.1) ∷ l) f
      by_order Greater e f k = ap (λ l. key r ∷ l) k
