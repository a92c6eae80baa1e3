-- Products of polynomials that stand in a book.
use Rattle.std.proofs.Common.{◌≡◌, ◌≢◌, ◌<◌, ◌≤◌, ◌+◌, ◌*ℤ◌, ◌∙◌, ◌||◌, ℕ, zero, suc, Bool, true, false, cond, List, [], ◌∷◌, ◌++◌, length, take, get_or, nat_lt, ◌==◌, ℤ, unsigned_abs, refl, sym, ap, ap₂, subst, arith, add-one, max, ◌⊎◌, inl, inr}
use Rattle.std.specs.Prelude.{Option, Some, None, Ok}
use Rattle.std.proofs.lemmas.Bool.Decides.{nat_tests}
use Rattle.std.proofs.lemmas.List.Elements.{All-nil}
use Rattle.std.specs.declared.cmp.Ordering.{Ordering}
use Rattle.std.specs.declared.cmp.Ordering.TheVariants.{Less, Equal, Greater}
use Rattle.std.specs.Ordering.{match_ordering}
use Rattle.dz_algebra.specs.declared.Limit.{Limit}
use Rattle.dz_algebra.specs.declared.Limit.TheVariants as limits
use Rattle.dz_algebra.specs.Gather.{put, onto, merge}
use Rattle.dz_algebra.specs.Order.{IsOrder, IsAbove, IsFalling}
use Rattle.dz_algebra.specs.Monomial.{Monomial, IsMonomial, MonomialIn, with_power, monomial_product, monomial_cmp}
use Rattle.dz_algebra.specs.Polynomial.{Polynomial, Contributions, IsPolynomial, AreMonomials, PolynomialIn, term_times, pairs, collect}
use Rattle.dz_algebra.specs.Amount.{Amount, amount, amounts, add_amounts, gathered, greatest}
use Rattle.dz_algebra.specs.Symbols.{Symbols}
use Rattle.dz_algebra.specs.Size.{operation, refusal, refused, unless, fits}
use Rattle.dz_algebra.proofs.Canonical.{are_monomials}
use Rattle.dz_algebra.proofs.Gathers.{merge_puts, longer_onto, any_onto}
use Rattle.dz_algebra.proofs.MonomialOrder.{product_keeps_order}
use Rattle.dz_algebra.proofs.Operations.{monomial_order, onto-append, amounts-append, product_left_zero, product_right_zero}
use Rattle.dz_algebra.proofs.Products.{monomials_pairs}
use Rattle.dz_rank.specs.declared.symbols.Symbol.{Symbol}
use Rattle.dz_rank.specs.Rankings.{RankingValue, ranking_cmp}
use Rattle.dz_rank.specs.Symbols.{BelongsTo, total_order}
use Rattle.dz_monomials.specs.Keeping.{IsKeepable}
use Rattle.dz_monomials.specs.Stops.{refusal_of, IsStop}
use Rattle.dz_monomials.specs.Cells.{capped, caps}
use Rattle.dz_monomials.specs.Degrees.{degrees, has_high_order, has_high_exponent, limit_of_counts, limit_by}
use Rattle.dz_monomials.specs.Keeping.{IsTabled}
use Rattle.dz_monomials.specs.Ranked.{symbols_under}
use Rattle.dz_monomials.specs.Supports.{IsSupportOf}
use Rattle.dz_monomials.specs.Terms.{power_term}
use Rattle.dz_monomials.specs.declared.PolyStop.{PolyStop}
use Rattle.dz_monomials.specs.declared.PolyStop.TheVariants.{Memory, Large}
use Rattle.dz_monomials.proofs.Multiples.{high_multiple}
use Rattle.dz_monomials.proofs.Operations.{operation_keepable}
use Rattle.dz_monomials.proofs.Summing.{support_of, low_entry}
use Rattle.dz_monomials.proofs.SupportLaws.{limit_of_support, degrees_product, degrees_monomial}
use Rattle.dz_monomials.proofs.SymbolLaws.{ranking_order}

-- ---- one pass multiplies two monomials
module _ {S : Type 0} (cmp : S → S → Ordering) where
  put_is_power : (s : S) (e : ℕ) (m : Monomial S) → put cmp ◌+◌ s e m ≡ with_power cmp s e m
  put_is_power s e [] = refl
  put_is_power s e (p ∷ m) = ap (λ l. match_ordering (cmp s p.0) (p ∷ l) ((p.0, e + p.1) ∷ m) ((s, e) ∷ p ∷ m)) (put_is_power s e m)

  onto_is_product : (m n : Monomial S) → onto cmp ◌+◌ m n ≡ monomial_product cmp m n
  onto_is_product [] n = refl
  onto_is_product (p ∷ m) n = put_is_power p.0 p.1 (onto cmp ◌+◌ m n) ∙ ap (with_power cmp p.0 p.1) (onto_is_product m n)

  falling_powers : (m : Monomial S) → IsMonomial cmp m → IsFalling cmp m
  falling_powers [] h = tt
  falling_powers (p ∷ m) h = (h.1, falling_powers m h.2)

pub product_merges : {S : Type 0} {cmp : S → S → Ordering} → IsOrder cmp → (m n : Monomial S) → IsMonomial cmp m → IsMonomial cmp n → merge cmp ◌+◌ n m ≡ monomial_product cmp m n
product_merges {cmp = cmp} order m n h g = merge_puts order ◌+◌ n m (falling_powers cmp n g) (falling_powers cmp m h) ∙ onto_is_product cmp m n

-- ---- rows of products
pub monomial_at : {S : Type 0} (cmp : S → S → Ordering) (p : Polynomial S) (i : ℕ) (t : Monomial S × ℤ) → i < length p → t ≡ get_or p i t → IsPolynomial cmp p → IsMonomial cmp t.0
monomial_at cmp [] i t h e a = absurd (omega arith)
monomial_at cmp (u ∷ p) zero t h e a = subst (λ x. IsMonomial cmp x.0) (sym e) a.1
monomial_at cmp (u ∷ p) (suc i) t h e a = monomial_at cmp p i t (omega arith) e a.3

module _ {S : Type 0} {cmp : S → S → Ordering} (order : IsOrder cmp) where
  row_above : (k m : Monomial S) (c : ℤ) (q : Polynomial S) → IsMonomial cmp k → IsMonomial cmp m → IsPolynomial cmp q → IsAbove (monomial_cmp cmp) m q → IsAbove (monomial_cmp cmp) (monomial_product cmp k m) (amounts (term_times cmp k c q))
  row_above k m c [] i j h a = tt
  row_above k m c (t ∷ q) i j h a = (product_keeps_order order k m t.0 i j h.1 ∙ a.0, row_above k m c q i j h.3 a.1)

  -- a row of products falls
  pub row_falls : (k : Monomial S) (c : ℤ) (q : Polynomial S) → IsMonomial cmp k → IsPolynomial cmp q → IsFalling (monomial_cmp cmp) (amounts (term_times cmp k c q))
  row_falls k c [] i h = tt
  row_falls k c (t ∷ q) i h = (row_above k t.0 c q i h.1 h.3 h.2, row_falls k c q i h.3)

  high_first : (m n : Monomial S) → has_high_exponent (onto cmp max m n) ≡ false → has_high_exponent m ≡ false
  high_first m n e = by_test (has_high_exponent m) refl
    where
      by_test : (b : Bool) → has_high_exponent m ≡ b → has_high_exponent m ≡ false
      by_test true f = let z = sym (ap (λ b. b || has_high_exponent n) f) ∙ sym (high_multiple order m n) ∙ e in cc
      by_test false f = f

  high_rest : (m n : Monomial S) → has_high_exponent (onto cmp max m n) ≡ false → has_high_exponent n ≡ false
  high_rest m n e = sym (ap (λ b. b || has_high_exponent n) (high_first m n e)) ∙ sym (high_multiple order m n) ∙ e

  -- each monomial of a polynomial with low degrees is low
  pub low_at : (p : Polynomial S) (i : ℕ) (t : Monomial S × ℤ) → i < length p → t ≡ get_or p i t → has_high_exponent (degrees cmp p) ≡ false → has_high_exponent t.0 ≡ false
  low_at [] i t h e a = absurd (omega arith)
  low_at (u ∷ p) zero t h e a = ap (λ x. has_high_exponent x.0) e ∙ high_first u.0 (degrees cmp p) a
  low_at (u ∷ p) (suc i) t h e a = low_at p i t (omega arith) e (high_rest u.0 (degrees cmp p) a)

  -- a product that is too high makes its row too high
  pub high_row : (k : Monomial S) (c : ℤ) (q : Polynomial S) (i : ℕ) (u : Monomial S × ℤ) → i < length q → u ≡ get_or q i u → has_high_exponent (monomial_product cmp k u.0) ≡ true → has_high_exponent (degrees cmp (term_times cmp k c q)) ≡ true
  high_row k c [] i u h e a = absurd (omega arith)
  high_row k c (t ∷ q) zero u h e a =
      high_multiple order (monomial_product cmp k t.0) (degrees cmp (term_times cmp k c q))
      ∙ ap (λ b. b || has_high_exponent (degrees cmp (term_times cmp k c q))) (ap (λ x. has_high_exponent (monomial_product cmp k x.0)) (sym e) ∙ a)
  high_row k c (t ∷ q) (suc i) u h e a =
      high_multiple order (monomial_product cmp k t.0) (degrees cmp (term_times cmp k c q))
      ∙ ap (λ b. has_high_exponent (monomial_product cmp k t.0) || b) (high_row k c q i u (omega arith) e a)
      ∙ last (has_high_exponent (monomial_product cmp k t.0))
    where
      last : (b : Bool) → (b || true) ≡ true
      last true = refl
      last false = refl

  -- the exponents of two lists of contributions
  pub high-append : (ts us : Contributions S) → has_high_exponent (degrees cmp (ts ++ us)) ≡ (has_high_exponent (degrees cmp ts) || has_high_exponent (degrees cmp us))
  high-append [] us = refl
  high-append (t ∷ ts) us =
      high_multiple order t.0 (degrees cmp (ts ++ us))
      ∙ ap (λ b. has_high_exponent t.0 || b) (high-append ts us)
      ∙ grouped (has_high_exponent t.0) (has_high_exponent (degrees cmp ts)) (has_high_exponent (degrees cmp us))
      ∙ ap (λ b. b || has_high_exponent (degrees cmp us)) (sym (high_multiple order t.0 (degrees cmp ts)))
    where
      grouped : (a b c : Bool) → (a || (b || c)) ≡ ((a || b) || c)
      grouped true b c = refl
      grouped false b c = refl

  -- further contributions take no monomial away
  pub longer_gathered : (ts us : Contributions S) → length (gathered cmp us) ≤ length (gathered cmp (ts ++ us))
  longer_gathered ts us =
      subst (λ l. length (gathered cmp us) ≤ length l) (sym (ap (λ l. onto (monomial_cmp cmp) add_amounts l []) (amounts-append order ts us) ∙ onto-append order (amounts ts) (amounts us) []))
      (longer_onto (monomial_order order) add_amounts (amounts ts) (gathered cmp us))

-- a row with one more product
pub row_more : {S : Type 0} (cmp : S → S → Ordering) (k : Monomial S) (c : ℤ) (i : ℕ) (q : Polynomial S) (u : Monomial S × ℤ) → i < length q → u ≡ get_or q i u → caps (amounts (term_times cmp k c (take i q))) ++ (monomial_product cmp k u.0, capped (amount (c *ℤ u.1))) ∷ [] ≡ caps (amounts (term_times cmp k c (take (i + 1) q)))
row_more {S} cmp k c i q u h e = rw add-one (at i q h e)
  where
    at : (i : ℕ) (q : Polynomial S) → i < length q → u ≡ get_or q i u → caps (amounts (term_times cmp k c (take i q))) ++ (monomial_product cmp k u.0, capped (amount (c *ℤ u.1))) ∷ [] ≡ caps (amounts (term_times cmp k c (take (suc i) q)))
    at i [] h e = absurd (omega arith)
    at zero (t ∷ q) h e = ap (λ x. (monomial_product cmp k x.0, capped (amount (c *ℤ x.1))) ∷ []) e
    at (suc i) (t ∷ q) h e = ap (λ l. (monomial_product cmp k t.0, capped (amount (c *ℤ t.1))) ∷ l) (at i q (omega arith) e)

-- a row that is refused has a high exponent
pub row_refused : {S : Type 0} {cmp : S → S → Ordering} → IsOrder cmp → (k : Monomial S) (c : ℤ) (q : Polynomial S) (i : ℕ) (u : Monomial S × ℤ) → i < length q → u ≡ get_or q i u → IsMonomial cmp k → IsPolynomial cmp q → (stop : PolyStop) → (stop ≡ Memory) ⊎ ((stop ≡ Large limits.Exponent) × (has_high_exponent (merge cmp ◌+◌ u.0 k) ≡ true)) → (stop ≡ Memory) ⊎ ((stop ≡ Large limits.Exponent) × (has_high_exponent (degrees cmp (term_times cmp k c q)) ≡ true))
row_refused order k c q i u h g a b stop (inl e) = inl e
row_refused {cmp = cmp} order k c q i u h g a b stop (inr e) = inr (e.0, high_row order k c q i u h g (ap has_high_exponent (sym (product_merges order k u.0 a (monomial_at cmp q i u h g b))) ∙ e.1))

-- ---- what a product answers
-- an operation whose support passes a limit is refused by it
pub refused_by_limit : {S : Type 0} (g : Symbols S) → IsOrder g.cmp → (ts : Contributions S) → AreMonomials g.cmp ts → (l : Limit) → limit_by g.total_order (degrees g.cmp ts) (length (gathered g.cmp ts)) ≡ Some l → refusal_of (operation g ts) ≡ Some (Large l)
unfolding operation refusal
refused_by_limit g order ts h l e = ap (λ o. refusal_of (unless (refused o (fits g.cmp ts)) (collect (monomial_cmp g.cmp) ts))) (limit_of_support g order ts h ∙ e)

-- the product of two polynomials in a book, by the product of their degrees
pub record IsProductOf (r : RankingValue) (p q : Polynomial Symbol) (table : Monomial Symbol) : Type 0 where
  pub monomials : AreMonomials (ranking_cmp r) (pairs (ranking_cmp r) p q)
  pub degrees_are : table ≡ degrees (ranking_cmp r) (pairs (ranking_cmp r) p q)
  pub orders : has_high_order total_order table ≡ false

pub product_of : (r : RankingValue) (p : Polynomial Symbol) (a : Monomial Symbol) (q : Polynomial Symbol) (b : Monomial Symbol) (table : Monomial Symbol) → IsTabled r p a → IsTabled r q b → p ≢ [] → q ≢ [] → table ≡ merge (ranking_cmp r) ◌+◌ b a → IsProductOf r p q table
product_of r p a q b table h g n m e =
    let order = ranking_order r in
    let cmp = ranking_cmp r in
    let i = are_monomials order p h.keepable.canonical in
    let j = are_monomials order q g.keepable.canonical in
    let k : table ≡ onto cmp ◌+◌ (degrees cmp p) (degrees cmp q) = e ∙ ap₂ (merge cmp ◌+◌) g.degrees_are h.degrees_are ∙ merge_puts order ◌+◌ (degrees cmp q) (degrees cmp p) (falling_powers cmp (degrees cmp q) (degrees_monomial order q j)) (falling_powers cmp (degrees cmp p) (degrees_monomial order p i)) in
    record {
      monomials = monomials_pairs order p q i j;
      degrees_are = k ∙ onto_is_product cmp (degrees cmp p) (degrees cmp q) ∙ degrees_product order p q n m i j;
      orders = ap (has_high_order total_order) k ∙ any_onto order ◌+◌ (λ s. nat_lt 60 (total_order s)) (degrees cmp p) (degrees cmp q) ∙ ap₂ (λ x y. x || y) (low_entry r p h.keepable).orders (low_entry r q g.keepable).orders;
    }

-- the table of an entry has no high exponent
pub low_table : (r : RankingValue) (p : Polynomial Symbol) (a : Monomial Symbol) → IsTabled r p a → has_high_exponent a ≡ false
low_table r p a h = ap has_high_exponent h.degrees_are ∙ (low_entry r p h.keepable).exponents

module _ (r : RankingValue) (p q : Polynomial Symbol) (table : Monomial Symbol) (h : IsProductOf r p q table) where
  abbrev ts : Contributions Symbol
  ts = pairs (ranking_cmp r) p q

  by_limit : (l : Limit) → limit_by total_order table (length (gathered (ranking_cmp r) ts)) ≡ Some l → refusal_of (operation (symbols_under r) ts) ≡ Some (Large l)
  by_limit l e = refused_by_limit (symbols_under r) (ranking_order r) ts h.monomials l (ap (λ m. limit_by total_order m (length (gathered (ranking_cmp r) ts))) (sym h.degrees_are) ∙ e)

  pub too_high : has_high_exponent table ≡ true → refusal_of (operation (symbols_under r) ts) ≡ Some (Large limits.Exponent)
  too_high e = by_limit limits.Exponent (ap₂ (λ a b. cond a (Some limits.Order) (cond b (Some limits.Exponent) (limit_of_counts (length table) (length (gathered (ranking_cmp r) ts))))) h.orders e)

  counted : (l : Limit) → has_high_exponent table ≡ false → limit_of_counts (length table) (length (gathered (ranking_cmp r) ts)) ≡ Some l → refusal_of (operation (symbols_under r) ts) ≡ Some (Large l)
  counted l e f = by_limit l (ap₂ (λ a b. cond a (Some limits.Order) (cond b (Some limits.Exponent) (limit_of_counts (length table) (length (gathered (ranking_cmp r) ts))))) h.orders e ∙ f)

  pub too_many_symbols : has_high_exponent table ≡ false → 64 < length table → refusal_of (operation (symbols_under r) ts) ≡ Some (Large limits.Symbols)
  too_many_symbols e l = counted limits.Symbols e (let f : nat_lt 64 (length table) ≡ true = grind (arith, nat_tests) in ap (λ b. cond b (Some limits.Symbols) (cond (nat_lt 4096 (length (gathered (ranking_cmp r) ts))) (Some limits.Terms) None)) f)

  pub too_many_terms : has_high_exponent table ≡ false → length table ≤ 64 → 4096 < length (gathered (ranking_cmp r) ts) → refusal_of (operation (symbols_under r) ts) ≡ Some (Large limits.Terms)
  too_many_terms e l n =
      let f : nat_lt 64 (length table) ≡ false = grind (arith, nat_tests) in
      let k : nat_lt 4096 (length (gathered (ranking_cmp r) ts)) ≡ true = grind (arith, nat_tests) in
      counted limits.Terms e (ap₂ (λ a b. cond a (Some limits.Symbols) (cond b (Some limits.Terms) None)) f k)

  -- the refusals of a product's degrees and cells
  pub degrees_refused : (stop : PolyStop) → (stop ≡ Memory) ⊎ ((stop ≡ Large limits.Exponent) × (has_high_exponent table ≡ true)) → IsStop stop (operation (symbols_under r) ts)
  degrees_refused stop (inl e) = inl e
  degrees_refused stop (inr e) = inr (too_high e.1 ∙ ap Some (sym e.0))

  pub cells_refused : has_high_exponent table ≡ false → length table ≤ 64 → (stop : PolyStop) → (stop ≡ Memory) ⊎ ((stop ≡ Large limits.Terms) × (4096 < length (gathered (ranking_cmp r) ts))) → IsStop stop (operation (symbols_under r) ts)
  cells_refused f l stop (inl e) = inl e
  cells_refused f l stop (inr e) = inr (too_many_terms f l e.1 ∙ ap Some (sym e.0))

  -- the support of a product
  pub product_support : (cells : List (Monomial Symbol × Option Amount)) → has_high_exponent table ≡ false → cells ≡ caps (gathered (ranking_cmp r) ts) → IsSupportOf r ts table cells
  product_support cells e f = support_of r ts table cells h.monomials h.degrees_are f h.orders e

-- ---- the answer of a product may stand in the book
module _ {S : Type 0} (P : S → Type 0) (cmp : S → S → Ordering) where
  with_power_in : (s : S) (e : ℕ) (m : Monomial S) → P s → MonomialIn P m → MonomialIn P (with_power cmp s e m)
  with_power_in s e [] h g = (h, tt)
  with_power_in s e (p ∷ m) h g =
      elim (cmp s p.0) as (λ o. MonomialIn P (match_ordering o (p ∷ with_power cmp s e m) ((p.0, e + p.1) ∷ m) ((s, e) ∷ p ∷ m))) [
        | Less ↦ (g.0, with_power_in s e m h g.1)
        | Equal ↦ g
        | Greater ↦ (h, g)
      ]

  product_in : (m n : Monomial S) → MonomialIn P m → MonomialIn P n → MonomialIn P (monomial_product cmp m n)
  product_in [] n h g = g
  product_in (p ∷ m) n h g = with_power_in p.0 p.1 (monomial_product cmp m n) h.0 (product_in m n h.1 g)

  times_in : (m : Monomial S) (c : ℤ) (q : Polynomial S) → MonomialIn P m → PolynomialIn P q → PolynomialIn P (term_times cmp m c q)
  times_in m c [] h g = tt
  times_in m c (t ∷ q) h g = (product_in m t.0 h g.0, times_in m c q h g.1)

  in-append : (ts us : Contributions S) → PolynomialIn P ts → PolynomialIn P us → PolynomialIn P (ts ++ us)
  in-append [] us h g = g
  in-append (t ∷ ts) us h g = (h.0, in-append ts us h.1 g)

  pairs_in : (p q : Polynomial S) → PolynomialIn P p → PolynomialIn P q → PolynomialIn P (pairs cmp p q)
  pairs_in [] q h g = tt
  pairs_in (t ∷ p) q h g = in-append (term_times cmp t.0 t.1 q) (pairs cmp p q) (times_in t.0 t.1 q h.0 g) (pairs_in p q h.1 g)

pub product_keepable : (r : RankingValue) (p q : Polynomial Symbol) → IsKeepable r p → IsKeepable r q → (a : Polynomial Symbol) → operation (symbols_under r) (pairs (ranking_cmp r) p q) ≡ Ok a → IsKeepable r a
product_keepable r p q h g a e =
    let order = ranking_order r in
    operation_keepable r (pairs (ranking_cmp r) p q) (monomials_pairs order p q (are_monomials order p h.canonical) (are_monomials order q g.canonical)) (pairs_in (BelongsTo r.signature) (ranking_cmp r) p q h.belongs g.belongs) a e

-- ---- zero
nothing : {X : Type 0} (xs : List X) → length xs ≡ 0 → xs ≡ []
nothing [] e = refl
nothing (x ∷ xs) e = absurd (omega arith)

pub not_zero : {X : Type 0} (xs : List X) → length xs ≢ 0 → xs ≢ []
not_zero xs n e = n (ap length e)

-- a product with zero is zero, and never refused
pub left_zero : (r : RankingValue) (p q z : Polynomial Symbol) → length p ≡ 0 → z ≡ [] → operation (symbols_under r) (pairs (ranking_cmp r) p q) ≡ Ok z
left_zero r p q z h e = ap (λ l. operation (symbols_under r) (pairs (ranking_cmp r) l q)) (nothing p h) ∙ product_left_zero (symbols_under r) q ∙ ap Ok (sym e)

pub right_zero : (r : RankingValue) (p q z : Polynomial Symbol) → length q ≡ 0 → z ≡ [] → operation (symbols_under r) (pairs (ranking_cmp r) p q) ≡ Ok z
right_zero r p q z h e = ap (λ l. operation (symbols_under r) (pairs (ranking_cmp r) p l)) (nothing q h) ∙ product_right_zero (symbols_under r) p ∙ ap Ok (sym e)

-- zero may stand in a book
pub zero_entry : (r : RankingValue) (z : Polynomial Symbol) (table : Monomial Symbol) → z ≡ [] → table ≡ [] → IsTabled r z table
zero_entry r z table e f = subst (λ z. IsTabled r z table) (sym e) (record { keepable = record { canonical = tt; belongs = tt; small = refl; in_range = All-nil (λ t. unsigned_abs t.1 ≤ greatest) }; degrees_are = f })

pub times_zero : (r : RankingValue) (p q : Polynomial Symbol) → length q ≡ 0 → operation (symbols_under r) (pairs (ranking_cmp r) p q) ≡ Ok []
times_zero r p q h = right_zero r p q [] h refl

-- a power of a derivative that is too high makes every product but zero too high
pub order_refused : (r : RankingValue) (c : ℤ) (s : Symbol) (k : ℕ) (q : Polynomial Symbol) → IsKeepable r q → q ≢ [] → (stop : PolyStop) → (stop ≡ Memory) ⊎ ((stop ≡ Large limits.Order) × (0 < k) × (60 < total_order s)) → IsStop stop (operation (symbols_under r) (pairs (ranking_cmp r) (power_term c s k) q))
order_refused r c s k q h n stop (inl e) = inl e
order_refused r c s zero q h n stop (inr e) = absurd (omega (arith, e.1))
order_refused r c s (suc k) q h n stop (inr e) = inr (refused_by_limit (symbols_under r) order (pairs cmp p q) (monomials_pairs order p q i j) limits.Order high ∙ ap Some (sym e.0))
  where
    order : IsOrder (ranking_cmp r)
    order = ranking_order r

    cmp : Symbol → Symbol → Ordering
    cmp = ranking_cmp r

    p : Polynomial Symbol
    p = power_term c s (suc k)

    i : AreMonomials (ranking_cmp r) (power_term c s (suc k))
    i = ((omega arith, tt, tt), tt)

    j : AreMonomials (ranking_cmp r) q
    j = are_monomials (ranking_order r) q h.canonical

    first : nat_lt 60 (total_order s) ≡ true
    first = let l : 60 < total_order s = e.2 in grind (arith, nat_tests)

    some : has_high_order total_order (degrees (ranking_cmp r) (pairs (ranking_cmp r) (power_term c s (suc k)) q)) ≡ true
    some =
        ap (has_high_order total_order) (sym (onto_is_product (ranking_cmp r) ((s, suc k) ∷ []) (degrees (ranking_cmp r) q) ∙ degrees_product (ranking_order r) (power_term c s (suc k)) q (λ e. cc) n i j))
        ∙ any_onto (ranking_order r) ◌+◌ (λ s. nat_lt 60 (total_order s)) ((s, suc k) ∷ []) (degrees (ranking_cmp r) q)
        ∙ ap (λ b. (b || false) || has_high_order total_order (degrees (ranking_cmp r) q)) first

    high : limit_by total_order (degrees (ranking_cmp r) (pairs (ranking_cmp r) (power_term c s (suc k)) q)) (length (gathered (ranking_cmp r) (pairs (ranking_cmp r) (power_term c s (suc k)) q))) ≡ Some limits.Order
    high = ap (λ b. cond b (Some limits.Order) (cond (has_high_exponent (degrees (ranking_cmp r) (pairs (ranking_cmp r) (power_term c s (suc k)) q))) (Some limits.Exponent) (limit_of_counts (length (degrees (ranking_cmp r) (pairs (ranking_cmp r) (power_term c s (suc k)) q))) (length (gathered (ranking_cmp r) (pairs (ranking_cmp r) (power_term c s (suc k)) q)))))) some

pub not_empty : {X : Type 0} (xs : List X) → false ≡ (length xs == 0) → xs ≢ []
not_empty xs e f = let z : false ≡ true = e ∙ ap (λ l. length l == 0) f in cc
