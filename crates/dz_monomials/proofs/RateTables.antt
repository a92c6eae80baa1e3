-- The rates of the symbols of a polynomial, and what its rows answer.
use Rattle.std.specs.Prelude.{⊤, Ok}
use Rattle.std.proofs.Common.{◌≡◌, ◌<◌, ◌≤◌, ◌+◌, ◌⊎◌, inl, inr, ◌∙◌, ◌||◌, ◌==◌, ℕ, zero, suc, Bool, true, false, cond, nat_lt, List, [], ◌∷◌, ◌++◌, length, take, set, get_or, ℤ, pos, ◌*ℤ◌, Option, Some, refl, sym, ap, ap₂, subst, arith, add-one, max}
use Rattle.std.proofs.lemmas.Bool.Decides.{nat_tests}
use Rattle.std.specs.List.{list_any}
use Rattle.std.specs.Cmp.{tied_itself}
use Rattle.std.specs.declared.cmp.Ordering.{Ordering}
use Rattle.std.specs.declared.cmp.Ordering.TheVariants.{Less, Equal, Greater}
use Rattle.std.specs.Ordering.{match_ordering}
use Rattle.dz_algebra.specs.declared.Limit.TheVariants as limits
use Rattle.dz_algebra.specs.Amount.{Amount, gathered}
use Rattle.dz_algebra.specs.Derivation.{Rate, RateIn, constant, unit, symbol, once_less, times_rate, each_with_power, term_derivative, derivative_contributions}
use Rattle.dz_algebra.specs.Gather.{put, onto}
use Rattle.dz_algebra.specs.Monomial.{Monomial, IsMonomial, MonomialIn}
use Rattle.dz_algebra.specs.Order.{IsOrder, IsAbove, IsFalling}
use Rattle.dz_algebra.specs.Polynomial.{Polynomial, Contributions, PolynomialIn, AreMonomials}
use Rattle.dz_algebra.specs.Size.{operation, derivation_answer, separant_answer}
use Rattle.dz_algebra.proofs.Canonical.{are_monomials}
use Rattle.dz_algebra.proofs.Derivations.{monomials_derivative}
use Rattle.dz_algebra.proofs.Inside.{in_derivative}
use Rattle.dz_algebra.proofs.Orders.{greater_reversed, less_reversed}
use Rattle.dz_rank.specs.Rankings.{RankingValue, ranking_cmp}
use Rattle.dz_rank.specs.Symbols.{BelongsTo, HasFourExponents, total_order, raised, raised_symbol, exponent_sums}
use Rattle.dz_rank.specs.declared.symbols.Symbol.{Symbol}
use Rattle.dz_rank.specs.declared.symbols.Symbol.TheVariants.{Independent, Derivative}
use Rattle.dz_rank.proofs.Belonging.{raised_belongs}
use Rattle.dz_rank.proofs.Raising.{grows_by_one}
use Rattle.dz_monomials.specs.Cells.{caps}
use Rattle.dz_monomials.specs.Degrees.{degrees, has_high_order, has_high_exponent, limit_of_counts, limit_by}
use Rattle.dz_monomials.specs.Keeping.{IsTabled, IsKeepable}
use Rattle.dz_monomials.specs.Ranked.{symbol_rate, symbols_under}
use Rattle.dz_monomials.specs.Stops.{IsStop}
use Rattle.dz_monomials.specs.Supports.{IsSupportOf}
use Rattle.dz_monomials.specs.declared.PolyStop.{PolyStop}
use Rattle.dz_monomials.specs.declared.PolyStop.TheVariants.{Memory, Large}
use Rattle.dz_monomials.proofs.EntryFacts.{table_is_monomial}
use Rattle.dz_monomials.proofs.Multiplying.{refused_by_limit}
use Rattle.dz_monomials.proofs.Operations.{operation_keepable}
use Rattle.dz_monomials.proofs.Summing.{support_of, low_entry, degrees-caps}
use Rattle.dz_monomials.proofs.SupportLaws.{degrees_gathered}
use Rattle.dz_monomials.proofs.SymbolLaws.{ranking_order}
use Rattle.dz_monomials.specs.Lists.{AllOf}
use Rattle.dz_monomials.specs.Rows.{meant, rate_in, rows, Rises, Stays, AreRates, is_high_rate, with_rate, rates_of}
use Rattle.dz_monomials.specs.declared.rates.Rate.{Rate as SymbolRate}
use Rattle.dz_monomials.specs.declared.rates.Rate.TheVariants.{One, Next}
use Rattle.dz_monomials.proofs.RateLists.{in_rates, rate_above, derivative_high}

-- ---- one derivation as an operator
pub set_is_raised : (i : ℕ) → i < 4 → set (0 ∷ 0 ∷ 0 ∷ 0 ∷ []) i 1 ≡ raised i (0 ∷ 0 ∷ 0 ∷ 0 ∷ [])
set_is_raised zero h = refl
set_is_raised (suc zero) h = refl
set_is_raised (suc (suc zero)) h = refl
set_is_raised (suc (suc (suc zero))) h = refl
set_is_raised (suc (suc (suc (suc i)))) h = absurd (omega arith)

-- a product with one derivation is one exponent more
pub sums_raised : (ks : List ℕ) (i : ℕ) → length ks ≡ 4 → i < 4 → exponent_sums ks (raised i (0 ∷ 0 ∷ 0 ∷ 0 ∷ [])) ≡ raised i ks
sums_raised ks i e h = at i ks (0 ∷ 0 ∷ 0 ∷ 0 ∷ []) (refl, (refl, (refl, (refl, tt)))) e (subst (λ n. i < n) (sym e) h)
  where
    more : (k z : ℕ) → z ≡ 0 → k + z ≡ k
    more k z e = omega arith

    same : (ks zs : List ℕ) → AllOf (λ (z : ℕ). z ≡ 0) zs → length ks ≡ length zs → exponent_sums ks zs ≡ ks
    same [] [] z e = refl
    same [] (y ∷ zs) z e = absurd (omega arith)
    same (k ∷ ks) [] z e = refl
    same (k ∷ ks) (y ∷ zs) z e = ap₂ (λ (a : ℕ) (l : List ℕ). a ∷ l) (more k y z.0) (same ks zs z.1 (omega arith))

    at : (i : ℕ) (ks zs : List ℕ) → AllOf (λ (z : ℕ). z ≡ 0) zs → length ks ≡ length zs → i < length ks → exponent_sums ks (raised i zs) ≡ raised i ks
    at i [] zs z e h = absurd (omega arith)
    at i (k ∷ ks) [] z e h = absurd (omega arith)
    at zero (k ∷ ks) (y ∷ zs) z e h = ap₂ (λ (a : ℕ) (l : List ℕ). a ∷ l) (let f : y ≡ 0 = z.0 in let g : k + suc y ≡ suc k = omega arith in g) (same ks zs z.1 (omega arith))
    at (suc i) (k ∷ ks) (y ∷ zs) z e h = ap₂ (λ (a : ℕ) (l : List ℕ). a ∷ l) (more k y z.0) (at i ks zs z.1 (omega arith) (omega arith))

-- ---- the rates of a monomial's symbols
with_rate-append : (s : Symbol) (x : Rate Symbol) (a b : List (Symbol × SymbolRate)) → with_rate s x a ++ b ≡ with_rate s x (a ++ b)
with_rate-append s constant a b = refl
with_rate-append s unit a b = refl
with_rate-append s (symbol t) a b = refl

-- the rates of two monomials, one after the other
rates_of-append : (rate : Symbol → Rate Symbol) (m n : Monomial Symbol) → rates_of rate (m ++ n) ≡ rates_of rate m ++ rates_of rate n
rates_of-append rate [] n = refl
rates_of-append rate (p ∷ m) n = ap (with_rate p.0 (rate p.0)) (rates_of-append rate m n) ∙ sym (with_rate-append p.0 (rate p.0) (rates_of rate m) (rates_of rate n))

-- one of two lists passes a test if one of either does
any-append : {X : Type 0} (test : X → Bool) (a b : List X) → list_any test (a ++ b) ≡ (list_any test a || list_any test b)
any-append test [] b = refl
any-append test (x ∷ a) b = ap (λ c. test x || c) (any-append test a b) ∙ grouped (test x) (list_any test a) (list_any test b)
  where
    grouped : (a b c : Bool) → (a || (b || c)) ≡ ((a || b) || c)
    grouped true b c = refl
    grouped false b c = refl

-- one more element
take_here : {X : Type 0} (i : ℕ) (xs : List X) (d : X) → i < length xs → take (i + 1) xs ≡ take i xs ++ get_or xs i d ∷ []
take_here {X} i xs d h = rw add-one (at i xs h)
  where
    at : (i : ℕ) (xs : List X) → i < length xs → take (suc i) xs ≡ take i xs ++ get_or xs i d ∷ []
    at i [] h = absurd (omega arith)
    at zero (y ∷ xs) h = refl
    at (suc i) (y ∷ xs) h = ap (λ l. y ∷ l) (at i xs (omega arith))

-- one rate more
pub rate_more : (rate : Symbol → Rate Symbol) (i : ℕ) (m : Monomial Symbol) (d : Symbol × ℕ) → i < length m → (old new : List (Symbol × SymbolRate)) (x : Rate Symbol) → new ≡ old ++ with_rate (get_or m i d).0 x [] → old ≡ rates_of rate (take i m) → x ≡ rate (get_or m i d).0 → new ≡ rates_of rate (take (i + 1) m)
rate_more rate i m d h old new x e f g =
    e ∙ ap₂ (λ l y. l ++ with_rate (get_or m i d).0 y []) f g
    ∙ sym (ap (rates_of rate) (take_here i m d h) ∙ rates_of-append rate (take i m) (get_or m i d ∷ []))

-- a symbol whose rate is low, after others that have none but low ones
pub low_more : (rate : Symbol → Rate Symbol) (i : ℕ) (m : Monomial Symbol) (d : Symbol × ℕ) → i < length m → list_any (λ q. is_high_rate total_order (rate q.0)) (take i m) ≡ false → is_high_rate total_order (rate (get_or m i d).0) ≡ false → list_any (λ q. is_high_rate total_order (rate q.0)) (take (i + 1) m) ≡ false
low_more rate i m d h e f =
    ap (list_any (λ q. is_high_rate total_order (rate q.0))) (take_here i m d h) ∙ any-append (λ q. is_high_rate total_order (rate q.0)) (take i m) (get_or m i d ∷ [])
    ∙ ap₂ (λ a b. a || (b || false)) e f

-- a symbol whose rate is high
pub high_at : (rate : Symbol → Rate Symbol) (i : ℕ) (m : Monomial Symbol) (d : Symbol × ℕ) → i < length m → is_high_rate total_order (rate (get_or m i d).0) ≡ true → list_any (λ q. is_high_rate total_order (rate q.0)) m ≡ true
high_at rate i [] d h e = absurd (omega arith)
high_at rate zero (p ∷ m) d h e = ap (λ b. b || list_any (λ q. is_high_rate total_order (rate q.0)) m) e
high_at rate (suc i) (p ∷ m) d h e = ap (λ b. is_high_rate total_order (rate p.0) || b) (high_at rate i m d (omega arith) e) ∙ last (is_high_rate total_order (rate p.0))
  where
    last : (a : Bool) → (a || true) ≡ true
    last true = refl
    last false = refl

-- what holds of each symbol holds of the one at a place
pub in_at : (P : Symbol → Type 0) (i : ℕ) (m : Monomial Symbol) (d : Symbol × ℕ) → i < length m → MonomialIn P m → P (get_or m i d).0
in_at P i [] d h k = absurd (omega arith)
in_at P zero (p ∷ m) d h k = k.0
in_at P (suc i) (p ∷ m) d h k = in_at P i m d (omega arith) k.1

-- ---- each symbol of a monomial
-- a property of a rate with its symbol, where it is not zero
abbrev Fits : (Symbol × SymbolRate → Type 0) → Symbol → Rate Symbol → Type 0
Fits P s constant = ⊤
Fits P s unit = P (s, One)
Fits P s (symbol t) = P (s, Next t)

-- what holds of a rate and of others holds of all
all_with : (P : Symbol × SymbolRate → Type 0) (s : Symbol) (x : Rate Symbol) (qs : List (Symbol × SymbolRate)) → Fits P s x → AllOf P qs → AllOf P (with_rate s x qs)
all_with P s constant qs h g = g
all_with P s unit qs h g = (h, g)
all_with P s (symbol t) qs h g = (h, g)

-- what holds of the rate of each symbol holds of the list
all_rates : (P : Symbol × SymbolRate → Type 0) (rate : Symbol → Rate Symbol) (m : Monomial Symbol) → MonomialIn (λ s. Fits P s (rate s)) m → AllOf P (rates_of rate m)
all_rates P rate [] h = tt
all_rates P rate (p ∷ m) h = all_with P p.0 (rate p.0) (rates_of rate m) h.0 (all_rates P rate m h.1)

-- what holds of all symbols holds of those of a monomial
in_all : {S : Type 0} (P : S → Type 0) → ((s : S) → P s) → (m : Monomial S) → MonomialIn P m
in_all P h [] = tt
in_all P h (p ∷ m) = (h p.0, in_all P h m)

-- from one property to another
pub in_weaker : {S : Type 0} (P Q : S → Type 0) → ((s : S) → P s → Q s) → (m : Monomial S) → MonomialIn P m → MonomialIn Q m
in_weaker P Q f [] h = tt
in_weaker P Q f (p ∷ m) h = (f p.0 h.0, in_weaker P Q f m h.1)

-- what is above a symbol and a list is above the list with its rate
above_with : (cmp : Symbol → Symbol → Ordering) (k s : Symbol) (x : Rate Symbol) (qs : List (Symbol × SymbolRate)) → cmp k s ≡ Greater → IsAbove cmp k qs → IsAbove cmp k (with_rate s x qs)
above_with cmp k s constant qs h a = a
above_with cmp k s unit qs h a = (h, a)
above_with cmp k s (symbol t) qs h a = (h, a)

-- what is above a monomial is above its rates
above_rates : (cmp : Symbol → Symbol → Ordering) (rate : Symbol → Rate Symbol) (k : Symbol) (m : Monomial Symbol) → IsAbove cmp k m → IsAbove cmp k (rates_of rate m)
above_rates cmp rate k [] a = tt
above_rates cmp rate k (p ∷ m) a = above_with cmp k p.0 (rate p.0) (rates_of rate m) a.0 (above_rates cmp rate k m a.1)

-- a rate before falling rates of lesser symbols
falling_with : (cmp : Symbol → Symbol → Ordering) (s : Symbol) (x : Rate Symbol) (qs : List (Symbol × SymbolRate)) → IsAbove cmp s qs → IsFalling cmp qs → IsFalling cmp (with_rate s x qs)
falling_with cmp s constant qs a f = f
falling_with cmp s unit qs a f = (a, f)
falling_with cmp s (symbol t) qs a f = (a, f)

-- the rates of a monomial fall
falling_rates : (cmp : Symbol → Symbol → Ordering) (rate : Symbol → Rate Symbol) (m : Monomial Symbol) → IsMonomial cmp m → IsFalling cmp (rates_of rate m)
falling_rates cmp rate [] h = tt
falling_rates cmp rate (p ∷ m) h = falling_with cmp p.0 (rate p.0) (rates_of rate m) (above_rates cmp rate p.0 m h.1) (falling_rates cmp rate m h.2)

module _ {cmp : Symbol → Symbol → Ordering} (order : IsOrder cmp) (rate : Symbol → Rate Symbol) where
  -- the list gives its first symbol the first rate
  rate_first : (s : Symbol) (x : Rate Symbol) (qs : List (Symbol × SymbolRate)) → IsAbove cmp s qs → rate_in cmp (with_rate s x qs) s ≡ x
  rate_first s constant qs a = rate_above order s qs a
  rate_first s unit qs a = ap (λ o. match_ordering o (rate_in cmp qs s) unit (rate_in cmp qs s)) (tied_itself order.total s)
  rate_first s (symbol t) qs a = ap (λ o. match_ordering o (rate_in cmp qs s) (symbol t) (rate_in cmp qs s)) (tied_itself order.total s)

  -- and a lesser one what the rest of it gives
  rate_past : (u s : Symbol) (x : Rate Symbol) (qs : List (Symbol × SymbolRate)) → cmp s u ≡ Greater → rate_in cmp (with_rate s x qs) u ≡ rate_in cmp qs u
  rate_past u s constant qs h = refl
  rate_past u s unit qs h = ap (λ o. match_ordering o (rate_in cmp qs u) unit (rate_in cmp qs u)) (less_reversed order.total s u h)
  rate_past u s (symbol t) qs h = ap (λ o. match_ordering o (rate_in cmp qs u) (symbol t) (rate_in cmp qs u)) (less_reversed order.total s u h)

  -- so it does for all symbols of a lesser monomial
  all_past : (s : Symbol) (x : Rate Symbol) (qs : List (Symbol × SymbolRate)) (m : Monomial Symbol) → IsAbove cmp s m → MonomialIn (λ u. rate_in cmp qs u ≡ rate u) m → MonomialIn (λ u. rate_in cmp (with_rate s x qs) u ≡ rate u) m
  all_past s x qs [] a h = tt
  all_past s x qs (p ∷ m) a h = (rate_past p.0 s x qs a.0 ∙ h.0, all_past s x qs m a.1 h.1)

  -- the list gives each symbol of the monomial its rate
  rates_agree : (m : Monomial Symbol) → IsMonomial cmp m → MonomialIn (λ u. rate_in cmp (rates_of rate m) u ≡ rate u) m
  rates_agree [] h = tt
  rates_agree (p ∷ m) h = (rate_first p.0 (rate p.0) (rates_of rate m) (above_rates cmp rate p.0 m h.1), all_past p.0 (rate p.0) (rates_of rate m) m h.1 (rates_agree m h.2))

-- ---- the symbols of a polynomial are those of its degrees
module _ {S : Type 0} {cmp : S → S → Ordering} (order : IsOrder cmp) (P : S → Type 0) where
  -- a degree more brings in its symbol alone
  put_in : (s : S) (e : ℕ) (m : Monomial S) → P s → MonomialIn P m → MonomialIn P (put cmp max s e m)
  put_in s e [] h g = (h, tt)
  put_in s e (p ∷ m) h g =
      elim (cmp s p.0) as (λ o. MonomialIn P (match_ordering o (p ∷ put cmp max s e m) ((p.0, max e p.1) ∷ m) ((s, e) ∷ p ∷ m))) [ Less ↦ (g.0, put_in s e m h g.1) | Equal ↦ g | Greater ↦ (h, g) ]

  -- a common multiple has the symbols of both
  onto_in : (m n : Monomial S) → MonomialIn P m → MonomialIn P n → MonomialIn P (onto cmp max m n)
  onto_in [] n h g = g
  onto_in (p ∷ m) n h g = put_in p.0 p.1 (onto cmp max m n) h.0 (onto_in m n h.1 g)

  -- from the terms to the degrees
  pub degrees_in : (p : Polynomial S) → PolynomialIn P p → MonomialIn P (degrees cmp p)
  degrees_in [] h = tt
  degrees_in (t ∷ p) h = onto_in t.0 (degrees cmp p) h.0 (degrees_in p h.1)

  -- and it has the symbol of the degree
  out_of_put : (s : S) (e : ℕ) (m : Monomial S) → MonomialIn P (put cmp max s e m) → P s × MonomialIn P m
  out_of_put s e [] h = h
  out_of_put s e (p ∷ m) h = by_order (cmp s p.0) refl h (out_of_put s e m)
    where
      by_order : (o : Ordering) → cmp s p.0 ≡ o → MonomialIn P (match_ordering o (p ∷ put cmp max s e m) ((p.0, max e p.1) ∷ m) ((s, e) ∷ p ∷ m)) → (MonomialIn P (put cmp max s e m) → P s × MonomialIn P m) → P s × MonomialIn P (p ∷ m)
      by_order Less f h rest = let k = rest h.1 in (k.0, (h.0, k.1))
      by_order Equal f h rest = (subst P (sym (order.same s p.0 f)) h.0, h)
      by_order Greater f h rest = h

  -- it has no others
  out_of_onto : (m n : Monomial S) → MonomialIn P (onto cmp max m n) → MonomialIn P m × MonomialIn P n
  out_of_onto [] n h = (tt, h)
  out_of_onto (p ∷ m) n h = let k = out_of_put p.0 p.1 (onto cmp max m n) h in let l = out_of_onto m n k.1 in ((k.0, l.0), l.1)

  -- and back
  terms_in : (p : Polynomial S) → MonomialIn P (degrees cmp p) → PolynomialIn P p
  terms_in [] h = tt
  terms_in (t ∷ p) h = let k = out_of_onto t.0 (degrees cmp p) h in (k.0, terms_in p k.1)

-- derivations that make the same of each symbol contribute the same
module _ {S : Type 0} (cmp : S → S → Ordering) (f g : S → Rate S) where
  -- the contributions of a term
  same_term : (m : Monomial S) (c : ℤ) → MonomialIn (λ s. f s ≡ g s) m → term_derivative cmp f m c ≡ term_derivative cmp g m c
  same_term [] c h = refl
  same_term (p ∷ m) c h = ap₂ (λ x ts. times_rate cmp x (once_less p.0 p.1 m) (c *ℤ pos p.1) ++ each_with_power cmp p.0 p.1 ts) h.0 (same_term m c h.1)

  -- polynomials that have no other symbols
  same_terms : (p : Polynomial S) → PolynomialIn (λ s. f s ≡ g s) p → derivative_contributions cmp f p ≡ derivative_contributions cmp g p
  same_terms [] h = refl
  same_terms (t ∷ p) h = ap₂ (λ a b. a ++ b) (same_term t.0 t.1 h.0) (same_terms p h.1)

-- ---- what rows answer
module _ (r : RankingValue) (p : Polynomial Symbol) (table : Monomial Symbol) (entry : IsTabled r p table) where
  -- the terms have low orders
  low_orders : has_high_order total_order (degrees (ranking_cmp r) p) ≡ false
  low_orders = (low_entry r p entry.keepable).orders

  -- the terms have low exponents
  pub low_terms : has_high_exponent (degrees (ranking_cmp r) p) ≡ false
  low_terms = (low_entry r p entry.keepable).exponents

  -- a derivation's contributions stand at monomials
  standing : (rate : Symbol → Rate Symbol) → AreMonomials (ranking_cmp r) (derivative_contributions (ranking_cmp r) rate p)
  standing rate = monomials_derivative (ranking_order r) rate p (are_monomials (ranking_order r) p entry.keepable.canonical)

  -- an operation is refused by its first limit
  limited : (rate : Symbol → Rate Symbol) (o x : Bool) → has_high_order total_order (degrees (ranking_cmp r) (derivative_contributions (ranking_cmp r) rate p)) ≡ o → has_high_exponent (degrees (ranking_cmp r) (derivative_contributions (ranking_cmp r) rate p)) ≡ x
      → limit_by total_order (degrees (ranking_cmp r) (derivative_contributions (ranking_cmp r) rate p)) (length (gathered (ranking_cmp r) (derivative_contributions (ranking_cmp r) rate p)))
      ≡ cond o (Some limits.Order) (cond x (Some limits.Exponent) (limit_of_counts (length (degrees (ranking_cmp r) (derivative_contributions (ranking_cmp r) rate p))) (length (gathered (ranking_cmp r) (derivative_contributions (ranking_cmp r) rate p)))))
  limited rate o x e f = ap₂ (λ a b. cond a (Some limits.Order) (cond b (Some limits.Exponent) (limit_of_counts (length (degrees (ranking_cmp r) (derivative_contributions (ranking_cmp r) rate p))) (length (gathered (ranking_cmp r) (derivative_contributions (ranking_cmp r) rate p)))))) e f

  -- the i-th derivation of a symbol whose derivative has too high an order
  pub order_refused : (i : ℕ) (stop : PolyStop) → (stop ≡ Memory) ⊎ ((stop ≡ Large limits.Order) × (list_any (λ q. is_high_rate total_order (symbol_rate i q.0)) table ≡ true)) → IsStop stop (derivation_answer (symbols_under r) i p)
  order_refused i stop (inl e) = inl e
  order_refused i stop (inr e) =
      inr (refused_by_limit (symbols_under r) (ranking_order r) (derivative_contributions (ranking_cmp r) (symbol_rate i) p) (standing (symbol_rate i)) limits.Order
      (limited (symbol_rate i) true _ (derivative_high (ranking_order r) total_order (symbol_rate i) p low_orders ∙ ap (list_any (λ q. is_high_rate total_order (symbol_rate i q.0))) (sym entry.degrees_are) ∙ e.1) refl)
      ∙ ap Some (sym e.0))

  module _ (qs : List (Symbol × SymbolRate)) (are : AreRates r qs) where
    -- a rate whose symbol has a low order is low
    low_rate : (x : Rate Symbol) → RateIn (λ t. total_order t ≤ 60) x → is_high_rate total_order x ≡ false
    low_rate constant h = refl
    low_rate unit h = refl
    low_rate (symbol t) h = grind (arith, nat_tests)

    -- rates that stay make low orders
    all_low : (l : List (Symbol × SymbolRate)) → AllOf (λ q. Stays r q.1) l → AllOf (λ q. RateIn (λ t. total_order t ≤ 60) (meant q.1)) l
    all_low [] h = tt
    all_low ((s, One) ∷ l) h = (tt, all_low l h.1)
    all_low ((s, Next t) ∷ l) h = (h.0.1, all_low l h.1)

    -- and symbols of the signature
    all_belong : (l : List (Symbol × SymbolRate)) → AllOf (λ q. Stays r q.1) l → AllOf (λ q. RateIn (BelongsTo r.signature) (meant q.1)) l
    all_belong [] h = tt
    all_belong ((s, One) ∷ l) h = (tt, all_belong l h.1)
    all_belong ((s, Next t) ∷ l) h = (h.0.0, all_belong l h.1)

    -- none of them is high
    none_high : (m : Monomial Symbol) → list_any (λ q. is_high_rate total_order (rate_in (ranking_cmp r) qs q.0)) m ≡ false
    none_high [] = refl
    none_high (q ∷ m) = ap₂ (λ a b. a || b) (low_rate (rate_in (ranking_cmp r) qs q.0) (in_rates (ranking_cmp r) (λ t. total_order t ≤ 60) qs (all_low qs are.stay) q.0)) (none_high m)

    -- rows have low orders
    rows_low : has_high_order total_order (degrees (ranking_cmp r) (rows (ranking_cmp r) qs p)) ≡ false
    rows_low = derivative_high (ranking_order r) total_order (rate_in (ranking_cmp r) qs) p low_orders ∙ none_high (degrees (ranking_cmp r) p)

    -- rows with too high an exponent are refused for it
    pub rows_refused : (stop : PolyStop) → (stop ≡ Memory) ⊎ ((stop ≡ Large limits.Exponent) × (has_high_exponent (degrees (ranking_cmp r) (rows (ranking_cmp r) qs p)) ≡ true)) → IsStop stop (operation (symbols_under r) (rows (ranking_cmp r) qs p))
    rows_refused stop (inl e) = inl e
    rows_refused stop (inr e) =
        inr (refused_by_limit (symbols_under r) (ranking_order r) (rows (ranking_cmp r) qs p) (standing (rate_in (ranking_cmp r) qs)) limits.Exponent (limited (rate_in (ranking_cmp r) qs) false true rows_low e.1)
        ∙ ap Some (sym e.0))

    -- the support of rows
    pub rows_support : (m : Monomial Symbol) (cells : List (Monomial Symbol × Option Amount)) → m ≡ degrees (ranking_cmp r) cells → cells ≡ caps (gathered (ranking_cmp r) (rows (ranking_cmp r) qs p)) → has_high_exponent (degrees (ranking_cmp r) (rows (ranking_cmp r) qs p)) ≡ false → IsSupportOf r (rows (ranking_cmp r) qs p) m cells
    rows_support m cells d e f =
        let ts : Contributions Symbol = rows (ranking_cmp r) qs p in
        let k : m ≡ degrees (ranking_cmp r) (rows (ranking_cmp r) qs p) = d ∙ ap (degrees (ranking_cmp r)) e ∙ degrees-caps (ranking_cmp r) (gathered (ranking_cmp r) ts) ∙ degrees_gathered (ranking_order r) ts (standing (rate_in (ranking_cmp r) qs)) in
        support_of r ts m cells (standing (rate_in (ranking_cmp r) qs)) k e (ap (has_high_order total_order) k ∙ rows_low) (ap has_high_exponent k ∙ f)

    -- the answer of rows may stand in a book
    pub rows_keepable : (a : Polynomial Symbol) → operation (symbols_under r) (rows (ranking_cmp r) qs p) ≡ Ok a → IsKeepable r a
    rows_keepable a e =
        operation_keepable r (rows (ranking_cmp r) qs p) (standing (rate_in (ranking_cmp r) qs))
        (in_derivative (ranking_cmp r) (BelongsTo r.signature) (rate_in (ranking_cmp r) qs) (λ s h. in_rates (ranking_cmp r) (BelongsTo r.signature) qs (all_belong qs are.stay) s) p entry.keepable.belongs) a e

  -- ---- the rates of the degrees
  symbols_belong : MonomialIn (BelongsTo r.signature) table
  symbols_belong = subst (MonomialIn (BelongsTo r.signature)) (sym entry.degrees_are) (degrees_in (ranking_order r) (BelongsTo r.signature) p entry.keepable.belongs)

  -- the symbols have four exponents
  pub symbols_have_four : MonomialIn HasFourExponents table
  symbols_have_four = in_weaker (BelongsTo r.signature) HasFourExponents four table symbols_belong
    where
      four : (s : Symbol) → BelongsTo r.signature s → HasFourExponents s
      four (Independent j) h = tt
      four (Derivative u t) h = h.1.size

  module _ (i : ℕ) (within : i < r.signature.independents) (below : i < 4) where
    -- what a derivation makes of a symbol is above it
    rises : (s : Symbol) → Fits (λ q. Rises (ranking_cmp r) q.0 q.1) s (symbol_rate i s)
    unfolding symbol_rate
    rises (Independent j) = elim (i == j) as (λ b. Fits (λ q. Rises (ranking_cmp r) q.0 q.1) (Independent j) (cond b unit constant)) [ true ↦ tt | false ↦ tt ]
    rises (Derivative u t) = greater_reversed (ranking_order r).total (Derivative u t) (raised_symbol i (Derivative u t)) (grows_by_one r i (Derivative u t) refl)

    -- and stays, where its order is low
    stays : (s : Symbol) → BelongsTo r.signature s → is_high_rate total_order (symbol_rate i s) ≡ false → Fits (λ q. Stays r q.1) s (symbol_rate i s)
    unfolding symbol_rate
    stays (Independent j) h e = elim (i == j) as (λ b. Fits (λ q. Stays r q.1) (Independent j) (cond b unit constant)) [ true ↦ tt | false ↦ tt ]
    stays (Derivative u t) h e = (raised_belongs r.signature i (Derivative u t) within below h, not_high (total_order (raised_symbol i (Derivative u t))) e)
      where
        not_high : (n : ℕ) → nat_lt 60 n ≡ false → n ≤ 60
        not_high n e = grind (arith, nat_tests)

    -- so it does for all symbols of a monomial
    all_stay : (m : Monomial Symbol) → MonomialIn (BelongsTo r.signature) m → list_any (λ q. is_high_rate total_order (symbol_rate i q.0)) m ≡ false → MonomialIn (λ s. Fits (λ q. Stays r q.1) s (symbol_rate i s)) m
    all_stay [] h e = tt
    all_stay (q ∷ m) h e = let k = no_part (is_high_rate total_order (symbol_rate i q.0)) (list_any (λ q. is_high_rate total_order (symbol_rate i q.0)) m) e in (stays q.0 h.0 k.0, all_stay m h.1 k.1)
      where
        no_part : (a b : Bool) → (a || b) ≡ false → (a ≡ false) × (b ≡ false)
        no_part true b e = cc
        no_part false b e = (refl, e)

    -- they are rates
    pub are_rates : (qs : List (Symbol × SymbolRate)) → qs ≡ rates_of (symbol_rate i) table → list_any (λ q. is_high_rate total_order (symbol_rate i q.0)) table ≡ false → AreRates r qs
    are_rates qs e low = subst (AreRates r) (sym e) (record {
      falls = falling_rates (ranking_cmp r) (symbol_rate i) table (table_is_monomial r p table entry);
      rise = all_rates (λ q. Rises (ranking_cmp r) q.0 q.1) (symbol_rate i) table (in_all (λ s. Fits (λ q. Rises (ranking_cmp r) q.0 q.1) s (symbol_rate i s)) rises table);
      stay = all_rates (λ q. Stays r q.1) (symbol_rate i) table (all_stay table symbols_belong low);
    })

  -- their rows are the derivation
  pub table_rows : (i : ℕ) (qs : List (Symbol × SymbolRate)) → qs ≡ rates_of (symbol_rate i) table → operation (symbols_under r) (rows (ranking_cmp r) qs p) ≡ derivation_answer (symbols_under r) i p
  table_rows i qs e =
      ap (operation (symbols_under r))
      (same_terms (ranking_cmp r) (rate_in (ranking_cmp r) qs) (symbol_rate i) p
      (terms_in (ranking_order r) (λ s. rate_in (ranking_cmp r) qs s ≡ symbol_rate i s) p
      (subst (MonomialIn (λ s. rate_in (ranking_cmp r) qs s ≡ symbol_rate i s)) entry.degrees_are
      (subst (λ l. MonomialIn (λ s. rate_in (ranking_cmp r) l s ≡ symbol_rate i s) table) (sym e) (rates_agree (ranking_order r) (symbol_rate i) table (table_is_monomial r p table entry))))))

-- the rate one at a single symbol is a rate
pub single_rate : (r : RankingValue) (v : Symbol) → AreRates r ((v, One) ∷ [])
single_rate r v = record { falls = (tt, tt); rise = (tt, tt); stay = (tt, tt) }

-- and its row is the separant
pub single_row : (r : RankingValue) (v : Symbol) (p : Polynomial Symbol) → operation (symbols_under r) (rows (ranking_cmp r) ((v, One) ∷ []) p) ≡ separant_answer (symbols_under r) v p
single_row r v p = refl
