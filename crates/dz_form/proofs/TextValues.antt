-- The steps of a polynomial's canonical text make the polynomial, and none of them is refused.
use Rattle.std.proofs.Common.{◌≡◌, ◌≢◌, ◌<◌, ◌≤◌, ◌+◌, ◌==◌, ◌∙◌, sym, ap, ap₂, subst, refl, ℕ, zero, suc, Bool, true, false, cond, List, [], ◌∷◌, ◌++◌, append_assoc, append-nil, ℤ, pos, negsuc, neg_ℤ, ◌*ℤ◌, unsigned_abs, Result, Ok, Err, arith}
use Rattle.std.specs.Prelude.{int_lt}
use Rattle.std.specs.declared.cmp.Ordering.{Ordering}
use Rattle.std.specs.Ordering.{match_ordering}
use Rattle.std.proofs.lemmas.Bool.Decides.{nat_tests}
use Rattle.std.proofs.lemmas.Cmp.{tied_itself}
use Rattle.std.proofs.lemmas.Int.{ints}
use Rattle.std.proofs.lemmas.List.Elements.{All-head}
use Rattle.dz_algebra.specs.Amount.{greatest}
use Rattle.dz_algebra.specs.Monomial.{Monomial, monomial_product}
use Rattle.dz_algebra.specs.Polynomial.{Polynomial, symbol_polynomial}
use Rattle.dz_algebra.specs.Size.{Refusal, difference_answer, operation, product_answer, sum_answer}
use Rattle.dz_algebra.specs.Symbols.{Symbols}
use Rattle.dz_rank.specs.declared.symbols.Symbol.{Symbol}
use Rattle.dz_rank.specs.Rankings.{RankingValue, ranking_cmp}
use Rattle.dz_rank.specs.Symbols.{BelongsTo, total_order}
use Rattle.dz_monomials.specs.Keeping.{IsKeepable}
use Rattle.dz_monomials.specs.Ranked.{symbols_under}
use Rattle.dz_monomials.specs.Terms.{constant_polynomial}
use Rattle.dz_monomials.proofs.OneTerm.{power_entry}
use Rattle.dz_monomials.proofs.SymbolLaws.{ranking_order}
use Rattle.dz_syntax.specs.declared.expression.Op.{Op}
use Rattle.dz_syntax.specs.declared.expression.Op.TheVariants as ops
use Rattle.dz_form.specs.Steps.{factor_steps, more_terms_steps, polynomial_steps, power_steps, term_steps}
use Rattle.dz_algebra.specs.Outcome.{◌>>=◌}
use Rattle.dz_form.specs.Values.{Polynomials, item_answer, latest, onto, power_answer, steps_answer, step_answer, times}
use Rattle.dz_form.proofs.FitPowers.{IsFitPower, fit_back, keepable_fits}
use Rattle.dz_form.proofs.Keeping.{operation_keeps}
use Rattle.dz_form.proofs.PartsKept.{back_keepable, coefficient_keepable, front_keepable, powers_keepable, product_appends}

-- ---- steps one after the other

-- steps behind others go on from their values
steps-append : (g : Symbols Symbol) (a b : List Op) (values : Polynomials) → steps_answer g (a ++ b) values ≡ (steps_answer g a values >>= steps_answer g b)
steps-append g [] b values = refl
steps-append g (op ∷ a) b values = by_step (step_answer g op values) (λ made. steps-append g a b made)
  where
    by_step : (o : Result Polynomials Refusal) → ((made : Polynomials) → steps_answer g (a ++ b) made ≡ (steps_answer g a made >>= steps_answer g b))
        → (o >>= steps_answer g (a ++ b)) ≡ ((o >>= steps_answer g a) >>= steps_answer g b)
    by_step (Ok made) more = more made
    by_step (Err x) more = refl

-- steps make a polynomial on top of any values
abbrev Make : Symbols Symbol → List Op → Polynomial Symbol → Type 0
Make g steps p = (values : Polynomials) → steps_answer g steps values ≡ Ok (p ∷ values)

-- steps behind those that make a polynomial
behind : (g : Symbols Symbol) (steps more : List Op) (p : Polynomial Symbol) (values : Polynomials) → Make g steps p → steps_answer g (steps ++ more) values ≡ steps_answer g more (p ∷ values)
behind g steps more p values make = steps-append g steps more values ∙ ap (λ o. o >>= steps_answer g more) (make values)

-- a step that answers by a polynomial on top of values
answered : (g : Symbols Symbol) (o : Result (Polynomial Symbol) Refusal) (p : Polynomial Symbol) (more : List Op) (values : Polynomials) → o ≡ Ok p
    → (onto values o >>= steps_answer g more) ≡ steps_answer g more (p ∷ values)
answered g o p more values e = ap (λ o. onto values o >>= steps_answer g more) e

-- ---- numbers

-- a number that is not zero, as a polynomial
some_number : (n : ℕ) → pos n ≢ pos 0 → constant_polynomial {S = Symbol} (pos n) ≡ ([], pos n) ∷ []
some_number zero some = absurd (some refl)
some_number (suc n) some = refl

-- a negative number is the negative of its absolute value
negative_is : (c : ℤ) → int_lt c (pos 0) ≡ true → neg_ℤ (pos (unsigned_abs c)) ≡ c
negative_is (pos zero) e = refl
negative_is (pos (suc n)) e = let below : suc n < 0 = grind (arith, nat_tests) in absurd (omega (arith, below))
negative_is (negsuc n) e = refl

-- and every other is its absolute value
positive_is : (c : ℤ) → int_lt c (pos 0) ≡ false → pos (unsigned_abs c) ≡ c
positive_is (pos n) e = refl
positive_is (negsuc n) e = cc

-- the absolute value of a number that is not zero
absolute_some : (c : ℤ) → c ≢ pos 0 → pos (unsigned_abs c) ≢ pos 0
absolute_some (pos n) some e = some e
absolute_some (negsuc n) some e = cc

module _ (r : RankingValue) where
  -- the symbols under the ranking
  abbrev g : Symbols Symbol
  g = symbols_under r

  -- the order of the symbols
  abbrev cmp : Symbol → Symbol → Ordering
  cmp = ranking_cmp r

  -- the term may stand in a book
  abbrev IsKeepableTerm : Monomial Symbol → ℤ → Type 0
  IsKeepableTerm m c = IsKeepable r ((m, c) ∷ [])

  -- ---- powers

  -- the product of two terms
  product_is : (m n k : Monomial Symbol) (c d e : ℤ) → monomial_product cmp m n ≡ k → c *ℤ d ≡ e → IsKeepableTerm k e → product_answer g ((m, c) ∷ []) ((n, d) ∷ []) ≡ Ok ((k, e) ∷ [])
  product_is m n k c d e f h kept = ap₂ (λ (k : Monomial Symbol) (e : ℤ). operation g ((k, e) ∷ [])) f h ∙ operation_keeps r ((k, e) ∷ []) kept

  -- a power of a symbol may stand in a book
  power_kept : (s : Symbol) (e : ℕ) → IsFitPower r.signature (s, e) → IsKeepableTerm ((s, e) ∷ []) (pos 1)
  power_kept s e h =
      let low = h.exponent in
      (power_entry r (pos 1) s e (((s, e) ∷ [], pos 1) ∷ []) ((s, e) ∷ []) (λ e. cc) (omega arith) h.some (omega (arith, low)) h.symbol h.order refl refl).keepable

  -- one product more is one exponent more
  next_power : (s : Symbol) (k : ℕ) → monomial_product cmp ((s, k) ∷ []) ((s, 1) ∷ []) ≡ (s, k + 1) ∷ []
  next_power s k = ap (λ o. match_ordering o ((s, 1) ∷ (s, k) ∷ []) ((s, k + 1) ∷ []) ((s, k) ∷ (s, 1) ∷ [])) (tied_itself (ranking_order r).total s)

  -- so many products of a power by its symbol
  times_is : (s : Symbol) (n k e : ℕ) → BelongsTo r.signature s → total_order s ≤ 60 → e ≤ 65535 → 0 < k → k + n ≡ e
      → times g (symbol_polynomial s) n (((s, k) ∷ [], pos 1) ∷ []) ≡ Ok (((s, e) ∷ [], pos 1) ∷ [])
  times_is s zero k e b o l some sum = let same : k ≡ e = omega arith in ap (λ (k : ℕ). Ok (((s, k) ∷ [], pos 1) ∷ [])) same
  times_is s (suc n) k e b o l some sum =
      let kept = power_kept s (k + 1) (record { symbol = b; order = o; exponent = omega arith; some = omega arith }) in
      ap (λ o. o >>= times g (symbol_polynomial s) n) (product_is ((s, k) ∷ []) ((s, 1) ∷ []) ((s, k + 1) ∷ []) (pos 1) (pos 1) (pos 1) (next_power s k) refl kept)
      ∙ times_is s n (k + 1) e b o l (omega arith) (omega arith)

  -- a power of a symbol
  power_is : (s : Symbol) (e : ℕ) → IsFitPower r.signature (s, e) → power_answer g (symbol_polynomial s) e ≡ Ok (((s, e) ∷ [], pos 1) ∷ [])
  unfolding power_answer
  power_is s zero h = let some = h.some in absurd (omega (arith, some))
  power_is s (suc n) h = times_is s n 1 (suc n) h.symbol h.order h.exponent (omega arith) (omega arith)

  -- the steps of a power
  power_made : (s : Symbol) (e : ℕ) → IsFitPower r.signature (s, e) → Make g (power_steps s e) (((s, e) ∷ [], pos 1) ∷ [])
  power_made s e h values = by_test (e == 1) refl
    where
      by_test : (b : Bool) → (e == 1) ≡ b → steps_answer g (ops.Symbol s ∷ cond b [] (ops.Power e ∷ [])) values ≡ Ok ((((s, e) ∷ [], pos 1) ∷ []) ∷ values)
      by_test true f = let one : 1 ≡ e = grind (arith, nat_tests) in ap (λ (k : ℕ). Ok ((((s, k) ∷ [], pos 1) ∷ []) ∷ values)) one
      by_test false f = answered g (power_answer g (symbol_polynomial s) e) (((s, e) ∷ [], pos 1) ∷ []) [] values (power_is s e h)

  -- ---- terms

  -- further powers
  factors_made : (m done : Monomial Symbol) (c : ℤ) (values : Polynomials) → IsKeepableTerm (done ++ m) c
      → steps_answer g (factor_steps m) (((done, c) ∷ []) ∷ values) ≡ Ok (((done ++ m, c) ∷ []) ∷ values)
  factors_made [] done c values h = ap (λ (m : Monomial Symbol). Ok (((m, c) ∷ []) ∷ values)) (sym (append-nil done))
  factors_made (p ∷ m) done c values h =
      let grouped : done ++ p ∷ [] ++ m ≡ done ++ p ∷ m = append_assoc done (p ∷ []) m in
      let all : IsKeepableTerm (done ++ p ∷ [] ++ m) c = subst (λ (n : Monomial Symbol). IsKeepableTerm n c) (sym grouped) h in
      let next : IsKeepableTerm (done ++ p ∷ []) c = powers_keepable r (done ++ p ∷ []) m c all in
      let fits = (fit_back r.signature done (p ∷ m) (keepable_fits r ((done ++ p ∷ m, c) ∷ []) h).0).0 in
      let same : c *ℤ pos 1 ≡ c = omega (arith, ints) in
      let product = product_is done (p ∷ []) (done ++ p ∷ []) c (pos 1) c (product_appends cmp done (p ∷ []) next.canonical.1) same next in
      behind g (power_steps p.0 p.1) (ops.Mul ∷ factor_steps m) ((p ∷ [], pos 1) ∷ []) (((done, c) ∷ []) ∷ values) (power_made p.0 p.1 fits)
      ∙ answered g (product_answer g ((done, c) ∷ []) ((p ∷ [], pos 1) ∷ [])) ((done ++ p ∷ [], c) ∷ []) (factor_steps m) values product
      ∙ factors_made m (done ++ p ∷ []) c values all
      ∙ ap (λ (n : Monomial Symbol). Ok (((n, c) ∷ []) ∷ values)) grouped

  -- the powers of a monomial
  powers_made : (p : Symbol × ℕ) (m : Monomial Symbol) → IsKeepableTerm (p ∷ m) (pos 1) → Make g (power_steps p.0 p.1 ++ factor_steps m) ((p ∷ m, pos 1) ∷ [])
  powers_made p m h values =
      let fits = (keepable_fits r ((p ∷ m, pos 1) ∷ []) h).0.0 in
      behind g (power_steps p.0 p.1) (factor_steps m) ((p ∷ [], pos 1) ∷ []) values (power_made p.0 p.1 fits)
      ∙ factors_made m (p ∷ []) (pos 1) values h

  -- a term, by whether its coefficient is one
  term_if : (p : Symbol × ℕ) (m : Monomial Symbol) (n : ℕ) (b : Bool) → (n == 1) ≡ b → IsKeepableTerm (p ∷ m) (pos n)
      → Make g (cond b (power_steps p.0 p.1 ++ factor_steps m) (ops.Number (pos n) ∷ factor_steps (p ∷ m))) ((p ∷ m, pos n) ∷ [])
  term_if p m n true e h =
      let one : 1 ≡ n = grind (arith, nat_tests) in
      subst (λ (k : ℕ). Make g (power_steps p.0 p.1 ++ factor_steps m) ((p ∷ m, pos k) ∷ [])) one (powers_made p m (subst (λ (k : ℕ). IsKeepableTerm (p ∷ m) (pos k)) (sym one) h))
  term_if p m n false e h =
      λ values.
      ap (λ (q : Polynomial Symbol). steps_answer g (factor_steps (p ∷ m)) (q ∷ values)) (some_number n h.canonical.0)
      ∙ factors_made (p ∷ m) [] (pos n) values h

  -- a term with a positive coefficient
  term_made : (m : Monomial Symbol) (n : ℕ) → IsKeepableTerm m (pos n) → Make g (term_steps m n) ((m, pos n) ∷ [])
  term_made [] n h values = ap (λ (q : Polynomial Symbol). Ok (q ∷ values)) (some_number n h.canonical.0)
  term_made (p ∷ m) n h values = term_if p m n (n == 1) refl h values

  -- the term with the absolute value of a coefficient may stand in a book
  absolute_kept : (m : Monomial Symbol) (c : ℤ) → IsKeepableTerm m c → IsKeepableTerm m (pos (unsigned_abs c))
  absolute_kept m c h = coefficient_keepable r m c (pos (unsigned_abs c)) (absolute_some c h.canonical.0) (All-head (λ t. unsigned_abs t.1 ≤ greatest) (m, c) [] h.in_range) h

  -- a term with the absolute value of its coefficient
  absolute_made : (t : Monomial Symbol × ℤ) → IsKeepable r (t ∷ []) → Make g (term_steps t.0 (unsigned_abs t.1)) ((t.0, pos (unsigned_abs t.1)) ∷ [])
  absolute_made t h = term_made t.0 (unsigned_abs t.1) (absolute_kept t.0 t.1 h)

  -- ---- sums

  -- a term is added, or its absolute value is taken away
  term_added : (t : Monomial Symbol × ℤ) (done : Polynomial Symbol) (b : Bool) (more : List Op) (values : Polynomials) → int_lt t.1 (pos 0) ≡ b → IsKeepable r (done ++ t ∷ [])
      → steps_answer g (cond b ops.Sub ops.Add ∷ more) (((t.0, pos (unsigned_abs t.1)) ∷ []) ∷ done ∷ values) ≡ steps_answer g more ((done ++ t ∷ []) ∷ values)
  term_added t done true more values e h =
      let same = ap (λ (c : ℤ). operation g (done ++ (t.0, c) ∷ [])) (negative_is t.1 e) in
      answered g (difference_answer g done ((t.0, pos (unsigned_abs t.1)) ∷ [])) (done ++ t ∷ []) more values (same ∙ operation_keeps r (done ++ t ∷ []) h)
  term_added t done false more values e h =
      let same = ap (λ (c : ℤ). operation g (done ++ (t.0, c) ∷ [])) (positive_is t.1 e) in
      answered g (sum_answer g done ((t.0, pos (unsigned_abs t.1)) ∷ [])) (done ++ t ∷ []) more values (same ∙ operation_keeps r (done ++ t ∷ []) h)

  -- later terms
  more_terms_made : (p done : Polynomial Symbol) (values : Polynomials) → IsKeepable r (done ++ p) → steps_answer g (more_terms_steps p) (done ∷ values) ≡ Ok ((done ++ p) ∷ values)
  more_terms_made [] done values h = ap (λ (q : Polynomial Symbol). Ok (q ∷ values)) (sym (append-nil done))
  more_terms_made (t ∷ p) done values h =
      let grouped : done ++ t ∷ [] ++ p ≡ done ++ t ∷ p = append_assoc done (t ∷ []) p in
      let all : IsKeepable r (done ++ t ∷ [] ++ p) = subst (IsKeepable r) (sym grouped) h in
      let next : IsKeepable r (done ++ t ∷ []) = front_keepable r (done ++ t ∷ []) p all in
      let term : IsKeepable r (t ∷ []) = back_keepable r done (t ∷ []) next in
      let absolute = (t.0, pos (unsigned_abs t.1)) ∷ [] in
      behind g (term_steps t.0 (unsigned_abs t.1)) (cond (int_lt t.1 (pos 0)) ops.Sub ops.Add ∷ more_terms_steps p) absolute (done ∷ values) (absolute_made t term)
      ∙ term_added t done (int_lt t.1 (pos 0)) (more_terms_steps p) values refl next
      ∙ more_terms_made p (done ++ t ∷ []) values all
      ∙ ap (λ (q : Polynomial Symbol). Ok (q ∷ values)) grouped

  -- the sign of the first term
  first_signed : (t : Monomial Symbol × ℤ) (b : Bool) (more : List Op) (values : Polynomials) → int_lt t.1 (pos 0) ≡ b
      → steps_answer g (cond b (ops.Negate ∷ []) [] ++ more) (((t.0, pos (unsigned_abs t.1)) ∷ []) ∷ values) ≡ steps_answer g more ((t ∷ []) ∷ values)
  first_signed t true more values e = ap (λ (c : ℤ). steps_answer g more (((t.0, c) ∷ []) ∷ values)) (negative_is t.1 e)
  first_signed t false more values e = ap (λ (c : ℤ). steps_answer g more (((t.0, c) ∷ []) ∷ values)) (positive_is t.1 e)

-- the steps of the canonical text of a polynomial that may stand in a book make it
pub text_value : (r : RankingValue) (p : Polynomial Symbol) → IsKeepable r p → item_answer (symbols_under r) (polynomial_steps p) ≡ Ok p
unfolding item_answer polynomial_steps
text_value r [] h = refl
text_value r (t ∷ p) h =
    let term : IsKeepable r (t ∷ []) = front_keepable r (t ∷ []) p h in
    let absolute = (t.0, pos (unsigned_abs t.1)) ∷ [] in
    let values =
    behind (symbols_under r) (term_steps t.0 (unsigned_abs t.1)) (cond (int_lt t.1 (pos 0)) (ops.Negate ∷ []) [] ++ more_terms_steps p) absolute [] (absolute_made r t term)
    ∙ first_signed r t (int_lt t.1 (pos 0)) (more_terms_steps p) [] refl
    ∙ more_terms_made r p (t ∷ []) [] h in
    ap (λ o. o >>= λ values. Ok (latest values)) values
