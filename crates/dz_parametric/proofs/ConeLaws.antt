-- A derivative is parametric where it lies in one cone, and else lies in none.
use Rattle.std.specs.List.{count_by, flat_map, list_all, range_with_len}
use Rattle.std.specs.Prelude.{◌==◌, ◌&&◌, ◌||◌, replicate}
use Rattle.std.proofs.Common.{◌≡◌, ◌<◌, ◌≤◌, ◌+◌, ◌-◌, ◌∙◌, ℕ, zero, suc, Bool, true, false, cond, List, [], ◌∷◌, ◌++◌, All, IsTrue, Option, Some, None, length, map, drop, slice_index_or, refl, sym, ap, ap₂, subst, arith, eqb-true}
use Rattle.std.proofs.lemmas.Bool.{eq-eqb, le-leb, ne_eqb}
use Rattle.std.proofs.lemmas.List.Sums.{sum_by-cons}
use Rattle.dz_algebra.specs.Parts.{leader}
use Rattle.dz_algebra.specs.Polynomial.{PolynomialIn}
use Rattle.dz_rank.specs.Rankings.{RankingValue}
use Rattle.dz_rank.specs.Symbols.{BelongsTo, HasFourExponents, IsDerivativeOf, IsOperatorOf, exponent_sums, is_derivative}
use Rattle.dz_rank.specs.declared.symbols.Operator.{Operator}
use Rattle.dz_rank.specs.declared.symbols.Symbol.{Symbol}
use Rattle.dz_rank.specs.declared.symbols.Symbol.TheVariants.{Independent, Derivative}
use Rattle.dz_poly.specs.Books.{BookValue, IsBook}
use Rattle.dz_monomials.specs.Ranked.{symbols_under}
use Rattle.dz_monomials.specs.Lists.{AllOf}
use Rattle.dz_diff.specs.Operators.{divides, exponent_differences, quotient}
use Rattle.dz_diff.specs.State.{State}
use Rattle.dz_diff.specs.States.{LiveAll, StandsIn, StateValue, polynomials, state_in}
use Rattle.dz_diff.specs.Tests.{Polynomials}
use Rattle.dz_algebra.proofs.Outcomes.{both}
use Rattle.dz_diff.proofs.LeaderBounds.{all_map, leader_in}
use Rattle.dz_diff.proofs.Places.{all-append}
use Rattle.dz_step.proofs.NextSteps.{derivative_quotient}
use Rattle.dz_parametric.specs.Cones.{Direction, at_most, begun_by, cone_of, cones_of_exponents, cones_with, greatest_first, has_identity, lies_in, operators_of, rest_of, takes, takes_all}
use Rattle.dz_parametric.specs.Laws.{IsCovered, cones_around}
use Rattle.dz_parametric.specs.Parametric.{IsLed, IsParametric, leaders_in, leaders_of, with_some}
use Rattle.dz_parametric.proofs.Around.{AreZeroFrom, around, divided, one_counts, one_unless, or_right, some_divides, taken}
use Rattle.dz_parametric.proofs.Splits.{identity_none, next_exponent}

-- ---- each cone has all directions
abbrev HaveDirections : ℕ → List (List Direction) → Type 0
HaveDirections n cs = AllOf (λ ds. length ds ≡ n) cs

begun_directions : (n k : ℕ) (free : Bool) (cs : List (List Direction)) → HaveDirections n cs → HaveDirections (suc n) (begun_by k free cs)
begun_directions n k free [] h = tt
begun_directions n k free (ds ∷ cs) h = (ap suc h.0, begun_directions n k free cs h.1)

flat_directions : (n : ℕ) (f : ℕ → List (List Direction)) (ks : List ℕ) → ((k : ℕ) → HaveDirections n (f k)) → HaveDirections n (flat_map f ks)
flat_directions n f [] h = tt
flat_directions n f (k ∷ ks) h = all-append (λ ds. length ds ≡ n) (f k) (flat_map f ks) (h k) (flat_directions n f ks h)

next_directions : (n : ℕ) (ss : List (List ℕ)) → ((rs : List (List ℕ)) → HaveDirections n (cones_of_exponents n rs)) → (b : Bool) → has_identity ss ≡ b → HaveDirections (suc n) (cones_of_exponents (suc n) ss)
next_directions n ss rest true e = subst (HaveDirections (suc n)) (sym (identity_none n ss e)) tt
next_directions n ss rest false e =
    let m = greatest_first ss in
    let fixed = λ (k : ℕ). begun_by k false (cones_of_exponents n (map rest_of (at_most k ss))) in
    subst (HaveDirections (suc n)) (sym (next_exponent n ss e))
    (all-append (λ ds. length ds ≡ suc n) (flat_map fixed (range_with_len 0 m)) (begun_by m true (cones_of_exponents n (map rest_of ss)))
    (flat_directions (suc n) fixed (range_with_len 0 m) (λ k. begun_directions n k false (cones_of_exponents n (map rest_of (at_most k ss))) (rest (map rest_of (at_most k ss)))))
    (begun_directions n m true (cones_of_exponents n (map rest_of ss)) (rest (map rest_of ss))))

pub all_directions : (n : ℕ) (ss : List (List ℕ)) → HaveDirections n (cones_of_exponents n ss)
unfolding cones_of_exponents
all_directions zero [] = (refl, tt)
all_directions zero (s ∷ ss) = tt
all_directions (suc n) ss = next_directions n ss (all_directions n) (has_identity ss) refl

-- ---- a cone takes exponents
abbrev AreZero : List ℕ → Type 0
AreZero ks = list_all (λ k. k == 0) ks ≡ true

zeros_taken : (j : ℕ) (ts : List ℕ) → length ts ≡ j → AreZero ts → takes_all (replicate j false) (replicate j 0) ts ≡ true
zeros_taken zero [] e z = refl
zeros_taken zero (t ∷ ts) e z = absurd (omega arith)
zeros_taken (suc j) [] e z = absurd (omega arith)
zeros_taken (suc j) (t ∷ ts) e z =
    let b = both (t == 0) (list_all (λ k. k == 0) ts) z in
    ap₂ (λ (x y : Bool). x && y) (eq-eqb 0 t (sym (eqb-true t 0 b.0))) (zeros_taken j ts (omega (arith, e)) b.1)

filled_takes : (j : ℕ) (ds : List Direction) (ts : List ℕ) → length ts ≡ length ds + j → AreZero (drop (length ds) ts)
    → takes_all (map (λ d. d.is_free) ds ++ replicate j false) (map (λ d. d.exponent) ds ++ replicate j 0) ts ≡ taken ds ts
filled_takes j [] ts e z = zeros_taken j ts (omega (arith, e)) z
filled_takes j (d ∷ ds) [] e z = absurd (omega arith)
filled_takes j (d ∷ ds) (t ∷ ts) e z = ap (λ (b : Bool). takes d.is_free d.exponent t && b) (filled_takes j ds ts (omega (arith, e)) z)

-- ---- how many cones of a dependent a derivative lies in
count_none : {A : Type 0} (p : A → Bool) (xs : List A) → AllOf (λ x. p x ≡ false) xs → count_by p xs ≡ 0
count_none p [] h = refl
count_none p (x ∷ xs) h = sum_by-cons (λ x. cond (p x) 1 0) x xs ∙ ap₂ (λ (b : Bool) (k : ℕ). cond b 1 0 + k) h.0 (count_none p xs h.1)

module _ (n u : ℕ) (t : Operator) (few : n ≤ 4) (is : IsOperatorOf n t) (zero_behind : AreZero (drop n t.counts)) where
  lies_in_cones : (cs : List (List Direction)) → HaveDirections n cs → count_by (lies_in (Derivative u t)) (map (cone_of n u) cs) ≡ around t.counts cs
  lies_in_cones [] h = refl
  lies_in_cones (ds ∷ cs) h =
      sum_by-cons (λ c. cond (lies_in (Derivative u t) c) 1 0) (cone_of n u ds) (map (cone_of n u) cs)
      ∙ ap₂ (λ (b : Bool) (k : ℕ). cond b 1 0 + k)
      (ap₂ (λ (a b : Bool). a && b) (eq-eqb u u refl) (filled_takes (4 - n) ds t.counts (omega (arith, h.0, is.size, few)) (subst (λ m. AreZero (drop m t.counts)) (sym h.0) zero_behind)))
      (lies_in_cones cs h.1)
      ∙ sym (sum_by-cons (λ ds. cond (taken ds t.counts) 1 0) ds cs)

  others_apart : (v : ℕ) → (v ≡ u → ⊥) → (cs : List (List Direction)) → count_by (lies_in (Derivative u t)) (map (cone_of n v) cs) ≡ 0
  others_apart v h cs = count_none (lies_in (Derivative u t)) (map (cone_of n v) cs) (each cs)
    where
      each : (cs : List (List Direction)) → AllOf (λ c. lies_in (Derivative u t) c ≡ false) (map (cone_of n v) cs)
      each [] = tt
      each (ds ∷ cs) = (ap (λ (b : Bool). b && takes_all (cone_of n v ds).free (cone_of n v ds).operator.counts t.counts) (ne_eqb v u h), each cs)

  module _ (leaders : List Symbol) (z : AreZeroFrom n (operators_of u leaders)) where
    around_one : (dependents : ℕ) → u < dependents → count_by (lies_in (Derivative u t)) (flat_map (cones_with n leaders) (range_with_len 0 dependents)) ≡ one_unless (some_divides t.counts (operators_of u leaders))
    around_one dependents l =
        one_counts (lies_in (Derivative u t)) (cones_with n leaders) u (λ v h. others_apart v h (cones_of_exponents n (operators_of v leaders))) 0 dependents (omega arith) (omega (arith, l))
        ∙ lies_in_cones (cones_of_exponents n (operators_of u leaders)) (all_directions n (operators_of u leaders))
        ∙ divided n t.counts (operators_of u leaders) z

-- ---- leaders
abbrev pub Belong : RankingValue → List Symbol → Type 0
Belong r ls = AllOf (BelongsTo r.signature) ls

all_zero : (ks : List ℕ) → All (λ k. k ≡ 0) ks → AreZero ks
all_zero [] h = refl
all_zero (k ∷ ks) h = ap₂ (λ (a b : Bool). a && b) (eq-eqb k 0 (h 0 0 (omega arith))) (all_zero ks (λ i d l. h (suc i) d (omega (arith, l))))

operators_zero : (r : RankingValue) (u : ℕ) (ls : List Symbol) → Belong r ls → AreZeroFrom r.signature.independents (operators_of u ls)
operators_zero r u [] h = tt
operators_zero r u (Independent i ∷ ls) h = operators_zero r u ls h.1
operators_zero r u (Derivative v t ∷ ls) h = by (v == u) (operators_zero r u ls h.1)
  where
    by : (b : Bool) → AreZeroFrom r.signature.independents (operators_of u ls) → AreZeroFrom r.signature.independents (cond b (t.counts ∷ operators_of u ls) (operators_of u ls))
    by true k = (all_zero (drop r.signature.independents t.counts) h.0.1.zeros, k)
    by false k = k

-- the leaders of polynomials over a signature belong to it
pub leaders_belong : (r : RankingValue) (ps : Polynomials) → AllOf (PolynomialIn (BelongsTo r.signature)) ps → Belong r (leaders_of (symbols_under r) ps)
leaders_belong r [] h = tt
leaders_belong r (p ∷ ps) h = by (leader (symbols_under r) p) refl (leaders_belong r ps h.1)
  where
    by : (o : Option Symbol) → leader (symbols_under r) p ≡ o → Belong r (leaders_of (symbols_under r) ps) → Belong r (with_some o (leaders_of (symbols_under r) ps))
    by None e k = k
    by (Some l) e k = (leader_in r (BelongsTo r.signature) p l e (all_map r (BelongsTo r.signature) (λ x. is_derivative x ≡ true → BelongsTo r.signature x) (λ x h z. h) p h.0), k)

-- ---- a symbol that leads to a derivative divides it
divides_itself : (ks : List ℕ) → divides ks ks ≡ true
divides_itself [] = refl
divides_itself (k ∷ ks) = ap₂ (λ (a b : Bool). a && b) (le-leb k k (omega arith)) (divides_itself ks)

pub divides_sum : (ks ts : List ℕ) → divides ks (exponent_sums ks ts) ≡ true
divides_sum [] ts = refl
divides_sum (k ∷ ks) [] = divides_itself (k ∷ ks)
divides_sum (k ∷ ks) (t ∷ ts) = ap₂ (λ (a b : Bool). a && b) (le-leb k (k + t) (omega arith)) (divides_sum ks ts)

pub or_left : (a b : Bool) → a ≡ true → (a || b) ≡ true
or_left a b e = ap (λ (x : Bool). x || b) e

abbrev counts_of : Symbol → List ℕ
counts_of (Independent i) = []
counts_of (Derivative u t) = t.counts

abbrev dependent_of : Symbol → ℕ
dependent_of (Independent i) = 0
dependent_of (Derivative u t) = u

-- each has four exponents
abbrev pub HaveFour : List Symbol → Type 0
HaveFour ls = AllOf HasFourExponents ls

pub belong_four : (r : RankingValue) (ls : List Symbol) → Belong r ls → HaveFour ls
belong_four r [] h = tt
belong_four r (Independent i ∷ ls) h = (tt, belong_four r ls h.1)
belong_four r (Derivative v s ∷ ls) h = (h.0.1.size, belong_four r ls h.1)

module _ (u : ℕ) (t : Operator) (four : length t.counts ≡ 4) where
  here : (l : Symbol) (ls : List Symbol) → IsDerivativeOf l (Derivative u t) → some_divides t.counts (operators_of u (l ∷ ls)) ≡ true
  here (Independent i) ls h = absurd (let e = h.1.0 in cc)
  here (Derivative v s) ls h =
      ap (λ (b : Bool). some_divides t.counts (cond b (s.counts ∷ operators_of u ls) (operators_of u ls))) (eq-eqb v u (sym (ap dependent_of h.1.1)))
      ∙ or_left (divides s.counts t.counts) (some_divides t.counts (operators_of u ls)) (ap (divides s.counts) (ap counts_of h.1.1) ∙ divides_sum s.counts h.0.counts)

  later : (l : Symbol) (ls : List Symbol) → some_divides t.counts (operators_of u ls) ≡ true → some_divides t.counts (operators_of u (l ∷ ls)) ≡ true
  later (Independent i) ls h = h
  later (Derivative v s) ls h = by (v == u)
    where
      by : (b : Bool) → some_divides t.counts (cond b (s.counts ∷ operators_of u ls) (operators_of u ls)) ≡ true
      by true = or_right (divides s.counts t.counts) (some_divides t.counts (operators_of u ls)) h
      by false = h

  pub led_divides : (ls : List Symbol) (i : ℕ) (l : Symbol) → i < length ls → slice_index_or ls i l ≡ l → IsDerivativeOf l (Derivative u t) → some_divides t.counts (operators_of u ls) ≡ true
  led_divides [] i l h e d = absurd (omega arith)
  led_divides (x ∷ ls) zero l h e d = here x ls (subst (λ y. IsDerivativeOf y (Derivative u t)) (sym e) d)
  led_divides (x ∷ ls) (suc i) l h e d = later x ls (led_divides ls i l (omega (arith, h)) e d)

  more_led : (x : Symbol) (ls : List Symbol) → IsLed ls (Derivative u t) → IsLed (x ∷ ls) (Derivative u t)
  more_led x ls h = record { by = h.by; stands = (suc h.stands.0, omega (arith, h.stands.1), h.stands.2); derives = h.derives }

  first_led : (v : ℕ) (s : Operator) (ls : List Symbol) → length s.counts ≡ 4 → (v == u) ≡ true → divides s.counts t.counts ≡ true → IsLed (Derivative v s ∷ ls) (Derivative u t)
  first_led v s ls size same d =
      let tau : Operator = record { counts = exponent_differences t.counts s.counts } in
      let is : quotient (Derivative u t) (Derivative v s) ≡ Some tau = ap (λ b. cond b (Some tau) None) (ap₂ (λ (a b : Bool). a && b) (eq-eqb u v (sym (eqb-true v u same))) d) in
      record { by = Derivative v s; stands = (0, omega arith, refl); derives = (tau, (refl, sym (derivative_quotient 4 (Derivative u t) (Derivative v s) tau is four size))) }

  pub divides_led : (ls : List Symbol) → HaveFour ls → some_divides t.counts (operators_of u ls) ≡ true → IsLed ls (Derivative u t)
  divides_led [] b h = absurd cc
  divides_led (Independent i ∷ ls) b h = more_led (Independent i) ls (divides_led ls b.1 h)
  divides_led (Derivative v s ∷ ls) b h = by (v == u) refl h (λ k. more_led (Derivative v s) ls (divides_led ls b.1 k))
    where
      by : (x : Bool) → (v == u) ≡ x → some_divides t.counts (cond x (s.counts ∷ operators_of u ls) (operators_of u ls)) ≡ true → (some_divides t.counts (operators_of u ls) ≡ true → IsLed (Derivative v s ∷ ls) (Derivative u t)) → IsLed (Derivative v s ∷ ls) (Derivative u t)
      by false e h rest = rest h
      by true e h rest = at (divides s.counts t.counts) refl h
        where
          at : (y : Bool) → divides s.counts t.counts ≡ y → (y || some_divides t.counts (operators_of u ls)) ≡ true → IsLed (Derivative v s ∷ ls) (Derivative u t)
          at true f h = first_led v s ls b.0 e f
          at false f h = rest h

-- ---- the law
module _ (r : RankingValue) (few : r.signature.independents ≤ 4) (s : State) (belong : Belong r (leaders_in r s)) where
  covered_by : (u : ℕ) (t : Operator) → BelongsTo r.signature (Derivative u t) → (b : Bool) → some_divides t.counts (operators_of u (leaders_in r s)) ≡ b → cones_around r s (Derivative u t) ≡ one_unless b → IsCovered r s (Derivative u t)
  covered_by u t b true e f = record {
    parametric = (
      (λ p. absurd (p.unled (divides_led u t b.1.size (leaders_in r s) (belong_four r (leaders_in r s) belong) e))),
      (λ k. absurd (let z : 0 ≡ 1 = sym f ∙ k in omega (arith, z))),
    );
    otherwise = λ n. f;
  }
  covered_by u t b false e f = record {
    parametric = ((λ p. f), (λ k. is));
    otherwise = λ n. absurd (n is);
  }
    where
      is : IsParametric (leaders_in r s) (Derivative u t)
      is = record { derivative = refl; unled = λ h. let d = led_divides u t b.1.size (leaders_in r s) h.stands.0 h.by h.stands.1 h.stands.2 h.derives in let z : true ≡ false = sym d ∙ e in cc }

  pub covers : (w : Symbol) → IsTrue (is_derivative w) → BelongsTo r.signature w → IsCovered r s w
  covers (Independent i) d b = cc
  covers (Derivative u t) d b =
      let n = r.signature.independents in
      covered_by u t b (some_divides t.counts (operators_of u (leaders_in r s))) refl
      (around_one n u t few b.1 (all_zero (drop n t.counts) b.1.zeros) (leaders_in r s) (operators_zero r u (leaders_in r s) belong) r.signature.dependents b.0)

-- the leaders of a state of a book belong to its signature
pub leaders_stand : (book : BookValue) → IsBook book → (s : StateValue) → StandsIn book s → Belong book.ranking (leaders_in book.ranking (state_in book s))
leaders_stand book whole s stands = leaders_belong book.ranking (polynomials book s.equations) (each s.equations stands.equations_live)
  where
    each : (ps : List ℕ) → LiveAll book ps → AllOf (PolynomialIn (BelongsTo book.ranking.signature)) (polynomials book ps)
    each [] live = tt
    each (p ∷ ps) live = ((whole.each p [] (live 0 0 (omega arith))).belongs, each ps (λ i d l. live (suc i) d (omega (arith, l))))

pub covered : (book : BookValue) → IsBook book → book.ranking.signature.independents ≤ 4 → (s : StateValue) → StandsIn book s → (w : Symbol) → IsTrue (is_derivative w) → BelongsTo book.ranking.signature w → IsCovered book.ranking (state_in book s) w
covered book whole few s stands w d b = covers book.ranking few (state_in book s) (leaders_stand book whole s stands) w d b
