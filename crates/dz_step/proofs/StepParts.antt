-- What the parts of a step answer is what the step does.
use Rattle.std.proofs.Common.{◌≡◌, ◌≢◌, ◌<◌, ◌≤◌, ◌-◌, ◌∙◌, ◌++◌, inl, inr, ℕ, zero, suc, [], ◌∷◌, ℤ, pos, int_div, unsigned_abs, refl, sym, ap, ap₂, subst, arith, Result, Ok, Err, Option, Some, None}
use Rattle.std.specs.Int.{◌∣◌}
use Rattle.std.proofs.lemmas.List.Elements.{All-nil, All-cons}
use Rattle.std.proofs.Math.Nat.{eq-zero_of_zero-dvd}
use Rattle.dz_algebra.specs.Monomial.{with_power}
use Rattle.dz_algebra.specs.Norm.{gcd, content, divided}
use Rattle.dz_algebra.specs.Parts.{degree, coefficient_of}
use Rattle.dz_algebra.specs.Polynomial.{Polynomial, IsPolynomial, pairs}
use Rattle.dz_algebra.specs.Size.{Refusal, wide, large, operation, product_answer, difference_answer}
use Rattle.dz_algebra.proofs.Coefficients.{coefficient_of_is, initial_not_zero}
use Rattle.dz_algebra.proofs.Divisors.{gcd_is}
use Rattle.dz_algebra.proofs.Norms.{Divides, divides_more, content_divides, content_positive}
use Rattle.dz_rank.specs.declared.symbols.Symbol.{Symbol}
use Rattle.dz_rank.specs.Rankings.{RankingValue, ranking_cmp}
use Rattle.dz_monomials.specs.Divisions.{DividesAll}
use Rattle.dz_monomials.specs.Ranked.{symbols_under}
use Rattle.dz_monomials.specs.Signs.{with_sign}
use Rattle.dz_monomials.specs.Stops.{IsStop}
use Rattle.dz_monomials.specs.Terms.{times_power}
use Rattle.dz_monomials.specs.declared.PolyStop.{PolyStop}
use Rattle.dz_monomials.specs.declared.sign.Sign.TheVariants.{Minus}
use Rattle.dz_monomials.proofs.Summing.{minus_negates}
use Rattle.dz_monomials.proofs.SymbolLaws.{ranking_order}
use Rattle.dz_algebra.specs.Outcome.{◌>>=◌}
use Rattle.dz_step.specs.Step.{Reduction, reduction_by}

-- ---- a power changes no coefficient
content_times : (r : RankingValue) (v : Symbol) (n : ℕ) (p : Polynomial Symbol) → content (times_power (ranking_cmp r) v n p) ≡ content p
content_times r v zero p = refl
content_times r v (suc n) [] = refl
content_times r v (suc n) (t ∷ p) = ap (gcd (unsigned_abs t.1)) (content_times r v (suc n) p)

divided_times : (r : RankingValue) (v : Symbol) (n : ℕ) (k : ℤ) (p : Polynomial Symbol) → divided k (times_power (ranking_cmp r) v n p) ≡ times_power (ranking_cmp r) v n (divided k p)
divided_times r v zero k p = refl
divided_times r v (suc n) k [] = refl
divided_times r v (suc n) k (t ∷ p) = ap (λ l. (with_power (ranking_cmp r) v (suc n) t.0, int_div t.1 k) ∷ l) (divided_times r v (suc n) k p)

-- ---- the common divisor
all_divided : (k : ℕ) (p : Polynomial Symbol) → Divides k p → DividesAll k p
all_divided k [] h = All-nil (λ t. k ∣ unsigned_abs t.1)
all_divided k (t ∷ p) h = All-cons (λ t. k ∣ unsigned_abs t.1) t p h.0 (all_divided k p h.1)

-- it divides the coefficients of both
pub divides_first : (a b : Polynomial Symbol) (k : ℕ) → k ≡ gcd (content a) (content b) → DividesAll k a
divides_first a b k e = all_divided k a (divides_more k (content a) a (subst (λ n. n ∣ content a) (sym e) (gcd_is (content a) (content b)).0) (content_divides a))

pub divides_second : (a b : Polynomial Symbol) (k : ℕ) → k ≡ gcd (content a) (content b) → DividesAll k b
divides_second a b k e = all_divided k b (divides_more k (content b) b (subst (λ n. n ∣ content b) (sym e) (gcd_is (content a) (content b)).1) (content_divides b))

-- it is positive where one of them is not zero
positive_divisor : (a g : ℕ) → g ∣ a → 0 < a → 0 < g
positive_divisor a zero d l = absurd (nothing d l)
  where
    nothing : zero ∣ a → 0 < a → ⊥
    nothing d l = let z : a ≡ 0 = eq-zero_of_zero-dvd d in omega (arith, z, l)
positive_divisor a (suc g) d l = omega arith

positive_content : (r : RankingValue) (p : Polynomial Symbol) → IsPolynomial (ranking_cmp r) p → p ≢ [] → 0 < content p
positive_content r [] h n = absurd (n refl)
positive_content r (t ∷ p) h n = content_positive t p h.0

-- the coefficient of the highest power of a symbol that occurs is not zero
top_is : (r : RankingValue) (v : Symbol) (f : Polynomial Symbol) → IsPolynomial (ranking_cmp r) f → 0 < degree (ranking_cmp r) v f → 0 < content (coefficient_of (ranking_cmp r) v (degree (ranking_cmp r) v f) f)
top_is r v [] h l = absurd (omega (arith, l))
top_is r v (t ∷ f) h l =
    positive_content r (coefficient_of (ranking_cmp r) v (degree (ranking_cmp r) v (t ∷ f)) (t ∷ f)) (coefficient_of_is (ranking_order r) v (degree (ranking_cmp r) v (t ∷ f)) (t ∷ f) h) (initial_not_zero (ranking_order r) v (t ∷ f) (λ e. cc))

-- ---- what the parts of a step answer
-- a refusal ends what would follow
pub stop_first : {A B : Type 0} (stop : PolyStop) (x : Result A Refusal) (next : A → Result B Refusal) → IsStop stop x → IsStop stop (x >>= next)
stop_first stop (Ok a) next (inl h) = inl h
stop_first stop (Ok a) next (inr h) = absurd (nothing h)
  where
    nothing : ◌≡◌ {A = Option PolyStop} None (Some stop) → ⊥
    nothing h = cc
stop_first stop (Err wide) next h = h
stop_first stop (Err (large l)) next h = h

module _ (r : RankingValue) (f q m : Polynomial Symbol) (v : Symbol) (e : ℕ) where
  abbrev d : ℕ
  d = degree (ranking_cmp r) v f

  abbrev c : Polynomial Symbol
  c = coefficient_of (ranking_cmp r) v d f

  -- the number that both factors are divided by
  pub common : (top : Polynomial Symbol) (k : ℕ) → top ≡ times_power (ranking_cmp r) v (d - e) c → k ≡ gcd (content m) (content top) → k ≡ gcd (content m) (content c)
  common top k s t = t ∙ ap (gcd (content m)) (ap content s ∙ content_times r v (d - e) c)

  pub at_least_one : (top : Polynomial Symbol) (k : ℕ) → top ≡ times_power (ranking_cmp r) v (d - e) c → k ≡ gcd (content m) (content top) → IsPolynomial (ranking_cmp r) f → 0 < d → 1 ≤ k
  at_least_one top k s t h l = let g : gcd (content m) (content c) ∣ content c = (gcd_is (content m) (content c)).1 in let p : 0 < gcd (content m) (content c) = positive_divisor (content c) (gcd (content m) (content c)) g (top_is r v f h l) in omega (arith, p, common top k s t)

  module _ (top : Polynomial Symbol) (k : ℕ) (s : top ≡ times_power (ranking_cmp r) v (d - e) c) (t : k ≡ gcd (content m) (content top)) (factor shift : Polynomial Symbol) (first_is : factor ≡ divided (pos k) m) (second_is : shift ≡ divided (pos k) top) where
    -- both factors of the products
    first : divided (pos (gcd (content m) (content c))) m ≡ factor
    first = ap (λ n. divided (pos n) m) (sym (common top k s t)) ∙ sym first_is

    second : times_power (ranking_cmp r) v (d - e) (divided (pos (gcd (content m) (content c))) c) ≡ shift
    second = ap (λ n. times_power (ranking_cmp r) v (d - e) (divided (pos n) c)) (sym (common top k s t)) ∙ sym (divided_times r v (d - e) (pos k) c) ∙ ap (divided (pos k)) (sym s) ∙ sym second_is

    abbrev left_answer : Result (Polynomial Symbol) Refusal
    left_answer = operation (symbols_under r) (pairs (ranking_cmp r) factor f)

    abbrev right_answer : Result (Polynomial Symbol) Refusal
    right_answer = operation (symbols_under r) (pairs (ranking_cmp r) shift q)

    abbrev made : Polynomial Symbol → Reduction
    made x = record { factor = factor; shift = shift; rest = x }

    -- the reduction, in its parts
    in_parts : reduction_by (symbols_under r) f q m v d e ≡ (left_answer >>= (λ a. right_answer >>= (λ b. difference_answer (symbols_under r) a b >>= (λ x. Ok (made x)))))
    in_parts = ap₂ (λ x y. product_answer (symbols_under r) x f >>= (λ a. product_answer (symbols_under r) y q >>= (λ b. difference_answer (symbols_under r) a b >>= (λ z. Ok (record { factor = x; shift = y; rest = z }))))) first second

    -- where no part is refused, the parts are the reduction
    pub result_is : (a b x : Polynomial Symbol) → left_answer ≡ Ok a → right_answer ≡ Ok b → operation (symbols_under r) (a ++ with_sign Minus b) ≡ Ok x → reduction_by (symbols_under r) f q m v d e ≡ Ok (made x)
    result_is a b x h i j =
        in_parts
        ∙ ap (λ (l : Result (Polynomial Symbol) Refusal). l >>= (λ a. right_answer >>= (λ b. difference_answer (symbols_under r) a b >>= (λ x. Ok (made x))))) h
        ∙ ap (λ (l : Result (Polynomial Symbol) Refusal). l >>= (λ b. difference_answer (symbols_under r) a b >>= (λ x. Ok (made x)))) i
        ∙ ap (λ p. operation (symbols_under r) (a ++ p) >>= (λ x. Ok (made x))) (sym (minus_negates b))
        ∙ ap (λ (l : Result (Polynomial Symbol) Refusal). l >>= (λ x. Ok (made x))) j

    -- where one is, so is the reduction
    pub left_refused : (stop : PolyStop) → IsStop stop left_answer → IsStop stop (reduction_by (symbols_under r) f q m v d e)
    left_refused stop h = subst (IsStop stop) (sym in_parts) (stop_first stop left_answer _ h)

    pub right_refused : (stop : PolyStop) (a : Polynomial Symbol) → left_answer ≡ Ok a → IsStop stop right_answer → IsStop stop (reduction_by (symbols_under r) f q m v d e)
    right_refused stop a h i =
        subst (IsStop stop) (sym (in_parts ∙ ap (λ (l : Result (Polynomial Symbol) Refusal). l >>= (λ a. right_answer >>= (λ b. difference_answer (symbols_under r) a b >>= (λ x. Ok (made x))))) h))
        (stop_first stop right_answer _ i)

    pub rest_refused : (stop : PolyStop) (a b : Polynomial Symbol) → left_answer ≡ Ok a → right_answer ≡ Ok b → IsStop stop (operation (symbols_under r) (a ++ with_sign Minus b)) → IsStop stop (reduction_by (symbols_under r) f q m v d e)
    rest_refused stop a b h i j =
        subst (IsStop stop)
        (sym (in_parts
        ∙ ap (λ (l : Result (Polynomial Symbol) Refusal). l >>= (λ a. right_answer >>= (λ b. difference_answer (symbols_under r) a b >>= (λ x. Ok (made x))))) h
        ∙ ap (λ (l : Result (Polynomial Symbol) Refusal). l >>= (λ b. difference_answer (symbols_under r) a b >>= (λ x. Ok (made x)))) i
        ∙ ap (λ p. operation (symbols_under r) (a ++ p) >>= (λ x. Ok (made x))) (sym (minus_negates b))))
        (stop_first stop (operation (symbols_under r) (a ++ with_sign Minus b)) _ j)
