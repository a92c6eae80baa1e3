-- The equations, one after another.
use Rattle.std.proofs.Common.{◌≡◌, ◌∙◌, ◌≤◌, ◌<◌, ◌+◌, ◌*◌, ◌++◌, ℕ, ℤ, zero, suc, List, [], ◌∷◌, All, length, slice_index_or, refl, ap, ap₂, sym, subst, arith}
use Rattle.std.specs.Prelude.{pos, ◌-ℤ◌, unsigned_abs}
use Rattle.std.proofs.lemmas.Int.{ints}
use Rattle.std.proofs.lemmas.List.{append_assoc}
use Rattle.dz_sample.specs.declared.equations.Rates.{Rates}
use Rattle.dz_sample.specs.declared.equations.SampleEquation.{SampleEquation}
use Rattle.dz_sample.specs.Draws.{draw, drawn_number, next_state, state_after}
use Rattle.dz_sample.specs.Sample.{AreSmall, drawn_equation, first_equations, first_rates, further_equation, further_equations, rate, rates_of, two_equations}

-- one draw more
pub state_more : (seed n m : ℕ) → m ≡ n + 1 → state_after seed m ≡ next_state (state_after seed n)
unfolding state_after
state_more seed n zero e = absurd (omega arith)
state_more seed n (suc m) e = let same : m ≡ n = omega arith in ap (λ k. next_state (state_after seed k)) same

pub rates_more : (seed n : ℕ) → first_rates seed (n + 1) ≡ first_rates seed n ++ rates_of seed n ∷ []
unfolding first_rates
rates_more seed n = go (n + 1) (omega arith)
  where
    go : (m : ℕ) → m ≡ n + 1 → first_rates seed m ≡ first_rates seed n ++ rates_of seed n ∷ []
    go zero e = absurd (omega arith)
    go (suc m) e = let same : m ≡ n = omega arith in ap (λ k. first_rates seed k ++ rates_of seed k ∷ []) same

pub equations_more : (seed n : ℕ) → first_equations seed (n + 1) ≡ first_equations seed n ++ two_equations n (rates_of seed n)
unfolding first_equations
equations_more seed n = go (n + 1) (omega arith)
  where
    go : (m : ℕ) → m ≡ n + 1 → first_equations seed m ≡ first_equations seed n ++ two_equations n (rates_of seed n)
    go zero e = absurd (omega arith)
    go (suc m) e = let same : m ≡ n = omega arith in ap (λ k. first_equations seed k ++ two_equations k (rates_of seed k)) same

further_more : (seed n : ℕ) → further_equations seed (n + 1) ≡ further_equations seed n ++ further_equation seed n ∷ []
unfolding further_equations
further_more seed n = go (n + 1) (omega arith)
  where
    go : (m : ℕ) → m ≡ n + 1 → further_equations seed m ≡ further_equations seed n ++ further_equation seed n ∷ []
    go zero e = absurd (omega arith)
    go (suc m) e = let same : m ≡ n = omega arith in ap (λ k. further_equations seed k ++ further_equation seed k ∷ []) same

-- the rates that are drawn next are those of the next dependent
pub drawn_rates : (seed i s : ℕ) (first second : ℤ) → s ≡ state_after seed (2 * i)
    → first ≡ pos (drawn_number 19 (next_state s)) -ℤ pos 9 → second ≡ pos (drawn_number 19 (next_state (next_state s))) -ℤ pos 9
    → record { first = first; second = second } ≡ rates_of seed i
drawn_rates seed i s first second is one two =
    let once : next_state s ≡ state_after seed (2 * i + 1) = ap next_state is ∙ sym (state_more seed (2 * i) (2 * i + 1) (omega arith)) in
    let twice : next_state (next_state s) ≡ state_after seed (2 * i + 2) = ap next_state once ∙ sym (state_more seed (2 * i + 1) (2 * i + 2) (omega arith)) in
    ap₂ (λ (x y : ℤ). record { first = x; second = y })
    (one ∙ ap (λ t. pos (drawn_number 19 t) -ℤ pos 9) once) (two ∙ ap (λ t. pos (drawn_number 19 t) -ℤ pos 9) twice)

pub two_draws : (seed i s : ℕ) → s ≡ state_after seed (2 * i) → next_state (next_state s) ≡ state_after seed (2 * (i + 1))
two_draws seed i s is =
    let once : next_state s ≡ state_after seed (2 * i + 1) = ap next_state is ∙ sym (state_more seed (2 * i) (2 * i + 1) (omega arith)) in
    ap next_state once ∙ sym (state_more seed (2 * i + 1) (2 * (i + 1)) (omega arith))

-- ---- what the rates are
pub rate_small : (seed n : ℕ) → unsigned_abs (rate seed n) ≤ 9
rate_small seed n = go (draw seed n 19) (omega arith)
  where
    go : (d : ℕ) → d < 19 → unsigned_abs (pos d -ℤ pos 9) ≤ 9
    go d below = omega (arith, ints)

pub rates_length : (seed : ℕ) → length (first_rates seed 8) ≡ 8
unfolding first_rates
rates_length seed = refl

rates_at : (seed i : ℕ) (d : Rates) → i < 8 → slice_index_or (first_rates seed 8) i d ≡ rates_of seed i
unfolding first_rates
rates_at seed zero d below = refl
rates_at seed (suc zero) d below = refl
rates_at seed (suc (suc zero)) d below = refl
rates_at seed (suc (suc (suc zero))) d below = refl
rates_at seed (suc (suc (suc (suc zero)))) d below = refl
rates_at seed (suc (suc (suc (suc (suc zero))))) d below = refl
rates_at seed (suc (suc (suc (suc (suc (suc zero)))))) d below = refl
rates_at seed (suc (suc (suc (suc (suc (suc (suc zero))))))) d below = refl
rates_at seed (suc (suc (suc (suc (suc (suc (suc (suc i)))))))) d below = absurd (omega arith)

pub rates_small : (seed : ℕ) → All AreSmall (first_rates seed 8)
unfolding first_rates
rates_small seed = λ k d below.
    subst AreSmall (sym (rates_at seed k d below)) (rate_small seed (2 * k + 1), rate_small seed (2 * k + 2))

-- the equation that is drawn next is the next one
drawn_next : (seed j s : ℕ) → s ≡ state_after seed (3 * j + 16) → drawn_equation (first_rates seed 8) s ≡ further_equation seed j
drawn_next seed j s is =
    let once : next_state s ≡ state_after seed (3 * j + 17) = ap next_state is ∙ sym (state_more seed (3 * j + 16) (3 * j + 17) (omega arith)) in
    let twice : next_state (next_state s) ≡ state_after seed (3 * j + 18) = ap next_state once ∙ sym (state_more seed (3 * j + 17) (3 * j + 18) (omega arith)) in
    let thrice : next_state (next_state (next_state s)) ≡ state_after seed (3 * j + 19) = ap next_state twice ∙ sym (state_more seed (3 * j + 18) (3 * j + 19) (omega arith)) in
    rw (thrice, twice, once, rates_at seed (draw seed (3 * j + 17) 8) (record { first = pos 0; second = pos 0 }) (omega arith)) refl

pub next_drawn : (seed j s : ℕ) (rates : List Rates) (x : SampleEquation) → rates ≡ first_rates seed 8 → s ≡ state_after seed (3 * j + 16) → x ≡ drawn_equation rates s → x ≡ further_equation seed j
next_drawn seed j s rates x are is drawn = drawn ∙ ap (λ (rs : List Rates). drawn_equation rs s) are ∙ drawn_next seed j s is

pub three_draws : (seed j s : ℕ) → s ≡ state_after seed (3 * j + 16) → next_state (next_state (next_state s)) ≡ state_after seed (3 * (j + 1) + 16)
three_draws seed j s is =
    let once : next_state s ≡ state_after seed (3 * j + 17) = ap next_state is ∙ sym (state_more seed (3 * j + 16) (3 * j + 17) (omega arith)) in
    let twice : next_state (next_state s) ≡ state_after seed (3 * j + 18) = ap next_state once ∙ sym (state_more seed (3 * j + 17) (3 * j + 18) (omega arith)) in
    ap next_state twice ∙ sym (state_more seed (3 * j + 18) (3 * (j + 1) + 16) (omega arith))

-- two equations more are those of the next dependent
pub two_more : (seed n : ℕ) (xs ys zs : List SampleEquation) (a b : SampleEquation) → xs ≡ first_equations seed n → ys ≡ xs ++ a ∷ [] → zs ≡ ys ++ b ∷ []
    → a ∷ b ∷ [] ≡ two_equations n (rates_of seed n) → zs ≡ first_equations seed (n + 1)
two_more seed n xs ys zs a b old one two are =
    two ∙ (ap (λ l. l ++ b ∷ []) one ∙ (append_assoc xs (a ∷ []) (b ∷ []) ∙ (ap₂ (λ l m. l ++ m) old are ∙ sym (equations_more seed n))))

-- and one further equation more is the next one
pub one_more : (seed n : ℕ) (front xs ys : List SampleEquation) (x : SampleEquation) → xs ≡ front ++ further_equations seed n → x ≡ further_equation seed n → ys ≡ xs ++ x ∷ []
    → ys ≡ front ++ further_equations seed (n + 1)
one_more seed n front xs ys x old is more =
    more ∙ ap₂ (λ (l : List SampleEquation) (e : SampleEquation). l ++ e ∷ []) old is
    ∙ append_assoc front (further_equations seed n) (further_equation seed n ∷ []) ∙ ap (λ (l : List SampleEquation). front ++ l) (sym (further_more seed n))
