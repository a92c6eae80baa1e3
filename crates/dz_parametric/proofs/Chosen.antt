-- The derivatives that no leader leads to are the parametric ones.
use Rattle.std.specs.List.{Contains, filter}
use Rattle.std.specs.Prelude.{not}
use Rattle.std.proofs.Common.{◌≡◌, ◌<◌, ◌≤◌, ◌+◌, ◌∙◌, inl, inr, ℕ, zero, suc, Bool, true, false, cond, List, [], ◌∷◌, All, IsTrue, length, drop, slice_index_or, refl, sym, ap, subst, arith}
use Rattle.std.specs.declared.cmp.Ordering.{Ordering}
use Rattle.std.specs.declared.cmp.Ordering.TheVariants.{Less}
use Rattle.dz_rank.specs.Rankings.{RankingValue, ranking_cmp}
use Rattle.dz_rank.specs.Symbols.{BelongsTo, HasFourExponents, IsDerivativeOf, is_derivative}
use Rattle.dz_rank.specs.declared.symbols.Symbol.{Symbol}
use Rattle.dz_rank.specs.declared.symbols.Symbol.TheVariants.{Independent, Derivative}
use Rattle.dz_monomials.proofs.SymbolLaws.{ranking_order}
use Rattle.dz_monomials.specs.Lists.{AllOf}
use Rattle.dz_parametric.specs.Choosing.{is_unled}
use Rattle.dz_parametric.specs.Cones.{operators_of}
use Rattle.dz_parametric.specs.Orders.{IsRising, derivatives_to}
use Rattle.dz_parametric.specs.Parametric.{IsLed, IsParametricTo}
use Rattle.dz_parametric.proofs.Around.{some_divides}
use Rattle.dz_parametric.proofs.ConeLaws.{HaveFour, divides_led, led_divides}
use Rattle.dz_parametric.proofs.Members.{In}
use Rattle.dz_parametric.proofs.OrderLists.{IsListed, all_derivatives, in_derivatives_to, rises}
use Rattle.dz_parametric.proofs.SortedSymbols.{in_contained, ordered_rises}

-- ---- the loop over leaders
-- a leader that is passed does not lead
pub led_later : (ls : List Symbol) (i : ℕ) (d w : Symbol) → i < length ls → (IsDerivativeOf (slice_index_or ls i d) w → ⊥) → IsLed (drop i ls) w → IsLed (drop (i + 1) ls) w
led_later ls i d w h n k = subst (λ j. IsLed (drop j ls) w) (let f : suc i ≡ i + 1 = omega arith in f) (at ls i h n k)
  where
    behind : (x : Symbol) (ls : List Symbol) → (IsDerivativeOf x w → ⊥) → (y : Symbol) → IsDerivativeOf y w → Contains (x ∷ ls) y → IsLed ls w
    behind x ls n y e (zero, a, b) = absurd (n (subst (λ z. IsDerivativeOf z w) (sym b) e))
    behind x ls n y e (suc j, a, b) = record { by = y; stands = (j, omega (arith, a), b); derives = e }

    at : (ls : List Symbol) (i : ℕ) → i < length ls → (IsDerivativeOf (slice_index_or ls i d) w → ⊥) → IsLed (drop i ls) w → IsLed (drop (suc i) ls) w
    at [] i h n k = absurd (omega arith)
    at (x ∷ ls) zero h n k = behind x ls n k.by k.derives k.stands
    at (x ∷ ls) (suc i) h n k = at ls i (omega (arith, h)) n k

-- ---- the test of a derivative
pub led_false : (ls : List Symbol) (w : Symbol) → HasFourExponents w → IsLed ls w → is_unled ls w ≡ false
led_false ls (Independent i) f h = refl
led_false ls (Derivative u t) f h = ap not (led_divides u t f ls h.stands.0 h.by h.stands.1 h.stands.2 h.derives)

pub unled_true : (ls : List Symbol) (w : Symbol) → HaveFour ls → HasFourExponents w → IsTrue (is_derivative w) → (IsLed ls w → ⊥) → is_unled ls w ≡ true
unled_true ls (Independent i) h f d n = cc
unled_true ls (Derivative u t) h f d n = by (some_divides t.counts (operators_of u ls)) refl
  where
    by : (b : Bool) → some_divides t.counts (operators_of u ls) ≡ b → not b ≡ true
    by false e = refl
    by true e = absurd (n (divides_led u t f ls h e))

true_unled : (ls : List Symbol) (w : Symbol) → HasFourExponents w → is_unled ls w ≡ true → IsLed ls w → ⊥
true_unled ls w f e h = let k = led_false ls w f h in let z : true ≡ false = sym e ∙ k in cc

-- ---- lists of those that pass a test
module _ (p : Symbol → Bool) where
  pub all_filter : (P : Symbol → Type 0) (xs : List Symbol) → AllOf P xs → AllOf P (filter p xs)
  all_filter P [] h = tt
  all_filter P (x ∷ xs) h = by (p x) (all_filter P xs h.1)
    where
      by : (b : Bool) → AllOf P (filter p xs) → AllOf P (cond b (x ∷ filter p xs) (filter p xs))
      by true k = (h.0, k)
      by false k = k

  pub rising_filter : (cmp : Symbol → Symbol → Ordering) (xs : List Symbol) → IsRising cmp xs → IsRising cmp (filter p xs)
  rising_filter cmp [] h = tt
  rising_filter cmp (x ∷ xs) h = by (p x) (rising_filter cmp xs h.1)
    where
      by : (b : Bool) → IsRising cmp (filter p xs) → IsRising cmp (cond b (x ∷ filter p xs) (filter p xs))
      by true k = (all_filter (λ t. cmp x t ≡ Less) xs h.0, k)
      by false k = k

pub passes_filter : (p : Symbol → Bool) (xs : List Symbol) → AllOf (λ x. p x ≡ true) (filter p xs)
passes_filter p [] = tt
passes_filter p (x ∷ xs) = by (p x) refl (passes_filter p xs)
  where
    by : (b : Bool) → p x ≡ b → AllOf (λ x. p x ≡ true) (filter p xs) → AllOf (λ x. p x ≡ true) (cond b (x ∷ filter p xs) (filter p xs))
    by true e k = (e, k)
    by false e k = k

pub in_filter : (p : Symbol → Bool) (x : Symbol) (xs : List Symbol) → In x xs → p x ≡ true → In x (filter p xs)
in_filter p x [] h e = absurd h
in_filter p x (y ∷ xs) h e = by (p y) refl h (λ k. in_filter p x xs k e)
  where
    by : (b : Bool) → p y ≡ b → In x (y ∷ xs) → (In x xs → In x (filter p xs)) → In x (cond b (y ∷ filter p xs) (filter p xs))
    by true f (inl g) rest = inl g
    by true f (inr g) rest = inr (rest g)
    by false f (inl g) rest = absurd (let k : p x ≡ p y = ap p (sym g) in let z : true ≡ false = sym e ∙ k ∙ f in cc)
    by false f (inr g) rest = rest g

both_all : (P Q R : Symbol → Type 0) (xs : List Symbol) → ((s : Symbol) → P s → Q s → R s) → AllOf P xs → AllOf Q xs → AllOf R xs
both_all P Q R [] f h k = tt
both_all P Q R (x ∷ xs) f h k = (f x h.0 k.0, both_all P Q R xs f h.1 k.1)

pub all_indices : (P : Symbol → Type 0) (xs : List Symbol) → AllOf P xs → All P xs
all_indices P [] h i d l = absurd (omega arith)
all_indices P (x ∷ xs) h zero d l = h.0
all_indices P (x ∷ xs) h (suc i) d l = all_indices P xs h.1 i d (omega (arith, l))

pub from_indices : (P : Symbol → Type 0) (xs : List Symbol) → All P xs → AllOf P xs
from_indices P [] h = tt
from_indices P (x ∷ xs) h = (h 0 x (omega arith), from_indices P xs (λ i d l. h (suc i) d (omega (arith, l))))

-- ---- the derivatives up to an order
module _ (r : RankingValue) (few : r.signature.independents ≤ 4) (m : ℕ) where
  four : (s : Symbol) → BelongsTo r.signature s → HasFourExponents s
  four (Independent i) b = tt
  four (Derivative u t) b = b.1.size

  weaker : (P Q : Symbol → Type 0) (xs : List Symbol) → ((s : Symbol) → P s → Q s) → AllOf P xs → AllOf Q xs
  weaker P Q [] f h = tt
  weaker P Q (x ∷ xs) f h = (f x h.0, weaker P Q xs f h.1)

  abbrev Known : Symbol → Type 0
  Known s = IsListed r few m s × (is_derivative s ≡ true)

  known : AllOf Known (derivatives_to r m)
  known = all_derivatives r few m

  module _ (ls : List Symbol) (h : HaveFour ls) where
    abbrev pub chosen : List Symbol
    chosen = filter (is_unled ls) (derivatives_to r m)

    pub chosen_rise : IsRising (ranking_cmp r) chosen
    chosen_rise = rising_filter (is_unled ls) (ranking_cmp r) (derivatives_to r m) (ordered_rises (ranking_order r) (derivatives_to r m) (weaker Known (λ s. is_derivative s ≡ true) (derivatives_to r m) (λ s h. h.1) known) (rises r few m))

    pub chosen_parametric : All (IsParametricTo r ls m) chosen
    chosen_parametric = all_indices (IsParametricTo r ls m) chosen
        (both_all Known (λ w. is_unled ls w ≡ true) (IsParametricTo r ls m) chosen
        (λ s k e. record { parametric = record { derivative = k.1; unled = true_unled ls s (four s k.0.belongs) e }; belongs = k.0.belongs; within = k.0.within })
        (all_filter (is_unled ls) Known (derivatives_to r m) known) (passes_filter (is_unled ls) (derivatives_to r m)))

    pub all_chosen : (w : Symbol) → IsParametricTo r ls m w → Contains chosen w
    all_chosen w p = in_contained chosen w (in_filter (is_unled ls) w (derivatives_to r m) (in_derivatives_to r few m w p.parametric.derivative p.belongs p.within) (unled_true ls w h (four w p.belongs) p.parametric.derivative p.parametric.unled))
