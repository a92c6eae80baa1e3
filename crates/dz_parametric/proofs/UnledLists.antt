-- The derivatives that no leader leads to, as they are listed exponent by exponent, and sorted.
use Rattle.std.specs.List.{filter, flat_map, range_with_len}
use Rattle.std.specs.List.Sorted.{IsPermutation, IsSorted}
use Rattle.std.specs.Prelude.{nat_le, not, replicate, ⊤, ◌&&◌}
use Rattle.std.proofs.Common.{◌≡◌, ◌≤◌, ◌+◌, ◌-◌, ◌∙◌, inl, inr, ℕ, zero, suc, Bool, true, false, cond, List, [], ◌∷◌, ◌++◌, length, map, take, drop, refl, sym, ap, ap₂, subst, arith, leb-true}
use Rattle.std.specs.declared.cmp.Ordering.{Ordering}
use Rattle.std.proofs.lemmas.Bool.{le-leb}
use Rattle.std.proofs.lemmas.List.Elements.{filter-append}
use Rattle.dz_algebra.specs.Order.{IsOrder}
use Rattle.dz_algebra.proofs.Outcomes.{both, either}
use Rattle.dz_rank.specs.Rankings.{RankingValue, ranking_cmp}
use Rattle.dz_rank.specs.Symbols.{is_derivative}
use Rattle.dz_rank.specs.declared.symbols.Symbol.{Symbol}
use Rattle.dz_rank.specs.declared.symbols.Symbol.TheVariants.{Independent, Derivative}
use Rattle.dz_monomials.proofs.SymbolLaws.{ranking_order}
use Rattle.dz_monomials.specs.Lists.{AllOf}
use Rattle.dz_diff.specs.Operators.{divides}
use Rattle.dz_parametric.specs.Choosing.{is_unled}
use Rattle.dz_parametric.specs.Cones.{operators_of}
use Rattle.dz_parametric.specs.Orders.{derivatives_from, derivatives_to, exponents_to, rising}
use Rattle.dz_parametric.proofs.Around.{or_right, some_divides}
use Rattle.dz_parametric.proofs.Chosen.{all_filter, in_filter, passes_filter, rising_filter}
use Rattle.dz_parametric.proofs.ConeLaws.{or_left}
use Rattle.dz_parametric.proofs.Listings.{all_made, last_listed}
use Rattle.dz_parametric.proofs.Members.{In, all_flat_map, all_range, of_member}
use Rattle.dz_parametric.proofs.OrderLists.{Exponents, IsListed, Zeros, all_derivatives, all_exponents, all_rising, in_rising, length_filled, ordered_rising, tail}
use Rattle.dz_parametric.proofs.SortedSymbols.{NoRepeat, all_in, no_repeat_derivatives, ordered_rises, same_rising, sorted_is_rising}

-- ---- what a leader leads to, with greater exponents
-- each exponent is at most the one at its place
abbrev Below : List ℕ → List ℕ → Type 0
Below [] [] = ⊤
Below (k ∷ ks) (l ∷ ls) = (k ≤ l) × Below ks ls
Below ks ls = ⊥

divides_more : (s ks ls : List ℕ) → Below ks ls → divides s ks ≡ true → divides s ls ≡ true
divides_more [] ks ls b d = refl
divides_more (k ∷ s) [] [] b d = d
divides_more (k ∷ s) [] (l ∷ ls) b d = absurd b
divides_more (k ∷ s) (x ∷ ks) [] b d = absurd b
divides_more (k ∷ s) (x ∷ ks) (l ∷ ls) b d =
    let h = both (nat_le k x) (divides s ks) d in
    let low : k ≤ x = leb-true _ _ h.0 in
    ap₂ (λ (a c : Bool). a && c) (le-leb k l (omega (arith, low, b.0))) (divides_more s ks ls b.1 h.1)

some_more : (ks ls : List ℕ) (ss : List (List ℕ)) → Below ks ls → some_divides ks ss ≡ true → some_divides ls ss ≡ true
some_more ks ls [] b h = h
some_more ks ls (s ∷ ss) b h = elim (either (divides s ks) (some_divides ks ss) h) [
  | inl d ↦ or_left (divides s ls) (some_divides ls ss) (divides_more s ks ls b d)
  | inr d ↦ or_right (divides s ls) (some_divides ls ss) (some_more ks ls ss b d)
]

zeros_below : (ks ls : List ℕ) → Zeros ks → length ks ≡ length ls → Below ks ls
zeros_below [] [] z e = tt
zeros_below [] (l ∷ ls) z e = absurd (omega arith)
zeros_below (k ∷ ks) [] z e = absurd (omega arith)
zeros_below (k ∷ ks) (l ∷ ls) z e = let first : k ≡ 0 = z 0 0 (omega arith) in (omega (arith, first), zeros_below ks ls (tail k ks z) (omega arith))

-- exponents in the place of zeros
put_below : (i z : ℕ) (ks js : List ℕ) → length ks ≡ i + (length js + z) → Zeros (drop i ks) → Below ks ((take i ks ++ js) ++ replicate z 0)
put_below zero z ks js e h = zeros_below ks (js ++ replicate z 0) h (omega (arith, e, length_filled js z))
put_below (suc i) z [] js e h = absurd (omega arith)
put_below (suc i) z (k ∷ ks) js e h = (omega arith, put_below i z ks js (omega (arith, e)) h)

-- ---- lists of those that pass
none_left : (p : Symbol → Bool) (ss : List Symbol) → AllOf (λ s. p s ≡ false) ss → filter p ss ≡ []
none_left p [] h = refl
none_left p (s ∷ ss) h = by (p s) h.0 (none_left p ss h.1)
  where
    by : (b : Bool) → b ≡ false → filter p ss ≡ [] → cond b (s ∷ filter p ss) (filter p ss) ≡ []
    by true e k = cc
    by false e k = k

all_left : (p : Symbol → Bool) (ss : List Symbol) → AllOf (λ s. p s ≡ true) ss → filter p ss ≡ ss
all_left p [] h = refl
all_left p (s ∷ ss) h = by (p s) h.0 (all_left p ss h.1)
  where
    by : (b : Bool) → b ≡ true → filter p ss ≡ ss → cond b (s ∷ filter p ss) (filter p ss) ≡ s ∷ ss
    by true e k = ap (λ zs. s ∷ zs) k
    by false e k = cc

pub flat_filtered : {B : Type 0} (p : Symbol → Bool) (f : B → List Symbol) (xs : List B) → flat_map (λ x. filter p (f x)) xs ≡ filter p (flat_map f xs)
flat_filtered p f [] = refl
flat_filtered p f (x ∷ xs) = ap (λ zs. filter p (f x) ++ zs) (flat_filtered p f xs) ∙ sym (filter-append p (f x) (flat_map f xs))

no_repeat_filter : (p : Symbol → Bool) (ss : List Symbol) → NoRepeat ss → NoRepeat (filter p ss)
no_repeat_filter p [] h = tt
no_repeat_filter p (s ∷ ss) h = by (p s) (no_repeat_filter p ss h.1)
  where
    by : (b : Bool) → NoRepeat (filter p ss) → NoRepeat (cond b (s ∷ filter p ss) (filter p ss))
    by true k = ((λ i. h.0 (of_member (λ t. In t ss) s (filter p ss) (all_filter p (λ t. In t ss) ss (all_in ss)) i)), k)
    by false k = k

-- the rising list of those that pass
rising_filtered : {cmp : Symbol → Symbol → Ordering} (order : IsOrder cmp) (p : Symbol → Bool) (ss : List Symbol) → AllOf (λ t. is_derivative t ≡ true) ss → rising cmp (filter p ss) ≡ filter p (rising cmp ss)
rising_filtered {cmp} order p ss proper =
    let some = all_filter p (λ t. is_derivative t ≡ true) ss proper in
    same_rising order (rising cmp (filter p ss)) (filter p (rising cmp ss))
    (ordered_rises order (rising cmp (filter p ss)) (all_rising order (λ t. is_derivative t ≡ true) (filter p ss) some) (ordered_rising order (filter p ss) some))
    (rising_filter p cmp (rising cmp ss) (ordered_rises order (rising cmp ss) (all_rising order (λ t. is_derivative t ≡ true) ss proper) (ordered_rising order ss proper)))
    (λ s h.
    let k = of_member (λ t. In t (filter p ss)) s (rising cmp (filter p ss)) (all_rising order (λ t. In t (filter p ss)) (filter p ss) (all_in (filter p ss))) h in
    in_filter p s (rising cmp ss) (in_rising order s ss (of_member (λ t. In t ss) s (filter p ss) (all_filter p (λ t. In t ss) ss (all_in ss)) k)) (of_member (λ t. p t ≡ true) s (filter p ss) (passes_filter p ss) k))
    (λ s h.
    let k = of_member (λ t. In t (rising cmp ss)) s (filter p (rising cmp ss)) (all_filter p (λ t. In t (rising cmp ss)) (rising cmp ss) (all_in (rising cmp ss))) h in
    in_rising order s (filter p ss) (in_filter p s ss (of_member (λ t. In t ss) s (rising cmp ss) (all_rising order (λ t. In t ss) ss (all_in ss)) k) (of_member (λ t. p t ≡ true) s (filter p (rising cmp ss)) (passes_filter p (rising cmp ss)) h)))

-- ---- exponent by exponent
module _ (ls : List Symbol) (n u m : ℕ) (few : n ≤ 4) where
  -- nothing is left of what a leader leads to
  pub none_unled : (i : ℕ) (ks : List ℕ) → length ks ≡ 4 → i ≤ n → Zeros (drop i ks) → is_unled ls (Derivative u (record { counts = ks })) ≡ false
      → filter (is_unled ls) (derivatives_from n u (take i ks) (n - i) m) ≡ []
  none_unled i ks size within z h = none_left (is_unled ls) (derivatives_from n u (take i ks) (n - i) m) (each (exponents_to (n - i) m) (all_exponents (n - i) m))
    where
      is_led : (b : Bool) → not b ≡ false → b ≡ true
      is_led true e = refl
      is_led false e = cc

      led : some_divides ks (operators_of u ls) ≡ true
      led = is_led (some_divides ks (operators_of u ls)) h

      each : (xs : List (List ℕ)) → AllOf (Exponents (n - i) m) xs → AllOf (λ s. is_unled ls s ≡ false) (map (λ (js : List ℕ). Derivative u (record { counts = (take i ks ++ js) ++ replicate (4 - n) 0 })) xs)
      each [] a = tt
      each (js ∷ xs) a = (ap not (some_more ks ((take i ks ++ js) ++ replicate (4 - n) 0) (operators_of u ls) (put_below i (4 - n) ks js (omega (arith, size, within, few, a.0.0)) z) led), each xs a.1)

  -- one derivative, where no exponent is left
  pub last_unled : (ks : List ℕ) → length ks ≡ 4 → Zeros (drop n ks) → is_unled ls (Derivative u (record { counts = ks })) ≡ true
      → Derivative u (record { counts = ks }) ∷ [] ≡ filter (is_unled ls) (derivatives_from n u (take n ks) (n - n) m)
  last_unled ks size z h = sym (all_left (is_unled ls) (Derivative u (record { counts = ks }) ∷ []) (h, tt)) ∙ ap (filter (is_unled ls)) (last_listed n u m ks size few z)

-- ---- all of them, sorted
module _ (r : RankingValue) (m : ℕ) where
  abbrev n : ℕ
  n = r.signature.independents

  abbrev whole : List Symbol
  whole = flat_map (λ v. derivatives_from n v [] n m) (range_with_len 0 r.signature.dependents)

  proper : AllOf (λ s. is_derivative s ≡ true) whole
  proper =
      all_flat_map (λ v. derivatives_from n v [] n m) (λ s. is_derivative s ≡ true) (range_with_len 0 r.signature.dependents)
      (all_range (λ v. AllOf (λ s. is_derivative s ≡ true) (derivatives_from n v [] n m)) 0 r.signature.dependents (λ v a b. all_made r m v (exponents_to n m)))

  pub unled_sorted : (ls xs ys : List Symbol) → xs ≡ flat_map (λ v. filter (is_unled ls) (derivatives_from n v [] n m)) (range_with_len 0 r.signature.dependents)
      → IsPermutation xs ys → IsSorted (ranking_cmp r) ys → ys ≡ filter (is_unled ls) (derivatives_to r m)
  unfolding derivatives_to
  unled_sorted ls xs ys e p up =
      let is : xs ≡ filter (is_unled ls) whole = e ∙ flat_filtered (is_unled ls) (λ v. derivatives_from n v [] n m) (range_with_len 0 r.signature.dependents) in
      sorted_is_rising (ranking_order r) xs ys
      (subst NoRepeat (sym is) (no_repeat_filter (is_unled ls) whole (no_repeat_derivatives (replicate (4 - n) 0) n m r.signature.dependents)))
      (subst (AllOf (λ s. is_derivative s ≡ true)) (sym is) (all_filter (is_unled ls) (λ s. is_derivative s ≡ true) whole proper)) p up
      ∙ ap (rising (ranking_cmp r)) is ∙ rising_filtered (ranking_order r) (is_unled ls) whole proper

-- where nothing leads, all derivatives are left
all_unled : (ss : List Symbol) → AllOf (λ s. is_derivative s ≡ true) ss → filter (is_unled []) ss ≡ ss
all_unled ss h = all_left (is_unled []) ss (each ss h)
  where
    unled : (s : Symbol) → is_derivative s ≡ true → is_unled [] s ≡ true
    unled (Independent i) e = cc
    unled (Derivative u t) e = refl

    each : (xs : List Symbol) → AllOf (λ s. is_derivative s ≡ true) xs → AllOf (λ s. is_unled [] s ≡ true) xs
    each [] k = tt
    each (x ∷ xs) k = (unled x k.0, each xs k.1)

pub derivatives_unled : (r : RankingValue) → r.signature.independents ≤ 4 → (m : ℕ) → filter (is_unled []) (derivatives_to r m) ≡ derivatives_to r m
derivatives_unled r few m = all_unled (derivatives_to r m) (each (derivatives_to r m) (all_derivatives r few m))
  where
    each : (xs : List Symbol) → AllOf (λ s. IsListed r few m s × (is_derivative s ≡ true)) xs → AllOf (λ s. is_derivative s ≡ true) xs
    each [] h = tt
    each (x ∷ xs) h = (h.0.1, each xs h.1)
