-- A step of eight entries.
use Rattle.std.proofs.Common.{◌≡◌, ℕ, zero, suc, ◌+◌, ◌-◌, ◌*◌, ◌<◌, ◌≤◌, ◌||◌, List, [], ◌∷◌, ◌++◌, length, take, drop, refl, sym, ap, ◌∙◌, Bool, true, false, nat_eq, arith, eqb→eq, subst, T}
use Rattle.std.proofs.lemmas.List.{append-nil, drop-drop, drop_all, length-drop, length-take-le, take_all}
use Rattle.std.proofs.lemmas.Simd.{Each1-from_get_or, length-zip2, take_more_put_chunk}
use Rattle.std.specs.Simd.Lanes.{Each1, sum_l, zip2, put_chunk}
use Rattle.std.specs.Prelude.{sum, get_or, set}
use Rattle.std.specs.List.{fold}
use Rattle.std.specs.declared.cmp.Ordering.{Ordering}
use Rattle.std.specs.declared.cmp.Ordering.TheVariants.{Less, Equal, Greater}
use Rattle.std.specs.Ordering.{ordering_reverse}
use Rattle.std.proofs.lemmas.Cmp.{nat_cmp_total}
use mir.Val.{Fits}
use mir.Syntax.{w16}
use Rattle.std.specs.Ordering.{nat_cmp}
use Rattle.std.specs.Cmp.Lexicographic.{slice_cmp}
use mathlib.Core.Bool.{not}
use Rattle.dz_lane.specs.Rows.{any_pair}
use borrow.Rule.Slice.PartMut.{post_of, put_mid}
use Rattle.dz_lane.proofs.Masks.{or_false}

-- where no pair of a front passes, the test is left to the rest
rest_of_pairs : (test : ℕ → ℕ → Bool) (n : ℕ) (xs ys : List ℕ) → any_pair test (take n xs) (take n ys) ≡ false → any_pair test xs ys ≡ any_pair test (drop n xs) (drop n ys)
rest_of_pairs test zero xs ys e = refl
rest_of_pairs test (suc n) [] ys e = refl
rest_of_pairs test (suc n) (x ∷ xs) [] e = no_pair (drop n xs)
  where
    -- a row and an empty one have no pair
    no_pair : (zs : List ℕ) → false ≡ any_pair test zs []
    no_pair [] = refl
    no_pair (z ∷ zs) = refl
rest_of_pairs test (suc n) (x ∷ xs) (y ∷ ys) e =
    let both = or_false (test x y) (any_pair test (take n xs) (take n ys)) e in ap (λ b. b || any_pair test xs ys) both.0 ∙ rest_of_pairs test n xs ys both.1

-- where no pair of the next n passes, the test is left to what comes after
pub past_vector : (test : ℕ → ℕ → Bool) (n i : ℕ) (xs ys : List ℕ) → any_pair test (take n (drop i xs)) (take n (drop i ys)) ≡ false
    → any_pair test (drop i xs) (drop i ys) ≡ any_pair test (drop (i + n) xs) (drop (i + n) ys)
past_vector test n i xs ys e = rest_of_pairs test n (drop i xs) (drop i ys) e ∙ ap (λ zs. any_pair test zs (drop n (drop i ys))) (drop-drop n i xs) ∙ ap (λ zs. any_pair test (drop (i + n) xs) zs) (drop-drop n i ys)

-- what does not differ is the same
same_entry : (x y : ℕ) → not (nat_eq x y) ≡ false → x ≡ y
same_entry x y e = eqb→eq x y (is_true (nat_eq x y) e)
  where
    -- what is not false is true
    is_true : (b : Bool) → not b ≡ false → T b
    is_true true e = tt
    is_true false e = cc

-- an order that is its own reverse is Equal
own_reverse : (o : Ordering) → o ≡ ordering_reverse o → o ≡ Equal
own_reverse Less e = cc
own_reverse Equal e = refl
own_reverse Greater e = cc

-- a number ties with itself
nat_cmp_same : (x : ℕ) → nat_cmp x x ≡ Equal
nat_cmp_same x = own_reverse (nat_cmp x x) (nat_cmp_total.antisymm x x)

-- where no entry of a front differs, the rest decides
rest_of_order : (n : ℕ) (xs ys : List ℕ) → length xs ≡ length ys → any_pair (λ x y. not (nat_eq x y)) (take n xs) (take n ys) ≡ false → slice_cmp nat_cmp xs ys ≡ slice_cmp nat_cmp (drop n xs) (drop n ys)
rest_of_order zero xs ys long e = refl
rest_of_order (suc n) [] [] long e = refl
rest_of_order (suc n) [] (y ∷ ys) long e = absurd (omega arith)
rest_of_order (suc n) (x ∷ xs) [] long e = absurd (omega arith)
rest_of_order (suc n) (x ∷ xs) (y ∷ ys) long e =
    let both = or_false (not (nat_eq x y)) (any_pair (λ a b. not (nat_eq a b)) (take n xs) (take n ys)) e in
    ap (λ z. slice_cmp nat_cmp (x ∷ xs) (z ∷ ys)) (sym (same_entry x y both.0)) ∙ rw (nat_cmp_same x) (rest_of_order n xs ys (omega arith) both.1)

-- where the next eight do not differ, what comes after decides
pub past_equal : (i : ℕ) (xs ys : List ℕ) → length xs ≡ length ys → any_pair (λ x y. not (nat_eq x y)) (take 8 (drop i xs)) (take 8 (drop i ys)) ≡ false
    → slice_cmp nat_cmp (drop i xs) (drop i ys) ≡ slice_cmp nat_cmp (drop (i + 8) xs) (drop (i + 8) ys)
past_equal i xs ys long e =
    rest_of_order 8 (drop i xs) (drop i ys) (omega (arith, long, length-drop i xs, length-drop i ys)) e
    ∙ ap (λ zs. slice_cmp nat_cmp zs (drop 8 (drop i ys))) (drop-drop 8 i xs) ∙ ap (λ zs. slice_cmp nat_cmp (drop (i + 8) xs) zs) (drop-drop 8 i ys)

-- a sum from a beginning on
pub sum_is : (a : ℕ) (xs : List ℕ) → fold ◌+◌ a xs ≡ a + sum_l xs
sum_is a [] = omega arith
sum_is a (x ∷ xs) = sum_is (a + x) xs ∙ (let same : a + x + sum_l xs ≡ a + (x + sum_l xs) = omega arith in same)

-- nothing sums up to 0
nothing_taken : (n : ℕ) → sum_l (take n []) ≡ 0
nothing_taken zero = refl
nothing_taken (suc n) = refl

-- the sum of a longer front
sum_ahead : (i n : ℕ) (xs : List ℕ) → sum_l (take (i + n) xs) ≡ sum_l (take i xs) + sum_l (take n (drop i xs))
sum_ahead zero n xs = let same : 0 + n ≡ n = omega arith in rw same (let zero_first : sum_l (take n xs) ≡ 0 + sum_l (take n xs) = omega arith in zero_first)
sum_ahead (suc i) n [] = let same : suc i + n ≡ suc (i + n) = omega arith in rw same (omega (arith, nothing_taken n))
sum_ahead (suc i) n (x ∷ xs) = let same : suc i + n ≡ suc (i + n) = omega arith in rw same (omega (arith, sum_ahead i n xs))

-- the same by the sum of the contract
pub summed_ahead : (i n : ℕ) (xs : List ℕ) → sum (take (i + n) xs) ≡ sum (take i xs) + sum_l (take n (drop i xs))
summed_ahead i n xs = omega (arith, sum_is 0 (take (i + n) xs), sum_is 0 (take i xs), sum_ahead i n xs)

-- a sum of exponents has a bound
sum_low : (n : ℕ) (xs : List ℕ) → Each1 (λ a. a ≤ 65535) xs → sum_l (take n xs) ≤ 65535 * length xs
sum_low zero xs h = omega arith
sum_low (suc n) [] h = omega arith
sum_low (suc n) (x ∷ xs) h = let rest = sum_low n xs h.1 in omega (arith, rest, h.0)

-- the degree of a row of at most 64 entries fits 32 bits
pub degree_fits : (n : ℕ) (xs : List ℕ) → ((k : ℕ) → Fits w16 (get_or xs k 0)) → length xs ≤ 64 → sum (take n xs) ≤ 4194240
degree_fits n xs fits few =
    let each : Each1 (λ a. a ≤ 65535) xs = Each1-from_get_or (λ a. a ≤ 65535) xs 0 (λ k lt. let f = (fits k).fits in omega (arith, f)) in
    omega (arith, sum_is 0 (take n xs), sum_low n xs each)

module _ (test : ℕ → ℕ → Bool) where
  -- a disjunction with a second side that follows
  or_either : (b c d : Bool) → (c ≡ true → d ≡ true) → b || c ≡ true → b || d ≡ true
  or_either true c d f e = refl
  or_either false c d f e = f e

  -- some pair passes where one of a front does
  front_passes : (n : ℕ) (xs ys : List ℕ) → any_pair test (take n xs) (take n ys) ≡ true → any_pair test xs ys ≡ true
  front_passes zero xs ys e = cc
  front_passes (suc n) [] ys e = cc
  front_passes (suc n) (x ∷ xs) [] e = cc
  front_passes (suc n) (x ∷ xs) (y ∷ ys) e = or_either (test x y) (any_pair test (take n xs) (take n ys)) (any_pair test xs ys) (front_passes n xs ys) e

  -- some pair passes where one of a vector does
  pub vector_passes : (n i : ℕ) (xs ys : List ℕ) → any_pair test xs ys ≡ any_pair test (drop i xs) (drop i ys) → any_pair test (take n (drop i xs)) (take n (drop i ys)) ≡ true
      → true ≡ any_pair test xs ys
  vector_passes n i xs ys same e = sym (same ∙ front_passes n (drop i xs) (drop i ys) e)

  -- no pair of a front passes where none of all does
  front_free : (n : ℕ) (xs ys : List ℕ) → any_pair test xs ys ≡ false → any_pair test (take n xs) (take n ys) ≡ false
  front_free zero xs ys e = refl
  front_free (suc n) [] ys e = refl
  front_free (suc n) (x ∷ xs) [] e = refl
  front_free (suc n) (x ∷ xs) (y ∷ ys) e = let both = or_false (test x y) (any_pair test xs ys) e in rw (both.0) (front_free n xs ys both.1)

  -- and none of a rest
  back_free : (i : ℕ) (xs ys : List ℕ) → length xs ≡ length ys → any_pair test xs ys ≡ false → any_pair test (drop i xs) (drop i ys) ≡ false
  back_free zero xs ys long e = e
  back_free (suc i) [] [] long e = refl
  back_free (suc i) [] (y ∷ ys) long e = absurd (omega arith)
  back_free (suc i) (x ∷ xs) [] long e = absurd (omega arith)
  back_free (suc i) (x ∷ xs) (y ∷ ys) long e = back_free i xs ys (omega arith) (or_false (test x y) (any_pair test xs ys) e).1

  -- a vector of two rows of which no pair passes the test
  pub vector_free : (n i : ℕ) (xs ys : List ℕ) → length xs ≡ length ys → any_pair test xs ys ≡ false → any_pair test (take n (drop i xs)) (take n (drop i ys)) ≡ false
  vector_free n i xs ys long e = front_free n (drop i xs) (drop i ys) (back_free i xs ys long e)

  -- the rest of them
  pub rest_free : (i : ℕ) (xs ys : List ℕ) → length xs ≡ length ys → any_pair test xs ys ≡ false → any_pair test (take (length xs - i) (drop i xs)) (take (length ys - i) (drop i ys)) ≡ false
  rest_free i xs ys long e = subst (λ k. any_pair test (take (length xs - i) (drop i xs)) (take (k - i) (drop i ys)) ≡ false) long (vector_free (length xs - i) i xs ys long e)

  -- an entry
  pub entry_free : (i : ℕ) (xs ys : List ℕ) → length xs ≡ length ys → i < length xs → any_pair test xs ys ≡ false → test (get_or xs i 0) (get_or ys i 0) ≡ false
  entry_free i [] ys long lt e = absurd (omega arith)
  entry_free i (x ∷ xs) [] long lt e = absurd (omega arith)
  entry_free zero (x ∷ xs) (y ∷ ys) long lt e = (or_false (test x y) (any_pair test xs ys) e).0
  entry_free (suc i) (x ∷ xs) (y ∷ ys) long lt e = entry_free i xs ys (omega arith) (omega arith) (or_false (test x y) (any_pair test xs ys) e).1

module _ (f : ℕ → ℕ → ℕ) where
  -- the sums of a longer front
  zip_ahead : (i n : ℕ) (xs ys : List ℕ) → length xs ≡ length ys → zip2 f (take (i + n) xs) (take (i + n) ys) ≡ zip2 f (take i xs) (take i ys) ++ zip2 f (take n (drop i xs)) (take n (drop i ys))
  zip_ahead zero n xs ys long = let same : 0 + n ≡ n = omega arith in rw same refl
  zip_ahead (suc i) n [] [] long = let same : suc i + n ≡ suc (i + n) = omega arith in rw same (nil_zipped n)
    where
      -- those of nothing are nothing
      nil_zipped : (n : ℕ) → [] ≡ zip2 f (take n []) (take n [])
      nil_zipped zero = refl
      nil_zipped (suc n) = refl
  zip_ahead (suc i) n [] (y ∷ ys) long = absurd (omega arith)
  zip_ahead (suc i) n (x ∷ xs) [] long = absurd (omega arith)
  zip_ahead (suc i) n (x ∷ xs) (y ∷ ys) long = let same : suc i + n ≡ suc (i + n) = omega arith in rw same (ap (λ zs. f x y ∷ zs) (zip_ahead i n xs ys (omega arith)))

  -- a vector that is written lengthens the front that is written
  pub vector_put : (n i : ℕ) (into xs ys lanes : List ℕ) → length xs ≡ length ys → length into ≡ length xs → i + n ≤ length xs → take i into ≡ zip2 f (take i xs) (take i ys)
      → lanes ≡ zip2 f (take n (drop i xs)) (take n (drop i ys)) → take (i + n) (put_chunk i into lanes) ≡ zip2 f (take (i + n) xs) (take (i + n) ys)
  vector_put n i into xs ys lanes long room le done is =
      let many : length (take n (drop i xs)) ≡ n = length-take-le n (drop i xs) (omega (arith, length-drop i xs)) in
      let many₁ : length (take n (drop i ys)) ≡ n = length-take-le n (drop i ys) (omega (arith, length-drop i ys)) in
      let lanes_long : length lanes ≡ n = ap length is ∙ length-zip2 f (take n (drop i xs)) (take n (drop i ys)) (many ∙ sym many₁) ∙ many in
      take_more_put_chunk i into lanes (i + n) (omega (arith, lanes_long)) (omega arith) ∙ ap (λ zs. zs ++ lanes) done ∙ ap (λ zs. zip2 f (take i xs) (take i ys) ++ zs) is ∙ sym (zip_ahead i n xs ys long)

  -- those of a front and of the rest
  zip_split : (i : ℕ) (xs ys : List ℕ) → length xs ≡ length ys → zip2 f (take i xs) (take i ys) ++ zip2 f (drop i xs) (drop i ys) ≡ zip2 f xs ys
  zip_split zero xs ys long = refl
  zip_split (suc i) [] [] long = refl
  zip_split (suc i) [] (y ∷ ys) long = absurd (omega arith)
  zip_split (suc i) (x ∷ xs) [] long = absurd (omega arith)
  zip_split (suc i) (x ∷ xs) (y ∷ ys) long = ap (λ zs. f x y ∷ zs) (zip_split i xs ys (omega arith))

  -- a front is written, and then the rest in place of what stood there
  pub rest_put : (i : ℕ) (into xs ys new : List ℕ) → length xs ≡ length ys → length into ≡ length xs → i ≤ length xs → take i into ≡ zip2 f (take i xs) (take i ys)
      → new ≡ zip2 f (take (length xs - i) (drop i xs)) (take (length ys - i) (drop i ys)) → put_mid i (length into - i) into new ≡ zip2 f xs ys
  rest_put i into xs ys new long room le done is =
      let nothing : post_of i (length into - i) into ≡ [] = drop_all (length into - i) (drop i into) (omega (arith, length-drop i into)) in
      let all : take (length xs - i) (drop i xs) ≡ drop i xs = take_all (length xs - i) (drop i xs) (omega (arith, length-drop i xs)) in
      let all₁ : take (length ys - i) (drop i ys) ≡ drop i ys = take_all (length ys - i) (drop i ys) (omega (arith, length-drop i ys)) in
      ap (λ zs. take i into ++ (new ++ zs)) nothing ∙ ap (λ zs. take i into ++ zs) (append-nil new ∙ is ∙ ap (λ zs. zip2 f zs (take (length ys - i) (drop i ys))) all ∙ ap (λ zs. zip2 f (drop i xs) zs) all₁)
      ∙ ap (λ zs. zs ++ zip2 f (drop i xs) (drop i ys)) done ∙ zip_split i xs ys long

  -- an entry that is written lengthens the front by it
  set_taken : (i : ℕ) (into : List ℕ) (v : ℕ) → i < length into → take (i + 1) (set into i v) ≡ take i into ++ v ∷ []
  set_taken i [] v lt = absurd (omega arith)
  set_taken zero (z ∷ into) v lt = refl
  set_taken (suc i) (z ∷ into) v lt = let same : suc i + 1 ≡ suc (i + 1) = omega arith in rw same (ap (λ zs. z ∷ zs) (set_taken i into v (omega arith)))

  -- the next one
  one_zipped : (i : ℕ) (xs ys : List ℕ) → length xs ≡ length ys → i < length xs → zip2 f (take 1 (drop i xs)) (take 1 (drop i ys)) ≡ f (get_or xs i 0) (get_or ys i 0) ∷ []
  one_zipped i [] ys long lt = absurd (omega arith)
  one_zipped i (x ∷ xs) [] long lt = absurd (omega arith)
  one_zipped zero (x ∷ xs) (y ∷ ys) long lt = refl
  one_zipped (suc i) (x ∷ xs) (y ∷ ys) long lt = one_zipped i xs ys (omega arith) (omega arith)

  -- an entry that is written lengthens the front that is written
  pub entry_put : (i : ℕ) (into xs ys : List ℕ) → length xs ≡ length ys → length into ≡ length xs → i < length xs → take i into ≡ zip2 f (take i xs) (take i ys)
      → take (i + 1) (set into i (f (get_or xs i 0) (get_or ys i 0))) ≡ zip2 f (take (i + 1) xs) (take (i + 1) ys)
  entry_put i into xs ys long room lt done =
      set_taken i into (f (get_or xs i 0) (get_or ys i 0)) (omega arith) ∙ ap (λ zs. zs ++ f (get_or xs i 0) (get_or ys i 0) ∷ []) done
      ∙ ap (λ zs. zip2 f (take i xs) (take i ys) ++ zs) (sym (one_zipped i xs ys long lt)) ∙ sym (zip_ahead i 1 xs ys long)
