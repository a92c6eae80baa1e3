-- What the test `any` of a mask of lanes says.
use Rattle.std.proofs.Common.{◌≡◌, ℕ, ◌+◌, ◌*◌, ◌%◌, ◌<◌, ◌≤◌, ◌^◌, ◌||◌, List, [], ◌∷◌, map, length, refl, sym, ap, ◌∙◌, Bool, true, false, nat_eq, nat_lt, arith, cond}
use Rattle.std.specs.Simd.Lanes.{zip2, Each1, Each2, mask_l, top, sum_l, fold_l}
use Rattle.std.proofs.lemmas.Simd.{tops_compared, mask_l-mod, length-zip2, fold-sum, adds_fit, sum-zip2}
use Rattle.std.proofs.lemmas.Bool.Decides.{nat_tests}
use mathlib.Core.Bool.{not}
use mir.Val.{Fits}
use mir.Syntax.{w16, w32}
use Rattle.dz_lane.specs.Rows.{any_pair}

-- one of them is true
abbrev pub any_true : List Bool → Bool
any_true [] = false
any_true (b ∷ bs) = b || any_true bs

-- a mask is not 0 where one of its lanes is set
pub mask_any : (ms : List Bool) → not (nat_eq (mask_l ms) 0) ≡ any_true ms
mask_any [] = refl
mask_any (true ∷ ms) = grind (arith, nat_tests)
mask_any (false ∷ ms) = let same : nat_eq (0 + 2 * mask_l ms) 0 ≡ nat_eq (mask_l ms) 0 = grind (arith, nat_tests) in ap not same ∙ mask_any ms

-- a sum that passes its lane comes out below the first lane
pub wraps : (x y : ℕ) → x < 65536 → y < 65536 → nat_lt ((x + y) % 65536) x ≡ nat_lt 65535 (x + y)
wraps x y p q = grind (arith, nat_tests)

-- so sums that wrap tell whether some pair passes
pub any_wraps : (xs ys : List ℕ) → length xs ≡ length ys → Each1 (Fits w16) xs → Each1 (Fits w16) ys
    → any_true (zip2 nat_lt (zip2 (λ x y. (x + y) % 65536) xs ys) xs) ≡ any_pair (λ x y. nat_lt 65535 (x + y)) xs ys
any_wraps [] ys e f g = refl
any_wraps (x ∷ xs) [] e f g = absurd (omega arith)
any_wraps (x ∷ xs) (y ∷ ys) e f g =
    ap (λ b. b || any_true (zip2 nat_lt (zip2 (λ x y. (x + y) % 65536) xs ys) xs)) (wraps x y f.0.fits g.0.fits)
    ∙ ap (λ r. nat_lt 65535 (x + y) || r) (any_wraps xs ys (omega arith) f.1 g.1)

-- the test of a comparison with the sums
pub sums_pass_said : (xs ys : List ℕ) → length xs ≡ length ys → length xs ≤ 64 → Each1 (Fits w16) xs → Each1 (Fits w16) ys
    → not (nat_eq (mask_l (map (top 15) (zip2 (λ a b. cond (nat_lt a b) 65535 0) (zip2 (λ x y. (x + y) % 65536) xs ys) xs)) % 18446744073709551616) 0)
    ≡ any_pair (λ x y. nat_lt 65535 (x + y)) xs ys
sums_pass_said xs ys same few f g =
    let sums : List ℕ = zip2 (λ x y. (x + y) % 65536) xs ys in
    let long : length sums ≡ length xs = length-zip2 (λ (x y : ℕ). (x + y) % 65536) xs ys same in
    let short : length (zip2 nat_lt sums xs) ≤ 64 = rw (length-zip2 nat_lt sums xs long, long) few in
    rw (tops_compared w16 nat_lt sums xs, mask_l-mod (zip2 nat_lt sums xs) 64 short) (mask_any (zip2 nat_lt sums xs) ∙ any_wraps xs ys same f g)

-- the test of each pair
pub any_pairs : (test : ℕ → ℕ → Bool) (xs ys : List ℕ) → any_true (zip2 test xs ys) ≡ any_pair test xs ys
any_pairs test [] ys = refl
any_pairs test (x ∷ xs) [] = refl
any_pairs test (x ∷ xs) (y ∷ ys) = ap (λ r. test x y || r) (any_pairs test xs ys)

-- the test `any` of a comparison
pub compared_said : (test : ℕ → ℕ → Bool) (xs ys : List ℕ) → length xs ≡ length ys → length xs ≤ 64
    → not (nat_eq (mask_l (map (top 15) (zip2 (λ a b. cond (test a b) 65535 0) xs ys)) % 18446744073709551616) 0) ≡ any_pair test xs ys
compared_said test xs ys same few =
    let short : length (zip2 test xs ys) ≤ 64 = rw (length-zip2 test xs ys same) few in
    rw (tops_compared w16 test xs ys, mask_l-mod (zip2 test xs ys) 64 short) (mask_any (zip2 test xs ys) ∙ any_pairs test xs ys)

-- neither of two is true where their disjunction is false
pub or_false : (a b : Bool) → a || b ≡ false → (a ≡ false) × (b ≡ false)
or_false true b e = cc
or_false false b e = (refl, e)

-- what does not pass the greatest exponent fits
pub not_past : (n : ℕ) → nat_lt 65535 n ≡ false → n < 2 ^ 16
not_past n e = grind (arith, nat_tests)

-- what is not below is as great
pub not_below : (x y : ℕ) → nat_lt x y ≡ false → y ≤ x
not_below x y e = grind (arith, nat_tests)

-- where no pair passes, all sums fit
pub sums_fit : (xs ys : List ℕ) → any_pair (λ x y. nat_lt 65535 (x + y)) xs ys ≡ false → Each2 (λ x y. Fits w16 (x + y)) xs ys
sums_fit [] ys e = tt
sums_fit (x ∷ xs) [] e = tt
sums_fit (x ∷ xs) (y ∷ ys) e = let both = or_false (nat_lt 65535 (x + y)) (any_pair (λ a b. nat_lt 65535 (a + b)) xs ys) e in (record { fits = not_past (x + y) both.0 }, sums_fit xs ys both.1)

-- where no pair falls below, all differences do
pub none_below : (xs ys : List ℕ) → any_pair (λ x y. nat_lt x y) xs ys ≡ false → Each2 (λ x y. y ≤ x) xs ys
none_below [] ys e = tt
none_below (x ∷ xs) [] e = tt
none_below (x ∷ xs) (y ∷ ys) e = let both = or_false (nat_lt x y) (any_pair nat_lt xs ys) e in (not_below x y both.0, none_below xs ys both.1)

-- nothing is changed by a map that changes nothing
map_same : (xs : List ℕ) → map (λ x. x) xs ≡ xs
map_same [] = refl
map_same (x ∷ xs) = ap (λ ys. x ∷ ys) (map_same xs)

-- sums that are increased, lane by lane, by wider copies of entries
pub increased_said : (sums xs : List ℕ) → length sums ≡ 8 → length xs ≡ 8 → sum_l (zip2 (λ x y. x + y) sums (map (λ x. x) xs)) ≡ sum_l sums + sum_l xs
increased_said sums xs m n = rw (map_same xs) (sum-zip2 sums xs (m ∙ sym n))

-- they fit where their sum does
pub increased_fit : (sums xs : List ℕ) → sum_l sums + sum_l xs < 2 ^ 32 → Each2 (λ x y. Fits w32 (x + y)) sums (map (λ x. x) xs)
increased_fit sums xs lt = rw (map_same xs) (adds_fit w32 sums xs lt)

-- a sum lane by lane is the sum of the lanes
pub total_said : (xs : List ℕ) → fold_l (λ s x. s + x) 0 xs ≡ sum_l xs
total_said xs = fold-sum 0 xs ∙ (let zero_first : 0 + sum_l xs ≡ sum_l xs = omega arith in zero_first)
