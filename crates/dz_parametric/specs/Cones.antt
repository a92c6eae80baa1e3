-- Cones of derivatives (after Riquier; the form is this project's).
use Rattle.std.specs.Prelude.{ℕ, zero, suc, ◌-◌, max, nat_le, Bool, true, false, ◌&&◌, ◌==◌, cond, List, [], ◌∷◌, ◌++◌, map, replicate, flat_map}
use Rattle.std.specs.List.{filter, list_all, list_any, range_with_len}
use Rattle.dz_rank.specs.Rankings.{RankingValue}
use Rattle.dz_rank.specs.declared.symbols.Symbol.{Symbol}
use Rattle.dz_rank.specs.declared.symbols.Symbol.TheVariants.{Independent, Derivative}
use Rattle.dz_diff.specs.State.{State}
use Rattle.dz_parametric.specs.declared.listing.Cone.{Cone}
use Rattle.dz_parametric.specs.Parametric.{leaders_in}

-- ---- cones of exponents
-- a direction of a cone: an exponent, and whether greater ones are taken too
pub record Direction : Type 0 where
  pub exponent : ℕ
  pub is_free : Bool

-- the first of some exponents
abbrev pub first_of : List ℕ → ℕ
first_of [] = 0
first_of (k ∷ ks) = k

-- those behind it
abbrev pub rest_of : List ℕ → List ℕ
rest_of [] = []
rest_of (k ∷ ks) = ks

-- the greatest first exponent
abbrev pub greatest_first : List (List ℕ) → ℕ
greatest_first [] = 0
greatest_first (s ∷ ss) = max (first_of s) (greatest_first ss)

-- those with a first exponent of at most k
abbrev pub at_most : ℕ → List (List ℕ) → List (List ℕ)
at_most k ss = filter (λ s. nat_le (first_of s) k) ss

-- one of them has no exponent but zero
abbrev pub has_identity : List (List ℕ) → Bool
has_identity ss = list_any (λ s. list_all (λ k. k == 0) s) ss

-- a direction put before others
abbrev pub begun_by : ℕ → Bool → List (List Direction) → List (List Direction)
begun_by k free cones = map (λ ds. record { exponent = k; is_free = free } ∷ ds) cones

-- The cones of operators, by their exponents in the n directions that are left: no operator leaves one cone, which is free in
-- all of them; an operator that is zero in all of them leaves none; and else there are those with an exponent less than the
-- greatest one, of the operators that it reaches, and those with that one or more.
unfoldable pub cones_of_exponents : ℕ → List (List ℕ) → List (List Direction)
cones_of_exponents n [] = replicate n (record { exponent = 0; is_free = true }) ∷ []
cones_of_exponents zero (s ∷ ss) = []
cones_of_exponents (suc n) (s ∷ ss) =
    let m = greatest_first (s ∷ ss) in
    cond (has_identity (s ∷ ss)) []
    (flat_map (λ k. begun_by k false (cones_of_exponents n (map rest_of (at_most k (s ∷ ss))))) (range_with_len 0 m) ++ begun_by m true (cones_of_exponents n (map rest_of (s ∷ ss))))

-- ---- cones of derivatives
-- the exponents of the symbols that are derivatives of u
abbrev pub operators_of : ℕ → List Symbol → List (List ℕ)
operators_of u [] = []
operators_of u (Independent i ∷ ls) = operators_of u ls
operators_of u (Derivative v t ∷ ls) = cond (v == u) (t.counts ∷ operators_of u ls) (operators_of u ls)

-- a cone of the derivatives of u with these n first directions; in those behind, the exponent is zero and not free
abbrev pub cone_of : ℕ → ℕ → List Direction → Cone
cone_of n u ds = record {
  dependent = u;
  operator = record { counts = map (λ d. d.exponent) ds ++ replicate (4 - n) 0 };
  free = map (λ d. d.is_free) ds ++ replicate (4 - n) false;
}

-- the cones of a dependent u that symbols lead to, over n independents
abbrev pub cones_with : ℕ → List Symbol → ℕ → List Cone
cones_with n leaders u = map (cone_of n u) (cones_of_exponents n (operators_of u leaders))

-- the cones of a state, per dependent in order
abbrev pub cones_of : RankingValue → State → List Cone
cones_of r s = flat_map (cones_with r.signature.independents (leaders_in r s)) (range_with_len 0 r.signature.dependents)

-- ---- what lies in a cone
-- an exponent t is one of a direction with the exponent k
abbrev pub takes : Bool → ℕ → ℕ → Bool
takes free k t = cond free (nat_le k t) (k == t)

-- each exponent is one of its direction
abbrev pub takes_all : List Bool → List ℕ → List ℕ → Bool
takes_all (f ∷ fs) (k ∷ ks) (t ∷ ts) = takes f k t && takes_all fs ks ts
takes_all [] [] [] = true
takes_all fs ks ts = false

-- a symbol is a derivative that lies in a cone
abbrev pub lies_in : Symbol → Cone → Bool
lies_in (Independent i) c = false
lies_in (Derivative u t) c = (c.dependent == u) && takes_all c.free c.operator.counts t.counts
