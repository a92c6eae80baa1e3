-- What contributions make at a monomial before anything cancels (this project).
use Rattle.std.specs.Prelude.{ℕ, ◌+◌, ◌-◌, ◌^◌, nat_le, Bool, List, [], ◌∷◌, map, ℤ, ◌+ℤ◌, unsigned_abs}
use Rattle.std.specs.declared.cmp.Ordering.{Ordering}
use Rattle.std.specs.List.{list_all}
use Rattle.dz_algebra.specs.Monomial.{Monomial, monomial_cmp}
use Rattle.dz_algebra.specs.Polynomial.{Polynomial, Contributions, keep}
use Rattle.dz_algebra.specs.Gather.{gather}

-- the sum of contributions, and the sum of their absolute values
pub record Amount : Type 0 where
  pub total : ℤ
  pub majorant : ℕ

-- both sums add
abbrev pub add_amounts : Amount → Amount → Amount
add_amounts a b = record { total = a.total +ℤ b.total; majorant = a.majorant + b.majorant }

-- one contribution
abbrev pub amount : ℤ → Amount
amount c = record { total = c; majorant = unsigned_abs c }

-- each contribution as an amount
abbrev pub amounts : {M : Type 0} → List (M × ℤ) → List (M × Amount)
amounts ts = map (λ t. (t.0, amount t.1)) ts

-- the amount at each monomial at which a contribution lands, the greatest first
abbrev pub gathered : {S : Type 0} → (S → S → Ordering) → Contributions S → List (Monomial S × Amount)
gathered cmp ts = gather (monomial_cmp cmp) add_amounts (amounts ts)

-- the terms whose sum is not zero
abbrev pub nonzero : {S : Type 0} → List (Monomial S × Amount) → Polynomial S
nonzero [] = []
nonzero (t ∷ ts) = keep t.0 t.1.total (nonzero ts)

-- the greatest sum of absolute values that fits
abbrev pub greatest : ℕ
greatest = 2 ^ 127 - 1

-- at each monomial the sum of the absolute values is at most the greatest
abbrev pub amounts_fit : {M : Type 0} → List (M × Amount) → Bool
amounts_fit ts = list_all (λ t. nat_le t.1.majorant greatest) ts
