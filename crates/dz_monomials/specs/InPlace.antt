-- Where a monomial stands among the terms of a polynomial, and what is done there. No clause about books cites this file.
use Rattle.std.specs.Prelude.{◌≡◌, ⊤, ℕ, zero, suc, ◌+◌, nat_le, Bool, true, cond, List, [], ◌∷◌, length, ℤ, ◌+ℤ◌, unsigned_abs, Some, None, Result}
use Rattle.std.specs.List.{insert}
use Rattle.std.specs.declared.cmp.Ordering.{Ordering}
use Rattle.std.specs.declared.cmp.Ordering.TheVariants.{Less}
use Rattle.dz_algebra.specs.Amount.{greatest}
use Rattle.dz_algebra.specs.Monomial.{Monomial}
use Rattle.dz_algebra.specs.Polynomial.{Polynomial, keep}
use Rattle.dz_algebra.specs.Size.{Refusal}
use Rattle.dz_monomials.specs.Cells.{concluded}
use Rattle.dz_monomials.specs.Degrees.{degrees, limit_of_counts}

-- m is less than every key of a list
abbrev pub IsBelow : {K X : Type 0} → (K → K → Ordering) → K → List (K × X) → Type 0
IsBelow cmp m [] = ⊤
IsBelow cmp m (t ∷ ts) = (cmp m t.0 ≡ Less) × IsBelow cmp m ts

-- m is the key at a place
abbrev pub IsAt : {K X : Type 0} → K → ℕ → List (K × X) → Type 0
IsAt m i [] = ⊥
IsAt m zero (t ∷ ts) = m ≡ t.0
IsAt m (suc i) (t ∷ ts) = IsAt m i ts

-- a polynomial with a number added to the coefficient at a place
abbrev pub changed_at : {S : Type 0} → ℕ → ℤ → Polynomial S → Polynomial S
changed_at i c [] = []
changed_at zero c (t ∷ p) = keep t.0 (c +ℤ t.1) p
changed_at (suc i) c (t ∷ p) = t ∷ changed_at i c p

-- the absolute values of a number and of the coefficient at a place add up to one in range
abbrev pub fits_at : {S : Type 0} → ℕ → ℤ → Polynomial S → Bool
fits_at i c [] = true
fits_at zero c (t ∷ p) = nat_le (unsigned_abs c + unsigned_abs t.1) greatest
fits_at (suc i) c (t ∷ p) = fits_at i c p

-- what is answered where a number is added to the coefficient at a place: no limit of size is passed
abbrev pub added_at : {S : Type 0} → ℕ → ℤ → Polynomial S → Result (Polynomial S) Refusal
added_at i c p = concluded None (cond (fits_at i c p) (Some (changed_at i c p)) None)

-- what is answered where a term comes to a place
abbrev pub inserted_at : {S : Type 0} → (S → S → Ordering) → ℕ → Monomial S × ℤ → Polynomial S → Result (Polynomial S) Refusal
inserted_at cmp i t p = concluded (limit_of_counts (length (degrees cmp (t ∷ p))) (length p + 1)) (Some (insert p i t))
