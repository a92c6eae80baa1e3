-- The degrees of a polynomial in its symbols. No clause about books cites this file.
use Rattle.std.specs.Prelude.{ℕ, max, nat_lt, Bool, cond, List, [], ◌∷◌, length, Option, Some, None}
use Rattle.std.specs.declared.cmp.Ordering.{Ordering}
use Rattle.std.specs.List.{list_any}
use Rattle.dz_algebra.specs.declared.Limit.{Limit}
use Rattle.dz_algebra.specs.declared.Limit.TheVariants as limits
use Rattle.dz_algebra.specs.Monomial.{Monomial}
use Rattle.dz_algebra.specs.Gather.{onto}

-- the least common multiple of monomials: each symbol that occurs, with its greatest exponent
abbrev pub degrees : {S V : Type 0} → (S → S → Ordering) → List (Monomial S × V) → Monomial S
degrees cmp [] = []
degrees cmp (t ∷ ts) = onto cmp max t.0 (degrees cmp ts)

-- some derivative has a total order above 60
abbrev pub has_high_order : {S : Type 0} → (S → ℕ) → Monomial S → Bool
has_high_order order m = list_any (λ p. nat_lt 60 (order p.0)) m

-- some exponent is above 65,535
abbrev pub has_high_exponent : {S : Type 0} → Monomial S → Bool
has_high_exponent m = list_any (λ p. nat_lt 65535 p.1) m

-- the limit that so many symbols and so many terms pass
abbrev pub limit_of_counts : ℕ → ℕ → Option Limit
limit_of_counts symbols terms = cond (nat_lt 64 symbols) (Some limits.Symbols) (cond (nat_lt 4096 terms) (Some limits.Terms) None)

-- the limit that so many terms with these degrees pass
abbrev pub limit_by : {S : Type 0} → (S → ℕ) → Monomial S → ℕ → Option Limit
limit_by order m terms = cond (has_high_order order m) (Some limits.Order) (cond (has_high_exponent m) (Some limits.Exponent) (limit_of_counts (length m) terms))
