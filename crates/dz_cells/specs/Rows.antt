-- Rows of exponents over a falling list of symbols, and the polynomials that they stand for.
use Rattle.std.specs.Prelude.{◌≡◌, ◌≤◌, ◌+◌, ◌*ℤ◌, ⊤, ℕ, zero, suc, nat_lt, cond, ℤ, Option, Some, None, Bool, true, false, List, [], ◌∷◌, length, take, drop, map}
use Rattle.std.specs.declared.cmp.Ordering.{Ordering}
use Rattle.std.specs.declared.cmp.Ordering.TheVariants.{Greater}
use Rattle.std.specs.List.{list_any}
use Rattle.std.specs.Simd.Lanes.{zip2}
use Rattle.dz_algebra.specs.Amount.{Amount, amount}
use Rattle.dz_algebra.specs.Monomial.{Monomial}
use Rattle.dz_algebra.specs.Whole.{whole_is_zero}
use Rattle.dz_lane.specs.Rows.{any_pair}
use Rattle.dz_monomials.specs.Cells.{capped}

-- s is greater than every symbol of a list
abbrev pub IsOver : {S : Type 0} → (S → S → Ordering) → S → List S → Type 0
IsOver cmp s [] = ⊤
IsOver cmp s (t ∷ ts) = (cmp s t ≡ Greater) × IsOver cmp s ts

-- each symbol is greater than all that follow it
abbrev pub Falls : {S : Type 0} → (S → S → Ordering) → List S → Type 0
Falls cmp [] = ⊤
Falls cmp (s ∷ ss) = IsOver cmp s ss × Falls cmp ss

-- the monomial of a row: each symbol with its exponent, where that is not zero
abbrev pub over : {S : Type 0} → List S → List ℕ → Monomial S
over [] es = []
over (s ∷ ss) [] = []
over (s ∷ ss) (zero ∷ es) = over ss es
over (s ∷ ss) (suc e ∷ es) = (s, suc e) ∷ over ss es

-- values, each at its row; the rows are w long and lie one after the other
abbrev pub rows_with : {V : Type 0} → ℕ → List ℕ → List V → List (List ℕ × V)
rows_with w es [] = []
rows_with w es (v ∷ vs) = (take w es, v) ∷ rows_with w (drop w es) vs

-- every row is w long
abbrev pub HaveWidth : {V : Type 0} → ℕ → List (List ℕ × V) → Type 0
HaveWidth w [] = ⊤
HaveWidth w (r ∷ rs) = (length r.0 ≡ w) × HaveWidth w rs

-- values at the monomials of their rows
abbrev pub keyed : {S V : Type 0} → List S → List (List ℕ × V) → List (Monomial S × V)
keyed ss rs = map (λ r. (over ss r.0, r.1)) rs

-- values at the monomials of rows that lie one after the other
abbrev pub terms_over : {S V : Type 0} → List S → List ℕ → List V → List (Monomial S × V)
terms_over ss es vs = keyed ss (rows_with (length ss) es vs)

-- the symbols that are marked
abbrev pub marked : {S : Type 0} → List Bool → List S → List S
marked [] ss = []
marked (b ∷ bs) [] = []
marked (true ∷ bs) (s ∷ ss) = s ∷ marked bs ss
marked (false ∷ bs) (s ∷ ss) = marked bs ss

-- a row over marked symbols as a row over all symbols: zero at those that are not marked
abbrev pub spread : List Bool → List ℕ → List ℕ
spread [] es = []
spread (true ∷ bs) [] = 0 ∷ spread bs []
spread (true ∷ bs) (e ∷ es) = e ∷ spread bs es
spread (false ∷ bs) es = 0 ∷ spread bs es

-- each value has a row, and nothing is left
abbrev pub AreRows : {V : Type 0} → ℕ → List ℕ → List V → Type 0
AreRows w es [] = es ≡ []
AreRows w es (v ∷ vs) = (w ≤ length es) × AreRows w (drop w es) vs

-- a row with its total before others, where it fits and is not zero
abbrev pub keep_row : List ℕ → Option Amount → Option (List (List ℕ × ℤ)) → Option (List (List ℕ × ℤ))
keep_row r None p = None
keep_row r (Some a) None = None
keep_row r (Some a) (Some p) = Some (cond (whole_is_zero a.total) p ((r, a.total) ∷ p))

-- the rows with totals that are not zero, if all fit
abbrev pub kept_rows : List (List ℕ × Option Amount) → Option (List (List ℕ × ℤ))
kept_rows [] = Some []
kept_rows (t ∷ ts) = keep_row t.0 t.1 (kept_rows ts)

-- some sum of a row with one of others passes the greatest exponent
abbrev pub sums_pass : {V : Type 0} → List ℕ → List (List ℕ × V) → Bool
sums_pass row ts = list_any (λ t. any_pair (λ x y. nat_lt 65535 (x + y)) row t.0) ts

-- the products of a term with others, each where it fits
abbrev pub row_times : List ℕ → ℤ → List (List ℕ × ℤ) → List (List ℕ × Option Amount)
row_times row c ts = map (λ t. (zip2 (λ x y. x + y) row t.0, capped (amount (c *ℤ t.1)))) ts
