-- The first entries of two lists at one key, taken together. No public clause cites this file.
use Rattle.std.specs.Prelude.{◌≡◌, List, ◌∷◌, Option, Some}

-- both lists lose their first entry, and what is taken has the values of both
abbrev pub TakesBoth : {K V : Type 0} → (V → V → V) → List (K × V) → List (K × V) → Option (K × V) → List (K × V) → List (K × V) → Type 0
TakesBoth {K} {V} add ts rs o ts' rs' = (t : K × V) × (r : K × V) × (ts ≡ t ∷ ts') × (rs ≡ r ∷ rs') × (o ≡ Some (t.0, add r.1 t.1))
