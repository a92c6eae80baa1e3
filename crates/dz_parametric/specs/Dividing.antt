-- How the program lists cones. No public clause cites this file.
use Rattle.std.specs.Prelude.{ℕ, List, ◌++◌, drop, map, take}
use Rattle.dz_rank.specs.declared.symbols.Operator.{Operator}
use Rattle.dz_parametric.specs.declared.listing.Cone.{Cone}
use Rattle.dz_parametric.specs.Cones.{Direction}

-- the exponents of operators from the i-th direction on
abbrev pub tails : ℕ → List Operator → List (List ℕ)
tails i operators = map (λ t. drop i t.counts) operators

-- a list with others in place of its members from i on and before n
abbrev pub spliced : {A : Type 0} → ℕ → ℕ → List A → List A → List A
spliced i n xs ys = take i xs ++ (ys ++ drop n xs)

-- a cone with these directions from the i-th on and before the n-th
abbrev pub completed : ℕ → ℕ → Cone → List Direction → Cone
completed i n c ds = record {
  dependent = c.dependent;
  operator = record { counts = spliced i n c.operator.counts (map (λ d. d.exponent) ds) };
  free = spliced i n c.free (map (λ d. d.is_free) ds);
}
