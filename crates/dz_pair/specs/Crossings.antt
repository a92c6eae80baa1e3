-- The critical pairs of equations, by their leaders.
use Rattle.std.specs.Prelude.{ℕ, suc, cond, List, [], ◌∷◌, ◌++◌, Option}
use Rattle.dz_rank.specs.declared.symbols.Symbol.{Symbol}
use Rattle.dz_pair.specs.Pair.{leaders_cross}

-- those of a leader at place i with the leaders from place j on
abbrev pub crossings_with : ℕ → ℕ → Option Symbol → List (Option Symbol) → List (ℕ × ℕ)
crossings_with i j l [] = []
crossings_with i j l (m ∷ ms) = cond (leaders_cross l m) ((i, j) ∷ crossings_with i (suc j) l ms) (crossings_with i (suc j) l ms)

-- those of leaders that stand from place i on
abbrev pub crossings_from : ℕ → List (Option Symbol) → List (ℕ × ℕ)
crossings_from i [] = []
crossings_from i (l ∷ ls) = crossings_with i (suc i) l ls ++ crossings_from (suc i) ls
