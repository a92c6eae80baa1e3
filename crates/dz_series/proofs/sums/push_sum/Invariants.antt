use Rattle.std.specs.List.{flat_map}
use Rattle.std.proofs.Common.{◌≡◌, ◌++◌, drop}
use Rattle.dz_series.specs.Series.{points_of, sum_text, summand}
use Rattle.dz_series.specs.Writing.{terms_text}
use Rattle.dz_series.proofs.sums.push_sum.Given as goal

-- what is written, and the terms that are left
abbrev pub invariant-terms : goal.invariant-terms
invariant-terms l =
    l.into.items ++ terms_text l.first (flat_map (summand l.names (points_of l.values) l.dependent) (drop l.k l.values))
    ≡ l.fn.into.items ++ sum_text (flat_map (summand l.names (points_of l.values) l.dependent) l.values)
