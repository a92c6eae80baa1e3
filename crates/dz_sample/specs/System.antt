-- The system that is made from a seed (this project).
use Rattle.std.specs.Prelude.{ℕ, [], map}
use Rattle.dz_rank.specs.Rankings.{ranking_cmp}
use Rattle.dz_sample.specs.Equations.{equation_polynomial}
use Rattle.dz_sample.specs.Ranking.{sample_ranking}
use Rattle.dz_sample.specs.Sample.{sample}
use Rattle.dz_move.specs.Root.{System}

-- the polynomials of the equations that a seed and a size make, and no inequation
unfoldable pub sampled_system : ℕ → ℕ → System
sampled_system seed size =
    record { equations = map (equation_polynomial (ranking_cmp sample_ranking)) (sample seed size); inequations = [] }
