-- The ranking of the systems that are made from seeds (this project).
use Rattle.std.specs.Prelude.{[], ◌∷◌}
use Rattle.dz_rank.specs.declared.rankings.Kind.TheVariants.{GrlexA}
use Rattle.dz_rank.specs.declared.rankings.Signature.{Signature}
use Rattle.dz_rank.specs.Rankings.{RankingValue}

-- two independents and eight dependents
abbrev pub sample_signature : Signature
sample_signature = record { independents = 2; dependents = 8 }

-- the dependents stand in one block, the first is the greatest, and the kind is `grlexA`
abbrev pub sample_ranking : RankingValue
sample_ranking =
    record { signature = sample_signature; blocks = record { kind = GrlexA; dependents = 0 ∷ 1 ∷ 2 ∷ 3 ∷ 4 ∷ 5 ∷ 6 ∷ 7 ∷ [] } ∷ [] }
