-- Reductions on entries.
use Rattle.dz_rank.specs.Rankings.{RankingValue}
use Rattle.dz_terms.specs.Entries.{IsEntry}
use Rattle.dz_step.specs.Step.{Reduction}
use Rattle.dz_step.specs.declared.reducing.Reduction.{Reduction as ReductionEntry}

-- the polynomials of a reduction
abbrev pub reduction_in : ReductionEntry → Reduction
reduction_in x = record { factor = x.factor.terms; shift = x.shift.terms; rest = x.rest.terms }

-- each is an entry
pub record IsReductionEntry (r : RankingValue) (x : ReductionEntry) : Type 0 where
  pub factor : IsEntry r x.factor
  pub shift : IsEntry r x.shift
  pub rest : IsEntry r x.rest
