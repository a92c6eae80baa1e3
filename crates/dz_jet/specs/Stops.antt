-- The jets that a call answers, and their faults.
use Rattle.std.specs.Prelude.{◌≡◌, ◌⊎◌, ℕ, Result, Ok, Err}
use Rattle.dz_rank.specs.Rankings.{RankingValue}
use Rattle.dz_monomials.specs.Ranked.{symbols_under}
use Rattle.dz_diff.specs.State.{State}
use Rattle.dz_jet.specs.declared.faults.JetFault.{JetFault}
use Rattle.dz_jet.specs.declared.faults.JetFault.TheVariants as faults
use Rattle.dz_jet.specs.Jets.{JetValue, Values, jet_answer, jet_order}

-- a fault is the one that the definition answers; want of memory may come instead
abbrev pub IsFault : {A : Type 0} → JetFault → Result A JetFault → Type 0
IsFault e answer = (e ≡ faults.Memory) ⊎ (answer ≡ Err e)

-- a jet is the one that the definition answers, for values that are given and an order that is asked for
pub record IsJet (r : RankingValue) (s : State) (known : Values) (n : ℕ) (jet : JetValue) : Type 0 where
  pub values : jet_answer r s known n ≡ Ok jet.values
  pub order : jet.order ≡ jet_order (symbols_under r) s n
