-- Initial data of chains: values for the independents, for what a chain leaves free, and for its leaders (Riquier, Janet).
use Rattle.std.specs.Prelude.{◌≡◌, ◌⊎◌, ℕ, false, Err}
use Rattle.std.specs.List.{Contains}
use Rattle.dz_rank.specs.Rankings.{RankingValue}
use Rattle.dz_rank.specs.Symbols.{BelongsTo, is_derivative}
use Rattle.dz_rank.specs.declared.symbols.Symbol.{Symbol}
use Rattle.dz_diff.specs.State.{State}
use Rattle.dz_parametric.specs.Parametric.{IsParametricTo, leaders_in}
use Rattle.dz_jet.specs.declared.faults.JetFault.TheVariants as faults
use Rattle.dz_jet.specs.Jets.{Values, jet_answer}
use Rattle.dz_jet.specs.Tables.{keys}

-- an independent of the signature
pub record IsIndependent (r : RankingValue) (v : Symbol) : Type 0 where
  pub independent : is_derivative v ≡ false
  pub belongs : BelongsTo r.signature v

-- an independent, a parametric derivative of total order at most m, or a leader
abbrev pub IsInitial : RankingValue → State → ℕ → Symbol → Type 0
IsInitial r s m v = IsIndependent r v ⊎ (IsParametricTo r (leaders_in r s) m v ⊎ Contains (leaders_in r s) v)

-- values are given for exactly these
pub record AreInitialData (r : RankingValue) (s : State) (m : ℕ) (known : Values) : Type 0 where
  pub given : (v : Symbol) → IsInitial r s m v → Contains (keys known) v
  pub only : (v : Symbol) → Contains (keys known) v → IsInitial r s m v

-- a jet up to the order n asks for no other value, and refuses none
pub record AreEnough (r : RankingValue) (s : State) (known : Values) (n : ℕ) : Type 0 where
  pub none_missing : (v : Symbol) → jet_answer r s known n ≡ Err (faults.Missing v) → ⊥
  pub each_free : (v : Symbol) → jet_answer r s known n ≡ Err (faults.NotFree v) → ⊥
