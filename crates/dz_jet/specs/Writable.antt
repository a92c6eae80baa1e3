-- What the writing of a jet asks of it.
use Rattle.std.specs.Prelude.{◌≡◌, All, IsTrue, List, ◌++◌, map}
use Rattle.dz_rank.specs.declared.rankings.Signature.{Signature}
use Rattle.dz_rank.specs.declared.symbols.Symbol.{Symbol}
use Rattle.dz_rank.specs.Symbols.{BelongsTo, is_derivative}
use Rattle.dz_jet.specs.Jets.{Values, independents_of}

-- the independents of a signature in declared order, and then derivatives of it
pub record IsWritable (g : Signature) (jet : Values) : Type 0 where
  pub derivatives : List Symbol
  pub symbols_are : map (λ p. p.0) jet ≡ independents_of g ++ derivatives
  pub proper : All (λ s. IsTrue (is_derivative s)) derivatives
  pub belong : All (λ p. BelongsTo g p.0) jet
