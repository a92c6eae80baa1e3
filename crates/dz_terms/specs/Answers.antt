-- What an operation on entries answers.
use Rattle.std.specs.Prelude.{◌≡◌, Result, Ok, Err}
use Rattle.dz_algebra.specs.Polynomial.{Polynomial}
use Rattle.dz_algebra.specs.Size.{Refusal}
use Rattle.dz_rank.specs.declared.symbols.Symbol.{Symbol}
use Rattle.dz_rank.specs.Rankings.{RankingValue}
use Rattle.dz_terms.specs.Entries.{EntryValue, IsEntry}
use Rattle.dz_monomials.specs.Stops.{IsStop}
use Rattle.dz_monomials.specs.declared.PolyStop.{PolyStop}

-- an entry has the polynomial that the definition answers, and may stand in a book
pub record IsAnswer (r : RankingValue) (x : EntryValue) (answer : Result (Polynomial Symbol) Refusal) : Type 0 where
  pub ok : answer ≡ Ok x.terms
  pub entry : IsEntry r x

-- an operation answers its definition: such an entry, or the definition's refusal; want of memory may come instead
abbrev pub Answers : RankingValue → Result EntryValue PolyStop → Result (Polynomial Symbol) Refusal → Type 0
Answers r (Ok x) answer = IsAnswer r x answer
Answers r (Err stop) answer = IsStop stop answer
