-- What an operation on entries that answers its definition tells.
use Rattle.std.proofs.Common.{◌≡◌}
use Rattle.std.specs.Prelude.{Result, Ok, Err, IfOk, IfErr}
use Rattle.dz_algebra.specs.Polynomial.{Polynomial}
use Rattle.dz_algebra.specs.Size.{Refusal}
use Rattle.dz_rank.specs.declared.symbols.Symbol.{Symbol}
use Rattle.dz_rank.specs.Rankings.{RankingValue}
use Rattle.dz_terms.specs.Answers.{Answers}
use Rattle.dz_terms.specs.Entries.{EntryValue, IsEntry}
use Rattle.dz_monomials.specs.Stops.{IsStop}
use Rattle.dz_monomials.specs.declared.PolyStop.{PolyStop}

-- an entry answers
pub answered : (r : RankingValue) (x : EntryValue) (answer : Result (Polynomial Symbol) Refusal) → answer ≡ Ok x.terms → IsEntry r x → Answers r (Ok x) answer
answered r x answer e h = record { ok = e; entry = h }

-- a refusal answers
pub stopped : (r : RankingValue) (stop : PolyStop) (answer : Result (Polynomial Symbol) Refusal) → IsStop stop answer → Answers r (Err stop) answer
stopped r stop answer why = why

module _ (r : RankingValue) where
  -- by both sides of a result
  pub answers_by : (result : Result EntryValue PolyStop) (answer : Result (Polynomial Symbol) Refusal) → IfOk result (λ x. answer ≡ Ok x.terms) → IfOk result (λ x. IsEntry r x) → IfErr result (λ e. IsStop e answer) → Answers r result answer
  answers_by (Ok x) answer ok entry refused = record { ok = ok; entry = entry }
  answers_by (Err stop) answer ok entry refused = refused

  -- ---- the sides of an answer
  pub answers_ok : (result : Result EntryValue PolyStop) (answer : Result (Polynomial Symbol) Refusal) → Answers r result answer → IfOk result (λ x. answer ≡ Ok x.terms)
  answers_ok (Ok x) answer h = h.ok
  answers_ok (Err stop) answer h = tt

  pub answers_entry : (result : Result EntryValue PolyStop) (answer : Result (Polynomial Symbol) Refusal) → Answers r result answer → IfOk result (λ x. IsEntry r x)
  answers_entry (Ok x) answer h = h.entry
  answers_entry (Err stop) answer h = tt

  pub answers_refused : (result : Result EntryValue PolyStop) (answer : Result (Polynomial Symbol) Refusal) → Answers r result answer → IfErr result (λ e. IsStop e answer)
  answers_refused (Ok x) answer h = tt
  answers_refused (Err stop) answer h = h
