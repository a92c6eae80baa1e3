-- What a call that makes a polynomial of a book tells.
use Rattle.std.proofs.Common.{◌≡◌, ◌⊎◌, inl, inr, ℕ, refl, sym, subst}
use Rattle.std.specs.Prelude.{Some, Result, Ok, Err, IfOk, IfErr, OnOk, OnErr}
use Rattle.dz_algebra.specs.Polynomial.{Polynomial}
use Rattle.dz_algebra.specs.Size.{Refusal}
use Rattle.dz_rank.specs.declared.symbols.Symbol.{Symbol}
use Rattle.dz_monomials.specs.Stops.{IsStop}
use Rattle.dz_monomials.specs.declared.PolyStop.{PolyStop}
use Rattle.dz_monomials.specs.declared.PolyStop.TheVariants.{Memory}
use Rattle.dz_poly.specs.Books.{BookValue, Gives, IsAdded, IsKept, Makes, Means}

-- ---- what makes one
-- a polynomial that is kept is the one that the definition answers
pub made : (old new : BookValue) (p : ℕ) (q : Polynomial Symbol) (answer : Result (Polynomial Symbol) Refusal) → answer ≡ Ok q → Means new p q → IsKept old new → IsAdded old new p → Makes old new (Ok p) answer
made old new p q answer e means kept added = record { value = subst (Gives new (Ok p)) (sym e) means; kept = kept; added = added }

-- a refusal of the definition leaves the book as it is
pub stopped : (old new : BookValue) (stop : PolyStop) (answer : Result (Polynomial Symbol) Refusal) → new ≡ old → IsStop stop answer → Makes old new (Err stop) answer
stopped old new stop answer e why = record { refused = e; why = why }

-- and so does want of memory
pub no_memory : (old new : BookValue) (stop : PolyStop) (answer : Result (Polynomial Symbol) Refusal) → new ≡ old → stop ≡ Memory → Makes old new (Err stop) answer
no_memory old new stop answer e why = record { refused = e; why = inl why }

-- ---- what it tells
module _ (old new : BookValue) where
  -- its answer is the definition's
  pub makes_gives : (result : Result ℕ PolyStop) (answer : Result (Polynomial Symbol) Refusal) → Makes old new result answer → Gives new result answer
  makes_gives (Ok p) answer h = h.value
  makes_gives (Err stop) answer h = h.why

  -- older polynomials stay
  pub makes_kept : (result : Result ℕ PolyStop) (answer : Result (Polynomial Symbol) Refusal) → Makes old new result answer → OnOk result (IsKept old new)
  makes_kept (Ok p) answer h = h.kept
  makes_kept (Err stop) answer h = tt

  -- one polynomial more stands in the book
  pub makes_added : (result : Result ℕ PolyStop) (answer : Result (Polynomial Symbol) Refusal) → Makes old new result answer → IfOk result (λ p. IsAdded old new p)
  makes_added (Ok p) answer h = h.added
  makes_added (Err stop) answer h = tt

  -- a refusal leaves the book as it was
  pub makes_refused : (result : Result ℕ PolyStop) (answer : Result (Polynomial Symbol) Refusal) → Makes old new result answer → OnErr result (new ≡ old)
  makes_refused (Ok p) answer h = tt
  makes_refused (Err stop) answer h = h.refused

  -- where the definition refuses nothing, the polynomial is there
  pub makes_means : (result : Result ℕ PolyStop) (q : Polynomial Symbol) → Makes old new result (Ok q) → IfOk result (λ p. Means new p q)
  makes_means (Ok p) q h = h.value
  makes_means (Err stop) q h = tt

  -- and only memory can be wanting
  pub makes_wants_memory : (result : Result ℕ PolyStop) (q : Polynomial Symbol) → Makes old new result (Ok q) → IfErr result (λ e. e ≡ Memory)
  makes_wants_memory (Ok p) q h = tt
  makes_wants_memory (Err stop) q h = memory h.why
    where
      memory : IsStop stop (Ok q) → stop ≡ Memory
      memory (inl e) = e
      memory (inr e) = absurd (cc)
