-- What a book holds, and what its calls answer.
use Rattle.std.specs.Prelude.{◌≡◌, ◌<◌, ◌≤◌, ℕ, All, List, [], ◌∷◌, ◌++◌, length, map, take, slice_get, slice_index_or, ℤ, pos, Some, Result, Ok, Err}
use Rattle.dz_algebra.specs.Monomial.{Monomial}
use Rattle.dz_algebra.specs.Polynomial.{Polynomial}
use Rattle.dz_algebra.specs.Size.{Refusal, symbols}
use Rattle.dz_rank.specs.declared.symbols.Symbol.{Symbol}
use Rattle.dz_rank.specs.Rankings.{RankingValue, ranking_cmp}
use Rattle.dz_monomials.specs.Keeping.{IsKeepable}
use Rattle.dz_monomials.specs.Stops.{IsStop}
use Rattle.dz_monomials.specs.declared.PolyStop.{PolyStop}

-- a ranking, and polynomials by the order in which they were made
pub record BookValue : Type 0 where
  pub ranking : RankingValue
  pub polynomials : List (Polynomial Symbol)

-- the polynomial of that number stands in the book
abbrev pub Lives : BookValue → ℕ → Type 0
Lives book p = p < length book.polynomials

-- the polynomial of a number
abbrev pub polynomial : BookValue → ℕ → Polynomial Symbol
polynomial book p = slice_index_or book.polynomials p []

-- the symbols that occur in a polynomial, the greatest first
abbrev pub symbols_of : RankingValue → Polynomial Symbol → List Symbol
symbols_of r p = symbols (ranking_cmp r) (map (λ t. t.0) p)

-- a term of a polynomial, counted from 0 and the greatest first
abbrev pub term_at : Polynomial Symbol → ℕ → Monomial Symbol × ℤ
term_at p k = slice_index_or p k ([], pos 0)

-- the polynomial of that number stands in the book, and is q
abbrev pub Means : BookValue → ℕ → Polynomial Symbol → Type 0
Means book p q = slice_get book.polynomials p ≡ Some q

-- the ranking is as before, and every older polynomial lives and is as before
pub record IsKept (old new : BookValue) : Type 0 where
  pub ranking : new.ranking ≡ old.ranking
  pub each : (p : ℕ) → p < length old.polynomials → slice_get new.polynomials p ≡ slice_get old.polynomials p
  pub later : length old.polynomials ≤ length new.polynomials
  pub front : take (length old.polynomials) new.polynomials ≡ old.polynomials

-- one polynomial stands behind those that the book had before, and this is its number
pub record IsAdded (old new : BookValue) (p : ℕ) : Type 0 where
  pub number : p ≡ length old.polynomials
  pub last : new.polynomials ≡ old.polynomials ++ polynomial new p ∷ []

-- each polynomial in the book is keepable
pub record IsBook (book : BookValue) : Type 0 where
  pub each : All (IsKeepable book.ranking) book.polynomials

-- a result is the number of what the definition answers, or a stop
abbrev pub Gives : BookValue → Result ℕ PolyStop → Result (Polynomial Symbol) Refusal → Type 0
Gives new (Ok p) (Ok q) = Means new p q
Gives new (Ok p) (Err e) = ⊥
Gives new (Err stop) answer = IsStop stop answer

-- a call made a polynomial: it is what the definition answers, it is the one polynomial more, and this is its number
pub record IsMade (old new : BookValue) (p : ℕ) (answer : Result (Polynomial Symbol) Refusal) : Type 0 where
  pub value : Gives new (Ok p) answer
  pub kept : IsKept old new
  pub added : IsAdded old new p

-- a call was refused: the book is as before, and the refusal is the definition's, or want of memory
pub record IsRefused (old new : BookValue) (stop : PolyStop) (answer : Result (Polynomial Symbol) Refusal) : Type 0 where
  pub refused : new ≡ old
  pub why : IsStop stop answer

-- what a call that makes a polynomial of a book does to the book, and what it answers
abbrev pub Makes : BookValue → BookValue → Result ℕ PolyStop → Result (Polynomial Symbol) Refusal → Type 0
Makes old new (Ok p) answer = IsMade old new p answer
Makes old new (Err stop) answer = IsRefused old new stop answer
