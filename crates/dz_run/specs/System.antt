-- The polynomials of a system, or the item for which there are none (this project).
use Rattle.std.specs.Prelude.{◌≡◌, ⊤, ℕ, ◌+◌, List, [], ◌∷◌, ◌++◌, codes, Option, Some, None, Result, Ok, Err}
use Rattle.std.specs.Fmt.{decimal}
use Rattle.dz_algebra.specs.declared.Limit.{Limit}
use Rattle.dz_algebra.specs.Polynomial.{Polynomial}
use Rattle.dz_algebra.specs.Size.{Refusal, wide, large}
use Rattle.dz_algebra.specs.Symbols.{Symbols}
use Rattle.dz_form.specs.Limits.{limit_word}
use Rattle.dz_algebra.specs.Outcome.{◌>>=◌}
use Rattle.dz_form.specs.Values.{item_answer}
use Rattle.dz_rank.specs.Rankings.{RankingValue}
use Rattle.dz_rank.specs.declared.symbols.Symbol.{Symbol}
use Rattle.dz_monomials.specs.Ranked.{symbols_under}
use Rattle.dz_syntax.specs.declared.expression.Op.{Op}
use Rattle.dz_syntax.specs.Systems.{Tree}
use Rattle.dz_poly.specs.Books.{BookValue, Means}
use Rattle.dz_move.specs.Root.{System}
use Rattle.dz_diff.specs.States.{MeanAll}
use Rattle.dz_diff.specs.Tests.{Polynomials}
use Rattle.dz_move.specs.Systems.{IsSystemIn, SystemValue, system_in, system_limit}
use Rattle.dz_run.specs.declared.system.Group.{Group}
use Rattle.dz_run.specs.declared.system.Refused.{Refused}
use Rattle.dz_run.specs.declared.system.Refused.TheVariants.{Wide, Large, TooMany}
use Rattle.dz_run.specs.declared.system.Stop.{Stop}
use Rattle.dz_run.specs.declared.system.Stop.TheVariants.{Memory}
use Rattle.dz_run.specs.declared.system.Stop.TheVariants as stops
use Rattle.dz_run.specs.declared.system.Group.TheVariants.{Equation, Inequation, Question}

-- the ranking that a text declares
abbrev pub ranking_of : Tree → RankingValue
ranking_of tree = record { signature = tree.signature; blocks = tree.blocks }

-- an item's value or refusal, among those of its group
abbrev pub numbered : Group → ℕ → Result (Polynomial Symbol) Refusal → Result (Polynomial Symbol) Refused
numbered group n (Ok p) = Ok p
numbered group n (Err wide) = Err (Wide group n)
numbered group n (Err (large limit)) = Err (Large group n limit)

-- a value before others
abbrev pub before : Polynomial Symbol → Result Polynomials Refused → Result Polynomials Refused
before p (Ok ps) = Ok (p ∷ ps)
before p (Err e) = Err e

-- values before an answer
abbrev pub behind : Polynomials → Result Polynomials Refused → Result Polynomials Refused
behind ps (Ok qs) = Ok (ps ++ qs)
behind ps (Err e) = Err e

-- the values of items, of which so many stand before these, or the first refusal
abbrev pub items_answer : Symbols Symbol → Group → ℕ → List (List Op) → Result Polynomials Refused
items_answer g group n [] = Ok []
items_answer g group n (steps ∷ items) = numbered group (n + 1) (item_answer g steps) >>= λ p. before p (items_answer g group (n + 1) items)

-- a system, or the limit that it passes
abbrev pub or_limit : System → Option Limit → Result System Refused
or_limit s None = Ok s
or_limit s (Some limit) = Err (TooMany limit)

-- the system of these values, where it passes no limit
abbrev pub within_limits : Polynomials → Polynomials → Result System Refused
within_limits es hs = or_limit (record { equations = es; inequations = hs }) (system_limit (record { equations = es; inequations = hs }))

-- the system of a text: its items are expanded in order, the equations first
unfoldable pub system_answer : Tree → Result System Refused
system_answer tree =
    items_answer (symbols_under (ranking_of tree)) Equation 0 tree.equations
    >>= λ es. items_answer (symbols_under (ranking_of tree)) Inequation 0 tree.inequations
    >>= λ hs. within_limits es hs

-- the questions of a text, which are expanded in order
unfoldable pub questions_answer : Tree → Result Polynomials Refused
questions_answer tree = items_answer (symbols_under (ranking_of tree)) Question 0 tree.questions

-- ---- the line that names it
abbrev pub group_name : Group → List ℕ
group_name Equation = codes "equation "
group_name Inequation = codes "inequation "
group_name Question = codes "question "

-- the line for a refused item, or for a system with too many members or terms
abbrev pub refused_line : Refused → List ℕ
refused_line (Wide group n) = group_name group ++ decimal n ++ codes " wide\n"
refused_line (Large group n limit) = group_name group ++ decimal n ++ codes " large " ++ limit_word limit ++ codes "\n"
refused_line (TooMany limit) = codes "system large " ++ limit_word limit ++ codes "\n"

-- ---- in a book
-- the stop is the refusal, or memory ran out
abbrev pub IsRefusal : {A : Type 0} → Stop → Result A Refused → Type 0
IsRefusal Memory answer = ⊤
IsRefusal (stops.Refused e) answer = answer ≡ Err e

-- a number means the polynomial of an answer
abbrev pub GivesNumbered : BookValue → Result ℕ Stop → Result (Polynomial Symbol) Refused → Type 0
GivesNumbered book (Ok p) (Ok q) = Means book p q
GivesNumbered book (Ok p) (Err e) = ⊥
GivesNumbered book (Err stop) answer = IsRefusal stop answer

-- numbers, seen by view, mean the polynomials of an answer
abbrev pub GivesAll : {X : Type 0} → (X → List ℕ) → BookValue → Result X Stop → Result Polynomials Refused → Type 0
GivesAll view book (Ok x) (Ok qs) = MeanAll book (view x) qs
GivesAll view book (Ok x) (Err e) = ⊥
GivesAll view book (Err stop) answer = IsRefusal stop answer

-- a system of the code is one in the book, and means that of an answer
abbrev pub GivesSystem : BookValue → Result SystemValue Stop → Result System Refused → Type 0
GivesSystem book (Ok s) (Ok t) = IsSystemIn book s × (system_in book s ≡ t)
GivesSystem book (Ok s) (Err e) = ⊥
GivesSystem book (Err stop) answer = IsRefusal stop answer
