-- Answers: what is printed, how the run ends, and what is told of a point that is refused.
use Rattle.std.specs.Prelude.{ℕ, List, [], ◌++◌, codes, Option, Some, None, Result, Ok, Err}
use Rattle.std.specs.Fmt.{decimal}
use Rattle.dz_diff.specs.State.{State}
use Rattle.dz_diff.specs.Tests.{Polynomials}
use Rattle.dz_syntax.specs.Systems.{Tree as Text}
use Rattle.dz_move.specs.Root.{System}
use Rattle.dz_run.specs.declared.ending.Ending.{Ending}
use Rattle.dz_run.specs.declared.ending.Ending.TheVariants.{Done, Wide, Large, Point}
use Rattle.dz_run.specs.declared.system.Refused.{Refused}
use Rattle.dz_run.specs.declared.system.Refused.TheVariants as refusals
use Rattle.dz_run.specs.declared.told.Told.{Told}
use Rattle.dz_run.specs.System.{questions_answer, refused_line, system_answer}

-- What is to be printed, how the run ends where the output takes all of it, and the message where a point is refused.
pub record Answer : Type 0 where
  pub output : List ℕ
  pub ending : Ending
  pub point : List ℕ

-- what an answer of the code is
abbrev pub answer_of : Told → Answer
answer_of told = record { output = told.output.items; ending = told.ending; point = told.point.items }

-- this is printed, and no point is refused
abbrev pub printed : List ℕ → Ending → Answer
printed output ending = record { output = output; ending = ending; point = [] }

-- nothing is printed
abbrev pub silent : Ending → Answer
silent ending = printed [] ending

-- the message where a chain or a point is refused, with these words
abbrev pub point_text : List ℕ → List ℕ
point_text words = codes "blad: point: " ++ words ++ codes "\n"

-- the answer by the k-th chain, where there is one
abbrev pub with_chain : ℕ → (State → Answer) → Option State → Answer
with_chain k answer (Some s) = answer s
with_chain k answer None = record { output = []; ending = Point; point = point_text (codes "there is no chain " ++ decimal k) }

-- ---- one answer behind another
abbrev pub continued_at : Ending → Answer → Answer → Answer
continued_at Done first next = record { output = first.output ++ next.output; ending = next.ending; point = next.point }
continued_at ending first next = first

-- where the first is done, the next goes on with what is printed
abbrev pub continued : Answer → Answer → Answer
continued first next = continued_at first.ending first next

-- ---- the system of a text
-- how a run ends for a refused item, or for a system with too many members or terms
abbrev pub refused_ending : Refused → Ending
refused_ending (refusals.Wide group n) = Wide
refused_ending (refusals.Large group n limit) = Large
refused_ending (refusals.TooMany limit) = Large

-- the answer where there is no system: the line that names what is refused
abbrev pub refused_answer : Refused → Answer
refused_answer e = printed (refused_line e) (refused_ending e)

-- the answer to what was expanded, or for what is refused
abbrev pub with_expanded : {A : Type 0} → Result A Refused → (A → Answer) → Answer
with_expanded (Ok x) answer = answer x
with_expanded (Err e) answer = refused_answer e

-- the answer to the system of a text
abbrev pub with_system : Text → (System → Answer) → Answer
with_system text answer = with_expanded (system_answer text) answer

-- the answer to the system of a text and its questions, which are expanded after it
abbrev pub with_questions : Text → (System → Polynomials → Answer) → Answer
with_questions text answer = with_system text (λ s. with_expanded (questions_answer text) (answer s))
