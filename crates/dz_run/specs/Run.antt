-- What a run leaves of the input, on the output and on the error output.
use Rattle.std.specs.Prelude.{◌≡◌, ◌⊎◌, ◌≤◌, ◌+◌, ℕ, Bool, true, false, List, [], length, Result, Ok, Err, ⊤}
use Rattle.std.specs.declared.option.Option.{Option}
use Rattle.std.specs.Io.KnownBytes.{Appends, Consumes, IsAtEnd, Keeps}
use Rattle.dz_outside.specs.Causes.{Rose}
use Rattle.dz_outside.specs.Reading.{GivesAtMost, GivesBytes}
use Rattle.dz_outside.specs.Writing.{AppendsPart}
use Rattle.dz_words.specs.Words.{HasShape, IsWritten}
use Rattle.dz_words.specs.declared.words.Request.{Request}
use Rattle.dz_run.specs.Answer.{Answer}
use Rattle.dz_run.specs.Verbs.{answer_to, has_input}
use Rattle.dz_run.specs.declared.ending.Ending.{Ending}
use Rattle.dz_run.specs.declared.ending.Ending.TheVariants.{NotWritten, ReadFault, WriteFault, WriteStuck, NoMemory, TooLong}

-- the most bytes of an input
abbrev pub most_bytes : ℕ
most_bytes = 1048576

-- What a source still gives, and how often it has failed.
pub record Input : Type 0 where
  pub rest : Option (List ℕ)
  pub faults : ℕ

-- What a sink holds, and how often it has failed and has taken nothing.
pub record Output : Type 0 where
  pub written : Option (List ℕ)
  pub faults : ℕ
  pub stalls : ℕ

-- these bytes were read, and they are all that the source gave
abbrev pub IsRead : Input → Input → List ℕ → Type 0
IsRead before after bytes = Consumes before.rest after.rest bytes × IsAtEnd after.rest × (length bytes ≤ most_bytes)

-- the message was written, or a first part of it where the sink failed or took nothing more
abbrev pub IsTold : Output → Output → List ℕ → Type 0
IsTold before after message =
    Appends before.written after.written message
    ⊎ (AppendsPart before.written after.written message × (Rose before.faults after.faults ⊎ Rose before.stalls after.stalls))

-- the words have a written form, and ask for a verb that has an input
pub record IsReading (words : List (List ℕ)) : Type 0 where
  pub request : Request
  pub written : IsWritten words request
  pub has : has_input request.verb ≡ true

-- the whole input was read; where a verb has none, nothing was
abbrev pub IsTaken : Bool → Input → Input → List ℕ → Type 0
IsTaken true before after bytes = IsRead before after bytes
IsTaken false before after bytes = (after ≡ before) × (bytes ≡ [])

-- the words have a written form, their input was read, and this is the answer to them
pub record IsAnswered (words : List (List ℕ)) (before after : Input) (answer : Answer) : Type 0 where
  pub request : Request
  pub written : IsWritten words request
  pub bytes : List ℕ
  pub taken : IsTaken (has_input request.verb) before after bytes
  pub is : answer_to request bytes ≡ answer

-- the output took all that the answer prints, and the run ends as the answer says
pub record IsGiven (words : List (List ℕ)) (before after : Input) (out out' : Output) (ending : Ending) (point : List ℕ) : Type 0 where
  pub answer : Answer
  pub answered : IsAnswered words before after answer
  pub ends : answer.ending ≡ ending
  pub tells : answer.point ≡ point
  pub printed : Appends out.written out'.written answer.output

-- the output took a first part of what the answer prints, and not all
pub record IsCut (words : List (List ℕ)) (before after : Input) (out out' : Output) : Type 0 where
  pub answer : Answer
  pub answered : IsAnswered words before after answer
  pub printed : AppendsPart out.written out'.written answer.output

-- When a run ends in each way, and what is told of a point, by its words, its input and its output, each before and after.
abbrev pub Ends : List (List ℕ) → Input → Input → Output → Output → Ending → List ℕ → Type 0
Ends words before after out out' NotWritten point = ((request : Request) → IsWritten words request → ⊥) × Keeps out.written out'.written
Ends words before after out out' ReadFault point =
    IsReading words × Rose before.faults after.faults × GivesAtMost before.rest after.rest most_bytes × Keeps out.written out'.written
Ends words before after out out' WriteFault point = IsCut words before after out out' × Rose out.faults out'.faults
Ends words before after out out' WriteStuck point = IsCut words before after out out' × Rose out.stalls out'.stalls
Ends words before after out out' NoMemory point =
    HasShape words × GivesAtMost before.rest after.rest most_bytes × Keeps out.written out'.written
Ends words before after out out' TooLong point =
    IsReading words × GivesBytes before.rest after.rest (most_bytes + 1) × Keeps out.written out'.written
Ends words before after out out' ending point = IsGiven words before after out out' ending point

-- how reading stops before the end of the input
abbrev pub IsReadStop : Input → Input → Ending → Type 0
IsReadStop before after ReadFault = Rose before.faults after.faults × GivesAtMost before.rest after.rest most_bytes
IsReadStop before after NoMemory = GivesAtMost before.rest after.rest most_bytes
IsReadStop before after TooLong = GivesBytes before.rest after.rest (most_bytes + 1)
IsReadStop before after ending = ⊥

-- writing an answer leaves all of it on the output, or a first part of it where the output failed or took nothing more
abbrev pub WritesAnswer : Output → Output → List ℕ → Result ⊤ Ending → Type 0
WritesAnswer before after answer (Ok done) = Appends before.written after.written answer
WritesAnswer before after answer (Err WriteFault) = AppendsPart before.written after.written answer × Rose before.faults after.faults
WritesAnswer before after answer (Err WriteStuck) = AppendsPart before.written after.written answer × Rose before.stalls after.stalls
WritesAnswer before after answer (Err ending) = ⊥
