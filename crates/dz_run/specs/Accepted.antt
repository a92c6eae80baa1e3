-- What `check` answers to what `decompose` printed.
use Rattle.std.specs.Prelude.{◌≡◌, List, ◌∷◌, ◌++◌, codes, ℕ}
use Rattle.dz_words.specs.declared.words.Request.{Request}
use Rattle.dz_run.specs.declared.ending.Ending.{Ending}
use Rattle.dz_run.specs.declared.ending.Ending.TheVariants.{Done}
use Rattle.dz_run.specs.Answer.{Answer, printed}
use Rattle.dz_run.specs.Verbs.{answer_to}

-- the verdict on a tree whose lines hold: it is accepted where its making was done, and partial where that left a case open
abbrev pub taken : Ending → Answer
taken Done = printed (codes "accepted\n") Done
taken ending = printed (codes "partial\n") Done

-- what the first request prints for some bytes is taken by the second, behind these bytes up to the end of the system and a
-- line feed
abbrev pub IsAccepted : Request → Request → List ℕ → Type 0
IsAccepted first second bytes =
    (system rest : List ℕ) × (bytes ≡ system ++ rest)
    × (answer_to second (system ++ (10 ∷ (answer_to first bytes).output)) ≡ taken (answer_to first bytes).ending)
