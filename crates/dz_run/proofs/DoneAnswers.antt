-- What an answer comes from whose ending is Done.
use Rattle.std.proofs.Common.{◌≡◌, ◌⊎◌, inl, inr, List, ◌++◌, ℕ, Some, Result, Ok, Err, ap, refl, subst, sym, ◌∙◌}
use Rattle.std.specs.Prelude.{⊤}
use Rattle.dz_syntax.specs.declared.endings.Form.{Form}
use Rattle.dz_syntax.specs.declared.fault.SyntaxFault.{SyntaxFault}
use Rattle.dz_syntax.specs.Systems.{Tree as Text, system_of}
use Rattle.dz_words.specs.declared.verbs.Verb.{Verb}
use Rattle.dz_words.specs.declared.words.Request.{Request}
use Rattle.dz_run.specs.declared.ending.Ending.{Ending}
use Rattle.dz_run.specs.declared.ending.Ending.TheVariants.{Done, Rejected, NotWritten, Syntax, Document, Wide, Spent, Large, ReadFault, WriteFault, WriteStuck, NoMemory, Point, TooLong}
use Rattle.dz_run.specs.declared.system.Refused.{Refused}
use Rattle.dz_run.specs.declared.system.Refused.TheVariants as refusals
use Rattle.dz_run.specs.Answer.{Answer, continued, continued_at, with_expanded}
use Rattle.dz_run.specs.Verbs.{answer_to, form_of, input_told, reading_told, verb_told}

-- something was expanded
pub done_expanded : {A : Type 0} (a : Result A Refused) (next : A → Answer) → (with_expanded a next).ending ≡ Done → (x : A) × (a ≡ Ok x) × (with_expanded a next ≡ next x)
done_expanded (Ok x) next done = (x, refl, refl)
done_expanded (Err (refusals.Wide group n)) next done = absurd cc
done_expanded (Err (refusals.Large group n limit)) next done = absurd cc
done_expanded (Err (refusals.TooMany limit)) next done = absurd cc

-- a text was read
read_done : (q : Request) (verb : Verb) → q.verb ≡ verb → (bytes : List ℕ) (read : Result Text SyntaxFault) → (reading_told q bytes read).ending ≡ Done
    → (text : Text) × (read ≡ Ok text) × (reading_told q bytes read ≡ verb_told verb q bytes text)
read_done q verb v bytes (Ok text) done = (text, refl, ap (λ v. verb_told v q bytes text) v)
read_done q verb v bytes (Err fault) done = absurd cc

-- the answer of a verb that has an input is that to the text that was read
pub told_done : (q : Request) (verb : Verb) → q.verb ≡ verb → (form : Form) → form_of verb ≡ Some form → (bytes : List ℕ) → (answer_to q bytes).ending ≡ Done
    → (text : Text) × (system_of form bytes ≡ Ok text) × (answer_to q bytes ≡ verb_told verb q bytes text)
unfolding answer_to
told_done q verb v form f bytes done =
    let is : input_told q bytes (form_of q.verb) ≡ reading_told q bytes (system_of form bytes) = ap (input_told q bytes) (ap form_of v ∙ f) in
    let read = read_done q verb v bytes (system_of form bytes) (sym (ap (λ a. a.ending) is) ∙ done) in
    (read.0, read.1, is ∙ read.2)

-- the first of two answers is done too, and so is the next, which stands behind it
pub both_done : (first next : Answer) → (continued first next).ending ≡ Done → (first.ending ≡ Done) × (next.ending ≡ Done) × ((continued first next).output ≡ first.output ++ next.output)
both_done first next done = by_ending first.ending refl done
  where
    by_ending : (e : Ending) → first.ending ≡ e → (continued_at e first next).ending ≡ Done
        → (first.ending ≡ Done) × (next.ending ≡ Done) × ((continued_at e first next).output ≡ first.output ++ next.output)
    by_ending Done f k = (f, k, refl)
    by_ending Rejected f k = absurd (let h = sym f ∙ k in cc)
    by_ending NotWritten f k = absurd (let h = sym f ∙ k in cc)
    by_ending (Syntax fault) f k = absurd (let h = sym f ∙ k in cc)
    by_ending (Document fault) f k = absurd (let h = sym f ∙ k in cc)
    by_ending Wide f k = absurd (let h = sym f ∙ k in cc)
    by_ending Spent f k = absurd (let h = sym f ∙ k in cc)
    by_ending Large f k = absurd (let h = sym f ∙ k in cc)
    by_ending ReadFault f k = absurd (let h = sym f ∙ k in cc)
    by_ending WriteFault f k = absurd (let h = sym f ∙ k in cc)
    by_ending WriteStuck f k = absurd (let h = sym f ∙ k in cc)
    by_ending NoMemory f k = absurd (let h = sym f ∙ k in cc)
    by_ending Point f k = absurd (let h = sym f ∙ k in cc)
    by_ending TooLong f k = absurd (let h = sym f ∙ k in cc)

-- the first of two answers is done, and the next stands behind it; or the first is all
pub continued_or : (first next : Answer) → ((first.ending ≡ Done) × ((continued first next).output ≡ first.output ++ next.output)) ⊎ ((first.ending ≡ Done → ⊥) × (continued first next ≡ first))
continued_or first next = by_ending first.ending refl
  where
    by_ending : (e : Ending) → first.ending ≡ e → ((first.ending ≡ Done) × ((continued_at e first next).output ≡ first.output ++ next.output)) ⊎ ((first.ending ≡ Done → ⊥) × (continued_at e first next ≡ first))
    by_ending Done f = inl (f, refl)
    by_ending Rejected f = inr ((λ d. let h = sym f ∙ d in cc), refl)
    by_ending NotWritten f = inr ((λ d. let h = sym f ∙ d in cc), refl)
    by_ending (Syntax fault) f = inr ((λ d. let h = sym f ∙ d in cc), refl)
    by_ending (Document fault) f = inr ((λ d. let h = sym f ∙ d in cc), refl)
    by_ending Wide f = inr ((λ d. let h = sym f ∙ d in cc), refl)
    by_ending Spent f = inr ((λ d. let h = sym f ∙ d in cc), refl)
    by_ending Large f = inr ((λ d. let h = sym f ∙ d in cc), refl)
    by_ending ReadFault f = inr ((λ d. let h = sym f ∙ d in cc), refl)
    by_ending WriteFault f = inr ((λ d. let h = sym f ∙ d in cc), refl)
    by_ending WriteStuck f = inr ((λ d. let h = sym f ∙ d in cc), refl)
    by_ending NoMemory f = inr ((λ d. let h = sym f ∙ d in cc), refl)
    by_ending Point f = inr ((λ d. let h = sym f ∙ d in cc), refl)
    by_ending TooLong f = inr ((λ d. let h = sym f ∙ d in cc), refl)

-- ---- answers that stop early
-- an ending at which an answer stops early
abbrev pub IsEarly : Ending → Type 0
IsEarly Wide = ⊤
IsEarly Spent = ⊤
IsEarly Large = ⊤
IsEarly ending = ⊥

-- a text was read
read_early : (q : Request) (verb : Verb) → q.verb ≡ verb → (bytes : List ℕ) (read : Result Text SyntaxFault) → IsEarly (reading_told q bytes read).ending
    → (text : Text) × (read ≡ Ok text) × (reading_told q bytes read ≡ verb_told verb q bytes text)
read_early q verb v bytes (Ok text) early = (text, refl, ap (λ v. verb_told v q bytes text) v)
read_early q verb v bytes (Err fault) early = absurd early

-- the answer of a verb that has an input is that to the text that was read
pub told_early : (q : Request) (verb : Verb) → q.verb ≡ verb → (form : Form) → form_of verb ≡ Some form → (bytes : List ℕ) → IsEarly (answer_to q bytes).ending
    → (text : Text) × (system_of form bytes ≡ Ok text) × (answer_to q bytes ≡ verb_told verb q bytes text)
unfolding answer_to
told_early q verb v form f bytes early =
    let is : input_told q bytes (form_of q.verb) ≡ reading_told q bytes (system_of form bytes) = ap (input_told q bytes) (ap form_of v ∙ f) in
    let read = read_early q verb v bytes (system_of form bytes) (subst IsEarly (ap (λ a. a.ending) is) early) in
    (read.0, read.1, is ∙ read.2)
