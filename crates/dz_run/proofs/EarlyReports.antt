-- What runs of `decompose` and `reduce` mean that stop early.
use Rattle.std.proofs.Common.{◌≡◌, ◌⊎◌, inl, inr, List, ℕ, Result, Ok, Err, ap, refl, subst, sym, ◌∙◌}
use Rattle.dz_algebra.specs.Domain.{DomainLaws, Operations}
use Rattle.dz_domain.specs.Point.{Coordinates, IsPoint}
use Rattle.dz_diff.specs.Tests.{Polynomials}
use Rattle.dz_move.specs.Root.{System}
use Rattle.dz_report.specs.declared.asked.Asked.{Asked}
use Rattle.dz_report.specs.declared.asked.Asked.TheVariants.{Reductions}
use Rattle.dz_syntax.specs.declared.endings.Form.TheVariants.{Questions, Plain}
use Rattle.dz_syntax.specs.Systems.{Tree as Text, system_of}
use Rattle.dz_syntax.proofs.SystemReadings.{system_found}
use Rattle.dz_words.specs.Words.{IsWritten}
use Rattle.dz_words.specs.declared.verbs.Verb.TheVariants.{Reduce, Decompose}
use Rattle.dz_words.specs.declared.words.Request.{Request}
use Rattle.dz_words.proofs.Written.{in_range, one_asked}
use Rattle.dz_run.specs.Decomposed.{decomposed}
use Rattle.std.specs.Io.KnownBytes.{Appends}
use Rattle.dz_zeros.proofs.ZeroSetLaws.{zero_sets}
use Rattle.dz_run.specs.declared.ending.Ending.{Ending}
use Rattle.dz_run.specs.declared.ending.Ending.TheVariants.{Done, Rejected, NotWritten, Syntax, Document, Wide, Spent, Large, ReadFault, WriteFault, WriteStuck, NoMemory, Point, TooLong}
use Rattle.dz_run.specs.declared.system.Refused.{Refused}
use Rattle.dz_run.specs.Answer.{refused_answer, with_expanded}
use Rattle.dz_run.specs.Asked.{asked}
use Rattle.dz_run.specs.Ending.{status_of}
use Rattle.dz_run.specs.Headline.{IsReduced, IsUnreported, IsPartlyDecomposed, IsRefusedSystem}
use Rattle.dz_run.specs.Run.{Ends, Input, IsGiven, IsRead, Output}
use Rattle.dz_run.specs.System.{questions_answer, ranking_of, system_answer}
use Rattle.dz_run.specs.Verbs.{answer_to}
use Rattle.dz_run.proofs.Decompositions.{IsAsked, IsAskedAndDone, asked_reduced, asked_told, asks, asks_input, bytes_read, document_is, has_worked, is_open, reported_or_not, tree_of, verb_of}
use Rattle.dz_run.proofs.DoneAnswers.{IsEarly, told_early}

-- an answer to questions that stops early, or to what is refused
answer_early : (what : Asked) (q : Request) → q.verb ≡ verb_of what → (bytes : List ℕ) → IsEarly (answer_to q bytes).ending
    → (text : Text) × (system_of Questions bytes ≡ Ok text) × (IsAsked what q.budget bytes (answer_to q bytes) ⊎ ((e : Refused) × (answer_to q bytes ≡ refused_answer e)))
answer_early what q verb bytes early =
    let told = told_early q (verb_of what) verb Questions (asks what) bytes early in
    (told.0, told.1, by_system told.0 told.1 (told.2 ∙ asked_told what q bytes told.0) (system_answer told.0) refl)
  where
    by_questions : (text : Text) → system_of Questions bytes ≡ Ok text → (system : System) → system_answer text ≡ Ok system → (r : Result Polynomials Refused) → questions_answer text ≡ r
        → answer_to q bytes ≡ with_expanded r (asked what (ranking_of text) text.names q.budget system) → IsAsked what q.budget bytes (answer_to q bytes) ⊎ ((e : Refused) × (answer_to q bytes ≡ refused_answer e))
    by_questions text spelled system expanded (Ok questions) are is = inl (record { text = text; system = system; questions = questions; spelled = spelled; expanded = expanded; asked_are = are; is = is })
    by_questions text spelled system expanded (Err e) are is = inr (e, is)

    by_system : (text : Text) → system_of Questions bytes ≡ Ok text
        → answer_to q bytes ≡ with_expanded (system_answer text) (λ s. with_expanded (questions_answer text) (asked what (ranking_of text) text.names q.budget s))
        → (r : Result System Refused) → system_answer text ≡ r → IsAsked what q.budget bytes (answer_to q bytes) ⊎ ((e : Refused) × (answer_to q bytes ≡ refused_answer e))
    by_system text spelled is (Ok system) expanded =
        by_questions text spelled system expanded (questions_answer text) refl
        (is ∙ ap (λ r. with_expanded r (λ s. with_expanded (questions_answer text) (asked what (ranking_of text) text.names q.budget s))) expanded)
    by_system text spelled is (Err e) expanded =
        inr (e, is ∙ ap (λ r. with_expanded r (λ s. with_expanded (questions_answer text) (asked what (ranking_of text) text.names q.budget s))) expanded)

-- a status at which an answer stops early
abbrev pub IsEarlyStatus : ℕ → Type 0
IsEarlyStatus n = (n ≡ 4) ⊎ ((n ≡ 5) ⊎ (n ≡ 6))

-- no other status is one
not_early : (n : ℕ) → (n ≡ 4 → ⊥) → (n ≡ 5 → ⊥) → (n ≡ 6 → ⊥) → IsEarlyStatus n → ⊥
not_early n f g h (inl e) = f e
not_early n f g h (inr (inl e)) = g e
not_early n f g h (inr (inr e)) = h e

-- a run that ends with one is given, and stops early
pub early_given : (words : List (List ℕ)) (before after : Input) (out out' : Output) (ending : Ending) (point : List ℕ) → Ends words before after out out' ending point → IsEarlyStatus (status_of ending)
    → IsGiven words before after out out' ending point × IsEarly ending
early_given words before after out out' Wide point ends status = (ends, tt)
early_given words before after out out' Spent point ends status = (ends, tt)
early_given words before after out out' Large point ends status = (ends, tt)
early_given words before after out out' Done point ends status = absurd (not_early _ (λ e. cc) (λ e. cc) (λ e. cc) status)
early_given words before after out out' Rejected point ends status = absurd (not_early _ (λ e. cc) (λ e. cc) (λ e. cc) status)
early_given words before after out out' NotWritten point ends status = absurd (not_early _ (λ e. cc) (λ e. cc) (λ e. cc) status)
early_given words before after out out' (Syntax fault) point ends status = absurd (not_early _ (λ e. cc) (λ e. cc) (λ e. cc) status)
early_given words before after out out' (Document fault) point ends status = absurd (not_early _ (λ e. cc) (λ e. cc) (λ e. cc) status)
early_given words before after out out' ReadFault point ends status = absurd (not_early _ (λ e. cc) (λ e. cc) (λ e. cc) status)
early_given words before after out out' WriteFault point ends status = absurd (not_early _ (λ e. cc) (λ e. cc) (λ e. cc) status)
early_given words before after out out' WriteStuck point ends status = absurd (not_early _ (λ e. cc) (λ e. cc) (λ e. cc) status)
early_given words before after out out' NoMemory point ends status = absurd (not_early _ (λ e. cc) (λ e. cc) (λ e. cc) status)
early_given words before after out out' Point point ends status = absurd (not_early _ (λ e. cc) (λ e. cc) (λ e. cc) status)
early_given words before after out out' TooLong point ends status = absurd (not_early _ (λ e. cc) (λ e. cc) (λ e. cc) status)

-- a run that asks was given an answer that stops early: it has a report, or none
pub asked_early : (what : Asked) (words : List (List ℕ)) (before after : Input) (out out' : Output) (ending : Ending) (message : List ℕ) (request : Request) → IsWritten words request → request.verb ≡ verb_of what
    → (given : IsGiven words before after out out' ending message) → IsEarly ending
    → IsAskedAndDone what request.budget before after given.answered.bytes given.answer ⊎ IsUnreported request.budget before after out.written out'.written
asked_early what words before after out out' ending message request written verb given early =
    let a = given.answered in
    let same : a.request ≡ request = one_asked words a.request request a.written written in
    let is : answer_to request a.bytes ≡ given.answer = subst (λ (q : Request). answer_to q a.bytes ≡ given.answer) same a.is in
    let read = bytes_read a.request.verb (verb_of what) (ap (λ q. q.verb) same ∙ verb) (asks_input what) before after a.bytes a.taken in
    let found = answer_early what request verb a.bytes (subst IsEarly (sym (ap (λ a. a.ending) is ∙ given.ends)) early) in
    elim found.2 [
      | inl made ↦ by_report (subst (IsAsked what request.budget a.bytes) is made) read
      | inr refused ↦ inr (record { bytes = a.bytes; text = found.0; answer = given.answer; read = read; spelled = system_found Questions a.bytes found.0 found.1; printed = given.printed; is = inl (refused.0, sym is ∙ refused.1) })
    ]
  where
    by_report : (a : IsAsked what request.budget given.answered.bytes given.answer) → IsRead before after given.answered.bytes
        → IsAskedAndDone what request.budget before after given.answered.bytes given.answer ⊎ IsUnreported request.budget before after out.written out'.written
    by_report a read = elim (reported_or_not what a.text request.budget a.system a.questions) [
      | inl reported ↦ inl (record { read = read; asked = a; reported = reported })
      | inr first ↦ inr (record {
        bytes = given.answered.bytes;
        text = a.text;
        answer = given.answer;
        read = read;
        spelled = system_found Questions given.answered.bytes a.text a.spelled;
        printed = given.printed;
        is = inr (a.system, a.is ∙ first.1, (λ done. first.0 (sym (ap (λ a. a.ending) (a.is ∙ first.1)) ∙ done)));
      })
    ]

module _ {E : Type 0} {o : Operations E} (laws : DomainLaws o) {c : Coordinates E} (point : IsPoint o c) where
  -- what a run of `reduce` gives that stops early
  pub given_early : (words : List (List ℕ)) (before after : Input) (out out' : Output) (ending : Ending) (message : List ℕ) (request : Request) → IsWritten words request → request.verb ≡ Reduce
      → IsGiven words before after out out' ending message → IsEarly ending
      → IsReduced o c request.budget before after out.written out'.written ⊎ IsUnreported request.budget before after out.written out'.written
  given_early words before after out out' ending message request written verb given early = elim (asked_early Reductions words before after out out' ending message request written verb given early) [
    | inl a ↦ inl (asked_reduced laws point before after out out' request.budget (in_range words request written).budget.1 given.answered.bytes a.read given.answer a.asked a.reported given.printed)
    | inr none ↦ inr none
  ]

  -- what a run of `decompose` gives that stops early
  pub given_partly : (words : List (List ℕ)) (before after : Input) (out out' : Output) (ending : Ending) (message : List ℕ) (request : Request) → IsWritten words request → request.verb ≡ Decompose
      → IsGiven words before after out out' ending message → IsEarly ending
      → IsPartlyDecomposed o c request.budget before after out.written out'.written ⊎ IsRefusedSystem before after out.written out'.written
  given_partly words before after out out' ending message request written verb given early =
      let told = told_early request Decompose verb Plain refl bytes (subst IsEarly (sym (ap (λ a. a.ending) is ∙ given.ends)) early) in
      by_system told.0 told.1 (sym is ∙ told.2) (system_answer told.0) refl
    where
      bytes : List ℕ
      bytes = given.answered.bytes

      same : given.answered.request ≡ request
      same = one_asked words given.answered.request request given.answered.written written

      is : answer_to request bytes ≡ given.answer
      is = subst (λ (q : Request). answer_to q bytes ≡ given.answer) same given.answered.is

      read : IsRead before after bytes
      read = bytes_read given.answered.request.verb Decompose (ap (λ q. q.verb) same ∙ verb) refl before after bytes given.answered.taken

      not_done : (e : Ending) → IsEarly e → e ≡ Done → ⊥
      not_done e i d = subst IsEarly d i

      by_system : (text : Text) → system_of Plain bytes ≡ Ok text → given.answer ≡ with_expanded (system_answer text) (decomposed (ranking_of text) text.names request.budget)
          → (r : Result System Refused) → system_answer text ≡ r
          → IsPartlyDecomposed o c request.budget before after out.written out'.written ⊎ IsRefusedSystem before after out.written out'.written
      by_system text spelled answer (Ok system) expanded =
          let tree = tree_of text request.budget system in
          let made : given.answer ≡ decomposed (ranking_of text) text.names request.budget system = answer ∙ ap (λ r. with_expanded r (decomposed (ranking_of text) text.names request.budget)) expanded in
          let worked = has_worked Plain bytes text request.budget system spelled (in_range words request written).budget.1 expanded in
          inl (record {
            bytes = bytes;
            text = text;
            system = system;
            tree = tree;
            read = read;
            spelled = system_found Plain bytes text spelled;
            expanded = expanded;
            certified = worked.certified;
            incomplete = is_open text request.budget system worked (λ done. not_done ending early (sym given.ends ∙ ap (λ a. a.ending) made ∙ done));
            has_budget = refl;
            printed = subst (Appends out.written out'.written) (ap (λ a. a.output) made ∙ document_is text request.budget system) given.printed;
            chains = worked.chains;
            solutions = λ fits. (zero_sets (ranking_of text) o laws c point fits).of_tree system tree worked.over worked.certified;
          })
      by_system text spelled answer (Err e) expanded =
          let made : given.answer ≡ refused_answer e = answer ∙ ap (λ r. with_expanded r (decomposed (ranking_of text) text.names request.budget)) expanded in
          inr (record {
            bytes = bytes;
            text = text;
            refused = e;
            read = read;
            spelled = system_found Plain bytes text spelled;
            is = expanded;
            printed = subst (Appends out.written out'.written) (ap (λ a. a.output) made) given.printed;
          })
