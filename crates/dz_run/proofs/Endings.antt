-- How a run ends for an answer.
use Rattle.std.proofs.Common.{◌≡◌, ◌==◌, ◌∙◌, sym, ap, subst, refl, ℕ, zero, suc, Bool, true, false, List, [], ◌∷◌, drop, length, Option, Some, None, Result, Ok, Err, append-nil, arith}
use Rattle.std.specs.Prelude.{⊤, unwrap_or}
use Rattle.std.specs.Io.KnownBytes.{Appends, Keeps}
use Rattle.dz_rank.specs.Rankings.{RankingValue}
use Rattle.dz_diff.specs.Operations.{setting_of}
use Rattle.dz_diff.specs.State.{State}
use Rattle.dz_move.specs.Lines.{Line, act, closed, chain, pair, spent, spent_pairs, open_wide, open_separant, open_large}
use Rattle.dz_move.specs.Root.{System}
use Rattle.dz_cert.specs.Reading.{Fault, Reading, bad_line, bytes_after, document_at, ends_early}
use Rattle.dz_cert.specs.declared.checking.DocumentVerdict.{DocumentVerdict}
use Rattle.dz_cert.specs.declared.checking.DocumentVerdict.TheVariants as verdicts
use Rattle.dz_engine.specs.Worked.{worked_tree}
use Rattle.dz_report.specs.declared.ending.ReportEnd.{ReportEnd}
use Rattle.dz_report.specs.declared.ending.ReportEnd.TheVariants as reports
use Rattle.dz_jet.specs.Jets.{Values}
use Rattle.dz_parametric.specs.Reports.{has_many_cones}
use Rattle.dz_series.specs.SeriesReports.{SeriesEnding, done, wide, large, refused, series_report}
use Rattle.dz_syntax.specs.declared.endings.Form.{Form}
use Rattle.dz_syntax.specs.declared.fault.SyntaxFault.{SyntaxFault}
use Rattle.dz_syntax.specs.Names.{Declared}
use Rattle.dz_syntax.specs.Systems.{Tree as Text, system_of}
use Rattle.dz_diff.specs.Tests.{Polynomials}
use Rattle.dz_words.specs.Words.{HasShape}
use Rattle.dz_words.specs.declared.verbs.Verb.{Verb}
use Rattle.dz_words.specs.declared.verbs.Verb.TheVariants.{Decompose, Check, Reduce, Prepare, Series, Parametric, Sample}
use Rattle.dz_words.specs.declared.words.Request.{Request}
use Rattle.dz_report.specs.declared.asked.Asked.{Asked}
use Rattle.dz_report.specs.declared.asked.Asked.TheVariants.{Reductions, Preparations}
use Rattle.dz_run.specs.declared.ending.Ending.{Ending}
use Rattle.dz_run.specs.declared.ending.Ending.TheVariants.{Done, Rejected, NotWritten, Syntax, Document, Wide, Spent, Large, ReadFault, WriteFault, WriteStuck, NoMemory, Point, TooLong}
use Rattle.dz_run.specs.declared.system.Refused.{Refused}
use Rattle.dz_run.specs.declared.system.Refused.TheVariants as refusals
use Rattle.dz_run.specs.Answer.{Answer, continued, continued_at, printed, refused_ending, with_expanded}
use Rattle.dz_report.specs.Asked.{report_of}
use Rattle.dz_run.specs.Asked.{asked, report_ending}
use Rattle.dz_run.specs.Charted.{chain_answer, charted, chart_answer, cones_ending, report_answer as series_report_answer}
use Rattle.dz_run.specs.declared.charting.Chart.{Chart}
use Rattle.dz_run.specs.declared.charting.Chart.TheVariants as charts
use Rattle.dz_run.specs.Checked.{document_told, fault_ending, verdict_ending}
use Rattle.dz_run.specs.Decomposed.{decomposed, lines_ending, open_ending, worked_chains}
use Rattle.dz_run.specs.Ending.{IsSilent}
use Rattle.dz_run.specs.Run.{Ends, Input, IsAnswered, IsGiven, IsReadStop, IsReading, Output, WritesAnswer}
use Rattle.dz_run.specs.Sampled.{sample_tree, sampled}
use Rattle.dz_run.specs.System.{questions_answer, system_answer}
use Rattle.dz_run.specs.Verbs.{answer_to, form_of, input_told, reading_told, verb_told}

-- an ending that an answer has
abbrev pub IsAnswerEnding : Ending → Type 0
IsAnswerEnding Done = ⊤
IsAnswerEnding Rejected = ⊤
IsAnswerEnding (Syntax fault) = ⊤
IsAnswerEnding (Document fault) = ⊤
IsAnswerEnding Wide = ⊤
IsAnswerEnding Spent = ⊤
IsAnswerEnding Large = ⊤
IsAnswerEnding Point = ⊤
IsAnswerEnding ending = ⊥

-- the ending is one of an answer's, and where it is silent nothing is printed
pub record IsOrderly (answer : Answer) : Type 0 where
  pub ending : IsAnswerEnding answer.ending
  pub silent : IsSilent answer.ending → answer.output ≡ []

-- an ending at which something may be printed
abbrev IsLoud : Ending → Type 0
IsLoud Done = ⊤
IsLoud Rejected = ⊤
IsLoud Wide = ⊤
IsLoud Spent = ⊤
IsLoud Large = ⊤
IsLoud Point = ⊤
IsLoud ending = ⊥

-- then nothing else is asked of what is printed
loud_at : (output point : List ℕ) (ending : Ending) → IsLoud ending → IsOrderly (record { output = output; ending = ending; point = point })
loud_at output point Done h = record { ending = tt; silent = λ s. absurd s }
loud_at output point Rejected h = record { ending = tt; silent = λ s. absurd s }
loud_at output point Wide h = record { ending = tt; silent = λ s. absurd s }
loud_at output point Spent h = record { ending = tt; silent = λ s. absurd s }
loud_at output point Large h = record { ending = tt; silent = λ s. absurd s }
loud_at output point Point h = record { ending = tt; silent = λ s. absurd s }
loud_at output point NotWritten h = absurd h
loud_at output point (Syntax fault) h = absurd h
loud_at output point (Document fault) h = absurd h
loud_at output point ReadFault h = absurd h
loud_at output point WriteFault h = absurd h
loud_at output point WriteStuck h = absurd h
loud_at output point NoMemory h = absurd h
loud_at output point TooLong h = absurd h

loud : (answer : Answer) → IsLoud answer.ending → IsOrderly answer
loud answer h = loud_at answer.output answer.point answer.ending h

-- ---- what is refused, and trees
refused_loud : (e : Refused) → IsLoud (refused_ending e)
refused_loud (refusals.Wide group n) = tt
refused_loud (refusals.Large group n limit) = tt
refused_loud (refusals.TooMany limit) = tt

line_loud : (line : Line) (later : Ending) → IsLoud later → IsLoud (unwrap_or (open_ending line) later)
line_loud (act action) later h = h
line_loud closed later h = h
line_loud chain later h = h
line_loud (pair e) later h = h
line_loud (spent action) later h = tt
line_loud spent_pairs later h = tt
line_loud (open_wide action) later h = tt
line_loud (open_separant i) later h = tt
line_loud (open_large limit action) later h = tt

lines_loud : (lines : List Line) → IsLoud (lines_ending lines)
lines_loud [] = tt
lines_loud (line ∷ lines) = line_loud line (lines_ending lines) (lines_loud lines)

verdict_loud : (v : DocumentVerdict) → IsLoud (verdict_ending v)
verdict_loud verdicts.Accepted = tt
verdict_loud verdicts.Partial = tt
verdict_loud (verdicts.RejectedTree place rule) = tt
verdict_loud (verdicts.RejectedChain k) = tt

-- ---- answers
-- an answer to what was expanded, or for what is refused
expanded_orderly : {A : Type 0} (r : Result A Refused) (next : A → Answer) → ((x : A) → IsOrderly (next x)) → IsOrderly (with_expanded r next)
expanded_orderly (Ok x) next h = h x
expanded_orderly (Err e) next h = loud_at _ [] (refused_ending e) (refused_loud e)

-- an answer behind another
continued_loud : (e : Ending) (first next : Answer) → first.ending ≡ e → IsLoud first.ending → IsLoud next.ending → IsLoud (continued_at e first next).ending
continued_loud Done first next f h k = k
continued_loud Rejected first next f h k = h
continued_loud Wide first next f h k = h
continued_loud Spent first next f h k = h
continued_loud Large first next f h k = h
continued_loud Point first next f h k = h
continued_loud NotWritten first next f h k = h
continued_loud (Syntax fault) first next f h k = h
continued_loud (Document fault) first next f h k = h
continued_loud ReadFault first next f h k = h
continued_loud WriteFault first next f h k = h
continued_loud WriteStuck first next f h k = h
continued_loud NoMemory first next f h k = h
continued_loud TooLong first next f h k = h

decomposed_loud : (r : RankingValue) (names : Declared) (budget : ℕ) (s : System) → IsLoud (decomposed r names budget s).ending
unfolding decomposed
decomposed_loud r names budget s = lines_loud (worked_tree (setting_of r) budget s).lines

behind_loud : (r : RankingValue) (names : Declared) (budget : ℕ) (s : System) (next : Answer) → IsLoud next.ending → IsOrderly (continued (decomposed r names budget s) next)
behind_loud r names budget s next h =
    loud _ (continued_loud (decomposed r names budget s).ending (decomposed r names budget s) next refl (decomposed_loud r names budget s) h)

report_loud : (end : ReportEnd) → IsLoud (report_ending end)
report_loud reports.Done = tt
report_loud reports.Wide = tt
report_loud reports.Large = tt
report_loud reports.Spent = tt

asked_orderly : (what : Asked) (r : RankingValue) (names : Declared) (budget : ℕ) (s : System) (questions : Polynomials) → IsOrderly (asked what r names budget s questions)
unfolding asked
asked_orderly what r names budget s questions =
    behind_loud r names budget s _ (report_loud (report_of what (setting_of r) names budget questions (worked_chains r budget s)).ending)

series_loud : (printed : List ℕ) (e : SeriesEnding) → IsLoud (series_report_answer (record { printed = printed; ending = e })).ending
series_loud printed done = tt
series_loud printed wide = tt
series_loud printed large = tt
series_loud printed (refused words) = tt

cones_loud : (many : Bool) → IsLoud (cones_ending many)
cones_loud true = tt
cones_loud false = tt

chart_loud : (what : Chart) (r : RankingValue) (names : Declared) (k : ℕ) (values : Values) (order : ℕ) (s : State) → IsLoud (chart_answer what r names k values order s).ending
chart_loud charts.Series r names k values order s = let report = series_report r names k s values order in series_loud report.printed report.ending
chart_loud charts.Parametric r names k values order s = cones_loud (has_many_cones r s)

chain_loud : (what : Chart) (r : RankingValue) (names : Declared) (k : ℕ) (values : Values) (order : ℕ) (s : Option State) → IsLoud (chain_answer what r names k values order s).ending
chain_loud what r names k values order (Some s) = chart_loud what r names k values order s
chain_loud what r names k values order None = tt

charted_orderly : (what : Chart) (r : RankingValue) (names : Declared) (q : Request) (values : Values) (s : System) → IsOrderly (charted what r names q values s)
unfolding charted
charted_orderly what r names q values s = behind_loud r names q.budget s _ (chain_loud what r names q.chain values q.order _)

sampled_orderly : (seed size : ℕ) → IsOrderly (sampled seed size)
unfolding sampled
sampled_orderly seed size = loud _ (lines_loud (sample_tree seed size).lines)

fault_orderly : (fault : Fault) → IsOrderly (printed [] (fault_ending fault))
fault_orderly (bad_line n) = record { ending = tt; silent = λ s. refl }
fault_orderly ends_early = record { ending = tt; silent = λ s. refl }
fault_orderly bytes_after = record { ending = tt; silent = λ s. refl }

document_orderly : (text : Text) (r : Result Reading Fault) → IsOrderly (document_told text r)
document_orderly text (Ok document) = expanded_orderly (system_answer text) _ (λ s. loud _ (verdict_loud _))
document_orderly text (Err fault) = fault_orderly fault

verb_orderly : (verb : Verb) (q : Request) (bytes : List ℕ) (text : Text) → IsOrderly (verb_told verb q bytes text)
verb_orderly Decompose q bytes text = expanded_orderly (system_answer text) _ (λ s. loud _ (decomposed_loud _ text.names q.budget s))
verb_orderly Check q bytes text = document_orderly text (document_at text.names (drop text.document bytes))
verb_orderly Reduce q bytes text = expanded_orderly (system_answer text) _ (λ s. expanded_orderly (questions_answer text) _ (asked_orderly Reductions _ text.names q.budget s))
verb_orderly Prepare q bytes text = expanded_orderly (system_answer text) _ (λ s. expanded_orderly (questions_answer text) _ (asked_orderly Preparations _ text.names q.budget s))
verb_orderly Series q bytes text = expanded_orderly (system_answer text) _ (charted_orderly charts.Series _ text.names q text.values)
verb_orderly Parametric q bytes text = expanded_orderly (system_answer text) _ (charted_orderly charts.Parametric _ text.names q text.values)
verb_orderly Sample q bytes text = sampled_orderly q.seed q.size

reading_orderly : (q : Request) (bytes : List ℕ) (r : Result Text SyntaxFault) → IsOrderly (reading_told q bytes r)
reading_orderly q bytes (Ok text) = verb_orderly q.verb q bytes text
reading_orderly q bytes (Err fault) = record { ending = tt; silent = λ s. refl }

input_orderly : (q : Request) (bytes : List ℕ) (form : Option Form) → IsOrderly (input_told q bytes form)
input_orderly q bytes (Some form) = reading_orderly q bytes (system_of form bytes)
input_orderly q bytes None = sampled_orderly q.seed q.size

answer_orderly : (q : Request) (bytes : List ℕ) → IsOrderly (answer_to q bytes)
unfolding answer_to
answer_orderly q bytes = input_orderly q bytes (form_of q.verb)

-- so is an answer to words and an input
pub answered_orderly : (words : List (List ℕ)) (before after : Input) (answer : Answer) → IsAnswered words before after answer → IsOrderly answer
answered_orderly words before after answer h = subst IsOrderly h.is (answer_orderly h.request h.bytes)

given_ends : (words : List (List ℕ)) (before after : Input) (out out' : Output) (ending : Ending) (point : List ℕ) → IsAnswerEnding ending → IsGiven words before after out out' ending point
    → Ends words before after out out' ending point
given_ends words before after out out' Done point h given = given
given_ends words before after out out' Rejected point h given = given
given_ends words before after out out' (Syntax fault) point h given = given
given_ends words before after out out' (Document fault) point h given = given
given_ends words before after out out' Wide point h given = given
given_ends words before after out out' Spent point h given = given
given_ends words before after out out' Large point h given = given
given_ends words before after out out' Point point h given = given
given_ends words before after out out' NotWritten point h given = absurd h
given_ends words before after out out' ReadFault point h given = absurd h
given_ends words before after out out' WriteFault point h given = absurd h
given_ends words before after out out' WriteStuck point h given = absurd h
given_ends words before after out out' NoMemory point h given = absurd h
given_ends words before after out out' TooLong point h given = absurd h

-- an answer of which all was printed ends as it says
pub answer_ends : (words : List (List ℕ)) (before after : Input) (out out' : Output) (answer : Answer) → IsAnswered words before after answer → Appends out.written out'.written answer.output
    → Ends words before after out out' answer.ending answer.point
answer_ends words before after out out' answer answered printed =
    given_ends words before after out out' answer.ending answer.point (answered_orderly words before after answer answered).ending (record { answer = answer; answered = answered; ends = refl; tells = refl; printed = printed })

-- an answer that prints nothing leaves the output
pub nothing_ends : (words : List (List ℕ)) (before after : Input) (out : Output) (answer : Answer) → IsAnswered words before after answer → answer.output ≡ []
    → Ends words before after out out answer.ending answer.point
nothing_ends words before after out answer answered none = answer_ends words before after out out answer answered (subst (Appends out.written out.written) (sym none) (appends_nothing out.written))
  where
    appends_nothing : (known : Option (List ℕ)) → Appends known known []
    appends_nothing None = tt
    appends_nothing (Some xs) = sym (append-nil xs)

-- an answer that was cut
pub cut_ends : (words : List (List ℕ)) (before after : Input) (out out' : Output) (answer : Answer) (ending : Ending) (point : List ℕ) → IsAnswered words before after answer
    → WritesAnswer out out' answer.output (Err ending) → Ends words before after out out' ending point
cut_ends words before after out out' answer WriteFault point answered (part, rose) = (record { answer = answer; answered = answered; printed = part }, rose)
cut_ends words before after out out' answer WriteStuck point answered (part, rose) = (record { answer = answer; answered = answered; printed = part }, rose)
cut_ends words before after out out' answer ending point answered w = absurd w

-- nothing was written
pub keeps_nothing : (known : Option (List ℕ)) → Keeps known known
keeps_nothing None = tt
keeps_nothing (Some xs) = refl

-- reading that stops before the end of the input
pub stop_ends : (words : List (List ℕ)) (before after : Input) (out : Output) (ending : Ending) (point : List ℕ) → IsReading words → HasShape words → IsReadStop before after ending
    → Ends words before after out out ending point × IsSilent ending
stop_ends words before after out ReadFault point reading shape stop = ((reading, stop.0, stop.1, keeps_nothing out.written), tt)
stop_ends words before after out NoMemory point reading shape stop = ((shape, stop, keeps_nothing out.written), tt)
stop_ends words before after out TooLong point reading shape stop = ((reading, stop, keeps_nothing out.written), tt)
stop_ends words before after out ending point reading shape stop = absurd stop

-- bytes that are not empty are some
pub some_bytes : (bytes slice : List ℕ) (size : ℕ) → slice ≡ bytes → length slice ≡ size → false ≡ (size == 0) → bytes ≡ [] → ⊥
some_bytes bytes slice size same counted filled none = absurd (is_filled size filled (sym counted ∙ ap length same ∙ ap length none))
  where
    is_filled : (n : ℕ) → false ≡ (n == 0) → n ≡ 0 → ⊥
    is_filled zero e h = absurd cc
    is_filled (suc n) e h = absurd (omega arith)
