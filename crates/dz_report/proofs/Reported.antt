-- Reports that are written one behind the other.
use Rattle.std.proofs.Common.{◌≡◌, ◌≢◌, ◌≤◌, ℕ, suc, ◌+◌, List, [], ◌∷◌, length, drop, map, Some, refl, sym, ap, subst, ◌∙◌, append-nil, append_assoc, arith, slice_get, ◌++◌}
use Rattle.std.specs.Prelude.{codes}
use Rattle.std.proofs.Math.ListN.{drop_of_length-le}
use Rattle.dz_step.specs.declared.attempts.AttemptStop.{AttemptStop}
use Rattle.dz_cert.specs.Documents.{ended_lines}
use Rattle.dz_cert.specs.LineTexts.{behind_blanks, spaced}
use Rattle.dz_cert.proofs.WrittenLines.{more_written}
use Rattle.dz_cert.proofs.WrittenSteps.{drop_at}
use Rattle.dz_report.specs.Reports.{Report, ◌then◌, followed, reports_from, told}
use Rattle.dz_report.specs.Writing.{GoesOn, IsReported, stop_report, why_end, why_words}
use Rattle.dz_report.specs.declared.ending.ReportEnd.{ReportEnd}
use Rattle.dz_report.specs.declared.ending.ReportEnd.TheVariants.{Done, Wide, Large, Spent}

-- nothing is a report without lines
pub reported_nothing : (now : List ℕ) → IsReported now now Done (told [])
reported_nothing now = record { text = sym (append-nil now); ending = refl }

-- lines are a report that goes on
pub reported_lines : (now new : List ℕ) (lines : List (List ℕ)) → new ≡ now ++ ended_lines lines → IsReported now new Done (told lines)
reported_lines now new lines e = record { text = e; ending = refl }

-- what follows a report that goes on
pub reported_then : (before now after : List ℕ) (end : ReportEnd) (first next : Report) → IsReported before now Done first → IsReported now after end next → IsReported before after end (first then next)
reported_then before now after end first next x y =
    let whole : IsReported before after end (followed first.lines Done next) = record { text = more_written first.lines next.lines before now after x.text y.text; ending = y.ending } in
    subst (λ e. IsReported before after end (followed first.lines e next)) x.ending whole

-- a stop is followed by nothing
followed_stop : (lines : List (List ℕ)) (end : ReportEnd) (next : Report) → end ≢ Done → followed lines end next ≡ record { lines = lines; ending = end }
followed_stop lines Done next h = absurd (h refl)
followed_stop lines Wide next h = refl
followed_stop lines Large next h = refl
followed_stop lines Spent next h = refl

-- a report that stops
pub reported_stop : (before after : List ℕ) (end : ReportEnd) (first next : Report) → IsReported before after end first → end ≢ Done → IsReported before after end (first then next)
reported_stop before after end first next x h =
    let whole : IsReported before after end (record { lines = first.lines; ending = first.ending }) = record { text = x.text; ending = x.ending } in
    subst (λ r. IsReported before after end r) (sym (followed_stop first.lines first.ending next (λ e. h (x.ending ∙ e)))) whole

-- ---- sequences
-- one report more
pub goes_on_more : {S A : Type 0} (report : ℕ → A → Report) (f : S → A) (xs : List S) (k : ℕ) (x : S) (before now new : List ℕ) → slice_get xs k ≡ Some x → IsReported now new Done (report (k + 1) (f x))
    → GoesOn report before now k (map f (drop k xs)) (map f xs) → GoesOn report before new (k + 1) (map f (drop (k + 1) xs)) (map f xs)
goes_on_more {S = S} report f xs k x before now new e is goes = λ after end rest.
    let others = map f (drop (k + 1) xs) in
    let next : k + 1 + 1 ≡ suc (k + 1) = omega arith in
    goes after end
    (subst (λ (ys : List S). IsReported now after end (reports_from report (k + 1) (map f ys))) (sym (drop_at xs k x e))
    (reported_then now new after end (report (k + 1) (f x)) (reports_from report (suc (k + 1)) others) is (subst (λ n. IsReported new after end (reports_from report n others)) next rest)))

-- the report at which the sequence stops
pub goes_on_stop : {S A : Type 0} (report : ℕ → A → Report) (f : S → A) (xs : List S) (k : ℕ) (x : S) (before now new : List ℕ) (end : ReportEnd) → slice_get xs k ≡ Some x → IsReported now new end (report (k + 1) (f x))
    → end ≢ Done → GoesOn report before now k (map f (drop k xs)) (map f xs) → IsReported before new end (reports_from report 1 (map f xs))
goes_on_stop {S = S} report f xs k x before now new end e is stops goes =
    goes new end
    (subst (λ (ys : List S). IsReported now new end (reports_from report (k + 1) (map f ys))) (sym (drop_at xs k x e))
    (reported_stop now new end (report (k + 1) (f x)) (reports_from report (suc (k + 1)) (map f (drop (k + 1) xs))) is stops))

-- no report is left
pub goes_on_end : {S A : Type 0} (report : ℕ → A → Report) (f : S → A) (xs : List S) (k : ℕ) (before now : List ℕ) → length xs ≤ k → GoesOn report before now k (map f (drop k xs)) (map f xs)
    → IsReported before now Done (reports_from report 1 (map f xs))
goes_on_end {S = S} report f xs k before now h goes =
    goes now Done (subst (λ (ys : List S). IsReported now now Done (reports_from report (k + 1) (map f ys))) (sym (drop_of_length-le xs h)) (reported_nothing now))

-- ---- lines of words
-- words behind words
pub behind_blanks-append : (a b : List (List ℕ)) → behind_blanks (a ++ b) ≡ behind_blanks a ++ behind_blanks b
behind_blanks-append [] b = refl
behind_blanks-append (word ∷ a) b = ap (λ (t : List ℕ). codes " " ++ word ++ t) (behind_blanks-append a b) ∙ sym (append_assoc (codes " " ++ word) (behind_blanks a) (behind_blanks b))

-- the first words of a line, the others, and a line feed
pub line_written : (front : List ℕ) (some others : List (List ℕ)) (now said placed after : List ℕ) → said ≡ now ++ spaced (front ∷ some) → placed ≡ said ++ behind_blanks others → after ≡ placed ++ codes "\n"
    → after ≡ now ++ ended_lines (spaced (front ∷ some ++ others) ∷ [])
line_written front some others now said placed after is_said is_placed is_after =
    let text = front ++ behind_blanks some in
    is_after
    ∙ ap (λ (t : List ℕ). t ++ codes "\n") (is_placed ∙ ap (λ (t : List ℕ). t ++ behind_blanks others) is_said ∙ append_assoc now text (behind_blanks others)
    ∙ ap (λ (t : List ℕ). now ++ t) (append_assoc front (behind_blanks some) (behind_blanks others) ∙ ap (λ (t : List ℕ). front ++ t) (sym (behind_blanks-append some others))))
    ∙ append_assoc now (spaced (front ∷ some ++ others)) (codes "\n")
    ∙ ap (λ (t : List ℕ). now ++ t) (sym (append-nil (spaced (front ∷ some ++ others) ++ codes "\n")))

-- the report of a stop
pub stop_reported : (stop : AttemptStop) (place : List (List ℕ)) (now said placed after : List ℕ) (end : ReportEnd) → said ≡ now ++ spaced (codes "stopped" ∷ why_words stop) → placed ≡ said ++ behind_blanks place → after ≡ placed ++ codes "\n"
    → end ≡ why_end stop → IsReported now after end (stop_report stop place)
stop_reported stop place now said placed after end is_said is_placed is_after is_end =
    record { text = line_written (codes "stopped") (why_words stop) place now said placed after is_said is_placed is_after; ending = is_end }
