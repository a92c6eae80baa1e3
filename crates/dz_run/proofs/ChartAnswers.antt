-- What is told of a chain behind the document of a complete tree.
use Rattle.std.proofs.Common.{◌≡◌, ◌∙◌, ◌++◌, ◌-◌, ◌≤◌, ℕ, zero, suc, List, [], ◌∷◌, None, length, map, slice_get, refl, sym, ap, subst, append-nil, arith}
use Rattle.dz_diff.specs.State.{State}
use Rattle.dz_diff.specs.States.{StateValue, state_in}
use Rattle.dz_poly.specs.Books.{BookValue, IsKept}
use Rattle.dz_rank.specs.Rankings.{RankingValue}
use Rattle.dz_jet.specs.Jets.{Values}
use Rattle.dz_series.specs.SeriesReports.{SeriesEnding, SeriesReport, refused}
use Rattle.dz_syntax.specs.Names.{Declared}
use Rattle.dz_move.specs.Root.{System}
use Rattle.dz_words.specs.declared.words.Request.{Request}
use Rattle.dz_run.specs.declared.ending.Ending.{Ending}
use Rattle.dz_run.specs.declared.ending.Ending.TheVariants.{Done, Point}
use Rattle.dz_run.specs.Answer.{Answer, continued, point_text, printed}
use Rattle.dz_run.specs.Charted.{chain_answer, charted, report_answer}
use Rattle.dz_run.specs.declared.charting.Chart.{Chart}
use Rattle.dz_run.specs.Decomposed.{decomposed, worked_chains}

-- a point that is refused
pub refused_is : (document text words : List ℕ) (report : SeriesReport) → text ≡ document ++ report.printed → refused words ≡ report.ending
    → record { output = text; ending = Point; point = point_text words } ≡ continued (printed document Done) (report_answer report)
refused_is document text words report t e =
    subst (λ (x : SeriesEnding). record { output = text; ending = Point; point = point_text words } ≡ continued (printed document Done) (report_answer (record { printed = report.printed; ending = x }))) e
    (ap (λ (o : List ℕ). record { output = o; ending = Point; point = point_text words }) t)

-- nothing is printed of a chain that is not there
pub no_chain_is : (document point : List ℕ) → record { output = document; ending = Point; point = point } ≡ continued (printed document Done) (record { output = []; ending = Point; point = point })
no_chain_is document point = ap (λ (o : List ℕ). record { output = o; ending = Point; point = point }) (sym (append-nil document))

-- a list ends before a place
pub mapped_none : {A B : Type 0} (f : A → B) (xs : List A) (i : ℕ) → length xs ≤ i → slice_get (map f xs) i ≡ None
mapped_none f [] i h = refl
mapped_none f (x ∷ xs) zero h = absurd (omega arith)
mapped_none f (x ∷ xs) (suc i) h = mapped_none f xs i (omega arith)

-- the answer in the book that is left is that to the system
pub values_are : (what : Chart) (old new : BookValue) (kept : IsKept old new) (names : Declared) (q : Request) (values : Values) (system : System) (document : List ℕ) (ending : Ending)
    → printed document ending ≡ decomposed old.ranking names q.budget system → ending ≡ Done → (chains : List StateValue) → map (λ s. state_in new s) chains ≡ worked_chains old.ranking q.budget system
    → continued (printed document Done) (chain_answer what new.ranking names q.chain values q.order (slice_get (map (λ s. state_in new s) chains) (q.chain - 1))) ≡ charted what old.ranking names q values system
unfolding charted
values_are what old new kept names q values system document ending answer done chains states =
    ap (λ (r : RankingValue). continued (printed document Done) (chain_answer what r names q.chain values q.order (slice_get (map (λ s. state_in new s) chains) (q.chain - 1)))) kept.ranking
    ∙ ap (λ (ss : List State). continued (printed document Done) (chain_answer what old.ranking names q.chain values q.order (slice_get ss (q.chain - 1)))) states
    ∙ ap (λ (a : Answer). continued a (chain_answer what old.ranking names q.chain values q.order (slice_get (worked_chains old.ranking q.budget system) (q.chain - 1)))) (ap (printed document) (sym done) ∙ answer)
