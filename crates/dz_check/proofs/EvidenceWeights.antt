-- The weights of lines of evidence, one by one.
use Rattle.std.proofs.Common.{◌≡◌, ◌≤◌, ◌<◌, ◌+◌, ◌∙◌, ℕ, suc, false, List, ◌∷◌, map, drop, get_or, length, refl, sym, ap, ap₂, arith, Result, Ok, Err}
use Rattle.std.specs.Prelude.{is_ok}
use Rattle.std.proofs.lemmas.List.{drop_all}
use Rattle.std.proofs.Math.Seq.{drop-cons}
use Rattle.dz_diff.specs.Operations.{Setting}
use Rattle.dz_algebra.specs.Outcome.{◌>>=◌}
use Rattle.dz_diff.specs.State.{State}
use Rattle.dz_move.specs.declared.lines.Line.{Line as ProgramLine}
use Rattle.dz_tree.specs.EvidenceLines.{evidence_of}
use Rattle.dz_check.specs.SpentPairs.{weight_of}
use Rattle.dz_move.specs.Fault.{Fault}
use Rattle.dz_move.specs.Lines.{Line, act, closed, chain, pair, spent, spent_pairs, open_wide, open_separant, open_large}
use Rattle.dz_check.specs.Reasons.{open_weights}
use Rattle.dz_move.specs.TreeLines.{line_of}

-- a weight added before an answer
abbrev pub added : ℕ → Result ℕ (ℕ × Fault) → Result ℕ (ℕ × Fault)
added n (Ok m) = Ok (n + m)
added n (Err e) = Err e

-- adding nothing
nothing_added : (q : Result ℕ (ℕ × Fault)) → added 0 q ≡ q
nothing_added (Ok m) = ap Ok (let e : 0 + m ≡ m = omega arith in e)
nothing_added (Err e) = refl

-- adding twice
added_twice : (n m : ℕ) (q : Result ℕ (ℕ × Fault)) → added n (added m q) ≡ added (n + m) q
added_twice n m (Ok k) = ap Ok (let e : n + (m + k) ≡ n + m + k = omega arith in e)
added_twice n m (Err e) = refl

module _ (g : Setting) (s : State) where
  -- the weight of a line and that of those behind it
  first_weight : (line : Line) (lines : List Line) → open_weights g s (evidence_of (line ∷ lines)) ≡ (weight_of g s line >>= (λ n. added n (open_weights g s (evidence_of lines))))
  first_weight (pair e) lines = ap (λ (f : ℕ → Result ℕ (ℕ × Fault)). weight_of g s (pair e) >>= f) refl ∙ by_weight (weight_of g s (pair e))
    where
      by_rest : (n : ℕ) (q : Result ℕ (ℕ × Fault)) → (q >>= (λ m. Ok (n + m))) ≡ added n q
      by_rest n (Ok m) = refl
      by_rest n (Err k) = refl

      by_weight : (x : Result ℕ (ℕ × Fault)) → (x >>= (λ n. open_weights g s (evidence_of lines) >>= (λ m. Ok (n + m)))) ≡ (x >>= (λ n. added n (open_weights g s (evidence_of lines))))
      by_weight (Ok n) = by_rest n (open_weights g s (evidence_of lines))
      by_weight (Err k) = refl
  first_weight (act action) lines = sym (nothing_added (open_weights g s (evidence_of lines)))
  first_weight closed lines = sym (nothing_added (open_weights g s (evidence_of lines)))
  first_weight chain lines = sym (nothing_added (open_weights g s (evidence_of lines)))
  first_weight (spent action) lines = sym (nothing_added (open_weights g s (evidence_of lines)))
  first_weight spent_pairs lines = sym (nothing_added (open_weights g s (evidence_of lines)))
  first_weight (open_wide action) lines = sym (nothing_added (open_weights g s (evidence_of lines)))
  first_weight (open_separant i) lines = sym (nothing_added (open_weights g s (evidence_of lines)))
  first_weight (open_large limit action) lines = sym (nothing_added (open_weights g s (evidence_of lines)))

  module _ (lines : List ProgramLine) (i n : ℕ) (whole : added n (open_weights g s (evidence_of (map line_of (drop i lines)))) ≡ open_weights g s (evidence_of (map line_of lines))) where
    -- behind the last line
    pub all_weighed : length lines ≤ i → open_weights g s (evidence_of (map line_of lines)) ≡ Ok n
    all_weighed h =
        let z : n + 0 ≡ n = omega arith in
        sym whole ∙ ap (λ ls. added n (open_weights g s (evidence_of (map line_of ls)))) (drop_all i lines h) ∙ ap Ok z

    module _ (line : ProgramLine) (inside : i < length lines) (is : line ≡ get_or lines i line) where
      here : added n (weight_of g s (line_of line) >>= (λ m. added m (open_weights g s (evidence_of (map line_of (drop (i + 1) lines)))))) ≡ open_weights g s (evidence_of (map line_of lines))
      here =
          let k : suc i ≡ i + 1 = omega arith in
          sym (ap (λ ls. added n (open_weights g s (evidence_of (map line_of ls)))) (drop-cons lines i line inside ∙ ap₂ (λ (z : ProgramLine) (k : ℕ). z ∷ drop k lines) (sym is) k)
          ∙ ap (added n) (first_weight (line_of line) (map line_of (drop (i + 1) lines)))) ∙ whole

      -- a line without a weight
      pub none_weighed : is_ok (weight_of g s (line_of line)) ≡ false → is_ok (open_weights g s (evidence_of (map line_of lines))) ≡ false
      none_weighed e = ap is_ok (sym here) ∙ by_weight (weight_of g s (line_of line)) e
        where
          by_weight : (x : Result ℕ (ℕ × Fault)) → is_ok x ≡ false → is_ok (added n (x >>= (λ m. added m (open_weights g s (evidence_of (map line_of (drop (i + 1) lines))))))) ≡ false
          by_weight (Ok m) e = cc
          by_weight (Err k) e = refl

      -- a line with one
      pub one_weighed : (m : ℕ) → weight_of g s (line_of line) ≡ Ok m → added (n + m) (open_weights g s (evidence_of (map line_of (drop (i + 1) lines)))) ≡ open_weights g s (evidence_of (map line_of lines))
      one_weighed m e = sym (ap (λ x. added n (x >>= (λ m. added m (open_weights g s (evidence_of (map line_of (drop (i + 1) lines))))))) e ∙ added_twice n m (open_weights g s (evidence_of (map line_of (drop (i + 1) lines))))) ∙ here

  -- nothing is added before the first line
  pub none_yet : (lines : List ProgramLine) → added 0 (open_weights g s (evidence_of (map line_of lines))) ≡ open_weights g s (evidence_of (map line_of lines))
  none_yet lines = nothing_added (open_weights g s (evidence_of (map line_of lines)))
