-- Places that grow, one by one.
use Rattle.std.specs.Prelude.{is_some}
use Rattle.std.proofs.Common.{◌≡◌, ◌≤◌, ◌<◌, ◌+◌, ◌∙◌, ℕ, suc, Bool, true, false, not, ◌&&◌, List, [], ◌∷◌, map, drop, get_or, length, refl, sym, ap, ap₂, arith, Option, Some, None}
use Rattle.std.proofs.lemmas.List.{drop_all}
use Rattle.std.proofs.Math.Seq.{drop-cons}
use Rattle.dz_move.specs.declared.lines.Line.{Line as ProgramLine}
use Rattle.dz_check.specs.declared.reasons.Places.{Places}
use Rattle.dz_tree.specs.EvidenceLines.{evidence_of}
use Rattle.dz_check.specs.SpentPairs.{follows, last_after, places_of}
use Rattle.dz_move.specs.Lines.{Evidence, Line, act, closed, chain, pair, spent, spent_pairs, open_wide, open_separant, open_large}
use Rattle.dz_tree.specs.Forms.{is_empty}
use Rattle.dz_check.specs.Reasons.{is_increasing}
use Rattle.dz_move.specs.TreeLines.{line_of}

-- there is evidence, or there was some, and its places grow from the last on
abbrev pub grown : Option Places → List Evidence → Bool
grown None es = not (is_empty es) && is_increasing es
grown (Some p) es = is_increasing (places_of p ∷ es)

-- what comes of a line
first_grown : (o : Option Places) (line : Line) (lines : List Line) → grown o (evidence_of (line ∷ lines)) ≡ (follows o line && grown (last_after o line) (evidence_of lines))
first_grown None (pair e) lines = by_rest (evidence_of lines)
  where
    by_rest : (es : List Evidence) → is_increasing (e ∷ es) ≡ is_increasing (record { first = e.first; second = e.second; steps = [] } ∷ es)
    by_rest [] = refl
    by_rest (f ∷ es) = refl
first_grown (Some p) (pair e) lines = by_rest (evidence_of lines)
  where
    by_rest : (es : List Evidence) → is_increasing (places_of p ∷ e ∷ es) ≡ (follows (Some p) (pair e) && is_increasing (record { first = e.first; second = e.second; steps = [] } ∷ es))
    by_rest [] = refl
    by_rest (f ∷ es) = refl
first_grown None (act action) lines = refl
first_grown None closed lines = refl
first_grown None chain lines = refl
first_grown None (spent action) lines = refl
first_grown None spent_pairs lines = refl
first_grown None (open_wide action) lines = refl
first_grown None (open_separant i) lines = refl
first_grown None (open_large limit action) lines = refl
first_grown (Some p) (act action) lines = refl
first_grown (Some p) closed lines = refl
first_grown (Some p) chain lines = refl
first_grown (Some p) (spent action) lines = refl
first_grown (Some p) spent_pairs lines = refl
first_grown (Some p) (open_wide action) lines = refl
first_grown (Some p) (open_separant i) lines = refl
first_grown (Some p) (open_large limit action) lines = refl

module _ (lines : List ProgramLine) (i : ℕ) (o : Option Places) (whole : Bool) (same : grown o (evidence_of (map line_of (drop i lines))) ≡ whole) where
  -- behind the last line
  pub all_grown : length lines ≤ i → is_some o ≡ whole
  all_grown h = sym (ap (λ ls. grown o (evidence_of (map line_of ls))) (drop_all i lines h) ∙ at_end o) ∙ same
    where
      at_end : (o : Option Places) → grown o [] ≡ is_some o
      at_end None = refl
      at_end (Some p) = refl

  module _ (line : ProgramLine) (inside : i < length lines) (is : line ≡ get_or lines i line) where
    here : (follows o (line_of line) && grown (last_after o (line_of line)) (evidence_of (map line_of (drop (i + 1) lines)))) ≡ whole
    here =
        let k : suc i ≡ i + 1 = omega arith in
        sym (ap (λ ls. grown o (evidence_of (map line_of ls))) (drop-cons lines i line inside ∙ ap₂ (λ (z : ProgramLine) (k : ℕ). z ∷ drop k lines) (sym is) k) ∙ first_grown o (line_of line) (map line_of (drop (i + 1) lines))) ∙ same

    -- places that do not grow
    pub not_grown : follows o (line_of line) ≡ false → false ≡ whole
    not_grown e = sym (ap (λ b. b && grown (last_after o (line_of line)) (evidence_of (map line_of (drop (i + 1) lines)))) e) ∙ here

    -- places that do
    pub one_grown : follows o (line_of line) ≡ true → grown (last_after o (line_of line)) (evidence_of (map line_of (drop (i + 1) lines))) ≡ whole
    one_grown e = sym (ap (λ b. b && grown (last_after o (line_of line)) (evidence_of (map line_of (drop (i + 1) lines)))) e) ∙ here
