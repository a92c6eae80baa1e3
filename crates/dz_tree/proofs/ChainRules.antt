-- The conditions on a chain, one after the other, and the pairs that its evidence is for.
use Rattle.std.specs.List.{list_all}
use Rattle.std.proofs.Common.{◌≡◌, ◌<◌, ◌≤◌, ◌+◌, ◌∙◌, ◌==◌, ◌&&◌, ℕ, zero, suc, Bool, true, false, cond, List, [], ◌∷◌, map, drop, get_or, length, refl, sym, ap, ap₂, arith, Option, Some, None}
use Rattle.std.proofs.lemmas.Bool.{eqb-true}
use Rattle.std.proofs.lemmas.List.{drop_all}
use Rattle.std.proofs.Math.Seq.{drop-cons}
use Rattle.dz_algebra.specs.Symbols.{Symbols}
use Rattle.dz_rank.specs.declared.symbols.Symbol.{Symbol}
use Rattle.dz_monomials.specs.Lists.{AllOf}
use Rattle.dz_diff.specs.Operations.{Setting}
use Rattle.dz_algebra.specs.Outcome.{◌>>=◌, needs}
use Rattle.dz_diff.specs.State.{State, at_place}
use Rattle.dz_diff.specs.Tests.{Polynomials}
use Rattle.dz_algebra.proofs.Outcomes.{both}
use Rattle.dz_pair.specs.Pair.{critical_pairs}
use Rattle.dz_move.specs.declared.lines.Line.{Line as ProgramLine}
use Rattle.dz_move.specs.declared.Rule.{Rule}
use Rattle.dz_move.specs.declared.Rule.TheVariants as rules
use Rattle.dz_tree.specs.Chain.{chain_rule, has_leaders, has_permitted, is_autoreduced, is_reduced, same_pairs, separant_fits}
use Rattle.dz_tree.specs.ChainParts.{IsForPair, failed, multiplier_rule}
use Rattle.dz_tree.specs.EvidenceLines.{evidence_of, is_pair_line}
use Rattle.dz_move.specs.Lines.{Evidence, Line, act, closed, chain, pair, spent, spent_pairs, open_wide, open_separant, open_large}
use Rattle.dz_move.specs.TreeLines.{line_of}
use Rattle.dz_tree.proofs.CriticalPairs.{NamesPair, critical_pairs_name}

-- ---- lines of evidence
-- such a line is evidence
pub pair_is : (line : Line) → is_pair_line line ≡ true → (e : Evidence) × (line ≡ pair e)
pair_is (pair e) h = (e, refl)
pair_is (act action) h = cc
pair_is closed h = cc
pair_is chain h = cc
pair_is (spent action) h = cc
pair_is spent_pairs h = cc
pair_is (open_wide action) h = cc
pair_is (open_separant i) h = cc
pair_is (open_large limit action) h = cc

-- lines of evidence have as many runs
pub evidence_length : (lines : List ProgramLine) → list_all is_pair_line (map line_of lines) ≡ true → length (evidence_of (map line_of lines)) ≡ length lines
evidence_length [] h = refl
evidence_length (line ∷ lines) h =
    let k = both (is_pair_line (line_of line)) (list_all is_pair_line (map line_of lines)) h in
    let e = pair_is (line_of line) k.0 in
    ap (λ (l : Line). length (evidence_of (l ∷ map line_of lines))) e.1 ∙ ap suc (evidence_length lines k.1)

-- the lines from a place on are evidence
pub pairs_from_place : (lines : List ProgramLine) (i : ℕ) → list_all is_pair_line (map line_of lines) ≡ true → list_all is_pair_line (map line_of (drop i lines)) ≡ true
pairs_from_place lines zero h = h
pairs_from_place [] (suc i) h = h
pairs_from_place (line ∷ lines) (suc i) h = pairs_from_place lines i (both (is_pair_line (line_of line)) (list_all is_pair_line (map line_of lines)) h).1

-- a line of evidence in its place
pub record IsHere (lines : List ProgramLine) (i : ℕ) (line : ProgramLine) : Type 0 where
  pub evidence : Evidence
  pub is : line_of line ≡ pair evidence
  pub rest : evidence_of (map line_of (drop i lines)) ≡ evidence ∷ evidence_of (map line_of (drop (i + 1) lines))

pub evidence_here : (lines : List ProgramLine) (i : ℕ) (line : ProgramLine) → list_all is_pair_line (map line_of lines) ≡ true → i < length lines → line ≡ get_or lines i line → IsHere lines i line
evidence_here lines i line h inside is =
    let k : suc i ≡ i + 1 = omega arith in
    let split : drop i lines ≡ line ∷ drop (i + 1) lines = drop-cons lines i line inside ∙ ap₂ (λ (z : ProgramLine) (k : ℕ). z ∷ drop k lines) (sym is) k in
    let first = both (is_pair_line (line_of line)) (list_all is_pair_line (map line_of (drop (i + 1) lines))) (sym (ap (λ ls. list_all is_pair_line (map line_of ls)) split) ∙ pairs_from_place lines i h) in
    let e = pair_is (line_of line) first.0 in
    record {
      evidence = e.0;
      is = e.1;
      rest = ap (λ ls. evidence_of (map line_of ls)) split ∙ ap (λ (l : Line). evidence_of (l ∷ map line_of (drop (i + 1) lines))) e.1;
    }

-- it is one
pub line_is_pair : (lines : List ProgramLine) (i : ℕ) (line : ProgramLine) → IsHere lines i line → is_pair_line (line_of line) ≡ true
line_is_pair lines i line here = ap is_pair_line here.is

-- ---- pairs
-- evidence for other pairs has another number of runs, or it is found out
pub other_length : (es : List Evidence) (ps : List (ℕ × ℕ)) → (length es ≡ length ps → ⊥) → false ≡ same_pairs es ps
other_length [] [] n = absurd (n refl)
other_length [] (p ∷ ps) n = refl
other_length (e ∷ es) [] n = refl
other_length (e ∷ es) (p ∷ ps) n = by_test ((e.first == p.0) && (e.second == p.1)) (other_length es ps (λ z. n (ap suc z)))
  where
    by_test : (b : Bool) → false ≡ same_pairs es ps → false ≡ (b && same_pairs es ps)
    by_test true h = h
    by_test false h = refl

module _ (lines : List ProgramLine) (ps : List (ℕ × ℕ)) (i : ℕ) (whole : Bool) (so_far : same_pairs (evidence_of (map line_of (drop i lines))) (drop i ps) ≡ whole) where
  -- behind the last line
  pub pairs_end : length lines ≡ length ps → length lines ≤ i → true ≡ whole
  pairs_end n h =
      sym (ap₂ (λ (ls : List ProgramLine) (qs : List (ℕ × ℕ)). same_pairs (evidence_of (map line_of ls)) qs) (drop_all i lines h) (drop_all i ps (omega (arith, n, h)))) ∙ so_far

  module _ (line : ProgramLine) (here : IsHere lines i line) (d : ℕ × ℕ) (inside : i < length ps) where
    -- the pair in its place
    abbrev p : ℕ × ℕ
    p = get_or ps i d

    here_is : ((here.evidence.first == p.0) && (here.evidence.second == p.1) && same_pairs (evidence_of (map line_of (drop (i + 1) lines))) (drop (i + 1) ps)) ≡ whole
    here_is =
        let k : suc i ≡ i + 1 = omega arith in
        sym (ap₂ same_pairs here.rest (drop-cons ps i d inside ∙ ap (λ (k : ℕ). p ∷ drop k ps) k)) ∙ so_far

    -- it is for another pair
    pub other_pair : ((here.evidence.first == p.0) && (here.evidence.second == p.1)) ≡ false → false ≡ whole
    other_pair e = sym (ap (λ b. b && same_pairs (evidence_of (map line_of (drop (i + 1) lines))) (drop (i + 1) ps)) e) ∙ here_is

    -- it is for this pair
    pub this_pair : ((here.evidence.first == p.0) && (here.evidence.second == p.1)) ≡ true → same_pairs (evidence_of (map line_of (drop (i + 1) lines))) (drop (i + 1) ps) ≡ whole
    this_pair e = sym (ap (λ b. b && same_pairs (evidence_of (map line_of (drop (i + 1) lines))) (drop (i + 1) ps)) e) ∙ here_is

-- ---- one condition after the other
-- the first of six tests that fails
abbrev first_failed : Bool → Bool → Bool → Bool → Bool → Bool → Option Rule
first_failed a b c d e f = failed (needs a rules.Leader >>= (λ _. needs b rules.Autoreduced >>= (λ _. needs c rules.Wide >>= (λ _. needs d rules.Multiplier >>= (λ _. needs e rules.Inequation >>= (λ _. needs f rules.Pairs))))))

-- the multipliers by two of them
abbrev of_multipliers : Bool → Bool → Option Rule
of_multipliers c d = cond c (cond (true && d) None (Some rules.Multiplier)) (Some rules.Wide)

module _ (g : Setting) (s : State) (evidence : List Evidence) where
  rule_is : failed (chain_rule g s evidence)
      ≡ first_failed (has_leaders g.symbols s.equations) (is_autoreduced g.symbols s.equations) (list_all (separant_fits g.symbols) s.equations) (list_all (has_permitted g.symbols s) s.equations) (list_all (is_reduced g.symbols s) s.inequations) (same_pairs evidence (critical_pairs g.symbols s))
  unfolding chain_rule
  rule_is = refl

  -- the leaders
  pub leader_fails : has_leaders g.symbols s.equations ≡ false → Some rules.Leader ≡ failed (chain_rule g s evidence)
  leader_fails e = sym (rule_is ∙ ap (λ a. first_failed a (is_autoreduced g.symbols s.equations) (list_all (separant_fits g.symbols) s.equations) (list_all (has_permitted g.symbols s) s.equations) (list_all (is_reduced g.symbols s) s.inequations) (same_pairs evidence (critical_pairs g.symbols s))) e)

  module _ (led : has_leaders g.symbols s.equations ≡ true) where
    after_leaders : failed (chain_rule g s evidence)
        ≡ first_failed true (is_autoreduced g.symbols s.equations) (list_all (separant_fits g.symbols) s.equations) (list_all (has_permitted g.symbols s) s.equations) (list_all (is_reduced g.symbols s) s.inequations) (same_pairs evidence (critical_pairs g.symbols s))
    after_leaders = rule_is ∙ ap (λ a. first_failed a (is_autoreduced g.symbols s.equations) (list_all (separant_fits g.symbols) s.equations) (list_all (has_permitted g.symbols s) s.equations) (list_all (is_reduced g.symbols s) s.inequations) (same_pairs evidence (critical_pairs g.symbols s))) led

    -- an equation is reducible
    pub autoreduced_fails : is_autoreduced g.symbols s.equations ≡ false → Some rules.Autoreduced ≡ failed (chain_rule g s evidence)
    autoreduced_fails e = sym (after_leaders ∙ ap (λ b. first_failed true b (list_all (separant_fits g.symbols) s.equations) (list_all (has_permitted g.symbols s) s.equations) (list_all (is_reduced g.symbols s) s.inequations) (same_pairs evidence (critical_pairs g.symbols s))) e)

    module _ (autoreduced : is_autoreduced g.symbols s.equations ≡ true) where
      after_reduction : failed (chain_rule g s evidence)
          ≡ first_failed true true (list_all (separant_fits g.symbols) s.equations) (list_all (has_permitted g.symbols s) s.equations) (list_all (is_reduced g.symbols s) s.inequations) (same_pairs evidence (critical_pairs g.symbols s))
      after_reduction = after_leaders ∙ ap (λ b. first_failed true b (list_all (separant_fits g.symbols) s.equations) (list_all (has_permitted g.symbols s) s.equations) (list_all (is_reduced g.symbols s) s.inequations) (same_pairs evidence (critical_pairs g.symbols s))) autoreduced

      -- a multiplier does not fit, or is not permitted
      pub multiplier_fails : (r : Rule) → Some r ≡ multiplier_rule g.symbols s true s.equations → Some r ≡ failed (chain_rule g s evidence)
      multiplier_fails r e = by_tests (list_all (separant_fits g.symbols) s.equations) (list_all (has_permitted g.symbols s) s.equations) e ∙ sym after_reduction
        where
          by_tests : (c d : Bool) → Some r ≡ of_multipliers c d → Some r ≡ first_failed true true c d (list_all (is_reduced g.symbols s) s.inequations) (same_pairs evidence (critical_pairs g.symbols s))
          by_tests true true e = cc
          by_tests true false e = e
          by_tests false d e = e

      module _ (permitted : None ≡ multiplier_rule g.symbols s true s.equations) where
        after_multipliers : failed (chain_rule g s evidence) ≡ first_failed true true true true (list_all (is_reduced g.symbols s) s.inequations) (same_pairs evidence (critical_pairs g.symbols s))
        after_multipliers = after_reduction ∙ by_tests (list_all (separant_fits g.symbols) s.equations) (list_all (has_permitted g.symbols s) s.equations) permitted
          where
            by_tests : (c d : Bool) → None ≡ of_multipliers c d
                → first_failed true true c d (list_all (is_reduced g.symbols s) s.inequations) (same_pairs evidence (critical_pairs g.symbols s)) ≡ first_failed true true true true (list_all (is_reduced g.symbols s) s.inequations) (same_pairs evidence (critical_pairs g.symbols s))
            by_tests true true e = refl
            by_tests true false e = cc
            by_tests false d e = cc

        -- an inequation has a proper derivative of a leader
        pub inequation_fails : list_all (is_reduced g.symbols s) s.inequations ≡ false → Some rules.Inequation ≡ failed (chain_rule g s evidence)
        inequation_fails e = sym (after_multipliers ∙ ap (λ e. first_failed true true true true e (same_pairs evidence (critical_pairs g.symbols s))) e)

        module _ (free : list_all (is_reduced g.symbols s) s.inequations ≡ true) where
          after_inequations : failed (chain_rule g s evidence) ≡ first_failed true true true true true (same_pairs evidence (critical_pairs g.symbols s))
          after_inequations = after_multipliers ∙ ap (λ e. first_failed true true true true e (same_pairs evidence (critical_pairs g.symbols s))) free

          -- the evidence is for other pairs
          pub pairs_fail : same_pairs evidence (critical_pairs g.symbols s) ≡ false → Some rules.Pairs ≡ failed (chain_rule g s evidence)
          pairs_fail e = sym (after_inequations ∙ ap (first_failed true true true true true) e)

          -- none fails
          pub none_fails : same_pairs evidence (critical_pairs g.symbols s) ≡ true → None ≡ failed (chain_rule g s evidence)
          none_fails e = sym (after_inequations ∙ ap (first_failed true true true true true) e)

  -- where none fails, the evidence is for the critical pairs
  pub pairs_hold : None ≡ failed (chain_rule g s evidence) → same_pairs evidence (critical_pairs g.symbols s) ≡ true
  pairs_hold e = by_tests (has_leaders g.symbols s.equations) (is_autoreduced g.symbols s.equations) (list_all (separant_fits g.symbols) s.equations) (list_all (has_permitted g.symbols s) s.equations) (list_all (is_reduced g.symbols s) s.inequations) (same_pairs evidence (critical_pairs g.symbols s)) (e ∙ rule_is)
    where
      by_tests : (a b c d e f : Bool) → None ≡ first_failed a b c d e f → f ≡ true
      by_tests true true true true true true h = refl
      by_tests true true true true true false h = cc
      by_tests true true true true false f h = cc
      by_tests true true true false e f h = cc
      by_tests true true false d e f h = cc
      by_tests true false c d e f h = cc
      by_tests false b c d e f h = cc

-- evidence for pairs that name equations is for critical pairs
all_for_pairs : (g : Symbols Symbol) (qs : Polynomials) (es : List Evidence) (ps : List (ℕ × ℕ)) → same_pairs es ps ≡ true → AllOf (NamesPair g qs) ps → AllOf (IsForPair g qs) es
all_for_pairs g qs [] ps e h = tt
all_for_pairs g qs (x ∷ es) [] e h = cc
all_for_pairs g qs (x ∷ es) (p ∷ ps) e h =
    let k = both ((x.first == p.0) && (x.second == p.1)) (same_pairs es ps) e in
    let m = both (x.first == p.0) (x.second == p.1) k.0 in (
      record {
        first = h.0.first;
        second = h.0.second;
        first_is = ap (λ n. at_place n qs) (eqb-true x.first p.0 m.0) ∙ h.0.first_is;
        second_is = ap (λ n. at_place n qs) (eqb-true x.second p.1 m.1) ∙ h.0.second_is;
        is_one = h.0.is_one;
      },
      all_for_pairs g qs es ps k.1 h.1,
    )

-- the evidence of a chain is for critical pairs
pub for_pairs : (g : Setting) (s : State) (es : List Evidence) → None ≡ failed (chain_rule g s es) → AllOf (IsForPair g.symbols s.equations) es
for_pairs g s es e = all_for_pairs g.symbols s.equations es (critical_pairs g.symbols s) (pairs_hold g s es e) (critical_pairs_name g.symbols s)
