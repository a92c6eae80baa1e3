-- The lines of evidence before the first other line.
use Rattle.std.proofs.Common.{◌≡◌, ◌≤◌, ◌∙◌, arith, ℕ, zero, suc, true, List, [], ◌∷◌, map, take, length, refl, sym, ap, subst}
use Rattle.std.specs.List.{list_all}
use Rattle.std.proofs.lemmas.List.{length-map, take-map}
use Rattle.dz_monomials.specs.Lists.{AllOf}
use Rattle.dz_move.specs.declared.lines.Line.{Line as ProgramLine}
use Rattle.dz_tree.specs.EvidenceLines.{evidence_of, is_pair_line}
use Rattle.dz_step.specs.StepOperators.{DeriveAlong}
use Rattle.dz_tree.specs.LineOperators.{HaveOperatorsOf, steps_in}
use Rattle.dz_move.specs.Lines.{Evidence, Line, act, closed, chain, pair, spent, spent_pairs, open_wide, open_separant, open_large, grouped}
use Rattle.dz_move.specs.TreeLines.{line_of}

-- so many lines are the evidence in front
front : (ls : List Line) → take (length (grouped ls).0) ls ≡ map pair (grouped ls).0
front [] = refl
front (act action ∷ ls) = refl
front (closed ∷ ls) = refl
front (chain ∷ ls) = refl
front (pair e ∷ ls) = ap (λ (ms : List Line). pair e ∷ ms) (front ls)
front (spent action ∷ ls) = refl
front (spent_pairs ∷ ls) = refl
front (open_wide action ∷ ls) = refl
front (open_separant i ∷ ls) = refl
front (open_large limit action ∷ ls) = refl

all_pairs : (es : List Evidence) → list_all is_pair_line (map pair es) ≡ true
all_pairs [] = refl
all_pairs (e ∷ es) = all_pairs es

same_evidence : (es : List Evidence) → evidence_of (map pair es) ≡ es
same_evidence [] = refl
same_evidence (e ∷ es) = ap (λ (fs : List Evidence). e ∷ fs) (same_evidence es)

front_all : {A : Type 0} (P : A → Type 0) (n : ℕ) (xs : List A) → AllOf P xs → AllOf P (take n xs)
front_all P zero xs h = tt
front_all P (suc n) [] h = h
front_all P (suc n) (x ∷ xs) h = (h.0, front_all P n xs h.1)

module _ (lines : List ProgramLine) (n : ℕ) (count : n ≡ length (grouped (map line_of lines)).0) where
  front_is : map line_of (take n lines) ≡ map pair (grouped (map line_of lines)).0
  front_is = sym (take-map line_of n lines) ∙ ap (λ n. take n (map line_of lines)) count ∙ front (map line_of lines)

  -- they are evidence
  pub front_pairs : list_all is_pair_line (map line_of (take n lines)) ≡ true
  front_pairs = ap (list_all is_pair_line) front_is ∙ all_pairs (grouped (map line_of lines)).0

  -- which waits for the line before
  pub front_evidence : evidence_of (map line_of (take n lines)) ≡ (grouped (map line_of lines)).0
  front_evidence = ap evidence_of front_is ∙ same_evidence (grouped (map line_of lines)).0

-- operators of some of the lines
pub front_operators : (lines : List ProgramLine) (n k : ℕ) → HaveOperatorsOf k (map line_of lines) → HaveOperatorsOf k (map line_of (take n lines))
front_operators lines n k h = subst (HaveOperatorsOf k) (take-map line_of n lines) (front_all (λ (line : Line). DeriveAlong k (steps_in line)) n (map line_of lines) h)

-- there is no more evidence than lines
evidence_few : (ls : List Line) → length (evidence_of ls) ≤ length ls
evidence_few [] = omega arith
evidence_few (act action ∷ ls) = let h = evidence_few ls in omega (arith, h)
evidence_few (closed ∷ ls) = let h = evidence_few ls in omega (arith, h)
evidence_few (chain ∷ ls) = let h = evidence_few ls in omega (arith, h)
evidence_few (pair e ∷ ls) = let h = evidence_few ls in omega (arith, h)
evidence_few (spent action ∷ ls) = let h = evidence_few ls in omega (arith, h)
evidence_few (spent_pairs ∷ ls) = let h = evidence_few ls in omega (arith, h)
evidence_few (open_wide action ∷ ls) = let h = evidence_few ls in omega (arith, h)
evidence_few (open_separant i ∷ ls) = let h = evidence_few ls in omega (arith, h)
evidence_few (open_large limit action ∷ ls) = let h = evidence_few ls in omega (arith, h)

pub evidence_within : (lines : List ProgramLine) → length (evidence_of (map line_of lines)) ≤ length lines
evidence_within lines = subst (λ n. length (evidence_of (map line_of lines)) ≤ n) (length-map lines line_of) (evidence_few (map line_of lines))
