-- The weight of a chain's evidence, run by run.
use Rattle.std.specs.Prelude.{⊤, nat_le}
use Rattle.std.specs.List.{list_all}
use Rattle.std.proofs.Common.{◌≡◌, ◌≤◌, ◌<◌, ◌+◌, ◌-◌, ◌^◌, ◌∙◌, inl, inr, min, ℕ, zero, suc, Bool, true, false, List, [], ◌∷◌, map, drop, get_or, length, refl, sym, ap, subst, arith, Result, Ok, Err, Some, None}
use Rattle.std.proofs.lemmas.Bool.{le-leb, leb-false, leb-true}
use Rattle.std.proofs.lemmas.Bool.Decides.{nat_tests}
use Rattle.std.proofs.lemmas.List.{drop_all}
use Rattle.dz_monomials.specs.Lists.{AllOf}
use Rattle.dz_diff.specs.Operations.{Setting}
use Rattle.dz_algebra.specs.Outcome.{◌>>=◌, needs, numbered}
use Rattle.dz_diff.specs.State.{State}
use Rattle.dz_algebra.proofs.Outcomes.{both}
use Rattle.dz_tree.specs.declared.entry_fault.EntryFault.{EntryFault}
use Rattle.dz_tree.specs.declared.entry_fault.EntryFault.TheVariants as faults
use Rattle.dz_move.specs.declared.lines.Line.{Line as ProgramLine}
use Rattle.dz_move.specs.declared.Rule.{Rule}
use Rattle.dz_move.specs.declared.Rule.TheVariants as rules
use Rattle.dz_tree.specs.Chain.{chain_rule, chain_weight, evidence_from, evidence_weight}
use Rattle.dz_tree.specs.ChainParts.{IsRunWeight, failed, is_within}
use Rattle.dz_tree.specs.Entering.{IsEntryFault, broken_rule, rule_in}
use Rattle.dz_tree.specs.EvidenceLines.{evidence_of, is_pair_line}
use Rattle.dz_move.specs.Lines.{Evidence, Line, pair}
use Rattle.dz_move.specs.TreeLines.{line_of}
use Rattle.dz_tree.proofs.ChainRules.{IsHere, pair_is}

-- ---- places of lists
-- what holds of all lines holds of one
pub line_has : (P : Line → Type 0) (lines : List ProgramLine) (i : ℕ) (line : ProgramLine) → AllOf P (map line_of lines) → i < length lines → line ≡ get_or lines i line → P (line_of line)
line_has P lines i line h inside is = subst (λ l. P (line_of l)) (sym is) (at i lines h inside)
  where
    at : (i : ℕ) (ls : List ProgramLine) → AllOf P (map line_of ls) → i < length ls → P (line_of (get_or ls i line))
    at i [] h l = absurd (omega (arith, l))
    at zero (x ∷ ls) h l = h.0
    at (suc i) (x ∷ ls) h l = at i ls h.1 (omega (arith, l))

-- what holds of all evidence holds of that from a place on
from_place : (P : Evidence → Type 0) (lines : List ProgramLine) (i : ℕ) → list_all is_pair_line (map line_of lines) ≡ true → AllOf P (evidence_of (map line_of lines)) → AllOf P (evidence_of (map line_of (drop i lines)))
from_place P lines zero pairs h = h
from_place P [] (suc i) pairs h = h
from_place P (line ∷ lines) (suc i) pairs h =
    let k = both (is_pair_line (line_of line)) (list_all is_pair_line (map line_of lines)) pairs in
    let e = pair_is (line_of line) k.0 in
    let both_hold : AllOf P (evidence_of (pair e.0 ∷ map line_of lines)) = subst (λ (l : Line). AllOf P (evidence_of (l ∷ map line_of lines))) e.1 h in
    from_place P lines i k.1 both_hold.1

-- and of that in a line
pub evidence_has : (P : Evidence → Type 0) (lines : List ProgramLine) (i : ℕ) (line : ProgramLine) → list_all is_pair_line (map line_of lines) ≡ true → AllOf P (evidence_of (map line_of lines)) → IsHere lines i line → (e : Evidence) → line_of line ≡ pair e → P e
evidence_has P lines i line pairs h here e is =
    let all : AllOf P (here.evidence ∷ evidence_of (map line_of (drop (i + 1) lines))) = subst (AllOf P) here.rest (from_place P lines i pairs h) in
    subst P (one_evidence here.evidence e (sym here.is ∙ is)) all.0
  where
    one_evidence : (x y : Evidence) → ◌≡◌ {A = Line} (pair x) (pair y) → x ≡ y
    one_evidence x y e = cc

-- ---- sums up to the greatest number of a usize
-- a sum is within what is left
pub within_left : (left n t : ℕ) → t ≡ min n (2 ^ 64 - 1) → t ≤ left → is_within left n ≡ true
within_left left n t e l = le-leb _ _ (omega (arith, e, l))

not_within : (i j : ℕ) → j < i → nat_le i j ≡ false
not_within i j h = grind (arith, nat_tests)

-- or it is not
pub past_left : (left n t : ℕ) → t ≡ min n (2 ^ 64 - 1) → left < t → is_within left n ≡ false
past_left left n t e l = not_within (min n (2 ^ 64 - 1)) left (omega (arith, e, l))

-- ---- run by run
module _ (g : Setting) (s : State) (affordable : ℕ → Bool) (lines : List ProgramLine) (k n : ℕ) (whole : Result ℕ (ℕ × Rule)) (so_far : evidence_from g s affordable (k + 1) n (evidence_of (map line_of (drop k lines))) ≡ whole) where
  -- behind the last run
  pub all_run : length lines ≤ k → whole ≡ Ok n
  all_run h = sym so_far ∙ ap (λ (ls : List ProgramLine). evidence_from g s affordable (k + 1) n (evidence_of (map line_of ls))) (drop_all k lines h)

  module _ (line : ProgramLine) (here : IsHere lines k line) where
    -- the runs behind this one
    abbrev later : ℕ → Result ℕ (ℕ × Rule)
    later m = evidence_from g s affordable (k + 1 + 1) m (evidence_of (map line_of (drop (k + 1) lines)))

    this_run : whole ≡ (numbered (k + 1) (evidence_weight g s here.evidence) >>= (λ w. needs (affordable (n + w)) (k + 1, rules.Weight) >>= (λ _. later (n + w))))
    this_run =
        let z : suc (k + 1) ≡ k + 1 + 1 = omega arith in
        sym so_far ∙ ap (evidence_from g s affordable (k + 1) n) here.rest
        ∙ ap (λ (j : ℕ). numbered (k + 1) (evidence_weight g s here.evidence) >>= (λ w. needs (affordable (n + w)) (k + 1, rules.Weight) >>= (λ _. evidence_from g s affordable j (n + w) (evidence_of (map line_of (drop (k + 1) lines)))))) z

    -- it has no weight
    pub run_fails : (fault : EntryFault) → IsEntryFault fault (numbered (k + 1) (evidence_weight g s here.evidence)) → IsEntryFault fault whole
    run_fails fault (inl e) = inl e
    run_fails fault (inr e) = inr (ap rule_in this_run ∙ by_answer (numbered (k + 1) (evidence_weight g s here.evidence)) e)
      where
        by_answer : (x : Result ℕ (ℕ × Rule)) → rule_in x ≡ Some fault → rule_in (x >>= (λ w. needs (affordable (n + w)) (k + 1, rules.Weight) >>= (λ _. later (n + w)))) ≡ Some fault
        by_answer (Ok w) e = cc
        by_answer (Err f) e = e

    module _ (w : ℕ) (is : evidence_weight g s here.evidence ≡ Ok w) where
      with_weight : whole ≡ (needs (affordable (n + w)) (k + 1, rules.Weight) >>= (λ _. later (n + w)))
      with_weight = this_run ∙ ap (λ (x : Result ℕ Rule). numbered (k + 1) x >>= (λ w. needs (affordable (n + w)) (k + 1, rules.Weight) >>= (λ _. later (n + w)))) is

      -- it is too much
      pub run_costs : affordable (n + w) ≡ false → IsEntryFault (faults.Rule (k + 1) rules.Weight) whole
      run_costs e = inr (ap rule_in (with_weight ∙ ap (λ b. needs b (k + 1, rules.Weight) >>= (λ _. later (n + w))) e))

      -- it is not
      pub run_counts : affordable (n + w) ≡ true → later (n + w) ≡ whole
      run_counts e = sym (with_weight ∙ ap (λ b. needs b (k + 1, rules.Weight) >>= (λ _. later (n + w))) e)

-- ---- the whole
module _ (g : Setting) (s : State) where
  -- what is affordable, by two tests that agree
  evidence_same : (a b : ℕ → Bool) → ((n : ℕ) → a n ≡ b n) → (k n : ℕ) (es : List Evidence) → evidence_from g s a k n es ≡ evidence_from g s b k n es
  evidence_same a b same k n [] = refl
  evidence_same a b same k n (e ∷ es) = by_weight (λ w. evidence_same a b same (suc k) (n + w) es) (evidence_weight g s e)
    where
      -- the runs behind it agree
      Agree : Type 0
      Agree = (w : ℕ) → evidence_from g s a (suc k) (n + w) es ≡ evidence_from g s b (suc k) (n + w) es

      by_test : Agree → (c : Bool) (w : ℕ) → (needs c (k, rules.Weight) >>= (λ _. evidence_from g s a (suc k) (n + w) es)) ≡ (needs c (k, rules.Weight) >>= (λ _. evidence_from g s b (suc k) (n + w) es))
      by_test ih true w = ih w
      by_test ih false w = refl

      by_weight : Agree → (x : Result ℕ Rule) → (numbered k x >>= (λ w. needs (a (n + w)) (k, rules.Weight) >>= (λ _. evidence_from g s a (suc k) (n + w) es)))
          ≡ (numbered k x >>= (λ w. needs (b (n + w)) (k, rules.Weight) >>= (λ _. evidence_from g s b (suc k) (n + w) es)))
      by_weight ih (Ok w) = ap (λ c. needs c (k, rules.Weight) >>= (λ _. evidence_from g s a (suc k) (n + w) es)) (same (n + w)) ∙ by_test ih (b (n + w)) w
      by_weight ih (Err r) = refl

  module _ (es : List Evidence) where
    -- the weight of the whole evidence, by the conditions
    abbrev weight_by : (ℕ → Bool) → Result ⊤ Rule → Result ℕ (ℕ × Rule)
    weight_by a x = numbered 0 x >>= (λ _. evidence_from g s a 1 0 es)

    whole_is : (a : ℕ → Bool) → chain_weight g s a es ≡ weight_by a (chain_rule g s es)
    whole_is a = refl

    -- and the weight of the whole
    pub chain_same : (a b : ℕ → Bool) → ((n : ℕ) → a n ≡ b n) → chain_weight g s a es ≡ chain_weight g s b es
    chain_same a b same = whole_is a ∙ by_answer (chain_rule g s es) ∙ sym (whole_is b)
      where
        by_answer : (x : Result ⊤ Rule) → weight_by a x ≡ weight_by b x
        by_answer (Ok t) = evidence_same a b same 1 0 es
        by_answer (Err r) = refl

    -- a condition fails
    pub conditions_fail : (a : ℕ → Bool) (r : Rule) → Some r ≡ failed (chain_rule g s es) → IsEntryFault (faults.Rule 0 r) (chain_weight g s a es)
    conditions_fail a r e = inr (ap rule_in (whole_is a) ∙ by_answer (chain_rule g s es) e)
      where
        by_answer : (x : Result ⊤ Rule) → Some r ≡ failed x → rule_in (weight_by a x) ≡ Some (faults.Rule 0 r)
        by_answer (Ok t) e = cc
        by_answer (Err k) e = let z : k ≡ r = cc in ap (λ r. Some (faults.Rule 0 r)) z

    -- none fails
    pub conditions_hold : (a : ℕ → Bool) → None ≡ failed (chain_rule g s es) → evidence_from g s a 1 0 es ≡ chain_weight g s a es
    conditions_hold a e = by_answer (chain_rule g s es) e ∙ sym (whole_is a)
      where
        by_answer : (x : Result ⊤ Rule) → None ≡ failed x → evidence_from g s a 1 0 es ≡ weight_by a x
        by_answer (Ok t) e = refl
        by_answer (Err k) e = cc

-- ---- budgets
-- what is within the rest of a budget
pub within_budget : (weight budget : ℕ) → weight ≤ budget → budget < 2 ^ 32 → (n : ℕ) → is_within (budget - weight) n ≡ nat_le (weight + n) budget
within_budget weight budget l few n = by_test (nat_le (weight + n) budget) refl
  where
    by_test : (b : Bool) → nat_le (weight + n) budget ≡ b → is_within (budget - weight) n ≡ b
    by_test true e = let k = leb-true (weight + n) budget e in le-leb (min n (2 ^ 64 - 1)) (budget - weight) (omega (arith, k, l, few))
    by_test false e = let k = leb-false (weight + n) budget e in not_within (min n (2 ^ 64 - 1)) (budget - weight) (omega (arith, k, l, few))

-- all is within the greatest number of a usize
pub all_within : (n : ℕ) → is_within (2 ^ 64 - 1) n ≡ true
all_within n = le-leb (min n (2 ^ 64 - 1)) (2 ^ 64 - 1) (omega arith)

-- a weight that is within is told as it is
pub weight_told : {E : Type 0} (w left : ℕ) (q : Result ℕ E) → IsRunWeight w q → w ≤ left → left < 2 ^ 64 - 1 → q ≡ Ok w
weight_told w left q h l few = h.1 ∙ ap Ok (let e : h.0 ≡ w = omega (arith, h.2, l, few) in e)

-- ---- the rule of a fault
-- a chain breaks none
pub none_broken : (w : ℕ) (q : Result ℕ (ℕ × Rule)) → IsRunWeight w q → None ≡ broken_rule q
none_broken w q h = sym (ap broken_rule h.1)

-- a fault that is a rule is the one that is broken
pub rule_broken : (line : ℕ) (r : Rule) (q : Result ℕ (ℕ × Rule)) → IsEntryFault (faults.Rule line r) q → Some r ≡ broken_rule q
rule_broken line r q (inl e) = cc
rule_broken line r (Ok x) (inr e) = cc
rule_broken line r (Err f) (inr e) = let z : faults.Rule f.0 f.1 ≡ faults.Rule line r = cc in ap Some (rule_same f.1 r z)
  where
    rule_same : (x y : Rule) → faults.Rule f.0 x ≡ faults.Rule line y → y ≡ x
    rule_same x y e = cc
