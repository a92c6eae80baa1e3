-- The lines of a tree as a walk comes to them.
use Rattle.std.proofs.Common.{◌≡◌, ◌<◌, ◌+◌, ◌==◌, ◌∙◌, ℕ, zero, suc, Bool, true, false, ◌&&◌, cond, List, [], ◌∷◌, ◌-◌, length, map, take, drop, get_or, refl, sym, ap, ap₂, subst, arith, Result, Ok, Err}
use Rattle.std.specs.Prelude.{reverse}
use Rattle.std.proofs.Math.Seq.{drop-cons}
use Rattle.std.proofs.lemmas.Bool.Decides.{nat_tests}
use Rattle.std.proofs.lemmas.List.{length-drop, take_all}
use Rattle.dz_rank.specs.Rankings.{RankingValue}
use Rattle.dz_poly.specs.Books.{BookValue, IsKept}
use Rattle.dz_poly.proofs.Books.{kept_itself}
use Rattle.dz_monomials.specs.Ranked.{symbols_under}
use Rattle.dz_monomials.specs.Lists.{AllOf}
use Rattle.dz_diff.specs.Operations.{Setting, setting_of}
use Rattle.dz_move.specs.Root.{System, root_of}
use Rattle.dz_diff.specs.State.{State}
use Rattle.dz_diff.specs.States.{IsStateOf, StandsIn, StateValue, state_in}
use Rattle.dz_algebra.proofs.Outcomes.{both}
use Rattle.dz_move.specs.declared.Rule.{Rule}
use Rattle.dz_move.specs.declared.lines.Line.{Line as ProgramLine}
use Rattle.dz_tree.specs.declared.forming.Expected.{Expected}
use Rattle.dz_tree.specs.declared.forming.Expected.TheVariants.{NoPair, AnyLine}
use Rattle.dz_tree.specs.Counting.{form_trees, lets_line, may_stand}
use Rattle.dz_tree.specs.EvidenceLines.{is_pair_line}
use Rattle.dz_tree.specs.Forms.{FormTree, is_spelled}
use Rattle.dz_step.specs.StepOperators.{DeriveAlong}
use Rattle.dz_tree.specs.LineOperators.{HaveOperatorsOf, steps_in}
use Rattle.dz_move.specs.Lines.{Evidence, Line, act, closed, chain, pair, spent, spent_pairs, open_wide, open_separant, open_large, entries_of, grouped}
use Rattle.dz_check.specs.Pending.{PendingValue, pending_states}
use Rattle.dz_move.specs.TreeLines.{line_of}
use Rattle.dz_tree.specs.Trees.{Tree}
use Rattle.dz_check.specs.Walk.{End, accepted, partial, ends_of, judged, walk}
use Rattle.dz_check.specs.Walking.{IsWalking, judged_after, verdict_from}
use Rattle.dz_check.proofs.PendingStacks.{pushed, whole_cut}
use Rattle.dz_tree.proofs.TreeForms.{one_tree}

-- the lines from a line on
pub lines_at : (lines : List ProgramLine) (k : ℕ) (line : ProgramLine) → k < length lines → line ≡ get_or lines k line → map line_of (drop k lines) ≡ line_of line ∷ map line_of (drop (k + 1) lines)
lines_at lines k line h e =
    let n : suc k ≡ k + 1 = omega arith in
    ap (map line_of) (drop-cons lines k line h ∙ ap₂ (λ (z : ProgramLine) (k : ℕ). z ∷ drop k lines) (sym e) n)

-- their operators
all_behind : {A : Type 0} (P : A → Type 0) (k : ℕ) (xs : List A) → AllOf P xs → AllOf P (drop k xs)
all_behind P zero xs h = h
all_behind P (suc k) [] h = h
all_behind P (suc k) (x ∷ xs) h = all_behind P k xs h.1

map_behind : {A B : Type 0} (f : A → B) (k : ℕ) (xs : List A) → map f (drop k xs) ≡ drop k (map f xs)
map_behind f zero xs = refl
map_behind f (suc k) [] = refl
map_behind f (suc k) (x ∷ xs) = map_behind f k xs

pub operators_behind : (n : ℕ) (lines : List ProgramLine) (k : ℕ) → HaveOperatorsOf n (map line_of lines) → HaveOperatorsOf n (map line_of (drop k lines))
operators_behind n lines k h = subst (HaveOperatorsOf n) (sym (map_behind line_of k lines)) (all_behind (λ (line : Line). DeriveAlong n (steps_in line)) k (map line_of lines) h)

-- the lines behind a place, as they are handed on
pub behind_is : (lines : List ProgramLine) (k : ℕ) → take (length lines - k) (drop k lines) ≡ drop k lines
behind_is lines k = let n = length-drop k lines in take_all (length lines - k) (drop k lines) (omega (arith, n))

-- and their operators in a book
pub handed_operators : (base book : BookValue) → IsKept base book → (lines : List ProgramLine) (k : ℕ) → HaveOperatorsOf base.ranking.signature.independents (map line_of lines)
    → HaveOperatorsOf book.ranking.signature.independents (map line_of (take (length lines - k) (drop k lines)))
handed_operators base book keeps lines k h =
    subst (λ (ls : List ProgramLine). HaveOperatorsOf book.ranking.signature.independents (map line_of ls)) (sym (behind_is lines k))
    (subst (λ (r : RankingValue). HaveOperatorsOf r.signature.independents (map line_of (drop k lines))) (sym keeps.ranking) (operators_behind base.ranking.signature.independents lines k h))

-- what is told at a line, and behind it, by the ranking of the book at first
module _ (base book : BookValue) (keeps : IsKept base book) (budget w : ℕ) (o : Bool) (place : ℕ) (at : BookValue) (stack : List PendingValue) (lines : List ProgramLine) (k : ℕ) where
  pub behind_told : verdict_from (setting_of book.ranking) budget w o place at stack (map line_of (take (length lines - k) (drop k lines))) ≡ verdict_from (setting_of base.ranking) budget w o place at stack (map line_of (drop k lines))
  behind_told = ap₂ (λ (r : RankingValue) (ls : List ProgramLine). verdict_from (setting_of r) budget w o place at stack (map line_of ls)) keeps.ranking (behind_is lines k)

  pub here_told : (line : ProgramLine) → k < length lines → line ≡ get_or lines k line
      → verdict_from (setting_of book.ranking) budget w o place at stack (line_of line ∷ map line_of (take (length lines - (k + 1)) (drop (k + 1) lines))) ≡ verdict_from (setting_of base.ranking) budget w o place at stack (map line_of (drop k lines))
  here_told line h e =
      ap₂ (λ (r : RankingValue) (ls : List ProgramLine). verdict_from (setting_of r) budget w o place at stack (line_of line ∷ map line_of ls)) keeps.ranking (behind_is lines (k + 1))
      ∙ ap (λ (ls : List Line). verdict_from (setting_of base.ranking) budget w o place at stack ls) (sym (lines_at lines k line h e))

-- a walk at a line, and behind it, with the lines as they are handed on
module _ (base book : BookValue) (budget w : ℕ) (stack : List PendingValue) (lines : List ProgramLine) (k : ℕ) where
  pub walks_here : (line : ProgramLine) → k < length lines → line ≡ get_or lines k line → IsWalking base book budget w stack (map line_of (drop k lines)) → IsWalking base book budget w stack (line_of line ∷ map line_of (take (length lines - (k + 1)) (drop (k + 1) lines)))
  walks_here line h e walks =
      subst (λ (ls : List ProgramLine). IsWalking base book budget w stack (line_of line ∷ map line_of ls)) (sym (behind_is lines (k + 1)))
      (subst (λ (ls : List Line). IsWalking base book budget w stack ls) (lines_at lines k line h e) walks)

  pub walks_behind : IsWalking base book budget w stack (map line_of (take (length lines - k) (drop k lines))) → IsWalking base book budget w stack (map line_of (drop k lines))
  walks_behind walks = subst (λ (ls : List ProgramLine). IsWalking base book budget w stack (map line_of ls)) (behind_is lines k) walks

-- ---- a line of evidence is passed over
module _ (g : Setting) (budget w : ℕ) (book : BookValue) (stack : List PendingValue) where
  pub pair_told : (o : Bool) (place : ℕ) (line : Line) (lines : List Line) → is_pair_line line ≡ true → verdict_from g budget w o place book stack (line ∷ lines) ≡ verdict_from g budget w o (place + 1) book stack lines
  pair_told o place (act action) lines h = cc
  pair_told o place closed lines h = cc
  pair_told o place chain lines h = cc
  pair_told o place (pair e) lines h =
      let n : place + suc (length (grouped lines).0) ≡ place + 1 + length (grouped lines).0 = omega arith in
      ap (λ (k : ℕ). judged_after o (walk g budget w k (pending_states book stack) (grouped lines).1)) n
  pair_told o place (spent action) lines h = cc
  pair_told o place spent_pairs lines h = cc
  pair_told o place (open_wide action) lines h = cc
  pair_told o place (open_separant i) lines h = cc
  pair_told o place (open_large limit action) lines h = cc

pub pair_walks : (base book : BookValue) (budget w : ℕ) (stack : List PendingValue) (line : Line) (lines : List Line) → is_pair_line line ≡ true → IsWalking base book budget w stack (line ∷ lines) → IsWalking base book budget w stack lines
pair_walks base book budget w stack (act action) lines h walks = cc
pair_walks base book budget w stack closed lines h walks = cc
pair_walks base book budget w stack chain lines h walks = cc
pair_walks base book budget w stack (pair e) lines h walks = record {
  within = walks.within;
  stacked = walks.stacked;
  next = AnyLine;
  formed = (both (is_spelled (pair e) && may_stand (length stack) walks.next (pair e)) (form_trees (length stack) AnyLine lines) walks.formed).1;
}
pair_walks base book budget w stack (spent action) lines h walks = cc
pair_walks base book budget w stack spent_pairs lines h walks = cc
pair_walks base book budget w stack (open_wide action) lines h walks = cc
pair_walks base book budget w stack (open_separant i) lines h walks = cc
pair_walks base book budget w stack (open_large limit action) lines h walks = cc

-- ---- the last line is behind
no_more : (n : ℕ) (x : Expected) → form_trees n x [] ≡ true → n ≡ 0
no_more n x h = let a = (both (n == 0) (lets_line x) h).0 in grind (arith, nat_tests)

nothing_pending : (stack : List PendingValue) → length stack ≡ 0 → stack ≡ []
nothing_pending [] e = refl
nothing_pending (p ∷ ps) e = absurd (omega (arith, e))

pub walk_ends : (g : Setting) (base book : BookValue) (budget w : ℕ) (stack : List PendingValue) → IsWalking base book budget w stack [] → (place : ℕ) (o : Bool) → verdict_from g budget w o place book stack [] ≡ cond o partial accepted
walk_ends g base book budget w stack walks place o =
    let none : stack ≡ [] = nothing_pending stack (no_more (length stack) walks.next walks.formed) in
    ap (λ (ps : List PendingValue). verdict_from g budget w o place book ps []) none ∙ by_test o
  where
    by_test : (o : Bool) → verdict_from g budget w o place book [] [] ≡ cond o partial accepted
    by_test true = refl
    by_test false = refl

-- ---- the first line is next
-- no evidence stands in front of a tree
tree_begins : (lines : List Line) → form_trees 1 NoPair lines ≡ true → (grouped lines).0 ≡ []
tree_begins [] h = cc
tree_begins (act action ∷ lines) h = refl
tree_begins (closed ∷ lines) h = refl
tree_begins (chain ∷ lines) h = refl
tree_begins (pair e ∷ lines) h = absurd (no_pair (both (is_spelled (pair e) && may_stand 1 NoPair (pair e)) (form_trees 1 AnyLine lines) h).0)
  where
    no_pair : (is_spelled (pair e) && false) ≡ true → ⊥
    no_pair k = let a = (both (is_spelled (pair e)) false k).1 in cc
tree_begins (spent action ∷ lines) h = refl
tree_begins (spent_pairs ∷ lines) h = refl
tree_begins (open_wide action ∷ lines) h = refl
tree_begins (open_separant i ∷ lines) h = refl
tree_begins (open_large limit action ∷ lines) h = refl

judged_same : (q : Result (List End) (ℕ × Rule)) → judged_after false q ≡ judged q
judged_same (Ok ends) = refl
judged_same (Err r) = refl

-- a root that is put on an empty stack
pub root_alone : (root : StateValue) (m n : ℕ) (stack rest : List PendingValue) → reverse stack ≡ record { state = root; mark = m } ∷ reverse rest → m ≡ n → rest ≡ [] → reverse stack ≡ record { state = root; mark = n } ∷ []
root_alone root m n stack rest e f h = e ∙ ap₂ (λ (k : ℕ) (ps : List PendingValue). record { state = root; mark = k } ∷ reverse ps) f h

module _ (book : BookValue) (root : StateValue) (lines : List Line) (tree : FormTree lines) where
  -- the root alone is pending
  abbrev bottom : List PendingValue
  bottom = record { state = root; mark = length book.polynomials } ∷ []

  pub walk_begins : (budget : ℕ) → StandsIn book root → IsStateOf (symbols_under book.ranking) (state_in book root) → IsWalking book book budget 0 bottom lines
  walk_begins budget stands facts = record {
    within = omega arith;
    stacked = pushed book root [] book stands facts (kept_itself book);
    next = NoPair;
    formed = (one_tree lines).1 tree;
  }

  pub begins_told : (g : Setting) (budget : ℕ) → verdict_from g budget 0 false 1 book bottom lines ≡ judged (walk g budget 0 1 (state_in book root ∷ []) (entries_of lines))
  begins_told g budget =
      let none : (grouped lines).0 ≡ [] = tree_begins lines ((one_tree lines).1 tree) in
      let one : 1 + 0 ≡ 1 = omega arith in
      ap₂ (λ (es : List Evidence) (b : BookValue). judged_after false (walk g budget 0 (1 + length es) (state_in b root ∷ []) (entries_of lines))) none (whole_cut book)
      ∙ ap (λ (k : ℕ). judged_after false (walk g budget 0 k (state_in book root ∷ []) (entries_of lines))) one
      ∙ judged_same (walk g budget 0 1 (state_in book root ∷ []) (entries_of lines))

-- ---- a tree
pub root_walk : (old new : RankingValue) → new ≡ old → (system : System) (tree : Tree) (root : State) → root ≡ root_of (symbols_under old) system → (budget : ℕ) → budget ≡ tree.budget → (lines : List Line) → lines ≡ tree.lines
    → walk (setting_of new) budget 0 1 (root ∷ []) (entries_of lines) ≡ ends_of (setting_of old) system tree
unfolding ends_of
root_walk old new same system tree root is_root budget is_budget lines are_lines =
    ap₂ (λ (r : RankingValue) (s : State). walk (setting_of r) budget 0 1 (s ∷ []) (entries_of lines)) same is_root
    ∙ ap₂ (λ (b : ℕ) (ls : List Line). walk (setting_of old) b 0 1 (root_of (symbols_under old) system ∷ []) (entries_of ls)) is_budget are_lines
