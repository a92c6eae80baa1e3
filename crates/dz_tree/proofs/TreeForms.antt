-- Counting the trees that are still to come tells whether lines form one tree.
use Rattle.std.proofs.Common.{◌≡◌, ◌↔◌, ◌≤◌, ◌<◌, ◌∙◌, ℕ, zero, suc, ◌+◌, ◌-◌, ◌==◌, nat_lt, Bool, true, false, not, ◌&&◌, cond, List, [], ◌∷◌, ◌++◌, map, length, drop, get_or, refl, sym, ap, ap₂, subst, arith}
use Rattle.std.specs.List.{list_all}
use Rattle.std.proofs.lemmas.Bool.Decides.{nat_tests}
use Rattle.std.proofs.lemmas.List.{append-nil, append_assoc, drop_all}
use Rattle.std.proofs.Math.Seq.{drop-cons}
use Rattle.std.proofs.lemmas.List.Folds.{list_all-append}
use Rattle.std.proofs.lemmas.Bool.{lt-ltb}
use Rattle.dz_monomials.specs.Lists.{AllOf}
use Rattle.dz_algebra.proofs.Outcomes.{both}
use Rattle.dz_tree.specs.declared.forming.Expected.{Expected}
use Rattle.dz_tree.specs.declared.forming.Expected.TheVariants.{NoPair, AnyLine, SomePair}
use Rattle.dz_move.specs.Moves.{Action, is_fork}
use Rattle.dz_tree.specs.Forms.{is_empty}
use Rattle.dz_move.specs.Lines.{Evidence, Line, act, closed, chain, pair, spent, spent_pairs, open_wide, open_separant, open_large}
use Rattle.dz_tree.specs.Forms.{is_spelled, Node, end, move, fork, lines_in, is_end_with, IsOrdered, FormTree}
use Rattle.dz_move.specs.declared.lines.Line.{Line as ProgramLine}
use Rattle.dz_move.specs.TreeLines.{line_of}
use Rattle.dz_tree.specs.Counting.{lets_pair, lets_line, expected_after, may_stand, left_after, form_trees}

and_is : (a b : Bool) → a ≡ true → b ≡ true → (a && b) ≡ true
and_is true b e f = f
and_is false b e f = e

-- what is empty has nothing
pub none_is_empty : {A : Type 0} (xs : List A) → is_empty xs ≡ true → xs ≡ []
none_is_empty [] e = refl
none_is_empty (x ∷ xs) e = cc

-- ---- lines that are counted form trees
-- the lines of some trees, one after the other
abbrev pub lines_of_all : List Node → List Line
lines_of_all [] = []
lines_of_all (t ∷ ts) = lines_in t ++ lines_of_all ts

-- so much evidence may stand next
abbrev allows : Expected → List Evidence → Bool
allows NoPair es = is_empty es
allows AnyLine es = true
allows SomePair es = not (is_empty es)

-- the lines are evidence that may stand next, and so many trees
record AreTrees (n : ℕ) (x : Expected) (lines : List Line) : Type 0 where
  front : List Evidence
  allowed : allows x front ≡ true
  trees : List Node
  count : length trees ≡ n
  ordered : AllOf IsOrdered trees
  are : map pair front ++ lines_of_all trees ≡ lines

positive : (n : ℕ) → nat_lt 0 n ≡ true → 1 ≤ n
positive zero p = cc
positive (suc n) p = omega arith

-- no evidence may stand where another line may
nothing : (x : Expected) → lets_line x ≡ true → allows x [] ≡ true
nothing NoPair e = refl
nothing AnyLine e = refl
nothing SomePair e = e

-- an end before trees
with_end : (n : ℕ) (x : Expected) (line : Line) (lines : List Line) → nat_lt 0 n ≡ true → lets_line x ≡ true → (h : AreTrees ((n - 1) + 0) (expected_after line) lines) → is_end_with h.front line ≡ true → AreTrees n x (line ∷ lines)
with_end n x line lines p e h o = record {
  front = [];
  allowed = nothing x e;
  trees = end line h.front ∷ h.trees;
  count = let c = h.count in let q = positive n p in omega (arith, c, q);
  ordered = (o, h.ordered);
  are = ap (λ ls. line ∷ ls) h.are;
}

-- what a counted line stands before
counted_pair : (n : ℕ) (x : Expected) (e : Evidence) (lines : List Line) → lets_pair x ≡ true → AreTrees n AnyLine lines → AreTrees n x (pair e ∷ lines)
counted_pair n x e lines p h = record {
  front = e ∷ h.front;
  allowed = some x p;
  trees = h.trees;
  count = h.count;
  ordered = h.ordered;
  are = ap (λ ls. pair e ∷ ls) h.are;
}
  where
    some : (x : Expected) → lets_pair x ≡ true → allows x (e ∷ h.front) ≡ true
    some NoPair p = p
    some AnyLine p = refl
    some SomePair p = refl

-- a move or a fork before trees
with_action : (n : ℕ) (x : Expected) (action : Action) (lines : List Line) → nat_lt 0 n ≡ true → lets_line x ≡ true → AreTrees ((n - 1) + cond (is_fork action) 2 1) NoPair lines → AreTrees n x (act action ∷ lines)
with_action n x action lines p e h = by_kind (is_fork action) refl h.trees h.count h.ordered (ap (λ es. map pair es ++ lines_of_all h.trees) (sym (none_is_empty h.front h.allowed)) ∙ h.are)
  where
    by_kind : (b : Bool) → is_fork action ≡ b → (ts : List Node) → length ts ≡ (n - 1) + cond b 2 1 → AllOf IsOrdered ts → lines_of_all ts ≡ lines → AreTrees n x (act action ∷ lines)
    by_kind true f [] c o a = let q = positive n p in absurd (omega (arith, c, q))
    by_kind true f (t ∷ []) c o a = let q = positive n p in absurd (omega (arith, c, q))
    by_kind true f (t ∷ u ∷ ts) c o a = record {
      front = [];
      allowed = nothing x e;
      trees = fork action t u ∷ ts;
      count = let q = positive n p in omega (arith, c, q);
      ordered = ((f, o.0, o.1.0), o.1.1);
      are = ap (λ ls. act action ∷ ls) (append_assoc (lines_in t) (lines_in u) (lines_of_all ts) ∙ a);
    }
    by_kind false f [] c o a = let q = positive n p in absurd (omega (arith, c, q))
    by_kind false f (t ∷ ts) c o a = record {
      front = [];
      allowed = nothing x e;
      trees = move action t ∷ ts;
      count = let q = positive n p in omega (arith, c, q);
      ordered = ((f, o.0), o.1);
      are = ap (λ ls. act action ∷ ls) a;
    }

counted : (n : ℕ) (x : Expected) (lines : List Line) → form_trees n x lines ≡ true → AreTrees n x lines
counted n x [] e =
    let a = both (n == 0) (lets_line x) e in
    record { front = []; allowed = nothing x a.1; trees = []; count = sym (grind (arith, nat_tests)); ordered = tt; are = refl }
counted n x (line ∷ lines) e =
    let a = both (is_spelled line && may_stand n x line) (form_trees (left_after n line) (expected_after line) lines) e in
    by_line line (both (is_spelled line) (may_stand n x line) a.0).1 (counted (left_after n line) (expected_after line) lines a.1)
  where
    by_line : (line : Line) → may_stand n x line ≡ true → AreTrees (left_after n line) (expected_after line) lines → AreTrees n x (line ∷ lines)
    by_line (act action) m h = let b = both (lets_line x) (nat_lt 0 n) m in with_action n x action lines b.1 b.0 h
    by_line closed m h = let b = both (lets_line x) (nat_lt 0 n) m in with_end n x closed lines b.1 b.0 h h.allowed
    by_line chain m h = let b = both (lets_line x) (nat_lt 0 n) m in with_end n x chain lines b.1 b.0 h refl
    by_line (pair p) m h = counted_pair n x p lines m h
    by_line (spent action) m h = let b = both (lets_line x) (nat_lt 0 n) m in with_end n x (spent action) lines b.1 b.0 h h.allowed
    by_line spent_pairs m h = let b = both (lets_line x) (nat_lt 0 n) m in with_end n x spent_pairs lines b.1 b.0 h h.allowed
    by_line (open_wide action) m h = let b = both (lets_line x) (nat_lt 0 n) m in with_end n x (open_wide action) lines b.1 b.0 h h.allowed
    by_line (open_separant i) m h = let b = both (lets_line x) (nat_lt 0 n) m in with_end n x (open_separant i) lines b.1 b.0 h h.allowed
    by_line (open_large limit action) m h = let b = both (lets_line x) (nat_lt 0 n) m in with_end n x (open_large limit action) lines b.1 b.0 h h.allowed

all_spelled : (n : ℕ) (x : Expected) (lines : List Line) → form_trees n x lines ≡ true → list_all is_spelled lines ≡ true
all_spelled n x [] e = refl
all_spelled n x (line ∷ lines) e =
    let a = both (is_spelled line && may_stand n x line) (form_trees (left_after n line) (expected_after line) lines) e in
    and_is (is_spelled line) (list_all is_spelled lines) (both (is_spelled line) (may_stand n x line) a.0).0 (all_spelled (left_after n line) (expected_after line) lines a.1)

-- ---- lines that form trees are counted
-- the lines are counted wherever another line may stand
abbrev Counts : ℕ → List Line → Type 0
Counts n lines = (x : Expected) → lets_line x ≡ true → form_trees n x lines ≡ true

-- evidence before them
pairs_counted : (n : ℕ) (x : Expected) (es : List Evidence) (lines : List Line) → allows x es ≡ true → list_all is_spelled (map pair es) ≡ true → Counts n lines → form_trees n x (map pair es ++ lines) ≡ true
pairs_counted n x [] lines a s h = h x (line_too x a)
  where
    line_too : (x : Expected) → allows x [] ≡ true → lets_line x ≡ true
    line_too NoPair a = refl
    line_too AnyLine a = refl
    line_too SomePair a = a
pairs_counted n x (e ∷ es) lines a s h =
    let b = both (is_spelled (pair e)) (list_all is_spelled (map pair es)) s in
    and_is (is_spelled (pair e) && lets_pair x) (form_trees n AnyLine (map pair es ++ lines)) (and_is (is_spelled (pair e)) (lets_pair x) b.0 (some x a)) (pairs_counted n AnyLine es lines refl b.1 h)
  where
    some : (x : Expected) → allows x (e ∷ es) ≡ true → lets_pair x ≡ true
    some NoPair a = a
    some AnyLine a = refl
    some SomePair a = refl

-- a line that is no evidence
line_counted : (n : ℕ) (x : Expected) (line : Line) (lines : List Line) → is_spelled line ≡ true → may_stand (suc n) x line ≡ true → form_trees (left_after (suc n) line) (expected_after line) lines ≡ true → form_trees (suc n) x (line ∷ lines) ≡ true
line_counted n x line lines s m h = and_is (is_spelled line && may_stand (suc n) x line) (form_trees (left_after (suc n) line) (expected_after line) lines) (and_is (is_spelled line) (may_stand (suc n) x line) s m) h

stands : (n : ℕ) (x : Expected) → lets_line x ≡ true → (lets_line x && nat_lt 0 (suc n)) ≡ true
stands n x e = and_is (lets_line x) (nat_lt 0 (suc n)) e (lt-ltb 0 (suc n) (omega arith))

-- an end with its evidence
end_counted : (n : ℕ) (line : Line) (es : List Evidence) (lines : List Line) → is_end_with es line ≡ true → is_spelled line ≡ true → list_all is_spelled (map pair es) ≡ true → Counts n lines → Counts (suc n) (line ∷ map pair es ++ lines)
end_counted n line es lines o s t h x e =
    let k : suc n - 1 + 0 ≡ n = omega arith in
    let after : (x : Expected) → allows x es ≡ true → form_trees (suc n - 1 + 0) x (map pair es ++ lines) ≡ true = λ x a. subst (λ m. form_trees m x (map pair es ++ lines) ≡ true) (sym k) (pairs_counted n x es lines a t h) in
    by_line line o s after
  where
    by_line : (line : Line) → is_end_with es line ≡ true → is_spelled line ≡ true → ((x : Expected) → allows x es ≡ true → form_trees (suc n - 1 + 0) x (map pair es ++ lines) ≡ true) → form_trees (suc n) x (line ∷ map pair es ++ lines) ≡ true
    by_line (act action) o s after = cc
    by_line (pair p) o s after = cc
    by_line closed o s after = line_counted n x closed (map pair es ++ lines) s (stands n x e) (after NoPair o)
    by_line chain o s after = line_counted n x chain (map pair es ++ lines) s (stands n x e) (after AnyLine refl)
    by_line (spent action) o s after = line_counted n x (spent action) (map pair es ++ lines) s (stands n x e) (after NoPair o)
    by_line spent_pairs o s after = line_counted n x spent_pairs (map pair es ++ lines) s (stands n x e) (after SomePair o)
    by_line (open_wide action) o s after = line_counted n x (open_wide action) (map pair es ++ lines) s (stands n x e) (after NoPair o)
    by_line (open_separant i) o s after = line_counted n x (open_separant i) (map pair es ++ lines) s (stands n x e) (after NoPair o)
    by_line (open_large limit action) o s after = line_counted n x (open_large limit action) (map pair es ++ lines) s (stands n x e) (after NoPair o)

-- a tree
tree_counted : (n : ℕ) (t : Node) (lines : List Line) → IsOrdered t → list_all is_spelled (lines_in t) ≡ true → Counts n lines → Counts (suc n) (lines_in t ++ lines)
tree_counted n (end line es) lines o s h x e =
    let a = both (is_spelled line) (list_all is_spelled (map pair es)) s in
    end_counted n line es lines o a.0 a.1 h x e
tree_counted n (move action t) lines o s h x e =
    let a = both (is_spelled (act action)) (list_all is_spelled (lines_in t)) s in
    let k : suc n - 1 + 1 ≡ suc n = omega arith in
    line_counted n x (act action) (lines_in t ++ lines) a.0 (stands n x e)
    (subst (λ m. form_trees m NoPair (lines_in t ++ lines) ≡ true) (sym (ap (λ b. suc n - 1 + cond b 2 1) o.0 ∙ k)) (tree_counted n t lines o.1 a.1 h NoPair refl))
tree_counted n (fork action t u) lines o s h x e =
    let a = both (is_spelled (act action)) (list_all is_spelled (lines_in t ++ lines_in u)) s in
    let b = both (list_all is_spelled (lines_in t)) (list_all is_spelled (lines_in u)) (sym (list_all-append is_spelled (lines_in t) (lines_in u)) ∙ a.1) in
    let k : suc n - 1 + 2 ≡ suc (suc n) = omega arith in
    subst (λ ls. form_trees (suc n) x (act action ∷ ls) ≡ true) (sym (append_assoc (lines_in t) (lines_in u) lines))
    (line_counted n x (act action) (lines_in t ++ (lines_in u ++ lines)) a.0 (stands n x e)
    (subst (λ m. form_trees m NoPair (lines_in t ++ (lines_in u ++ lines)) ≡ true) (sym (ap (λ b. suc n - 1 + cond b 2 1) o.0 ∙ k)) (tree_counted (suc n) t (lines_in u ++ lines) o.1 b.0 (tree_counted n u lines o.2 b.1 h) NoPair refl)))

-- ---- the law
-- lines are counted as one tree exactly where they form one
pub one_tree : (lines : List Line) → (form_trees 1 NoPair lines ≡ true) ↔ FormTree lines
one_tree lines = ((λ e. only (counted 1 NoPair lines e) e), (λ h. subst (λ ls. form_trees 1 NoPair ls ≡ true) (append-nil (lines_in h.tree) ∙ h.are) (tree_counted 0 h.tree [] h.ordered (ap (list_all is_spelled) h.are ∙ h.spelled) (λ x e. e) NoPair refl)))
  where
    only : AreTrees 1 NoPair lines → form_trees 1 NoPair lines ≡ true → FormTree lines
    only h e = one h.trees h.count h.ordered (ap (λ es. map pair es ++ lines_of_all h.trees) (sym (none_is_empty h.front h.allowed)) ∙ h.are)
      where
        one : (ts : List Node) → length ts ≡ 1 → AllOf IsOrdered ts → lines_of_all ts ≡ lines → FormTree lines
        one [] c o a = absurd (omega (arith, c))
        one (t ∷ []) c o a = record { tree = t; ordered = o.0; are = sym (append-nil (lines_in t)) ∙ a; spelled = all_spelled 1 NoPair lines e }
        one (t ∷ u ∷ ts) c o a = absurd (omega (arith, c))

-- ---- line by line
module _ (lines : List ProgramLine) (i n : ℕ) (x : Expected) where
  -- behind the last line
  at_end : length lines ≤ i → form_trees n x (map line_of (drop i lines)) ≡ ((n == 0) && lets_line x)
  at_end h = ap (λ ls. form_trees n x (map line_of ls)) (drop_all i lines h)

  -- at a line
  at_line : (line : ProgramLine) → i < length lines → line ≡ get_or lines i line
      → form_trees n x (map line_of (drop i lines)) ≡ ((is_spelled (line_of line) && may_stand n x (line_of line)) && form_trees (left_after n (line_of line)) (expected_after (line_of line)) (map line_of (drop (i + 1) lines)))
  at_line line h e =
      let k : suc i ≡ i + 1 = omega arith in
      ap (λ ls. form_trees n x (map line_of ls)) (drop-cons lines i line h ∙ ap₂ (λ (z : ProgramLine) (k : ℕ). z ∷ drop k lines) (sym e) k)

  module _ (same : form_trees n x (map line_of (drop i lines)) ≡ form_trees 1 NoPair (map line_of lines)) where
    -- the count tells whether the lines form a tree
    pub told : (b : Bool) → form_trees n x (map line_of (drop i lines)) ≡ b → (b ≡ true) ↔ FormTree (map line_of lines)
    told b e = subst (λ b. (b ≡ true) ↔ FormTree (map line_of lines)) (sym same ∙ e) (one_tree (map line_of lines))

    pub ended : (b : Bool) → length lines ≤ i → ((n == 0) && lets_line x) ≡ b → (b ≡ true) ↔ FormTree (map line_of lines)
    ended b h e = told b (at_end h ∙ e)

    -- trees are left
    pub none_ended : length lines ≤ i → (n ≡ 0 → ⊥) → ((n == 0) ≡ true) ↔ FormTree (map line_of lines)
    none_ended h k =
        let a : (n == 0) ≡ false = grind (arith, nat_tests) in
        ended (n == 0) h (ap (λ b. b && lets_line x) a ∙ sym a)

    module _ (line : ProgramLine) (inside : i < length lines) (is : line ≡ get_or lines i line) where
      -- the line may not stand there
      pub no_line : (is_spelled (line_of line) && may_stand n x (line_of line)) ≡ false → (false ≡ true) ↔ FormTree (map line_of lines)
      no_line e = told false (at_line line inside is ∙ ap (λ b. b && form_trees (left_after n (line_of line)) (expected_after (line_of line)) (map line_of (drop (i + 1) lines))) e)

      -- it may
      pub one_line : (is_spelled (line_of line) && may_stand n x (line_of line)) ≡ true
          → form_trees (left_after n (line_of line)) (expected_after (line_of line)) (map line_of (drop (i + 1) lines)) ≡ form_trees 1 NoPair (map line_of lines)
      one_line e = sym (at_line line inside is ∙ ap (λ b. b && form_trees (left_after n (line_of line)) (expected_after (line_of line)) (map line_of (drop (i + 1) lines))) e) ∙ same
