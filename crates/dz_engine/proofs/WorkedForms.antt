-- The lines of a worked tree form one tree, and belong to the signature.
use Rattle.std.specs.Prelude.{MatchResult}
use Rattle.std.specs.List.{AllByRecursion, list_all}
use Rattle.std.proofs.Common.{◌≡◌, ◌≤◌, ◌+◌, ◌∙◌, ℕ, suc, Bool, true, false, ◌&&◌, cond, List, [], ◌∷◌, ◌++◌, length, length-append, refl, sym, ap, subst, Result, Ok, Err, arith, append-nil}
use Rattle.std.proofs.lemmas.List.{append_assoc}
use Rattle.dz_rank.specs.Rankings.{RankingValue}
use Rattle.dz_rank.specs.declared.rankings.Signature.{Signature}
use Rattle.dz_monomials.specs.Lists.{AllOf}
use Rattle.dz_diff.specs.Operations.{Setting, setting_of}
use Rattle.dz_diff.specs.State.{State}
use Rattle.dz_diff.proofs.Places.{all-append}
use Rattle.dz_move.specs.declared.Rule.{Rule}
use Rattle.dz_tree.specs.Belonging.{IsLineOf}
use Rattle.dz_tree.specs.Forms.{Node, end, move, fork, lines_in, is_end_with, is_spelled, IsOrdered, FormTree}
use Rattle.dz_move.specs.Lines.{Evidence, Line, act, closed, chain, pair, spent, spent_pairs, open_wide, open_separant, open_large, Entry, lines_of, lines_of_entry}
use Rattle.dz_move.specs.Moves.{Action, is_fork}
use Rattle.dz_check.specs.Walk.{Below, entered}
use Rattle.dz_move.specs.Standing.{IsStateOver}
use Rattle.dz_move.proofs.StateFacts.{state_laws}
use Rattle.dz_check.proofs.Certifying.{entered_holds}
use Rattle.dz_move.proofs.Progress.{perform_leads}
use Rattle.dz_tree.proofs.TreeForms.{lines_of_all, none_is_empty}
use Rattle.dz_engine.specs.Worked.{IsWorkedFrom}
use Rattle.dz_engine.proofs.FormedEntries.{IsFormed, is_placed, next_formed}
use Rattle.dz_engine.proofs.OrderOfWork.{below_is}

-- ---- trees, one after the other
-- the lines are those of so many trees
record HasTrees (n : ℕ) (lines : List Line) : Type 0 where
  trees : List Node
  count : length trees ≡ n
  ordered : AllOf IsOrdered trees
  are : lines_of_all trees ≡ lines

-- an end before trees
with_end : (line : Line) (es : List Evidence) (n : ℕ) (lines : List Line) → is_end_with es line ≡ true → HasTrees n lines → HasTrees (suc n) (lines_of_entry (record { line = line; evidence = es }) ++ lines)
with_end line es n lines e h = record {
  trees = end line es ∷ h.trees;
  count = ap suc h.count;
  ordered = (e, h.ordered);
  are = ap (λ (ls : List Line). lines_of_entry (record { line = line; evidence = es }) ++ ls) h.are;
}

-- a move or a fork before trees
with_action : (action : Action) (n : ℕ) (lines : List Line) → HasTrees (cond (is_fork action) 2 1 + n) lines → HasTrees (suc n) (act action ∷ lines)
with_action action n lines h = by_kind (is_fork action) refl h.trees h.count h.ordered h.are
  where
    by_kind : (b : Bool) → is_fork action ≡ b → (ts : List Node) → length ts ≡ cond b 2 1 + n → AllOf IsOrdered ts → lines_of_all ts ≡ lines → HasTrees (suc n) (act action ∷ lines)
    by_kind true f [] c o a = absurd (omega (arith, c))
    by_kind true f (t ∷ []) c o a = absurd (omega (arith, c))
    by_kind true f (t ∷ u ∷ ts) c o a = record {
      trees = fork action t u ∷ ts;
      count = omega (arith, c);
      ordered = ((f, o.0, o.1.0), o.1.1);
      are = ap (λ (ls : List Line). act action ∷ ls) (append_assoc (lines_in t) (lines_in u) (lines_of_all ts) ∙ a);
    }
    by_kind false f [] c o a = absurd (omega (arith, c))
    by_kind false f (t ∷ ts) c o a = record {
      trees = move action t ∷ ts;
      count = omega (arith, c);
      ordered = ((f, o.0), o.1);
      are = ap (λ (ls : List Line). act action ∷ ls) a;
    }

-- lines that can be spelled, and more of them
all_appended : (xs ys : List Line) → list_all is_spelled xs ≡ true → list_all is_spelled ys ≡ true → list_all is_spelled (xs ++ ys) ≡ true
all_appended [] ys h k = k
all_appended (x ∷ xs) ys h k = by_test (is_spelled x) h (λ i. all_appended xs ys i k)
  where
    by_test : (b : Bool) → (b && list_all is_spelled xs) ≡ true → (list_all is_spelled xs ≡ true → list_all is_spelled (xs ++ ys) ≡ true) → (b && list_all is_spelled (xs ++ ys)) ≡ true
    by_test true h ih = ih h
    by_test false h ih = h

-- lines of a signature, and more of them
all_belong : (n : Signature) (xs ys : List Line) → AllByRecursion (λ line. IsLineOf n line) xs → AllByRecursion (λ line. IsLineOf n line) ys → AllByRecursion (λ line. IsLineOf n line) (xs ++ ys)
all_belong n [] ys h k = k
all_belong n (x ∷ xs) ys h k = (h.0, all_belong n xs ys h.1 k)

-- ---- an entry before trees
module _ (g : Setting) (budget w : ℕ) (s : State) (n : ℕ) (lines : List Line) where
  -- an end leaves no state below
  ended : (line : Line) (es : List Evidence) (ss : List State) → ss ≡ [] → is_end_with es line ≡ true → HasTrees (length ss + n) lines → HasTrees (suc n) (lines_of_entry (record { line = line; evidence = es }) ++ lines)
  ended line es ss none p h = with_end line es n lines p (subst (λ m. HasTrees m lines) (ap (λ (ss : List State). length ss + n) none ∙ omega arith) h)

  -- what is entered at a line with its evidence, before the trees of the states below
  before : (line : Line) (es : List Evidence) (b : Below) → entered g budget w s line es ≡ Ok b → is_placed es line ≡ true → HasTrees (length b.states + n) lines → HasTrees (suc n) (lines_of_entry (record { line = line; evidence = es }) ++ lines)
  before (act action) es b e p h =
      let k = entered_holds g budget w s (act action) es b e in
      let c = (perform_leads g s action _ k.0).states in
      let none = none_is_empty es p in
      subst (λ (es : List Evidence). HasTrees (suc n) (lines_of_entry (record { line = act action; evidence = es }) ++ lines)) (sym none) (with_action action n lines (subst (λ m. HasTrees (m + n) lines) c h))
  before closed es b e p h = ended closed es b.states (entered_holds g budget w s closed es b e).none p h
  before chain es b e p h = ended chain es b.states (entered_holds g budget w s chain es b e).1 p h
  before (pair x) es b e p h = cc
  before (spent action) es b e p h = ended (spent action) es b.states (entered_holds g budget w s (spent action) es b e).none p h
  before spent_pairs es b e p h = ended spent_pairs es b.states (entered_holds g budget w s spent_pairs es b e).none p h
  before (open_wide action) es b e p h = ended (open_wide action) es b.states (entered_holds g budget w s (open_wide action) es b e).none p h
  before (open_separant i) es b e p h = ended (open_separant i) es b.states (entered_holds g budget w s (open_separant i) es b e).none p h
  before (open_large limit action) es b e p h = ended (open_large limit action) es b.states (entered_holds g budget w s (open_large limit action) es b e).none p h

-- ---- the tree
module _ (r : RankingValue) (few : r.signature.independents ≤ 4) (named : r.signature.dependents ≤ 16) (budget : ℕ) where
  -- the lines are those of so many trees, can be spelled, and belong to the signature
  record AreWorked (n : ℕ) (lines : List Line) : Type 0 where
    trees : HasTrees n lines
    spelled : list_all is_spelled lines ≡ true
    belong : AllByRecursion (λ line. IsLineOf r.signature line) lines

  -- worked entries have one tree for each pending state
  worked_trees : (w : ℕ) (pending : List State) (es : List Entry) → w ≤ budget → AllOf (IsStateOver r) pending → IsWorkedFrom (setting_of r) budget w pending es → AreWorked (length pending) (lines_of es)
  worked_trees w [] [] low fine h = record { trees = record { trees = []; count = refl; ordered = tt; are = refl }; spelled = refl; belong = tt }
  worked_trees w [] (e ∷ es) low fine h = absurd h
  worked_trees w (s ∷ pending) [] low fine h = absurd h
  worked_trees w (s ∷ pending) (e ∷ es) low fine h = by_answer (entered (setting_of r) budget w s e.line e.evidence) refl (λ b l k i. worked_trees (w + b.weight) (b.states ++ pending) es l k i) h.1
    where
      formed : IsFormed r.signature e
      formed = subst (IsFormed r.signature) (sym h.0) (next_formed r few named budget w s fine.0 low)

      by_answer : (q : Result Below (ℕ × Rule)) → entered (setting_of r) budget w s e.line e.evidence ≡ q
          → ((b : Below) → w + b.weight ≤ budget → AllOf (IsStateOver r) (b.states ++ pending) → IsWorkedFrom (setting_of r) budget (w + b.weight) (b.states ++ pending) es → AreWorked (length (b.states ++ pending)) (lines_of es))
          → MatchResult q (λ b. IsWorkedFrom (setting_of r) budget (w + b.weight) (b.states ++ pending) es) (λ x. ⊥) → AreWorked (suc (length pending)) (lines_of (e ∷ es))
      by_answer (Err x) f ih k = absurd k
      by_answer (Ok b) f ih k =
          let a = below_is (setting_of r) budget w s (IsStateOver r) (λ action d i. (state_laws r few).kept s action d fine.0 i) low e.line e.evidence b f in
          let more = ih b a.0 (all-append (IsStateOver r) b.states pending a.2 fine.1) k in
          record {
            trees = before (setting_of r) budget w s (length pending) (lines_of es) e.line e.evidence b f formed.placed (subst (λ m. HasTrees m (lines_of es)) (length-append b.states pending) more.trees);
            spelled = all_appended (lines_of_entry e) (lines_of es) formed.spelled more.spelled;
            belong = all_belong r.signature (lines_of_entry e) (lines_of es) formed.belong more.belong;
          }

  -- the worked lines from one state form one tree
  pub worked_forms : (s : State) (es : List Entry) → IsStateOver r s → IsWorkedFrom (setting_of r) budget 0 (s ∷ []) es → FormTree (lines_of es)
  worked_forms s es fine h = let k = worked_trees 0 (s ∷ []) es (omega arith) (fine, tt) h in by_trees k.trees.trees k.trees.count k.trees.ordered k.trees.are k.spelled
    where
      by_trees : (ts : List Node) → length ts ≡ 1 → AllOf IsOrdered ts → lines_of_all ts ≡ lines_of es → list_all is_spelled (lines_of es) ≡ true → FormTree (lines_of es)
      by_trees [] c o a e = absurd (omega (arith, c))
      by_trees (t ∷ []) c o a e = record { tree = t; ordered = o.0; are = sym (append-nil (lines_in t)) ∙ a; spelled = e }
      by_trees (t ∷ u ∷ ts) c o a e = absurd (omega (arith, c))

  -- and belong to the signature
  pub worked_belong : (s : State) (es : List Entry) → IsStateOver r s → IsWorkedFrom (setting_of r) budget 0 (s ∷ []) es → AllByRecursion (λ line. IsLineOf r.signature line) (lines_of es)
  worked_belong s es fine h = (worked_trees 0 (s ∷ []) es (omega arith) (fine, tt) h).belong
