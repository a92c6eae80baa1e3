-- What is told of the tree of a system from a seed.
use Rattle.std.proofs.Common.{◌≡◌, ◌<◌, ◌≤◌, ◌+◌, ◌∙◌, ℕ, zero, suc, Bool, List, [], ◌∷◌, length, map, take, slice_index_or, sym, ap, subst, arith}
use Rattle.std.proofs.lemmas.List.{length-map}
use Rattle.std.proofs.lemmas.List.Sums.{sum_by_more}
use Rattle.std.specs.List.{AllByRecursion}
use Rattle.dz_diff.specs.Operations.{setting_of}
use Rattle.dz_diff.specs.State.{State}
use Rattle.dz_diff.specs.States.{StateValue, state_in}
use Rattle.dz_poly.specs.Books.{BookValue, IsBook, polynomial}
use Rattle.dz_rank.specs.Rankings.{RankingValue}
use Rattle.dz_rank.specs.declared.rankings.Signature.{Signature}
use Rattle.dz_sample.specs.Ranking.{sample_ranking}
use Rattle.dz_sample.specs.Summary.{summary_text}
use Rattle.dz_sample.specs.System.{sampled_system}
use Rattle.dz_sample.specs.declared.summary.Summary.{Summary}
use Rattle.dz_step.specs.StepOperators.{DeriveAlong}
use Rattle.dz_step.specs.declared.Step.{Step}
use Rattle.dz_tree.specs.Belonging.{AreStepsOf, IsActionOf, IsLineOf}
use Rattle.dz_tree.specs.LineOperators.{HaveOperatorsOf, steps_in}
use Rattle.dz_move.specs.Lines.{Line, act, closed, chain, pair, spent, spent_pairs, open_wide, open_separant, open_large}
use Rattle.dz_move.specs.Moves.{Action, reduce, weed, add, divide, split, factor, steps_of}
use Rattle.dz_move.specs.Root.{System}
use Rattle.dz_move.specs.Systems.{IsSystemIn, SystemValue, system_in}
use Rattle.dz_tree.specs.Trees.{Tree}
use Rattle.dz_check.specs.Walk.{verdict_of}
use Rattle.dz_engine.specs.Worked.{IsWorked, worked_tree}
use Rattle.dz_run.specs.declared.ending.Ending.{Ending}
use Rattle.dz_run.specs.Answer.{printed}
use Rattle.dz_run.specs.Decomposed.{lines_ending, tree_chains}
use Rattle.dz_run.specs.Sampled.{is_accepted, member_count, sample_tree, sampled, summary_of}
use Rattle.dz_run.proofs.WorkedDocuments.{worked_is}

-- ---- lines of a signature derive along its independents
steps_derive : (g : Signature) (steps : List Step) → AreStepsOf g steps → DeriveAlong g.independents steps
steps_derive g [] all = tt
steps_derive g (s ∷ steps) all = (all.0.operator, steps_derive g steps all.1)

action_derives : (g : Signature) (action : Action) → IsActionOf g action → DeriveAlong g.independents (steps_of action)
action_derives g (reduce i steps) h = steps_derive g steps h.1
action_derives g (weed j steps) h = steps_derive g steps h.1
action_derives g (add i j steps) h = steps_derive g steps h.2
action_derives g (divide i v) h = tt
action_derives g (split i which) h = tt
action_derives g (factor i v) h = tt

line_derives : (g : Signature) (line : Line) → IsLineOf g line → DeriveAlong g.independents (steps_in line)
line_derives g (act action) h = action_derives g action h
line_derives g closed h = tt
line_derives g chain h = tt
line_derives g (pair e) h = steps_derive g e.steps h.2
line_derives g (spent action) h = action_derives g action h
line_derives g spent_pairs h = tt
line_derives g (open_wide action) h = action_derives g action h
line_derives g (open_separant i) h = tt
line_derives g (open_large limit action) h = action_derives g action h

pub lines_derive : (g : Signature) (lines : List Line) → AllByRecursion (λ line. IsLineOf g line) lines → HaveOperatorsOf g.independents lines
lines_derive g [] all = tt
lines_derive g (line ∷ lines) all = (line_derives g line all.0, lines_derive g lines all.1)

-- ---- the summary
pub summary_is : (r : RankingValue) (seed size : ℕ) (system : System) (tree : Tree) (equations chains members : ℕ) (is_complete : Bool) → equations ≡ length system.equations → chains ≡ length (tree_chains r system tree)
    → members ≡ member_count (tree_chains r system tree) → is_complete ≡ is_accepted (verdict_of (setting_of r) system tree)
    → record { seed = seed; size = size; equations = equations; chains = chains; members = members; is_complete = is_complete } ≡ summary_of r seed size system tree
summary_is r seed size system tree equations chains members is_complete e c m v =
    ap (λ (n : ℕ). record { seed = seed; size = size; equations = n; chains = chains; members = members; is_complete = is_complete }) e
    ∙ ap (λ (n : ℕ). record { seed = seed; size = size; equations = length system.equations; chains = n; members = members; is_complete = is_complete }) c
    ∙ ap (λ (n : ℕ). record { seed = seed; size = size; equations = length system.equations; chains = length (tree_chains r system tree); members = n; is_complete = is_complete }) m
    ∙ ap (λ (b : Bool). record { seed = seed; size = size; equations = length system.equations; chains = length (tree_chains r system tree); members = member_count (tree_chains r system tree); is_complete = b }) v

-- the summary of the worked tree is the answer
pub sampled_is : (old new : BookValue) → new ≡ old → (seed size : ℕ) → old.ranking ≡ sample_ranking → IsBook old → (system : SystemValue) → IsSystemIn old system → system_in old system ≡ sampled_system seed size
    → (tree : Tree) → IsWorked (setting_of old.ranking) (system_in old system) tree → tree.budget ≡ 1000000
    → (summary : Summary) → summary ≡ summary_of new.ranking seed size (system_in new system) tree → (text : List ℕ) → text ≡ summary_text summary → (ending : Ending) → ending ≡ lines_ending tree.lines
    → printed text ending ≡ sampled seed size
unfolding sampled
sampled_is old new same seed size ranking book system stands value tree worked budget summary s text t ending e =
    let few : old.ranking.signature.independents ≤ 4 = subst (λ (r : RankingValue). r.signature.independents ≤ 4) (sym ranking) (omega arith) in
    let named : old.ranking.signature.dependents ≤ 16 = subst (λ (r : RankingValue). r.signature.dependents ≤ 16) (sym ranking) (omega arith) in
    let one : tree ≡ sample_tree seed size =
    worked_is old new same system tree book stands few named 1000000 (omega arith) worked budget
    ∙ ap (λ (r : RankingValue). worked_tree (setting_of r) 1000000 (system_in old system)) ranking
    ∙ ap (λ (s : System). worked_tree (setting_of sample_ranking) 1000000 s) value in
    let told : summary ≡ summary_of sample_ranking seed size (sampled_system seed size) (sample_tree seed size) =
    s ∙ ap (λ (b : BookValue). summary_of b.ranking seed size (system_in b system) tree) same
    ∙ ap (λ (r : RankingValue). summary_of r seed size (system_in old system) tree) ranking
    ∙ ap (λ (s : System). summary_of sample_ranking seed size s tree) value
    ∙ ap (λ (t : Tree). summary_of sample_ranking seed size (sampled_system seed size) t) one in
    ap (λ (x : List ℕ). printed x ending) (t ∙ ap summary_text told)
    ∙ ap (λ (x : Ending). printed (summary_text (summary_of sample_ranking seed size (sampled_system seed size) (sample_tree seed size))) x) (e ∙ ap (λ (t : Tree). lines_ending t.lines) one)

-- ---- the members of chains
mapped_index : {A B : Type 0} (f : A → B) (xs : List A) (i : ℕ) (x : A) → i < length xs → x ≡ slice_index_or xs i x → slice_index_or (map f xs) i (f x) ≡ f x
mapped_index f [] i x lt e = absurd (omega arith)
mapped_index f (y ∷ ys) zero x lt e = sym (ap f e)
mapped_index f (y ∷ ys) (suc i) x lt e = mapped_index f ys i x (omega arith) e

-- those of one chain more
pub counted_more : (book : BookValue) (chains : List StateValue) (i : ℕ) (s : StateValue) → i < length chains → s ≡ slice_index_or chains i s
    → member_count (take (i + 1) (map (λ s. state_in book s) chains)) ≡ member_count (take i (map (λ s. state_in book s) chains)) + length s.equations
counted_more book chains i s lt is =
    let states : List State = map (λ s. state_in book s) chains in
    let inside : i < length states = subst (λ n. i < n) (sym (length-map chains (λ s. state_in book s))) lt in
    sum_by_more (λ s. length s.equations) states i (state_in book s) inside
    ∙ ap (λ (t : State). member_count (take i states) + length t.equations) (mapped_index (λ s. state_in book s) chains i s lt is)
    ∙ ap (λ (n : ℕ). member_count (take i states) + n) (length-map s.equations (λ p. polynomial book p))
