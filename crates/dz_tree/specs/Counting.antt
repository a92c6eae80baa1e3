-- Lines that form trees, by counting the trees that are still to come. No public clause cites this file.
use Rattle.std.specs.Prelude.{ℕ, ◌+◌, ◌-◌, ◌==◌, nat_lt, Bool, true, false, ◌&&◌, cond, List, [], ◌∷◌}
use Rattle.dz_tree.specs.declared.forming.Expected.{Expected}
use Rattle.dz_tree.specs.declared.forming.Expected.TheVariants.{NoPair, AnyLine, SomePair}
use Rattle.dz_move.specs.Moves.{is_fork}
use Rattle.dz_move.specs.Lines.{Line, act, chain, pair, spent_pairs}
use Rattle.dz_tree.specs.Forms.{is_spelled}

-- evidence may stand next
abbrev pub lets_pair : Expected → Bool
lets_pair NoPair = false
lets_pair x = true

-- another line may stand next, or the end
abbrev pub lets_line : Expected → Bool
lets_line SomePair = false
lets_line x = true

-- what may stand after a line
abbrev pub expected_after : Line → Expected
expected_after chain = AnyLine
expected_after spent_pairs = SomePair
expected_after (pair e) = AnyLine
expected_after line = NoPair

-- a line may stand where so many trees are still to come
abbrev pub may_stand : ℕ → Expected → Line → Bool
may_stand n x (pair e) = lets_pair x
may_stand n x line = lets_line x && nat_lt 0 n

-- how many trees come after a line: one after a move, two after a fork
abbrev pub trees_after : Line → ℕ
trees_after (act action) = cond (is_fork action) 2 1
trees_after line = 0

-- how many trees are still to come after a line
abbrev pub left_after : ℕ → Line → ℕ
left_after n (pair e) = n
left_after n line = (n - 1) + trees_after line

-- lines form so many trees
abbrev pub form_trees : ℕ → Expected → List Line → Bool
form_trees n x [] = (n == 0) && lets_line x
form_trees n x (line ∷ lines) = (is_spelled line && may_stand n x line) && form_trees (left_after n line) (expected_after line) lines
