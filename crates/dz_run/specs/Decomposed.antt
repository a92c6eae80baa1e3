-- The answer of `decompose`, with which those on chains begin.
use Rattle.std.specs.Prelude.{ℕ, List, [], ◌∷◌, Option, Some, None, unwrap_or}
use Rattle.dz_rank.specs.Rankings.{RankingValue}
use Rattle.dz_diff.specs.Operations.{setting_of}
use Rattle.dz_diff.specs.State.{State}
use Rattle.dz_syntax.specs.Names.{Declared}
use Rattle.dz_move.specs.Lines.{Line, spent, spent_pairs, open_wide, open_separant, open_large}
use Rattle.dz_move.specs.Root.{System}
use Rattle.dz_tree.specs.Trees.{Tree}
use Rattle.dz_check.specs.Walk.{chains_of, ends_in, ends_of}
use Rattle.dz_engine.specs.Worked.{worked_tree}
use Rattle.dz_cert.specs.Documents.{document_of}
use Rattle.dz_run.specs.declared.ending.Ending.{Ending}
use Rattle.dz_run.specs.declared.ending.Ending.TheVariants.{Done, Wide, Spent, Large}
use Rattle.dz_run.specs.Answer.{Answer, printed}

-- the ending for an open end of a tree
abbrev pub open_ending : Line → Option Ending
open_ending (spent action) = Some Spent
open_ending spent_pairs = Some Spent
open_ending (open_wide action) = Some Wide
open_ending (open_separant i) = Some Wide
open_ending (open_large limit action) = Some Large
open_ending line = None

-- how a run ends for the lines of a tree: as their first open end says
abbrev pub lines_ending : List Line → Ending
lines_ending [] = Done
lines_ending (line ∷ lines) = unwrap_or (open_ending line) (lines_ending lines)

-- the states at the lines `chain` of a tree for a system
abbrev pub tree_chains : RankingValue → System → Tree → List State
tree_chains r system tree = chains_of (ends_in (ends_of (setting_of r) system tree))

-- the document of a tree for a system
abbrev pub tree_answer : RankingValue → Declared → System → Tree → Answer
tree_answer r names system tree = printed (document_of (setting_of r) names system tree) (lines_ending tree.lines)

-- the document of the worked tree of a system and a budget
unfoldable pub decomposed : RankingValue → Declared → ℕ → System → Answer
decomposed r names budget s = tree_answer r names s (worked_tree (setting_of r) budget s)

-- the states of its chains
unfoldable pub worked_chains : RankingValue → ℕ → System → List State
worked_chains r budget s = tree_chains r s (worked_tree (setting_of r) budget s)
