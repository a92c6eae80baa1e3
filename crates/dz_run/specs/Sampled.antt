-- The answer of `sample`: what becomes of a system that is made from a seed.
use Rattle.std.specs.Prelude.{ℕ, length, Bool, true, false, List}
use Rattle.std.specs.List.{sum_by}
use Rattle.dz_rank.specs.Rankings.{RankingValue}
use Rattle.dz_diff.specs.Operations.{setting_of}
use Rattle.dz_diff.specs.State.{State}
use Rattle.dz_move.specs.Root.{System}
use Rattle.dz_tree.specs.Trees.{Tree}
use Rattle.dz_check.specs.Walk.{Verdict, accepted, verdict_of}
use Rattle.dz_engine.specs.Worked.{worked_tree}
use Rattle.dz_sample.specs.Ranking.{sample_ranking}
use Rattle.dz_sample.specs.Summary.{summary_text}
use Rattle.dz_sample.specs.System.{sampled_system}
use Rattle.dz_sample.specs.declared.summary.Summary.{Summary}
use Rattle.dz_run.specs.Answer.{Answer, printed}
use Rattle.dz_run.specs.Decomposed.{lines_ending, tree_chains}

-- the budget with which it is decomposed
abbrev pub sample_budget : ℕ
sample_budget = 1000000

-- its worked tree
abbrev pub sample_tree : ℕ → ℕ → Tree
sample_tree seed size = worked_tree (setting_of sample_ranking) sample_budget (sampled_system seed size)

abbrev pub is_accepted : Verdict → Bool
is_accepted accepted = true
is_accepted verdict = false

-- how many equations some states have together
abbrev pub member_count : List State → ℕ
member_count states = sum_by (λ s. length s.equations) states

-- what is told of a system and its tree
abbrev pub summary_of : RankingValue → ℕ → ℕ → System → Tree → Summary
summary_of r seed size system tree = record {
  seed = seed;
  size = size;
  equations = length system.equations;
  chains = length (tree_chains r system tree);
  members = member_count (tree_chains r system tree);
  is_complete = is_accepted (verdict_of (setting_of r) system tree);
}

-- the answer of `sample`
unfoldable pub sampled : ℕ → ℕ → Answer
sampled seed size = printed (summary_text (summary_of sample_ranking seed size (sampled_system seed size) (sample_tree seed size))) (lines_ending (sample_tree seed size).lines)
