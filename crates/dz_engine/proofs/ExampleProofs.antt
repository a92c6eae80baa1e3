-- The worked examples, by computation.
use Rattle.std.proofs.Common.{refl}
use Rattle.dz_algebra.specs.Norm.{norm, gcd}
use Rattle.dz_algebra.specs.Polynomial.{polynomial_one}
use Rattle.dz_algebra.specs.Size.{support, fits, refusal, operation}
use Rattle.dz_rank.specs.Rankings.{ranking_cmp}
use Rattle.dz_monomials.specs.Ranked.{symbol_rate}
use Rattle.dz_move.specs.Root.{root_of}
use Rattle.dz_step.specs.FullRun.{full_run}
use Rattle.dz_move.specs.Moves.{reduced, weeded, grown, divided_at, split_at, factored}
use Rattle.dz_tree.specs.Chain.{chain_rule, evidence_weight}
use Rattle.dz_check.specs.Reasons.{reason_holds}
use Rattle.dz_check.specs.Walk.{entered, ends_of}
use Rattle.dz_engine.specs.Order.{next_entry}
use Rattle.dz_engine.specs.Examples.{RunExamples, ConicExamples, MoveExamples, PlaceExamples, PairExamples, ModelExamples, MixedExamples}

-- steps and runs
pub run_examples : RunExamples
unfolding norm gcd support fits refusal operation ranking_cmp symbol_rate full_run
run_examples = record { to_zero = refl; not_permitted = refl; cut = refl; least_place = refl }

-- the system u[x]^2 - 4*u
pub conic_examples : ConicExamples
unfolding norm gcd support fits refusal operation ranking_cmp symbol_rate root_of full_run reduced weeded grown divided_at split_at factored chain_rule evidence_weight reason_holds entered ends_of next_entry
conic_examples = record {
  worked = refl;
  chains = refl;
  weight = refl;
  too_heavy = refl;
  wrong_operator = refl;
  no_chain = refl;
  no_budget = refl;
  spent_one = refl;
  spent_two = refl;
}

-- the other moves and forks
pub move_examples : MoveExamples
unfolding norm gcd support fits refusal operation ranking_cmp symbol_rate root_of full_run reduced weeded grown divided_at split_at factored chain_rule evidence_weight reason_holds entered ends_of next_entry
move_examples = record { divided = refl; weeded = refl; factored = refl; factors = refl; too_wide = refl; is_partial = refl }

-- places and roots
pub place_examples : PlaceExamples
unfolding norm gcd support fits refusal operation ranking_cmp symbol_rate root_of reduced weeded grown divided_at split_at factored chain_rule evidence_weight reason_holds entered ends_of
place_examples = record { root = refl; removed = refl; left = refl }

-- critical pairs
pub pair_examples : PairExamples
unfolding norm gcd polynomial_one support fits refusal operation ranking_cmp symbol_rate root_of full_run reduced weeded grown divided_at split_at factored chain_rule evidence_weight reason_holds entered ends_of next_entry
pair_examples = record {
  crossed_delta = refl;
  curved_delta = refl;
  crossed_worked = refl;
  crossed_exact = refl;
  crossed_less = refl;
  agreeing_worked = refl;
  agreeing_spent = refl;
  without_pair = refl;
  places = refl;
  too_high = refl;
}

-- the model
pub model_examples : ModelExamples
unfolding norm gcd support fits refusal operation ranking_cmp symbol_rate root_of full_run reduced weeded grown divided_at split_at factored chain_rule evidence_weight reason_holds entered ends_of next_entry
model_examples = record { worked = refl; weight = refl; too_heavy = refl; worked_less = refl }

-- two dependents over two independents
pub mixed_examples : MixedExamples
unfolding norm gcd support fits refusal operation ranking_cmp symbol_rate root_of full_run reduced weeded grown divided_at split_at factored chain_rule evidence_weight reason_holds entered ends_of next_entry
mixed_examples = record { begins = refl }
