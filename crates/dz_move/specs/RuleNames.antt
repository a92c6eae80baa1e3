-- The names of rules.
use Rattle.std.specs.Prelude.{ℕ, List, codes}
use Rattle.dz_move.specs.declared.Rule.{Rule}
use Rattle.dz_move.specs.declared.Rule.TheVariants as rules

-- the name of a rule
abbrev pub rule_name : Rule → List ℕ
rule_name rules.Place = codes "place"
rule_name rules.Step = codes "step"
rule_name rules.Large = codes "large"
rule_name rules.Wide = codes "wide"
rule_name rules.Same = codes "same"
rule_name rules.Weight = codes "weight"
rule_name rules.Pair = codes "pair"
rule_name rules.End = codes "end"
rule_name rules.Symbol = codes "symbol"
rule_name rules.Fork = codes "fork"
rule_name rules.Closed = codes "closed"
rule_name rules.Leader = codes "leader"
rule_name rules.Autoreduced = codes "autoreduced"
rule_name rules.Multiplier = codes "multiplier"
rule_name rules.Inequation = codes "inequation"
rule_name rules.Pairs = codes "pairs"
rule_name rules.Coherence = codes "coherence"
rule_name rules.Reason = codes "reason"
