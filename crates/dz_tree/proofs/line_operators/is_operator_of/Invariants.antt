use Rattle.std.proofs.Common.{◌≡◌, ◌↔◌, All, drop}
use Rattle.dz_tree.proofs.line_operators.is_operator_of.Given as goal

abbrev pub invariant-directions : goal.invariant-directions
invariant-directions l = All (λ n. n ≡ 0) (drop l.k l.operator.counts) ↔ All (λ n. n ≡ 0) (drop l.independents l.operator.counts)
