use Rattle.std.proofs.Common.{◌≡◌, drop}
use Rattle.std.specs.Prelude.{◌==◌}
use Rattle.std.specs.List.{list_all}
use Rattle.dz_parametric.proofs.dividing.is_identity_from.Given as goal

abbrev pub invariant-loop-j : goal.invariant-loop-j
invariant-loop-j l = list_all (λ k. k == 0) (drop l.j l.operator.counts) ≡ list_all (λ k. k == 0) (drop l.fn.i l.fn.operator.counts)
