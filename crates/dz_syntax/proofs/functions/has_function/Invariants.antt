use Rattle.std.proofs.Common.{◌≡◌, ◌==◌, drop, map}
use Rattle.std.specs.List.{list_any}
use Rattle.dz_syntax.proofs.functions.has_function.Given as goal

abbrev pub invariant-loop-k : goal.invariant-loop-k
invariant-loop-k l = list_any (λ u. l.dependent == u) (map (λ f. f.0) (drop l.k l.functions)) ≡ list_any (λ u. l.fn.dependent == u) (map (λ f. f.0) l.fn.functions)
