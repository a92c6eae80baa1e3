use Rattle.std.proofs.Common.{◌≡◌, ◌++◌, take, drop}
use Rattle.dz_algebra.specs.Polynomial.{negated}
use Rattle.dz_terms.proofs.negatives.negate.Given as goal

-- the signs so far are changed
abbrev pub invariant-loop-term : goal.invariant-loop-term
invariant-loop-term l = l.term-items ≡ negated (take l.term-index l.initial.term-items) ++ drop l.term-index l.initial.term-items
