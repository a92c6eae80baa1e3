use Rattle.std.proofs.Common.{◌≡◌, ◌++◌, take, drop, pos}
use Rattle.dz_algebra.specs.Norm.{divided}
use Rattle.dz_monomials.specs.Signs.{signed}
use Rattle.dz_terms.proofs.dividing.divide.Given as goal

abbrev pub invariant-loop-term : goal.invariant-loop-term
invariant-loop-term l = l.term-items ≡ divided (signed l.sign (pos l.size)) (take l.term-index l.initial.term-items) ++ drop l.term-index l.initial.term-items
