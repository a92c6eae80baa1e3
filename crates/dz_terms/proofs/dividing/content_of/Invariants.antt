use Rattle.std.proofs.Common.{◌≡◌, ◌-◌, drop, length}
use Rattle.dz_algebra.specs.Norm.{content}
use Rattle.dz_terms.proofs.dividing.content_of.Given as goal

abbrev pub invariant-loop-i : goal.invariant-loop-i
invariant-loop-i l = l.all ≡ content (drop (length l.terms - l.i) l.terms)
