use Rattle.std.proofs.Common.{◌≡◌, drop}
use Rattle.std.specs.List.{list_any}
use Rattle.dz_monomials.specs.Ranked.{symbols_under}
use Rattle.dz_diff.specs.Operators.{quotient}
use Rattle.dz_step.specs.Multiples.{has_proper_derivative, is_proper_one}
use Rattle.dz_step.proofs.Searches.{derivatives_in}
use Rattle.dz_step.proofs.multiples.has_proper_derivative.Given as goal

abbrev pub invariant-powers : goal.invariant-powers
invariant-powers l =
    list_any (λ v. is_proper_one (quotient v l.lead)) (derivatives_in (drop l.k l.table)) ≡ has_proper_derivative (symbols_under l.ranking) l.lead l.f.terms
