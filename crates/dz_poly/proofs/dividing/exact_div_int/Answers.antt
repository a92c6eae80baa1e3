use Rattle.std.proofs.Common.{◌∙◌, sym, subst}
use Rattle.dz_monomials.specs.Divisions.{DividesAll}
use Rattle.dz_poly.proofs.dividing.exact_div_int.Goals as goal

pub quotient_by-requires-clause-divides : goal.quotient_by-requires-clause-divides
quotient_by-requires-clause-divides c =
    subst (DividesAll c.args.k) (sym (c.in_ok-copy.ensures.terms ∙ c.entry.ensures.value)) c.requires.divides
