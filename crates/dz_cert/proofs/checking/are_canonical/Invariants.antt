use Rattle.std.proofs.Common.{◌≡◌, drop, map}
use Rattle.dz_cert.specs.Verdicts.{are_same}
use Rattle.dz_diff.specs.States.{polynomials}
use Rattle.dz_form.specs.Texts.{polynomial_text}
use Rattle.dz_cert.proofs.checking.are_canonical.Given as goal

-- the texts that are left are those of the polynomials that are left, exactly where all texts are
abbrev pub invariant-texts : goal.invariant-texts
invariant-texts l =
    are_same (drop l.k l.texts) (map (λ p. polynomial_text l.names p) (polynomials l.book (drop l.k l.polys)))
    ≡ are_same l.texts (map (λ p. polynomial_text l.names p) (polynomials l.book l.polys))
