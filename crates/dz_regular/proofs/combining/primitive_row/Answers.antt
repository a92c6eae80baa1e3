use Rattle.std.proofs.Common.{◌∙◌, ap, sym}
use Rattle.dz_regular.specs.Combining.{row_divisor}
use Rattle.dz_regular.specs.Working.{polynomials_of}
use Rattle.dz_regular.proofs.RowPasses.{divisor_divides}
use Rattle.dz_regular.proofs.combining.primitive_row.Goals as goal

pub divided_all-requires-clause-divides : goal.divided_all-requires-clause-divides
divided_all-requires-clause-divides c =
    divisor_divides c.deref-2.result.now c.row_divisor-k.result (c.row_divisor-k.ensures ∙ ap (λ es. row_divisor (polynomials_of es)) (c.deref.ensures.value ∙ sym c.deref-2.ensures.value))

pub returns-clause-entries : goal.returns-clause-entries
returns-clause-entries c = rw c.deref-2.ensures.value at c.divided_all.ensures.entries
