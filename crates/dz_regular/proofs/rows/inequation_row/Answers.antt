use Rattle.std.proofs.Common.{◌≡◌, length, rules, arith}
use Rattle.std.proofs.lemmas.Grind.{common_steps}
use Rattle.dz_terms.specs.Entries.{IsEntry}
use Rattle.dz_regular.proofs.RowPasses.{row_entries}
use Rattle.dz_regular.proofs.rows.inequation_row.Goals as goal

pub returns-clause-entries : goal.returns-clause-entries
returns-clause-entries c =
    let r = c.args.book.now.ranking in
    let rest : IsEntry r c.in_ok-rest.rest = rw (c.in_ok-rest.ensures.terms, c.in_ok-rest.ensures.degrees) c.entry.ensures.entry in
    let width : length c.in_ok-parts.parts.items ≡ length c.args.equations.now = first_of (search rules, grind (arith, common_steps)) in
    row_entries r (length c.args.equations.now) c.in_ok-row.row c.in_ok-rest.rest c.in_ok-cofactor.cofactor c.in_ok-parts.parts.items c.in_ok-row.ensures.components rest (c.in_ok-cofactor.ensures.entry r) (c.in_ok-parts.ensures.entries r) width
