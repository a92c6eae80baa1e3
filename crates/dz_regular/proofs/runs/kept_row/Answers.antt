use Rattle.std.proofs.Common.{◌∙◌, refl}
use Rattle.dz_regular.proofs.KeptRows.{cofactor_lives, components_are, parts_entries, rest_lives}
use Rattle.dz_regular.proofs.runs.kept_row.Goals as goal

pub kept_polys-requires : goal.kept_polys-requires
kept_polys-requires c = parts_entries c.args.book.now.ranking c.keep_copy-2.new.book.ranking c.args.entries.now c.requires.entries (c.in_ok-cofactor.ensures.kept.ranking ∙ c.in_ok-rest.ensures.kept.ranking)

pub returns-clause-live : goal.returns-clause-live
returns-clause-live c =
    let first = c.keep_copy.new.book in
    let second = c.keep_copy-2.new.book in
    let third = c.kept_polys.new.book in
    record {
      rest = rest_lives first second third c.in_ok-cofactor.ensures.kept c.in_ok-parts.ensures.kept c.in_ok-rest.rest c.in_ok-cofactor.cofactor c.index-entries-0.result.terms c.index-entries-1.result.terms c.in_ok-rest.ensures.means c.in_ok-cofactor.ensures.means;
      cofactor = cofactor_lives first second third c.in_ok-cofactor.ensures.kept c.in_ok-parts.ensures.kept c.in_ok-rest.rest c.in_ok-cofactor.cofactor c.index-entries-0.result.terms c.index-entries-1.result.terms c.in_ok-rest.ensures.means c.in_ok-cofactor.ensures.means;
      parts = c.in_ok-parts.ensures.means.live;
    }

pub returns-clause-means : goal.returns-clause-means
returns-clause-means c =
    let first = c.keep_copy.new.book in
    let second = c.keep_copy-2.new.book in
    let third = c.kept_polys.new.book in
    components_are first second third c.in_ok-cofactor.ensures.kept c.in_ok-parts.ensures.kept c.in_ok-rest.rest c.in_ok-cofactor.cofactor c.index-entries-0.result.terms c.index-entries-1.result.terms c.in_ok-rest.ensures.means c.in_ok-cofactor.ensures.means
    c.args.entries.now c.index-entries-0.result c.index-entries-1.result c.in_ok-parts.parts.items c.requires.width c.index-entries-0.is c.index-entries-1.is refl refl c.in_ok-parts.ensures.means
