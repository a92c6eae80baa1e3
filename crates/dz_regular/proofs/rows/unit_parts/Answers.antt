use Rattle.std.specs.Prelude.{set}
use Rattle.std.proofs.Common.{◌∙◌, ap₂}
use Rattle.std.proofs.lemmas.List.{map-set}
use Rattle.std.proofs.lemmas.List.Elements.{All-set}
use Rattle.dz_terms.specs.Entries.{EntryValue, IsEntry}
use Rattle.dz_regular.proofs.rows.unit_parts.Goals as goal

pub returns-clause-parts : goal.returns-clause-parts
returns-clause-parts c = map-set (λ (e : EntryValue). e.terms) c.in_ok-all.all.items c.args.i c.in_ok-unit.unit ∙ ap₂ (λ l p. set l c.args.i p) c.in_ok-all.ensures.zeros c.in_ok-unit.ensures.terms

pub returns-clause-entries : goal.returns-clause-entries
returns-clause-entries c = λ r. All-set (IsEntry r) c.in_ok-all.all.items c.args.i c.in_ok-unit.unit (c.in_ok-unit.ensures.entry r) (c.in_ok-all.ensures.entries r)
