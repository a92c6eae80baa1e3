use Rattle.std.proofs.Common.{◌∙◌, ap, sym, pos, Option, Some, None}
use Rattle.dz_int.specs.Fractions.{Fraction}
use Rattle.dz_jet.specs.Fractions.{whole}
use Rattle.dz_jet.proofs.FoldSteps.{made_whole}
use Rattle.dz_jet.proofs.tables.value_of.Goals as goal

pub returns-in-None : goal.returns-in-None
returns-in-None c =
    made_whole c.new.result (pos 0) c.new.ensures.fraction c.new.ensures.value
    ∙ ap (λ (o : Option Fraction). elim o as (λ _. Fraction) [ None ↦ whole (pos 0) | Some v ↦ v ]) (sym c.in-None.is ∙ c.find_in_table.ensures)
