-- The symbols that faults name.
use Rattle.std.specs.Prelude.{⊤}
use Rattle.dz_rank.specs.declared.rankings.Signature.{Signature}
use Rattle.dz_rank.specs.Symbols.{BelongsTo}
use Rattle.dz_jet.specs.declared.faults.At.TheVariants as ats
use Rattle.dz_jet.specs.declared.faults.JetFault.{JetFault}
use Rattle.dz_jet.specs.declared.faults.JetFault.TheVariants as faults

-- the symbol of a fault, if it names one, belongs to a signature
abbrev pub IsFaultOver : Signature → JetFault → Type 0
IsFaultOver g (faults.Missing s) = BelongsTo g s
IsFaultOver g (faults.NotFree s) = BelongsTo g s
IsFaultOver g (faults.Wide (ats.Derivative s)) = BelongsTo g s
IsFaultOver g (faults.Large s limit) = BelongsTo g s
IsFaultOver g fault = ⊤
