-- The verdicts of the program, as those of the definitions.
use Rattle.std.specs.Prelude.{Bool, true, false}
use Rattle.dz_check.specs.declared.verdict.Verdict.{Verdict as ProgramVerdict}
use Rattle.dz_check.specs.declared.verdict.Verdict.TheVariants as verdicts
use Rattle.dz_check.specs.Walk.{Verdict, accepted, partial, rejected}

-- a verdict
abbrev pub verdict_as : ProgramVerdict → Verdict
verdict_as verdicts.Accepted = accepted
verdict_as verdicts.Partial = partial
verdict_as (verdicts.Rejected place r) = rejected place r

-- it is that the tree is not certified
abbrev pub is_rejected : ProgramVerdict → Bool
is_rejected verdicts.Accepted = false
is_rejected verdicts.Partial = false
is_rejected (verdicts.Rejected place r) = true
