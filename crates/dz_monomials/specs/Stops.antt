-- What a call answers where an operation is refused.
use Rattle.std.specs.Prelude.{◌≡◌, ◌⊎◌, Option, Some, None, Result, Ok, Err}
use Rattle.dz_algebra.specs.Size.{Refusal, wide, large}
use Rattle.dz_monomials.specs.declared.PolyStop.{PolyStop}
use Rattle.dz_monomials.specs.declared.PolyStop.TheVariants.{Memory, Wide, Large}

-- why an operation is refused, as the error of a call
abbrev pub refusal_of : {A : Type 0} → Result A Refusal → Option PolyStop
refusal_of (Ok a) = None
refusal_of (Err wide) = Some Wide
refusal_of (Err (large l)) = Some (Large l)

-- a stop is the refusal that the definition answers; want of memory may come instead
abbrev pub IsStop : {A : Type 0} → PolyStop → Result A Refusal → Type 0
IsStop stop answer = (stop ≡ Memory) ⊎ (refusal_of answer ≡ Some stop)
