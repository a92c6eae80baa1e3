-- Readers that go on with what another reader gives.
use Rattle.std.proofs.Common.{◌≡◌, Result, Ok, Err, refl, ◌∙◌}
use Rattle.dz_syntax.specs.declared.fault.Fault.{Fault}
use Rattle.dz_syntax.specs.declared.fault.Stop.{Stop}
use Rattle.dz_syntax.specs.declared.fault.Stop.TheVariants as stops
use Rattle.dz_algebra.specs.Outcome.{◌>>=◌}
use Rattle.dz_syntax.specs.Faults.{Gives}

-- what goes with a value that was read
pub gives_with : {X Y Z : Type 0} (view : X → Y) (f : Y → Z) (r : Result X Stop) (read : Result Y Fault) (total : Result Z Fault)
    → total ≡ (read >>= λ y. Ok (f y)) → Gives view r read → Gives (λ x. f (view x)) r total
gives_with view f (Ok x) read total e given = e ∙ rw given refl
gives_with view f (Err stops.Memory) read total e given = tt
gives_with view f (Err (stops.Fault d)) read total e given = e ∙ rw given refl
