-- How reports end.
use Rattle.std.specs.Prelude.{Bool, true, false}
use Rattle.dz_parametric.specs.declared.reporting.ParametricEnd.{ParametricEnd}
use Rattle.dz_parametric.specs.declared.reporting.ParametricEnd.TheVariants.{Done, Large}

-- it stops at too many cones
abbrev pub is_large : ParametricEnd → Bool
is_large Large = true
is_large Done = false
