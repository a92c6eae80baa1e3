use Rattle.std.proofs.Common.{◌≡◌, ◌∙◌, ap, ap₂, arith, ◌*ℤ◌, ℤ}
use Rattle.std.specs.Int.{int_pow, w128}
use Rattle.std.proofs.lemmas.Int.{fits_signed_mul}
use Rattle.dz_sample.specs.Sample.{operator}
use Rattle.dz_sample.proofs.Powers.{kept, product_is}
use Rattle.dz_sample.proofs.equations.derived_equation.Goals as goal

pub overflow_mul-first : goal.overflow_mul-first
overflow_mul-first c =
    let one = c.small_power-first.ensures.bound in
    let two = c.small_power-second.ensures.bound in
    rw (kept c.small_power-first.result one, kept c.small_power-second.result two)
    (fits_signed_mul w128 c.small_power-first.result c.small_power-second.result 43046721 43046721 one two (omega arith))

pub returns : goal.returns
returns c =
    let one = c.small_power-first.ensures.bound in
    let two = c.small_power-second.ensures.bound in
    let first : c.small_power-first.result ≡ int_pow c.args.rates.first c.args.p =
    c.small_power-first.ensures.power ∙ ap₂ int_pow (kept c.args.rates.first (omega (arith, c.requires.small.0))) c.from.ensures in
    let second : c.small_power-second.result ≡ int_pow c.args.rates.second c.args.q =
    c.small_power-second.ensures.power ∙ ap₂ int_pow (kept c.args.rates.second (omega (arith, c.requires.small.1))) c.from-2.ensures in
    c.equation.ensures
    ∙ ap (λ (z : ℤ). record { dependent = c.args.dependent; operator = operator c.args.p c.args.q; coefficient = z })
    (product_is c.small_power-first.result c.small_power-second.result one two ∙ ap₂ (λ (x y : ℤ). x *ℤ y) first second)
