use Rattle.std.proofs.Common.{◌≤◌, ◌+◌, ◌*◌, unsigned_abs, rules}
use Rattle.dz_int.specs.Numbers.{greatest}
use Rattle.dz_int.proofs.Signs.{sum_fits, sum_read}
use Rattle.dz_int.proofs.fractions.sum_in_range.Goals as goal

pub overflow_add-result : goal.overflow_add-result
overflow_add-result c =
    let a = c.args in
    let bound : unsigned_abs a.a * a.x + unsigned_abs a.b * a.y ≤ greatest = search rules in
    sum_fits a.a a.b a.x a.y c.ranges.a c.ranges.b c.requires.first c.requires.second bound

pub returns-then-add_product-2 : goal.returns-then-add_product-2
returns-then-add_product-2 c =
    let a = c.args in
    let bound : unsigned_abs a.a * a.x + unsigned_abs a.b * a.y ≤ greatest = search rules in
    (sum_read a.a a.b a.x a.y c.ranges.a c.ranges.b c.requires.first c.requires.second bound, bound)
