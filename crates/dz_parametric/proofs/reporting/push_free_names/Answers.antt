use Rattle.std.proofs.Common.{rules, ◌≡◌, ◌++◌, length, ap, arith}
use Rattle.std.proofs.lemmas.Grind.{common_steps}
use Rattle.dz_parametric.proofs.Reported.{last_appended, names_end}
use Rattle.dz_parametric.proofs.reporting.push_free_names.Goals as goal

pub returns : goal.returns
returns c =
    let fs = c.args.cone.free in
    let size : length fs ≡ 4 = first_of (search rules, grind (arith, common_steps)) in
    last_appended c.extend_from_slice.result c.extend_from_slice.new.self.items c.loop-i.into.items c.no_names.result.now _ c.extend_from_slice.ensures.items
    (names_end c.args.names.now fs c.loop-i.i c.loop-i.some c.args.into.now.items c.loop-i.into.items (c.loop-i.into.items ++ c.no_names.result.now) (omega (arith, size, c.loop-i-test.false)) c.loop-i.invariant (ap (λ xs. c.loop-i.into.items ++ xs) c.no_names.ensures))
