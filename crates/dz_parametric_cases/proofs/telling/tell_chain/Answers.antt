use Rattle.std.proofs.Common.{◌<◌, ◌-◌, length, sym, subst, arith}
use Rattle.dz_diff.specs.States.{StandsIn}
use Rattle.dz_parametric_cases.proofs.telling.tell_chain.Goals as goal

pub write_parametric_report-requires-clause-stands : goal.write_parametric_report-requires-clause-stands
write_parametric_report-requires-clause-stands c =
    let inside : c.args.number - 1 < length c.args.chains.now = omega (arith, c.if-place-eq0.false, c.if-chains-place.false) in
    subst (StandsIn c.args.book.now) (sym c.index-chains-place.is) (c.requires.chains (c.args.number - 1) c.index-chains-place.result inside)
