use Rattle.std.proofs.Common.{◌≡◌, ◌≤◌, ◌∙◌, length, take, ap, sym, arith}
use Rattle.dz_engine.specs.Facts.{names_of}
use Rattle.dz_engine.proofs.RenewedFacts.{names_take, take_all, take_within}
use Rattle.dz_engine.proofs.facts.renew.Goals as goal

pub renew_at-requires-clause-known : goal.renew_at-requires-clause-known
renew_at-requires-clause-known c = c.drop_gone.ensures.known c.args.book.now c.places.invariant.known

pub returns-clause-names : goal.returns-clause-names
returns-clause-names c =
    let ps = c.args.state.now.equations in
    let fs = c.places.facts.items in
    let n = length c.equations-polys.result.now in
    let m : n ≡ length ps = ap length c.equations-polys.ensures.items in
    let l : n ≤ c.places.k = omega (arith, c.places-test.false) in
    ap names_of c.truncate.ensures.items ∙ names_take n fs ∙ sym (take_within n c.places.k (names_of fs) l) ∙ ap (take n) c.places.invariant.names ∙ take_within n c.places.k ps l ∙ take_all n ps (omega (arith, m))
