use Rattle.std.specs.Prelude.{IsSome}
use Rattle.std.proofs.Common.{◌≡◌, ◌-◌, suc, slice_set, subst, arith, None}
use Rattle.dz_diff.specs.State.{at_place}
use Rattle.dz_diff.specs.States.{state_in}
use Rattle.dz_step.specs.Divisors.{AreDivisors}
use Rattle.dz_step.specs.declared.Role.TheVariants.{Equation, Free}
use Rattle.dz_step.proofs.DivisorTables.{divisors_length}
use Rattle.dz_step.proofs.OwnDivisors.{own_left_out}
use Rattle.dz_engine.specs.Naming.{members_of}
use Rattle.dz_engine.proofs.RenewedFacts.{place_counts}
use Rattle.dz_engine.proofs.courses.run_on.Goals as goal

pub overflow_sub-place : goal.overflow_sub-place
overflow_sub-place c =
    let s = state_in c.args.book.now c.args.state.now in
    let h = place_counts c.args.place s.equations (subst (λ m. IsSome (at_place c.args.place (members_of m s))) c.in-Equations.is c.requires.there) in
    h.0

pub index_mut-requires : goal.index_mut-requires
index_mut-requires c =
    let s = state_in c.args.book.now c.args.state.now in
    let h = place_counts c.args.place s.equations (subst (λ m. IsSome (at_place c.args.place (members_of m s))) c.in-Equations.is c.requires.there) in
    let l = divisors_length c.args.book.now.ranking s Free c.args.table.now.items c.requires.table in
    omega (arith, l, h.0, h.1, c.args.table.now.ok)

pub run_with-requires-clause-table : goal.run_with-requires-clause-table
run_with-requires-clause-table c =
    let r = c.args.book.now.ranking in
    let s = state_in c.args.book.now c.args.state.now in
    let h = place_counts c.args.place s.equations (subst (λ m. IsSome (at_place c.args.place (members_of m s))) c.in-Equations.is c.requires.there) in
    subst (λ n. AreDivisors r s (Equation n) (slice_set c.args.table.now.items (c.args.place - 1) None)) (let p : suc (c.args.place - 1) ≡ c.args.place = omega (arith, h.0) in p) (own_left_out r s (c.args.place - 1) c.args.table.now.items c.requires.table)
