use Rattle.std.specs.Prelude.{is_some}
use Rattle.std.proofs.Common.{◌≡◌, ◌<◌, ◌+◌, ◌∙◌, suc, length, slice_index_or, slice_set, [], sym, ap, subst, arith, None}
use Rattle.dz_poly.specs.Books.{Lives, polynomial}
use Rattle.dz_diff.specs.Operations.{setting_of}
use Rattle.dz_diff.specs.States.{polynomials, state_in}
use Rattle.dz_step.specs.Divisors.{AreDivisors}
use Rattle.dz_step.specs.declared.Role.TheVariants.{Equation, Free}
use Rattle.dz_step.specs.FullRun.{next_step}
use Rattle.dz_step.proofs.DivisorTables.{divisors_length, lives_here, polynomial_here, polynomials_length}
use Rattle.dz_step.proofs.OwnDivisors.{own_kept, own_left_out, own_put_back}
use Rattle.dz_engine.proofs.admitting.is_reducible.Goals as goal

pub offset_bounds-equations-k : goal.offset_bounds-equations-k
offset_bounds-equations-k c =
    let l = divisors_length c.args.book.now.ranking (state_in c.args.book.now c.args.state.now) Free c.args.table.now.items c.requires.table in
    let n = polynomials_length c.args.book.now c.args.state.now.equations in
    let m : length c.equations.result.now ≡ length c.args.state.now.equations = ap length c.equations.ensures.items in
    omega (arith, l, n, m, c.requires.inside, c.equations.ensures.few)

pub bounds-equations-k : goal.bounds-equations-k
bounds-equations-k c =
    let l = divisors_length c.args.book.now.ranking (state_in c.args.book.now c.args.state.now) Free c.args.table.now.items c.requires.table in
    let n = polynomials_length c.args.book.now c.args.state.now.equations in
    let m : length c.equations.result.now ≡ length c.args.state.now.equations = ap length c.equations.ensures.items in
    omega (arith, l, n, m, c.requires.inside)

pub entry-entry-requires : goal.entry-entry-requires
entry-entry-requires c =
    let l = divisors_length c.args.book.now.ranking (state_in c.args.book.now c.args.state.now) Free c.args.table.now.items c.requires.table in
    let n = polynomials_length c.args.book.now c.args.state.now.equations in
    let inside : c.args.k < length c.args.state.now.equations = omega (arith, l, n, c.requires.inside) in
    let there : c.index-equations-k.result ≡ slice_index_or c.args.state.now.equations c.args.k c.index-equations-k.result = c.index-equations-k.is ∙ ap (λ ps. slice_index_or ps c.args.k c.index-equations-k.result) c.equations.ensures.items in
    subst (Lives c.args.book.now) (sym there) (lives_here c.args.book.now c.args.state.now.equations c.args.k c.index-equations-k.result inside c.requires.stands.equations_live)

pub overflow_cast-k : goal.overflow_cast-k
overflow_cast-k c =
    let l = divisors_length c.args.book.now.ranking (state_in c.args.book.now c.args.state.now) Free c.args.table.now.items c.requires.table in
    let n = polynomials_length c.args.book.now c.args.state.now.equations in
    let m : length c.equations.result.now ≡ length c.args.state.now.equations = ap length c.equations.ensures.items in
    omega (arith, l, n, m, c.requires.inside, c.equations.ensures.few)

pub next_step_entry-next-requires-clause-table : goal.next_step_entry-next-requires-clause-table
next_step_entry-next-requires-clause-table c =
    let r = c.args.book.now.ranking in
    let s = state_in c.args.book.now c.args.state.now in
    subst (λ n. AreDivisors r s (Equation n) (slice_set c.args.table.now.items c.args.k None)) (let p : suc c.args.k ≡ c.args.k + 1 = omega arith in p) (own_left_out r s c.args.k c.args.table.now.items c.requires.table)

pub index_mut-requires-2 : goal.index_mut-requires-2
index_mut-requires-2 c =
    let r = c.args.book.now.ranking in
    let s = state_in c.args.book.now c.args.state.now in
    let l = divisors_length r s Free c.args.table.now.items c.requires.table in
    let m = divisors_length r s (Equation (c.args.k + 1)) c.next_step_entry-next.new.table.items c.next_step_entry-next.ensures.table in
    omega (arith, l, m, c.requires.inside, c.next_step_entry-next.new.table.ok)

pub returns-in_err-next-clause-table : goal.returns-in_err-next-clause-table
returns-in_err-next-clause-table c =
    let r = c.args.book.now.ranking in
    let s = state_in c.args.book.now c.args.state.now in
    let own = own_kept r s c.args.k c.args.table.now.items c.index-own.result.now c.requires.inside c.index-own.ensures c.requires.table in
    own_put_back r s c.args.k c.next_step_entry-next.new.table.items c.index-own.result.now own
    (subst (λ n. AreDivisors r s (Equation n) c.next_step_entry-next.new.table.items) (let p : c.args.k + 1 ≡ suc c.args.k = omega arith in p) c.next_step_entry-next.ensures.table)

pub returns-clause-table : goal.returns-clause-table
returns-clause-table c =
    let r = c.args.book.now.ranking in
    let s = state_in c.args.book.now c.args.state.now in
    let own = own_kept r s c.args.k c.args.table.now.items c.index-own.result.now c.requires.inside c.index-own.ensures c.requires.table in
    own_put_back r s c.args.k c.next_step_entry-next.new.table.items c.index-own.result.now own
    (subst (λ n. AreDivisors r s (Equation n) c.next_step_entry-next.new.table.items) (let p : c.args.k + 1 ≡ suc c.args.k = omega arith in p) c.next_step_entry-next.ensures.table)

pub returns-clause-answer : goal.returns-clause-answer
returns-clause-answer c =
    let book = c.args.book.now in
    let g = setting_of book.ranking in
    let s = state_in book c.args.state.now in
    let ps = c.args.state.now.equations in
    let l = divisors_length book.ranking s Free c.args.table.now.items c.requires.table in
    let n = polynomials_length book ps in
    let inside : c.args.k < length ps = omega (arith, l, n, c.requires.inside) in
    let there : c.index-equations-k.result ≡ slice_index_or ps c.args.k c.index-equations-k.result = c.index-equations-k.is ∙ ap (λ ps. slice_index_or ps c.args.k c.index-equations-k.result) c.equations.ensures.items in
    let here : c.entry-entry.result.now.terms ≡ slice_index_or (polynomials book ps) c.args.k [] = c.entry-entry.ensures.value ∙ ap (polynomial book) there ∙ sym (polynomial_here book ps c.args.k c.index-equations-k.result inside) in
    c.is_some.ensures ∙ ap is_some (c.in_ok-next.ensures.step ∙ ap (next_step g s (Equation (c.args.k + 1))) here)
