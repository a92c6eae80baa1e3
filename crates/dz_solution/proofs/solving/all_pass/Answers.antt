use Rattle.std.proofs.Common.{◌∙◌, refl, sym}
use Rattle.std.proofs.lemmas.Result.{err_from_is_err_and}
use Rattle.dz_diff.specs.Operations.{setting_of}
use Rattle.dz_diff.specs.States.{polynomials}
use Rattle.dz_poly.specs.Books.{polynomial}
use Rattle.dz_solution.proofs.Members.{member_here, member_refused, member_told}
use Rattle.dz_solution.proofs.solving.all_pass.Goals as goal

pub returns-in_err-passes-clause-refused : goal.returns-in_err-passes-clause-refused
returns-in_err-passes-clause-refused c =
    let y = err_from_is_err_and c.from_residual.result c.from_residual.ensures.1 in
    let book = c.args.book.now in
    let here = member_here book c.args.members.now c.loop-k.k c.index-members-k.result c.loop-k-test.true c.index-members-k.is in
    rw (y.1, y.2)
    (member_refused (setting_of book.ranking) (polynomials book c.args.functions.now) c.args.equations (polynomials book c.args.members.now) c.loop-k.k (polynomial book c.index-members-k.result) here _ _ c.loop-k.invariant c.in_err-passes.ensures.refused)

pub returns-then-not-branch-clause-ok : goal.returns-then-not-branch-clause-ok
returns-then-not-branch-clause-ok c =
    let book = c.args.book.now in
    let here = member_here book c.args.members.now c.loop-k.k c.index-members-k.result c.loop-k-test.true c.index-members-k.is in
    sym c.loop-k.invariant
    ∙ member_told (setting_of book.ranking) (polynomials book c.args.functions.now) c.args.equations (polynomials book c.args.members.now) c.loop-k.k (polynomial book c.index-members-k.result) here c.in_ok-passes.field-0 c.in_ok-passes.ensures.ok
    ∙ rw c.if-not-branch.true refl

pub loop-k-preserved : goal.loop-k-preserved
loop-k-preserved c =
    let book = c.args.book.now in
    let here = member_here book c.args.members.now c.loop-k.k c.index-members-k.result c.loop-k-test.true c.index-members-k.is in
    sym (member_told (setting_of book.ranking) (polynomials book c.args.functions.now) c.args.equations (polynomials book c.args.members.now) c.loop-k.k (polynomial book c.index-members-k.result) here c.in_ok-passes.field-0 c.in_ok-passes.ensures.ok
    ∙ rw c.if-not-branch.false refl)
    ∙ c.loop-k.invariant
