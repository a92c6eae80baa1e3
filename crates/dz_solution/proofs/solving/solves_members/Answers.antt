use Rattle.std.proofs.Common.{◌∙◌, false, ap}
use Rattle.dz_diff.specs.Operations.{setting_of}
use Rattle.dz_diff.specs.States.{polynomials}
use Rattle.dz_solution.proofs.FunctionsInBook.{functions_are_ground}
use Rattle.dz_solution.proofs.Members.{equations_fail, equations_pass, solution_means, told}
use Rattle.dz_solution.proofs.solving.solves_members.Goals as goal

pub returns-then-not-branch-clause-meaning : goal.returns-then-not-branch-clause-meaning
returns-then-not-branch-clause-meaning c =
    let book = c.args.book.now in
    let fs = polynomials book c.args.functions.now in
    let es = polynomials book c.args.equations.now in
    let hs = polynomials book c.args.inequations.now in
    solution_means book.ranking fs es hs (functions_are_ground book c.opened.ensures c.args.functions.now c.requires.functions).canonical false
    (equations_fail (setting_of book.ranking) fs es hs (c.in_ok-all_pass.ensures.ok ∙ ap told c.if-not-branch.true))

pub returns-clause-meaning : goal.returns-clause-meaning
returns-clause-meaning c =
    let book = c.args.book.now in
    let fs = polynomials book c.args.functions.now in
    let es = polynomials book c.args.equations.now in
    let hs = polynomials book c.args.inequations.now in
    solution_means book.ranking fs es hs (functions_are_ground book c.opened.ensures c.args.functions.now c.requires.functions).canonical c.in_ok-solved.solved
    (equations_pass (setting_of book.ranking) fs es hs (c.in_ok-all_pass.ensures.ok ∙ ap told c.if-not-branch.false) ∙ c.in_ok-solved.ensures.ok)
