use Rattle.std.proofs.Common.{All, sym, subst}
use Rattle.std.proofs.lemmas.List.Elements.{All-push}
use Rattle.dz_jet.specs.declared.derivatives.Made.{Made}
use Rattle.dz_jet.specs.Making.{IsMade}
use Rattle.dz_jet.proofs.FixingSteps.{all_made_later, gives_lives, index_inside, made_here, next_fails, next_passes, on_ok_from, operator_in, proper_operator}
use Rattle.dz_jet.proofs.fixing.next_value.Goals as goal

pub derivative-requires-clause-operator : goal.derivative-requires-clause-operator
derivative-requires-clause-operator c = operator_in c.args.book.now c.opened.ensures c.args.equations.now c.requires.live c.args.w c.requires.belongs c.in-Some.fixing c.in-Some.ensures

pub derivative-requires-clause-proper : goal.derivative-requires-clause-proper
derivative-requires-clause-proper c = proper_operator c.args.book.now c.opened.ensures c.args.equations.now c.requires.live c.args.w c.requires.belongs c.in-Some.fixing c.in-Some.ensures

pub solution-requires-clause-lives : goal.solution-requires-clause-lives
solution-requires-clause-lives c = gives_lives c.derivative.new.book c.in-Ok.derivative _ c.in-Ok.ensures.value

pub returns-clause-value : goal.returns-clause-value
returns-clause-value c =
    next_passes c.args.book.now c.opened.ensures c.args.equations.now c.requires.live c.args.w c.requires.belongs c.in-Some.fixing c.in-Some.ensures
    c.derivative.new.book c.in-Ok.ensures.kept c.args.known.now c.args.values.now c.args.separants.now c.requires.separants c.in-Ok.derivative c.in-Ok.ensures.value
    c.index-separants-fixing.result c.index-separants-fixing.is c.solution.result c.solution.ensures

pub returns-clause-fault : goal.returns-clause-fault
returns-clause-fault c =
    next_fails c.args.book.now c.opened.ensures c.args.equations.now c.requires.live c.args.w c.requires.belongs c.in-Some.fixing c.in-Some.ensures
    c.derivative.new.book c.in-Ok.ensures.kept c.args.known.now c.args.values.now c.args.separants.now c.requires.separants c.in-Ok.derivative c.in-Ok.ensures.value
    c.index-separants-fixing.result c.index-separants-fixing.is c.solution.result c.solution.ensures

pub returns-clause-made : goal.returns-clause-made
returns-clause-made c =
    let b = c.args.book.now in
    let new = c.derivative.new.book in
    let es = c.args.equations.now in
    let x = c.in-Some.fixing in
    let one : Made = record { symbol = c.args.w; index = x.index; operator = x.operator; derivative = c.in-Ok.derivative } in
    let inside = index_inside b c.opened.ensures es c.requires.live c.args.w c.requires.belongs x c.in-Some.ensures in
    on_ok_from c.solution.result (All (IsMade new es) c.push.new.self.items)
    (subst (All (IsMade new es)) (sym c.in_ok-push.ensures.items)
    (All-push (IsMade new es) c.args.made.now.items one (all_made_later b new c.in-Ok.ensures.kept es c.requires.live c.args.made.now.items c.requires.made) (made_here b new c.in-Ok.ensures.kept es c.requires.live one inside c.in-Ok.ensures.value)))
