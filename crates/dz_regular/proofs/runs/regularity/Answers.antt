use Rattle.std.proofs.Common.{◌<◌, ◌-◌, length, arith}
use Rattle.dz_poly.specs.Books.{polynomial}
use Rattle.dz_regular.proofs.AnswerRows.{answer_no_leader, answer_row}
use Rattle.dz_regular.proofs.RunSymbols.{answer_belongs, answer_stops}
use Rattle.dz_regular.proofs.runs.regularity.Goals as goal

pub returns-in-Ok-clause-row : goal.returns-in-Ok-clause-row
returns-in-Ok-clause-row c =
    let s = c.args.chain.now in
    let inside : c.args.j - 1 < length s.inequations = omega (arith, c.requires.place, c.requires.inside) in
    answer_row c.args.book.now c.answered.new.book c.opened.ensures s.equations s.inequations c.equations.result.now c.inequations.result.now c.requires.stands.equations_live c.requires.stands.inequations_live c.equations.ensures.items c.inequations.ensures.items
    (c.args.j - 1) c.args.budget c.index-inequations-j.result inside c.index-inequations-j.is c.in-Ok.answer c.in-Ok.ensures.ended

pub returns-in-Ok-clause-no_leader : goal.returns-in-Ok-clause-no_leader
returns-in-Ok-clause-no_leader c =
    let s = c.args.chain.now in
    let inside : c.args.j - 1 < length s.inequations = omega (arith, c.requires.place, c.requires.inside) in
    answer_no_leader c.args.book.now c.answered.new.book c.opened.ensures s.equations s.inequations c.equations.result.now c.inequations.result.now c.requires.stands.equations_live c.requires.stands.inequations_live c.equations.ensures.items c.inequations.ensures.items
    (c.args.j - 1) c.args.budget c.index-inequations-j.result inside c.index-inequations-j.is c.in-Ok.answer c.in-Ok.ensures.ended

pub returns-in-Ok-clause-symbols : goal.returns-in-Ok-clause-symbols
returns-in-Ok-clause-symbols c =
    answer_belongs c.args.book.now c.answered.new.book c.opened.ensures c.args.chain.now.equations c.requires.stands.equations_live c.args.budget (polynomial c.args.book.now c.index-inequations-j.result) c.in-Ok.answer (rw c.equations.ensures.items at c.in-Ok.ensures.ended)

pub returns-in-Ok-clause-stop_symbols : goal.returns-in-Ok-clause-stop_symbols
returns-in-Ok-clause-stop_symbols c =
    answer_stops c.args.book.now c.answered.new.book c.opened.ensures c.args.chain.now.equations c.requires.stands.equations_live c.args.budget (polynomial c.args.book.now c.index-inequations-j.result) c.in-Ok.answer (rw c.equations.ensures.items at c.in-Ok.ensures.stopped)
