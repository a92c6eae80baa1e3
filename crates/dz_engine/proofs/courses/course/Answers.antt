use Rattle.dz_engine.proofs.courses.course.Goals as goal

pub returns-in_ok-halt-in-Err-clause-entry : goal.returns-in_ok-halt-in-Err-clause-entry
returns-in_ok-halt-in-Err-clause-entry c = c.halted_course.ensures.entry c.args.book.now.ranking
