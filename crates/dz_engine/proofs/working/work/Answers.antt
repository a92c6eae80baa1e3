use Rattle.std.proofs.Common.{subst, sym}
use Rattle.dz_diff.specs.Operations.{setting_of}
use Rattle.dz_diff.specs.States.{state_in}
use Rattle.dz_move.specs.Lines.{Entry}
use Rattle.dz_move.proofs.MemberLists.{if_ok}
use Rattle.dz_engine.specs.Naming.{IsDone, IsNamed}
use Rattle.dz_engine.specs.Order.{next_entry}
use Rattle.dz_engine.proofs.KnownFacts.{known_by, on_ok}
use Rattle.dz_engine.proofs.NamedLines.{matched}
use Rattle.dz_engine.proofs.working.work.Goals as goal

pub returns-in-Perform-clause-done : goal.returns-in-Perform-clause-done
returns-in-Perform-clause-done c =
    let new = c.perform_next-answer.new.book in
    let g = setting_of c.args.book.now.ranking in
    let s = state_in c.args.book.now c.args.state.now in
    let named = subst (λ x. IsNamed g c.args.budget c.args.weight s x (next_entry g c.args.budget c.args.weight s)) c.in-Perform.is c.in_ok-named.ensures.named in
    if_ok _ _ c.told.result (λ x f. subst (λ (e : Entry). IsDone new g s x e) (sym named.0) (f new g s (matched c.perform_next-answer.result _ _ c.perform_next-answer.ensures.states c.perform_next-answer.ensures.fault))) c.told.ensures

pub returns-in-Known-clause-done : goal.returns-in-Known-clause-done
returns-in-Known-clause-done c =
    let new = c.perform_to-answer.new.book in
    let g = setting_of c.args.book.now.ranking in
    let s = state_in c.args.book.now c.args.state.now in
    let named = subst (λ x. IsNamed g c.args.budget c.args.weight s x (next_entry g c.args.budget c.args.weight s)) c.in-Known.is c.in_ok-named.ensures.named in
    if_ok _ _ c.told-in-Known.result (λ x f. subst (λ (e : Entry). IsDone new g s x e) (sym named.0) (f new g s (matched c.perform_to-answer.result _ _ c.perform_to-answer.ensures.states c.perform_to-answer.ensures.fault))) c.told-in-Known.ensures

pub returns-in-Perform-clause-known : goal.returns-in-Perform-clause-known
returns-in-Perform-clause-known c =
    on_ok _ c.told.result (known_by c.args.book.now c.perform_next-answer.new.book c.perform_next-answer.result c.perform_next-answer.ensures.kept c.perform_next-answer.ensures.refused c.entry_named.new.facts.items c.in_ok-named.ensures.known)

pub returns-in-Known-clause-known : goal.returns-in-Known-clause-known
returns-in-Known-clause-known c =
    on_ok _ c.told-in-Known.result (known_by c.args.book.now c.perform_to-answer.new.book c.perform_to-answer.result c.perform_to-answer.ensures.kept c.perform_to-answer.ensures.refused c.entry_named.new.facts.items c.in_ok-named.ensures.known)
