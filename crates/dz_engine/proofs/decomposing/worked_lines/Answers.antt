use Rattle.std.proofs.Common.{sym, subst, arith}
use Rattle.dz_monomials.specs.Ranked.{symbols_under}
use Rattle.dz_poly.specs.Books.{BookValue}
use Rattle.dz_diff.specs.Operations.{setting_of}
use Rattle.dz_diff.specs.States.{IsStateOf, StandsIn, state_in}
use Rattle.dz_engine.specs.declared.decomposing.Progress.{Progress}
use Rattle.dz_engine.specs.Facts.{AreKnown}
use Rattle.dz_engine.proofs.KnownTops.{known_taken}
use Rattle.dz_engine.proofs.Turns.{IsTaken, come_last, comes_on, keeps_below, none_pending, on_top, stands_again, within_again}
use Rattle.dz_engine.proofs.decomposing.worked_lines.Goals as goal

pub returns-in_default-clause-lines : goal.returns-in_default-clause-lines
returns-in_default-clause-lines c =
    come_last (setting_of c.args.book.now.ranking) c.args.budget c.states.progress.weight (state_in c.args.book.now c.args.root) c.states.progress.lines.items _ c.states.invariant.2 (none_pending c.states.book c.states.progress.pending.items (omega (arith, c.in_default.ensures.cases.0)))

pub restore-requires : goal.restore-requires
restore-requires c = (on_top c.args.book.now c.states.book c.states.progress.pending.items c.pop.new.self.items c.in-Some.field-0 c.in-Some.ensures.items c.states.invariant.1).0

pub turn-requires-clause-stands : goal.turn-requires-clause-stands
turn-requires-clause-stands c =
    subst (λ (b : BookValue). StandsIn b c.in-Some.field-0.state) (sym c.restore.ensures) (on_top c.args.book.now c.states.book c.states.progress.pending.items c.pop.new.self.items c.in-Some.field-0 c.in-Some.ensures.items c.states.invariant.1).1

pub turn-requires-clause-facts : goal.turn-requires-clause-facts
turn-requires-clause-facts c =
    subst (λ (b : BookValue). IsStateOf (symbols_under b.ranking) (state_in b c.in-Some.field-0.state)) (sym c.restore.ensures) (on_top c.args.book.now c.states.book c.states.progress.pending.items c.pop.new.self.items c.in-Some.field-0 c.in-Some.ensures.items c.states.invariant.1).2

pub returns-in_err-turn-clause-kept : goal.returns-in_err-turn-clause-kept
returns-in_err-turn-clause-kept c =
    keeps_below c.args.book.now c.states.book c.states.progress.pending.items c.pop.new.self.items c.in-Some.field-0 c.in-Some.ensures.items c.restore.new.self c.turn.new.book c.restore.ensures c.states.invariant.1 c.in_err-turn.ensures.kept

pub states-preserved : goal.states-preserved
states-preserved c =
    let root = state_in c.args.book.now c.args.root in
    let old : Progress = record { lines = c.states.progress.lines; weight = c.states.progress.weight; pending = c.pop.new.self } in
    let h : IsTaken c.args.book.now c.states.book c.restore.new.self c.turn.new.book c.args.budget root old c.turn.new.progress c.states.progress.pending.items c.in-Some.field-0 c.in-Some.ensures.items = record { cut_is = c.restore.ensures; stacks = c.states.invariant.1; come = c.states.invariant.2; turn = c.in_ok-turn.ensures.turn } in (
      within_again c.args.book.now c.states.book c.restore.new.self c.turn.new.book c.args.budget root old c.turn.new.progress c.states.progress.pending.items c.in-Some.field-0 c.in-Some.ensures.items h,
      stands_again c.args.book.now c.states.book c.restore.new.self c.turn.new.book c.args.budget root old c.turn.new.progress c.states.progress.pending.items c.in-Some.field-0 c.in-Some.ensures.items h,
      comes_on c.args.book.now c.states.book c.restore.new.self c.turn.new.book c.args.budget root old c.turn.new.progress c.states.progress.pending.items c.in-Some.field-0 c.in-Some.ensures.items h,
      c.in_ok-turn.ensures.known,
    )

pub turn-requires-clause-known : goal.turn-requires-clause-known
turn-requires-clause-known c =
    subst (λ (b : BookValue). AreKnown b c.states.facts.items) (sym c.restore.ensures) (known_taken c.states.book c.states.progress.pending.items c.pop.new.self.items c.in-Some.field-0 c.states.facts.items c.in-Some.ensures.items c.states.invariant.3)
