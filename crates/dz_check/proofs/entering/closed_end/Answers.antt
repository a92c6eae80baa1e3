use Rattle.std.proofs.Common.{◌∙◌, sym}
use Rattle.dz_diff.specs.Operations.{setting_of}
use Rattle.dz_diff.specs.States.{state_in}
use Rattle.dz_move.specs.declared.Rule.TheVariants as rules
use Rattle.dz_check.proofs.Entries.{closed_by, line_broken}
use Rattle.dz_check.proofs.entering.closed_end.Goals as goal

pub returns-then-not-is_closed-clause-refused : goal.returns-then-not-is_closed-clause-refused
returns-then-not-is_closed-clause-refused c =
    let book = c.args.book.now in
    λ budget weight es. line_broken c.at_line.result rules.Closed _ c.at_line.ensures
    (closed_by (setting_of book.ranking) budget weight (state_in book c.args.state.now) _ (sym c.is_closed.ensures ∙ c.if-not-is_closed.true) es)

pub returns-clause-ok : goal.returns-clause-ok
returns-clause-ok c =
    let book = c.args.book.now in
    λ budget weight es. record {
      is = closed_by (setting_of book.ranking) budget weight (state_in book c.args.state.now) _ (sym c.is_closed.ensures ∙ c.if-not-is_closed.false) es;
      stand = tt;
      facts = tt;
    }
