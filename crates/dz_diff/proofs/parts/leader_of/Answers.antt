use Rattle.std.proofs.Common.{sym, subst, ◌∙◌}
use Rattle.dz_monomials.specs.Keeping.{IsTabled}
use Rattle.dz_diff.proofs.Leading.{no_symbol_leads, no_derivative_leads, derivative_leads}
use Rattle.dz_diff.proofs.parts.leader_of.Goals as goal

pub returns-then-is_empty : goal.returns-then-is_empty
returns-then-is_empty c r h = no_symbol_leads r c.args.entry.now.terms c.symbol_degrees-table.result.now (subst (IsTabled r c.args.entry.now.terms) (sym c.symbol_degrees-table.ensures) h) (sym c.if-is_empty.true ∙ c.is_empty.ensures)

pub returns-in-Independent : goal.returns-in-Independent
returns-in-Independent c r h =
    no_derivative_leads r c.args.entry.now.terms c.symbol_degrees-table.result.now (subst (IsTabled r c.args.entry.now.terms) (sym c.symbol_degrees-table.ensures) h) _ c.in-Independent.field-0 (sym c.if-is_empty.false ∙ c.is_empty.ensures) c.in-Independent.is

pub returns-in_default : goal.returns-in_default
returns-in_default c r h =
    derivative_leads r c.args.entry.now.terms c.symbol_degrees-table.result.now (subst (IsTabled r c.args.entry.now.terms) (sym c.symbol_degrees-table.ensures) h) _ (sym c.if-is_empty.false ∙ c.is_empty.ensures) c.in_default.not-Independent
