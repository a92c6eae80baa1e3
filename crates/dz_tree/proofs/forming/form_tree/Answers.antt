use Rattle.std.proofs.Common.{◌==◌, ◌∙◌, ◌&&◌, ap, sym}
use Rattle.dz_tree.specs.Counting.{lets_line}
use Rattle.dz_tree.proofs.TreeForms.{ended, no_line, none_ended}
use Rattle.dz_tree.proofs.forming.form_tree.Goals as goal

pub returns-then-not-stands : goal.returns-then-not-stands
returns-then-not-stands c = no_line c.args.lines.now c.lines.line-index c.lines.left c.lines.expected c.lines.invariant.same c.line-item.result c.lines-test.true c.line-item.is (sym c.stands.ensures ∙ c.if-not-stands.true)

pub returns-then-left-eq0 : goal.returns-then-left-eq0
returns-then-left-eq0 c = ended c.args.lines.now c.lines.line-index c.lines.left c.lines.expected c.lines.invariant.same c.lets_line.result c.lines-test.false (ap (λ n. (n == 0) && lets_line c.lines.expected) c.if-left-eq0.true ∙ sym c.lets_line.ensures)

pub returns-else-left-eq0 : goal.returns-else-left-eq0
returns-else-left-eq0 c = none_ended c.args.lines.now c.lines.line-index c.lines.left c.lines.expected c.lines.invariant.same c.lines-test.false c.if-left-eq0.false
