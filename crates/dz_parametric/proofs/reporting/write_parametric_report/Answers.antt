use Rattle.std.proofs.Common.{◌∙◌, ◌++◌, List, ℕ, ap, ap₂, codes}
use Rattle.std.specs.List.{flat_map}
use Rattle.dz_diff.specs.States.{state_in}
use Rattle.dz_parametric.specs.Reports.{cone_lines, free_line, head_line, parametric_report}
use Rattle.dz_parametric.proofs.reporting.write_parametric_report.Goals as goal

pub returns-clause-printed : goal.returns-clause-printed
unfolding parametric_report
returns-clause-printed c =
    let r = c.args.book.now.ranking in
    let names = c.args.names.now in
    let s = state_in c.args.book.now c.args.chain.now in
    let head = c.in_ok-push_head.ensures ∙ ap (λ (t : List ℕ). t ++ head_line c.args.number c.args.order) c.new-text.ensures.items in
    let lines = c.in_ok-push_free_lines.ensures ∙ ap₂ (λ t ws. t ++ flat_map (free_line names) ws) head (c.as_slice.ensures.value ∙ c.in_ok-members.ensures.listed) in
    let cones = c.in_ok-end.ensures.printed ∙ ap (λ (t : List ℕ). t ++ cone_lines r names s) lines in
    let text = c.in_ok-extend_from_slice.ensures.items ∙ ap (λ (t : List ℕ). t ++ codes "end\n") cones in
    c.in_ok-extend_from_slice-2.ensures.items ∙ ap (λ (t : List ℕ). c.args.into.now.items ++ t) (c.deref.ensures.value ∙ text)
