use Rattle.std.proofs.Common.{◌<◌, ◌≤◌, ◌∙◌, ◌++◌, All, Err, ap, codes, cond, length, sym, subst}
use Rattle.std.specs.List.{flat_map}
use Rattle.std.proofs.lemmas.Bool.{lt-ltb}
use Rattle.dz_diff.specs.States.{state_in}
use Rattle.dz_parametric.specs.Cones.{cones_of}
use Rattle.dz_parametric.specs.Reports.{IsConeOver, cone_line}
use Rattle.dz_parametric.proofs.Reported.{cones_over}
use Rattle.dz_parametric.proofs.reporting.push_cones.Goals as goal

pub push_cone_lines-requires : goal.push_cone_lines-requires
push_cone_lines-requires c =
    let r = c.args.book.now.ranking in
    let few : r.signature.independents ≤ 4 = subst (λ x. x.signature.independents ≤ 4) c.ranking.ensures c.signature.ensures.ranking.few_independents in
    let are = c.as_slice.ensures.value ∙ c.in-Ok.ensures.cones in
    subst (λ g. All (IsConeOver g) c.as_slice.result.now) (sym c.requires.signature) (subst (All (IsConeOver r.signature)) (sym are) (cones_over r few (state_in c.args.book.now c.args.chain.now)))

pub returns-in_ok-extend_from_slice-in-Err-TooMany-clause-printed : goal.returns-in_ok-extend_from_slice-in-Err-TooMany-clause-printed
returns-in_ok-extend_from_slice-in-Err-TooMany-clause-printed c =
    let r = c.args.book.now.ranking in
    let s = state_in c.args.book.now c.args.chain.now in
    let many : 4096 < length (cones_of r s) = c.cones.ensures.too_many (c.in-Err-TooMany.is ∙ ap Err c.in-Err-TooMany.field-0-is) in
    c.in_ok-extend_from_slice-in-Err-TooMany.ensures.items
    ∙ ap (λ b. c.args.into.now.items ++ cond b (codes "stopped large cones\n") (flat_map (cone_line c.args.names.now) (cones_of r s))) (sym (lt-ltb 4096 (length (cones_of r s)) many))
