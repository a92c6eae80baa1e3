use Rattle.std.proofs.Common.{◌∙◌, ◌++◌, ap, codes, decimal}
use Rattle.dz_parametric.proofs.Reported.{five_pieces, last_appended}
use Rattle.dz_parametric.proofs.reporting.push_head.Goals as goal

pub returns : goal.returns
returns c =
    let first = c.in_ok-extend_from_slice.ensures.items in
    let second = c.in_ok-push_number.ensures ∙ ap (λ t. t ++ decimal c.args.number) first in
    let third = c.in_ok-extend_from_slice-2.ensures.items ∙ ap (λ t. t ++ codes " order ") second in
    let fourth = c.in_ok-push_number-2.ensures ∙ ap (λ k. c.extend_from_slice-2.new.self.items ++ decimal k) c.from.ensures ∙ ap (λ t. t ++ decimal c.args.order) third in
    last_appended c.extend_from_slice-3.result c.extend_from_slice-3.new.self.items c.push_number-2.new.into.items (codes "\n") _ c.extend_from_slice-3.ensures.items
    (ap (λ t. t ++ codes "\n") fourth ∙ five_pieces c.args.into.now.items (codes "parametric chain ") (decimal c.args.number) (codes " order ") (decimal c.args.order) (codes "\n"))
