use Rattle.std.proofs.Common.{◌∙◌, ◌+◌, ◌++◌, codes, List, ℕ, [], sym, ap, append_assoc}
use Rattle.dz_series.proofs.SeriesTexts.{appended, got_index}
use Rattle.dz_series.proofs.writing.push_series_head.Goals as goal

pub returns : goal.returns
returns c =
    let old = c.args.into.now.items in
    let name = c.dependent.result.now in
    let named = got_index c.args.names.now.all (c.args.names.now.independents + c.args.dependent) name [] c.dependent.ensures in
    appended c.extend_from_slice-3.result c.extend_from_slice-3.new.self.items c.extend_from_slice-2.new.self.items (codes " = ") _ c.extend_from_slice-3.ensures.items
    (ap (λ (t : List ℕ). t ++ codes " = ") (c.in_ok-extend_from_slice-2.ensures.items ∙ ap (λ (t : List ℕ). t ++ name) c.in_ok-extend_from_slice.ensures.items ∙ append_assoc old (codes "series ") name)
    ∙ append_assoc old (codes "series " ++ name) (codes " = ") ∙ ap (λ (n : List ℕ). old ++ (codes "series " ++ n ++ codes " = ")) (sym named))
