use Rattle.std.proofs.Common.{◌≡◌, ◌∙◌, ◌++◌, OnOk, cond, codes, [], List, ℕ, sym, ap, subst, append_assoc}
use Rattle.dz_form.specs.Texts.{joined}
use Rattle.dz_series.specs.Series.{displacements, size_text}
use Rattle.dz_series.specs.Writing.{is_unit}
use Rattle.dz_series.proofs.SeriesTexts.{lone_summand, whole_summand}
use Rattle.dz_series.proofs.sums.push_summand.Goals as goal

pub returns-then-not-is_proper : goal.returns-then-not-is_proper
returns-then-not-is_proper c =
    subst (λ (t : List ℕ). OnOk c.push_size.result (c.push_size.new.into.items ≡ c.args.into.now.items ++ t))
    (sym (lone_summand c.args.names.now c.args.points.now c.args.operator c.args.coefficient (sym c.is_proper.ensures ∙ c.if-not-is_proper.true))) c.push_size.ensures

pub returns : goal.returns
returns c =
    let old = c.args.into.now.items in
    let texts = displacements c.args.names.now 0 c.args.points.now c.args.operator.counts in
    let factor = cond (is_unit c.args.coefficient) [] (size_text c.args.coefficient ++ codes "*") in
    subst (λ (t : List ℕ). OnOk c.push_powers.result (c.push_powers.new.into.items ≡ t))
    (ap (λ (t : List ℕ). t ++ joined (codes "*") texts) c.in_ok-push_factor.ensures ∙ append_assoc old factor (joined (codes "*") texts)
    ∙ ap (λ (t : List ℕ). old ++ t) (sym (whole_summand c.args.names.now c.args.points.now c.args.operator c.args.coefficient c.requires.points c.requires.operator (sym c.is_proper.ensures ∙ c.if-not-is_proper.false)))) c.push_powers.ensures
