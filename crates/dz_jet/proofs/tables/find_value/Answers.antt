use Rattle.std.proofs.Common.{rules, sym}
use Rattle.std.proofs.lemmas.Fn.{always_returns_same}
use Rattle.dz_rank.specs.Rankings.{ranking_cmp}
use Rattle.dz_jet.proofs.Found.{contained_is_given, found_contained, missed_missing, missing_not_given, searchable}
use Rattle.dz_jet.proofs.tables.find_value.Goals as goal

pub returns-in-Ok : goal.returns-in-Ok
returns-in-Ok c =
    let r = c.args.ranking.now in
    let xs = c.args.values.now in
    let s = c.args.s in
    let position = c.in-Ok.ensures.position (λ p. ranking_cmp r p.0 s) (always_returns_same _ _ _ (λ a q f' h. search rules)) in
    sym (contained_is_given r xs c.requires.single s _ (found_contained r xs s c.in-Ok.i c.index-values-i.result c.in-Ok.ensures.bound position))

pub returns-in-Err : goal.returns-in-Err
returns-in-Err c =
    let r = c.args.ranking.now in
    let xs = c.args.values.now in
    let s = c.args.s in
    let position = c.in-Err.ensures.position (λ p. ranking_cmp r p.0 s) (always_returns_same _ _ _ (λ a q f' h. search rules)) in
    sym (missing_not_given r xs c.requires.single s (missed_missing r xs s c.in-Err.field-0 (position (searchable r xs s c.requires.sorted))))
