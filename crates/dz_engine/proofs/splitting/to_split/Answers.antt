use Rattle.std.proofs.Common.{◌∙◌, sym}
use Rattle.dz_monomials.specs.Ranked.{symbols_under}
use Rattle.dz_diff.specs.States.{state_in}
use Rattle.dz_step.specs.declared.Which.TheVariants.{Initial, Separant}
use Rattle.dz_step.specs.Step.{multiplier_answer}
use Rattle.dz_engine.proofs.KnownFacts.{split_first, split_second}
use Rattle.dz_engine.proofs.splitting.to_split.Goals as goal

pub returns-then-is_some : goal.returns-then-is_some
returns-then-is_some c =
    let book = c.args.book.now in
    let g = symbols_under book.ranking in
    let q = c.args.entry.now.terms in
    let l = c.in-Some.field-0 in
    let leads = sym (c.leader_of.ensures book.ranking c.requires.entry) ∙ c.in-Some.is in
    let first = c.to_split_on-initial.ensures (multiplier_answer g Initial l q) (c.requires.facts.initial_is l leads) in
    split_first g (state_in book c.args.state.now) q l leads c.to_split_on-initial.result first (sym c.is_some.ensures ∙ c.if-is_some.true)

pub returns : goal.returns
returns c =
    let book = c.args.book.now in
    let g = symbols_under book.ranking in
    let q = c.args.entry.now.terms in
    let l = c.in-Some.field-0 in
    let leads = sym (c.leader_of.ensures book.ranking c.requires.entry) ∙ c.in-Some.is in
    let first = c.to_split_on-initial.ensures (multiplier_answer g Initial l q) (c.requires.facts.initial_is l leads) in
    split_second g (state_in book c.args.state.now) q l leads c.to_split_on-initial.result first (sym c.is_some.ensures ∙ c.if-is_some.false) c.to_split_on.result
    (c.to_split_on.ensures (multiplier_answer g Separant l q) (c.requires.facts.separant_is l leads))
