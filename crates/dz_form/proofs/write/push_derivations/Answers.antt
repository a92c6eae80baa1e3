use Rattle.std.proofs.Common.{◌<◌, ◌≤◌, length, arith, ap, subst}
use Rattle.std.specs.Prelude.{slice_index_or}
use Rattle.dz_rank.specs.declared.rankings.Signature.{Signature}
use Rattle.dz_form.specs.Texts.{independents}
use Rattle.dz_form.proofs.Marks.{derivations_done, derivations_more, get_taken}
use Rattle.dz_form.proofs.write.push_derivations.Goals as goal

pub independents-preserved : goal.independents-preserved
independents-preserved c =
    let names = c.args.names.now in
    let counts = c.args.operator.counts in
    let i = c.independents.i in
    let below : i < names.independents = subst (λ (g : Signature). i < g.independents) c.signature-i-end.ensures.value c.independents-test.true in
    let among : i < length counts = omega (arith, c.requires.size, c.signature-i-end.ensures.few_independents, c.independents-test.true) in
    derivations_more c.independents.into.items c.push_copies.new.into.items c.independents.first c.in_ok-first.first (independents names) counts i c.independent.result.now (slice_index_or counts c.from.result 0) _
    (get_taken names.all names.independents i c.independent.result.now below c.independent.ensures) among (ap (λ k. slice_index_or counts k 0) c.from.ensures)
    c.in_ok-first.ensures.written c.in_ok-first.ensures.still c.independents.invariant

pub returns : goal.returns
returns c =
    let names = c.args.names.now in
    let past : names.independents ≤ c.independents.i = subst (λ (g : Signature). g.independents ≤ c.independents.i) c.signature-i-end.ensures.value c.independents-test.false in
    derivations_done c.independents.into.items c.args.into.now.items c.independents.first names.all c.args.operator.counts names.independents c.independents.i past c.independents.invariant
