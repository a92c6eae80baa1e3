use Rattle.std.specs.Prelude.{map}
use Rattle.std.proofs.lemmas.Grind.{common_steps}
use Rattle.std.proofs.Common.{◌≡◌, ◌∙◌, refl, rules, arith}
use Rattle.dz_step.specs.declared.attempts.AttemptStop.TheVariants.{Memory}
use Rattle.dz_ask.specs.Attempts.{power_in}
use Rattle.dz_ask.proofs.KeptTerms.{halt_stop, stopped_in}
use Rattle.dz_ask.proofs.preparing.attempt.Goals as goal

pub returns-clause-stopped : goal.returns-clause-stopped
returns-clause-stopped c = λ r s budget f h.
    let here = c.index-here.result.now in
    let n : c.args.stop.stop ≡ Memory → ⊥ = first_of (search rules, grind (arith, common_steps)) in
    let p : map power_in c.in_ok-product.product.items ≡ here.product.items = c.in_ok-product.ensures ∙ c.as_slice.ensures.value in
    stopped_in r s budget f c.args.working.now c.args.stop (halt_stop r s budget f c.args.working.now c.args.stop c.args.stop.stop n h) c.kept.new.book (record { partial = c.in_ok-partial.partial; product = c.in_ok-product.product; stop = c.args.stop.stop }) c.in_ok-partial.ensures.live c.in_ok-partial.ensures.means here c.index-here.ensures p refl
