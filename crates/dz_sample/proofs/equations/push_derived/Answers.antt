use Rattle.std.proofs.Common.{◌≡◌, ◌∙◌, ◌++◌, arith, subst, sym, append-nil}
use Rattle.dz_sample.specs.Draws.{state_of}
use Rattle.dz_sample.specs.Sample.{further_equations}
use Rattle.dz_sample.proofs.Steps.{next_drawn, one_more, three_draws}
use Rattle.dz_sample.proofs.equations.push_derived.Goals as goal

pub more-init : goal.more-init
unfolding further_equations
more-init c = λ seed rates state. (state, sym (append-nil c.args.equations.now.items))

pub more-preserved : goal.more-preserved
more-preserved c = λ seed rates state.
    let i = c.more.invariant seed rates state in
    let next = next_drawn seed c.more.done (state_of c.more.draws) c.args.rates.now c.draw_derived.result rates i.0 c.draw_derived.ensures.derived in (
      c.draw_derived.ensures.state ∙ three_draws seed c.more.done (state_of c.more.draws) i.0,
      one_more seed c.more.done c.args.equations.now.items c.more.equations.items c.push.new.self.items c.draw_derived.result i.1 next c.in_ok-push.ensures.items,
    )

pub returns : goal.returns
returns c = λ seed rates state.
    let end : c.more.done ≡ c.args.size = omega (arith, c.more.auto.done-end, c.more-test.false) in
    subst (λ n. c.more.equations.items ≡ c.args.equations.now.items ++ further_equations seed n) end (c.more.invariant seed rates state).1
