use Rattle.std.proofs.Common.{◌∙◌, ◌++◌, ◌-◌, length, take, drop, inr, sym, ap, rules, arith}
use Rattle.std.proofs.lemmas.Grind.{common_steps}
use Rattle.dz_monomials.specs.Stops.{refusal_of}
use Rattle.dz_ask.specs.Products.{raised_product}
use Rattle.dz_ask.proofs.RaisedProducts.{first_before, first_here, first_high, none_left}
use Rattle.dz_ask.proofs.products.raised.Goals as goal

pub returns-in-Less-clause-ok : goal.returns-in-Less-clause-ok
returns-in-Less-clause-ok c =
    first_before _ c.args.step c.loop-rest.all.items (raised_product c.args.step c.args.product.now) c.loop-rest.rest.now c.loop-rest.invariant c.in-len1-up.len_at_least (sym c.compare_steps.ensures ∙ c.in-Less.is) c.extend_from_slice.new.self.items
    (c.in_ok-extend_from_slice-in-Less.ensures.items ∙ ap (λ l. l ++ c.loop-rest.rest.now) c.in_ok-push-in-Less.ensures.items)

pub returns-then-power-ge65535-clause-refused : goal.returns-then-power-ge65535-clause-refused
returns-then-power-ge65535-clause-refused c =
    inr (ap refusal_of (first_high _ c.args.step c.loop-rest.all.items (raised_product c.args.step c.args.product.now) c.loop-rest.rest.now c.loop-rest.invariant c.in-len1-up.len_at_least (sym c.compare_steps.ensures ∙ c.in-Equal.is) c.if-power-ge65535.true))

pub returns-in-Equal-clause-ok : goal.returns-in-Equal-clause-ok
returns-in-Equal-clause-ok c =
    first_here _ c.args.step c.loop-rest.all.items (raised_product c.args.step c.args.product.now) c.loop-rest.rest.now c.loop-rest.invariant c.in-len1-up.len_at_least (sym c.compare_steps.ensures ∙ c.in-Equal.is) c.if-power-ge65535.false c.extend_from_slice-in-Equal.new.self.items
    (c.in_ok-extend_from_slice-in-Equal.ensures.items ∙ ap (λ l. l ++ take (length c.loop-rest.rest.now - 1) (drop 1 c.loop-rest.rest.now)) c.in_ok-push-in-Equal.ensures.items)

pub returns-clause-ok : goal.returns-clause-ok
returns-clause-ok c =
    none_left (c.args.step, 0) c.args.step c.loop-rest.all.items (raised_product c.args.step c.args.product.now) c.loop-rest.rest.now c.loop-rest.invariant (first_of (search rules, grind (arith, common_steps))) c.push-2.new.self.items (first_of (search rules, grind (arith, common_steps)))
