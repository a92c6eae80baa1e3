use Rattle.std.proofs.Common.{◌≡◌, ◌-◌, ◌<◌, arith, ◌∙◌, refl}
use Rattle.std.proofs.lemmas.Result.{err_from_is_err_and}
use Rattle.dz_syntax.specs.Tokens.{front}
use Rattle.dz_syntax.specs.Expressions.{State, inside}
use Rattle.dz_syntax.specs.declared.token.Token.TheVariants.{Star, Plus, Minus}
use Rattle.dz_syntax.specs.declared.expression.Op.TheVariants as ops
use Rattle.dz_syntax.proofs.Loops.{factors_more, factors_fail, factors_end, sums_more, sums_fail, sums_end}
use Rattle.dz_syntax.proofs.expression.+poly.Goals as goal

pub more_factors-returns-in_err-rest-in-Star-clause-read : goal.more_factors-returns-in_err-rest-in-Star-clause-read
more_factors-returns-in_err-rest-in-Star-clause-read t c =
    let p = err_from_is_err_and c.from_residual.result c.from_residual.ensures.1 in
    let i = c.factors.invariant in
    let star : front c.factors.rest.now ≡ Star = cc in
    let some : 0 < i.0 = grind arith in
    let s : State = record { out = c.factors.out.items; text = c.factors.rest.now } in
    rw (p.1, p.2) (factors_fail c.in_err-rest-in-Star.field-0.0 c.args.names.now (inside c.args.names.now c.args.levels) i.0 s _ some star (rw (← c.next-token.ensures.behind) c.in_err-rest-in-Star.ensures.read) i.2)

pub more_factors-factors-preserved : goal.more_factors-factors-preserved
more_factors-factors-preserved t c =
    let i = c.factors.invariant in
    let star : front c.factors.rest.now ≡ Star = cc in
    let some : 0 < i.0 = grind arith in
    let e = c.in_ok-rest-in-Star.ensures in
    let s : State = record { out = c.factors.out.items; text = c.factors.rest.now } in
    let s' : State = record { out = c.power.new.out.items; text = c.in_ok-rest-in-Star.rest.now } in
    let more = factors_more c.args.names.now (inside c.args.names.now c.args.levels) i.0 s s' _ some star (rw (← c.next-token.ensures.behind) e.read) i.2 in
    (i.0 - 1, grind arith, rw c.in_ok-push-in-Star.ensures.items more, grind arith)

pub more_factors-returns-in_default : goal.more_factors-returns-in_default
more_factors-returns-in_default t c =
    let i = c.factors.invariant in
    let s : State = record { out = c.factors.out.items; text = c.factors.rest.now } in
    let other = λ (e : front c.factors.rest.now ≡ Star). c.in_default.not-Star (c.next-token.ensures.front ∙ e) in
    record { read = factors_end c.args.names.now (inside c.args.names.now c.args.levels) i.0 s _ other i.2; shorter = i.3 }

pub more_terms-returns-in_err-rest-in-Plus-clause-read : goal.more_terms-returns-in_err-rest-in-Plus-clause-read
more_terms-returns-in_err-rest-in-Plus-clause-read t c =
    let p = err_from_is_err_and c.from_residual.result c.from_residual.ensures.1 in
    let i = c.terms.invariant in
    let sign : front c.terms.rest.now ≡ Plus = cc in
    let some : 0 < i.0 = grind arith in
    let s : State = record { out = c.terms.out.items; text = c.terms.rest.now } in
    rw (p.1, p.2) (sums_fail c.in_err-rest-in-Plus.field-0.0 c.args.names.now (inside c.args.names.now c.args.levels) i.0 s Plus ops.Add _ some sign refl (rw (← c.next-token.ensures.behind) c.in_err-rest-in-Plus.ensures.read) i.2)

pub more_terms-terms-preserved-in-Continue-branch-2 : goal.more_terms-terms-preserved-in-Continue-branch-2
more_terms-terms-preserved-in-Continue-branch-2 t c =
    let i = c.terms.invariant in
    let sign : front c.terms.rest.now ≡ Plus = cc in
    let some : 0 < i.0 = grind arith in
    let e = c.in_ok-rest-in-Plus.ensures in
    let s : State = record { out = c.terms.out.items; text = c.terms.rest.now } in
    let s' : State = record { out = c.product.new.out.items; text = c.in_ok-rest-in-Plus.rest.now } in
    let more = sums_more c.args.names.now (inside c.args.names.now c.args.levels) i.0 s s' Plus ops.Add _ some sign refl (rw (← c.next-token.ensures.behind) e.read) i.2 in
    (i.0 - 1, grind arith, rw c.in_ok-push-in-Plus.ensures.items more, grind arith)

pub more_terms-returns-in_err-rest-in-Minus-clause-read : goal.more_terms-returns-in_err-rest-in-Minus-clause-read
more_terms-returns-in_err-rest-in-Minus-clause-read t c =
    let p = err_from_is_err_and c.from_residual-in_err-rest-in-Minus.result c.from_residual-in_err-rest-in-Minus.ensures.1 in
    let i = c.terms.invariant in
    let sign : front c.terms.rest.now ≡ Minus = cc in
    let some : 0 < i.0 = grind arith in
    let s : State = record { out = c.terms.out.items; text = c.terms.rest.now } in
    rw (p.1, p.2) (sums_fail c.in_err-rest-in-Minus.field-0.0 c.args.names.now (inside c.args.names.now c.args.levels) i.0 s Minus ops.Sub _ some sign refl (rw (← c.next-token.ensures.behind) c.in_err-rest-in-Minus.ensures.read) i.2)

pub more_terms-terms-preserved : goal.more_terms-terms-preserved
more_terms-terms-preserved t c =
    let i = c.terms.invariant in
    let sign : front c.terms.rest.now ≡ Minus = cc in
    let some : 0 < i.0 = grind arith in
    let e = c.in_ok-rest-in-Minus.ensures in
    let s : State = record { out = c.terms.out.items; text = c.terms.rest.now } in
    let s' : State = record { out = c.product-in-Minus.new.out.items; text = c.in_ok-rest-in-Minus.rest.now } in
    let more = sums_more c.args.names.now (inside c.args.names.now c.args.levels) i.0 s s' Minus ops.Sub _ some sign refl (rw (← c.next-token.ensures.behind) e.read) i.2 in
    (i.0 - 1, grind arith, rw c.in_ok-push-in-Minus.ensures.items more, grind arith)

pub more_terms-returns-in_default : goal.more_terms-returns-in_default
more_terms-returns-in_default t c =
    let i = c.terms.invariant in
    let s : State = record { out = c.terms.out.items; text = c.terms.rest.now } in
    let plus = λ (e : front c.terms.rest.now ≡ Plus). c.in_default.not-Plus (c.next-token.ensures.front ∙ e) in
    let minus = λ (e : front c.terms.rest.now ≡ Minus). c.in_default.not-Minus (c.next-token.ensures.front ∙ e) in
    record { read = sums_end c.args.names.now (inside c.args.names.now c.args.levels) i.0 s _ plus minus i.2; shorter = i.3 }
