use Rattle.std.proofs.Common.{◌≡◌, ◌-◌, ◌++◌, ◌∷◌, [], List, length, map, Ok, arith, sym, ap, subst, ◌∙◌, ◌+◌, ℕ}
use Rattle.std.proofs.lemmas.Result.{err_from_is_err_and}
use Rattle.std.proofs.lemmas.List.{map_push}
use Rattle.dz_int.specs.Fractions.{Fraction}
use Rattle.dz_rank.specs.declared.symbols.Symbol.{Symbol}
use Rattle.dz_syntax.specs.declared.token.Token.TheVariants.{Comma}
use Rattle.dz_syntax.specs.Tokens.{front}
use Rattle.dz_syntax.specs.Marks.{separated, expected, is_semicolon}
use Rattle.dz_syntax.specs.Values.{element_of, fraction_of}
use Rattle.dz_syntax.specs.Faults.{Gives, Fails}
use Rattle.dz_syntax.proofs.Given.{gives_with}
use Rattle.dz_syntax.proofs.SeparatedLists.{separated_fail, separated_more, separated_end}
use Rattle.dz_syntax.proofs.values.values.Goals as goal

pub returns-in_err-read : goal.returns-in_err-read
returns-in_err-read c =
    let p = err_from_is_err_and c.from_residual.result c.from_residual.ensures.1 in
    let i = c.elements.invariant in
    let fails : Fails c.in_err-read.field-0.0 (element_of c.args.names.now c.elements.into.items c.elements.rest.now) = rw (← i.3) c.in_err-read.ensures.read in
    record { read = rw (p.1, p.2) (separated_fail c.in_err-read.field-0.0 (element_of c.args.names.now) i.0 c.elements.into.items c.elements.rest.now _ (omega (arith, i.1)) fails i.2) }

pub elements-preserved : goal.elements-preserved
elements-preserved c =
    let i = c.elements.invariant in
    let read = c.in_ok-read.read in
    let v : Symbol × Fraction = (read.symbol, fraction_of read.numerator read.denominator) in
    let x : (Symbol × Fraction) × List ℕ = (v, c.in_ok-read.after.now) in
    let comma : front c.in_ok-read.after.now ≡ Comma = cc in
    let found : element_of c.args.names.now c.elements.into.items c.elements.rest.now ≡ Ok x = rw (← i.3) c.in_ok-read.ensures.read in
    let more = separated_more (element_of c.args.names.now) i.0 c.elements.into.items c.elements.rest.now x _ (omega (arith, i.1)) found comma i.2 in
    let pushed : c.put_value.new.into.items ≡ c.elements.into.items ++ v ∷ [] = c.in_ok-put_value.ensures in
    let keys : c.put_symbol.new.valued.keys ≡ map (λ v. v.0) (c.elements.into.items ++ v ∷ []) = c.in_ok-put_symbol.ensures ∙ ap (λ (k : List Symbol). k ++ read.symbol ∷ []) i.3 ∙ sym (map_push (λ v. v.0) c.elements.into.items v) in
    (i.0 - 1, grind arith, rw (pushed, c.next-token.ensures.behind) more, rw pushed keys)

pub returns-in_default : goal.returns-in_default
returns-in_default c =
    let i = c.elements.invariant in
    let read = c.in_ok-read.read in
    let after = c.in_ok-read.after.now in
    let v : Symbol × Fraction = (read.symbol, fraction_of read.numerator read.denominator) in
    let x : (Symbol × Fraction) × List ℕ = (v, after) in
    let other = λ (e : front after ≡ Comma). c.in_default.not-Comma (c.next-token.ensures.front ∙ e) in
    let found : element_of c.args.names.now c.elements.into.items c.elements.rest.now ≡ Ok x = rw (← i.3) c.in_ok-read.ensures.read in
    let ends = separated_end (element_of c.args.names.now) i.0 c.elements.into.items c.elements.rest.now x _ (omega (arith, i.1)) found other i.2 in
    let given = rw c.semicolon.ensures at c.expected.ensures.read in
    let pushed : c.put_value.new.into.items ≡ c.elements.into.items ++ v ∷ [] = c.in_ok-put_value.ensures in
    let all = gives_with (λ t. t.now) (λ t. (c.elements.into.items ++ v ∷ [], t)) c.expected.result (expected (is_semicolon (front after)) after) _ ends given in
    record { read = subst (λ (f : List (Symbol × Fraction)). Gives (λ t. (f, t.now)) c.expected.result (separated (element_of c.args.names.now) (length c.args.text.now + 1) c.args.into.now.items c.args.text.now)) (sym pushed) all }
