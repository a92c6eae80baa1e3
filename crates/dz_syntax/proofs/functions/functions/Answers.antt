use Rattle.std.proofs.Common.{◌≡◌, ◌-◌, ◌++◌, ◌∷◌, [], List, length, arith, ap, sym, subst, ◌∙◌, ◌+◌, ℕ, Ok}
use Rattle.std.proofs.lemmas.Result.{err_from_is_err_and}
use Rattle.dz_syntax.specs.declared.token.Token.TheVariants.{Comma}
use Rattle.dz_syntax.specs.declared.expression.Op.{Op}
use Rattle.dz_syntax.specs.Tokens.{front}
use Rattle.dz_syntax.specs.Marks.{separated, expected, is_semicolon}
use Rattle.dz_syntax.specs.Functions.{element_of}
use Rattle.dz_syntax.specs.Faults.{Gives, Fails}
use Rattle.dz_syntax.proofs.Given.{gives_with}
use Rattle.dz_syntax.proofs.SeparatedLists.{separated_fail, separated_more, separated_end}
use Rattle.dz_syntax.proofs.functions.functions.Goals as goal

pub returns-in_err-dependent : goal.returns-in_err-dependent
returns-in_err-dependent c =
    let p = err_from_is_err_and c.from_residual-in_err-dependent.result c.from_residual-in_err-dependent.ensures.1 in
    let i = c.elements.invariant in
    record {
      read = rw (p.1, p.2) (separated_fail c.in_err-dependent.field-0.0 (element_of c.args.names.now) i.0 c.elements.into.items c.elements.rest.now _ (omega (arith, i.1))
          (subst (λ (fs : List (ℕ × List Op)). Fails c.in_err-dependent.field-0.0 (element_of c.args.names.now fs c.elements.rest.now)) c.deref.ensures.value c.in_err-dependent.ensures.read) i.2);
    }

pub elements-preserved : goal.elements-preserved
elements-preserved c =
    let i = c.elements.invariant in
    let f : ℕ × List Op = (c.in_ok-dependent.dependent, c.in_ok-dependent.item) in
    let x : (ℕ × List Op) × List ℕ = (f, c.in_ok-dependent.after.now) in
    let found : element_of c.args.names.now c.elements.into.items c.elements.rest.now ≡ Ok x = ap (λ (fs : List (ℕ × List Op)). element_of c.args.names.now fs c.elements.rest.now) (sym c.deref.ensures.value) ∙ c.in_ok-dependent.ensures.read in
    let comma : front c.in_ok-dependent.after.now ≡ Comma = cc in
    let more = separated_more (element_of c.args.names.now) i.0 c.elements.into.items c.elements.rest.now x _ (omega (arith, i.1)) found comma i.2 in
    (i.0 - 1, grind arith, rw (c.in_ok-push.ensures.items, c.next-token.ensures.behind) more)

pub returns-in_default : goal.returns-in_default
returns-in_default c =
    let i = c.elements.invariant in
    let after = c.in_ok-dependent.after.now in
    let f : ℕ × List Op = (c.in_ok-dependent.dependent, c.in_ok-dependent.item) in
    let x : (ℕ × List Op) × List ℕ = (f, after) in
    let found : element_of c.args.names.now c.elements.into.items c.elements.rest.now ≡ Ok x = ap (λ (fs : List (ℕ × List Op)). element_of c.args.names.now fs c.elements.rest.now) (sym c.deref.ensures.value) ∙ c.in_ok-dependent.ensures.read in
    let other = λ (e : front after ≡ Comma). c.in_default.not-Comma (c.next-token.ensures.front ∙ e) in
    let ends = separated_end (element_of c.args.names.now) i.0 c.elements.into.items c.elements.rest.now x _ (omega (arith, i.1)) found other i.2 in
    let given = rw c.semicolon.ensures at c.expected.ensures.read in
    let all = gives_with (λ t. t.now) (λ t. (c.elements.into.items ++ f ∷ [], t)) c.expected.result (expected (is_semicolon (front after)) after) _ ends given in
    record { read = subst (λ (fs : List (ℕ × List Op)). Gives (λ t. (fs, t.now)) c.expected.result (separated (element_of c.args.names.now) (length c.args.text.now + 1) c.args.into.now.items c.args.text.now)) (sym c.in_ok-push.ensures.items) all }
