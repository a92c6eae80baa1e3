use Rattle.std.proofs.Common.{◌≤◌, length, [], subst, sym, arith}
use Rattle.dz_rank.specs.declared.rankings.Signature.{Signature}
use Rattle.dz_rank.specs.Symbols.{BelongsTo}
use Rattle.dz_poly.specs.Books.{polynomial, term_at}
use Rattle.dz_form.specs.Texts.{power_text}
use Rattle.dz_form.proofs.Marks.{powers_done, powers_more, symbol_of_term}
use Rattle.dz_form.proofs.write.push_powers.Goals as goal

pub push_next_power-requires : goal.push_next_power-requires
push_next_power-requires c =
    let book = c.args.book.now in
    let p = polynomial book c.args.p in
    let kept = c.opened.ensures.each c.args.p [] c.requires.lives in
    subst (λ (g : Signature). BelongsTo g c.power_at.result.0) (sym c.requires.signature) (symbol_of_term (BelongsTo book.ranking.signature) p c.args.k c.powers.j c.power_at.result kept.belongs c.requires.inside c.power_at.ensures)

pub powers-preserved : goal.powers-preserved
powers-preserved c =
    powers_more (λ q. power_text c.args.names.now q.0 q.1) c.args.into.now.items c.powers.into.items c.push_next_power.new.into.items (term_at (polynomial c.args.book.now c.args.p) c.args.k).0 c.powers.j c.power_at.result
    c.power_at.ensures c.powers.invariant c.in_ok-push_next_power.ensures

pub returns : goal.returns
returns c =
    let past : length (term_at (polynomial c.args.book.now c.args.p) c.args.k).0 ≤ c.powers.j = omega (arith, c.power_count-j-end.ensures, c.powers-test.false) in
    powers_done (λ q. power_text c.args.names.now q.0 q.1) c.args.into.now.items c.powers.into.items (term_at (polynomial c.args.book.now c.args.p) c.args.k).0 c.powers.j past c.powers.invariant
