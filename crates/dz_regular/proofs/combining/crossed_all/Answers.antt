use Rattle.std.proofs.Common.{◌≡◌, ◌<◌, ◌∙◌, ◌++◌, ◌+◌, [], ◌∷◌, drop, length, ap, sym, subst, arith}
use Rattle.std.proofs.lemmas.List.{map-append}
use Rattle.std.proofs.lemmas.List.Elements.{All-push}
use Rattle.std.proofs.lemmas.Result.{err_from_is_err_and}
use Rattle.dz_monomials.specs.Ranked.{symbols_under}
use Rattle.dz_regular.specs.Combining.{crossed_all}
use Rattle.dz_terms.specs.Entries.{IsEntry}
use Rattle.dz_regular.specs.Working.{AreEntries, multipliers_in, polynomials_of}
use Rattle.dz_regular.proofs.RowPasses.{prepended, crossed_more, crossed_refused, one_longer}
use Rattle.dz_regular.proofs.combining.crossed_all.Goals as goal

pub returns-in_err-z-clause-refused : goal.returns-in_err-z-clause-refused
returns-in_err-z-clause-refused c =
    let g = symbols_under c.args.ranking.now in
    let m = multipliers_in c.args.m.now in
    let xs = c.args.xs.now in
    let ys = c.args.ys.now in
    let inside : c.loop-i.i < length ys = omega (arith, c.loop-i-test.true, c.requires.width) in
    let y = err_from_is_err_and c.from_residual-in_err-z.result c.from_residual-in_err-z.ensures.1 in
    rw (y.1, y.2) (crossed_refused g m xs ys (crossed_all g m (polynomials_of xs) (polynomials_of ys)) c.loop-i.i c.index-xs-i.result c.index-ys-i.result c.loop-i-test.true inside c.index-xs-i.is c.index-ys-i.is (polynomials_of c.loop-i.all.items) c.loop-i.invariant.so_far _ c.in_err-z.ensures)

pub loop-i-preserved : goal.loop-i-preserved
loop-i-preserved c =
    let r = c.args.ranking.now in
    let g = symbols_under r in
    let m = multipliers_in c.args.m.now in
    let xs = c.args.xs.now in
    let ys = c.args.ys.now in
    let z = c.in_ok-z.z in
    let inside : c.loop-i.i < length ys = omega (arith, c.loop-i-test.true, c.requires.width) in
    let more = crossed_more g m xs ys (crossed_all g m (polynomials_of xs) (polynomials_of ys)) c.loop-i.i c.index-xs-i.result c.index-ys-i.result c.loop-i-test.true inside c.index-xs-i.is c.index-ys-i.is (polynomials_of c.loop-i.all.items) c.loop-i.invariant.so_far z.terms c.in_ok-z.ensures.ok in
    let pushed : polynomials_of c.push.new.self.items ≡ polynomials_of c.loop-i.all.items ++ z.terms ∷ [] = ap polynomials_of c.in_ok-push.ensures.items ∙ map-append _ c.loop-i.all.items _ in
    record {
      so_far = more ∙ ap (λ us. prepended us (crossed_all g m (polynomials_of (drop (c.loop-i.i + 1) xs)) (polynomials_of (drop (c.loop-i.i + 1) ys)))) (sym pushed);
      entries = subst (AreEntries r) (sym c.in_ok-push.ensures.items) (All-push (IsEntry r) c.loop-i.all.items z c.loop-i.invariant.entries c.in_ok-z.ensures.entry);
      count = one_longer c.loop-i.all.items c.push.new.self.items z c.loop-i.i c.in_ok-push.ensures.items c.loop-i.invariant.count;
    }
