use Rattle.std.proofs.Common.{◌≡◌, ◌+◌, ◌∙◌, ◌++◌, [], ◌∷◌, ℕ, suc, List, ap, ap₂, subst, arith}
use Rattle.dz_poly.proofs.Books.{kept_trans}
use Rattle.dz_monomials.specs.Ranked.{symbols_under}
use Rattle.dz_diff.specs.State.{State, put_equation}
use Rattle.dz_diff.specs.States.{MeanAll, polynomials}
use Rattle.dz_diff.specs.Tests.{Polynomials}
use Rattle.dz_diff.proofs.KeptStates.{kept_polynomials}
use Rattle.dz_move.specs.declared.roots.Members.TheVariants.{Equations}
use Rattle.dz_move.specs.Members.{put_at}
use Rattle.dz_move.proofs.Outcomes.{appended_are, appended_live, mean_on, names_are, names_live, state_is}
use Rattle.dz_move.proofs.forks.factor_drafts.Goals as goal

pub returns-clause-kept : goal.returns-clause-kept
returns-clause-kept c = kept_trans c.args.book.now c.put-2.new.book c.keep.new.self (kept_trans c.args.book.now c.put.new.book c.put-2.new.book c.in_ok-first.ensures.kept c.in_ok-second.ensures.kept) c.in_ok-name.ensures.kept

pub returns-clause-drafts : goal.returns-clause-drafts
returns-clause-drafts c =
    let old = c.args.book.now in
    let mid = c.put.new.book in
    let last = c.put-2.new.book in
    let new = c.keep.new.self in
    let s = c.args.state.now in
    let g = symbols_under old.ranking in
    let stands = c.requires.stands in
    let k1 = c.in_ok-first.ensures.kept in
    let k2 = c.in_ok-second.ensures.kept in
    let k3 = c.in_ok-name.ensures.kept in
    let keeps = kept_trans old last new (kept_trans old mid last k1 k2) k3 in
    let es : MeanAll new c.in_ok-first.first.items (put_equation g c.args.place c.args.quotient.terms (polynomials old s.equations)) =
    mean_on mid new (kept_trans mid last new k2 k3) c.in_ok-first.first.items _ (subst (λ (ps : List ℕ). MeanAll mid c.in_ok-first.first.items (put_at g Equations c.args.place c.args.quotient.terms (polynomials old ps))) c.equations.ensures.items c.in_ok-first.ensures.put) in
    let es2 : MeanAll new c.in_ok-second.second.items (put_equation g c.args.place c.args.factor.terms (polynomials old s.equations)) =
    mean_on last new k3 c.in_ok-second.second.items _
    (subst (λ (qs : Polynomials). MeanAll last c.in_ok-second.second.items (put_at g Equations c.args.place c.args.factor.terms qs)) (kept_polynomials old mid k1 s.equations stands.equations_live)
    (subst (λ r. MeanAll last c.in_ok-second.second.items (put_at (symbols_under r) Equations c.args.place c.args.factor.terms (polynomials mid s.equations))) k1.ranking
    (subst (λ (ps : List ℕ). MeanAll last c.in_ok-second.second.items (put_at (symbols_under mid.ranking) Equations c.args.place c.args.factor.terms (polynomials mid ps))) c.equations-2.ensures.items c.in_ok-second.ensures.put))) in
    let hs = c.in_ok-appended.ensures ∙ ap (λ (ps : List ℕ). ps ++ c.in_ok-name.name ∷ []) c.inequations.ensures.items in
    let hs2 = c.in_ok-names.ensures ∙ c.inequations-2.ensures.items in
    let n1 : c.splits.result + 1 ≡ suc s.splits = omega (arith, c.splits.ensures) in
    let n2 : c.splits-2.result + 1 ≡ suc s.splits = omega (arith, c.splits-2.ensures) in
    let first = state_is new c.in_ok-first.first.items c.in_ok-appended.field-0.items _ _ (c.splits.result + 1) (suc s.splits) es.are
    (appended_are old new keeps s.inequations c.in_ok-appended.field-0.items c.in_ok-name.name c.args.symbol.terms stands.inequations_live c.in_ok-name.ensures.ok hs) n1 in
    let second = state_is new c.in_ok-second.second.items c.in_ok-names.field-0.items _ _ (c.splits-2.result + 1) (suc s.splits) es2.are
    (names_are old new keeps s.inequations c.in_ok-names.field-0.items stands.inequations_live hs2) n2 in
    record {
      are = ap₂ (λ (t u : State). t ∷ u ∷ []) first second;
      stand = (
        record { equations_live = es.live; inequations_live = appended_live old new keeps s.inequations c.in_ok-appended.field-0.items c.in_ok-name.name c.args.symbol.terms stands.inequations_live c.in_ok-name.ensures.ok hs },
        record { equations_live = es2.live; inequations_live = names_live old new keeps s.inequations c.in_ok-names.field-0.items stands.inequations_live hs2 },
      );
    }
