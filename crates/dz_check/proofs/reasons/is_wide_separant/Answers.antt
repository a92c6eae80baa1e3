use Rattle.std.proofs.Common.{◌≡◌, ◌∙◌, ap, ap₂, sym, subst}
use Rattle.dz_algebra.specs.Parts.{leader}
use Rattle.dz_algebra.specs.Polynomial.{Polynomial}
use Rattle.dz_algebra.specs.Size.{separant_answer}
use Rattle.dz_rank.specs.Rankings.{RankingValue}
use Rattle.dz_rank.specs.declared.symbols.Symbol.{Symbol}
use Rattle.dz_monomials.specs.Stops.{IsStop}
use Rattle.dz_monomials.specs.declared.PolyStop.TheVariants.{Wide, Large}
use Rattle.dz_algebra.specs.Outcome.{numbered, told_as}
use Rattle.dz_move.specs.Fault.{refusal}
use Rattle.dz_check.specs.Reasons.{is_wide, refused_after}
use Rattle.dz_poly.specs.Books.{polynomial}
use Rattle.dz_monomials.specs.Ranked.{symbols_under}
use Rattle.dz_move.proofs.Outcomes.{living_at, nothing_at, polynomial_at}
use Rattle.dz_check.proofs.Refusals.{answer_large, answer_wide, ground_separant, led_separant, no_separant}
use Rattle.dz_check.proofs.reasons.is_wide_separant.Goals.{in-Ok, in-Err-Memory, in-Err-Wide, in-Err-Large}
use Rattle.dz_check.proofs.reasons.is_wide_separant.Goals as goal

pub returns-in_default : goal.returns-in_default
returns-in_default c =
    let book = c.args.book.now in
    no_separant (symbols_under book.ranking) _ (nothing_at book c.args.state.now.equations _ c.args.place _ c.equations.ensures.items c.member_at.ensures c.in_default.is)

pub entry-requires : goal.entry-requires
entry-requires c = living_at c.args.book.now c.args.state.now.equations _ c.args.place _ c.equations.ensures.items c.member_at.ensures c.in-Some.p c.requires.stands.equations_live c.in-Some.is

pub returns-in_default-leader_of : goal.returns-in_default-leader_of
returns-in_default-leader_of c =
    let book = c.args.book.now in
    let there = polynomial_at book c.args.state.now.equations _ c.args.place _ c.equations.ensures.items c.member_at.ensures c.in-Some.p c.in-Some.is in
    ground_separant (symbols_under book.ranking) _ _ there (ap (leader (symbols_under book.ranking)) (sym c.entry.ensures.value) ∙ sym (c.leader_of.ensures book.ranking c.entry.ensures.entry) ∙ c.in_default-leader_of.is)

pub returns : goal.returns
returns c =
    let book = c.args.book.now in
    let there = polynomial_at book c.args.state.now.equations _ c.args.place _ c.equations.ensures.items c.member_at.ensures c.in-Some.p c.in-Some.is in
    let led = led_separant (symbols_under book.ranking) _ _ there c.in-Some-leader_of.lead (ap (leader (symbols_under book.ranking)) (sym c.entry.ensures.value) ∙ sym (c.leader_of.ensures book.ranking c.entry.ensures.entry) ∙ c.in-Some-leader_of.is) in
    let lead = c.in-Some-leader_of.lead in
    let same : separant_answer (symbols_under book.ranking) lead (polynomial book c.in-Some.p) ≡ separant_answer (symbols_under c.ranking.result.now) lead c.entry-2.result.now.terms =
    ap₂ (λ (r : RankingValue) (p : Polynomial Symbol). separant_answer (symbols_under r) lead p) (sym c.ranking.ensures) (sym c.entry-2.ensures.value) in
    elim c.match-multiplier.branch [
      | in-Ok w ↦ rw w.result-is (sym (ap (λ x. refused_after 0 is_wide (numbered 0 (told_as refusal x))) (same ∙ w.in-Ok.ensures.ok)) ∙ led)
      | in-Err-Memory w ↦ rw w.result-is tt
      | in-Err-Wide w ↦ rw w.result-is (answer_wide (separant_answer (symbols_under book.ranking) lead (polynomial book c.in-Some.p)) (subst (IsStop Wide) (sym same) (subst (λ stop. IsStop stop (separant_answer (symbols_under c.ranking.result.now) lead c.entry-2.result.now.terms)) w.in-Err-Wide.field-0-is w.in-Err-Wide.ensures)) ∙ led)
      | in-Err-Large w ↦ rw w.result-is (answer_large w.in-Err-Large.field-0-0 (separant_answer (symbols_under book.ranking) lead (polynomial book c.in-Some.p)) (subst (IsStop (Large w.in-Err-Large.field-0-0)) (sym same) (subst (λ stop. IsStop stop (separant_answer (symbols_under c.ranking.result.now) lead c.entry-2.result.now.terms)) w.in-Err-Large.field-0-is w.in-Err-Large.ensures)) ∙ led)
    ]
