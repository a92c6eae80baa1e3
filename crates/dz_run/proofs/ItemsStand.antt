-- The polynomials of a text may stand in a book.
use Rattle.std.proofs.Common.{◌≡◌, List, [], ◌∷◌, ◌+◌, ℕ, All, Option, Some, None, Result, Ok, Err, ap, refl, subst, sym, ◌∙◌}
use Rattle.std.proofs.lemmas.List.Elements.{All-head, All-tail}
use Rattle.dz_algebra.specs.Polynomial.{Polynomial}
use Rattle.dz_algebra.specs.Size.{Refusal, wide, large}
use Rattle.dz_algebra.specs.declared.Limit.{Limit}
use Rattle.dz_algebra.specs.Outcome.{◌>>=◌}
use Rattle.dz_form.specs.Values.{item_answer}
use Rattle.dz_form.proofs.ItemValues.{item_keepable}
use Rattle.dz_monomials.specs.Lists.{AllOf}
use Rattle.dz_diff.specs.Tests.{Polynomials}
use Rattle.dz_rank.specs.Rankings.{RankingValue}
use Rattle.dz_rank.specs.declared.symbols.Symbol.{Symbol}
use Rattle.dz_syntax.specs.declared.expression.Op.{Op}
use Rattle.dz_syntax.specs.Postfix.{IsExpression}
use Rattle.dz_syntax.specs.Systems.{HasExpressions, Tree as Text}
use Rattle.dz_algebra.proofs.Outcomes.{bind_ok}
use Rattle.dz_monomials.specs.Keeping.{IsKeepable}
use Rattle.dz_monomials.specs.Ranked.{symbols_under}
use Rattle.dz_move.specs.Root.{System}
use Rattle.dz_move.specs.Standing.{MayStand}
use Rattle.dz_move.specs.Systems.{system_limit}
use Rattle.dz_run.specs.declared.system.Group.{Group}
use Rattle.dz_run.specs.declared.system.Group.TheVariants.{Equation, Inequation, Question}
use Rattle.dz_run.specs.declared.system.Refused.{Refused}
use Rattle.dz_run.specs.System.{before as before_values, items_answer, numbered, or_limit, questions_answer, ranking_of, system_answer, within_limits}

-- ---- the values of the items
-- the value of an item among those of its group is its value
numbered_ok : (group : Group) (n : ℕ) (r : Result (Polynomial Symbol) Refusal) (p : Polynomial Symbol) → numbered group n r ≡ Ok p → r ≡ Ok p
numbered_ok group n (Ok q) p e = cc
numbered_ok group n (Err wide) p e = absurd cc
numbered_ok group n (Err (large limit)) p e = absurd cc

-- values with one before them are values with one before them
before_ok : (p : Polynomial Symbol) (r : Result Polynomials Refused) (ps : Polynomials) → before_values p r ≡ Ok ps → (qs : Polynomials) × (r ≡ Ok qs) × (p ∷ qs ≡ ps)
before_ok p (Ok qs) ps e = (qs, refl, cc)
before_ok p (Err h) ps e = absurd cc

-- a system within the limits has the values as its members, and passes no limit
limits_ok : (es hs : Polynomials) (s : System) → within_limits es hs ≡ Ok s → (es ≡ s.equations) × (hs ≡ s.inequations) × (system_limit s ≡ None)
limits_ok es hs s e = by_limit (system_limit (record { equations = es; inequations = hs })) refl e
  where
    by_limit : (limit : Option Limit) → system_limit (record { equations = es; inequations = hs }) ≡ limit → or_limit (record { equations = es; inequations = hs }) limit ≡ Ok s → (es ≡ s.equations) × (hs ≡ s.inequations) × (system_limit s ≡ None)
    by_limit None f k =
        let equal : record { equations = es; inequations = hs } ≡ s = cc in
        (ap (λ x. x.equations) equal, ap (λ x. x.inequations) equal, ap system_limit (sym equal) ∙ f)
    by_limit (Some limit) f k = absurd cc

-- the values of items may stand in a book
pub items_stand : (r : RankingValue) (group : Group) (n : ℕ) (items : List (List Op)) (ps : Polynomials) → All (λ item. IsExpression r.signature item) items → items_answer (symbols_under r) group n items ≡ Ok ps → AllOf (IsKeepable r) ps
items_stand r group n [] ps h e = let equal : [] ≡ ps = cc in subst (λ x. AllOf (IsKeepable r) x) equal tt
items_stand r group n (steps ∷ items) ps h e =
    let first = bind_ok (numbered group (n + 1) (item_answer (symbols_under r) steps)) (λ p. before_values p (items_answer (symbols_under r) group (n + 1) items)) ps e in
    let rest = before_ok first.0 (items_answer (symbols_under r) group (n + 1) items) ps first.2 in
    let kept = item_keepable r steps first.0 (All-head (λ item. IsExpression r.signature item) steps items h) (numbered_ok group (n + 1) (item_answer (symbols_under r) steps) first.0 first.1) in
    subst (λ x. AllOf (IsKeepable r) x) rest.2 (kept, items_stand r group (n + 1) items rest.0 (All-tail (λ item. IsExpression r.signature item) steps items h) rest.1)

-- so may the members of a system of a text, which is within the limits
pub system_stands : (text : Text) (s : System) → HasExpressions text → system_answer text ≡ Ok s → MayStand (ranking_of text) s.equations s.inequations × (system_limit s ≡ None)
unfolding system_answer
system_stands text s has e =
    let g = symbols_under (ranking_of text) in
    let first = bind_ok (items_answer g Equation 0 text.equations) (λ es. items_answer g Inequation 0 text.inequations >>= λ hs. within_limits es hs) s e in
    let second = bind_ok (items_answer g Inequation 0 text.inequations) (λ hs. within_limits first.0 hs) s first.2 in
    let members = limits_ok first.0 second.0 s second.2 in (
      record {
        equations_keepable = subst (λ x. AllOf (IsKeepable (ranking_of text)) x) members.0 (items_stand (ranking_of text) Equation 0 text.equations first.0 has.equations first.1);
        inequations_keepable = subst (λ x. AllOf (IsKeepable (ranking_of text)) x) members.1 (items_stand (ranking_of text) Inequation 0 text.inequations second.0 has.inequations second.1);
      },
      members.2,
    )

-- so may its questions
pub questions_stand : (text : Text) (fs : Polynomials) → HasExpressions text → questions_answer text ≡ Ok fs → AllOf (IsKeepable (ranking_of text)) fs
unfolding questions_answer
questions_stand text fs has e = items_stand (ranking_of text) Question 0 text.questions fs has.questions e
