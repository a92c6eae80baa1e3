-- The next turn is found by one pass over the terms.
use Rattle.std.specs.Prelude.{slice_index_or}
use Rattle.std.proofs.Common.{◌≡◌, ◌<◌, ◌≤◌, ◌+◌, ◌∙◌, ◌++◌, ℕ, List, [], ◌∷◌, length, drop, take, sym, ap, Some, None, Option}
use Rattle.std.proofs.lemmas.List.{map-append}
use Rattle.dz_diff.specs.Operations.{Setting}
use Rattle.dz_diff.specs.State.{State}
use Rattle.dz_step.specs.declared.Role.TheVariants.{Free}
use Rattle.dz_step.specs.declared.Step.{Step}
use Rattle.dz_step.specs.FullRun.{next_step}
use Rattle.dz_ask.specs.Preparation.{Term}
use Rattle.dz_ask.specs.Turns.{Turn, next_turn, next_turn_after}
use Rattle.dz_ask.specs.Working.{terms_in, turn_by}
use Rattle.dz_ask.specs.declared.working.WorkingTerm.{WorkingTerm}
use Rattle.dz_ask.proofs.ListPasses.{all_dropped, dropped, taken_more}

-- the term of a working term
abbrev in_term : WorkingTerm → Term
in_term t = (t.product.items, t.coefficient.terms)

module _ (g : Setting) (s : State) (ts : List WorkingTerm) (i : ℕ) (so_far : next_turn g s (terms_in ts) ≡ next_turn_after g s (terms_in (take i ts)) (terms_in (drop i ts))) where
  module _ (t : WorkingTerm) (h : i < length ts) (e : t ≡ slice_index_or ts i t) where
    -- the terms behind this one
    abbrev rest : List Term
    rest = terms_in (drop (i + 1) ts)

    -- the turn is here or behind, as the coefficient says
    chosen : (o : Option Step) → next_step g s Free t.coefficient.terms ≡ o
        → next_turn g s (terms_in ts) ≡ elim o as (λ _. Option Turn) [ Some st ↦ Some (turn_by ts i t st) | None ↦ next_turn_after g s (terms_in (take i ts) ++ in_term t ∷ []) rest ]
    chosen o f =
        so_far ∙ ap (λ l. next_turn_after g s (terms_in (take i ts)) (terms_in l)) (dropped ts i t h e)
        ∙ ap (λ o. elim o as (λ _. Option Turn) [ Some st ↦ Some (turn_by ts i t st) | None ↦ next_turn_after g s (terms_in (take i ts) ++ in_term t ∷ []) rest ]) f

    -- the turn is at this term
    pub turn_there : (st : Step) → next_step g s Free t.coefficient.terms ≡ Some st → next_turn g s (terms_in ts) ≡ Some (turn_by ts i t st)
    turn_there st f = chosen (Some st) f

    -- or behind it
    pub turn_behind : next_step g s Free t.coefficient.terms ≡ None → next_turn g s (terms_in ts) ≡ next_turn_after g s (terms_in (take (i + 1) ts)) rest
    turn_behind f = chosen None f ∙ ap (λ l. next_turn_after g s l rest) (sym (ap terms_in (taken_more ts i t h e) ∙ map-append in_term (take i ts) (t ∷ [])))

  -- or nowhere
  pub no_turn_left : length ts ≤ i → next_turn g s (terms_in ts) ≡ None
  no_turn_left h = so_far ∙ ap (λ l. next_turn_after g s (terms_in (take i ts)) (terms_in l)) (all_dropped ts i h)
