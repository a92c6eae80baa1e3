-- The steps of a run, one by one.
use Rattle.std.proofs.Common.{◌≡◌, ◌<◌, ◌+◌, ◌∙◌, ℕ, Bool, true, false, ◌&&◌, List, ◌∷◌, drop, length, ap, sym, Some}
use Rattle.std.specs.List.{list_all}
use Rattle.std.specs.Prelude.{slice_get}
use Rattle.std.proofs.lemmas.List.{drop_more}
use Rattle.std.proofs.lemmas.Option.{get_or_from_slice_get}
use Rattle.dz_step.specs.declared.Step.{Step}

-- a step with those behind it
pub at_step : (steps : List Step) (i : ℕ) (st : Step) → slice_get steps i ≡ Some st → i < length steps → drop i steps ≡ st ∷ drop (i + 1) steps
at_step steps i st there inside = drop_more steps i st inside ∙ ap (λ t. t ∷ drop (i + 1) steps) (get_or_from_slice_get steps i st st there)

module _ (test : Step → Bool) (steps : List Step) (i : ℕ) (st : Step) (there : slice_get steps i ≡ Some st) (inside : i < length steps) (same : list_all test (drop i steps) ≡ list_all test steps) where
  -- a step that fails a test of all
  pub one_fails : test st ≡ false → false ≡ list_all test steps
  one_fails e = sym (ap (λ b. b && list_all test (drop (i + 1) steps)) e) ∙ sym (ap (list_all test) (at_step steps i st there inside)) ∙ same

  -- a step that passes it
  pub one_passes : test st ≡ true → list_all test (drop (i + 1) steps) ≡ list_all test steps
  one_passes e = sym (ap (λ b. b && list_all test (drop (i + 1) steps)) e) ∙ sym (ap (list_all test) (at_step steps i st there inside)) ∙ same
