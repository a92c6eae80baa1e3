-- The steps of an item, folded from left to right.
use Rattle.std.proofs.Common.{◌≡◌, ◌<◌, ◌≤◌, ◌∙◌, sym, ap, subst, ℕ, suc, ◌+◌, List, [], ◌∷◌, length, drop, Result, Ok, Err, Some, arith, inl, inr}
use Rattle.std.specs.Prelude.{slice_index_or}
use Rattle.std.proofs.lemmas.List.{drop_all, drop_more}
use Rattle.dz_algebra.specs.Polynomial.{Polynomial}
use Rattle.dz_algebra.specs.Size.{Refusal}
use Rattle.dz_algebra.specs.Symbols.{Symbols}
use Rattle.dz_rank.specs.declared.symbols.Symbol as rank
use Rattle.dz_monomials.specs.Stops.{IsStop}
use Rattle.dz_monomials.specs.declared.PolyStop.{PolyStop}
use Rattle.dz_syntax.specs.declared.expression.Op.{Op}
use Rattle.dz_syntax.specs.Postfix.{values_after}
use Rattle.dz_algebra.specs.Outcome.{◌>>=◌}
use Rattle.dz_form.specs.Values.{Polynomials, item_answer, latest, step_answer, steps_answer}

module _ (g : Symbols rank.Symbol) where
  -- a refusal comes before the steps that follow
  refused_on : (stop : PolyStop) (f : Polynomials → Result Polynomials Refusal) (r : Result Polynomials Refusal) → IsStop stop r → IsStop stop (r >>= f)
  refused_on stop f (Ok values) (inl m) = inl m
  refused_on stop f (Ok values) (inr m) = absurd cc
  refused_on stop f (Err e) m = m

  -- and is the item's
  refused_item : (stop : PolyStop) (r : Result Polynomials Refusal) → IsStop stop r → IsStop stop (r >>= λ values. Ok (latest values))
  refused_item stop (Ok values) (inl m) = inl m
  refused_item stop (Ok values) (inr m) = absurd cc
  refused_item stop (Err e) m = m

  module _ (all items : List Op) (i : ℕ) (values : Polynomials) (count : values_after (length values) (drop i items) ≡ Some 1) (whole : steps_answer g (drop i items) values ≡ steps_answer g all []) where
    module _ (d : Op) (more : i < length items) where
      -- the next step
      abbrev next : Op
      next = slice_index_or items i d

      -- and those behind it
      split : drop i items ≡ next ∷ drop (i + 1) items
      split = drop_more items i d more

      -- what they answer together
      whole_next : steps_answer g (next ∷ drop (i + 1) items) values ≡ steps_answer g all []
      whole_next = sym (ap (λ steps. steps_answer g steps values) split) ∙ whole

      -- a step is refused
      pub turn_refused : (stop : PolyStop) → IsStop stop (step_answer g next values) → IsStop stop (item_answer g all)
      unfolding item_answer
      turn_refused stop refused = refused_item stop (steps_answer g all []) (subst (IsStop stop) whole_next (refused_on stop (steps_answer g (drop (i + 1) items)) (step_answer g next values) refused))

    -- no step is left: the latest value is the item's
    pub turns_done : length items ≤ i → (q : Polynomial rank.Symbol) (rest : Polynomials) → values ≡ q ∷ rest → item_answer g all ≡ Ok q
    unfolding item_answer
    turns_done none q rest e = at values (subst (λ steps. values_after (length values) steps ≡ Some 1) (drop_all i items none) count) (sym (ap (λ steps. steps_answer g steps values) (drop_all i items none)) ∙ whole) e
      where
        two_left : (n : ℕ) → suc (suc n) ≡ 1 → ⊥
        two_left n f = omega arith

        at : (vs : Polynomials) → values_after (length vs) [] ≡ Some 1 → steps_answer g [] vs ≡ steps_answer g all [] → vs ≡ q ∷ rest → item_answer g all ≡ Ok q
        at [] c w f = absurd cc
        at (p ∷ []) c w f = let same : p ≡ q = cc in ap (λ r. r >>= λ values. Ok (latest values)) (sym w) ∙ ap (λ x. Ok x) same
        at (p ∷ o ∷ vs) c w f = absurd (two_left (length vs) cc)
