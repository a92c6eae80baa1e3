-- What is answered is a row for the inequation.
use Rattle.std.specs.Prelude.{IfOk, slice_index_or}
use Rattle.std.proofs.Common.{◌≡◌, ◌<◌, ◌∙◌, ℕ, zero, suc, List, [], ◌∷◌, length, sym, ap, subst, arith, Result, Ok, Err, None}
use Rattle.dz_rank.specs.Rankings.{ranking_cmp}
use Rattle.dz_monomials.specs.Ranked.{symbols_under}
use Rattle.dz_poly.specs.Books.{BookValue, IsBook, Lives, polynomial}
use Rattle.dz_diff.specs.States.{LiveAll, polynomials}
use Rattle.dz_ask.proofs.HeldPreparations.{book_over, list_over}
use Rattle.dz_regular.specs.Answers.{IsRegularityIn, components_in}
use Rattle.dz_regular.specs.Identities.{IsRowFor}
use Rattle.dz_regular.specs.Runs.{greatest_leader, regularity_run}
use Rattle.dz_regular.specs.declared.answers.Regularity.{Regularity}
use Rattle.dz_regular.specs.declared.answers.RegularStop.{RegularStop}
use Rattle.dz_regular.proofs.RunRows.{row_at_end}

-- what the number at a place means
place_means : (book : BookValue) (ps : List ℕ) (i h : ℕ) → i < length ps → h ≡ slice_index_or ps i h → polynomial book h ≡ slice_index_or (polynomials book ps) i []
place_means book [] i h l e = absurd (omega (arith, l))
place_means book (p ∷ ps) zero h l e = ap (polynomial book) e
place_means book (p ∷ ps) (suc i) h l e = place_means book ps i h (omega (arith, l)) e

module _ (book new : BookValue) (is_book : IsBook book) (equations inequations es hs : List ℕ) (equations_live : LiveAll book equations) (inequations_live : LiveAll book inequations) (same_es : es ≡ equations) (same_hs : hs ≡ inequations)
    (i budget h : ℕ) (inside : i < length inequations) (there : h ≡ slice_index_or hs i h) where
  -- it lives
  lives : Lives book h
  lives = subst (Lives book) (sym (there ∙ ap (λ l. slice_index_or l i h) same_hs)) (inequations_live i h inside)

  -- it is the inequation there
  is_there : polynomial book h ≡ slice_index_or (polynomials book inequations) i []
  is_there = place_means book inequations i h inside (there ∙ ap (λ l. slice_index_or l i h) same_hs)

  -- the end of its run
  at_end : (x : Regularity) → IsRegularityIn new (regularity_run (symbols_under book.ranking) (polynomials book es) budget (polynomial book h)) x
      → IsRowFor (ranking_cmp book.ranking) (polynomials book equations) (polynomial book h) (components_in new x.row)
      × (greatest_leader (symbols_under book.ranking) (polynomials book equations) (polynomial new x.row.rest) ≡ None)
  at_end x k =
      let run = sym (ap (λ l. regularity_run (symbols_under book.ranking) (polynomials book l) budget (polynomial book h)) same_es) ∙ k.is_one in
      row_at_end book.ranking (polynomials book equations) (polynomial book h) budget x.run.items (record { number = k.number; components = components_in new x.row }) (list_over book equations is_book equations_live) (book_over book h is_book lives) run

  pub answer_row : (answer : Result Regularity RegularStop) → IfOk answer (λ y. IsRegularityIn new (regularity_run (symbols_under book.ranking) (polynomials book es) budget (polynomial book h)) y)
      → IfOk answer (λ x. IsRowFor (ranking_cmp book.ranking) (polynomials book equations) (slice_index_or (polynomials book inequations) i []) (components_in new x.row))
  answer_row (Ok x) k = subst (λ p. IsRowFor (ranking_cmp book.ranking) (polynomials book equations) p (components_in new x.row)) is_there (at_end x k).0
  answer_row (Err e) k = tt

  pub answer_no_leader : (answer : Result Regularity RegularStop) → IfOk answer (λ y. IsRegularityIn new (regularity_run (symbols_under book.ranking) (polynomials book es) budget (polynomial book h)) y)
      → IfOk answer (λ x. greatest_leader (symbols_under book.ranking) (polynomials book equations) (polynomial new x.row.rest) ≡ None)
  answer_no_leader (Ok x) k = (at_end x k).1
  answer_no_leader (Err e) k = tt
