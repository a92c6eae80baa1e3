-- Rows that are put into a book.
use Rattle.std.specs.Prelude.{slice_index_or}
use Rattle.std.proofs.Common.{◌≡◌, ◌≤◌, ◌-◌, ◌∙◌, ℕ, List, [], ◌∷◌, length, take, drop, refl, sym, ap, ap₂, subst, arith}
use Rattle.std.proofs.lemmas.List.Elements.{All-drop, All-take}
use Rattle.dz_algebra.specs.Polynomial.{Polynomial}
use Rattle.dz_rank.specs.Rankings.{RankingValue}
use Rattle.dz_rank.specs.declared.symbols.Symbol.{Symbol}
use Rattle.dz_terms.specs.Entries.{EntryValue, IsEntry}
use Rattle.dz_poly.specs.Books.{BookValue, IsKept, Lives, Means, polynomial}
use Rattle.dz_poly.proofs.Books.{kept_polynomial, lives_on, means_lives, means_polynomial}
use Rattle.dz_diff.specs.States.{MeanAll, polynomials}
use Rattle.dz_ask.proofs.ListPasses.{take_rest}
use Rattle.dz_regular.specs.Working.{AreEntries, polynomials_of}

-- the parts are entries under the same ranking
pub parts_entries : (r s : RankingValue) (es : List EntryValue) → AreEntries r es → s ≡ r → AreEntries s (take (length es - 2) (drop 2 es))
parts_entries r s es h e =
    subst (λ (r : RankingValue). AreEntries r (take (length es - 2) (drop 2 es))) (sym e)
    (All-take (IsEntry r) (length es - 2) (drop 2 es) (All-drop (IsEntry r) 2 es h))

-- the components are the first two and the parts
split : (es : List EntryValue) → 2 ≤ length es → (a b : EntryValue) → polynomials_of es ≡ (slice_index_or es 0 a).terms ∷ (slice_index_or es 1 b).terms ∷ polynomials_of (drop 2 es)
split [] h a b = absurd (omega (arith, h))
split (x ∷ []) h a b = absurd (omega (arith, h))
split (x ∷ y ∷ es) h a b = refl

module _ (first second third : BookValue) (to_second : IsKept first second) (to_third : IsKept second third) (rest cofactor : ℕ) (x y : Polynomial Symbol) (of_rest : Means first rest x) (of_cofactor : Means second cofactor y) where
  -- the rest and the cofactor live on
  pub rest_lives : Lives third rest
  rest_lives = lives_on second third rest to_third (lives_on first second rest to_second (means_lives first rest x of_rest))

  pub cofactor_lives : Lives third cofactor
  cofactor_lives = lives_on second third cofactor to_third (means_lives second cofactor y of_cofactor)

  -- and are as before
  rest_is : polynomial third rest ≡ x
  rest_is =
      kept_polynomial second third rest to_third (lives_on first second rest to_second (means_lives first rest x of_rest))
      ∙ kept_polynomial first second rest to_second (means_lives first rest x of_rest) ∙ means_polynomial first rest x of_rest

  cofactor_is : polynomial third cofactor ≡ y
  cofactor_is = kept_polynomial second third cofactor to_third (means_lives second cofactor y of_cofactor) ∙ means_polynomial second cofactor y of_cofactor

  -- all components are those of the entries
  pub components_are : (es : List EntryValue) (a b : EntryValue) (parts : List ℕ) → 2 ≤ length es → a ≡ slice_index_or es 0 a → b ≡ slice_index_or es 1 b → x ≡ a.terms → y ≡ b.terms
      → MeanAll third parts (polynomials_of (take (length es - 2) (drop 2 es))) → polynomial third rest ∷ polynomial third cofactor ∷ polynomials third parts ≡ polynomials_of es
  components_are es a b parts h of_a of_b of_x of_y means =
      ap₂ (λ p q. p ∷ q ∷ polynomials third parts) (rest_is ∙ of_x ∙ ap (λ (e : EntryValue). e.terms) of_a) (cofactor_is ∙ of_y ∙ ap (λ (e : EntryValue). e.terms) of_b)
      ∙ ap (λ l. (slice_index_or es 0 a).terms ∷ (slice_index_or es 1 b).terms ∷ l) (means.are ∙ ap polynomials_of (take_rest es 2))
      ∙ sym (split es h a b)
