-- The polynomials of equations in a book, one after another.
use Rattle.std.proofs.Common.{◌<◌, ◌+◌, ◌∙◌, ◌++◌, sym, subst, ap, ap₂, ℕ, List, [], ◌∷◌, length, map, take}
use Rattle.std.specs.Prelude.{slice_index_or}
use Rattle.std.proofs.lemmas.List.{map-append, take_more}
use Rattle.std.proofs.lemmas.List.Elements.{All-push}
use Rattle.dz_algebra.specs.Polynomial.{Polynomial}
use Rattle.dz_diff.specs.States.{MeanAll}
use Rattle.dz_diff.specs.Tests.{Polynomials}
use Rattle.dz_diff.proofs.KeptStates.{kept_polynomials, live_on}
use Rattle.dz_poly.proofs.Books.{means_lives, means_polynomial}
use Rattle.dz_poly.specs.Books.{BookValue, IsKept, Lives, Means, polynomial}
use Rattle.dz_rank.specs.Rankings.{RankingValue, ranking_cmp}
use Rattle.dz_rank.specs.declared.symbols.Symbol.{Symbol}
use Rattle.dz_sample.specs.Equations.{equation_polynomial}
use Rattle.dz_sample.specs.declared.equations.SampleEquation.{SampleEquation}

-- one polynomial more, of the next equation
pub mean_more : (old now made : BookValue) (es : List SampleEquation) (i : ℕ) (d : SampleEquation) (ps : List ℕ) (p : ℕ) → i < length es → IsKept old now → IsKept now made
    → MeanAll now ps (map (equation_polynomial (ranking_cmp old.ranking)) (take i es)) → Means made p (equation_polynomial (ranking_cmp now.ranking) (slice_index_or es i d))
    → MeanAll made (ps ++ p ∷ []) (map (equation_polynomial (ranking_cmp old.ranking)) (take (i + 1) es))
mean_more old now made es i d ps p inside older kept mean means =
    let f = equation_polynomial (ranking_cmp old.ranking) in
    let e = slice_index_or es i d in
    let is : Means made p (f e) = subst (λ (r : RankingValue). Means made p (equation_polynomial (ranking_cmp r) e)) older.ranking means in
    record {
      live = All-push (λ p. Lives made p) ps p (live_on now made kept ps mean.live) (means_lives made p (f e) is);
      are =
          map-append (λ p. polynomial made p) ps (p ∷ [])
          ∙ ap₂ (λ (qs : Polynomials) (q : Polynomial Symbol). qs ++ q ∷ []) (kept_polynomials now made kept ps mean.live ∙ mean.are) (means_polynomial made p (f e) is)
          ∙ sym (map-append f (take i es) (e ∷ []))
          ∙ ap (map f) (sym (take_more es i d inside));
    }
