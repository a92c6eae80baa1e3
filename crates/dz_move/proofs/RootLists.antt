-- The lists of a root, made one norm after the other.
use Rattle.std.proofs.Common.{◌≡◌, ◌∙◌, sym, ap, ap₂, subst, ℕ, Bool, false, ◌||◌, List, [], ◌∷◌, ◌++◌, if◌then◌else◌}
use Rattle.std.proofs.lemmas.List.{map-append}
use Rattle.std.proofs.lemmas.List.Elements.{All-push}
use Rattle.dz_algebra.specs.Norm.{norm}
use Rattle.dz_algebra.specs.Polynomial.{Polynomial}
use Rattle.dz_algebra.specs.Symbols.{Symbols}
use Rattle.dz_rank.specs.declared.symbols.Symbol.{Symbol}
use Rattle.dz_poly.specs.Books.{BookValue, IsKept, Lives, Means, polynomial}
use Rattle.dz_poly.proofs.Books.{means_lives, means_polynomial}
use Rattle.dz_monomials.specs.Ranked.{symbols_under}
use Rattle.dz_move.specs.Root.{kept_norms}
use Rattle.dz_diff.specs.State.{without_place}
use Rattle.dz_diff.specs.States.{LiveAll, MeanAll, polynomials}
use Rattle.dz_diff.specs.Tests.{Polynomials, is_member}
use Rattle.dz_diff.proofs.KeptStates.{kept_polynomials, live_on}
use Rattle.dz_diff.proofs.MemberTests.{none_left_out}
use Rattle.dz_move.specs.declared.roots.Members.{Members}
use Rattle.dz_move.specs.Members.{is_left_out}

-- another norm comes behind the others
norm_kept : (g : Symbols Symbol) (d : Polynomial Symbol → Bool) (kept : Polynomials) (p : Polynomial Symbol) → (d (norm p) || is_member g (norm p) kept) ≡ false → kept_norms g d kept (p ∷ []) ≡ kept ++ norm p ∷ []
norm_kept g d kept p e = ap (λ b. if b then kept else kept ++ norm p ∷ []) e

module _ (old : BookValue) (members : Members) (p : ℕ) (kept : List ℕ) (live : LiveAll old kept) (n : Polynomial Symbol) (is : n ≡ norm (polynomial old p)) where
  abbrev g : Symbols Symbol
  g = symbols_under old.ranking

  -- what stands in the list
  abbrev there : Polynomials
  there = polynomials old kept

  -- a norm that is not left out and does not stand there comes behind the others, in the book that keeps it
  pub norm_in : (new : BookValue) (q : ℕ) (all : List ℕ) → IsKept old new → Means new q n → false ≡ is_left_out g members n → false ≡ is_member g n (without_place 0 there) → all ≡ kept ++ q ∷ []
      → MeanAll new all (kept_norms g (is_left_out g members) there (polynomial old p ∷ []))
  norm_in new q all keeps means e f is_all = subst (λ xs. MeanAll new xs (kept_norms g (is_left_out g members) there (polynomial old p ∷ []))) (sym is_all) (record {
    live = All-push (λ p. Lives new p) kept q (live_on old new keeps kept live) (means_lives new q n means);
    are = map-append (λ p. polynomial new p) kept (q ∷ []) ∙ ap (λ (qs : Polynomials). qs ++ polynomial new q ∷ []) (kept_polynomials old new keeps kept live)
        ∙ ap (λ (x : Polynomial Symbol). there ++ x ∷ []) (means_polynomial new q n means ∙ is) ∙ sym (norm_kept g (is_left_out g members) there (polynomial old p) other);
  })
    where
      other : (is_left_out g members (norm (polynomial old p)) || is_member g (norm (polynomial old p)) there) ≡ false
      other = ap (λ x. is_left_out g members x || is_member g x there) (sym is) ∙ ap₂ (λ a b. a || b) (sym e) (ap (is_member g n) (none_left_out there) ∙ sym f)
