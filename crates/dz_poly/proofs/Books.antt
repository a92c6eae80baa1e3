-- Books that only grow.
use Rattle.std.proofs.Common.{◌≡◌, ◌<◌, ◌≤◌, ◌∙◌, sym, ap, ℕ, zero, suc, List, [], ◌∷◌, ◌++◌, length, take, arith, refl}
use Rattle.std.specs.Prelude.{slice_get, slice_index_or, Some, map, ◌+◌}
use Rattle.std.proofs.lemmas.List.{length-append, take_all, take_at}
use Rattle.dz_algebra.specs.Polynomial.{Polynomial}
use Rattle.dz_rank.specs.declared.symbols.Symbol.{Symbol}
use Rattle.dz_rank.specs.Rankings.{RankingValue}
use Rattle.std.specs.Prelude.{All}
use Rattle.std.proofs.lemmas.List.Elements.{All-map, All-weaker}
use Rattle.dz_terms.specs.Entries.{EntryValue}
use Rattle.dz_poly.specs.Books.{BookValue, IsKept, IsBook, Lives, Means, polynomial}
use Rattle.dz_monomials.specs.Keeping.{IsKeepable}
use Rattle.dz_terms.specs.Entries.{IsEntry}

slice_get-append : {X : Type 0} (xs ys : List X) (p : ℕ) → p < length xs → slice_get (xs ++ ys) p ≡ slice_get xs p
slice_get-append [] ys p h = absurd (omega arith)
slice_get-append (x ∷ xs) ys zero h = refl
slice_get-append (x ∷ xs) ys (suc p) h = slice_get-append xs ys p (omega arith)

-- further polynomials behind those of a book
pub IsKept-append : (r : RankingValue) (old more : List (Polynomial Symbol)) → IsKept (record { ranking = r; polynomials = old }) (record { ranking = r; polynomials = old ++ more })
IsKept-append r old more = record { ranking = refl; each = λ p h. slice_get-append old more p h; later = omega (arith, length-append old more); front = take_at old more (length old) refl }

-- what is put behind a list stands at its former length
pub last_get : {X Y : Type 0} (f : X → Y) (xs : List X) (x : X) → slice_get (map f (xs ++ x ∷ [])) (length xs) ≡ Some (f x)
last_get f [] x = refl
last_get f (y ∷ xs) x = last_get f xs x

-- entries make a book
pub book_of : (r : RankingValue) (es : List EntryValue) → All (λ e. IsEntry r e) es → IsBook (record { ranking = r; polynomials = map (λ e. e.terms) es })
book_of r es h = record { each = All-map (IsKeepable r) (λ e. e.terms) es (All-weaker (λ e. IsEntry r e) (λ e. IsKeepable r e.terms) (λ e g. g.keepable) es h) }

-- what two calls in a row keep
pub kept_trans : (a b c : BookValue) → IsKept a b → IsKept b c → IsKept a c
kept_trans a b c h g = record {
  ranking = g.ranking ∙ h.ranking;
  each = λ p l. g.each p (let m = h.later in omega arith) ∙ h.each p l;
  later = let m = h.later in let n = g.later in omega arith;
  front = sym (shorter (length a.polynomials) (length b.polynomials) c.polynomials h.later) ∙ ap (take (length a.polynomials)) g.front ∙ h.front;
}
  where
    shorter : {X : Type 0} (m n : ℕ) (xs : List X) → m ≤ n → take m (take n xs) ≡ take m xs
    shorter zero n xs l = refl
    shorter (suc m) zero xs l = absurd (omega arith)
    shorter (suc m) (suc n) [] l = refl
    shorter (suc m) (suc n) (x ∷ xs) l = ap (λ ys. x ∷ ys) (shorter m n xs (omega arith))

-- a polynomial that lives goes on living
pub lives_on : (a b : BookValue) (p : ℕ) → IsKept a b → p < length a.polynomials → p < length b.polynomials
lives_on a b p h l = let m = h.later in omega arith

-- what a number means lives
pub means_lives : (book : BookValue) (p : ℕ) (q : Polynomial Symbol) → Means book p q → Lives book p
means_lives book p q e = lives book.polynomials p e
  where
    lives : (xs : List (Polynomial Symbol)) (k : ℕ) → slice_get xs k ≡ Some q → k < length xs
    lives [] k e = absurd cc
    lives (x ∷ xs) zero e = omega arith
    lives (x ∷ xs) (suc k) e = let h = lives xs k e in omega arith

-- the polynomial that a number means
pub means_polynomial : (book : BookValue) (p : ℕ) (q : Polynomial Symbol) → Means book p q → polynomial book p ≡ q
means_polynomial book p q e = meant book.polynomials p e
  where
    meant : (xs : List (Polynomial Symbol)) (k : ℕ) → slice_get xs k ≡ Some q → slice_index_or xs k [] ≡ q
    meant [] k e = absurd cc
    meant (x ∷ xs) zero e = cc
    meant (x ∷ xs) (suc k) e = meant xs k e

-- a polynomial that was there before is the same
pub kept_polynomial : (old new : BookValue) (p : ℕ) → IsKept old new → Lives old p → polynomial new p ≡ polynomial old p
kept_polynomial old new p kept inside = same new.polynomials old.polynomials p (kept.each p inside)
  where
    same : (xs ys : List (Polynomial Symbol)) (k : ℕ) → slice_get xs k ≡ slice_get ys k → slice_index_or xs k [] ≡ slice_index_or ys k []
    same [] [] k e = refl
    same [] (y ∷ ys) zero e = absurd cc
    same [] (y ∷ ys) (suc k) e = same [] ys k e
    same (x ∷ xs) [] zero e = absurd cc
    same (x ∷ xs) [] (suc k) e = same xs [] k e
    same (x ∷ xs) (y ∷ ys) zero e = cc
    same (x ∷ xs) (y ∷ ys) (suc k) e = same xs ys k e

-- a book keeps itself
pub kept_itself : (book : BookValue) → IsKept book book
kept_itself book = record { ranking = refl; each = λ p inside. refl; later = omega arith; front = take_all (length book.polynomials) book.polynomials (omega arith) }
