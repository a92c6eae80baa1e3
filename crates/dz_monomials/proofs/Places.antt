-- A degree put in its place.
use Rattle.std.proofs.Common.{◌≡◌, ◌<◌, ◌≤◌, ◌∙◌, ℕ, zero, suc, max, [], ◌∷◌, ◌++◌, length, take, drop, get_or, set, refl, sym, ap, arith}
use Rattle.std.specs.declared.cmp.Ordering.{Ordering}
use Rattle.std.specs.declared.cmp.Ordering.TheVariants.{Equal, Greater}
use Rattle.std.specs.Ordering.{match_ordering}
use Rattle.std.specs.List.{insert}
use Rattle.dz_algebra.specs.Gather.{put}
use Rattle.dz_algebra.specs.Monomial.{Monomial}

module _ {S : Type 0} (cmp : S → S → Ordering) where
  abbrev step : S → ℕ → S × ℕ → Monomial S → Ordering → Monomial S
  step s e t ts o = match_ordering o (t ∷ put cmp max s e ts) ((t.0, max e t.1) ∷ ts) ((s, e) ∷ t ∷ ts)

  pub there : (s : S) (e : ℕ) (d d' : S × ℕ) (i : ℕ) (xs : Monomial S) → i < length xs → Equal ≡ cmp s (get_or xs i d').0 → put cmp max s e xs ≡ take i xs ++ put cmp max s e (drop i xs) → put cmp max s e xs ≡ set xs i ((get_or xs i d).0, max e (get_or xs i d).1)
  there s e d d' i xs h g w = w ∙ at i xs h g
    where
      at : (i : ℕ) (xs : Monomial S) → i < length xs → Equal ≡ cmp s (get_or xs i d').0 → take i xs ++ put cmp max s e (drop i xs) ≡ set xs i ((get_or xs i d).0, max e (get_or xs i d).1)
      at i [] h g = absurd (omega arith)
      at zero (y ∷ ys) h g = ap (step s e y ys) (sym g)
      at (suc i) (y ∷ ys) h g = ap (λ l. y ∷ l) (at i ys (omega arith) g)

  pub missing : (s : S) (e : ℕ) (x : S × ℕ) (i : ℕ) (xs : Monomial S) → i < length xs → x ≡ get_or xs i x → cmp s x.0 ≡ Greater → put cmp max s e xs ≡ take i xs ++ put cmp max s e (drop i xs) → put cmp max s e xs ≡ insert xs i (s, e)
  missing s e x i xs h f g w = w ∙ at i xs h f
    where
      at : (i : ℕ) (xs : Monomial S) → i < length xs → x ≡ get_or xs i x → take i xs ++ put cmp max s e (drop i xs) ≡ take i xs ++ (s, e) ∷ drop i xs
      at i [] h f = absurd (omega arith)
      at zero (y ∷ ys) h f = ap (step s e y ys) (ap (λ z. cmp s z.0) (sym f) ∙ g)
      at (suc i) (y ∷ ys) h f = ap (λ l. y ∷ l) (at i ys (omega arith) f)

  pub last : (s : S) (e : ℕ) (i : ℕ) (xs : Monomial S) → length xs ≤ i → put cmp max s e xs ≡ take i xs ++ put cmp max s e (drop i xs) → put cmp max s e xs ≡ insert xs i (s, e)
  last s e i xs h w = w ∙ at i xs h
    where
      at : (i : ℕ) (xs : Monomial S) → length xs ≤ i → take i xs ++ put cmp max s e (drop i xs) ≡ take i xs ++ (s, e) ∷ drop i xs
      at zero [] h = refl
      at (suc i) [] h = refl
      at zero (y ∷ ys) h = absurd (omega arith)
      at (suc i) (y ∷ ys) h = ap (λ l. y ∷ l) (at i ys (omega arith))
