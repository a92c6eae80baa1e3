-- The loop over the terms of polynomials.
use Rattle.std.proofs.Common.{◌≡◌, ◌<◌, ◌≤◌, ◌+◌, ◌-◌, ◌∙◌, ◌^◌, sym, ap, ℕ, List, drop, length, arith}
use Rattle.std.specs.Prelude.{min}
use Rattle.std.proofs.lemmas.List.{drop_all}
use Rattle.dz_poly.specs.Books.{BookValue}
use Rattle.dz_diff.specs.State.{terms_of}
use Rattle.dz_diff.specs.States.{polynomials}

-- no number is left
pub terms_done : (book : BookValue) (ps : List ℕ) (i terms : ℕ) → length ps ≤ i → terms < 2 ^ 64 → min (terms + terms_of (polynomials book (drop i ps))) (2 ^ 64 - 1) ≡ min (terms_of (polynomials book ps)) (2 ^ 64 - 1)
    → terms ≡ min (terms_of (polynomials book ps)) (2 ^ 64 - 1)
terms_done book ps i terms past fits whole =
    least terms _ fits (sym (ap (λ (qs : List ℕ). min (terms + terms_of (polynomials book qs)) (2 ^ 64 - 1)) (drop_all i ps past)) ∙ whole)
  where
    least : (a b : ℕ) → a < 2 ^ 64 → min (a + 0) (2 ^ 64 - 1) ≡ b → a ≡ b
    least a b h e = omega arith
