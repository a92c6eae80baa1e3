-- The order of lists, compared place by place.
use Rattle.std.proofs.Common.{◌≡◌, ◌∙◌, ◌⊎◌, ℕ, zero, suc, ◌≤◌, length, List, [], ◌∷◌, drop, nat_cmp, arith, refl, inl, inr}
use Rattle.std.proofs.lemmas.Bool.Decides.{nat_tests}
use Rattle.std.specs.declared.cmp.Ordering.{Ordering}
use Rattle.std.specs.declared.cmp.Ordering.TheVariants.{Less, Greater}
use Rattle.std.specs.Cmp.Lexicographic.{slice_cmp}

less : (n : ℕ) → ◌≡◌ {A = Ordering} Less (nat_cmp 0 (suc n))
less n = grind (arith, nat_tests)

greater : (n : ℕ) → ◌≡◌ {A = Ordering} Greater (nat_cmp (suc n) 0)
greater n = grind (arith, nat_tests)

sucs : (m n : ℕ) → nat_cmp m n ≡ nat_cmp (suc m) (suc n)
sucs m n = grind (arith, nat_tests)

-- where one list ends, the order of the rests is that of the lengths
pub slice_cmp-drop : {X : Type 0} (cmp : X → X → Ordering) (i : ℕ) (xs ys : List X) → i ≤ length xs → i ≤ length ys → (length xs ≤ i) ⊎ (length ys ≤ i) → slice_cmp cmp (drop i xs) (drop i ys) ≡ nat_cmp (length xs) (length ys)
slice_cmp-drop cmp zero [] [] p q h = refl
slice_cmp-drop cmp zero [] (y ∷ ys) p q h = less (length ys)
slice_cmp-drop cmp zero (x ∷ xs) [] p q h = greater (length xs)
slice_cmp-drop cmp zero (x ∷ xs) (y ∷ ys) p q (inl h) = absurd (omega arith)
slice_cmp-drop cmp zero (x ∷ xs) (y ∷ ys) p q (inr h) = absurd (omega arith)
slice_cmp-drop cmp (suc i) [] ys p q h = absurd (omega arith)
slice_cmp-drop cmp (suc i) (x ∷ xs) [] p q h = absurd (omega arith)
slice_cmp-drop cmp (suc i) (x ∷ xs) (y ∷ ys) p q (inl h) = slice_cmp-drop cmp i xs ys (omega arith) (omega arith) (inl (omega arith)) ∙ sucs (length xs) (length ys)
slice_cmp-drop cmp (suc i) (x ∷ xs) (y ∷ ys) p q (inr h) = slice_cmp-drop cmp i xs ys (omega arith) (omega arith) (inr (omega arith)) ∙ sucs (length xs) (length ys)
