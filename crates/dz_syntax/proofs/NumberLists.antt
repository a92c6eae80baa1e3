-- Lists of numbers that follow one another.
use Rattle.std.proofs.Common.{◌≡◌, ℕ, suc, ◌+◌, ◌-◌, ◌<◌, List, [], ◌∷◌, ◌++◌, refl, sym, ap, ◌∙◌, append_assoc, arith}
use Rattle.dz_syntax.specs.Blocks.{numbers_from}

-- the first of them
first_number : (n end : ℕ) → n < end → numbers_from n (end - n) ≡ n ∷ numbers_from (n + 1) (end - (n + 1))
first_number n end lt = let e : end - n ≡ suc (end - (n + 1)) = omega arith in let k : n + 1 ≡ suc n = omega arith in rw (e, k) refl

-- one number more before the others
pub one_more : (before after total : List ℕ) (n end : ℕ) → n < end → after ≡ before ++ n ∷ [] → before ++ numbers_from n (end - n) ≡ total
    → after ++ numbers_from (n + 1) (end - (n + 1)) ≡ total
one_more before after total n end lt e so_far =
    rw e (append_assoc before (n ∷ []) (numbers_from (n + 1) (end - (n + 1))) ∙ ap (λ (l : List ℕ). before ++ l) (sym (first_number n end lt)) ∙ so_far)
