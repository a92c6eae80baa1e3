-- The operators in a run, one by one.
use Rattle.std.proofs.Common.{◌≡◌, ◌↔◌, ◌<◌, ◌+◌, ◌∙◌, ℕ, suc, All, List, ◌∷◌, drop, get_or, length, ap₂, subst, sym, arith, Some}
use Rattle.std.specs.Prelude.{slice_get}
use Rattle.std.proofs.Math.Seq.{drop-cons}
use Rattle.std.proofs.lemmas.List.Elements.{All-cons, All-tail}
use Rattle.dz_rank.specs.Symbols.{IsOperatorOf}
use Rattle.dz_step.specs.declared.Step.{Step}
use Rattle.dz_step.specs.StepOperators.{DeriveAlong}
use Rattle.dz_tree.proofs.StepLists.{at_step}

-- a direction without a derivation
pub zero_passed : (P : Type 0) (counts : List ℕ) (k : ℕ) → k < length counts → get_or counts k 0 ≡ 0 → All (λ n. n ≡ 0) (drop k counts) ↔ P → All (λ n. n ≡ 0) (drop (k + 1) counts) ↔ P
zero_passed P counts k inside none same =
    let n : suc k ≡ k + 1 = omega arith in
    let here : drop k counts ≡ 0 ∷ drop (k + 1) counts = drop-cons counts k 0 inside ∙ ap₂ (λ (m : ℕ) (j : ℕ). m ∷ drop j counts) none n in
    let rest = drop (k + 1) counts in
    let zero_here : ◌≡◌ {A = ℕ} 0 0 = omega arith in
    ((λ h. same.0 (subst (All (λ n. n ≡ 0)) (sym here) (All-cons (λ n. n ≡ 0) 0 rest zero_here h))), (λ p. All-tail (λ n. n ≡ 0) 0 rest (subst (All (λ n. n ≡ 0)) here (same.1 p))))

-- a step whose operator belongs to the signature
pub step_passed : (n : ℕ) (P : Type 0) (steps : List Step) (k : ℕ) (st : Step) → slice_get steps k ≡ Some st → k < length steps → IsOperatorOf n st.operator → DeriveAlong n (drop k steps) ↔ P → DeriveAlong n (drop (k + 1) steps) ↔ P
step_passed n P steps k st there inside is_of same =
    let here = at_step steps k st there inside in
    ((λ h. same.0 (subst (DeriveAlong n) (sym here) (is_of, h))), (λ p. (subst (DeriveAlong n) here (same.1 p)).1))
