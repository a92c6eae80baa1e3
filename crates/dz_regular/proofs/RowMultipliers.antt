-- The multipliers of two rows, as they are computed.
use Rattle.std.proofs.Common.{◌≡◌, ◌∙◌, ◌-◌, ℕ, zero, suc, [], ◌∷◌, ℤ, pos, int_div, refl, ap, ap₂}
use Rattle.dz_algebra.specs.Monomial.{with_power}
use Rattle.dz_algebra.specs.Norm.{content, divided, gcd}
use Rattle.dz_algebra.specs.Parts.{degree, initial}
use Rattle.dz_algebra.specs.Polynomial.{Polynomial}
use Rattle.dz_rank.specs.Rankings.{RankingValue, ranking_cmp}
use Rattle.dz_rank.specs.declared.symbols.Symbol.{Symbol}
use Rattle.dz_monomials.specs.Ranked.{symbols_under}
use Rattle.dz_monomials.specs.Terms.{times_power}
use Rattle.dz_step.proofs.StepParts.{common}
use Rattle.dz_regular.specs.Combining.{multipliers_of}

divided_times : (r : RankingValue) (v : Symbol) (n : ℕ) (k : ℤ) (p : Polynomial Symbol) → divided k (times_power (ranking_cmp r) v n p) ≡ times_power (ranking_cmp r) v n (divided k p)
divided_times r v zero k p = refl
divided_times r v (suc n) k [] = refl
divided_times r v (suc n) k (t ∷ p) = ap (λ l. (with_power (ranking_cmp r) v (suc n) t.0, int_div t.1 k) ∷ l) (divided_times r v (suc n) k p)

-- they are those of the definition
pub multipliers_are : (r : RankingValue) (v : Symbol) (f q m top : Polynomial Symbol) (k : ℕ) (first second : Polynomial Symbol)
    → m ≡ initial (ranking_cmp r) v q → top ≡ times_power (ranking_cmp r) v (degree (ranking_cmp r) v f - degree (ranking_cmp r) v q) (initial (ranking_cmp r) v f)
    → k ≡ gcd (content m) (content top) → first ≡ divided (pos k) m → second ≡ divided (pos k) top
    → record { first = first; second = second } ≡ multipliers_of (symbols_under r) v f q
multipliers_are r v f q m top k first second of_m of_top of_k of_first of_second =
    let c = initial (ranking_cmp r) v f in
    let n = degree (ranking_cmp r) v f - degree (ranking_cmp r) v q in
    let same : k ≡ gcd (content (initial (ranking_cmp r) v q)) (content c) = common r f q m v (degree (ranking_cmp r) v q) top k of_top of_k ∙ ap (λ x. gcd (content x) (content c)) of_m in
    let left : first ≡ divided (pos (gcd (content (initial (ranking_cmp r) v q)) (content c))) (initial (ranking_cmp r) v q) = of_first ∙ ap₂ (λ x y. divided (pos x) y) same of_m in
    let right : second ≡ times_power (ranking_cmp r) v n (divided (pos (gcd (content (initial (ranking_cmp r) v q)) (content c))) c) =
    of_second ∙ ap (divided (pos k)) of_top ∙ divided_times r v n (pos k) c ∙ ap (λ x. times_power (ranking_cmp r) v n (divided (pos x) c)) same in
    ap₂ (λ a b. record { first = a; second = b }) left right
