-- One turn of the loops over factors and over terms.
use Rattle.std.proofs.Common.{◌≡◌, ℕ, zero, suc, ◌-◌, ◌<◌, Result, Ok, refl, sym, ap, ◌∙◌, arith}
use Rattle.dz_syntax.specs.declared.token.Token.{Token}
use Rattle.dz_syntax.specs.declared.token.Token.TheVariants.{Star, Plus, Minus}
use Rattle.dz_syntax.specs.declared.fault.Fault.{Fault}
use Rattle.dz_syntax.specs.declared.fault.Stop.{Stop}
use Rattle.dz_syntax.specs.declared.fault.Stop.TheVariants as stops
use Rattle.dz_syntax.specs.declared.expression.Op.{Op}
use Rattle.dz_syntax.specs.declared.expression.Op.TheVariants as ops
use Rattle.dz_syntax.specs.Names.{Declared}
use Rattle.dz_syntax.specs.Tokens.{front}
use Rattle.dz_algebra.specs.Outcome.{◌>>=◌}
use Rattle.dz_syntax.specs.Faults.{Fails}
use Rattle.dz_syntax.specs.Expressions.{State, Reader, past, put, power_with, product_with, factors, factors_from, sums, sums_from}

-- with a `*` at the front there is one more factor
pub factors-star : (names : Declared) (inner : Reader) (n : ℕ) (s : State) → 0 < n → front s.text ≡ Star
    → factors names inner n s ≡ (power_with names inner (past s) >>= λ s'. factors names inner (n - 1) (put ops.Mul s'))
unfolding factors
factors-star names inner zero s lt star = absurd (omega arith)
factors-star names inner (suc n) s lt star = let e : suc n - 1 ≡ n = omega arith in rw (star, e) refl

pub factors_more : (names : Declared) (inner : Reader) (n : ℕ) (s s' : State) (total : Result State Fault) → 0 < n → front s.text ≡ Star
    → power_with names inner (past s) ≡ Ok s' → factors names inner n s ≡ total → factors names inner (n - 1) (put ops.Mul s') ≡ total
factors_more names inner n s s' total lt star read so_far =
    sym (factors-star names inner n s lt star ∙ ap (λ r. r >>= λ s'. factors names inner (n - 1) (put ops.Mul s')) read) ∙ so_far

pub factors_fail : (e : Stop) (names : Declared) (inner : Reader) (n : ℕ) (s : State) (total : Result State Fault) → 0 < n → front s.text ≡ Star
    → Fails e (power_with names inner (past s)) → factors names inner n s ≡ total → Fails e total
factors_fail stops.Memory names inner n s total lt star read so_far = tt
factors_fail (stops.Fault f) names inner n s total lt star read so_far =
    sym so_far ∙ factors-star names inner n s lt star ∙ ap (λ r. r >>= λ s'. factors names inner (n - 1) (put ops.Mul s')) read

-- past the sign and its product
abbrev pub next_sum : Declared → Reader → ℕ → Op → State → Result State Fault
next_sum names inner n op s = product_with names inner (past s) >>= λ s'. sums names inner (n - 1) (put op s')

-- the step that a sign stands for
abbrev pub SignOf : Token → Op → Type 0
SignOf Plus op = op ≡ ops.Add
SignOf Minus op = op ≡ ops.Sub
SignOf t op = ⊥

-- with a sign at the front there is one more term
pub sums-sign : (names : Declared) (inner : Reader) (n : ℕ) (s : State) (t : Token) (op : Op) → 0 < n → front s.text ≡ t → SignOf t op
    → sums names inner n s ≡ next_sum names inner n op s
unfolding sums
sums-sign names inner zero s t op lt e sign = absurd (omega arith)
sums-sign names inner (suc n) s Plus op lt e sign = let k : suc n - 1 ≡ n = omega arith in rw (e, k, sign) refl
sums-sign names inner (suc n) s Minus op lt e sign = let k : suc n - 1 ≡ n = omega arith in rw (e, k, sign) refl
sums-sign names inner (suc n) s t op lt e sign = absurd sign

pub sums_more : (names : Declared) (inner : Reader) (n : ℕ) (s s' : State) (t : Token) (op : Op) (total : Result State Fault) → 0 < n → front s.text ≡ t → SignOf t op
    → product_with names inner (past s) ≡ Ok s' → sums names inner n s ≡ total → sums names inner (n - 1) (put op s') ≡ total
sums_more names inner n s s' t op total lt e sign read so_far =
    sym (sums-sign names inner n s t op lt e sign ∙ ap (λ r. r >>= λ s'. sums names inner (n - 1) (put op s')) read) ∙ so_far

pub sums_fail : (stop : Stop) (names : Declared) (inner : Reader) (n : ℕ) (s : State) (t : Token) (op : Op) (total : Result State Fault) → 0 < n → front s.text ≡ t → SignOf t op
    → Fails stop (product_with names inner (past s)) → sums names inner n s ≡ total → Fails stop total
sums_fail stops.Memory names inner n s t op total lt e sign read so_far = tt
sums_fail (stops.Fault f) names inner n s t op total lt e sign read so_far =
    sym so_far ∙ sums-sign names inner n s t op lt e sign ∙ ap (λ r. r >>= λ s'. sums names inner (n - 1) (put op s')) read

factors_from-other : (names : Declared) (more : Reader) (inner : Reader) (s : State) (t : Token) → (t ≡ Star → ⊥) → factors_from names more inner t s ≡ Ok s
factors_from-other names more inner s Star other = absurd (other refl)
factors_from-other names more inner s t other = refl

-- with no `*` at the front there are no more factors
pub factors_end : (names : Declared) (inner : Reader) (n : ℕ) (s : State) (total : Result State Fault) → (front s.text ≡ Star → ⊥) → factors names inner n s ≡ total → total ≡ Ok s
unfolding factors
factors_end names inner zero s total other so_far = sym so_far
factors_end names inner (suc n) s total other so_far = sym so_far ∙ factors_from-other names (λ s. factors names inner n s) inner s (front s.text) other

sums_from-other : (names : Declared) (more : Reader) (inner : Reader) (s : State) (t : Token) → (t ≡ Plus → ⊥) → (t ≡ Minus → ⊥) → sums_from names more inner t s ≡ Ok s
sums_from-other names more inner s Plus plus minus = absurd (plus refl)
sums_from-other names more inner s Minus plus minus = absurd (minus refl)
sums_from-other names more inner s t plus minus = refl

pub sums_end : (names : Declared) (inner : Reader) (n : ℕ) (s : State) (total : Result State Fault) → (front s.text ≡ Plus → ⊥) → (front s.text ≡ Minus → ⊥) → sums names inner n s ≡ total → total ≡ Ok s
unfolding sums
sums_end names inner zero s total plus minus so_far = sym so_far
sums_end names inner (suc n) s total plus minus so_far = sym so_far ∙ sums_from-other names (λ s. sums names inner n s) inner s (front s.text) plus minus
